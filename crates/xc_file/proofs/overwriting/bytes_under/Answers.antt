use Rattle.std.proofs.Common.{length}
use Rattle.xc_file.proofs.FileUses.{looks_found, looks_short, looks_failed}
use Rattle.xc_file.proofs.overwriting.bytes_under.Goals as goal

pub returns-in_err-before-clause-uses : goal.returns-in_err-before-clause-uses
returns-in_err-before-clause-uses g c =
    looks_failed g.H.Host.model c.args.n c.from_residual.result c.args.host.now c.len.new.self c.read_whole.new.host c.from_residual.ensures.0
    c.len.ensures.answered.used c.in_err-before.ensures.uses_err

pub returns-then-len-n-clause-uses : goal.returns-then-len-n-clause-uses
returns-then-len-n-clause-uses g c =
    looks_short g.H.Host.model c.args.n (length c.in_ok-before.before.items) c.in_ok-before.before c.args.host.now c.len.new.self c.read_whole.new.host
    c.len.ensures.answered.used c.in_ok-before.ensures.uses

pub returns-clause-uses : goal.returns-clause-uses
returns-clause-uses g c =
    looks_found g.H.Host.model c.args.n (length c.in_ok-before.before.items) c.in_ok-before.before c.args.host.now c.len.new.self c.read_whole.new.host
    c.len.ensures.answered.used c.in_ok-before.ensures.uses
