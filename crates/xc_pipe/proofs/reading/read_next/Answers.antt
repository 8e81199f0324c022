use Rattle.std.proofs.Common.{subst}
use Rattle.std.specs.Prelude.{Ok, Result}
use Rattle.xc_host.specs.declared.errors.HostErr.{HostErr}
use Rattle.xc_host.specs.declared.pipes.Took.{Took}
use Rattle.xc_pipe.specs.Taking.{TakesKept}
use Rattle.xc_pipe.proofs.Behind.{read_given_back}
use Rattle.xc_pipe.proofs.reading.read_next.Goals as goal

pub returns-in-Err-clause-kept : goal.returns-in-Err-clause-kept
returns-in-Err-clause-kept g c =
    let old = c.args.kept.now.items in
    let mid = c.take_all.new.kept.items in
    read_given_back old mid c.give_back.new.self.items c.args.pipe c.args.n c.in-Ok-Bytes.bytes
    (subst (λ (f : Took). TakesKept c.args.pipe c.args.n (record { old = old; new = mid }) (Ok f)) c.in-Ok-Bytes.field-0-is c.in-Ok-Bytes.ensures.kept)
    c.give_back.ensures.world
