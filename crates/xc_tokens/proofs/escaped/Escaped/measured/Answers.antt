use Rattle.std.proofs.Common.{rules}
use Rattle.xc_tokens.specs.Quoted.{literal_of}
use Rattle.xc_tokens.proofs.Quotes.{measured_behind, measured_len, measured_some, unmeasured}
use Rattle.xc_tokens.proofs.escaped.Escaped.measured.Goals as goal

pub returns-in_err-n-clause-none : goal.returns-in_err-n-clause-none
returns-in_err-n-clause-none c = search (rules, unmeasured (literal_of c.args.bytes.now))

pub invariant_of-result : goal.invariant_of-result
invariant_of-result c = measured_some (literal_of c.args.bytes.now) c.in_ok-n.n c.in_ok-n.behind.now (search rules)

pub returns-clause-some : goal.returns-clause-some
returns-clause-some c = measured_behind (literal_of c.args.bytes.now) c.in_ok-n.n c.in_ok-n.behind.now (search rules)

pub returns-clause-len : goal.returns-clause-len
returns-clause-len c = measured_len (literal_of c.args.bytes.now) c.in_ok-n.n c.in_ok-n.behind.now (search rules)
