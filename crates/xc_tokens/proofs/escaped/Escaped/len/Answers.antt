use Rattle.std.proofs.Common.{◌≡◌, None, arith, rules}
use Rattle.xc_tokens.specs.Quoted.{literal_of}
use Rattle.xc_tokens.proofs.Quotes.{measured_len, unmeasured}
use Rattle.xc_tokens.proofs.escaped.Escaped.len.Goals as goal

pub unreachable-requires : goal.unreachable-requires
unreachable-requires c =
    let none : literal_of c.self.inside.bytes.now ≡ None = unmeasured (literal_of c.self.inside.bytes.now) (search rules) in
    search (rules, none)

pub returns-clause-value : goal.returns-clause-value
returns-clause-value c = search (rules, measured_len (literal_of c.self.inside.bytes.now) c.in-Some.n c.in-Some.field-0-1.now)

pub returns-clause-bound : goal.returns-clause-bound
returns-clause-bound c = omega (arith, c.in-Some.ensures.fewer, c.self.told.1)
