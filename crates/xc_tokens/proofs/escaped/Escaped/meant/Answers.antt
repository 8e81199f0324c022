use Rattle.std.proofs.Common.{rules}
use Rattle.xc_tokens.specs.Quoted.{literal_of}
use Rattle.xc_tokens.proofs.Quotes.{meant_all, means_some}
use Rattle.xc_tokens.proofs.escaped.Escaped.meant.Goals as goal

pub unreachable-requires : goal.unreachable-requires
unreachable-requires c = absurd (means_some (literal_of c.self.inside.bytes.now) (search rules) (search rules))

pub returns : goal.returns
returns c = search (rules, meant_all (literal_of c.self.inside.bytes.now))
