use Rattle.std.proofs.Common.{rules}
use Rattle.std.proofs.lemmas.List.{set_past}
use Rattle.xc_script.proofs.slots.Slots.set.Goals as goal

pub returns-else-at-len : goal.returns-else-at-len
returns-else-at-len c = search (rules, set_past)
