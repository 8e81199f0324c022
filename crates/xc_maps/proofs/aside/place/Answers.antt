use Rattle.std.proofs.Common.{sym, ap, ◌∙◌, is_eq}
use Rattle.std.specs.Cmp.Lexicographic.{nat_list_cmp_total}
use Rattle.std.proofs.lemmas.Map.Lookups.{exact_bytes}
use Rattle.xc_maps.proofs.Moved.{entry_stands}
use Rattle.xc_maps.proofs.aside.place.Goals as goal

pub returns-then-is_eq-clause-found : goal.returns-then-is_eq-clause-found
returns-then-is_eq-clause-found g c = (
  c.index-entries-at.result.1,
  entry_stands nat_list_cmp_total exact_bytes c.args.entries.now c.loop-at.at c.args.name c.index-entries-at.result c.loop-at-test.true c.index-entries-at.is
      (ap is_eq (sym c.cmp.ensures) ∙ sym c.is_eq.ensures ∙ c.if-is_eq.true),
)
