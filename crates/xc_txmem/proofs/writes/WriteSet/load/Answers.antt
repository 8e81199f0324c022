use Rattle.std.proofs.Common.{sym, ap, ◌∙◌, length, min, take, slice_index}
use Rattle.std.specs.Prelude.{option_copied}
use Rattle.xc_txmem.specs.Overlay.{left_at}
use Rattle.xc_txmem.proofs.Overlays.{index-overlaid, early_found, late_found}
use Rattle.xc_txmem.proofs.writes.WriteSet.load.Goals as goal

pub returns-in-Some : goal.returns-in-Some
returns-in-Some c =
    let before = slice_index c.args.words.now c.args.at in
    late_found c.self.inside.newest c.self.inside.stores.items c.args.at before c.in-Some.value.now
    c.self.invariant.0 (sym c.get.ensures.value ∙ ap option_copied c.in-Some.is)
    ∙ ap (λ v. left_at c.args.at before v.stores) c.self.view_is ∙ index-overlaid c.args.words.now c.args.self.now.stores c.args.at c.requires

pub returns-in-None : goal.returns-in-None
returns-in-None c =
    let before = slice_index c.args.words.now c.args.at in
    let count = c.min-walked.ensures ∙ ap (min 8) (c.len.ensures ∙ sym c.deref.ensures.len ∙ ap length c.deref.ensures.value) in
    c.left_at.ensures
    ∙ ap (λ v. left_at c.args.at v (take c.min-walked.result c.deref.result.now)) c.get-in-None.ensures
    ∙ ap (λ n. left_at c.args.at before (take n c.deref.result.now)) count
    ∙ ap (λ s. left_at c.args.at before (take (min 8 (length c.self.inside.stores.items)) s)) c.deref.ensures.value
    ∙ early_found c.self.inside.newest c.self.inside.stores.items c.args.at before
    c.self.invariant.0 (sym c.get.ensures.value ∙ ap option_copied c.in-None.is)
    ∙ ap (λ v. left_at c.args.at before v.stores) c.self.view_is ∙ index-overlaid c.args.words.now c.args.self.now.stores c.args.at c.requires
