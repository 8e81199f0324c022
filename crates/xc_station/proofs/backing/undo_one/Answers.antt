use Rattle.std.proofs.Common.{◌≡◌, ◌+◌, [], ◌∷◌, length, ap, sym, ◌∙◌, arith}
use Rattle.std.proofs.lemmas.List.{length-append}
use Rattle.xc_data.specs.declared.entry.Cause.TheVariants as cause
use Rattle.xc_model.specs.declared.phase.Phase.{Phase}
use Rattle.xc_model.specs.declared.phase.Phase.TheVariants.{Undoing}
use Rattle.xc_station.specs.Jobs.{tx_view}
use Rattle.xc_station.proofs.WaysBack.{same_trail, still_back, stuck_so, tried_view}
use Rattle.xc_station.proofs.backing.undo_one.Goals as goal

pub returns-in-Ended-clause-tried : goal.returns-in-Ended-clause-tried
returns-in-Ended-clause-tried g c =
    let tried = c.undo_to.ensures.tried c.requires.above in
    let t = tried.0 in
    let tx = c.args.tx.now in
    let undo = c.undo_to.new.self in (
      t,
      tried_view tx undo tx.phase (same_trail t.older t.tried t.end tx.undo undo t.was t.stack)
          ∙ ap (λ (p : Phase). record (tx_view tx) { phase = p; undo = undo })
          (c.requires.backing ∙ sym (still_back t.end (length t.older + 1) c.undo_to.result tried.1 c.in-Ended.is)),
    )

pub returns-in-Failed-clause-tried : goal.returns-in-Failed-clause-tried
returns-in-Failed-clause-tried g c =
    let tried = c.undo_to.ensures.tried c.requires.above in
    let t = tried.0 in
    let tx = c.args.tx.now in
    let undo = c.undo_to.new.self in
    let count : c.left-failed.result ≡ length t.older + 1 = (let all = ap length t.was in let parts = length-append t.older (t.tried ∷ []) in
    let left = c.left-failed.ensures in omega (arith, all, parts, left)) in (
      t,
      tried_view tx undo (Undoing (cause.Stuck c.left-failed.result)) (same_trail t.older t.tried t.end tx.undo undo t.was t.stack)
          ∙ ap (λ (p : Phase). record (tx_view tx) { phase = p; undo = undo })
          (ap (λ n. Undoing (cause.Stuck n)) count ∙ sym (stuck_so t.end (length t.older + 1) c.undo_to.result tried.1 c.in-Failed.is)),
    )
