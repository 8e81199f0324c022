-- The newest record that has no end yet is tried.
use Rattle.std.proofs.Common.{◌≡◌, ◌≢◌, ℕ, ◌+◌, None, List, [], ◌∷◌, ◌++◌, length, ap, sym, ◌∙◌, subst}
use Rattle.xc_data.specs.declared.undo.Undo.{Undo}
use Rattle.xc_data.specs.declared.undo.UndoEnd.{UndoEnd}
use Rattle.xc_world.specs.Ends.{Ending, blocker, IsLegalEnd}
use Rattle.xc_host.specs.Model.{HostModel}
use Rattle.xc_compensate.specs.Records.{Records, IsTried, way_of}
use Rattle.xc_compensate.specs.Turns.{turn_of}
use Rattle.xc_compensate.specs.Undoes.{Undoes}
use Rattle.xc_compensate.specs.declared.stack.UndoTurn.{UndoTurn}
use Rattle.xc_compensate.proofs.Listing.{both_lists}

module _ (old : Records) (older : List Undo) (ended newer : List Ending) (u : Undo) (number : ℕ) (view : both_lists (older ++ u ∷ []) ended ≡ old)
    (size : number ≡ length older + 1) (there : (from : ℕ) → blocker from u newer ≡ blocker from u ended) where
  -- what stands in its way, in the words of the stack before
  same_way : blocker (number + 1) u newer ≡ way_of older u old
  same_way =
      ap (λ n. blocker (n + 1) u newer) size
      ∙ there (length older + 1 + 1)
      ∙ ap (λ r. blocker (length older + 1 + 1) u r.ended) view

  -- the tried record
  pub tried_now : {H : Type 0} (model : HostModel H) (tries : ℕ) (new : Records) (host next : H) (end : UndoEnd) (turn : UndoTurn)
      → new ≡ both_lists older ((u, end) ∷ ended)
      → IsLegalEnd tries u end (blocker (number + 1) u newer) → Undoes model u (record { old = host; new = next }) end
      → (blocker (number + 1) u newer ≢ None → next ≡ host)
      → turn ≡ turn_of end
      → (t : IsTried model tries (record { host = host; undo = old }) (record { host = next; undo = new })) × (turn ≡ turn_of t.end)
  tried_now model tries new host next end turn now legal undoes still answer = (
    record {
      older = older;
      tried = u;
      end = end;
      was = ap (λ r. r.pending) (sym view);
      stack = now ∙ ap (λ r. both_lists older ((u, end) ∷ r.ended)) view;
      legal = subst (IsLegalEnd tries u end) same_way legal;
      faults = undoes.faults;
      still = λ way. still (λ none. way (sym same_way ∙ none));
      uses = undoes.uses;
      effect = undoes.effect;
    },
    answer,
  )
