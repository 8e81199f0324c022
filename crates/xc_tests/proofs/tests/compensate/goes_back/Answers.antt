use Rattle.std.proofs.Common.{◌≡◌, ℕ, ◌+◌, ◌≤◌, true, List, [], ◌∷◌, ◌++◌, length, ap, sym, ◌∙◌, refl, subst, arith, length-append}
use Rattle.std.specs.Prelude.{All}
use Rattle.std.proofs.lemmas.List.Elements.{All-cons, All-nil}
use Rattle.xc_data.specs.declared.undo.Undo.{Undo}
use Rattle.xc_data.specs.declared.undo.UndoEnd.{UndoEnd}
use Rattle.xc_data.specs.declared.undo.UndoEnd.TheVariants as end
use Rattle.xc_compensate.specs.Records.{Records}
use Rattle.xc_compensate.specs.Turns.{turn_of}
use Rattle.xc_compensate.specs.declared.stack.UndoTurn.TheVariants as turn
use Rattle.xc_world.specs.Ends.{is_undone}
use Rattle.xc_tests.proofs.tests.compensate.goes_back.Goals as goal

-- a turn that answers so undid its record
undone_turn : (e : UndoEnd) (faults : ℕ) → turn_of e ≡ turn.Undone faults → is_undone e ≡ true
undone_turn (end.Undone n) faults e = refl
undone_turn (end.Failed done n) faults e = cc
undone_turn (end.Blocked by) faults e = cc

-- of two records one is left behind the newest
one_left : (pending older : List Undo) (u : Undo) → length pending ≡ 2 → pending ≡ older ++ u ∷ [] → length older ≤ 1
one_left pending older u two e =
    let long : length pending ≡ length older + 1 = ap length e ∙ length-append older (u ∷ []) in
    omega (arith, long, two)

pub forget-requires-clause-undone : goal.forget-requires-clause-undone
forget-requires-clause-undone c =
    let P : Undo × UndoEnd → Type 0 = λ e. is_undone e.1 ≡ true in
    let two = c.requires.two in
    let first = c.in-Undone.ensures.tried (omega (arith, two)) in
    let t = first.0 in
    let few = subst (λ (s : Records). length s.pending ≤ 1) (sym t.stack) (one_left c.args.stack.pending t.older t.tried two t.was) in
    let same = (c.undo_to-2.ensures.ended few).1 in
    let ended =
    ap (λ (s : Records). s.ended) same ∙ ap (λ (s : Records). s.ended) t.stack ∙ ap (λ es. (t.tried, t.end) ∷ es) c.requires.none in
    subst (All P) (sym ended) (All-cons P (t.tried, t.end) [] (undone_turn t.end c.in-Undone.faults (sym first.1)) (All-nil P))
