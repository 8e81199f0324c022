use Rattle.std.proofs.Common.{◌≡◌, [], ◌∷◌, sym, subst}
use Rattle.std.specs.Option.{option_copied}
use Rattle.std.specs.Prelude.{MatchOption}
use Rattle.xc_data.specs.declared.undo.UndoEnd.{UndoEnd}
use Rattle.xc_script.specs.declared.ask.Ask.TheVariants as ask
use Rattle.xc_world.specs.Run.{begins}
use Rattle.xc_judge.specs.Left.{IsLeftLast, IsNotLeft, whole_records}
use Rattle.xc_judge.proofs.Cases.{found_none, found_some}
use Rattle.xc_judge.proofs.Lengths.{by_front, left_undone, not_whole}
use Rattle.xc_judge.proofs.ran.Ran.left.Goals as goal

pub returns-in_default : goal.returns-in_default
returns-in_default c =
    let ran = c.args.self.now in
    not_whole ran.world ran.me.value c.args.tx c.args.call.now (option_copied c.args.effect) c.args.end
    (found_none c.in_ok-whole.field-0 (whole_records ran.world ran.me.value c.args.tx c.args.call.now ≡ [])
    (λ u. whole_records ran.world ran.me.value c.args.tx c.args.call.now ≡ u ∷ []) c.in_default.not-Some c.in_ok-whole.ensures)

pub returns-in-Undone : goal.returns-in-Undone
returns-in-Undone c =
    let ran = c.args.self.now in
    let effect = option_copied c.args.effect in
    let whole = found_some c.in_ok-whole.field-0 c.in-Some.whole (whole_records ran.world ran.me.value c.args.tx c.args.call.now ≡ [])
    (λ u. whole_records ran.world ran.me.value c.args.tx c.args.call.now ≡ u ∷ []) c.in-Some.is c.in_ok-whole.ensures in
    subst (λ (e : UndoEnd).
    IsLeftLast (begins ran.world ran.me.value) c.args.tx (ask.Call c.args.call.now) (record { end = e; effect = effect }) c.in-Some.whole)
    (sym c.in-Undone.is)
    (left_undone ran.world ran.me.value c.args.tx c.args.call.now effect c.in-Undone.faults c.in-Some.whole whole)

pub returns-in-Failed : goal.returns-in-Failed
returns-in-Failed c =
    let ran = c.args.self.now in
    let effect = option_copied c.args.effect in
    let whole = found_some c.in_ok-whole.field-0 c.in-Some.whole (whole_records ran.world ran.me.value c.args.tx c.args.call.now ≡ [])
    (λ u. whole_records ran.world ran.me.value c.args.tx c.args.call.now ≡ u ∷ []) c.in-Some.is c.in_ok-whole.ensures in
    subst (λ (e : UndoEnd). MatchOption c.front_of.result
    (IsNotLeft (begins ran.world ran.me.value) c.args.tx (ask.Call c.args.call.now) (record { end = e; effect = effect }))
    (IsLeftLast (begins ran.world ran.me.value) c.args.tx (ask.Call c.args.call.now) (record { end = e; effect = effect }))) (sym c.in-Failed.is)
    (by_front ran.world ran.me.value c.args.tx c.args.call.now effect c.in-Failed.done c.in-Failed.faults c.in-Some.whole c.count_shown.result c.front_of.result
    whole c.count_shown.ensures c.front_of.ensures)
