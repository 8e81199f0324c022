-- A call that opens or closes a block, as a row of calls says it: nothing but the block changes.
use Rattle.std.proofs.Common.{◌≡◌, ℕ, ◌≤◌, Bool, true, false, [], refl, ap, sym, subst, arith}
use Rattle.std.specs.Prelude.{Option, Result, Ok, Err, IfOk, if◌then◌else◌}
use Rattle.std.specs.declared.option.Option.TheVariants.{None, Some}
use Rattle.std.proofs.lemmas.List.Elements.{All-nil}
use Rattle.xc_data.specs.declared.call.Call.{Call}
use Rattle.xc_data.specs.declared.call.Call.TheVariants as call
use Rattle.xc_data.specs.declared.call.Reply.{Reply}
use Rattle.xc_data.specs.declared.call.Reply.TheVariants as reply
use Rattle.xc_data.specs.declared.memory.NoMemory.{NoMemory}
use Rattle.xc_host.specs.Model.{HostModel}
use Rattle.xc_host.proofs.Laws.{unused, data_keeps_itself}
use Rattle.xc_model.specs.PlainSteps.{saved_by, tx_parts}
use Rattle.xc_model.specs.RunningRows.{opens_or_closes, is_way_back}
use Rattle.xc_data.specs.declared.private.Private.{Private}
use Rattle.xc_world.specs.Checks.{IsChecked, refusal_of, is_bad_handle, is_too_big, is_too_much}
use Rattle.xc_world.specs.Replies.{may_reply}
use Rattle.xc_world.specs.Fits.{is_back}
use Rattle.xc_station.specs.Acting.{Acting, HasActedAsPlain, HasDoneAsPlain}
use Rattle.xc_station.specs.Lent.{IsBacked}
use Rattle.xc_station.proofs.Doings.{framed_now, in_time_now}
use Rattle.xc_station.proofs.DoingsWords.{nothing_left}
use Rattle.xc_station.proofs.WordActs.{append_nil}

-- a call that opens and closes none leaves what a save kept
pub saved_plain : {X : Type 0} (c : Call) (kept : Option X) (copy : X) → opens_or_closes c ≡ false → is_back c ≡ false → saved_by c kept copy ≡ kept
saved_plain call.Save kept copy none ahead = cc none
saved_plain call.Keep kept copy none ahead = cc none
saved_plain call.Back kept copy none ahead = cc ahead
saved_plain _ kept copy none ahead = refl

-- a save and a keep are done at once, and change nothing that a call works on
pub block_done : {H : Type 0} (model : HostModel H) (c : Call) (old : Acting H) → opens_or_closes c ≡ true → old.tx.me.stored ≤ 16384
    → HasDoneAsPlain model c old old reply.Done
block_done model call.Save old is stored =
    record {
      tx = framed_now old.tx (tx_parts old.tx) call.Save reply.Done refl refl;
      checked = refl;
      after = record { places = refl; made = refl; stored = omega arith };
      stores = sym (append_nil old.tx.writes);
      stored = stored;
      made = [];
      one = omega arith;
      kinds = refl;
      undo = ap (λ us. record old.tx.undo { pending = us }) (sym (append_nil old.tx.undo.pending));
      in_time = in_time_now call.Save old.tx.me old.tx.number reply.Done refl refl;
      uses = record { made = []; named = refl; used = unused model old.host };
      cause = refl;
      lent = refl;
      spoken = record { words = refl; gives = λ word. cc word };
      backed = λ tells. All-nil (IsBacked (model.contents old.host));
      keeps = λ tells. data_keeps_itself (model.contents old.host);
      does = λ tells w at. record { step = refl; fits = refl; records = sym (append_nil old.tx.undo.pending) };
    }
block_done model call.Keep old is stored =
    record {
      tx = framed_now old.tx (tx_parts old.tx) call.Keep reply.Done refl refl;
      checked = refl;
      after = record { places = refl; made = refl; stored = omega arith };
      stores = sym (append_nil old.tx.writes);
      stored = stored;
      made = [];
      one = omega arith;
      kinds = refl;
      undo = ap (λ us. record old.tx.undo { pending = us }) (sym (append_nil old.tx.undo.pending));
      in_time = in_time_now call.Keep old.tx.me old.tx.number reply.Done refl refl;
      uses = record { made = []; named = refl; used = unused model old.host };
      cause = refl;
      lent = refl;
      spoken = record { words = refl; gives = λ word. cc word };
      backed = λ tells. All-nil (IsBacked (model.contents old.host));
      keeps = λ tells. data_keeps_itself (model.contents old.host);
      does = λ tells w at. record { step = refl; fits = refl; records = sym (append_nil old.tx.undo.pending) };
    }
block_done model _ old is stored = cc is

-- so has one acted, or memory ran out
pub block_acted : {H : Type 0} (model : HostModel H) (c : Call) (old new : Acting H) (r : Result Reply NoMemory) → opens_or_closes c ≡ true
    → new ≡ old → IfOk r (λ gave. gave ≡ reply.Done) → old.tx.me.stored ≤ 16384 → HasActedAsPlain model c old new r
block_acted model c old new (Ok r) is same gives stored =
    subst (λ (a : Acting _). HasDoneAsPlain model c old a r) (sym same)
    (subst (HasDoneAsPlain model c old old) (sym gives) (block_done model c old is stored))
block_acted model c old new (Err e) is same gives stored =
    subst (λ (a : Acting _). HasActedAsPlain model c old a (Err e)) (sym same) (nothing_left model c old)

-- ---- a way back
never_undone : (c : Call) (faults : ℕ) → is_back c ≡ false → may_reply c (reply.Undone faults) ≡ true → ⊥
never_undone call.Back faults ahead may = cc ahead
never_undone _ faults ahead may = cc may

-- a call that isn't a back never tells of one
pub no_way_back : (c : Call) (me : Private) (r : Reply) → is_back c ≡ false → IsChecked (refusal_of c me) c r → is_way_back r ≡ false
no_way_back c me (reply.Undone faults) ahead checked =
    absurd (if_ended4 (is_bad_handle c me) (is_too_big c) (is_too_much c me) checked)
  where
    if_ended4 : (a b d : Bool) → IsChecked (if a then Some reply.BadHandle else if b then Some reply.TooBig else if d then Some reply.TooMuch else None) c
        (reply.Undone faults) → ⊥
    if_ended4 true b d is = cc is
    if_ended4 false true d is = cc is
    if_ended4 false false true is = cc is
    if_ended4 false false false is = never_undone c faults ahead is
no_way_back c me _ ahead checked = refl
