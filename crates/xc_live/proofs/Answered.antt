-- The turn of a client that has handed something in, and those of a block that goes back.
use Rattle.std.proofs.Common.{◌≡◌, ◌≢◌, inl, inr, ℕ, ◌+◌, ◌<◌, Bool, true, false, [], ◌∷◌, ◌++◌, length, length-append}
use Rattle.std.proofs.Common.{refl, ap, sym, ◌∙◌, subst, arith}
use Rattle.std.specs.Prelude.{Option, nat_lt, slice_get, slice_set, sum_by, unwrap_or}
use Rattle.std.specs.declared.option.Option.TheVariants.{None, Some}
use Rattle.xc_data.specs.declared.call.Call.{Call}
use Rattle.xc_data.specs.declared.call.Call.TheVariants as call
use Rattle.xc_data.specs.declared.call.Reply.TheVariants as reply
use Rattle.xc_data.specs.Faults.{undo_faults}
use Rattle.xc_data.specs.declared.entry.Cause.{Cause}
use Rattle.xc_data.specs.declared.entry.Cause.TheVariants as cause
use Rattle.xc_data.specs.declared.entry.Mark.{Mark}
use Rattle.xc_data.specs.declared.entry.Turn.{Turn}
use Rattle.xc_data.specs.declared.entry.Turn.TheVariants as turn
use Rattle.xc_data.specs.declared.object.Object.{Object}
use Rattle.xc_data.specs.declared.undo.UndoEnd.{UndoEnd}
use Rattle.xc_data.specs.declared.undo.UndoEnd.TheVariants as undo_end
use Rattle.xc_data.proofs.Laws.{get_set_same}
use Rattle.xc_script.specs.declared.ask.Ask.{Ask}
use Rattle.xc_script.specs.declared.ask.Ask.TheVariants as ask
use Rattle.xc_model.specs.declared.phase.Phase.TheVariants.{Running, Committing, Undoing, Backing}
use Rattle.xc_model.specs.BackingRows.{BackingRow, BackingTurn, BacksOne, EndsBack, MarkedBack, OpenRow, backed, phase_after}
use Rattle.xc_model.specs.Live.{asked_by}
use Rattle.xc_model.specs.Moment.{TxView, JobView, SavedView, Active, Moment}
use Rattle.xc_model.specs.Movers.{answered_with, asked_at, mover, with_tx}
use Rattle.xc_model.specs.PlainSteps.{claims_at, noting, wanting}
use Rattle.xc_model.specs.Rows.{ActiveTurn, IsTurn, TurnOf}
use Rattle.xc_model.specs.RunningRows.{AskedTurn, CalledTurn, Calls, Conflicts, MarkedTurn, RunningTurn}
use Rattle.xc_model.specs.Setting.{Setting}
use Rattle.xc_live.specs.Clients.{HasTakenUp, IsAsking, IsCallNoted, IsEndAsk, MayUndo, StandsBehind}
use Rattle.xc_live.specs.Moving.{back_turns, back_turns_of}
use Rattle.xc_live.proofs.Placed.{calm_but_set}

-- ---- the row of its turn
module _ (s : Setting) (at : ℕ) (tx : TxView) (asked : Ask) (old : Moment) (asks : IsAsking s at tx asked old) where
  -- it is one of a running transaction without a mark
  pub unmarked_row : (answer : Turn) (new : Moment) → IsTurn s at old answer new → RunningTurn (mover s at old asks.job) tx answer new
  unmarked_row answer new t =
      let same : t.job ≡ asks.job = cc (t.there, asks.there) in
      let m = mover s at old asks.job in
      let row : TurnOf m asks.job.doing answer new =
      subst (λ (job : JobView). TurnOf (mover s at old job) job.doing answer new) same t.row in
      let active : ActiveTurn m tx tx.phase answer new = subst (λ d. TurnOf m d answer new) asks.active row in
      let runs : ActiveTurn m tx Running answer new = subst (λ p. ActiveTurn m tx p answer new) asks.running active in
      subst (λ (k : Option Mark). MarkedTurn m tx k answer new) (asks.calm.unmarked tx.number) runs

  -- and it is asked what was handed in
  pub asks_this : asked_at s asks.job ≡ asked
  asks_this =
      ap (λ b. asked_by b s.script asks.job.handed asks.job.place) asks.clients ∙ ap (λ (o : Option Ask). unwrap_or o ask.End) asks.handed

  module _ (new : Moment) where
    -- where its job changes alone, it took its turn
    stands_so : (behind : JobView) (is : TxView) → new.jobs ≡ slice_set old.jobs at behind → ((n : ℕ) → new.marks n ≡ old.marks n)
        → behind.doing ≡ Active is → StandsBehind tx asked behind is is.phase → HasTakenUp s at tx asked new
    stands_so behind is jobs marks does stands =
        record {
          clients = asks.clients;
          job = behind;
          there = ap (λ js. slice_get js at) jobs ∙ get_set_same old.jobs at asks.job behind asks.there;
          is = is;
          active = does;
          stands = stands;
          calm = calm_but_set at old new behind asks.calm jobs (λ n. marks n ∙ asks.calm.unmarked n);
        }

    call_done : (c : Call) → asked ≡ ask.Call c → Calls (mover s at old asks.job) tx c new → HasTakenUp s at tx asked new
    call_done c is r =
        let behind : TxView = noting tx c r.reply (claims_at old tx c) r.parts in
        let noted : IsCallNoted c tx behind = record { number = refl; rank = refl; reply = r.reply; calls = refl; replies = refl } in
        stands_so (answered_with asks.job r.place behind) behind (ap (λ (n : Moment). n.jobs) r.behind)
        (λ n. ap (λ (k : Moment). k.marks n) r.behind) refl
        (subst (λ p. StandsBehind tx asked (answered_with asks.job r.place behind) behind p) (sym asks.running) (refl, c, is, noted))

    -- a call may be undone for any cause
    call_undone : (c : Call) (why : Cause) → asked ≡ ask.Call c → MayUndo asked why
    call_undone c why is = subst (λ a. MayUndo a why) (sym is) tt

    call_met : (c : Call) → asked ≡ ask.Call c → Conflicts (mover s at old asks.job) tx c new → HasTakenUp s at tx asked new
    call_met c is r =
        stands_so _ _ (ap (λ (n : Moment). n.jobs) r.behind) (λ n. ap (λ (k : Moment). k.marks n) r.behind) refl
        (call_undone c (cause.Conflict r.object r.holder (length old.journal)) is)

    by_call : (c : Call) → asked ≡ ask.Call c → CalledTurn (mover s at old asks.job) tx c new → HasTakenUp s at tx asked new
    by_call call.Back is r =
        stands_so _ _ (ap (λ (n : Moment). n.jobs) r.behind) (λ n. ap (λ (k : Moment). k.marks n) r.behind) refl
        (asks.handed, is, refl, refl, refl, refl)
    by_call c is (inl r) = call_done c is r
    by_call c is (inr r) = call_met c is r

    by_ask : (a : Ask) → asked ≡ a → AskedTurn (mover s at old asks.job) tx a new → HasTakenUp s at tx asked new
    by_ask (ask.Call c) is row = by_call c is row
    by_ask ask.Commit is row =
        stands_so _ (record tx { phase = Committing }) (ap (λ (n : Moment). n.jobs) row.behind) (λ n. ap (λ (k : Moment). k.marks n) row.behind) refl is
    by_ask ask.Abort is row =
        stands_so _ (record tx { phase = Undoing cause.Asked }) (ap (λ (n : Moment). n.jobs) row.behind) (λ n. ap (λ (k : Moment). k.marks n) row.behind) refl
        (subst (λ a. MayUndo a cause.Asked) (sym is) (inl refl))
    by_ask ask.End is row = absurd row

    -- memory may end each of them
    wants_undone : (a : Ask) → asked ≡ a → MayUndo a cause.NoMemory
    wants_undone (ask.Call c) is = tt
    wants_undone ask.Commit is = refl
    wants_undone ask.Abort is = inr refl
    wants_undone ask.End is = absurd (asks.asked_some is)

    -- where it isn't told to wait it took its turn
    pub turn_asked : (answer : Turn) → ((object : Object) (number : ℕ) → answer ≢ turn.Busy object number) → IsTurn s at old answer new
        → HasTakenUp s at tx asked new
    turn_asked answer other t = by_answer answer other (unmarked_row answer new t)
      where
        by_answer : (answer : Turn) → ((object : Object) (number : ℕ) → answer ≢ turn.Busy object number)
            → RunningTurn (mover s at old asks.job) tx answer new → HasTakenUp s at tx asked new
        by_answer turn.Went other row = by_ask asked refl (subst (λ a. AskedTurn (mover s at old asks.job) tx a new) asks_this row)
        by_answer (turn.Busy object number) other row = absurd (other object number refl)
        by_answer turn.NoMemory other row =
            stands_so _ (wanting tx row.left row.held) (ap (λ (n : Moment). n.jobs) row.behind) (λ n. ap (λ (k : Moment). k.marks n) row.behind) refl
            (wants_undone asked refl)
        by_answer (turn.Ended end) other row = absurd row

  -- a turn that is asked an end changes no journal
  pub journal_stays : IsEndAsk asked → (answer : Turn) (new : Moment) → IsTurn s at old answer new → new.journal ≡ old.journal
  journal_stays ends answer new t = by_answer answer (unmarked_row answer new t)
    where
      by_end : (a : Ask) → IsEndAsk a → AskedTurn (mover s at old asks.job) tx a new → new.journal ≡ old.journal
      by_end ask.Commit ends row = ap (λ (n : Moment). n.journal) row.behind
      by_end ask.Abort ends row = ap (λ (n : Moment). n.journal) row.behind
      by_end (ask.Call c) ends row = absurd ends
      by_end ask.End ends row = absurd ends

      by_answer : (answer : Turn) → RunningTurn (mover s at old asks.job) tx answer new → new.journal ≡ old.journal
      by_answer turn.Went row = by_end asked ends (subst (λ a. AskedTurn (mover s at old asks.job) tx a new) asks_this row)
      by_answer (turn.Busy object number) row = ap (λ (n : Moment). n.journal) row.behind
      by_answer turn.NoMemory row = ap (λ (n : Moment). n.journal) row.behind
      by_answer (turn.Ended end) row = absurd row

-- ---- the way back of a block
module _ (s : Setting) (at : ℕ) where
  -- one turn of it: the block is back, or fewer turns are left
  pub record HasBacked (was : TxView) (asked : Ask) (turns : ℕ) (now : Moment) : Type 0 where
    pub asked_so : HasTakenUp s at was asked now
    pub fewer : back_turns_of asked_so.job.doing < turns

module _ (s : Setting) (at : ℕ) (tx : TxView) (asked : Ask) (old : Moment) (had : HasTakenUp s at tx asked old) (new : Moment) where
  abbrev is : TxView
  is = had.is

  -- a block's row, where no transaction is marked
  backing_row : is.phase ≡ Backing → (answer : Turn) → IsTurn s at old answer new → BackingTurn (mover s at old had.job) is answer new
  backing_row backs answer t =
      let same : t.job ≡ had.job = cc (t.there, had.there) in
      let m = mover s at old had.job in
      let row : TurnOf m had.job.doing answer new = subst (λ (job : JobView). TurnOf (mover s at old job) job.doing answer new) same t.row in
      let active : ActiveTurn m is is.phase answer new = subst (λ d. TurnOf m d answer new) had.active row in
      let back : ActiveTurn m is Backing answer new = subst (λ p. ActiveTurn m is p answer new) backs active in
      subst (λ (k : Option Mark). MarkedBack m is k answer new) (had.calm.unmarked is.number) back

  module _ (backs : is.phase ≡ Backing) where
    stood : StandsBehind tx asked had.job is Backing
    stood = subst (StandsBehind tx asked had.job is) backs had.stands

    back_so : (behind : JobView) (next : TxView) → new.jobs ≡ slice_set old.jobs at behind → ((n : ℕ) → new.marks n ≡ old.marks n)
        → behind.doing ≡ Active next → StandsBehind tx asked behind next next.phase → HasTakenUp s at tx asked new
    back_so behind next jobs marks does stands =
        record {
          clients = had.clients;
          job = behind;
          there = ap (λ js. slice_get js at) jobs ∙ get_set_same old.jobs at had.job behind had.there;
          is = next;
          active = does;
          stands = stands;
          calm = calm_but_set at old new behind had.calm jobs (λ n. marks n ∙ had.calm.unmarked n);
        }

    -- a record that is undone leaves it on its way back, one that fails turns the whole transaction back
    one_stands : (number : ℕ) (end : UndoEnd) (next : TxView) (behind : JobView) → behind.handed ≡ had.job.handed
        → next.number ≡ is.number → next.rank ≡ is.rank → next.calls ≡ is.calls → next.replies ≡ is.replies
        → StandsBehind tx asked behind next (phase_after number end)
    one_stands number (undo_end.Undone faults) next behind handed n r c rs =
        (handed ∙ stood.0, stood.1, n ∙ stood.2, r ∙ stood.3, c ∙ stood.4, rs ∙ stood.5)
    one_stands number (undo_end.Failed done faults) next behind handed n r c rs =
        subst (λ a. MayUndo a (cause.Stuck number)) (sym stood.1) tt
    one_stands number (undo_end.Blocked by) next behind handed n r c rs =
        subst (λ a. MayUndo a (cause.Stuck number)) (sym stood.1) tt

    fewer_left : (number : ℕ) (end : UndoEnd) (next : TxView) → length next.undo.pending < length is.undo.pending
        → back_turns next (phase_after number end) < back_turns is Backing
    fewer_left number (undo_end.Undone faults) next fewer = omega (arith, fewer)
    fewer_left number (undo_end.Failed done faults) next fewer = omega arith
    fewer_left number (undo_end.Blocked by) next fewer = omega arith

    one_back : (kept : SavedView) → BacksOne (mover s at old had.job) is kept new → HasBacked s at tx asked (back_turns is Backing) new
    unfolding back_so
    one_back kept row =
        let next : TxView = record is {
          phase = phase_after (length row.older + 1) row.end;
          undo = record { pending = row.older; ended = (row.tried, row.end) ∷ is.undo.ended };
        } in
        let behind : JobView = with_tx had.job had.job.place next in
        let count : length row.older < length is.undo.pending =
        omega (arith, ap length row.newest, length-append row.older (row.tried ∷ [])) in
        record {
          asked_so = back_so behind next (ap (λ (n : Moment). n.jobs) row.behind) (λ n. ap (λ (k : Moment). k.marks n) row.behind) refl
              (one_stands (length row.older + 1) row.end next behind refl refl refl refl refl);
          fewer = fewer_left (length row.older + 1) row.end next count;
        }

    all_back : (kept : SavedView) → EndsBack (mover s at old had.job) is kept new → HasBacked s at tx asked (back_turns is Backing) new
    unfolding back_so
    all_back kept row =
        let next : TxView = backed is kept in
        let behind : JobView = answered_with had.job row.place next in
        let noted : IsCallNoted call.Back tx next = record {
          number = stood.2;
          rank = stood.3;
          reply = reply.Undone (sum_by undo_faults is.undo.ended);
          calls = ap (λ cs. cs ++ call.Back ∷ []) stood.4;
          replies = ap (λ rs. rs ++ reply.Undone (sum_by undo_faults is.undo.ended) ∷ []) stood.5;
        } in
        record {
          asked_so = back_so behind next (ap (λ (n : Moment). n.jobs) row.behind) (λ n. ap (λ (k : Moment). k.marks n) row.behind) refl
              (refl, call.Back, stood.1, noted);
          fewer = omega arith;
        }

    by_open : (kept : SavedView) (b : Bool) → BackingRow (mover s at old had.job) is kept b new → HasBacked s at tx asked (back_turns is Backing) new
    by_open kept true row = one_back kept row
    by_open kept false row = all_back kept row

    by_save : (k : Option SavedView) → OpenRow (mover s at old had.job) is k new → HasBacked s at tx asked (back_turns is Backing) new
    by_save None row = absurd row
    by_save (Some kept) row = by_open kept (nat_lt (length kept.trail) (length is.undo.pending)) row

    -- so it is after a turn of it
    pub turn_backed : (answer : Turn) → IsTurn s at old answer new → HasBacked s at tx asked (back_turns is Backing) new
    turn_backed answer t = by_answer answer (backing_row backs answer t)
      where
        by_answer : (answer : Turn) → BackingTurn (mover s at old had.job) is answer new → HasBacked s at tx asked (back_turns is Backing) new
        by_answer turn.Went row = by_save is.saved row
        by_answer (turn.Busy object number) row = absurd row
        by_answer turn.NoMemory row = absurd row
        by_answer (turn.Ended end) row = absurd row
