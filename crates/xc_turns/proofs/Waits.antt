-- Who waits for whom, by the rows of the table of turns.
use Rattle.std.proofs.Common.{◌≡◌, ◌≢◌, ◌⊎◌, inl, inr, ℕ, ◌+◌, Bool, true, false, not, List, [], ◌∷◌, length, refl, ap, sym, ◌∙◌, subst}
use Rattle.std.specs.Prelude.{nat_eq, is_some, Option, slice_get, slice_set, if◌then◌else◌}
use Rattle.std.specs.declared.option.Option.TheVariants.{None, Some}
use borrow.Author.Tests.{eqb-true}
use Rattle.xc_data.specs.declared.entry.KeptItem.{KeptItem}
use Rattle.xc_data.specs.declared.entry.Cause.{Cause}
use Rattle.xc_data.specs.declared.entry.Cause.TheVariants as cause
use Rattle.xc_data.specs.declared.entry.Entry.{Entry}
use Rattle.xc_data.specs.declared.entry.Outcome.TheVariants.{Committed, Aborted}
use Rattle.xc_data.specs.declared.entry.JobEnd.TheVariants as job_end
use Rattle.xc_data.specs.declared.entry.Turn.{Turn}
use Rattle.xc_data.specs.declared.entry.Turn.TheVariants as turn
use Rattle.xc_data.specs.declared.call.LateCall.{LateCall}
use Rattle.xc_data.specs.declared.object.Object.{Object}
use Rattle.xc_data.specs.declared.undo.Undo.{Undo}
use Rattle.xc_script.specs.Position.{Position}
use Rattle.xc_script.specs.declared.ask.Ask.{Ask}
use Rattle.xc_script.specs.declared.ask.Ask.TheVariants as ask
use Rattle.xc_host.specs.Contents.{Contents}
use Rattle.xc_data.specs.declared.entry.Mark.{Mark}
use Rattle.xc_model.specs.declared.phase.Phase.{Phase}
use Rattle.xc_model.specs.declared.phase.Phase.TheVariants.{Running, Committing, Undoing, Backing}
use Rattle.xc_model.specs.Setting.{Setting}
use Rattle.xc_model.specs.Moment.{TxView, JobView, Doing, Idle, Active, Starved, Ended, Moment, active_in, active_of, begun_count, entering, late_left}
use Rattle.xc_model.specs.Moment.{revoked, unmarked, asked_to_wait}
use Rattle.xc_model.specs.Rows.{ActiveTurn, IsTurn}
use Rattle.xc_model.specs.RunningRows.{AskedTurn, CalledTurn, MarkedTurn, RunningTurn}
use Rattle.xc_model.specs.BackingRows.{BackingRow, OpenRow, MarkedBack}
use Rattle.xc_data.specs.declared.call.Call.{Call}
use Rattle.xc_data.specs.declared.call.Call.TheVariants as call
use Rattle.xc_model.specs.Moment.{SavedView}
use Rattle.std.specs.Prelude.{nat_lt}
use Rattle.xc_model.specs.UndoingRows.{BackTurn}
use Rattle.xc_model.specs.IdleRows.{IsWaiting}
use Rattle.xc_model.specs.CommittingRows.{LateTurn}
use Rattle.xc_model.specs.Rows.{TurnOf}
use Rattle.xc_model.specs.RunningRows.{Waits, mark_behind}
use Rattle.xc_model.specs.Movers.{answered_with, asked_at, with_tx}
use Rattle.xc_model.specs.IdleRows.{beginning_job}
use Rattle.xc_model.specs.Entering.{behind_abort, behind_commit, entry_of}
use Rattle.xc_model.specs.Waiting.{CountsOn, IsMarkedBy, MayWait, WaitsFor, has_active}
use Rattle.xc_turns.proofs.Jobs.{behind_abort_none}
use Rattle.std.proofs.Common.{◌++◌, ◌<◌, append-nil, arith, length-set}
use Rattle.xc_model.specs.Entering.{started_jobs}
use Rattle.xc_model.specs.Movers.{mover}
use Rattle.xc_turns.proofs.LateEnds.{next_ends}
use Rattle.xc_turns.proofs.Lists.{get_front, get_inside, set_itself}
use Rattle.xc_data.proofs.Laws.{get_set_same, get_set_other}

module _ (s : Setting) (at : ℕ) (old new : Moment) (job : JobView) (stands : slice_get old.jobs at ≡ Some job) where
  -- ---- the row of an answer Busy
  -- an idle job waits, or a running transaction
  data BusyRow (object : Object) (number : ℕ) : Type 0 where
    idles : job.doing ≡ Idle → IsWaiting s old job object number → new.jobs ≡ slice_set old.jobs at (asked_to_wait job) → new.marks ≡ old.marks
        → BusyRow object number
    runs : (tx : TxView) → job.doing ≡ Active tx → tx.phase ≡ Running → Waits (mover s at old job) tx object number new → BusyRow object number

  busy_row : (object : Object) (number : ℕ) (d : Doing) → job.doing ≡ d → TurnOf (mover s at old job) d (turn.Busy object number) new → BusyRow object number
  busy_row object number Idle is row = idles is row.0 (ap (λ (n : Moment). n.jobs) row.1) (ap (λ (n : Moment). n.marks) row.1)
  busy_row object number (Active tx) is row = by_phase tx.phase refl row
    where
      by_mark : tx.phase ≡ Running → (m : Option Mark) → MarkedTurn (mover s at old job) tx m (turn.Busy object number) new → BusyRow object number
      by_mark e None row = runs tx is e row
      by_mark e (Some m) row = absurd row

      by_back : (m : Option Mark) → MarkedBack (mover s at old job) tx m (turn.Busy object number) new → BusyRow object number
      by_back None row = absurd row
      by_back (Some m) row = absurd row

      by_phase : (p : Phase) → tx.phase ≡ p → ActiveTurn (mover s at old job) tx p (turn.Busy object number) new → BusyRow object number
      by_phase Running e row = by_mark e (old.marks tx.number) row
      by_phase Committing e row = absurd row
      by_phase Backing e row = by_back (old.marks tx.number) row
      by_phase (Undoing c) e row = absurd row
  busy_row object number Starved is row = absurd row
  busy_row object number (Ended end) is row = absurd row

  waits_for : (object : Object) (number : ℕ) (tx : TxView) → job.doing ≡ Active tx → tx.phase ≡ Running → Waits (mover s at old job) tx object number new
      → WaitsFor at old tx object number
  waits_for object number tx is e w =
      let r = w.met.rival in
      let holds = r.holds in
      record {
        active = (job, stands, ap active_in is);
        running = e;
        place = r.place;
        other = r.other;
        holder = r.rival;
        there = r.active;
        numbered = r.numbered;
        younger = w.younger;
        claim = holds.0;
        holds = holds.1;
        names = holds.2.0 ∙ w.met.names;
      }

  row_waits : (object : Object) (number : ℕ) → BusyRow object number → MayWait s at old object number
  row_waits object number (idles is waits jobs marks) = inl (job, is, waits)
  row_waits object number (runs tx is e w) = inr (tx, waits_for object number tx is e w)

  is_behind : (behind is : JobView) → new.jobs ≡ slice_set old.jobs at behind → slice_get new.jobs at ≡ Some is → behind ≡ is
  is_behind behind is jobs got =
      let here : slice_get new.jobs at ≡ Some behind = ap (λ js. slice_get js at) jobs ∙ get_set_same old.jobs at job behind stands in
      let both : Some behind ≡ Some is = sym here ∙ got in cc both

  row_counts : (object : Object) (number : ℕ) → BusyRow object number → (is : JobView) → slice_get new.jobs at ≡ Some is → is.busy ≡ job.busy + 1
  row_counts object number (idles idle waits jobs marks) is got = ap (λ (j : JobView). j.busy) (sym (is_behind (asked_to_wait job) is jobs got))
  row_counts object number (runs tx active e w) is got =
      ap (λ (j : JobView). j.busy) (sym (is_behind (asked_to_wait (with_tx job w.place tx)) is (ap (λ (n : Moment). n.jobs) w.behind) got))

  -- ---- marks
  -- a mark was there, or the row made it
  abbrev Made : Turn → ℕ → Mark → Type 0
  Made answer number m = (old.marks number ≡ Some m) ⊎ IsMarkedBy at old answer number m

  same_marks : (answer : Turn) (number : ℕ) (m : Mark) → new.marks ≡ old.marks → new.marks number ≡ Some m → Made answer number m
  same_marks answer number m same has = inl (sym (ap (λ (ms : ℕ → Option Mark). ms number) same) ∙ has)

  fewer_marks : (answer : Turn) (number gone : ℕ) (m : Mark) → new.marks ≡ unmarked old.marks gone → new.marks number ≡ Some m → Made answer number m
  fewer_marks answer number gone m same has =
      by_test (nat_eq number gone) (sym (ap (λ (ms : ℕ → Option Mark). ms number) same) ∙ has)
    where
      by_test : (b : Bool) → (if b then None else old.marks number) ≡ Some m → Made answer number m
      by_test true e = absurd (let h : ◌≡◌ {A = Option Mark} None (Some m) = e in cc)
      by_test false e = inl e

  one_mark : (object : Object) (holder number : ℕ) (m : Mark) (tx : TxView) → job.doing ≡ Active tx → tx.phase ≡ Running
      → Waits (mover s at old job) tx object holder new → new.marks number ≡ Some m → Made (turn.Busy object holder) number m
  one_mark object holder number m tx is e w has =
      by_test (nat_eq number rival.number) refl (sym (ap (λ (n : Moment). n.marks number) w.behind) ∙ has)
    where
      rival : TxView
      rival = w.met.rival.rival

      its : Mark
      its = record { object = object; by = tx.number; at = length old.journal }

      made : number ≡ rival.number → its ≡ m → Made (turn.Busy object holder) number m
      made here same =
          let number_is : holder ≡ number = sym (here ∙ w.met.rival.numbered) in
          let object_is : object ≡ m.object = ap (λ (x : Mark). x.object) same in
          inr (record {
            answer_is = λ i. turn.Busy (object_is i) (number_is i);
            tx = tx;
            waits = subst (λ (o : Object). WaitsFor at old tx o number) object_is
                (subst (WaitsFor at old tx object) number_is (waits_for object holder tx is e w));
            by_is = sym (ap (λ (x : Mark). x.by) same);
            at_is = sym (ap (λ (x : Mark). x.at) same);
          })

      by_phase : number ≡ rival.number → (p : Phase) (kept : Option Mark) → old.marks number ≡ kept → mark_behind p kept its ≡ Some m
          → Made (turn.Busy object holder) number m
      by_phase here Running None was e = made here (let both : Some its ≡ Some m = e in cc both)
      by_phase here Running (Some k) was e = inl (was ∙ e)
      by_phase here Committing kept was e = inl (was ∙ e)
      by_phase here Backing None was e = made here (let both : Some its ≡ Some m = e in cc both)
      by_phase here Backing (Some k) was e = inl (was ∙ e)
      by_phase here (Undoing c) kept was e = inl (was ∙ e)

      by_test : (b : Bool) → nat_eq number rival.number ≡ b → (if b then mark_behind rival.phase (old.marks number) its else old.marks number) ≡ Some m
          → Made (turn.Busy object holder) number m
      by_test true t e = by_phase (eqb-true number rival.number t) rival.phase (old.marks number) refl e
      by_test false t e = inl e

  module _ (answer : Turn) (number : ℕ) (m : Mark) (has : new.marks number ≡ Some m) where
    same_now : new.marks ≡ old.marks → Made answer number m
    same_now same = same_marks answer number m same has

    called_made : (tx : TxView) (c : Call) → CalledTurn (mover s at old job) tx c new → Made answer number m
    called_made tx call.Back row = same_now (ap (λ (n : Moment). n.marks) row.behind)
    called_made tx c (inl row) = same_now (ap (λ (n : Moment). n.marks) row.behind)
    called_made tx c (inr row) = same_now (ap (λ (n : Moment). n.marks) row.behind)

    one_made : (tx : TxView) (kept : SavedView) (b : Bool) → BackingRow (mover s at old job) tx kept b new → Made answer number m
    one_made tx kept true row = same_now (ap (λ (n : Moment). n.marks) row.behind)
    one_made tx kept false row = same_now (ap (λ (n : Moment). n.marks) row.behind)

    open_made : (tx : TxView) (k : Option SavedView) → OpenRow (mover s at old job) tx k new → Made answer number m
    open_made tx None row = absurd row
    open_made tx (Some kept) row = one_made tx kept (nat_lt (length kept.trail) (length tx.undo.pending)) row

    asked_made : (tx : TxView) (a : Ask) → AskedTurn (mover s at old job) tx a new → Made answer number m
    asked_made tx (ask.Call c) row = called_made tx c row
    asked_made tx ask.Commit row = same_now (ap (λ (n : Moment). n.marks) row.behind)
    asked_made tx ask.Abort row = same_now (ap (λ (n : Moment). n.marks) row.behind)
    asked_made tx ask.End row = absurd row

    late_made : (tx : TxView) (calls : List LateCall) → LateTurn (mover s at old job) tx calls new → Made answer number m
    late_made tx [] row = fewer_marks answer number tx.number m (ap (λ (n : Moment). n.marks) row.0) has
    late_made tx (call ∷ calls) row = same_now (next_ends s at old job tx new call row).marks

    back_made : (tx : TxView) (c : Cause) (pending : List Undo) → BackTurn (mover s at old job) tx c pending new → Made answer number m
    back_made tx c [] row = fewer_marks answer number tx.number m (ap (λ (n : Moment). n.marks) row.behind) has
    back_made tx c (u ∷ pending) row = same_now (ap (λ (n : Moment). n.marks) row.behind)

  running_made : (number : ℕ) (m : Mark) → new.marks number ≡ Some m → (tx : TxView) → job.doing ≡ Active tx → tx.phase ≡ Running → (answer : Turn)
      → RunningTurn (mover s at old job) tx answer new → Made answer number m
  running_made number m has tx is e turn.Went row = asked_made turn.Went number m has tx (asked_at s job) row
  running_made number m has tx is e (turn.Busy object holder) row = one_mark object holder number m tx is e row has
  running_made number m has tx is e turn.NoMemory row = same_marks turn.NoMemory number m (ap (λ (n : Moment). n.marks) row.behind) has
  running_made number m has tx is e (turn.Ended end) row = absurd row

  marked_made : (number : ℕ) (m : Mark) → new.marks number ≡ Some m → (tx : TxView) → job.doing ≡ Active tx → tx.phase ≡ Running → (kept : Option Mark)
      (answer : Turn) → MarkedTurn (mover s at old job) tx kept answer new → Made answer number m
  marked_made number m has tx is e None answer row = running_made number m has tx is e answer row
  marked_made number m has tx is e (Some k) turn.Went row = same_marks turn.Went number m (ap (λ (n : Moment). n.marks) row) has
  marked_made number m has tx is e (Some k) _ row = absurd row

  marked_back_made : (number : ℕ) (m : Mark) → new.marks number ≡ Some m → (tx : TxView) (kept : Option Mark) (answer : Turn)
      → MarkedBack (mover s at old job) tx kept answer new → Made answer number m
  marked_back_made number m has tx None turn.Went row = open_made turn.Went number m has tx tx.saved row
  marked_back_made number m has tx None _ row = absurd row
  marked_back_made number m has tx (Some k) turn.Went row = same_marks turn.Went number m (ap (λ (n : Moment). n.marks) row) has
  marked_back_made number m has tx (Some k) _ row = absurd row

  active_made : (number : ℕ) (m : Mark) → new.marks number ≡ Some m → (tx : TxView) → job.doing ≡ Active tx → (p : Phase) → tx.phase ≡ p → (answer : Turn)
      → ActiveTurn (mover s at old job) tx p answer new → Made answer number m
  active_made number m has tx is Running e answer row = marked_made number m has tx is e (old.marks tx.number) answer row
  active_made number m has tx is Committing e turn.Went row = late_made turn.Went number m has tx (late_left tx) row
  active_made number m has tx is Committing e _ row = absurd row
  active_made number m has tx is Backing e answer row = marked_back_made number m has tx (old.marks tx.number) answer row
  active_made number m has tx is (Undoing c) e turn.Went row = back_made turn.Went number m has tx c tx.undo.pending row
  active_made number m has tx is (Undoing c) e _ row = absurd row

  doing_made : (number : ℕ) (m : Mark) → new.marks number ≡ Some m → (d : Doing) → job.doing ≡ d → (answer : Turn) → TurnOf (mover s at old job) d answer new
      → Made answer number m
  doing_made number m has Idle is (turn.Ended end) row = same_marks (turn.Ended end) number m (ap (λ (n : Moment). n.marks) row.1) has
  doing_made number m has Idle is turn.Went row = fewer_marks turn.Went number (begun_count old + 1) m (ap (λ (n : Moment). n.marks) row.1) has
  doing_made number m has Idle is (turn.Busy object holder) row = same_marks (turn.Busy object holder) number m (ap (λ (n : Moment). n.marks) row.1) has
  doing_made number m has Idle is turn.NoMemory row = same_marks turn.NoMemory number m (ap (λ (n : Moment). n.marks) row.2) has
  doing_made number m has (Active tx) is answer row = active_made number m has tx is tx.phase refl answer row
  doing_made number m has Starved is (turn.Ended job_end.NoMemory) row = same_marks (turn.Ended job_end.NoMemory) number m
      (ap (λ (n : Moment). n.marks) row.1) has
  doing_made number m has Starved is turn.Went row = same_marks turn.Went number m (ap (λ (n : Moment). n.marks) row.1) has
  doing_made number m has Starved is _ row = absurd row
  doing_made number m has (Ended end) is answer row = absurd row

-- ---- counts
-- the answer is another
abbrev IsOther : Turn → Type 0
IsOther answer = (object : Object) (number : ℕ) → answer ≢ turn.Busy object number

module _ (s : Setting) (at : ℕ) (old new : Moment) (job : JobView) where
  -- one job changed, and its count so; perhaps more jobs came
  record Changed (answer : Turn) : Type 0 where
    behind : JobView
    more : List JobView
    jobs : new.jobs ≡ slice_set old.jobs at behind ++ more
    count : IsOther answer → CountsOn job behind

  -- it has a transaction as before
  stays_so : (answer : Turn) (behind : JobView) → new.jobs ≡ slice_set old.jobs at behind → behind.busy ≡ job.busy
      → has_active behind ≡ has_active job → Changed answer
  stays_so answer behind jobs busy active =
      record { behind = behind; more = []; jobs = jobs ∙ sym (append-nil (slice_set old.jobs at behind)); count = λ other. inl (busy, active) }

  -- one began, or entered
  turns_so : (answer : Turn) (behind : JobView) (more : List JobView) → new.jobs ≡ slice_set old.jobs at behind ++ more → behind.busy ≡ 0
      → has_active behind ≡ not (has_active job) → Changed answer
  turns_so answer behind more jobs busy active = record { behind = behind; more = more; jobs = jobs; count = λ other. inr (busy, active) }

  -- it is told to wait
  told_so : (object : Object) (number : ℕ) (behind : JobView) → new.jobs ≡ slice_set old.jobs at behind → Changed (turn.Busy object number)
  told_so object number behind jobs =
      record { behind = behind; more = []; jobs = jobs ∙ sym (append-nil (slice_set old.jobs at behind)); count = λ other. absurd (other object number refl) }

  module _ (answer : Turn) (tx : TxView) (is : job.doing ≡ Active tx) where
    has : has_active job ≡ true
    has = ap (λ d. is_some (active_in d)) is

    goes : (place : Position) (next : TxView) → new.jobs ≡ slice_set old.jobs at (with_tx job place next) → Changed answer
    goes place next jobs = stays_so answer (with_tx job place next) jobs refl (sym has)

    answered : (place : Position) (next : TxView) → new.jobs ≡ slice_set old.jobs at (answered_with job place next) → Changed answer
    answered place next jobs = stays_so answer (answered_with job place next) jobs refl (sym has)

    enters_so : (behind : JobView) (e : Entry) (contents : Contents) (kept : List KeptItem) (jobs more : List JobView)
        → new ≡ record (entering old at behind e) { contents = contents; kept = kept; jobs = jobs } → jobs ≡ slice_set old.jobs at behind ++ more
        → behind.busy ≡ 0 → active_of behind ≡ None → Changed answer
    enters_so behind e contents kept jobs more row put busy none =
        turns_so answer behind more (ap (λ (n : Moment). n.jobs) row ∙ put) busy (ap is_some none ∙ sym (ap not has))

    called_so : (c : Call) → CalledTurn (mover s at old job) tx c new → Changed answer
    called_so call.Back row = goes row.place _ (ap (λ (n : Moment). n.jobs) row.behind)
    called_so c (inl row) = answered row.place _ (ap (λ (n : Moment). n.jobs) row.behind)
    called_so c (inr row) = goes row.place _ (ap (λ (n : Moment). n.jobs) row.behind)

    one_so : (kept : SavedView) (b : Bool) → BackingRow (mover s at old job) tx kept b new → Changed answer
    one_so kept true row = goes job.place _ (ap (λ (n : Moment). n.jobs) row.behind)
    one_so kept false row = answered row.place _ (ap (λ (n : Moment). n.jobs) row.behind)

    open_so : (k : Option SavedView) → OpenRow (mover s at old job) tx k new → Changed answer
    open_so None row = absurd row
    open_so (Some kept) row = one_so kept (nat_lt (length kept.trail) (length tx.undo.pending)) row

    asked_so : (a : Ask) → AskedTurn (mover s at old job) tx a new → Changed answer
    asked_so (ask.Call c) row = called_so c row
    asked_so ask.Commit row = goes row.place (record tx { phase = Committing }) (ap (λ (n : Moment). n.jobs) row.behind)
    asked_so ask.Abort row = goes row.place _ (ap (λ (n : Moment). n.jobs) row.behind)
    asked_so ask.End row = absurd row

    back_busy : (c : Cause) → (behind_abort job tx c).busy ≡ 0
    back_busy (cause.Stuck failed) = refl
    back_busy cause.Asked = refl
    back_busy cause.NoMemory = refl
    back_busy (cause.Conflict object holder when) = refl
    back_busy (cause.Revoked object by when) = refl

    late_so : (calls : List LateCall) → LateTurn (mover s at old job) tx calls new → Changed answer
    late_so [] row = enters_so (behind_commit job tx) (entry_of tx at (Committed tx.ends)) old.contents old.kept _ (started_jobs s.script job tx) row.0 refl
        refl refl
    late_so (call ∷ calls) row = goes job.place _ (next_ends s at old job tx new call row).jobs

    back_so : (c : Cause) (pending : List Undo) → BackTurn (mover s at old job) tx c pending new → Changed answer
    back_so c [] row =
        enters_so (behind_abort job tx c) (entry_of tx at (Aborted (record { cause = c; records = tx.undo.ended }))) new.contents new.kept _ [] row.behind
        (sym (append-nil (slice_set old.jobs at (behind_abort job tx c)))) (back_busy c)
        (behind_abort_none job tx c)
    back_so c (u ∷ pending) row = goes job.place _ (ap (λ (n : Moment). n.jobs) row.behind)

  running_so : (tx : TxView) → job.doing ≡ Active tx → (answer : Turn) → RunningTurn (mover s at old job) tx answer new → Changed answer
  running_so tx is turn.Went row = asked_so turn.Went tx is (asked_at s job) row
  running_so tx is turn.NoMemory row = goes turn.NoMemory tx is row.place _ (ap (λ (n : Moment). n.jobs) row.behind)
  running_so tx is (turn.Busy object number) w = told_so object number (asked_to_wait (with_tx job w.place tx)) (ap (λ (n : Moment). n.jobs) w.behind)
  running_so tx is (turn.Ended end) row = absurd row

  marked_so : (tx : TxView) → job.doing ≡ Active tx → (m : Option Mark) (answer : Turn) → MarkedTurn (mover s at old job) tx m answer new → Changed answer
  marked_so tx is None answer row = running_so tx is answer row
  marked_so tx is (Some m) turn.Went row =
      goes turn.Went tx is job.place (record tx { phase = Undoing (revoked m) }) (ap (λ (n : Moment). n.jobs) row)
  marked_so tx is (Some m) _ row = absurd row

  marked_back_so : (tx : TxView) → job.doing ≡ Active tx → (m : Option Mark) (answer : Turn) → MarkedBack (mover s at old job) tx m answer new → Changed answer
  marked_back_so tx is None turn.Went row = open_so turn.Went tx is tx.saved row
  marked_back_so tx is None _ row = absurd row
  marked_back_so tx is (Some m) turn.Went row =
      goes turn.Went tx is job.place (record tx { phase = Undoing (revoked m) }) (ap (λ (n : Moment). n.jobs) row)
  marked_back_so tx is (Some m) _ row = absurd row

  active_so : (tx : TxView) → job.doing ≡ Active tx → (p : Phase) (answer : Turn) → ActiveTurn (mover s at old job) tx p answer new → Changed answer
  active_so tx is Running answer row = marked_so tx is (old.marks tx.number) answer row
  active_so tx is Committing turn.Went row = late_so turn.Went tx is (late_left tx) row
  active_so tx is Committing _ row = absurd row
  active_so tx is Backing answer row = marked_back_so tx is (old.marks tx.number) answer row
  active_so tx is (Undoing c) turn.Went row = back_so turn.Went tx is c tx.undo.pending row
  active_so tx is (Undoing c) _ row = absurd row

  doing_so : slice_get old.jobs at ≡ Some job → (d : Doing) → job.doing ≡ d → (answer : Turn) → TurnOf (mover s at old job) d answer new → Changed answer
  doing_so there Idle is (turn.Ended end) row =
      stays_so (turn.Ended end) (record job { doing = Ended end }) (ap (λ (n : Moment). n.jobs) row.1) refl (sym (ap (λ d. is_some (active_in d)) is))
  doing_so there Idle is turn.Went row =
      turns_so turn.Went (beginning_job old job) [] (ap (λ (n : Moment). n.jobs) row.1 ∙ sym (append-nil (slice_set old.jobs at (beginning_job old job)))) refl
      (sym (ap (λ d. not (is_some (active_in d))) is))
  doing_so there Idle is (turn.Busy object number) row = told_so object number (asked_to_wait job) (ap (λ (n : Moment). n.jobs) row.1)
  doing_so there Idle is turn.NoMemory row =
      stays_so turn.NoMemory job (ap (λ (n : Moment). n.jobs) row.2 ∙ sym (set_itself old.jobs at job there)) refl refl
  doing_so there (Active tx) is answer row = active_so tx is tx.phase answer row
  doing_so there Starved is (turn.Ended job_end.NoMemory) row =
      stays_so (turn.Ended job_end.NoMemory) (record job { doing = Ended job_end.NoMemory }) (ap (λ (n : Moment). n.jobs) row.1) refl
      (sym (ap (λ d. is_some (active_in d)) is))
  doing_so there Starved is turn.Went row =
      stays_so turn.Went (record job { doing = Idle }) (ap (λ (n : Moment). n.jobs) row.1) refl (sym (ap (λ d. is_some (active_in d)) is))
  doing_so there Starved is _ row = absurd row
  doing_so there (Ended end) is answer row = absurd row

-- after another answer the count is as before, or 0 where a transaction began or entered
pub count_kept : (s : Setting) (at : ℕ) (old new : Moment) (answer : Turn) → IsTurn s at old answer new
    → ((object : Object) (number : ℕ) → answer ≢ turn.Busy object number)
    → (job is : JobView) → slice_get old.jobs at ≡ Some job → slice_get new.jobs at ≡ Some is → CountsOn job is
count_kept s at old new answer t other job is there got =
    let c = doing_so s at old new t.job t.there t.job.doing refl answer t.row in
    let same : t.job ≡ job = let both : Some t.job ≡ Some job = sym t.there ∙ there in cc both in
    let put : slice_get new.jobs at ≡ Some c.behind =
    ap (λ js. slice_get js at) c.jobs ∙ get_front (slice_set old.jobs at c.behind) c.more at c.behind (get_set_same old.jobs at t.job c.behind t.there) in
    let is_it : c.behind ≡ is = let both : Some c.behind ≡ Some is = sym put ∙ got in cc both in
    subst (λ (j : JobView). CountsOn j is) same (subst (CountsOn t.job) is_it (c.count other))

-- all other jobs stay
pub others_kept : (s : Setting) (at j : ℕ) (old new : Moment) (answer : Turn) → IsTurn s at old answer new → j ≢ at → j < length old.jobs
    → slice_get new.jobs j ≡ slice_get old.jobs j
others_kept s at j old new answer t away low =
    let c = doing_so s at old new t.job t.there t.job.doing refl answer t.row in
    let many = length-set old.jobs at c.behind in
    ap (λ js. slice_get js j) c.jobs ∙ get_inside (slice_set old.jobs at c.behind) c.more j (omega (arith, low, many))
    ∙ get_set_other old.jobs at j c.behind away

-- who may wait
pub may_wait : (s : Setting) (at : ℕ) (old new : Moment) (object : Object) (number : ℕ) → IsTurn s at old (turn.Busy object number) new
    → MayWait s at old object number
may_wait s at old new object number t =
    row_waits s at old new t.job t.there object number (busy_row s at old new t.job t.there object number t.job.doing refl t.row)

-- and that it is counted
pub waits_counted : (s : Setting) (at : ℕ) (old new : Moment) (object : Object) (number : ℕ) → IsTurn s at old (turn.Busy object number) new
    → (job is : JobView) → slice_get old.jobs at ≡ Some job → slice_get new.jobs at ≡ Some is → is.busy ≡ job.busy + 1
waits_counted s at old new object number t job is there got =
    let same : t.job ≡ job = let both : Some t.job ≡ Some job = sym t.there ∙ there in cc both in
    row_counts s at old new t.job t.there object number (busy_row s at old new t.job t.there object number t.job.doing refl t.row) is got
    ∙ ap (λ (j : JobView). j.busy + 1) same

-- who is marked
pub marks_made : (s : Setting) (at : ℕ) (old new : Moment) (answer : Turn) (number : ℕ) (m : Mark) → IsTurn s at old answer new → new.marks number ≡ Some m
    → (old.marks number ≡ Some m) ⊎ IsMarkedBy at old answer number m
marks_made s at old new answer number m t has = doing_made s at old new t.job t.there number m has t.job.doing refl answer t.row
