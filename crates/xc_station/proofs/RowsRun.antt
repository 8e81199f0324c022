-- Rows of the turn of a job whose transaction runs, but for calls whose claims are granted.
use Rattle.std.proofs.Common.{◌≡◌, ◌⊎◌, inl, inr, ℕ, ◌<◌, ◌≤◌, Bool, true, false, List, [], length, refl, ap, sym, ◌∙◌, subst, arith}
use Rattle.std.proofs.Math.Decide.{dec_le}
use Rattle.std.specs.Prelude.{Option, is_some, unwrap_or, IsSome, Err, nat_lt, slice_set, if◌then◌else◌}
use Rattle.std.specs.declared.option.Option.TheVariants.{None, Some}
use mathlib.Core.Logic.{dite}
use borrow.Author.Tests.{ltb-false, ltb-true}
use Rattle.xc_data.specs.Step.{Step}
use Rattle.xc_data.specs.declared.call.Call.{Call}
use Rattle.xc_data.specs.declared.call.Call.TheVariants as call
use Rattle.xc_world.specs.Fits.{is_back}
use Rattle.xc_data.specs.declared.claim.Claim.{Claim}
use Rattle.xc_data.specs.declared.entry.Cause.TheVariants as cause
use Rattle.xc_data.specs.declared.entry.Mark.{Mark}
use Rattle.xc_data.specs.declared.entry.Turn.{Turn}
use Rattle.xc_data.specs.declared.entry.Turn.TheVariants as turn
use Rattle.xc_data.specs.declared.entry.KeptItem.{KeptItem}
use Rattle.xc_data.specs.declared.object.Object.{Object}
use Rattle.xc_data.specs.declared.script.HostCallKind.{HostCallKind}
use Rattle.xc_host.specs.Model.{HostModel}
use Rattle.xc_script.specs.declared.ask.Ask.{Ask}
use Rattle.xc_script.specs.declared.ask.Ask.TheVariants as ask
use Rattle.xc_text.specs.declared.script.Script.{Script}
use Rattle.xc_text.specs.Stated.{Statement}
use Rattle.xc_script.specs.Walks.{Walk}
use Rattle.xc_script.specs.Asking.{asks}
use Rattle.xc_script.specs.Ask.{asks_from, next_body}
use Rattle.xc_script.specs.Position.{Position, job_of, walk_of, IsPastSilent}
use Rattle.xc_sentinel.specs.declared.seat.Seat.{Seat}
use Rattle.xc_sentinel.specs.declared.sentinels.Sentinels.{Sentinels}
use Rattle.xc_sentinel.specs.Seating.{KeepsSeats, seat_in}
use Rattle.xc_sentinel.specs.Asking.{IsYounger}
use Rattle.xc_txmem.specs.Overlay.{overlaid}
use Rattle.xc_world.specs.Modes.{claims_of}
use Rattle.xc_locks.specs.Table.{Table, mode_in, held_mode}
use Rattle.xc_locks.specs.Met as met
use Rattle.xc_model.specs.declared.phase.Phase.TheVariants.{Committing, Undoing, Backing}
use Rattle.xc_model.specs.Setting.{Setting}
use Rattle.xc_model.specs.Moment.{TxView, JobView, Moment, Active, active_in, asked_to_wait, with_job}
use Rattle.xc_model.specs.RunningRows.{AskedTurn, CalledTurn, Calls, Conflicts, HoldsWanting, KeepsWanting}
use Rattle.xc_model.specs.Live.{IsScripted, asked_by, has_clients}
use Rattle.xc_model.specs.Movers.{IsActiveAt, IsSamePosition, asked_at}
use Rattle.xc_turns.proofs.Laws.{asks_scripted}
use Rattle.xc_model.specs.Rivals.{IsFirstRival}
use Rattle.xc_model.specs.Movers.{Mover, mover, with_tx}
use Rattle.xc_model.specs.RunningRows.{RunningTurn, marks_with}
use Rattle.xc_model.specs.PlainSteps.{StopsAt, wanting}
use Rattle.xc_station.specs.declared.calls.Shared.{Shared}
use Rattle.xc_station.specs.declared.tx.Tx.{Tx}
use Rattle.xc_station.specs.declared.tx.Saved.{Saved}
use Rattle.xc_station.specs.Handed.{handed_back, handed_tx}
use Rattle.xc_station.specs.Jobs.{saved_in, tx_view}
use Rattle.xc_station.specs.Moments.{Front, front_of, told_by, told_front}
use Rattle.xc_station.specs.Moments.{AreTerms, HasClaimed, HasTx, IsAt, IsRefused, IsRow, IsToldToWait, busy_counted, marks_of, moved, runs, seated_as}
use Rattle.xc_station.proofs.Rivals.{first_rival}
use Rattle.xc_station.proofs.Seated.{marks_kept, marks_marked}
use Rattle.xc_station.proofs.TakenAgain.{none_taken_for}
use Rattle.xc_station.proofs.Tracked.{tracked_on}
use Rattle.xc_station.proofs.WordActs.{append_nil}

-- with words and host as before, and these marks, a moment differs in one job alone
moved_same : {H : Type 0} (model : HostModel H) (behind : Shared H) (now : Moment) (at : ℕ) (job : JobView) → behind.words ≡ now.words
    → told_by model behind ≡ now.contents → model.fault_count behind.host ≡ now.faults → model.calls behind.host ≡ now.calls
    → behind.buffers.kept ≡ now.kept → (marks : ℕ → Option Mark)
    → marks_of behind.sentinels.seats ≡ marks → moved model behind job now at ≡ record (with_job now at job) { marks = marks }
moved_same model behind now at job words contents faults calls kept marks same i =
    record (with_job now at job) { words = words i; contents = contents i; faults = faults i; calls = calls i; kept = kept i; marks = same i }

-- what is held stays
as_before : (m : Mover) (tx : TxView) (a : Ask) → HoldsWanting m tx a [] tx.held
as_before m tx (ask.Call call) = inl (refl, refl)
as_before m tx ask.Commit = (refl, refl)
as_before m tx ask.Abort = (refl, refl)
as_before m tx ask.End = (refl, refl)

-- what is kept is the same
kept_still : (m : Mover) (tx : TxView) (a : Ask) (kept : Step (List KeptItem)) → kept.new ≡ kept.old → KeepsWanting m tx a kept
kept_still m tx (ask.Call call) kept same = none_taken_for call tx.me kept (record {}) same
kept_still m tx ask.Commit kept same = same
kept_still m tx ask.Abort kept same = same
kept_still m tx ask.End kept same = same

-- the host wasn't called
no_calls : (a : Ask) → StopsAt a []
no_calls (ask.Call call) = inl refl
no_calls ask.Commit = refl
no_calls ask.Abort = refl
no_calls ask.End = refl

-- ---- what is asked
-- of a script silent statements lead to what is asked
pub asked_of_script : (s : Setting) (job : JobView) (place : Position) (tx : TxView) (a : Ask) → IsScripted s.script → HasTx s job place tx
    → asks (walk_of s.script place) ≡ a → asked_at s job ≡ a
asked_of_script s job place tx a own has asked = asks_scripted s job own ∙ ap asks (sym has.same.walk) ∙ asked

-- a call that is tried is asked: by the script, or as it is handed in
pub asked_call : (s : Setting) (job : JobView) (place : Position) (tx : TxView) (handed : Option Ask) (call : Call) → HasTx s job place tx
    → (IsScripted s.script → asks (walk_of s.script place) ≡ ask.Call call) → job.handed ≡ handed_back s.script handed call → asked_at s job ≡ ask.Call call
asked_call s job place tx handed call has asked holds = go (has_clients s.script) refl
  where
    go : (b : Bool) → has_clients s.script ≡ b → asked_at s job ≡ ask.Call call
    go true live =
        ap (λ (b : Bool). asked_by b s.script job.handed job.place) live
        ∙ ap (λ (o : Option Ask). unwrap_or o ask.End) (holds ∙ ap (λ (b : Bool). if b then Some (ask.Call call) else handed) live)
    go false own = asked_of_script s job place tx (ask.Call call) own has (asked own)

-- of a client what it has handed in
pub asked_of_client : (s : Setting) (job : JobView) (a : Ask) → has_clients s.script ≡ true → job.handed ≡ Some a → asked_at s job ≡ a
asked_of_client s job a live holds =
    ap (λ (b : Bool). asked_by b s.script job.handed job.place) live ∙ ap (λ (o : Option Ask). unwrap_or o ask.End) holds

-- so the turn is that of what is asked
pub asked_row : (s : Setting) (at : ℕ) (now new : Moment) (job : JobView) (tx : TxView) (a : Ask) → asked_at s job ≡ a
    → AskedTurn (mover s at now job) tx a new → RunningTurn (mover s at now job) tx turn.Went new
asked_row s at now new job tx a asked row = subst (λ b. AskedTurn (mover s at now job) tx b new) (sym asked) row

-- a client's call stays handed in
pub handed_live : (script : Script) (handed : Option Ask) (call : Call) → has_clients script ≡ true → Some (ask.Call call) ≡ handed_back script handed call
handed_live script handed call live = ap (λ (b : Bool). if b then Some (ask.Call call) else handed) (sym live)

-- with this handed in, as before
handed_so : (job : JobView) (handed : Option Ask) (place : Position) (tx : TxView) → job.handed ≡ handed → with_tx job place tx ≡ handed_tx job handed place tx
handed_so job handed place tx same = λ i. record (with_tx job place tx) { handed = same i }

-- a row after which what was handed in is as before
pub row_handed : {H : Type 0} (model : HostModel H) (s : Setting) (at : ℕ) (now : Moment) (job : JobView) (behind : Shared H) (handed : Option Ask)
    (place : Position) (tx : TxView) (answer : Turn) (claims : Table) → job.handed ≡ handed
    → IsRow (mover s at now job) (moved model behind (busy_counted answer (with_tx job place tx)) now at) answer claims
    → IsRow (mover s at now job) (moved model behind (busy_counted answer (handed_tx job handed place tx)) now at) answer claims
row_handed model s at now job behind handed place tx answer claims same row =
    subst (λ (j : JobView). IsRow (mover s at now job) (moved model behind (busy_counted answer j) now at) answer claims)
    (handed_so job handed place tx same) row

-- so it is of a call that isn't a back: it is done, or meets a holder
pub called_turn : (m : Mover) (tx : TxView) (c : Call) (new : Moment) → is_back c ≡ false → Calls m tx c new ⊎ Conflicts m tx c new → CalledTurn m tx c new
called_turn m tx call.Back new ahead row = cc ahead
called_turn m tx _ new ahead row = row

-- where whoever has patience isn't younger, patience is spent or the holder isn't younger
stopped : (n m busy patience : ℕ) (b : Bool) → nat_lt busy patience ≡ b → (nat_lt busy patience ≡ true → n < m → ⊥) → (m ≤ n) ⊎ (patience ≤ busy)
stopped n m busy patience true is never = dite (dec_le m n) (λ (le : m ≤ n). inl le) (λ (above : m ≤ n → ⊥). absurd (never is (omega arith)))
stopped n m busy patience false is never = inr (ltb-false busy patience is)

-- ---- rows
module _ {H : Type 0} (model : HostModel H) (s : Setting) (shared : Shared H) (now : Moment) (at : ℕ) (job : JobView) (place : Position) (old : Tx)
    (here : IsAt model shared now at job) (has : HasTx s job place (tx_view old)) where
  active : IsActiveAt now.jobs at (tx_view old)
  active = (job, here.there, ap active_in has.doing)

  -- a turn in which nothing is held more
  row_same : (behind : Shared H) (job' : JobView) (tx : TxView) (answer : Turn) → behind.sentinels.claims ≡ shared.sentinels.claims → job'.doing ≡ Active tx
      → tx.number ≡ old.number → tx.held ≡ old.held.items → RunningTurn (mover s at now job) (tx_view old) answer (moved model behind job' now at)
      → IsRow (mover s at now job) (moved model behind job' now at) answer behind.sentinels.claims
  row_same behind job' tx answer claims doing number held row =
      record {
        tx = tx_view old;
        doing = has.doing;
        row = row;
        table = λ o. tracked_on (λ n. held_mode shared.sentinels.claims n o) (λ (t : TxView). mode_in t.held o) now.jobs (here.table o)
            (λ n. held_mode behind.sentinels.claims n o) at job job' here.there here.single (tx_view old) (ap active_in has.doing)
            (λ n ne. ap (λ (t : Table). held_mode t n o) claims) tx (ap active_in doing) number
            (ap (λ (t : Table). held_mode t old.number o) claims ∙ (here.table o).held at (tx_view old) active
            ∙ ap (λ (h : List Claim). mode_in h o) (sym held));
      }

  -- ---- a claim is met
  met_now : (call : Call) (object : Object) (holder : ℕ) → IsFirstRival now.jobs at (claims_of call old.me.value (length shared.words)) object holder
      → IsFirstRival now.jobs at (claims_of call old.me.value (length now.words)) object holder
  met_now call object holder met =
      subst (λ n. IsFirstRival now.jobs at (claims_of call old.me.value n) object holder) (sym (ap length here.words)) met

  same_moment : (behind : Shared H) (job' : JobView) → front_of behind ≡ front_of shared → behind.words ≡ shared.words → (marks : ℕ → Option Mark)
      → marks_of behind.sentinels.seats ≡ marks → moved model behind job' now at ≡ record (with_job now at job') { marks = marks }
  same_moment behind job' host words marks same = moved_same model behind now at job' (words ∙ sym here.words) (ap (told_front model) host ∙ sym here.contents)
      (ap (λ (f : Front H). model.fault_count f.host) host ∙ sym here.faults) (ap (λ (f : Front H). model.calls f.host) host ∙ sym here.calls)
      (ap (λ (f : Front H). f.lent.kept) host ∙ sym here.kept) marks same

  -- the seats stay, so nobody is marked
  unmarked_moment : (behind : Shared H) (job' : JobView) → front_of behind ≡ front_of shared → behind.words ≡ shared.words
      → KeepsSeats shared.sentinels.seats behind.sentinels.seats → moved model behind job' now at ≡ with_job now at job'
  unmarked_moment behind job' host words kept = same_moment behind job' host words now.marks
      (marks_kept shared.sentinels.seats behind.sentinels.seats kept ∙ sym here.marks)

  -- whoever has a number has its seat
  module _ (j : ℕ) (u : TxView) (there : IsActiveAt now.jobs j u) where
    its_seat : seated_as (seat_in shared.sentinels.seats u.number) ≡ Some (u.rank, runs u.phase)
    its_seat = here.seats.held j u there

  younger_as : (mine its : Option Seat) (t u : TxView) → seated_as mine ≡ Some (t.rank, runs t.phase) → seated_as its ≡ Some (u.rank, runs u.phase)
      → (IsYounger mine its → t.rank < u.rank) × (t.rank < u.rank → IsYounger mine its)
  younger_as None its t u a b = absurd (let bad : ⊥ = cc a in bad)
  younger_as (Some m) None t u a b = absurd (let bad : ⊥ = cc b in bad)
  younger_as (Some m) (Some i) t u a b =
      let mine : m.rank ≡ t.rank = let p : ◌≡◌ {A = ℕ × Bool} (m.rank, m.running) (t.rank, runs t.phase) = cc a in ap (λ (q : ℕ × Bool). q.0) p in
      let its : i.rank ≡ u.rank = let p : ◌≡◌ {A = ℕ × Bool} (i.rank, i.running) (u.rank, runs u.phase) = cc b in ap (λ (q : ℕ × Bool). q.0) p in (
        λ less. omega (arith, mine, its, less),
        λ less. omega (arith, mine, its, less),
      )

  -- a rival is younger exactly where its seat is
  younger : (claims : List Claim) (object : Object) (holder : ℕ) (met : IsFirstRival now.jobs at claims object holder)
      → (IsYounger (seat_in shared.sentinels.seats old.number) (seat_in shared.sentinels.seats holder) → old.rank < met.rival.rival.rank)
      × (old.rank < met.rival.rival.rank → IsYounger (seat_in shared.sentinels.seats old.number) (seat_in shared.sentinels.seats holder))
  younger claims object holder met =
      let rival = met.rival in
      younger_as (seat_in shared.sentinels.seats old.number) (seat_in shared.sentinels.seats holder) (tx_view old) rival.rival
      (its_seat at (tx_view old) active)
      (ap (λ n. seated_as (seat_in shared.sentinels.seats n)) (sym rival.numbered) ∙ its_seat rival.place rival.rival rival.active)

  rival_now : (call : Call) (object : Object) (holder : ℕ)
      → met.IsFirstMet shared.sentinels.claims (claims_of call old.me.value (length shared.words)) old.number object holder
      → IsFirstRival now.jobs at (claims_of call old.me.value (length now.words)) object holder
  rival_now call object holder first =
      met_now call object holder (first_rival now.jobs at (tx_view old) shared.sentinels.claims here.table here.single here.apart active
      (claims_of call old.me.value (length shared.words)) object holder first)

  -- another holds something against it
  pub refused : (behind : Shared H) (new : Tx) (call : Call) (patient : Bool) (entered : ℕ) → is_back call ≡ false → front_of behind ≡ front_of shared
      → behind.words ≡ shared.words
      → asked_at s job ≡ ask.Call call → AreTerms s.rules now job patient entered
      → IsRefused (record { old = shared.sentinels; new = behind.sentinels }) (record { old = old; new = new })
      (record { claims = claims_of call old.me.value (length shared.words); patient = patient; at = entered })
      → IsRow (mover s at now job) (moved model behind (with_tx job place (tx_view new)) now at) turn.Went behind.sentinels.claims
  refused behind new call patient entered ahead host words asked terms r =
      let undoing = λ (n : ℕ). record (tx_view old) { phase = Undoing (cause.Conflict r.object r.holder n) } in
      let is : tx_view new ≡ undoing (length now.journal) = r.undoes ∙ ap undoing (sym terms.entered) in
      let met = rival_now call r.object r.holder r.conflict.met in
      let kept : KeepsSeats shared.sentinels.seats behind.sentinels.seats = λ n. ap (λ (t : Sentinels). seat_in t.seats n) r.conflict.same in
      row_same behind (with_tx job place (tx_view new)) (tx_view new) turn.Went (ap (λ (t : Sentinels). t.claims) r.conflict.same) refl
      (ap (λ (t : TxView). t.number) r.undoes) (ap (λ (t : TxView). t.held) r.undoes)
      (asked_row s at now (moved model behind (with_tx job place (tx_view new)) now at) job (tx_view old) (ask.Call call) asked
      (called_turn (mover s at now job) (tx_view old) call (moved model behind (with_tx job place (tx_view new)) now at) ahead (inr (record {
        object = r.object;
        holder = r.holder;
        met = met;
        stops = stopped old.rank met.rival.rival.rank job.busy s.rules.patience (nat_lt job.busy s.rules.patience) refl (λ patient' less.
            r.conflict.stops (terms.patience ∙ patient') ((younger _ r.object r.holder met).1 less));
        place = place;
        same = has.same;
        behind = unmarked_moment behind (with_tx job place (tx_view new)) host words kept
            ∙ ap (λ (t : TxView). with_job now at (with_tx job place t)) is;
      }))))

  -- a younger one does, and is waited for
  pub told_to_wait : (behind : Shared H) (new : Tx) (call : Call) (patient : Bool) (entered : ℕ) (object : Object) (holder : ℕ)
      → front_of behind ≡ front_of shared
      → behind.words ≡ shared.words → asked_at s job ≡ ask.Call call → AreTerms s.rules now job patient entered
      → IsToldToWait (record { old = shared.sentinels; new = behind.sentinels }) (record { old = old; new = new })
      (record { claims = claims_of call old.me.value (length shared.words); patient = patient; at = entered }) object holder
      → IsRow (mover s at now job) (moved model behind (asked_to_wait (with_tx job place (tx_view new))) now at)
      (turn.Busy object holder) behind.sentinels.claims
  told_to_wait behind new call patient entered object holder host words asked terms w =
      let met = rival_now call object holder w.busy.met in
      let rival = met.rival in
      let mark : ℕ → Mark = λ n. record { object = object; by = old.number; at = n } in
      let marks' : marks_of behind.sentinels.seats ≡ marks_with now.marks rival.rival (mark (length now.journal)) =
      marks_marked shared.sentinels.seats behind.sentinels.seats holder (mark entered) w.busy.mark rival.rival rival.numbered
      (ap (λ n. seated_as (seat_in shared.sentinels.seats n)) (sym rival.numbered) ∙ its_seat rival.place rival.rival rival.active)
      ∙ ap (λ ms. marks_with ms rival.rival (mark entered)) (sym here.marks) ∙ ap (λ n. marks_with now.marks rival.rival (mark n)) (sym terms.entered) in
      row_same behind (asked_to_wait (with_tx job place (tx_view new))) (tx_view new) (turn.Busy object holder) (ap (λ (t : Table). t) w.busy.table) refl
      (ap (λ (t : TxView). t.number) w.still) (ap (λ (t : TxView). t.held) w.still)
      (record {
        call = call;
        asked = asked;
        met = met;
        younger = (younger _ object holder met).0 w.busy.younger;
        patient = ltb-true job.busy s.rules.patience (sym terms.patience ∙ w.busy.patience);
        place = place;
        same = has.same;
        behind = same_moment behind (asked_to_wait (with_tx job place (tx_view new))) host words
            (marks_with now.marks rival.rival (mark (length now.journal))) marks'
            ∙ ap (λ (t : TxView). record (with_job now at (asked_to_wait (with_tx job place t)))
            { marks = marks_with now.marks rival.rival (mark (length now.journal)) })
            w.still;
      })

  -- ---- no claim is granted
  -- no record is left
  without_record : record (tx_view old) { phase = Undoing cause.NoMemory } ≡ wanting (tx_view old) [] old.held.items
  without_record = ap (λ us. record (tx_view old) { phase = Undoing cause.NoMemory; undo = record old.undo { pending = us } })
      (sym (append_nil old.undo.pending))

  -- memory runs out before the claims
  pub starved_turn_row : (behind : Shared H) (new : Tx) (answer : Turn) → front_of behind ≡ front_of shared → behind.words ≡ shared.words
      → behind.sentinels ≡ shared.sentinels
      → tx_view new ≡ record (tx_view old) { phase = Undoing cause.NoMemory } → answer ≡ turn.NoMemory
      → IsRow (mover s at now job) (moved model behind (busy_counted answer (with_tx job place (tx_view new))) now at) answer behind.sentinels.claims
  starved_turn_row behind new answer host words same is gives =
      let kept : KeepsSeats shared.sentinels.seats behind.sentinels.seats = λ n. ap (λ (t : Sentinels). seat_in t.seats n) same in
      subst (λ a. IsRow (mover s at now job) (moved model behind (busy_counted a (with_tx job place (tx_view new))) now at) a behind.sentinels.claims)
      (sym gives)
      (row_same behind (with_tx job place (tx_view new)) (tx_view new) turn.NoMemory (ap (λ (t : Sentinels). t.claims) same) refl
      (ap (λ (t : TxView). t.number) is) (ap (λ (t : TxView). t.held) is)
      (record {
        place = place;
        same = has.same;
        left = [];
        one = omega arith;
        held = old.held.items;
        holds = as_before (mover s at now job) (tx_view old) (asked_at s job);
        behind = unmarked_moment behind (with_tx job place (tx_view new)) host words kept
            ∙ ap (λ (t : TxView). with_job now at (with_tx job place t)) (is ∙ without_record)
            ∙ (λ i. record (with_job now at (with_tx job place (wanting (tx_view old) [] old.held.items))) {
              contents = (here.contents ∙ sym (ap (told_front model) host)) i;
              calls = (here.calls ∙ sym (ap (λ (f : Front H). model.calls f.host) host)) i;
              kept = (here.kept ∙ sym (ap (λ (f : Front H). f.lent.kept) host)) i;
            });
        kept = kept_still (mover s at now job) (tx_view old) (asked_at s job)
            (record { old = now.kept; new = behind.buffers.kept }) (ap (λ (f : Front H). f.lent.kept) host ∙ sym here.kept);
        uses = (
          [],
          no_calls (asked_at s job),
          λ kind. ap (λ (calls : HostCallKind → ℕ). calls kind) (ap (λ (f : Front H). model.calls f.host) host ∙ sym here.calls),
        );
        contents = λ _. inl (refl, ap (told_front model) host ∙ sym here.contents);
      }))

  -- ---- the commit, and the abort that is asked
  -- its stores are written
  pub commit_turn_row : (behind : Shared H) (new : Tx) → front_of behind ≡ front_of shared → behind.words ≡ overlaid shared.words old.writes.stores
      → behind.sentinels ≡ shared.sentinels
      → tx_view new ≡ record (tx_view old) { phase = Committing } → asked_at s job ≡ ask.Commit → IsPastSilent s.script place
      → IsRow (mover s at now job) (moved model behind (with_tx job place (tx_view new)) now at) turn.Went behind.sentinels.claims
  commit_turn_row behind new host words same is asked settled =
      row_same behind (with_tx job place (tx_view new)) (tx_view new) turn.Went (ap (λ (t : Sentinels). t.claims) same) refl
      (ap (λ (t : TxView). t.number) is) (ap (λ (t : TxView). t.held) is)
      (asked_row s at now (moved model behind (with_tx job place (tx_view new)) now at) job (tx_view old) ask.Commit asked (record {
        place = place;
        same = has.same;
        settled = settled;
        behind = λ i. record now {
          words = (words ∙ ap (λ (ws : List ℕ). overlaid ws old.writes.stores) (sym here.words)) i;
          contents = (ap (told_front model) host ∙ sym here.contents) i;
          faults = (ap (λ (f : Front H). model.fault_count f.host) host ∙ sym here.faults) i;
          calls = (ap (λ (f : Front H). model.calls f.host) host ∙ sym here.calls) i;
          kept = (ap (λ (f : Front H). f.lent.kept) host ∙ sym here.kept) i;
          jobs = slice_set now.jobs at (with_tx job place (is i));
          marks = (ap (λ (t : Sentinels). marks_of t.seats) same ∙ sym here.marks) i;
        };
      }))

  -- the script asks its abort
  pub abort_turn_row : (behind : Shared H) (new : Tx) → front_of behind ≡ front_of shared → behind.words ≡ shared.words → behind.sentinels ≡ shared.sentinels
      → tx_view new ≡ record (tx_view old) { phase = Undoing cause.Asked } → asked_at s job ≡ ask.Abort
      → IsRow (mover s at now job) (moved model behind (with_tx job place (tx_view new)) now at) turn.Went behind.sentinels.claims
  abort_turn_row behind new host words same is asked =
      row_same behind (with_tx job place (tx_view new)) (tx_view new) turn.Went (ap (λ (t : Sentinels). t.claims) same) refl
      (ap (λ (t : TxView). t.number) is) (ap (λ (t : TxView). t.held) is)
      (asked_row s at now (moved model behind (with_tx job place (tx_view new)) now at) job (tx_view old) ask.Abort asked (record {
        place = place;
        same = has.same;
        behind = unmarked_moment behind (with_tx job place (tx_view new)) host words (λ n. ap (λ (t : Sentinels). seat_in t.seats n) same)
            ∙ ap (λ (t : TxView). with_job now at (with_tx job place t)) is;
      }))

  -- the script asks it to go back to its block's begin
  pub begins_back : (behind : Shared H) (new : Tx) → front_of behind ≡ front_of shared → behind.words ≡ shared.words → behind.sentinels ≡ shared.sentinels
      → tx_view new ≡ record (tx_view old) { phase = Backing } → asked_at s job ≡ ask.Call call.Back → IsPastSilent s.script place
      → IsSome (tx_view old).saved
      → IsRow (mover s at now job) (moved model behind (with_tx job place (tx_view new)) now at) turn.Went behind.sentinels.claims
  begins_back behind new host words same is asked settled opened =
      row_same behind (with_tx job place (tx_view new)) (tx_view new) turn.Went (ap (λ (t : Sentinels). t.claims) same) refl
      (ap (λ (t : TxView). t.number) is) (ap (λ (t : TxView). t.held) is)
      (asked_row s at now (moved model behind (with_tx job place (tx_view new)) now at) job (tx_view old) (ask.Call call.Back) asked (record {
        place = place;
        same = has.same;
        settled = settled;
        opened = opened;
        behind = unmarked_moment behind (with_tx job place (tx_view new)) host words (λ n. ap (λ (t : Sentinels). seat_in t.seats n) same)
            ∙ ap (λ (t : TxView). with_job now at (with_tx job place t)) is;
      }))

  -- the claims failed
  pub unclaimed : (behind : Shared H) (new : Tx) (call : Call) (patient : Bool) (entered : ℕ) (answer : Turn) → is_back call ≡ false
      → front_of behind ≡ front_of shared
      → behind.words ≡ shared.words → asked_at s job ≡ ask.Call call → AreTerms s.rules now job patient entered
      → HasClaimed (record { old = shared.sentinels; new = behind.sentinels }) (record { old = old; new = new })
      (record { claims = claims_of call old.me.value (length shared.words); patient = patient; at = entered }) (Err answer)
      → IsRow (mover s at now job) (moved model behind (busy_counted answer (with_tx job place (tx_view new))) now at) answer behind.sentinels.claims
  unclaimed behind new call patient entered turn.Went ahead host words asked terms r = refused behind new call patient entered ahead host words asked terms r
  unclaimed behind new call patient entered (turn.Busy object holder) ahead host words asked terms w =
      told_to_wait behind new call patient entered object holder host words asked terms w
  unclaimed behind new call patient entered turn.NoMemory ahead host words asked terms w =
      starved_turn_row behind new turn.NoMemory host words w.same w.undoes refl
  unclaimed behind new call patient entered (turn.Ended end) ahead host words asked terms r = absurd r

-- ---- what is asked
-- a transaction at a place that silent statements lead to
pub has_tx : (s : Setting) (job : JobView) (was place : Position) (tx : TxView) → job.doing ≡ Active tx → job.place ≡ was → IsSamePosition s was place
    → HasTx s job place tx
has_tx s job was place tx doing stands same = record { doing = doing; same = subst (λ p. IsSamePosition s p place) (sym stands) same }

asks_left : (o : Option (List Statement)) (walk : Walk) → IsSome o → asks_from o walk ≡ asks walk
asks_left None walk some = cc
asks_left (Some body) walk some = refl

-- a transaction at the place where its job stands
pub stands_with_tx : (s : Setting) (job : JobView) (place : Position) (tx : TxView) → job.doing ≡ Active tx → job.place ≡ place → HasTx s job place tx
stands_with_tx s job place tx doing stands =
    has_tx s job place place tx doing stands
    (record { begin = record { block = refl; next = refl; begun = refl }; walk = refl; saved = refl; at = omega arith })

-- with a transaction left, the walk asks
pub asked_walk : (script : Script) (was place : Position) (a : Ask) → IsSome (next_body script (job_of was)) → walk_of script place ≡ walk_of script was
    → a ≡ asks_from (next_body script (job_of was)) (walk_of script was) → asks (walk_of script place) ≡ a
asked_walk script was place a left walk value =
    ap asks walk ∙ sym (asks_left (next_body script (job_of was)) (walk_of script was) left) ∙ sym value

-- by the answer of a turn that may have begun a way back
pub begun_or_wanting : (P : Turn → Type 0) (answer : Turn) → (answer ≡ turn.Went → P turn.Went)
    → ((answer ≡ turn.Went → ⊥) → (answer ≡ turn.NoMemory) × P turn.NoMemory) → P answer
begun_or_wanting P turn.Went went wanting = went refl
begun_or_wanting P turn.NoMemory went wanting = (wanting (λ e. cc e)).1
begun_or_wanting P (turn.Busy object holder) went wanting = absurd (let no = (wanting (λ e. cc e)).0 in cc no)
begun_or_wanting P (turn.Ended end) went wanting = absurd (let no = (wanting (λ e. cc e)).0 in cc no)

-- a block is open in what contracts see where one is
pub opened_seen : (tx : Tx) (o : Option Saved) → is_some o ≡ true → IsSome (saved_in tx o)
opened_seen tx None is = cc is
opened_seen tx (Some kept) is = refl

-- a back is one call
pub back_is : (c : Call) → is_back c ≡ true → c ≡ call.Back
back_is call.Back is = refl
back_is _ is = cc is
