-- Rows of the turn of a job whose transaction runs, of a call whose claims are granted: it is done, or memory runs out.
use Rattle.std.proofs.Common.{◌≡◌, ◌⊎◌, inl, inr, ℕ, ◌<◌, false, List, [], ◌∷◌, ◌++◌, length, IsTrue, refl, ap, sym, ◌∙◌, subst, arith}
use Rattle.std.specs.Prelude.{All, Result, Ok, Err}
use Rattle.xc_data.specs.Claims.{holding}
use Rattle.xc_data.specs.Counts.{CountsFault}
use Rattle.xc_data.specs.Faults.{is_fault_reply}
use Rattle.xc_data.specs.declared.call.Call.{Call}
use Rattle.xc_data.specs.declared.call.Answer.{Answer}
use Rattle.xc_data.specs.declared.call.Reply.{Reply}
use Rattle.xc_data.specs.declared.claim.Claim.{Claim}
use Rattle.xc_data.specs.declared.entry.Cause.TheVariants as cause
use Rattle.xc_data.specs.declared.entry.Turn.{Turn}
use Rattle.xc_data.specs.declared.entry.Turn.TheVariants as turn
use Rattle.xc_data.specs.declared.memory.NoMemory.{NoMemory}
use Rattle.xc_host.specs.Contents.{Contents}
use Rattle.xc_data.specs.declared.script.HostCallKind.{HostCallKind}
use Rattle.xc_host.specs.Cause.{IsCalled}
use Rattle.xc_host.specs.Model.{HostModel}
use Rattle.xc_host.specs.Uses.{CallsOf, Uses}
use Rattle.xc_calls.specs.Taking.{HasTaken}
use Rattle.xc_script.specs.declared.ask.Ask.TheVariants as ask
use Rattle.xc_script.specs.Answers.{answered}
use Rattle.xc_script.specs.Position.{Position, walk_of}
use Rattle.xc_txmem.specs.Overlay.{overlaid}
use Rattle.xc_world.specs.After.{IsMeAfter}
use Rattle.xc_world.specs.Checks.{IsChecked, refusal_of}
use Rattle.xc_world.specs.Modes.{claims_of}
use Rattle.xc_locks.specs.Table.{claimed, mode_in, held_mode}
use Rattle.xc_locks.proofs.Laws.{claimed-holding}
use Rattle.xc_model.specs.declared.phase.Phase.TheVariants.{Undoing}
use Rattle.xc_model.specs.Setting.{Setting}
use Rattle.xc_model.specs.Moment.{TxView, JobView, Active, Moment, active_in, kept_between, with_job}
use Rattle.xc_model.specs.WordCalls.{IsWordStep}
use Rattle.xc_model.specs.RunningRows.{Calls, HoldsWanting, IsDoneWhere, KeepsWanting, opens_or_closes}
use Rattle.xc_model.specs.PlainSteps.{StepsAsPlainIn, LeavesAsPlainIn, IsLeft}
use Rattle.xc_model.specs.Live.{IsScripted}
use Rattle.xc_model.specs.Movers.{HasCalled, IsActiveAt, IsSameBegin, answered_with, asked_at, mover}
use Rattle.xc_model.specs.Rivals.{HasNoRival}
use Rattle.xc_model.specs.Movers.{IsSamePosition, with_tx}
use Rattle.xc_model.specs.PlainSteps.{IsReplyInTime, Parts, StopsAt, copied, noting, noting_plain, saved_by, tx_parts, stored_by, wanting}
use Rattle.xc_model.specs.RunningRows.{RunningTurn}
use Rattle.xc_station.specs.declared.calls.Shared.{Shared}
use Rattle.xc_station.specs.declared.tx.Tx.{Tx}
use Rattle.xc_station.specs.Acting.{HasDoneAsPlain, LeavesOff, acting, leaving, with_parts}
use Rattle.xc_station.specs.Jobs.{tx_view}
use Rattle.xc_station.specs.Moments.{HasTx, IsAt, IsGranted, IsRow, Front, busy_counted, front_of, marks_of, moved, told_by, told_front}
use Rattle.xc_world.specs.Fits.{is_back}
use Rattle.xc_station.proofs.DoingsBlocks.{no_way_back}
use Rattle.xc_station.proofs.RowsRun.{asked_row, called_turn}
use Rattle.xc_station.proofs.Rivals.{none_met}
use Rattle.xc_station.proofs.Seated.{marks_kept}
use Rattle.xc_station.proofs.Tracked.{tracked_on}

-- the job stands after the reply to a call, and a save keeps what the variables held there
pub record IsBehindCall (s : Setting) (call : Call) (old new : Position) (reply : Reply) : Type 0 where
  pub begin : IsSameBegin old new
  pub walk : walk_of s.script new ≡ answered (walk_of s.script old) reply
  pub nearer : IsScripted s.script → old.at < new.at
  pub values : new.saved ≡ saved_by call old.saved (walk_of s.script old).variables.values

-- a call that isn't a back: it did what it does of blocks
pub record DoesBlocks (call : Call) (old new : TxView) (reply : Reply) : Type 0 where
  pub ahead : is_back call ≡ false
  pub done : IsDoneWhere (opens_or_closes call) reply
  pub saved : new.saved ≡ saved_by call old.saved (copied new)

-- ---- after granted claims
module _ {H : Type 0} (model : HostModel H) (s : Setting) (shared : Shared H) (now : Moment) (at : ℕ) (job : JobView) (place : Position) (old : Tx)
    (here : IsAt model shared now at job) (has : HasTx s job place (tx_view old)) (behind : Shared H) (mid : Tx) (call : Call)
    (words : behind.words ≡ shared.words) (asked : asked_at s job ≡ ask.Call call)
    (g : IsGranted (record { old = shared.sentinels; new = behind.sentinels }) (record { old = old; new = mid })
    (claims_of call old.me.value (length shared.words))) where
  active : IsActiveAt now.jobs at (tx_view old)
  active = (job, here.there, ap active_in has.doing)

  claims_now : claims_of call old.me.value (length shared.words) ≡ claims_of call old.me.value (length now.words)
  claims_now = ap (λ n. claims_of call old.me.value n) (sym (ap length here.words))

  granted_free : All (HasNoRival now.jobs at) (claims_of call old.me.value (length now.words))
  granted_free =
      subst (All (HasNoRival now.jobs at)) claims_now (none_met now.jobs at (tx_view old) shared.sentinels.claims here.table here.single here.apart active
      (claims_of call old.me.value (length shared.words)) g.granted.free)

  words_now : behind.words ≡ now.words
  words_now = words ∙ sym here.words

  marks_now : marks_of behind.sentinels.seats ≡ now.marks
  marks_now = marks_kept shared.sentinels.seats behind.sentinels.seats g.granted.seats ∙ sym here.marks

  -- the host told so, before the call
  told_now : (from : Front H) → from ≡ front_of shared → told_front model from ≡ now.contents
  told_now from host = ap (told_front model) host ∙ sym here.contents

  -- what is kept was so before the call, which made of it what it says
  lent_now : (from : Front H) → from ≡ front_of shared → (r : Result Reply NoMemory)
      → HasTaken call mid.me.value (record { old = from.lent.kept; new = behind.buffers.kept }) r
      → HasTaken call old.me.value (record { old = now.kept; new = behind.buffers.kept }) r
  lent_now from host r has =
      subst (λ (t : TxView). HasTaken call t.me (record { old = now.kept; new = behind.buffers.kept }) r) g.held
      (subst (λ items. HasTaken call mid.me.value (record { old = items; new = behind.buffers.kept }) r)
      (ap (λ (f : Front H). f.lent.kept) host ∙ sym here.kept) has)

  -- the host may have changed, and the job
  touched : (job' : JobView) → moved model behind job' now at
      ≡ record (with_job now at job') {
        contents = told_by model behind;
        faults = model.fault_count behind.host;
        calls = model.calls behind.host;
        kept = behind.buffers.kept;
      }
  touched job' i = record (with_job now at job') {
    words = words_now i;
    contents = told_by model behind;
    faults = model.fault_count behind.host;
    calls = model.calls behind.host;
    kept = behind.buffers.kept;
    marks = marks_now i;
  }

  -- the host was called so
  called_so : (IsMade : List HostCallKind → Type 0) (from : Front H) (job' : JobView) → from ≡ front_of shared
      → Uses model (record { old = from.host; new = behind.host }) IsMade → HasCalled IsMade now (moved model behind job' now at)
  called_so IsMade from job' host uses = (
    uses.made,
    uses.named,
    subst (λ (calls : HostCallKind → ℕ). IsCalled uses.made calls (model.calls behind.host)) (ap (λ (f : Front H). model.calls f.host) host
        ∙ sym here.calls) uses.used.called,
  )

  row_granted : (job' : JobView) (tx : TxView) (answer : Turn) → job'.doing ≡ Active tx → tx.number ≡ old.number
      → tx.held ≡ holding old.held.items (claims_of call old.me.value (length shared.words))
      → RunningTurn (mover s at now job) (tx_view old) answer (moved model behind job' now at)
      → IsRow (mover s at now job) (moved model behind job' now at) answer behind.sentinels.claims
  row_granted job' tx answer doing number held row =
      let claims = claims_of call old.me.value (length shared.words) in
      record {
        tx = tx_view old;
        doing = has.doing;
        row = row;
        table = λ o. tracked_on (λ n. held_mode shared.sentinels.claims n o) (λ (t : TxView). mode_in t.held o) now.jobs (here.table o)
            (λ n. held_mode behind.sentinels.claims n o) at job job' here.there here.single (tx_view old) (ap active_in has.doing)
            (λ n ne. g.granted.others n o ne) tx (ap active_in doing) number
            (g.granted.held o ∙ ap (λ m. claimed m claims o) ((here.table o).held at (tx_view old) active)
            ∙ claimed-holding old.held.items claims o ∙ ap (λ (h : List Claim). mode_in h o) (sym held));
      }

  -- memory runs out after them: what the call left stays, and what it claimed is held
  module _ (telling : IsTrue s.tells → IsTrue model.tells) (place' : Position) (from : Front H) (done new : Tx) (same : place' ≡ place)
      (host : from ≡ front_of shared)
      (l : LeavesOff model call (acting from.host from.lent.kept behind.words mid) (acting behind.host behind.buffers.kept behind.words done))
      (seen : (tx_view done).saved ≡ (tx_view mid).saved) (is : tx_view new ≡ record (tx_view done) { phase = Undoing cause.NoMemory }) where
    left_as : tx_view new ≡ wanting (tx_view old) l.left (holding old.held.items (claims_of call old.me.value (length now.words)))
    left_as = is ∙ (λ i. record (l.tx i) { phase = Undoing cause.NoMemory; saved = seen i })
        ∙ ap (λ (t : TxView). record (leaving t l.left) { phase = Undoing cause.NoMemory }) g.held
        ∙ ap (λ claims. wanting (tx_view old) l.left (holding old.held.items claims)) claims_now

    left_now : IsTrue s.tells → IsLeft now (moved model behind (with_tx job place' (tx_view new)) now at) (tx_parts (tx_view old)) (ask.Call call) l.left
    left_now tells =
        let to = told_by model behind in
        let Left : List ℕ → Contents → Parts → Type 0 = λ ws was parts. ((l.left ≡ []) × (to ≡ was))
        ⊎ ((answer : Answer) × LeavesAsPlainIn ws (record { old = was; new = to }) parts (record { call = call; answer = answer }) l.left) in
        subst (λ p. Left now.words now.contents p) (ap tx_parts g.held)
        (subst (λ c. Left now.words c (tx_parts (tx_view mid))) (told_now from host)
        (subst (λ ws. Left ws (told_front model from) (tx_parts (tx_view mid))) words_now (l.contents (telling tells))))

    pub starved : (answer : Turn) → answer ≡ turn.NoMemory
        → IsRow (mover s at now job) (moved model behind (busy_counted answer (with_tx job place' (tx_view new))) now at) answer behind.sentinels.claims
    starved answer gives =
        let next = asked in
        let held = holding old.held.items (claims_of call old.me.value (length now.words)) in
        let moment = moved model behind (with_tx job place' (tx_view new)) now at in
        subst (λ a. IsRow (mover s at now job) (moved model behind (busy_counted a (with_tx job place' (tx_view new))) now at) a behind.sentinels.claims)
        (sym gives)
        (row_granted (with_tx job place' (tx_view new)) (tx_view new) turn.NoMemory refl (ap (λ (t : TxView). t.number) left_as)
        (ap (λ (t : TxView). t.held) left_as ∙ ap (holding old.held.items) (sym claims_now))
        (record {
          place = place';
          same = subst (IsSamePosition s job.place) (sym same) has.same;
          left = l.left;
          one = l.one;
          held = held;
          holds = subst (λ a. HoldsWanting (mover s at now job) (tx_view old) a l.left held) (sym next) (inr (granted_free, refl));
          behind = touched (with_tx job place' (tx_view new))
              ∙ (λ i. record (with_job now at (with_tx job place' (left_as i))) {
                contents = told_by model behind;
                faults = (l.faults ∙ ap (λ (f : Front H). model.fault_count f.host) host ∙ sym here.faults) i;
                calls = model.calls behind.host;
                kept = behind.buffers.kept;
              });
          kept = subst (λ a. KeepsWanting (mover s at now job) (tx_view old) a (kept_between now moment)) (sym next)
              (lent_now from host (Err (record {})) l.lent);
          uses = subst (λ a. HasCalled (StopsAt a) now moment) (sym next)
              (called_so (StopsAt (ask.Call call)) from (with_tx job place' (tx_view new)) host l.uses);
          contents = λ tells. subst (λ a. IsLeft now moment (tx_parts (tx_view old)) a l.left) (sym next) (left_now tells);
        }))

  -- the call is done and noted
  module _ (telling : IsTrue s.tells → IsTrue model.tells) (place' : Position) (from : Front H) (done new : Tx) (reply : Reply)
      (stands : IsBehindCall s call place place' reply) (host : from ≡ front_of shared)
      (d : HasDoneAsPlain model call (acting from.host from.lent.kept behind.words mid) (acting behind.host behind.buffers.kept behind.words done) reply)
      (b : DoesBlocks call (tx_view mid) (tx_view done) reply)
      (noted : tx_view new ≡ record (tx_view done) { calls = done.calls.items ++ call ∷ []; replies = done.replies.items ++ reply ∷ [] }) where
    -- but for its block
    abbrev done_from : TxView → TxView
    done_from t = record (with_parts t call reply (tx_parts (tx_view done))) { saved = (tx_view done).saved }

    done_as : tx_view done ≡ done_from (record (tx_view old) { held = holding old.held.items (claims_of call old.me.value (length now.words)) })
    done_as = (λ i. record (d.tx i) { saved = (tx_view done).saved }) ∙ ap done_from g.held
        ∙ ap (λ claims. done_from (record (tx_view old) { held = holding old.held.items claims })) claims_now

    abbrev noted_plain : TxView
    noted_plain = noting_plain (tx_view old) call reply (claims_of call old.me.value (length now.words)) (tx_parts (tx_view done))

    saved_as : (tx_view done).saved ≡ saved_by call (tx_view old).saved (copied noted_plain)
    saved_as = b.saved ∙ ap (λ (t : TxView). saved_by call t.saved (copied (tx_view done))) g.held
        ∙ ap (λ (t : TxView). saved_by call (tx_view old).saved (copied t)) done_as

    noted_as : tx_view new ≡ noting (tx_view old) call reply (claims_of call old.me.value (length now.words)) (tx_parts (tx_view done))
    noted_as = noted ∙ (λ i. record (done_as i) {
      calls = (done_as i).calls ++ call ∷ [];
      replies = (done_as i).replies ++ reply ∷ [];
      saved = saved_as i;
    })

    writes_old : mid.writes.stores ≡ old.writes.stores
    writes_old = ap (λ (t : TxView). t.writes) g.held

    spoken_now : IsWordStep (overlaid now.words old.writes.stores) (overlaid now.words done.writes.stores) call reply
    spoken_now = subst (λ ws. IsWordStep (overlaid now.words ws) (overlaid now.words done.writes.stores) call reply) writes_old
        (subst (λ ws. IsWordStep (overlaid ws mid.writes.stores) (overlaid ws done.writes.stores) call reply) words_now d.spoken)

    does_now : IsTrue s.tells → StepsAsPlainIn now.words (record { old = now.contents; new = told_by model behind })
        (record { old = tx_parts (tx_view old); new = tx_parts (tx_view done) }) call reply
    does_now tells =
        let to = told_by model behind in
        let Does : List ℕ → Contents → Parts → Type 0 =
        λ ws was parts. StepsAsPlainIn ws (record { old = was; new = to }) (record { old = parts; new = tx_parts (tx_view done) }) call reply in
        subst (λ p. Does now.words now.contents p) (ap tx_parts g.held)
        (subst (λ c. Does now.words c (tx_parts (tx_view mid))) (told_now from host)
        (subst (λ ws. Does ws (told_front model from) (tx_parts (tx_view mid))) words_now (d.does (telling tells))))

    calls_now : Calls (mover s at now job) (tx_view old) call (moved model behind (answered_with job place' (tx_view new)) now at)
    calls_now =
        record {
          free = granted_free;
          reply = reply;
          place = place';
          parts = tx_parts (tx_view done);
          behind = touched (answered_with job place' (tx_view new))
              ∙ ap (λ (t : TxView). record (with_job now at (answered_with job place' t)) {
                contents = told_by model behind;
                faults = model.fault_count behind.host;
                calls = model.calls behind.host;
                kept = behind.buffers.kept;
              }) noted_as;
          kept = lent_now from host (Ok reply) d.lent;
          begin = record {
            block = stands.begin.block ∙ has.same.begin.block;
            next = stands.begin.next ∙ has.same.begin.next;
            begun = stands.begin.begun ∙ has.same.begin.begun;
          };
          walk = stands.walk ∙ ap (λ w. answered w reply) has.same.walk;
          nearer = λ own. let far = stands.nearer own in let near = has.same.at in omega arith;
          saved = stands.values ∙ (λ i. saved_by call (has.same.saved i) (has.same.walk i).variables.values);
          no_way_back = no_way_back call old.me.value reply b.ahead
              (subst (λ (t : TxView). IsChecked (refusal_of call t.me) call reply) g.held d.checked);
          blocks = b.done;
          in_time = subst (λ (t : TxView). IsReplyInTime t.me t.number call reply) g.held d.in_time;
          checked = subst (λ (t : TxView). IsChecked (refusal_of call t.me) call reply) g.held d.checked;
          after = subst (λ (t : TxView). IsMeAfter t.number call reply t.me done.me.value) g.held d.after;
          uses = called_so (CallsOf (refusal_of call old.me.value) call reply) from (answered_with job place' (tx_view new)) host
              (subst (λ (t : TxView). Uses model (record { old = from.host; new = behind.host }) (CallsOf (refusal_of call t.me) call reply)) g.held d.uses);
          made = d.made;
          one = d.one;
          kinds = d.kinds;
          undo = d.undo ∙ ap (λ (t : TxView). record t.undo { pending = t.undo.pending ++ d.made }) g.held;
          stored = d.stored;
          stores = d.stores ∙ ap (λ ws. ws ++ stored_by (length behind.words) call) writes_old
              ∙ ap (λ n. old.writes.stores ++ stored_by n call) (ap length words_now);
          spoken = spoken_now;
          cause = subst (λ n. CountsFault (is_fault_reply reply) n (model.fault_count behind.host)) (ap (λ (f : Front H). model.fault_count f.host) host
              ∙ sym here.faults) d.cause;
          does = does_now;
        }

    -- so its turn is that of a call
    pub call_turn_row : IsRow (mover s at now job) (moved model behind (answered_with job place' (tx_view new)) now at) turn.Went behind.sentinels.claims
    call_turn_row = row_granted (answered_with job place' (tx_view new)) (tx_view new) turn.Went refl (ap (λ (t : TxView). t.number) noted_as)
        (ap (λ (t : TxView). t.held) noted_as ∙ ap (holding old.held.items) (sym claims_now))
        (asked_row s at now (moved model behind (answered_with job place' (tx_view new)) now at) job (tx_view old) (ask.Call call) asked
        (called_turn (mover s at now job) (tx_view old) call (moved model behind (answered_with job place' (tx_view new)) now at) b.ahead (inl calls_now)))
