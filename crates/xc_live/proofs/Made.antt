-- A call, and an end, of a client from the first to the last of their turns.
use Rattle.std.proofs.Common.{◌≡◌, ◌≢◌, ℕ, ◌-◌, ◌<◌, true, ap, sym, ◌∙◌, subst}
use Rattle.std.specs.Prelude.{Option, is_some, replicate, slice_get}
use Rattle.std.specs.declared.option.Option.TheVariants.{None, Some}
use Rattle.xc_data.specs.declared.call.Call.{Call}
use Rattle.xc_data.specs.declared.entry.Cause.{Cause}
use Rattle.xc_data.specs.declared.entry.Turn.{Turn}
use Rattle.xc_data.specs.declared.entry.Turn.TheVariants as turn
use Rattle.xc_data.specs.declared.object.Object.{Object}
use Rattle.xc_host.specs.Model.{HostModel}
use Rattle.xc_script.specs.declared.ask.Ask.{Ask}
use Rattle.xc_script.specs.declared.ask.Ask.TheVariants as ask
use Rattle.xc_model.specs.HandedIn.{IsHandedIn, MayHandIn}
use Rattle.xc_model.specs.declared.phase.Phase.{Phase}
use Rattle.xc_model.specs.declared.phase.Phase.TheVariants.{Running, Committing, Undoing, Backing}
use Rattle.xc_model.specs.Moment.{TxView, JobView, Active, Moment}
use Rattle.xc_model.specs.Movers.{mover}
use Rattle.xc_model.specs.Rows.{IsTurn}
use Rattle.xc_model.specs.RunningRows.{Waits}
use Rattle.xc_model.specs.Setting.{Setting}
use Rattle.xc_live.specs.Told.{tx_at}
use Rattle.xc_station.specs.Finishing.{phase_at}
use Rattle.xc_station.specs.Jobs.{job_views}
use Rattle.xc_station.specs.Stations.{HasTurned, KeepsOpening, StationView, TakeTurns, now_of, setting_of}
use Rattle.xc_live.specs.Calm.{IsDesk}
use Rattle.xc_live.specs.Called.{IsAnsweredAt, MakesItsCall}
use Rattle.xc_live.specs.Clients.{HasTakenUp, IsAsking, IsEndAsk, IsCallNoted, MayUndo, StandsBehind, may_ask}
use Rattle.xc_live.specs.Ended.{AsksAlone, HandsIn}
use Rattle.xc_live.specs.Moving.{AskedAt, AsksAt, HasComeThrough, HasSettled, IsThrough, IsSettledSo}
use Rattle.xc_live.proofs.Answered.{asks_this, journal_stays, turn_asked, unmarked_row}
use Rattle.xc_live.proofs.Handed.{answered_calm, asked_fits, handed_asks, may_hand}
use Rattle.xc_live.proofs.Numbered.{active_lives, turns_taken, turn_taken, phase_told, setting_kept, tx_placed, tx_told}

-- ---- handing in, at a desk
module _ {H : Type 0} (model : HostModel H) (client : ℕ) (tx : TxView) (old : StationView H)
    (desk : IsDesk (setting_of model old) (now_of model old)) (begun : tx_at (job_views old.jobs) client ≡ Some tx) where
  placed : (0 < client) × (job : JobView) × (slice_get (job_views old.jobs) (client - 1) ≡ Some job) × (job.doing ≡ Active tx)
  placed = tx_placed (job_views old.jobs) client tx begun

  -- its client has a number
  pub begun_first : 0 < client
  begun_first = placed.0

  -- a call that it may ask may be handed in
  pub call_may : (c : Call) → may_ask (is_some tx.saved) c ≡ true → MayHandIn (setting_of model old) (client - 1) (ask.Call c) (now_of model old)
  call_may c allowed =
      may_hand (setting_of model old) (client - 1) (now_of model old) placed.1 tx (ask.Call c) desk placed.2 placed.3
      (λ runs. (runs, asked_fits (is_some tx.saved) c allowed))

  -- and so may its commit
  pub commit_may : MayHandIn (setting_of model old) (client - 1) ask.Commit (now_of model old)
  commit_may = may_hand (setting_of model old) (client - 1) (now_of model old) placed.1 tx ask.Commit desk placed.2 placed.3 (λ runs. runs)

  -- and its abort
  pub abort_may : MayHandIn (setting_of model old) (client - 1) ask.Abort (now_of model old)
  abort_may = may_hand (setting_of model old) (client - 1) (now_of model old) placed.1 tx ask.Abort desk placed.2 placed.3 (λ runs. runs)

  module _ (asked : Ask) (goes : asked ≢ ask.End) (handed : StationView H) (kept : KeepsOpening old handed)
      (hands : IsHandedIn (setting_of model old) (client - 1) asked (now_of model old) (now_of model handed)) where
    -- then it asks
    pub hands_asks : AsksAt model client tx asked handed
    hands_asks =
        subst (λ s. IsAsking s (client - 1) tx asked (now_of model handed)) (sym (setting_kept model client old handed kept))
        (handed_asks (setting_of model old) (client - 1) (now_of model old) (now_of model handed) placed.1 tx asked desk placed.2 placed.3 goes hands)

-- ---- a call
-- no call is an end
pub call_no_end : (c : Call) → ask.Call c ≢ ask.End
call_no_end c same = cc same

module _ {H : Type 0} (model : HostModel H) (client : ℕ) (c : Call) (tx : TxView) (old handed gone settled : StationView H)
    (begun : tx_at (job_views old.jobs) client ≡ Some tx) (allowed : may_ask (is_some tx.saved) c ≡ true)
    (hands : HandsIn model client (ask.Call c) (record { old = old; new = handed })) (asks : AsksAt model client tx (ask.Call c) handed)
    (went : HasComeThrough model client (record { old = handed; new = gone })) (settles : HasSettled model client (record { old = gone; new = settled })) where
  goes : IsThrough model client tx (ask.Call c) (record { old = handed; new = gone })
  goes = went tx (ask.Call c) asks

  settle : IsSettledSo model client tx (ask.Call c) (record { old = gone; new = settled })
  settle = settles tx (ask.Call c) goes.4

  -- its transaction stands so
  pub call_asked : AskedAt model client tx (ask.Call c) settled
  call_asked = settle.2

  -- the call is made
  pub call_made : (turns : ℕ) (new : StationView H) → TakeTurns model (replicate turns client) settled new
      → MakesItsCall model client c (record { old = old; new = new })
  call_made turns new more =
      let first = turns_taken model client 1 settle.0 goes.1 gone settled goes.3 settle.1 in
      let all = turns_taken model client first.0 turns goes.1 settled new first.1 more in
      record {
        tx = tx;
        begun = begun;
        allowed = allowed;
        handed = handed;
        hands = hands;
        victims = goes.0;
        free = goes.1;
        way = goes.2;
        turns = all.0;
        takes = all.1;
      }

  -- where its phase is told
  pub call_phase : 0 < client → (phase : Phase) → phase_at (job_views settled.jobs) client ≡ Some phase → call_asked.is.phase ≡ phase
  call_phase some phase told =
      let is : phase_at (job_views settled.jobs) client ≡ Some call_asked.is.phase =
      phase_told (job_views settled.jobs) client call_asked.job call_asked.is some call_asked.there call_asked.active in
      let both : Some call_asked.is.phase ≡ Some phase = sym is ∙ told in cc both

  -- where it runs it is answered
  pub call_answered : 0 < client → phase_at (job_views settled.jobs) client ≡ Some Running
      → IsAnsweredAt (record { old = job_views old.jobs; new = job_views settled.jobs }) client c
  call_answered some told =
      let runs = call_phase some Running told in
      let stands : StandsBehind tx (ask.Call c) call_asked.job call_asked.is Running =
      subst (λ p. StandsBehind tx (ask.Call c) call_asked.job call_asked.is p) runs call_asked.stands in
      let same : stands.1 ≡ c = cc stands.2 in
      record {
        was = tx;
        is = call_asked.is;
        before = begun;
        behind = tx_told (job_views settled.jobs) client call_asked.job call_asked.is some call_asked.there call_asked.active;
        runs = runs;
        noted = subst (λ (k : Call). IsCallNoted k tx call_asked.is) same stands.3;
      }

  -- and the desk is between two calls
  pub call_calm : 0 < client → phase_at (job_views settled.jobs) client ≡ Some Running → IsDesk (setting_of model settled) (now_of model settled)
  call_calm some told =
      answered_calm (setting_of model settled) (client - 1) tx (ask.Call c) (now_of model settled) call_asked (call_phase some Running told)

  -- it doesn't commit
  pub call_no_commit : 0 < client → phase_at (job_views settled.jobs) client ≡ Some Committing → ⊥
  call_no_commit some told =
      let stands : StandsBehind tx (ask.Call c) call_asked.job call_asked.is Committing =
      subst (λ p. StandsBehind tx (ask.Call c) call_asked.job call_asked.is p) (call_phase some Committing told) call_asked.stands in
      cc stands

  -- and has a phase
  pub call_some : 0 < client → phase_at (job_views settled.jobs) client ≡ None → ⊥
  call_some some none =
      let is : phase_at (job_views settled.jobs) client ≡ Some call_asked.is.phase =
      phase_told (job_views settled.jobs) client call_asked.job call_asked.is some call_asked.there call_asked.active in
      let both : ◌≡◌ {A = Option Phase} (Some call_asked.is.phase) None = sym is ∙ none in cc both

-- ---- an end
-- it is no call, nor that of the client
pub end_no_end : (asked : Ask) → IsEndAsk asked → asked ≢ ask.End
end_no_end ask.Commit ends same = cc same
end_no_end ask.Abort ends same = cc same
end_no_end (ask.Call c) ends same = absurd ends
end_no_end ask.End ends same = absurd ends

end_no_call : (asked : Ask) (c : Call) → IsEndAsk asked → asked ≡ ask.Call c → ⊥
end_no_call ask.Commit c ends same = cc same
end_no_call ask.Abort c ends same = cc same
end_no_call (ask.Call made) c ends same = absurd ends
end_no_call ask.End c ends same = absurd ends

-- it may be handed in
pub end_may : {H : Type 0} (model : HostModel H) (client : ℕ) (tx : TxView) (old : StationView H) (asked : Ask) → IsEndAsk asked
    → IsDesk (setting_of model old) (now_of model old) → tx_at (job_views old.jobs) client ≡ Some tx
    → MayHandIn (setting_of model old) (client - 1) asked (now_of model old)
end_may model client tx old ask.Commit ends desk begun = commit_may model client tx old desk begun
end_may model client tx old ask.Abort ends desk begun = abort_may model client tx old desk begun
end_may model client tx old (ask.Call c) ends desk begun = absurd ends
end_may model client tx old ask.End ends desk begun = absurd ends

-- nobody is in the way of an end
end_no_wait : (s : Setting) (at : ℕ) (tx : TxView) (asked : Ask) (old : Moment) (asks : IsAsking s at tx asked old) (new : Moment) → IsEndAsk asked
    → (answer : Turn) → IsTurn s at old answer new → (object : Object) (number : ℕ) → answer ≢ turn.Busy object number
end_no_wait s at tx asked old asks new ends answer t object number same =
    let w : Waits (mover s at old asks.job) tx object number new =
    unmarked_row s at tx asked old asks (turn.Busy object number) new (subst (λ a. IsTurn s at old a new) same t) in
    end_no_call asked w.call ends (sym (asks_this s at tx asked old asks) ∙ w.asked)

module _ {H : Type 0} (model : HostModel H) (client : ℕ) (tx : TxView) (old : StationView H)
    (desk : IsDesk (setting_of model old) (now_of model old)) (begun : tx_at (job_views old.jobs) client ≡ Some tx) (asked : Ask)
    (ends : IsEndAsk asked) (handed : StationView H) (kept : KeepsOpening old handed)
    (hands : IsHandedIn (setting_of model old) (client - 1) asked (now_of model old) (now_of model handed)) where
  some : 0 < client
  some = begun_first model client tx old desk begun

  -- once it is handed in it asks
  pub end_asks : AsksAt model client tx asked handed
  end_asks = hands_asks model client tx old desk begun asked (end_no_end asked ends) handed kept hands

  module _ (turned : StationView H) (answer : Turn) (took : HasTurned model client (record { old = handed; new = turned }) answer) where
    -- its transaction stands so
    pub end_asked : AskedAt model client tx asked turned
    end_asked =
        subst (λ s. HasTakenUp s (client - 1) tx asked (now_of model turned)) (sym (setting_kept model client handed turned took.1))
        (turn_asked (setting_of model handed) (client - 1) tx asked (now_of model handed) end_asks (now_of model turned) answer
        (end_no_wait (setting_of model handed) (client - 1) tx asked (now_of model handed) end_asks (now_of model turned) ends answer took.0) took.0)

    -- the journal stays
    pub end_journal : turned.journal ≡ old.journal
    end_journal =
        journal_stays (setting_of model handed) (client - 1) tx asked (now_of model handed) end_asks ends answer (now_of model turned) took.0
        ∙ ap (λ (n : Moment). n.journal) hands.behind

    -- it was asked alone
    pub end_alone : (turns : ℕ) (new : StationView H) → TakeTurns model (replicate turns client) turned new
        → AsksAlone model client asked (record { old = old; new = new })
    end_alone turns new more =
        let lives = active_lives handed.jobs client end_asks.job tx some end_asks.there end_asks.active in
        let all = turns_taken model client 1 turns handed turned new (turn_taken model client answer handed turned lives took) more in
        record { handed = handed; hands = record { same = kept; handed = hands }; turns = all.0; takes = all.1 }

    end_stands : (phase : Phase) → phase_at (job_views turned.jobs) client ≡ Some phase → StandsBehind tx asked end_asked.job end_asked.is phase
    end_stands phase told =
        let is : phase_at (job_views turned.jobs) client ≡ Some end_asked.is.phase =
        phase_told (job_views turned.jobs) client end_asked.job end_asked.is some end_asked.there end_asked.active in
        let both : Some end_asked.is.phase ≡ Some phase = sym is ∙ told in
        let same : end_asked.is.phase ≡ phase = cc both in
        subst (λ p. StandsBehind tx asked end_asked.job end_asked.is p) same end_asked.stands

    -- it undoes for such a cause
    pub end_undone : (why : Cause) → phase_at (job_views turned.jobs) client ≡ Some (Undoing why) → MayUndo asked why
    end_undone why told = end_stands (Undoing why) told

    -- it commits where its commit was asked
    pub end_committed : phase_at (job_views turned.jobs) client ≡ Some Committing → asked ≡ ask.Commit
    end_committed told = end_stands Committing told

    -- it neither runs on
    pub end_runs_not : phase_at (job_views turned.jobs) client ≡ Some Running → ⊥
    end_runs_not told = let stands = end_stands Running told in end_no_call asked stands.1 ends stands.2

    -- nor goes back
    pub end_backs_not : phase_at (job_views turned.jobs) client ≡ Some Backing → ⊥
    end_backs_not told = let stands = end_stands Backing told in end_no_call asked _ ends stands.1

    -- and it has a phase
    pub end_some : phase_at (job_views turned.jobs) client ≡ None → ⊥
    end_some none =
        let is : phase_at (job_views turned.jobs) client ≡ Some end_asked.is.phase =
        phase_told (job_views turned.jobs) client end_asked.job end_asked.is some end_asked.there end_asked.active in
        let both : ◌≡◌ {A = Option Phase} (Some end_asked.is.phase) None = sym is ∙ none in cc both
