-- A client of a desk hands in what its transaction asks, and comes back between two calls.
use Rattle.std.proofs.Common.{◌≡◌, ◌≢◌, inl, inr, ℕ, Bool, true, false, [], append-nil, refl, ap, sym, ◌∙◌, subst}
use Rattle.std.specs.Prelude.{Option, nat_eq, slice_get, slice_set, if◌then◌else◌}
use Rattle.std.specs.declared.option.Option.TheVariants.{None, Some}
use Rattle.xc_data.specs.declared.call.Call.{Call}
use Rattle.xc_data.specs.declared.call.Call.TheVariants as call
use Rattle.xc_data.specs.declared.entry.Mark.{Mark}
use Rattle.xc_data.specs.declared.entry.JobEnd.TheVariants as job_end
use Rattle.xc_data.specs.declared.entry.Turn.{Turn}
use Rattle.xc_data.specs.declared.entry.Turn.TheVariants as turn
use Rattle.xc_data.proofs.Laws.{get_set_same}
use mathlib.Core.Logic.{dite}
use native.Mathlib.Decide.{ℕ_discrete}
use Rattle.xc_turns.proofs.Laws.{get_front}
use Rattle.xc_script.specs.Blocks.{fits_block}
use Rattle.xc_script.specs.declared.ask.Ask.{Ask}
use Rattle.xc_script.specs.declared.ask.Ask.TheVariants as ask
use Rattle.xc_model.specs.HandedIn.{IsHandedIn, MayHand, MayHandIn}
use Rattle.xc_model.specs.declared.phase.Phase.{Phase}
use Rattle.xc_model.specs.declared.phase.Phase.TheVariants.{Running}
use Rattle.xc_model.specs.Moment.{TxView, JobView, Active, Idle, Starved, Moment, unmarked, with_job}
use Rattle.xc_model.specs.Movers.{mover}
use Rattle.xc_model.specs.Rows.{IsTurn, StarvedTurn, TurnOf}
use Rattle.xc_model.specs.Setting.{Setting}
use Rattle.xc_model.proofs.Laws.{not_clients}
use Rattle.xc_live.specs.Calm.{IsCalm, IsCalmJob, IsDesk}
use Rattle.xc_live.specs.Clients.{HasTakenUp, IsAsking, StandsBehind, may_ask}
use Rattle.xc_live.proofs.Placed.{all_calm, calm_but, calm_but_set, get_either, set_either}
use Rattle.xc_live.proofs.Rolled.{IsBehindEntry, doing_behind}

-- ---- handing in
-- what a client may ask fits its block
pub asked_fits : (within : Bool) (c : Call) → may_ask within c ≡ true → fits_block within c ≡ true
asked_fits within (call.XThreadCreate body slot) e = cc e
asked_fits within c e = e

-- of a desk's client a running transaction may hand in a call that it may ask, and its end
pub may_hand : (s : Setting) (at : ℕ) (now : Moment) (job : JobView) (tx : TxView) (asked : Ask) → IsDesk s now → slice_get now.jobs at ≡ Some job
    → job.doing ≡ Active tx → (tx.phase ≡ Running → MayHand (Active tx) asked) → MayHandIn s at asked now
may_hand s at now job tx asked desk there does may =
    let calm = desk.calm at job there in
    let runs : tx.phase ≡ Running = subst IsCalm does calm.calm in
    record {
      clients = desk.clients;
      job = job;
      is = there;
      none = calm.none;
      may = subst (λ d. MayHand d asked) (sym does) (may runs);
    }

-- then it asks, and its transaction is the same
pub handed_asks : (s : Setting) (at : ℕ) (old new : Moment) (job : JobView) (tx : TxView) (asked : Ask) → IsDesk s old → slice_get old.jobs at ≡ Some job
    → job.doing ≡ Active tx → asked ≢ ask.End → IsHandedIn s at asked old new → IsAsking s at tx asked new
handed_asks s at old new job tx asked desk there does goes handed =
    let same : handed.job ≡ job = cc (handed.is, there) in
    let behind : JobView = record handed.job { handed = Some asked } in
    let jobs : new.jobs ≡ slice_set old.jobs at behind = ap (λ (n : Moment). n.jobs) handed.behind in
    record {
      clients = desk.clients;
      job = behind;
      there = ap (λ js. slice_get js at) jobs ∙ get_set_same old.jobs at handed.job behind handed.is;
      active = ap (λ (j : JobView). j.doing) same ∙ does;
      running = subst IsCalm does (desk.calm at job there).calm;
      handed = refl;
      asked_some = goes;
      calm = calm_but_set at old new behind (calm_but s at old desk) jobs
          (λ n. ap (λ (k : Moment). k.marks n) handed.behind ∙ desk.unmarked n);
    }

-- ---- back between two calls
-- where the call is answered it is there
pub answered_calm : (s : Setting) (at : ℕ) (was : TxView) (asked : Ask) (now : Moment) (had : HasTakenUp s at was asked now) → had.is.phase ≡ Running
    → IsDesk s now
answered_calm s at was asked now had runs =
    let stands : StandsBehind was asked had.job had.is Running = subst (λ p. StandsBehind was asked had.job had.is p) runs had.stands in
    let calm : IsCalmJob had.job = record { none = stands.0; calm = subst IsCalm (sym had.active) runs } in
    record {
      clients = had.clients;
      calm = λ k job got. dite (ℕ_discrete k at)
          (λ same. let here : slice_get now.jobs at ≡ Some job = subst (λ n. slice_get now.jobs n ≡ Some job) same got in
          let one : had.job ≡ job = cc (had.there, here) in subst IsCalmJob one calm)
          (λ away. had.calm.others k job away got);
      unmarked = had.calm.unmarked;
    }

-- without one mark more none is
pub none_still : (marks : ℕ → Option Mark) (number n : ℕ) → marks n ≡ None → unmarked marks number n ≡ None
none_still marks number n none = go (nat_eq n number)
  where
    go : (b : Bool) → (if b then None else marks n) ≡ None
    go true = refl
    go false = none

module _ (s : Setting) (at : ℕ) (was : TxView) (asked : Ask) (old : Moment) (had : HasTakenUp s at was asked old) (phase : Phase) (mid : Moment)
    (e : IsBehindEntry at had.is.number phase old mid) where
  none_marked_mid : (n : ℕ) → mid.marks n ≡ None
  none_marked_mid n = e.marks n ∙ none_still old.marks had.is.number n (had.calm.unmarked n)

  -- its job stands there
  pub entered_there : slice_get mid.jobs at ≡ Some e.after
  entered_there =
      ap (λ js. slice_get js at) e.jobs
      ∙ get_front (slice_set old.jobs at e.after) e.more at e.after (get_set_same old.jobs at had.job e.after had.there)

  -- behind its entry all are calm
  pub entered_calm : IsCalm (doing_behind phase) → IsDesk s mid
  entered_calm calm =
      all_calm s at old mid e.after had.job e.more had.clients had.there had.calm.others e.jobs
      (record { none = e.none; calm = subst IsCalm (sym e.does) calm }) e.joined none_marked_mid

  others_mid : (other : ℕ) (job : JobView) → other ≢ at → slice_get mid.jobs other ≡ Some job → IsCalmJob job
  others_mid other job away got =
      elim (get_either (slice_set old.jobs at e.after) e.more other job (sym (ap (λ js. slice_get js other) e.jobs) ∙ got)) [
        | inl there ↦ elim (set_either old.jobs at other e.after job there)
            [ inl same ↦ absurd (away same.0) | inr out ↦ had.calm.others other job out.0 out.1 ]
        | inr joined ↦ e.joined joined.0 job joined.1
      ]

  -- a starved one is idle after its turn
  pub starved_so : (new : Moment) (answer : Turn) → e.after.doing ≡ Starved → IsTurn s at mid answer new
      → new ≡ with_job mid at (record e.after { doing = Idle })
  starved_so new answer starved t =
      let same : t.job ≡ e.after = cc (t.there, entered_there) in
      let row : TurnOf (mover s at mid e.after) e.after.doing answer new =
      subst (λ (j : JobView). TurnOf (mover s at mid j) j.doing answer new) same t.row in
      by_answer answer (subst (λ d. TurnOf (mover s at mid e.after) d answer new) starved row)
    where
      by_answer : (answer : Turn) → StarvedTurn (mover s at mid e.after) answer new → new ≡ with_job mid at (record e.after { doing = Idle })
      by_answer (turn.Ended job_end.NoMemory) row = absurd (not_clients s.script had.clients row.0)
      by_answer (turn.Ended job_end.Done) row = absurd row
      by_answer (turn.Ended job_end.JournalFull) row = absurd row
      by_answer (turn.Ended (job_end.GaveUp c)) row = absurd row
      by_answer turn.Went row = row.1
      by_answer (turn.Busy object number) row = absurd row
      by_answer turn.NoMemory row = absurd row

  -- and then all are calm
  pub starved_calm : (new : Moment) → new ≡ with_job mid at (record e.after { doing = Idle }) → IsDesk s new
  starved_calm new is =
      let behind : JobView = record e.after { doing = Idle } in
      all_calm s at mid new behind e.after [] had.clients entered_there others_mid
      (ap (λ (n : Moment). n.jobs) is ∙ sym (append-nil (slice_set mid.jobs at behind))) (record { none = e.none; calm = tt })
      (λ j job got. cc got) (λ n. ap (λ (k : Moment). k.marks n) is ∙ none_marked_mid n)
