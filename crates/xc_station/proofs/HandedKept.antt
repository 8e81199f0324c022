-- What a station keeps beside its moment, where a client hands something in: its job does what it did.
use Rattle.std.proofs.Common.{◌≡◌, ◌≢◌, ℕ, ◌≤◌, List, length, true, refl, ap, sym, ◌∙◌, subst}
use Rattle.std.specs.Prelude.{Option, slice_get, slice_set}
use Rattle.std.specs.declared.option.Option.TheVariants.{Some}
use mathlib.Core.Logic.{dite}
use native.Mathlib.Decide.{ℕ_discrete}
use Rattle.xc_data.specs.declared.entry.Entry.{Entry}
use Rattle.xc_data.specs.declared.entry.JobLine.{JobLine}
use Rattle.xc_data.specs.declared.entry.KeptItem.{KeptItem}
use Rattle.xc_host.specs.Contents.{Contents}
use Rattle.xc_host.specs.Model.{HostModel}
use Rattle.xc_roomy.specs.Room.{Roomy}
use Rattle.xc_script.specs.declared.ask.Ask.{Ask}
use Rattle.xc_script.specs.declared.ask.Ask.TheVariants as ask
use Rattle.xc_text.specs.declared.script.Script.{Script}
use Rattle.xc_model.specs.HandedIn.{MayHand}
use Rattle.xc_model.specs.Moment.{Doing, Idle, Active, Starved, Ended, JobView, TxView, active_of}
use Rattle.xc_model.specs.Movers.{IsActiveAt}
use Rattle.xc_model.specs.declared.phase.Phase.{Phase}
use Rattle.xc_station.specs.declared.calls.Shared.{Shared}
use Rattle.xc_station.specs.declared.job.Job.{Job}
use Rattle.xc_station.specs.Backs.{AllBackSafely}
use Rattle.xc_station.specs.Jobs.{doing_of, goes_on, job_view, job_views, phase_stage, stage_of}
use Rattle.xc_station.specs.Lent.{AreBacked}
use Rattle.xc_station.specs.Moments.{AreTracked}
use Rattle.xc_station.specs.Stations.{AreAhead, HasRooms, HasStarts, Room, moment}
use Rattle.xc_station.proofs.Ahead.{ahead_kept, taken_kept}
use Rattle.xc_station.proofs.BacksKept.{backs_set}
use Rattle.xc_station.proofs.HandedIn.{with_handed}
use Rattle.xc_station.proofs.Rooms.{rooms_set}
use Rattle.xc_station.proofs.Waiting.{starts_set}
use Rattle.xc_data.proofs.Laws.{get_map, get_set_other, get_set_same, map_set}

-- whoever may hand in goes on
pub hands_live : (d : Doing) (a : Ask) → MayHand d a → goes_on (stage_of d) ≡ true
hands_live Idle a may = refl
hands_live (Active tx) (ask.Call c) may = ap (λ (p : Phase). goes_on (phase_stage tx p)) may.0
hands_live (Active tx) ask.Commit may = ap (λ (p : Phase). goes_on (phase_stage tx p)) may
hands_live (Active tx) ask.Abort may = ap (λ (p : Phase). goes_on (phase_stage tx p)) may
hands_live (Active tx) ask.End may = absurd may
hands_live Starved a may = refl
hands_live (Ended end) (ask.Call c) may = absurd may
hands_live (Ended end) ask.Commit may = absurd may
hands_live (Ended end) ask.Abort may = absurd may
hands_live (Ended end) ask.End may = absurd may

-- ---- another job in one place, with the same active transaction, or with none as before
module _ (jobs : List JobView) (at : ℕ) (job job' : JobView) (stands : slice_get jobs at ≡ Some job) (same : active_of job' ≡ active_of job) where
  -- an active one was active before
  active_back : (j : ℕ) (tx : TxView) → IsActiveAt (slice_set jobs at job') j tx → IsActiveAt jobs j tx
  active_back j tx (other, there, is) = dite (ℕ_discrete j at)
      (λ (q : j ≡ at).
      let here : Some job' ≡ Some other = sym (get_set_same jobs at job job' stands) ∙ ap (slice_get (slice_set jobs at job')) (sym q) ∙ there in
      let one : job' ≡ other = cc here in
      (job, ap (slice_get jobs) q ∙ stands, sym same ∙ ap active_of one ∙ is))
      (λ (away : j ≢ at). (other, sym (get_set_other jobs at j job' away) ∙ there, is))

  -- and is active still
  active_forth : (j : ℕ) (tx : TxView) → IsActiveAt jobs j tx → IsActiveAt (slice_set jobs at job') j tx
  active_forth j tx (other, there, is) = dite (ℕ_discrete j at)
      (λ (q : j ≡ at).
      let here : Some job ≡ Some other = sym stands ∙ ap (slice_get jobs) (sym q) ∙ there in
      let one : job ≡ other = cc here in
      (job', ap (slice_get (slice_set jobs at job')) q ∙ get_set_same jobs at job job' stands, same ∙ ap active_of one ∙ is))
      (λ (away : j ≢ at). (other, get_set_other jobs at j job' away ∙ there, is))

  -- so what is told of active ones holds on
  pub tracked_same : {X : Type 0} (found : ℕ → Option X) (has : TxView → Option X) → AreTracked found has jobs → AreTracked found has (slice_set jobs at job')
  tracked_same found has are =
      record {
        held = λ j tx active. are.held j tx (active_back j tx active);
        known = λ n x e. let k = are.known n x e in (k.0, k.1, active_forth k.0 k.1 k.2, k.3);
      }

  pub backed_same : (c : Contents) (kept : List KeptItem) → AreBacked c kept jobs → AreBacked c kept (slice_set jobs at job')
  backed_same c kept are = record { kept = are.kept; taken = λ j tx active. are.taken j tx (active_back j tx active) }

-- ---- at the fields of a station
module _ (jobs : List Job) (at : ℕ) (was : Job) (asked : Ask) (stands : slice_get jobs at ≡ Some was) where
  pub rooms_handed : {H : Type 0} (model : HostModel H) (shared : Shared H) (journal : List Entry) (active spare : ℕ) (lines : Roomy JobLine)
      → HasRooms shared active spare (moment model shared journal jobs) lines
      → HasRooms shared active spare (moment model shared journal (slice_set jobs at (with_handed was asked))) lines
  rooms_handed model shared journal active spare lines rooms =
      let there = get_map job_view jobs at was stands in
      let now = job_view (with_handed was asked) in
      rooms_set shared shared active active spare spare (moment model shared journal jobs)
      (moment model shared journal (slice_set jobs at (with_handed was asked))) lines at (job_view was) now there
      (map_set job_view jobs at (with_handed was asked))
      (λ o. tracked_same (job_views jobs) at (job_view was) now there refl _ _ (rooms.claims o))
      (tracked_same (job_views jobs) at (job_view was) now there refl _ _ rooms.seats) refl refl rooms.room rooms

  pub ahead_handed : (ahead : List ℕ) → goes_on (stage_of (doing_of was)) ≡ true → AreAhead jobs ahead
      → AreAhead (slice_set jobs at (with_handed was asked)) ahead
  ahead_handed ahead live are = ahead_kept jobs at was (with_handed was asked) ahead stands live are

  pub taken_handed : (taken : ℕ) → taken ≤ length jobs → taken ≤ length (slice_set jobs at (with_handed was asked))
  taken_handed taken few = taken_kept jobs at (with_handed was asked) taken few

  pub backed_handed : (c : Contents) (kept : List KeptItem) → AreBacked c kept (job_views jobs)
      → AreBacked c kept (job_views (slice_set jobs at (with_handed was asked)))
  backed_handed c kept are =
      subst (AreBacked c kept) (sym (map_set job_view jobs at (with_handed was asked)))
      (backed_same (job_views jobs) at (job_view was) (job_view (with_handed was asked)) (get_map job_view jobs at was stands) refl c kept are)

  pub starts_handed : (script : Script) (started : List (List ℕ)) (room : Room) → HasStarts script started jobs room
      → HasStarts script started (slice_set jobs at (with_handed was asked)) room
  starts_handed script started room all = starts_set script started jobs room at was (with_handed was asked) stands (all.children at was stands) all

  pub undoable_handed : (tries : ℕ) → AllBackSafely tries jobs → AllBackSafely tries (slice_set jobs at (with_handed was asked))
  undoable_handed tries all = backs_set tries jobs at was (with_handed was asked) stands (all at was stands) all
