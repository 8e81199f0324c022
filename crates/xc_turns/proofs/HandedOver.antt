-- What a client hands in keeps all that is true between two turns.
use Rattle.std.proofs.Common.{◌≡◌, ◌≢◌, ℕ, ◌+◌, List, [], ◌++◌, length, refl, ap, sym, ◌∙◌, subst, arith}
use Rattle.std.specs.Prelude.{Option, flat_map, is_some, slice_get, sum_by, true}
use Rattle.std.specs.declared.option.Option.TheVariants.{None, Some}
use mathlib.Core.Logic.{dite}
use native.Mathlib.Decide.{ℕ_discrete}
use Rattle.xc_data.specs.Counts.{RisesBy}
use Rattle.xc_data.specs.Faults.{entry_faults}
use Rattle.xc_data.specs.declared.script.HostCallKind.{HostCallKind}
use Rattle.xc_host.specs.Cause.{times}
use Rattle.xc_script.specs.declared.ask.Ask.{Ask}
use Rattle.xc_script.specs.declared.ask.Ask.TheVariants as ask
use Rattle.xc_script.specs.Blocks.{ask_fits}
use Rattle.xc_script.specs.Position.{Position}
use Rattle.xc_model.specs.declared.phase.Phase.{Phase}
use Rattle.xc_model.specs.declared.phase.Phase.TheVariants.{Running}
use Rattle.xc_model.specs.Alone.{AreAlone}
use Rattle.xc_model.specs.Consistent.{IsConsistent}
use Rattle.xc_model.specs.Counted.{AreCounted, tx_faults}
use Rattle.xc_model.specs.HandedIn.{IsHandedIn, MayHand, MayHandIn, handing}
use Rattle.xc_model.specs.Handling.{HandlesAgree, MadeBy, StopsIn}
use Rattle.xc_model.specs.Holding.{AreApart}
use Rattle.xc_model.specs.Moment.{TxView, JobView, Doing, Idle, Active, Starved, Ended, Moment, active_of, actives, with_job}
use Rattle.xc_model.specs.Movers.{IsActiveAt, asked_at}
use Rattle.xc_model.specs.Patience.{NoneIsRevoked}
use Rattle.xc_model.specs.Progress.{Following}
use Rattle.xc_model.specs.Setting.{Setting}
use Rattle.xc_model.specs.Started.{AreStarted, HasStartEnds, blocks, started_by}
use Rattle.xc_model.specs.Stories.{FitsWhereItRuns, IsDoing, IsInPhase, IsUnderway, StoriesHold, StoryHolds}
use Rattle.xc_model.specs.Words.{WordsAgree}
use Rattle.xc_model.proofs.Laws.{handed_fits, handed_runs, handing_asks, nothing_asked}
use Rattle.xc_data.proofs.Laws.{get_set_same, get_set_other, map_set_same}
use Rattle.xc_turns.proofs.HandedGrounds.{handed_grounded}
use Rattle.xc_turns.proofs.HandledMade.{MadeAt}
use Rattle.xc_turns.proofs.HandledRows.{stays_handled, there}
use Rattle.xc_turns.proofs.Jobs.{alike_actives, alike_after, alike_before}
use Rattle.xc_turns.proofs.StoryJobs.{begun_in, story_goes_on, told_but, told_whole}
use Rattle.xc_turns.proofs.StoryRows.{running_phase}

-- ---- a job's story
-- a running transaction goes on with what it is asked now, where that fits its open block
asked_now : (s : Setting) (f : Following) (place : Position) (last now : Ask) (tx : TxView) → tx.phase ≡ Running
    → ask_fits (is_some tx.saved) now ≡ true → IsUnderway s f place last tx → IsUnderway s f place now tx
asked_now s f place last now tx runs fits under =
    record {
      goes_on = under.goes_on;
      left = under.left;
      attempts = under.attempts;
      rank = under.rank;
      since = under.since;
      standing = under.standing;
      asked = under.asked;
      ahead = under.ahead;
      client = under.client;
      fits = λ live. subst (λ (p : Phase). FitsWhereItRuns p tx.saved now) (sym runs) fits;
      kept = under.kept;
      in_time = under.in_time;
      stored = under.stored;
      sided = under.sided;
      saved_sided = under.saved_sided;
      together = under.together;
      counted = under.counted;
      faults = under.faults;
      phase = subst (IsInPhase s place now tx) (sym runs) (running_phase s f place last tx runs under);
    }

-- by what the job does
doing_handed : (s : Setting) (begun : ℕ) (f : Following) (job : JobView) (asked : Ask) (d : Doing) → asked_at s (handing job asked) ≡ asked → MayHand d asked
    → IsDoing s begun f job d → IsDoing s begun f (handing job asked) d
doing_handed s begun f job asked Idle is may h = h
doing_handed s begun f job asked (Active tx) is may h =
    subst (λ a. IsUnderway s f job.place a tx) (sym is)
    (asked_now s f job.place (asked_at s job) asked tx (handed_runs (Active tx) asked tx may refl) (handed_fits tx asked may) h)
doing_handed s begun f job asked Starved is may h = h
doing_handed s begun f job asked (Ended end) is may h = h

-- ---- which calls of the host its transaction made
made_handed : (s : Setting) (job : JobView) (asked : Ask) (o : Option TxView) (made : List HostCallKind) → ((tx : TxView) → o ≡ Some tx → tx.phase ≡ Running)
    → MadeBy s job o made → MadeBy s (handing job asked) o made
made_handed s job asked None made runs h = h
made_handed s job asked (Some tx) made runs h =
    let none : h.stops ≡ [] = subst (λ (p : Phase). StopsIn p (asked_at s job) h.stops) (runs tx refl) h.stopped in
    record {
      body = h.body;
      stops = h.stops;
      backs = h.backs;
      lates = h.lates;
      calls = h.calls;
      stopped = subst (λ (p : Phase). StopsIn p (asked_at s (handing job asked)) h.stops) (sym (runs tx refl)) none;
      undone = h.undone;
      ended = h.ended;
      all = h.all;
    }

-- ---- a moment
module _ (s : Setting) (at : ℕ) (asked : Ask) (old : Moment) (m : MayHandIn s at asked old) where
  abbrev next : JobView
  next = handing m.job asked

  abbrev behind : Moment
  behind = with_job old at next

  -- the same transactions are active
  was : (j : ℕ) (t : TxView) → IsActiveAt behind.jobs j t → IsActiveAt old.jobs j t
  was = alike_before old.jobs at m.job next m.is refl

  still : (j : ℕ) (t : TxView) → IsActiveAt old.jobs j t → IsActiveAt behind.jobs j t
  still = alike_after old.jobs at m.job next m.is refl

  same : actives behind.jobs ≡ actives old.jobs
  same = alike_actives old.jobs at m.job next m.is refl

  nothing : asked_at s m.job ≡ ask.End
  nothing = nothing_asked s m.job m.clients m.none

  -- each job's story goes on
  told_handed : (told : StoriesHold s (length old.words) old.marks old.journal old.jobs)
      → (now : StoriesHold s (length old.words) old.marks old.journal behind.jobs) × (now.lasts ≡ told.lasts)
  told_handed told =
      told_whole s (length old.words) old.marks told.lasts old.journal behind.jobs
      (story_goes_on s told.lasts old.journal old.jobs at m.job next m.is refl goes_on (told_but s (length old.words) old.marks old.journal old.jobs told))
      (handed_grounded s at old behind m.job asked m.is told m.may nothing)
    where
      goes_on : (f : Following) → StoryHolds s (begun_in old.journal old.jobs) (length old.journal) f m.job
          → StoryHolds s (begun_in old.journal old.jobs) (length old.journal) f next
      goes_on f h =
          record {
            block = h.block;
            fresh = h.fresh;
            sided = h.sided;
            since = h.since;
            attempts = h.attempts;
            few = h.few;
            doing = doing_handed s (begun_in old.journal old.jobs) f m.job asked m.job.doing (handing_asks s m.job asked m.clients) m.may h.doing;
          }

  revoked_none : NoneIsRevoked old → NoneIsRevoked behind
  revoked_none h = record { entries = h.entries; active = λ j t a. h.active j t (was j t a); marks = h.marks }

  spoken_handed : (before : List ℕ) → WordsAgree before old.words old.jobs → WordsAgree before old.words behind.jobs
  spoken_handed before h =
      record {
        count = h.count;
        each = λ j t a. h.each j t (was j t a);
        written = λ word j t lt w. h.written word j t lt (record { active = was j t w.active; phase = w.phase; owns = w.owns });
        others = λ word lt none. h.others word lt
            (λ j t w. none j t (record { active = still j t w.active; phase = w.phase; owns = w.owns }));
      }

  apart_handed : AreApart old.jobs → AreApart behind.jobs
  apart_handed h =
      record {
        together = λ i j t u ne a b. h.together i j t u ne (was i t a) (was j u b);
        once = λ i t a. h.once i t (was i t a);
      }

  counted_handed : (faults : ℕ) → AreCounted faults old → AreCounted faults behind
  counted_handed faults h =
      subst (λ (ts : List TxView). RisesBy (sum_by entry_faults old.journal + sum_by tx_faults ts) faults old.faults) (sym same) h

  started_handed : AreStarted s.script old → AreStarted s.script behind
  started_handed h =
      let named : blocks behind.jobs ≡ blocks old.jobs = map_set_same (λ (j : JobView). j.block) old.jobs at next m.job m.is refl in
      record {
        order = subst (λ (bs : List (List ℕ)). old.started ≡ bs ++ flat_map started_by (actives behind.jobs)) (sym named)
            (subst (λ (ts : List TxView). old.started ≡ blocks old.jobs ++ flat_map started_by ts) (sym same) h.order);
        few = h.few;
        holds = λ j t a keeps. h.holds j t (was j t a) keeps;
        starts = λ j t a. subst (λ (bs : List (List ℕ)). HasStartEnds s.script bs t) (sym named) (h.starts j t (was j t a));
      }

  handles_handed : (lasts : List Ask) → HandlesAgree s lasts old.journal old.jobs old.calls → HandlesAgree s lasts old.journal behind.jobs old.calls
  handles_handed lasts h =
      let mine : MadeAt s m.job h.under_way at = there s lasts old.journal old.jobs old.calls at m.job m.is h in
      stays_handled s lasts old.journal old.jobs old.calls at m.job m.is h next mine.made [] old.calls refl
      (made_handed s m.job asked (active_of m.job) mine.made (λ t is. handed_runs m.job.doing asked t m.may is) mine.by)
      (λ kind. let none : times kind [] ≡ 0 = refl in omega (arith, none)) (λ kind. refl)

  -- all that is true between two turns
  consistent : (faults : ℕ) → IsConsistent s faults old → IsConsistent s faults behind
  consistent faults h =
      let (now, asks) = told_handed h.told in
      record {
        told = now;
        attempts = h.attempts;
        patience = λ zero. revoked_none (h.patience zero);
        spoken = spoken_handed _ h.spoken;
        apart = apart_handed h.apart;
        counted = counted_handed faults h.counted;
        started = started_handed h.started;
        handled = subst (λ lasts. HandlesAgree s lasts old.journal behind.jobs old.calls) (sym asks) (handles_handed h.told.lasts h.handled);
      }

  -- what each job does stays
  does : (j : ℕ) (x : JobView) → slice_get behind.jobs j ≡ Some x → (y : JobView) × (slice_get old.jobs j ≡ Some y) × (y.doing ≡ x.doing)
  does j x got = dite (ℕ_discrete j at)
      (λ (here : j ≡ at).
      let is : next ≡ x = let e : Some next ≡ Some x = sym (get_set_same old.jobs at m.job next m.is) ∙ ap (slice_get behind.jobs) (sym here) ∙ got in cc in
      (m.job, ap (slice_get old.jobs) here ∙ m.is, ap (λ (k : JobView). k.doing) is))
      (λ (away : j ≢ at). (x, sym (get_set_other old.jobs at j next away) ∙ got, refl))

  -- and one that goes on alone goes on alone
  alone : (job : ℕ) → AreAlone old job → AreAlone behind job
  alone job h =
      record {
        serial = h.serial;
        before = h.before;
        others = λ j t a. h.others j t (was j t a);
        mine = λ t a. h.mine t (was job t a);
        unmarked = h.unmarked;
        full = λ j x got ended. let y = does j x got in h.full j y.0 y.1 (y.2 ∙ ended);
      }

-- who hands in may
abbrev may_of : {s : Setting} {at : ℕ} {asked : Ask} {old new : Moment} → IsHandedIn s at asked old new → MayHandIn s at asked old
may_of h = record { clients = h.clients; job = h.job; is = h.is; none = h.none; may = h.may }

-- what is handed in keeps all that is true between two turns
pub handed_consistent : (s : Setting) (faults at : ℕ) (asked : Ask) (old new : Moment) → IsHandedIn s at asked old new → IsConsistent s faults old
    → IsConsistent s faults new
handed_consistent s faults at asked old new h kept =
    subst (IsConsistent s faults) (sym h.behind) (consistent s at asked old (may_of h) faults kept)

-- and that one job goes on alone
pub handed_alone : (s : Setting) (at job : ℕ) (asked : Ask) (old new : Moment) → IsHandedIn s at asked old new → AreAlone old job → AreAlone new job
handed_alone s at job asked old new h kept =
    subst (λ (n : Moment). AreAlone n job) (sym h.behind) (alone s at asked old (may_of h) job kept)
