-- What an entry as its text shows it says of each entry that is shown so.
use Rattle.std.proofs.Common.{◌≡◌, ◌<◌, ◌≤◌, Some, List, map, refl, ap, sym, ◌∙◌, subst, arith}
use Rattle.xc_data.specs.declared.claim.Claim.{Claim}
use Rattle.xc_data.specs.declared.entry.Cause.{Cause}
use Rattle.xc_data.specs.declared.entry.Entry.{Entry}
use Rattle.xc_data.specs.declared.entry.Outcome.{Outcome}
use Rattle.xc_data.specs.declared.entry.Outcome.TheVariants.{Committed, Aborted}
use Rattle.xc_script.specs.declared.ask.Ask.{Ask}
use Rattle.xc_shown.specs.Shown.{Shows, bare, bare_outcome, record_shown, records_of, shown_of}
use Rattle.xc_shown.specs.declared.shown.Shown.{Shown}
use Rattle.xc_world.specs.Run.{BodyResult}
use Rattle.xc_judge.specs.declared.basis.Basis.{Basis}
use Rattle.xc_model.specs.Course.{Course, Standing, standing_of}
use Rattle.xc_model.specs.EntryEnds.{IsCauseOf, IsHeld, cause_in, failures_with}
use Rattle.xc_model.specs.Machine.{HasLates, HasRecordsOf, HasReplies, IsAttempt, IsEndAsked, IsMachineTrue}
use Rattle.xc_model.specs.Progress.{body_of}
use Rattle.xc_model.specs.Recorded.{IsStuckIn, all_records, no_records, saved_records}
use Rattle.xc_judge.specs.Judged.{IsInSomeTurn, IsToldBy, place_of_reason, telling_terms}
use Rattle.xc_judge.specs.Judgement.{FailsToRun, IsRunSo}
use Rattle.xc_judge.specs.Stepped.{IsRefusedSo, MeetsSo}
use Rattle.xc_judge.specs.Traced.{ends_of, shown_ends}
use Rattle.xc_judge.specs.declared.ran.Ran.{Ran}
use Rattle.xc_judge.specs.declared.reason.Reason.{Reason}
use Rattle.xc_judge.specs.declared.reason.Reason.TheVariants as reason
use Rattle.xc_judge.proofs.Newest.{stuck_alike}
use Rattle.xc_judge.proofs.Tracing.{shown_ends_are}

-- its job is started, and its replies and late ends are true
pub record IsShownPlayed (basis : Basis) (c : Course) (e : Entry) : Type 0 where
  pub numbered : IsInSomeTurn c e
  pub replies : HasReplies (telling_terms basis) c e
  pub lates : HasLates (telling_terms basis) c e e.outcome

-- so it is where its body was run again, and its late calls end so
pub played_so : (basis : Basis) (c : Course) (e : Entry) (ran : Ran) → IsRunSo basis c e ran → HasLates (telling_terms basis) c e e.outcome
    → IsShownPlayed basis c e
played_so basis c e ran run lates = record { numbered = run.numbered; replies = run.replies; lates = lates }

-- ---- nothing but its records looks at more than is shown
module _ (basis : Basis) (c : Course) (last : Ask) (e : Entry) where
  -- replies
  replies_so : HasReplies (telling_terms basis) c (bare e) → HasReplies (telling_terms basis) c e
  replies_so so =
      record {
        words = so.words;
        in_time = so.in_time;
        faults = so.faults;
        played = λ tells. record { fits = (so.played tells).fits; replies = (so.played tells).replies };
      }

  -- late ends
  lates_so : (o : Outcome) → HasLates (telling_terms basis) c (bare e) (bare_outcome o) → HasLates (telling_terms basis) c e o
  lates_so (Committed late) so =
      record { count = so.count; played = λ tells. record { ends = (so.played tells).ends; late_fits = (so.played tells).late_fits } }
  lates_so (Aborted report) so = tt

  -- what was held
  held_so : (b : BodyResult) (held : List Claim) (o : Outcome) → IsHeld b last (bare_outcome o) held → IsHeld b last o held
  held_so b held (Committed late) so = so
  held_so b held (Aborted report) so = so

  -- how many attempts failed
  failures_so : (failed : List Cause) (o : Outcome) → failures_with failed (bare_outcome o) ≡ failures_with failed o
  failures_so failed (Committed late) = refl
  failures_so failed (Aborted report) = refl

  -- the attempt
  attempt_so : (f : Standing) → IsAttempt (telling_terms basis) f (bare e) → IsAttempt (telling_terms basis) f e
  attempt_so f so =
      record { goes_on = so.goes_on; rank = so.rank; failures = subst (λ n. n ≤ basis.rules.attempts) (failures_so f.failed e.outcome) so.failures }

  -- the attempt, without its records
  attempt_bare : (f : Standing) → IsAttempt (telling_terms basis) f e → IsAttempt (telling_terms basis) f (bare e)
  attempt_bare f so =
      record {
        goes_on = so.goes_on;
        rank = so.rank;
        failures = subst (λ n. n ≤ basis.rules.attempts) (sym (failures_so f.failed e.outcome)) so.failures;
      }

  -- so it is true where it is so as far as it is shown, and its records and its story are true
  bare_true : IsShownPlayed basis c (bare e) → IsHeld (body_of c.state e) last (bare_outcome e.outcome) e.held
      → IsToldBy basis c last e → HasRecordsOf (telling_terms basis) c last e e.outcome → IsMachineTrue (telling_terms basis) c last e
  bare_true run held told records =
      let turn = run.numbered.in_turn in
      let f = run.numbered.standing in
      record {
        standing = f;
        numbered = turn.numbered;
        started = turn.started;
        entry = record {
          numbers = record { since = turn.begun.since; began = turn.begun.began };
          story = told.attempt f turn.started;
          replies = replies_so run.replies;
          lates = lates_so e.outcome run.lates;
          records = records;
          held = λ _. held_so (body_of c.state e) e.held e.outcome held;
          asked = told.asked;
        };
      }

-- what is shown is the entry without its records
pub shown_bare : (shown : Shown) (e : Entry) → Shows shown e → shown.entry ≡ bare e
shown_bare shown e shows = sym (ap (λ (s : Shown). s.entry) shows)

-- what an entry as it is shown held
abbrev pub HeldSo : Course → Ask → Entry → Type 0
HeldSo c last e = IsHeld (body_of c.state e) last e.outcome e.held

-- an entry that is shown so is true
pub judged_true : (basis : Basis) (c : Course) (last : Ask) (shown : Shown) (e : Entry) → Shows shown e → IsShownPlayed basis c shown.entry
    → HeldSo c last shown.entry → IsToldBy basis c last e → HasRecordsOf (telling_terms basis) c last e e.outcome → IsMachineTrue (telling_terms basis) c last e
judged_true basis c last shown e shows run held told records =
    let same = shown_bare shown e shows in
    bare_true basis c last e (subst (IsShownPlayed basis c) same run) (subst (HeldSo c last) same held) told records

-- ---- its story looks at nothing of its records but their ends
-- the end of another entry with the same calls, which is shown so, was asked too
asked_alike : (last : Ask) (e d : Entry) (o p : Outcome) → e.calls ≡ d.calls → e.replies ≡ d.replies → bare_outcome o ≡ bare_outcome p
    → map record_shown (records_of o) ≡ map record_shown (records_of p) → IsEndAsked last e o → IsEndAsked last d p
asked_alike last e d (Committed late) (Committed other) calls replies same records asked = asked
asked_alike last e d (Committed late) (Aborted report) calls replies same records asked = cc same
asked_alike last e d (Aborted report) (Committed late) calls replies same records asked = cc same
asked_alike last e d (Aborted report) (Aborted other) calls replies same records asked =
    let why : report.cause ≡ other.cause = cc (ap cause_in same) in
    let ends : ends_of report.records ≡ ends_of other.records =
    sym (shown_ends_are report.records) ∙ ap shown_ends records ∙ shown_ends_are other.records in
    let count : all_records no_records e.calls e.replies ≡ all_records no_records d.calls d.replies = λ i. all_records no_records (calls i) (replies i) in
    record {
      asked = subst (λ z. IsCauseOf z last) why asked.asked;
      stuck = subst (λ z. IsStuckIn (saved_records (all_records no_records d.calls d.replies)) 1 other.records z) why
          (subst (λ k. IsStuckIn (saved_records k) 1 other.records report.cause) count
          (stuck_alike (saved_records (all_records no_records e.calls e.replies)) report.cause report.records other.records ends asked.stuck));
    }

-- so of two entries that are shown alike both tell their story, or neither
pub told_alike : (basis : Basis) (c : Course) (last : Ask) (shown : Shown) (e d : Entry) → Shows shown e → Shows shown d → IsToldBy basis c last e
    → IsToldBy basis c last d
told_alike basis c last shown e d at_e at_d told =
    let same : shown_of e ≡ shown_of d = at_e ∙ sym at_d in
    let bares : bare e ≡ bare d = ap (λ (s : Shown). s.entry) same in
    record {
      attempt = λ f started.
          let there : standing_of c (bare e) ≡ Some f = subst (λ (x : Entry). standing_of c x ≡ Some f) (sym bares) started in
          attempt_so basis c last d f
          (subst (λ (x : Entry). IsAttempt (telling_terms basis) f x) bares (attempt_bare basis c last e f (told.attempt f there)));
      asked = asked_alike last e d e.outcome d.outcome (ap (λ (x : Entry). x.calls) bares) (ap (λ (x : Entry). x.replies) bares)
          (ap (λ (x : Entry). x.outcome) bares) (ap (λ (s : Shown). s.records) same) told.asked;
    }

-- ---- the first reason for which it is refused
module _ (basis : Basis) (c : Course) (last : Ask) (shown : Shown) where
  -- what comes before its records is so
  before_records : IsShownPlayed basis c shown.entry → (other : Reason) → place_of_reason other < 3 → MeetsSo basis c last shown other
  before_records run reason.Numbers less = run.numbered
  before_records run reason.Reply less = run.replies
  before_records run reason.Late less = run.lates
  before_records run reason.Records less = absurd (omega (arith, less))
  before_records run reason.Held less = absurd (omega (arith, less))
  before_records run reason.Story less = absurd (omega (arith, less))

  -- and what comes behind them
  before_held : IsShownPlayed basis c shown.entry → MeetsSo basis c last shown reason.Records → (other : Reason) → place_of_reason other < 4
      → MeetsSo basis c last shown other
  before_held run records reason.Numbers less = run.numbered
  before_held run records reason.Reply less = run.replies
  before_held run records reason.Late less = run.lates
  before_held run records reason.Records less = records
  before_held run records reason.Held less = absurd (omega (arith, less))
  before_held run records reason.Story less = absurd (omega (arith, less))

  -- and what comes before its story
  before_story : IsShownPlayed basis c shown.entry → MeetsSo basis c last shown reason.Records → MeetsSo basis c last shown reason.Held
      → (other : Reason) → place_of_reason other < 5 → MeetsSo basis c last shown other
  before_story run records held reason.Numbers less = run.numbered
  before_story run records held reason.Reply less = run.replies
  before_story run records held reason.Late less = run.lates
  before_story run records held reason.Records less = records
  before_story run records held reason.Held less = held
  before_story run records held reason.Story less = absurd (omega (arith, less))

  -- before its replies
  before_reply : IsInSomeTurn c shown.entry → (other : Reason) → place_of_reason other < 1 → MeetsSo basis c last shown other
  before_reply numbered reason.Numbers less = numbered
  before_reply numbered reason.Reply less = absurd (omega (arith, less))
  before_reply numbered reason.Late less = absurd (omega (arith, less))
  before_reply numbered reason.Records less = absurd (omega (arith, less))
  before_reply numbered reason.Held less = absurd (omega (arith, less))
  before_reply numbered reason.Story less = absurd (omega (arith, less))

  -- and before its late ends
  before_late : IsInSomeTurn c shown.entry → HasReplies (telling_terms basis) c shown.entry → (other : Reason) → place_of_reason other < 2
      → MeetsSo basis c last shown other
  before_late numbered replies reason.Numbers less = numbered
  before_late numbered replies reason.Reply less = replies
  before_late numbered replies reason.Late less = absurd (omega (arith, less))
  before_late numbered replies reason.Records less = absurd (omega (arith, less))
  before_late numbered replies reason.Held less = absurd (omega (arith, less))
  before_late numbered replies reason.Story less = absurd (omega (arith, less))

  -- its body fails
  pub refused_run : (why : Reason) → FailsToRun basis c shown.entry why → IsRefusedSo basis c last shown why
  refused_run reason.Numbers fails = record { fails = fails; before = λ other less. absurd (omega (arith, less)) }
  refused_run reason.Reply fails = record { fails = fails.1; before = before_reply fails.0 }
  refused_run reason.Late fails = record { fails = fails.2; before = before_late fails.0 fails.1 }
  refused_run reason.Records fails = absurd fails
  refused_run reason.Held fails = absurd fails
  refused_run reason.Story fails = absurd fails

  -- its records do
  pub refused_records : IsShownPlayed basis c shown.entry
      → ((e : Entry) → Shows shown e → HasRecordsOf (telling_terms basis) c last e e.outcome → ⊥) → IsRefusedSo basis c last shown reason.Records
  refused_records run none = record { fails = λ some. none some.0 some.1 some.2; before = before_records run }

  -- what was held does
  pub refused_held : IsShownPlayed basis c shown.entry → (e : Entry) → Shows shown e → HasRecordsOf (telling_terms basis) c last e e.outcome
      → (HeldSo c last shown.entry → ⊥) → IsRefusedSo basis c last shown reason.Held
  refused_held run e shows records fails = record { fails = fails; before = before_held run (e, shows, records) }

  -- its story does
  pub refused_story : IsShownPlayed basis c shown.entry → (e : Entry) → Shows shown e → HasRecordsOf (telling_terms basis) c last e e.outcome
      → HeldSo c last shown.entry → (IsToldBy basis c last e → ⊥) → IsRefusedSo basis c last shown reason.Story
  refused_story run e shows records held fails =
      record {
        fails = λ some. fails (told_alike basis c last shown some.0 e some.1 shows some.2);
        before = before_story run (e, shows, records) held;
      }
