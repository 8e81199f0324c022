-- An entry without the records of its report is judged as with them, but for the records.
use Rattle.std.proofs.Common.{◌≡◌, ◌∙◌, ℕ, List, map, refl, ap, subst, sym}
use Rattle.std.specs.Prelude.{Option, unwrap_or}
use Rattle.std.specs.declared.option.Option.TheVariants.{None, Some}
use Rattle.xc_data.specs.declared.claim.Claim.{Claim}
use Rattle.xc_data.specs.declared.entry.Cause.{Cause}
use Rattle.xc_data.specs.declared.entry.Entry.{Entry}
use Rattle.xc_data.specs.declared.entry.Outcome.{Outcome}
use Rattle.xc_data.specs.declared.entry.Outcome.TheVariants.{Committed, Aborted}
use Rattle.xc_judge.specs.Judged.{telling_terms}
use Rattle.xc_judge.specs.Stepped.{MeetsSo}
use Rattle.xc_judge.specs.declared.basis.Basis.{Basis}
use Rattle.xc_judge.specs.declared.reason.Reason.{Reason}
use Rattle.xc_judge.specs.declared.reason.Reason.TheVariants as reason
use Rattle.xc_model.specs.Asked.{IsAskedEntry, ScriptJob, StartsJobs, after_jobs, jobs_behind, jobs_outcome, script_job_of}
use Rattle.xc_model.specs.Course.{Course, Standing}
use Rattle.xc_model.specs.EntryEnds.{IsHeld, IsHeldAt}
use Rattle.xc_model.specs.Machine.{HasLates, IsAttempt, IsMachineTrue}
use Rattle.xc_model.specs.Progress.{body_of}
use Rattle.xc_script.specs.declared.ask.Ask.{Ask}
use Rattle.xc_shown.specs.Shown.{bare, bare_outcome, shown_of}
use Rattle.xc_text.specs.declared.script.Script.{Script}

-- a value is known by its option
pub some_same : {A : Type 0} → (x y : A) → Some x ≡ Some y → x ≡ y
some_same x y h = ap (λ o. unwrap_or o x) h

module _ (e : Entry) where
  -- ---- the script's part
  jobs_bare : (script : Script) (jobs : List ScriptJob) (j : ScriptJob) (o : Outcome)
      → jobs_outcome script jobs j (bare e) (bare_outcome o) ≡ jobs_outcome script jobs j e o
  jobs_bare script jobs j (Committed late) = refl
  jobs_bare script jobs j (Aborted report) = refl

  behind_bare : (script : Script) (jobs : List ScriptJob) (o : Option ScriptJob) → jobs_behind script jobs (bare e) o ≡ jobs_behind script jobs e o
  behind_bare script jobs None = refl
  behind_bare script jobs (Some j) = jobs_bare script jobs j e.outcome

  -- it leads to the same jobs
  pub after_bare : (script : Script) (jobs : List ScriptJob) → after_jobs script jobs (bare e) ≡ after_jobs script jobs e
  after_bare script jobs = behind_bare script jobs (script_job_of jobs e)

  starts_bare : (script : Script) (blocks : List (List ℕ)) (o : Outcome) → StartsJobs script blocks (bare e) (bare_outcome o)
      ≡ StartsJobs script blocks e o
  starts_bare script blocks (Committed late) = refl
  starts_bare script blocks (Aborted report) = refl

  -- it was asked alike
  pub asked_bare : (script : Script) (jobs : List ScriptJob) (last : Ask) → IsAskedEntry script jobs last (bare e) → IsAskedEntry script jobs last e
  asked_bare script jobs last h =
      record {
        asking = h.asking;
        started = h.started;
        asked = record { left = h.asked.left; scripted = λ own. let block = h.asked.scripted own in record { calls = block.calls; after = block.after } };
        starts = subst (λ (A : Type 0). A) (starts_bare script (map (λ (j : ScriptJob). j.block) jobs) e.outcome) h.starts;
      }

  pub asked_with_records : (script : Script) (jobs : List ScriptJob) (last : Ask) → IsAskedEntry script jobs last e
      → IsAskedEntry script jobs last (bare e)
  asked_with_records script jobs last h =
      record {
        asking = h.asking;
        started = h.started;
        asked = record { left = h.asked.left; scripted = λ own. let block = h.asked.scripted own in record { calls = block.calls; after = block.after } };
        starts = subst (λ (A : Type 0). A) (sym (starts_bare script (map (λ (j : ScriptJob). j.block) jobs) e.outcome)) h.starts;
      }

  -- ---- the machine's part
  module _ (basis : Basis) (c : Course) (last : Ask) where
    lates_bare : (o : Outcome) → HasLates (telling_terms basis) c e o → HasLates (telling_terms basis) c (bare e) (bare_outcome o)
    lates_bare (Committed late) h =
        record { count = h.count; played = λ t. record { ends = (h.played t).ends; late_fits = (h.played t).late_fits } }
    lates_bare (Aborted report) h = tt

    held_at_bare : (cause : Cause) (held : List Claim) → IsHeldAt (body_of c.state e) last cause held → IsHeldAt (body_of c.state (bare e)) last cause held
    held_at_bare cause held h = h

    held_bare : (o : Outcome) → IsHeld (body_of c.state e) last o e.held → IsHeld (body_of c.state (bare e)) last (bare_outcome o) e.held
    held_bare (Committed late) h = h
    held_bare (Aborted report) h = h

    -- a true entry meets each reason as it is shown
    pub meets_each : IsMachineTrue (telling_terms basis) c last e → (r : Reason) → MeetsSo basis c last (shown_of e) r
    meets_each h reason.Numbers =
        record {
          standing = h.standing;
          in_turn = record {
            numbered = h.numbered;
            started = h.started;
            begun = record { since = h.entry.numbers.since; began = h.entry.numbers.began };
          };
        }
    meets_each h reason.Reply =
        let replies = h.entry.replies in
        record {
          words = replies.words;
          in_time = replies.in_time;
          faults = replies.faults;
          played = λ t. record { fits = (replies.played t).fits; replies = (replies.played t).replies };
        }
    meets_each h reason.Late = lates_bare e.outcome h.entry.lates
    meets_each h reason.Records = (e, refl, h.entry.records)
    meets_each h reason.Held = held_bare e.outcome (h.entry.held refl)
    meets_each h reason.Story = (
      e,
      refl,
      record {
        attempt = λ f started.
            let same : h.standing ≡ f = some_same h.standing f (sym h.started ∙ started) in
            subst (λ (g : Standing). IsAttempt (telling_terms basis) g e) same h.entry.story;
        asked = h.entry.asked;
      },
    )
