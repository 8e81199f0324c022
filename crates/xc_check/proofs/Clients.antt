-- What was asked last of an entry of a client: where any call makes it true, the one that its text tells does, but where memory was
-- wanting.
use Rattle.std.proofs.Common.{◌≡◌, ◌∙◌, ◌&&◌, Bool, true, false, List, Option, refl, ap, subst, sym}
use Rattle.xc_asked.specs.Walking.{client_asked, client_end, last_told, told_of}
use Rattle.xc_data.specs.declared.claim.Claim.{Claim}
use Rattle.xc_data.specs.declared.entry.Cause.{Cause}
use Rattle.xc_data.specs.declared.entry.Cause.TheVariants as cause
use Rattle.xc_data.specs.declared.entry.Entry.{Entry}
use Rattle.xc_data.specs.declared.entry.Outcome.{Outcome}
use Rattle.xc_data.specs.declared.entry.Outcome.TheVariants.{Committed, Aborted}
use Rattle.xc_data.specs.declared.undo.Undo.{Undo}
use Rattle.xc_judge.specs.Judged.{telling_terms}
use Rattle.xc_judge.specs.Ran.{is_memory_cause}
use Rattle.xc_judge.specs.Stepped.{MeetsSo}
use Rattle.xc_judge.specs.declared.basis.Basis.{Basis}
use Rattle.xc_judge.specs.declared.reason.Reason.{Reason}
use Rattle.xc_judge.specs.declared.reason.Reason.TheVariants as reason
use Rattle.xc_model.specs.Asked.{IsAskedEntry, ScriptJob, asked_after, last_asked, script_job_of}
use Rattle.xc_model.specs.Course.{Course, Standing}
use Rattle.xc_model.specs.EntryEnds.{AreRecords, IsCauseOf, IsHeld, IsHeldAt}
use Rattle.xc_model.specs.Live.{has_clients}
use Rattle.xc_model.specs.Machine.{HasRecordsOf, IsAttempt, IsEndAsked, IsMachineTrue}
use Rattle.xc_model.specs.Progress.{body_of}
use Rattle.xc_script.specs.declared.ask.Ask.{Ask}
use Rattle.xc_shown.specs.Shown.{bare, bare_outcome, shown_of}
use Rattle.xc_text.specs.declared.script.Script.{Script}
use Rattle.xc_world.specs.Run.{BodyResult}
use Rattle.xc_check.specs.Untold.{lacked_memory, looks_at_last}
use Rattle.xc_check.proofs.Bare.{meets_each, some_same}

-- ---- it doesn't depend on the records of a report
end_bare : (o : Outcome) → client_end (bare_outcome o) ≡ client_end o
end_bare (Committed late) = refl
end_bare (Aborted report) = refl

told_bare : (b : Bool) (script : Script) (o : Option ScriptJob) (e : Entry) → told_of b script o (bare e) ≡ told_of b script o e
told_bare true script o e = end_bare e.outcome
told_bare false script o e = refl

-- so what is told is the same without them
pub last_bare : (script : Script) (o : Option ScriptJob) (e : Entry) → last_told script o (bare e) ≡ last_told script o e
last_bare script o e = told_bare (has_clients script) script o e

lacked_of : (o : Outcome) → lacked_memory (bare_outcome o) ≡ lacked_memory o
lacked_of (Committed late) = refl
lacked_of (Aborted report) = refl

-- nor does it that memory was wanting
pub lacked_bare : (e : Entry) → lacked_memory (bare e).outcome ≡ lacked_memory e.outcome
lacked_bare e = lacked_of e.outcome

-- ---- parts of an entry
cause_told : (why : Cause) (last : Ask) → IsCauseOf why last → IsCauseOf why (client_asked why)
cause_told cause.Asked last h = refl
cause_told (cause.Conflict object holder at) last h = refl
cause_told (cause.Stuck failed) last h = refl
cause_told (cause.Revoked object by at) last h = tt
cause_told cause.NoMemory last h = tt

end_told : (e : Entry) (o : Outcome) (last : Ask) → IsEndAsked last e o → IsEndAsked (client_end o) e o
end_told e (Committed late) last h = refl
end_told e (Aborted report) last h = record { asked = cause_told report.cause last h.asked; stuck = h.stuck }

held_at_told : (b : BodyResult) (why : Cause) (last other : Ask) (held : List Claim) → is_memory_cause why ≡ false → IsHeldAt b last why held
    → IsHeldAt b other why held
held_at_told b cause.NoMemory last other held fed h = cc fed
held_at_told b cause.Asked last other held fed h = h
held_at_told b (cause.Conflict object holder at) last other held fed h = h
held_at_told b (cause.Stuck failed) last other held fed h = h
held_at_told b (cause.Revoked object by at) last other held fed h = h

held_told : (b : BodyResult) (o : Outcome) (last other : Ask) (held : List Claim) → lacked_memory o ≡ false → IsHeld b last o held → IsHeld b other o held
held_told b (Committed late) last other held fed h = h
held_told b (Aborted report) last other held fed h = held_at_told b report.cause last other held fed h

records_at_told : (b : BodyResult) (tx : _) (why : Cause) (last other : Ask) (us : List Undo) → is_memory_cause why ≡ false
    → AreRecords b tx last why us → AreRecords b tx other why us
records_at_told b tx cause.NoMemory last other us fed h = cc fed
records_at_told b tx cause.Asked last other us fed h = h
records_at_told b tx (cause.Conflict object holder at) last other us fed h = h
records_at_told b tx (cause.Stuck failed) last other us fed h = h
records_at_told b tx (cause.Revoked object by at) last other us fed h = h

module _ (basis : Basis) (c : Course) (e : Entry) where
  records_told : (o : Outcome) (last other : Ask) → lacked_memory o ≡ false → HasRecordsOf (telling_terms basis) c last e o
      → HasRecordsOf (telling_terms basis) c other e o
  records_told (Committed late) last other fed h = tt
  records_told (Aborted report) last other fed h =
      record {
        counted = h.counted;
        played = λ tells. records_at_told (body_of c.state e) e.tx report.cause last other _ fed (h.played tells);
      }

  -- ---- an entry
  -- where memory wasn't wanting it is true with what is told
  machine_told : (last : Ask) → lacked_memory e.outcome ≡ false → IsMachineTrue (telling_terms basis) c last e
      → IsMachineTrue (telling_terms basis) c (client_end e.outcome) e
  machine_told last fed h =
      let entry = h.entry in
      record {
        standing = h.standing;
        numbered = h.numbered;
        started = h.started;
        entry = record {
          numbers = entry.numbers;
          story = entry.story;
          replies = entry.replies;
          lates = entry.lates;
          records = records_told e.outcome last (client_end e.outcome) fed entry.records;
          held = λ tells. held_told (body_of c.state e) e.outcome last (client_end e.outcome) e.held fed (entry.held tells);
          asked = end_told e e.outcome last entry.asked;
        };
      }

  -- where it was, it meets each reason that doesn't look at it
  starved_meets : (last : Ask) → lacked_memory e.outcome ≡ true → IsMachineTrue (telling_terms basis) c last e → (r : Reason)
      → (lacked_memory e.outcome && looks_at_last r) ≡ false → MeetsSo basis c (client_end e.outcome) (shown_of e) r
  starved_meets last starved h reason.Numbers told = meets_each e basis c last h reason.Numbers
  starved_meets last starved h reason.Reply told = meets_each e basis c last h reason.Reply
  starved_meets last starved h reason.Late told = meets_each e basis c last h reason.Late
  starved_meets last starved h reason.Records told = let both : true ≡ false = sym (ap (λ b. b && true) starved) ∙ told in cc both
  starved_meets last starved h reason.Held told = let both : true ≡ false = sym (ap (λ b. b && true) starved) ∙ told in cc both
  starved_meets last starved h reason.Story told = (
    e,
    refl,
    record {
      attempt = λ f started.
          let same : h.standing ≡ f = some_same h.standing f (sym h.started ∙ started) in
          subst (λ (g : Standing). IsAttempt (telling_terms basis) g e) same h.entry.story;
      asked = end_told e e.outcome last h.entry.asked;
    },
  )

  -- so it meets each reason of which the text tells
  client_meets : (last : Ask) → IsMachineTrue (telling_terms basis) c last e → (r : Reason) → (lacked_memory e.outcome && looks_at_last r) ≡ false
      → MeetsSo basis c (client_end e.outcome) (shown_of e) r
  client_meets last h r told = go (lacked_memory e.outcome) refl
    where
      go : (b : Bool) → lacked_memory e.outcome ≡ b → MeetsSo basis c (client_end e.outcome) (shown_of e) r
      go true is = starved_meets last is h r told
      go false is = meets_each e basis c (client_end e.outcome) (machine_told last is h) r

  -- ---- by whoever asked
  -- an entry that is true with what was asked last meets each reason of which its text tells
  pub told_meets : (script : Script) (jobs : List ScriptJob) (last : Ask) → IsMachineTrue (telling_terms basis) c last e
      → IsAskedEntry script jobs last e → (r : Reason) → (has_clients script && (lacked_memory e.outcome && looks_at_last r)) ≡ false
      → MeetsSo basis c (last_told script (script_job_of jobs e) e) (shown_of e) r
  told_meets script jobs last h asked r told = go (has_clients script) refl
    where
      go : (b : Bool) → has_clients script ≡ b → MeetsSo basis c (last_told script (script_job_of jobs e) e) (shown_of e) r
      go true is =
          subst (λ b. MeetsSo basis c (told_of b script (script_job_of jobs e) e) (shown_of e) r) (sym is)
          (client_meets last h r (subst (λ b. (b && (lacked_memory e.outcome && looks_at_last r)) ≡ false) is told))
      go false is =
          subst (λ b. MeetsSo basis c (told_of b script (script_job_of jobs e) e) (shown_of e) r) (sym is)
          (subst (λ (x : Ask). MeetsSo basis c x (shown_of e) r)
          ((asked.asked.scripted is).after ∙ ap (λ (o : Option ScriptJob). last_asked script o e.replies) (sym asked.started))
          (meets_each e basis c last h r))

-- it was asked with what is told
pub told_asked : (script : Script) (jobs : List ScriptJob) (last : Ask) (e : Entry) → IsAskedEntry script jobs last e
    → IsAskedEntry script jobs (last_told script (script_job_of jobs e) e) e
told_asked script jobs last e asked = go (has_clients script) refl
  where
    go : (b : Bool) → has_clients script ≡ b → IsAskedEntry script jobs (last_told script (script_job_of jobs e) e) e
    go true is =
        record {
          asking = asked.asking;
          started = asked.started;
          asked = record { left = asked.asked.left; scripted = λ own. let both : true ≡ false = sym is ∙ own in cc both };
          starts = asked.starts;
        }
    go false is =
        subst (λ (x : Ask). IsAskedEntry script jobs x e)
        ((asked.asked.scripted is).after ∙ ap (λ (o : Option ScriptJob). last_asked script o e.replies) (sym asked.started)
        ∙ ap (λ b. told_of b script (script_job_of jobs e) e) (sym is)) asked
