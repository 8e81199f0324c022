-- Where each job was done, each of its transactions has the one entry by which it was done with.
use Rattle.std.proofs.Common.{◌≡◌, ℕ, ◌+◌, ◌-◌, ◌<◌, ◌≤◌, Bool, true, false, cond, ◌||◌, List, [], ◌∷◌, ◌++◌, length, map}
use Rattle.std.proofs.Common.{zero, suc, refl, ap, sym, ◌∙◌, subst, arith}
use Rattle.std.proofs.lemmas.Bool.{and_from, and_parts}
use Rattle.std.proofs.lemmas.List.Sums.{sum_by-append, sum_by-cons}
use Rattle.std.specs.Prelude.{slice_get, slice_set, sum_by, count_by, IsSome}
use Rattle.std.specs.List.{AllByRecursion, fold, list_all}
use Rattle.std.specs.declared.option.Option.TheVariants.{None, Some}
use Rattle.xc_data.specs.declared.entry.Cause.{Cause}
use Rattle.xc_data.specs.declared.entry.Cause.TheVariants as cause
use Rattle.xc_data.specs.declared.entry.Entry.{Entry}
use Rattle.xc_data.specs.declared.entry.JobEnd.{JobEnd}
use Rattle.xc_data.specs.declared.entry.JobEnd.TheVariants as job_end
use Rattle.xc_data.specs.declared.entry.JobLine.{JobLine}
use Rattle.xc_data.specs.declared.entry.Outcome.{Outcome}
use Rattle.xc_data.specs.declared.entry.Outcome.TheVariants.{Committed, Aborted}
use Rattle.xc_text.specs.declared.script.Script.{Script}
use Rattle.xc_script.specs.declared.ask.Ask.{Ask}
use Rattle.xc_script.specs.Ask.{Job, fresh_job, block_place, next_body, transactions_at}
use Rattle.xc_script.proofs.Laws.{scripted_body}
use Rattle.xc_model.specs.Live.{IsScripted}
use Rattle.xc_model.specs.Setting.{Setting}
use Rattle.xc_script.specs.Blocks.{kept_calls}
use Rattle.xc_model.specs.Progress.{Following, Progress, untried, opening_progress, progress_of, started_blocks, started_following, following_abort}
use Rattle.xc_model.specs.Progress.{committed_job}
use Rattle.xc_model.specs.Progress.{after_entry, after_following, after_outcome, following_of, with_following}
use Rattle.xc_model.specs.EntryEnds.{is_tried_again}
use Rattle.xc_model.specs.Joint.{AreTrue}
use Rattle.xc_model.specs.Serial.{is_asked, is_final}
use Rattle.xc_model.specs.Ending.{AreEnds, IsEnd, IsComplete, all_done, is_done_end, is_final_or_tried_again, transactions_of_jobs}
use Rattle.xc_turns.proofs.Lists.{sum_set_place}

-- ---- what holds of each
each_set : {A : Type 0} (P : A → Type 0) (xs : List A) (i : ℕ) (y : A) → AllByRecursion P xs → P y → AllByRecursion P (slice_set xs i y)
each_set P [] i y each h = each
each_set P (x ∷ xs) zero y each h = (h, each.1)
each_set P (x ∷ xs) (suc i) y each h = (each.0, each_set P xs i y each.1 h)

each_unset : {A : Type 0} (P : A → Type 0) (xs : List A) (i : ℕ) (x y : A) → slice_get xs i ≡ Some x → P x → AllByRecursion P (slice_set xs i y)
    → AllByRecursion P xs
each_unset P [] i x y e h each = each
each_unset P (z ∷ zs) zero x y e h each = let same : x ≡ z = cc in (subst P same h, each.1)
each_unset P (z ∷ zs) (suc i) x y e h each = (each.0, each_unset P zs i x y e h each.1)

each_own : {A : Type 0} (P : A → Type 0) (xs : List A) (i : ℕ) (x y : A) → slice_get xs i ≡ Some x → AllByRecursion P (slice_set xs i y) → P y
each_own P [] i x y e each = cc
each_own P (z ∷ zs) zero x y e each = each.0
each_own P (z ∷ zs) (suc i) x y e each = each_own P zs i x y e each.1

each_at : {A : Type 0} (P : A → Type 0) (xs : List A) (i : ℕ) (x : A) → slice_get xs i ≡ Some x → AllByRecursion P xs → P x
each_at P [] i x e each = cc
each_at P (z ∷ zs) zero x e each = let same : z ≡ x = cc in subst P same each.0
each_at P (z ∷ zs) (suc i) x e each = each_at P zs i x e each.1

each_append : {A : Type 0} (P : A → Type 0) (xs ys : List A) → AllByRecursion P xs → AllByRecursion P ys → AllByRecursion P (xs ++ ys)
each_append P [] ys each more = more
each_append P (x ∷ xs) ys each more = (each.0, each_append P xs ys each.1 more)

each_front : {A : Type 0} (P : A → Type 0) (xs ys : List A) → AllByRecursion P (xs ++ ys) → AllByRecursion P xs
each_front P [] ys each = tt
each_front P (x ∷ xs) ys each = (each.0, each_front P xs ys each.1)

each_map : {A B : Type 0} (P : B → Type 0) (f : A → B) (xs : List A) → ((x : A) → P (f x)) → AllByRecursion P (map f xs)
each_map P f [] h = tt
each_map P f (x ∷ xs) h = (h x, each_map P f xs h)

-- ---- what jobs have passed
-- how many transactions
abbrev passed_by : List Following → ℕ
passed_by jobs = sum_by (λ (f : Following). f.job.next) jobs

passed_set : (jobs : List Following) (i : ℕ) (f g : Following) → slice_get jobs i ≡ Some f
    → passed_by (slice_set jobs i g) + f.job.next ≡ passed_by jobs + g.job.next
passed_set jobs i f g e = sum_set_place (λ (h : Following). h.job.next) jobs i f g e

passed_none : {A : Type 0} (f : A → Following) (xs : List A) → ((x : A) → (f x).job.next ≡ 0) → passed_by (map f xs) ≡ 0
passed_none f [] h = refl
passed_none f (x ∷ xs) h =
    let rest = passed_none f xs h in omega (arith, h x, sum_by-cons (λ (g : Following). g.job.next) (f x) (map f xs))

-- a settled entry counts
abbrev one_if : Bool → ℕ
one_if b = cond b 1 0

cause_passes : (p : Progress) (f : Following) (e : Entry) (c : Cause) → following_of p e ≡ Some f
    → passed_by (with_following p.jobs e.job (following_abort p.entered f e c)) ≡ passed_by p.jobs + one_if (is_asked c)
cause_passes p f e (cause.Stuck failed) started = omega (arith, passed_set p.jobs (e.job - 1) f (following_abort p.entered f e (cause.Stuck failed)) started)
cause_passes p f e cause.Asked started = omega (arith, passed_set p.jobs (e.job - 1) f (following_abort p.entered f e cause.Asked) started)
cause_passes p f e cause.NoMemory started = omega (arith, passed_set p.jobs (e.job - 1) f (following_abort p.entered f e cause.NoMemory) started)
cause_passes p f e (cause.Conflict object holder at) started =
    omega (arith, passed_set p.jobs (e.job - 1) f (following_abort p.entered f e (cause.Conflict object holder at)) started)
cause_passes p f e (cause.Revoked object by at) started =
    omega (arith, passed_set p.jobs (e.job - 1) f (following_abort p.entered f e (cause.Revoked object by at)) started)

outcome_passes : (script : Script) (p : Progress) (f : Following) (e : Entry) (o : Outcome) → following_of p e ≡ Some f
    → passed_by (after_outcome script p f e o).jobs ≡ passed_by p.jobs + one_if (is_final o)
outcome_passes script p f e (Committed late) started =
    let job : Job = committed_job script f.job e.calls e.replies late in
    let mine : Following = untried f.block job (p.entered + 1) in
    let blocks : List (List ℕ) = started_blocks (kept_calls e.calls e.replies) late in
    let both = sum_by-append (λ (g : Following). g.job.next) (with_following p.jobs e.job mine) (map (started_following script job (p.entered + 1)) blocks) in
    omega (arith, both, passed_none (started_following script job (p.entered + 1)) blocks (λ b. refl), passed_set p.jobs (e.job - 1) f mine started)
outcome_passes script p f e (Aborted r) started = cause_passes p f e r.cause started

entry_passes : (script : Script) (p : Progress) (f : Following) (e : Entry) → following_of p e ≡ Some f
    → passed_by (after_entry script p e).jobs ≡ passed_by p.jobs + one_if (is_final e.outcome)
entry_passes script p f e started =
    ap (λ o. passed_by (after_following script p e o).jobs) started ∙ outcome_passes script p f e e.outcome started

all_pass : (s : Setting) (p : Progress) (lasts : List Ask) (journal : List Entry) → AreTrue s p lasts journal
    → passed_by (fold (after_entry s.script) p journal).jobs ≡ passed_by p.jobs + count_by (λ (e : Entry). is_final e.outcome) journal
all_pass s p lasts [] are = omega arith
all_pass s p [] (e ∷ journal) are = absurd are
all_pass s p (last ∷ lasts) (e ∷ journal) are =
    let here = entry_passes s.script p are.0.following e are.0.started in
    let rest = all_pass s (after_entry s.script p e) lasts journal are.1 in
    omega (arith, here, rest, sum_by-cons (λ (x : Entry). one_if (is_final x.outcome)) e journal)

one_passed : (jobs : List Following) (i : ℕ) (f : Following) → slice_get jobs i ≡ Some f → f.job.next ≤ passed_by jobs
one_passed [] i f e = cc
one_passed (g ∷ jobs) zero f e =
    let is : g ≡ f = cc e in
    let same : g.job.next ≡ f.job.next = ap (λ (h : Following). h.job.next) is in
    omega (arith, same, sum_by-cons (λ (h : Following). h.job.next) g jobs)
one_passed (g ∷ jobs) (suc i) f e = let rest = one_passed jobs i f e in omega (arith, rest, sum_by-cons (λ (h : Following). h.job.next) g jobs)

one_few : (b : Bool) → one_if b ≤ 1
one_few true = omega arith
one_few false = omega arith

few_final : (journal : List Entry) → count_by (λ (e : Entry). is_final e.outcome) journal ≤ length journal
few_final [] = omega arith
few_final (e ∷ journal) =
    let rest = few_final journal in
    let one = one_few (is_final e.outcome) in
    omega (arith, rest, one, sum_by-cons (λ (x : Entry). one_if (is_final x.outcome)) e journal)

-- a job has passed no more transactions than the journal has entries
pub passed_few : (s : Setting) (lasts : List Ask) (journal : List Entry) → AreTrue s (opening_progress s.script) lasts journal → (i : ℕ) (f : Following)
    → slice_get (progress_of s.script journal).jobs i ≡ Some f → f.job.next ≤ length journal
passed_few s lasts journal are i f there =
    let none : passed_by (opening_progress s.script).jobs ≡ 0 =
    passed_none (λ name. untried name (fresh_job s.script (block_place s.script name)) 0) s.script.outline.jobs (λ name. refl) in
    omega (
      arith,
      none,
      all_pass s (opening_progress s.script) lasts journal are,
      one_passed (progress_of s.script journal).jobs i f there,
      few_final journal,
    )

-- ---- no job passes more than its block has
abbrev IsWithinBlock : Script → Following → Type 0
IsWithinBlock script f = f.job.next ≤ length (transactions_at script f.job.block)

some_within : {A : Type 0} (xs : List A) (n : ℕ) → IsSome (slice_get xs n) → n < length xs
some_within [] n some = cc
some_within (x ∷ xs) zero some = omega arith
some_within (x ∷ xs) (suc n) some = let less = some_within xs n some in omega arith

cause_within : (script : Script) (p : Progress) (f : Following) (e : Entry) (c : Cause) → f.job.next < length (transactions_at script f.job.block)
    → AllByRecursion (IsWithinBlock script) p.jobs → AllByRecursion (IsWithinBlock script) (with_following p.jobs e.job (following_abort p.entered f e c))
cause_within script p f e (cause.Stuck failed) less each =
    each_set (IsWithinBlock script) p.jobs (e.job - 1) (following_abort p.entered f e (cause.Stuck failed)) each (omega arith)
cause_within script p f e cause.Asked less each =
    each_set (IsWithinBlock script) p.jobs (e.job - 1) (following_abort p.entered f e cause.Asked) each (omega arith)
cause_within script p f e cause.NoMemory less each =
    each_set (IsWithinBlock script) p.jobs (e.job - 1) (following_abort p.entered f e cause.NoMemory) each (omega arith)
cause_within script p f e (cause.Conflict object holder at) less each =
    each_set (IsWithinBlock script) p.jobs (e.job - 1) (following_abort p.entered f e (cause.Conflict object holder at)) each (omega arith)
cause_within script p f e (cause.Revoked object by at) less each =
    each_set (IsWithinBlock script) p.jobs (e.job - 1) (following_abort p.entered f e (cause.Revoked object by at)) each (omega arith)

outcome_within : (script : Script) (p : Progress) (f : Following) (e : Entry) (o : Outcome) → f.job.next < length (transactions_at script f.job.block)
    → AllByRecursion (IsWithinBlock script) p.jobs → AllByRecursion (IsWithinBlock script) (after_outcome script p f e o).jobs
outcome_within script p f e (Committed late) less each =
    let job : Job = committed_job script f.job e.calls e.replies late in
    let mine : Following = untried f.block job (p.entered + 1) in
    let blocks : List (List ℕ) = started_blocks (kept_calls e.calls e.replies) late in
    each_append (IsWithinBlock script) (with_following p.jobs e.job mine) (map (started_following script job (p.entered + 1)) blocks)
    (each_set (IsWithinBlock script) p.jobs (e.job - 1) mine each (omega arith))
    (each_map (IsWithinBlock script) (started_following script job (p.entered + 1)) blocks (λ b. omega arith))
outcome_within script p f e (Aborted r) less each = cause_within script p f e r.cause less each

all_within : (s : Setting) (p : Progress) (lasts : List Ask) (journal : List Entry) → IsScripted s.script → AreTrue s p lasts journal
    → AllByRecursion (IsWithinBlock s.script) p.jobs → AllByRecursion (IsWithinBlock s.script) (fold (after_entry s.script) p journal).jobs
all_within s p lasts [] own are each = each
all_within s p [] (e ∷ journal) own are each = absurd are
all_within s p (last ∷ lasts) (e ∷ journal) own are each =
    let f = are.0.following in
    let less = some_within (transactions_at s.script f.job.block) f.job.next
    (subst IsSome (scripted_body s.script f.job own) are.0.entry.story.left) in
    let next = outcome_within s.script p f e e.outcome less each in
    all_within s (after_entry s.script p e) lasts journal own are.1
    (subst (λ o. AllByRecursion (IsWithinBlock s.script) (after_following s.script p e o).jobs) (sym are.0.started) next)

-- ---- where no job is starved at the end none was before, and each entry is settled or tried again
-- a job isn't starved
abbrev pub IsNotStarved : Following → Type 0
IsNotStarved f = f.starved ≡ false

cause_goes : (p : Progress) (f : Following) (e : Entry) (c : Cause) → following_of p e ≡ Some f → IsNotStarved f
    → AllByRecursion IsNotStarved (with_following p.jobs e.job (following_abort p.entered f e c))
    → AllByRecursion IsNotStarved p.jobs × ((is_asked c || is_tried_again c) ≡ true)
cause_goes p f e (cause.Stuck failed) started goes each =
    (each_unset IsNotStarved p.jobs (e.job - 1) f (following_abort p.entered f e (cause.Stuck failed)) started goes each, refl)
cause_goes p f e cause.Asked started goes each =
    (each_unset IsNotStarved p.jobs (e.job - 1) f (following_abort p.entered f e cause.Asked) started goes each, refl)
cause_goes p f e cause.NoMemory started goes each =
    absurd (let h : true ≡ false = each_own IsNotStarved p.jobs (e.job - 1) f (following_abort p.entered f e cause.NoMemory) started each in cc)
cause_goes p f e (cause.Conflict object holder at) started goes each =
    (each_unset IsNotStarved p.jobs (e.job - 1) f (following_abort p.entered f e (cause.Conflict object holder at)) started goes each, refl)
cause_goes p f e (cause.Revoked object by at) started goes each =
    (each_unset IsNotStarved p.jobs (e.job - 1) f (following_abort p.entered f e (cause.Revoked object by at)) started goes each, refl)

outcome_goes : (script : Script) (p : Progress) (f : Following) (e : Entry) (o : Outcome) → following_of p e ≡ Some f → IsNotStarved f
    → AllByRecursion IsNotStarved (after_outcome script p f e o).jobs → AllByRecursion IsNotStarved p.jobs × (is_final_or_tried_again o ≡ true)
outcome_goes script p f e (Committed late) started goes each =
    let job : Job = committed_job script f.job e.calls e.replies late in
    let mine : Following = untried f.block job (p.entered + 1) in
    let blocks : List (List ℕ) = started_blocks (kept_calls e.calls e.replies) late in (
      each_unset IsNotStarved p.jobs (e.job - 1) f mine started goes
          (each_front IsNotStarved (with_following p.jobs e.job mine) (map (started_following script job (p.entered + 1)) blocks) each),
      refl,
    )
outcome_goes script p f e (Aborted r) started goes each = cause_goes p f e r.cause started goes each

-- of all entries
pub all_go : (s : Setting) (p : Progress) (lasts : List Ask) (journal : List Entry) → IsScripted s.script → AreTrue s p lasts journal
    → AllByRecursion IsNotStarved (fold (after_entry s.script) p journal).jobs
    → AllByRecursion IsNotStarved p.jobs × (list_all (λ (e : Entry). is_final_or_tried_again e.outcome) journal ≡ true)
all_go s p lasts [] own are each = (each, refl)
all_go s p [] (e ∷ journal) own are each = absurd are
all_go s p (last ∷ lasts) (e ∷ journal) own are each =
    let t = are.0 in
    let rest = all_go s (after_entry s.script p e) lasts journal own are.1 each in
    let next : AllByRecursion IsNotStarved (after_outcome s.script p t.following e e.outcome).jobs =
    subst (λ o. AllByRecursion IsNotStarved (after_following s.script p e o).jobs) t.started rest.0 in
    let here = outcome_goes s.script p t.following e e.outcome t.started (t.entry.story.goes_on own) next in
    (here.0, and_from (is_final_or_tried_again e.outcome) (list_all (λ (x : Entry). is_final_or_tried_again x.outcome) journal) here.1 rest.1)

-- ---- the end
past_all : {A : Type 0} (xs : List A) (n : ℕ) → slice_get xs n ≡ None → length xs ≤ n
past_all [] n e = omega arith
past_all (x ∷ xs) zero e = cc
past_all (x ∷ xs) (suc n) e = let le = past_all xs n e in omega arith

done_is : (s : Setting) (entries : ℕ) (f : Following) (end : JobEnd) → IsScripted s.script → is_done_end end ≡ true → IsEnd s entries f end
    → IsNotStarved f × (next_body s.script f.job ≡ None)
done_is s entries f job_end.Done own e h = (h.0 own, h.1 own)
done_is s entries f (job_end.GaveUp c) own e h = cc
done_is s entries f job_end.JournalFull own e h = cc
done_is s entries f job_end.NoMemory own e h = cc

ends_done : (s : Setting) (entries : ℕ) (fs : List Following) (lines : List JobLine) → IsScripted s.script → AreEnds s entries fs lines → all_done lines ≡ true
    → AllByRecursion (IsWithinBlock s.script) fs → AllByRecursion IsNotStarved fs × (passed_by fs ≡ transactions_of_jobs s.script fs)
ends_done s entries [] lines own ends done within = (tt, refl)
ends_done s entries (f ∷ fs) [] own ends done within = absurd ends
ends_done s entries (f ∷ fs) (line ∷ lines) own ends done within =
    let both = and_parts (is_done_end line.end) (all_done lines) done in
    let here = done_is s entries f line.end own both.0 ends.0.end in
    let rest = ends_done s entries fs lines own ends.1 both.1 within.1 in
    let past = past_all (transactions_at s.script f.job.block) f.job.next (sym (scripted_body s.script f.job own) ∙ here.1) in
    ((here.0, rest.0), omega (arith, past, within.0, rest.1, sum_by-cons (λ (g : Following). g.job.next) f fs))

-- where all are done all is complete
pub complete : (s : Setting) (lasts : List Ask) (entries : List Entry) (lines : List JobLine) → IsScripted s.script
    → AreTrue s (opening_progress s.script) lasts entries
    → AreEnds s (length entries) (progress_of s.script entries).jobs lines → all_done lines ≡ true → IsComplete s.script entries
complete s lasts entries lines own are ends done =
    let start : Progress = opening_progress s.script in
    let opened : List ℕ → Following = λ name. untried name (fresh_job s.script (block_place s.script name)) 0 in
    let none : passed_by start.jobs ≡ 0 = passed_none opened s.script.outline.jobs (λ name. refl) in
    let first : AllByRecursion (IsWithinBlock s.script) start.jobs = each_map (IsWithinBlock s.script) opened s.script.outline.jobs (λ name. omega arith) in
    let jobs : List Following = (progress_of s.script entries).jobs in
    let end = ends_done s (length entries) jobs lines own ends done (all_within s start lasts entries own are first) in
    record {
      others = (all_go s start lasts entries own are end.0).1;
      count = omega (arith, all_pass s start lasts entries are, none, end.1);
    }
