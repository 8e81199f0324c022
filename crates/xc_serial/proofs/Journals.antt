-- A journal of settled entries without faults, each of the first job that has a transaction left, is the plain one. No late
-- call wanted memory.
use Rattle.std.proofs.Common.{◌≡◌, ℕ, ◌+◌, ◌<◌, ◌≤◌, Bool, true, false, List, [], ◌∷◌, ◌++◌, length, zero, suc, cond, refl, ap, sym, ◌∙◌, subst, arith}
use Rattle.std.specs.Prelude.{◌-◌, slice_get, slice_set, map, Option, sum_by, is_some, IsTrue, unwrap_or}
use Rattle.std.specs.declared.option.Option.TheVariants.{None, Some}
use Rattle.std.specs.List.{position_from, fold}
use Rattle.std.proofs.lemmas.Bool.{and_parts, or_parts}
use Rattle.std.proofs.lemmas.Iterator.Adapters.{position_from-zero}
use Rattle.xc_data.specs.Faults.{entry_faults}
use Rattle.xc_data.specs.declared.entry.Cause.{Cause}
use Rattle.xc_data.specs.declared.entry.Cause.TheVariants as cause
use Rattle.xc_data.specs.declared.entry.Entry.{Entry}
use Rattle.xc_data.specs.declared.entry.Outcome.{Outcome}
use Rattle.xc_data.specs.declared.entry.Outcome.TheVariants.{Committed, Aborted}
use Rattle.xc_script.specs.declared.ask.Ask.{Ask}
use Rattle.xc_script.specs.Ask.{Job, next_body}
use Rattle.xc_script.specs.Blocks.{kept_calls}
use Rattle.xc_model.specs.Ending.{has_memory_end, some_late_starved}
use Rattle.xc_model.specs.Progress.{Following, Progress, untried, started_blocks, started_following, committed_job}
use Rattle.xc_model.specs.Progress.{following_abort, after_following, after_outcome, following_of, after_entry}
use Rattle.xc_model.specs.Setting.{Setting}
use Rattle.xc_model.specs.Joint.{AreTrue}
use Rattle.xc_model.specs.Serial.{AreSerial, JobsRise, is_asked, is_final, all_final}
use Rattle.xc_text.specs.declared.script.Script.{Script}
use Rattle.xc_serial.specs.Plain.{entry_at, entry_in, journal_from, journal_with, next_place, plain_from}
use Rattle.xc_serial.proofs.Calls.{no_sum}
use Rattle.xc_model.specs.Live.{IsScripted}
use Rattle.xc_serial.proofs.Entries.{same_entry}

-- ---- no job was tried before at its next transaction
-- no attempt at it is recorded
abbrev pub IsUntried : Following → Type 0
IsUntried f = (f.first ≡ None) × (f.failed ≡ [])

-- of each
abbrev pub AreUntried : List Following → Type 0
AreUntried [] = Unit {0}
AreUntried (f ∷ jobs) = IsUntried f × AreUntried jobs

untried_set : (jobs : List Following) (k : ℕ) (g : Following) → IsUntried g → AreUntried jobs → AreUntried (slice_set jobs k g)
untried_set [] k g e all = tt
untried_set (f ∷ jobs) zero g e all = (e, all.1)
untried_set (f ∷ jobs) (suc k) g e all = (all.0, untried_set jobs k g e all.1)

untried_append : (a b : List Following) → AreUntried a → AreUntried b → AreUntried (a ++ b)
untried_append [] b first later = later
untried_append (f ∷ a) b first later = (first.0, untried_append a b first.1 later)

untried_started : (script : Script) (job : Job) (since : ℕ) (blocks : List (List ℕ)) → AreUntried (map (started_following script job since) blocks)
untried_started script job since [] = tt
untried_started script job since (b ∷ blocks) = ((refl, refl), untried_started script job since blocks)

untried_get : (jobs : List Following) (k : ℕ) (f : Following) → AreUntried jobs → slice_get jobs k ≡ Some f → IsUntried f
untried_get [] k f all e = cc
untried_get (g ∷ jobs) zero f all e = subst IsUntried (ap (λ (o : Option Following). unwrap_or o f) e) all.0
untried_get (g ∷ jobs) (suc k) f all e = untried_get jobs k f all.1 e

untried_abort : (n : ℕ) (f : Following) (e : Entry) (c : Cause) → is_asked c ≡ true → IsUntried (following_abort n f e c)
untried_abort n f e cause.Asked asked = (refl, refl)
untried_abort n f e (cause.Stuck failed) asked = (refl, refl)
untried_abort n f e _ asked = cc

untried_outcome : (script : Script) (p : Progress) (f : Following) (e : Entry) (o : Outcome) → is_final o ≡ true → AreUntried p.jobs
    → AreUntried (after_outcome script p f e o).jobs
untried_outcome script p f e (Committed late) settled all =
    untried_append _ _ (untried_set p.jobs (e.job - 1) _ (refl, refl) all)
    (untried_started script (committed_job script f.job e.calls e.replies late) (p.entered + 1) (started_blocks (kept_calls e.calls e.replies) late))
untried_outcome script p f e (Aborted report) settled all =
    untried_set p.jobs (e.job - 1) (following_abort p.entered f e report.cause)
    (untried_abort p.entered f e report.cause settled) all

untried_after : (script : Script) (p : Progress) (f : Following) (e : Entry) → following_of p e ≡ Some f → is_final e.outcome ≡ true
    → AreUntried p.jobs → AreUntried (after_entry script p e).jobs
untried_after script p f e started settled all =
    subst (λ o. AreUntried (after_following script p e o).jobs) (sym started) (untried_outcome script p f e e.outcome settled all)

-- so it is after the whole journal
pub untried_all : (s : Setting) (p : Progress) (lasts : List Ask) (entries : List Entry) → AreTrue s p lasts entries → all_final entries ≡ true
    → AreUntried p.jobs → AreUntried (fold (after_entry s.script) p entries).jobs
untried_all s p lasts [] told settled all = all
untried_all s p [] (e ∷ entries) told settled all = absurd told
untried_all s p (last ∷ lasts) (e ∷ entries) told settled all =
    let ended = and_parts (is_final e.outcome) (all_final entries) settled in
    untried_all s (after_entry s.script p e) lasts entries told.1 ended.1
    (untried_after s.script p told.0.following e told.0.started ended.0 all)

-- ---- the whole journal
-- each of these entries, of at most so many, is of the first job that has a transaction left; and after the last none has, where
-- there are fewer
abbrev pub AreNext : ℕ → Script → Progress → List Entry → Type 0
AreNext zero script p entries = Unit {0}
AreNext (suc n) script p [] = next_place script p.jobs ≡ None
AreNext (suc n) script p (e ∷ entries) = (next_place script p.jobs ≡ Some (e.job - 1)) × AreNext n script (after_entry script p e) entries

-- such a journal is the plain one
pub same_journal : (s : Setting) (p : Progress) (place n : ℕ) (lasts : List Ask) (entries : List Entry) → IsScripted s.script
    → AreTrue s p lasts entries → IsTrue s.tells → 1 ≤ s.rules.undo_tries
    → AreSerial place entries → sum_by entry_faults entries ≡ 0 → some_late_starved entries ≡ false → all_final entries ≡ true
    → AreUntried p.jobs → length entries ≤ n → AreNext n s.script p entries → entries ≡ plain_from n s.script place p
same_journal s p place zero lasts [] own told tells tries order faults starved settled all le next = refl
same_journal s p place (suc n) lasts [] own told tells tries order faults starved settled all le next =
    sym (ap (journal_with s.script place p (λ (after : Progress). plain_from n s.script (place + 1) after)) next)
same_journal s p place zero lasts (e ∷ entries) own told tells tries order faults starved settled all le next = absurd (omega arith)
same_journal s p place (suc n) [] (e ∷ entries) own told tells tries order faults starved settled all le next = absurd told
same_journal s p place (suc n) (last ∷ lasts) (e ∷ entries) own told tells tries order faults starved settled all le next =
    let one = told.0 in
    let f = one.following in
    let none = no_sum entry_faults e entries faults in
    let wanted = or_parts (has_memory_end e.outcome) (some_late_starved entries) starved in
    let ended = and_parts (is_final e.outcome) (all_final entries) settled in
    let more = λ (after : Progress). plain_from n s.script (place + 1) after in
    let first = (untried_get p.jobs (e.job - 1) f all one.started).0 in
    let same = same_entry s p f last e place own one.entry tells tries order.0 order.1 first none.0 wanted.0 ended.0 in
    let from = one.numbered in
    let job : e.job ≡ e.job - 1 + 1 = omega arith in
    let same' : e ≡ entry_at s.script place p (e.job - 1 + 1) f = same ∙ ap (λ j. entry_at s.script place p j f) job in
    let later = same_journal s (after_entry s.script p e) (place + 1) n lasts entries own told.1 tells tries order.3 none.1 wanted.1 ended.1
    (untried_after s.script p f e one.started ended.0 all) (omega arith) next.1 in
    ap (λ l. e ∷ l) later ∙ ap (λ x. x ∷ more (after_entry s.script p x)) same'
    ∙ sym (ap (λ o. journal_from s.script p more (entry_in s.script place p (e.job - 1) o)) one.started) ∙ sym (ap (journal_with s.script place p more) next.0)

-- ---- which job is next
first_from : (P : Following → Bool) (xs : List Following) (k i : ℕ) (f : Following) → slice_get xs k ≡ Some f → P f ≡ true
    → ((j : ℕ) (g : Following) → j < k → slice_get xs j ≡ Some g → P g ≡ false) → position_from P i xs ≡ Some (i + k)
first_from P [] k i f e is none = cc
first_from P (x ∷ xs) zero i f e is none =
    let here : P x ≡ true = ap (λ (o : Option Following). P (unwrap_or o f)) e ∙ is in
    let at : i ≡ i + 0 = omega arith in
    ap (λ b. cond b (Some i) (position_from P (i + 1) xs)) here ∙ ap Some at
first_from P (x ∷ xs) (suc k) i f e is none =
    let at : i + 1 + k ≡ i + suc k = omega arith in
    ap (λ b. cond b (Some i) (position_from P (i + 1) xs)) (none 0 x (omega arith) refl)
    ∙ first_from P xs k (i + 1) f e is (λ j g lt has. none (suc j) g (omega arith) has) ∙ ap Some at

none_from : (P : Following → Bool) (xs : List Following) (i : ℕ) → ((j : ℕ) (g : Following) → slice_get xs j ≡ Some g → P g ≡ false)
    → position_from P i xs ≡ None
none_from P [] i none = refl
none_from P (x ∷ xs) i none =
    ap (λ b. cond b (Some i) (position_from P (i + 1) xs)) (none 0 x refl) ∙ none_from P xs (i + 1) (λ j g has. none (suc j) g has)

-- ---- an entry leaves the other jobs
get_set : (xs : List Following) (k i : ℕ) (g f : Following) → i < k → slice_get xs i ≡ Some f → slice_get (slice_set xs k g) i ≡ Some f
get_set [] k i g f lt e = cc
get_set (x ∷ xs) zero i g f lt e = absurd (omega arith)
get_set (x ∷ xs) (suc k) zero g f lt e = e
get_set (x ∷ xs) (suc k) (suc i) g f lt e = get_set xs k i g f (omega arith) e

get_append : (a b : List Following) (i : ℕ) (f : Following) → slice_get a i ≡ Some f → slice_get (a ++ b) i ≡ Some f
get_append [] b i f e = cc
get_append (x ∷ a) b zero f e = e
get_append (x ∷ a) b (suc i) f e = get_append a b i f e

outcome_leaves : (script : Script) (p : Progress) (f : Following) (e : Entry) (o : Outcome) (i : ℕ) (g : Following) → i < e.job - 1
    → slice_get p.jobs i ≡ Some g → slice_get (after_outcome script p f e o).jobs i ≡ Some g
outcome_leaves script p f e (Committed late) i g lt has =
    get_append _ _ i g (get_set p.jobs (e.job - 1) i (untried f.block (committed_job script f.job e.calls e.replies late) (p.entered + 1)) g lt has)
outcome_leaves script p f e (Aborted report) i g lt has = get_set p.jobs (e.job - 1) i (following_abort p.entered f e report.cause) g lt has

following_leaves : (script : Script) (p : Progress) (e : Entry) (o : Option Following) (i : ℕ) (g : Following) → i < e.job - 1
    → slice_get p.jobs i ≡ Some g → slice_get (after_following script p e o).jobs i ≡ Some g
following_leaves script p e None i g lt has = has
following_leaves script p e (Some f) i g lt has = outcome_leaves script p f e e.outcome i g lt has

-- ---- the numbers of the jobs never fall
-- the jobs of these entries have at least this number
abbrev AreFrom : ℕ → List Entry → Type 0
AreFrom k [] = Unit {0}
AreFrom k (e ∷ entries) = (k ≤ e.job) × AreFrom k entries

-- after each entry none has a smaller one
abbrev pub EntriesRise : List Entry → Type 0
EntriesRise [] = Unit {0}
EntriesRise (e ∷ entries) = AreFrom e.job entries × EntriesRise entries

are_from : (k : ℕ) (entries : List Entry) → ((j : ℕ) (b : Entry) → slice_get entries j ≡ Some b → k ≤ b.job) → AreFrom k entries
are_from k [] all = tt
are_from k (e ∷ entries) all = (all 0 e refl, are_from k entries (λ j b has. all (suc j) b has))

-- so it is entry after entry
pub rise : (entries : List Entry) → JobsRise entries → EntriesRise entries
rise [] all = tt
rise (e ∷ entries) all = (
  are_from e.job entries (λ j b has. all 0 (suc j) e b refl has (omega arith)),
  rise entries (λ i j a b at to lt. all (suc i) (suc j) a b at to (omega arith)),
)

others_stay : (script : Script) (p : Progress) (entries : List Entry) (k i : ℕ) (g : Following) → AreFrom k entries → i < k - 1
    → slice_get p.jobs i ≡ Some g → slice_get (fold (after_entry script) p entries).jobs i ≡ Some g
others_stay script p [] k i g from lt has = has
others_stay script p (e ∷ entries) k i g from lt has =
    let here = from.0 in
    others_stay script (after_entry script p e) entries k i g from.1 lt (following_leaves script p e (following_of p e) i g (omega arith) has)

-- these jobs have no transaction left
abbrev pub AreOver : Script → List Following → Type 0
AreOver script jobs = (i : ℕ) (g : Following) → slice_get jobs i ≡ Some g → is_some (next_body script g.job) ≡ false

-- the same of those before this one, which are counted from 1
abbrev pub AreOverBefore : Script → List Following → ℕ → Type 0
AreOverBefore script jobs job = (i : ℕ) (g : Following) → i < job - 1 → slice_get jobs i ≡ Some g → is_some (next_body script g.job) ≡ false

-- where at the end none of the jobs before an entry's has a transaction left, and no job at all but after so many entries, each
-- entry is of the first job that has
pub are_next : (s : Setting) (p : Progress) (n : ℕ) (lasts : List Ask) (entries : List Entry) → AreTrue s p lasts entries → EntriesRise entries
    → ((k : ℕ) (e : Entry) → slice_get entries k ≡ Some e → AreOverBefore s.script (fold (after_entry s.script) p entries).jobs e.job)
    → (length entries < n → AreOver s.script (fold (after_entry s.script) p entries).jobs) → AreNext n s.script p entries
are_next s p zero lasts entries told up before over = tt
are_next s p (suc n) lasts [] told up before over =
    let P = λ (f : Following). is_some (next_body s.script f.job) in position_from-zero P p.jobs ∙ none_from P p.jobs 0 (over (omega arith))
are_next s p (suc n) [] (e ∷ entries) told up before over = absurd told
are_next s p (suc n) (last ∷ lasts) (e ∷ entries) told up before over =
    let P = λ (f : Following). is_some (next_body s.script f.job) in
    let one = told.0 in
    let less : AreFrom e.job (e ∷ entries) = (omega arith, up.0) in
    let at : 0 + (e.job - 1) ≡ e.job - 1 = omega arith in (
      position_from-zero P p.jobs
          ∙ first_from P p.jobs (e.job - 1) 0 one.following one.started one.entry.story.left
          (λ j g lt has. before 0 e refl j g lt (others_stay s.script p (e ∷ entries) e.job j g less lt has))
          ∙ ap Some at,
      are_next s (after_entry s.script p e) n lasts entries told.1 up.1 (λ k x there. before (suc k) x there) (λ short. over (omega arith)),
    )
