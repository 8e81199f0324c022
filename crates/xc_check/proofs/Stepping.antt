-- One entry more was judged.
use Rattle.std.proofs.Common.{◌≡◌, ◌≢◌, ◌≤◌, ◌<◌, ◌+◌, ◌∙◌, ℕ, List, [], ◌∷◌, ◌++◌, length, map, reverse, refl, ap, subst, sym, arith}
use Rattle.std.specs.Prelude.{All, slice_get, true}
use Rattle.std.proofs.lemmas.List.{append_assoc, get_or_append_left, length-append, length-map, map-append, reverse-append}
use Rattle.std.proofs.lemmas.Option.{get_or_from_slice_get, slice_get_within}
use Rattle.std.specs.List.{fold}
use Rattle.std.specs.declared.option.Option.TheVariants.{Some}
use Rattle.xc_asked.specs.Walking.{last_told}
use Rattle.xc_data.specs.declared.claim.Claim.{Claim}
use Rattle.xc_data.specs.declared.entry.Entry.{Entry}
use Rattle.xc_grounds.specs.Numbered.{AreNumbered, entry_begins}
use Rattle.xc_judge.specs.Judged.{IsOpenTo, place_of_reason}
use Rattle.xc_judge.specs.Stepped.{IsRefusedSo, IsSteppedTo, MeetsSo}
use Rattle.xc_judge.specs.declared.reason.Reason.{Reason}
use Rattle.xc_judge.specs.declared.reason.Reason.TheVariants as reason
use Rattle.xc_judge.specs.declared.stepped.Stepped.{Stepped}
use Rattle.xc_model.specs.Asked.{AreAskedBy, IsAskedEntry, ScriptJob, after_jobs, opening_jobs, script_job_of}
use Rattle.xc_model.specs.Course.{Course, after_course, opening_course}
use Rattle.xc_model.specs.EntryEnds.{cause_in, next_claims}
use Rattle.xc_model.specs.Grounds.{Part}
use Rattle.xc_model.specs.Machine.{AreMachineTrue, IsMachineTrue, Terms, machine_part}
use Rattle.xc_model.specs.Progress.{body_of}
use Rattle.xc_model.specs.Stories.{entry_begin}
use Rattle.xc_model.specs.Setting.{Setting}
use Rattle.xc_model.specs.Truth.{terms_of}
use Rattle.xc_script.specs.declared.ask.Ask.{Ask}
use Rattle.xc_shown.specs.Shown.{shown_of}
use Rattle.xc_shown.specs.declared.shown.Shown.{Shown}
use Rattle.xc_check.specs.Fronts.{begins_shown, course_behind, last_behind, lasts_told, parts_of, script_behind}
use Rattle.xc_check.specs.Judging.{IsJudged, IsNewTo}
use Rattle.xc_check.specs.Refusals.{IsRefusedBehind, IsRefusedIn, MeetsBehind, MeetsSoBehind}
use Rattle.xc_check.specs.Untold.{basis_of}
use Rattle.xc_check.specs.declared.judging.Judging.{Judging}
use Rattle.xc_check.proofs.Bare.{asked_bare, after_bare, meets_each}
use Rattle.xc_check.proofs.Clients.{last_bare}
use Rattle.xc_check.proofs.Fronts.{entry_asked_more, machine_more, machine_parts_more, fold_more, terms_tell}
use Rattle.xc_turns.proofs.Laws.{get_front}

-- ---- numbers
-- entries have the numbers that they are shown with
pub begins_are : (front : List Entry) → entry_begins front ≡ begins_shown (map shown_of front)
begins_are [] = refl
begins_are (e ∷ front) = ap (λ bs. entry_begin e ∷ bs) (begins_are front)

-- so have those before one more
pub begins_more : (before : List Shown) (shown : Shown) → begins_shown (before ++ shown ∷ []) ≡ begins_shown before ++ entry_begin shown.entry ∷ []
begins_more [] shown = refl
begins_more (x ∷ before) shown = ap (λ bs. entry_begin x.entry ∷ bs) (begins_more before shown)

-- a journal has as many entries as its course counts
pub entered_are : (c : Course) (front : List Entry) → (fold after_course c front).entered ≡ c.entered + length front
entered_are c [] = omega arith
entered_are c (e ∷ front) = entered_are (after_course c e) front ∙ omega arith

-- ---- places

-- the element behind a front
pub get_behind : {A : Type 0} → (xs ys : List A) (x : A) → slice_get (xs ++ x ∷ ys) (length xs) ≡ Some x
get_behind [] ys x = refl
get_behind (y ∷ xs) ys x = get_behind xs ys x

-- a number that goes on in order is none of those before
pub new_number : (count : ℕ) (before : List (ℕ × ℕ)) (b : ℕ × ℕ) → AreNumbered count (before ++ b ∷ []) → IsNewTo before b.0
new_number count before b h k a there same =
    let at_end : k ≡ length before = h.apart k (length before) a b (get_front before (b ∷ []) k a there) (get_behind before [] b) same in
    let within : k < length before = slice_get_within before k a there in
    omega (arith, at_end, within)

-- it is one at least
pub some_number : (count : ℕ) (before : List (ℕ × ℕ)) (b : ℕ × ℕ) → AreNumbered count (before ++ b ∷ []) → 1 ≤ b.0
some_number count before b h =
    let there : slice_get (before ++ b ∷ []) (length before) ≡ Some b = get_behind before [] b in
    subst (λ (x : ℕ × ℕ). 1 ≤ x.0) (get_or_from_slice_get (before ++ b ∷ []) (length before) b b there)
    (h.within (length before) b (slice_get_within (before ++ b ∷ []) (length before) b there)).0

-- a number that is new to a front and one more is new to the front, and not that of the one
pub new_to_front : (before : List (ℕ × ℕ)) (b : ℕ × ℕ) (tx : ℕ) → IsNewTo (before ++ b ∷ []) tx → IsNewTo before tx
new_to_front before b tx h k a there = h k a (get_front before (b ∷ []) k a there)

-- and it is not the number of the last
pub new_to_last : (before : List (ℕ × ℕ)) (b : ℕ × ℕ) (tx : ℕ) → IsNewTo (before ++ b ∷ []) tx → b.0 ≢ tx
new_to_last before b tx h = h (length before) b (get_behind before [] b)

-- the begins of a front and of one more, as they are shown
pub begins_shown_with : (front : List Entry) (before : List Shown) (shown : Shown) → map shown_of front ≡ before
    → begins_shown (before ++ shown ∷ []) ≡ entry_begins front ++ entry_begin shown.entry ∷ []
begins_shown_with front before shown shows =
    begins_more before shown ∙ ap (λ (bs : List (ℕ × ℕ)). bs ++ entry_begin shown.entry ∷ []) (sym (begins_are front ∙ ap begins_shown shows))

-- what was asked last of an entry, by the jobs that a judging has
pub last_of : (s : Setting) (count : ℕ) (before : List Shown) (shown : Shown) (j : Judging) (last : Ask) (judged : IsJudged s count before j)
    → last ≡ last_told s.script (script_job_of j.jobs shown.entry) shown.entry → last ≡ last_behind s.script judged.front shown.entry
last_of s count before shown j last judged asked =
    asked ∙ ap (λ (jobs : List ScriptJob). last_told s.script (script_job_of jobs shown.entry) shown.entry) judged.asked

-- what an entry is judged by is what the machine says
pub part_is : (part : Part) (c : Course) (last : Ask) (e : Entry) (wanted : List Claim) → wanted ≡ next_claims (body_of c.state e) last
    → part ≡ record {
      number = e.tx;
      job = e.job;
      rank = e.rank;
      began = e.began;
      held = e.held;
      wanted = wanted;
      cause = cause_in e.outcome;
    } → part ≡ machine_part c.state last e
part_is part c last e wanted is h =
    h ∙ ap (λ (w : List Claim). record {
      number = e.tx;
      job = e.job;
      rank = e.rank;
      began = e.began;
      held = e.held;
      wanted = w;
      cause = cause_in e.outcome;
    }) is

-- ---- an entry that may begin
module _ (s : Setting) (count : ℕ) (before : List Shown) (shown : Shown) (j : Judging) (judged : IsJudged s count before j) where
  numbered_to : AreNumbered count (begins_shown (before ++ shown ∷ [])) → AreNumbered count (entry_begins judged.front ++ entry_begin shown.entry ∷ [])
  numbered_to numbered = subst (λ bs. AreNumbered count bs) (begins_shown_with judged.front before shown judged.shows) numbered

  -- no object has its number
  pub number_is_new : AreNumbered count (begins_shown (before ++ shown ∷ [])) → IsOpenTo j.progress shown.entry.tx
  number_is_new numbered =
      let begins = entry_begins judged.front in
      let b = entry_begin shown.entry in
      judged.opens shown.entry.tx (some_number count begins b (numbered_to numbered)) (new_number count begins b (numbered_to numbered))

  -- as many entries led here
  pub entered_so : j.progress.entered ≡ length before
  entered_so =
      let led : j.progress.entered ≡ (course_behind s.script judged.front).entered = ap (λ (c : Course). c.entered) judged.course in
      let count : (course_behind s.script judged.front).entered ≡ 0 + length judged.front = entered_are (opening_course s.script.outline) judged.front in
      let same : length (map shown_of judged.front) ≡ length judged.front = length-map judged.front shown_of in
      let shown_count : length (map shown_of judged.front) ≡ length before = ap length judged.shows in
      omega (arith, led, count, same, shown_count)

-- ---- an entry that was refused
-- no reason stands behind the last
top_place : (r : Reason) → 5 < place_of_reason r → ⊥
top_place reason.Numbers h = omega (arith, h)
top_place reason.Reply h = omega (arith, h)
top_place reason.Late h = omega (arith, h)
top_place reason.Records h = omega (arith, h)
top_place reason.Held h = omega (arith, h)
top_place reason.Story h = omega (arith, h)

module _ (s : Setting) (count : ℕ) (front : List Entry) (shown : Shown) where
  fails_by : (r : Reason) → (MeetsSoBehind s front shown r → ⊥) → MeetsBehind s count front shown r → ⊥
  fails_by reason.Numbers f m = f m.1
  fails_by reason.Reply f m = f m
  fails_by reason.Late f m = f m
  fails_by reason.Records f m = f m
  fails_by reason.Held f m = f m
  fails_by reason.Story f m = f m.0

  module _ (numbered : AreNumbered count (entry_begins front ++ entry_begin shown.entry ∷ [])) where
    meets_by : (r other : Reason) → place_of_reason other < place_of_reason r → MeetsSoBehind s front shown other → MeetsBehind s count front shown other
    meets_by r reason.Numbers lower m = (numbered, m)
    meets_by r reason.Reply lower m = m
    meets_by r reason.Late lower m = m
    meets_by r reason.Records lower m = m
    meets_by r reason.Held lower m = m
    meets_by r reason.Story lower m = absurd (top_place r lower)

    -- by the machine behind a front
    refused_behind : (r : Reason) → IsRefusedSo (basis_of s) (course_behind s.script front) (last_behind s.script front shown.entry) shown r
        → IsRefusedBehind s count front shown r
    refused_behind r h = record { fails = fails_by r h.fails; before = λ other lower. meets_by r other lower (h.before other lower) }

    -- by the script
    unasked_behind : (IsAskedEntry s.script (script_behind s.script front) (last_behind s.script front shown.entry) shown.entry → ⊥)
        → ((r : Reason) → MeetsSoBehind s front shown r) → IsRefusedBehind s count front shown reason.Story
    unasked_behind f all = record { fails = λ m. f m.1; before = λ other lower. meets_by reason.Story other lower (all other) }

module _ (s : Setting) (count : ℕ) (before : List Shown) (shown : Shown) (j : Judging) (last : Ask) (judged : IsJudged s count before j)
    (numbered : AreNumbered count (begins_shown (before ++ shown ∷ [])))
    (asked : last ≡ last_told s.script (script_job_of j.jobs shown.entry) shown.entry) where
  numbered_behind : AreNumbered count (entry_begins judged.front ++ entry_begin shown.entry ∷ [])
  numbered_behind = subst (λ bs. AreNumbered count bs) (begins_shown_with judged.front before shown judged.shows) numbered

  -- by the machine behind entries that are shown so
  pub refused_in : (r : Reason) → IsRefusedSo (basis_of s) j.progress last shown r → IsRefusedIn s count before shown r
  refused_in r refused =
      let front = judged.front in
      let moved : IsRefusedSo (basis_of s) (course_behind s.script front) (last_behind s.script front shown.entry) shown r =
      subst (λ (x : Ask). IsRefusedSo (basis_of s) (course_behind s.script front) x shown r) (last_of s count before shown j last judged asked)
      (subst (λ (c : Course). IsRefusedSo (basis_of s) c last shown r) judged.course refused) in
      record { front = front; shows = judged.shows; is_true = judged.is_true; refused = refused_behind s count front shown numbered_behind r moved }

  -- by the script behind entries that are shown so
  pub unasked_in : (to : Stepped) → IsSteppedTo (basis_of s) j.progress last shown to → (IsAskedEntry s.script j.jobs last shown.entry → ⊥)
      → IsRefusedIn s count before shown reason.Story
  unasked_in to stepped f =
      let front = judged.front in
      let all : (r : Reason) → MeetsSo (basis_of s) j.progress last shown r =
      λ r. subst (λ (x : Shown). MeetsSo (basis_of s) j.progress last x r) stepped.shows (meets_each to.entry (basis_of s) j.progress last stepped.true r) in
      let moved : (r : Reason) → MeetsSoBehind s front shown r =
      λ r. subst (λ (x : Ask). MeetsSo (basis_of s) (course_behind s.script front) x shown r) (last_of s count before shown j last judged asked)
      (subst (λ (c : Course). MeetsSo (basis_of s) c last shown r) judged.course (all r)) in
      record {
        front = front;
        shows = judged.shows;
        is_true = judged.is_true;
        refused = unasked_behind s count front shown numbered_behind
            (λ h. f (subst (λ (x : Ask). IsAskedEntry s.script j.jobs x shown.entry) (sym (last_of s count before shown j last judged asked))
            (subst (λ (jobs : List ScriptJob). IsAskedEntry s.script jobs (last_behind s.script front shown.entry) shown.entry) (sym judged.asked) h)))
            moved;
      }

  -- ---- an entry that was entered
  module _ (next : Judging) (to : Stepped) (stepped : IsSteppedTo (basis_of s) j.progress last shown to)
      (told : IsAskedEntry s.script j.jobs last shown.entry) (tells : s.tells ≡ true) where
    abbrev front_more : List Entry
    front_more = judged.front ++ to.entry ∷ []

    last_to : last ≡ last_behind s.script judged.front to.entry
    last_to =
        subst (λ (x : Shown). last ≡ last_behind s.script judged.front x.entry) (sym stepped.shows) (last_of s count before shown j last judged asked)
        ∙ last_bare s.script (script_job_of (script_behind s.script judged.front) to.entry) to.entry

    machine_to : AreMachineTrue (terms_of s) (opening_course s.script.outline) (lasts_told s.script front_more) front_more
    machine_to = machine_more s.script to.entry (terms_of s) (opening_course s.script.outline) (opening_jobs s.script) judged.front
        judged.is_true.machine
        (subst (λ (x : Ask). IsMachineTrue (terms_of s) (course_behind s.script judged.front) x to.entry) last_to
        (subst (λ (c : Course). IsMachineTrue (terms_of s) c last to.entry) judged.course
        (subst (λ (t : Terms). IsMachineTrue t j.progress last to.entry) (sym (terms_tell s tells)) stepped.true)))

    told_to : IsAskedEntry s.script j.jobs last to.entry
    told_to = asked_bare to.entry s.script j.jobs last
        (subst (λ (x : Shown). IsAskedEntry s.script j.jobs last x.entry) (sym stepped.shows) told)

    asked_to : AreAskedBy s.script (opening_jobs s.script) (lasts_told s.script front_more) front_more
    asked_to = entry_asked_more s.script to.entry (opening_jobs s.script) judged.front judged.is_true.asked
        (subst (λ (x : Ask). IsAskedEntry s.script (script_behind s.script judged.front) x to.entry) last_to
        (subst (λ (jobs : List ScriptJob). IsAskedEntry s.script jobs last to.entry) judged.asked told_to))

    shows_more : map shown_of front_more ≡ before ++ shown ∷ []
    shows_more = map-append shown_of judged.front (to.entry ∷ [])
        ∙ ap (λ (xs : List Shown). xs ++ shown_of to.entry ∷ []) judged.shows ∙ ap (λ (x : Shown). before ++ x ∷ []) stepped.shows

    begins_to : entry_begins front_more ≡ begins_shown (before ++ shown ∷ [])
    begins_to = begins_are front_more ∙ ap begins_shown shows_more

    pub entered_in : next.progress ≡ to.progress → next.jobs ≡ after_jobs s.script j.jobs shown.entry
        → next.parts.items ≡ j.parts.items ++ machine_part j.progress.state last to.entry ∷ []
        → ((tx : ℕ) → (tx ≢ shown.entry.tx) → IsOpenTo j.progress tx → IsOpenTo to.progress tx)
        → IsJudged s count (before ++ shown ∷ []) next
    entered_in progress_is jobs_are parts_are opens =
        record {
          front = front_more;
          shows = shows_more;
          is_true = record {
            numbered = subst (λ bs. AreNumbered count bs) (sym begins_to) numbered;
            machine = machine_to;
            asked = asked_to;
          };
          course = progress_is ∙ stepped.after ∙ ap (λ (c : Course). after_course c to.entry) judged.course
              ∙ sym (fold_more after_course (opening_course s.script.outline) judged.front to.entry);
          asked = jobs_are ∙ ap (λ (x : Shown). after_jobs s.script j.jobs x.entry) (sym stepped.shows) ∙ after_bare to.entry s.script j.jobs
              ∙ ap (λ (jobs : List ScriptJob). after_jobs s.script jobs to.entry) judged.asked
              ∙ sym (fold_more (after_jobs s.script) (opening_jobs s.script) judged.front to.entry);
          parts_are = parts_are ∙ ap (λ (ps : List Part). ps ++ machine_part j.progress.state last to.entry ∷ []) judged.parts_are
              ∙ ap (λ (c : Course). parts_of s.script judged.front ++ machine_part c.state last to.entry ∷ []) judged.course
              ∙ ap (λ (x : Ask). parts_of s.script judged.front ++ machine_part (course_behind s.script judged.front).state x to.entry ∷ []) last_to
              ∙ sym (machine_parts_more s.script to.entry (opening_course s.script.outline) (opening_jobs s.script) judged.front);
          opens = λ tx positive new.
              let apart : IsNewTo (entry_begins judged.front ++ entry_begin shown.entry ∷ []) tx =
              subst (λ bs. IsNewTo bs tx) (begins_to ∙ begins_shown_with judged.front before shown judged.shows) new in
              let other : tx ≢ shown.entry.tx =
              λ same. new_to_last (entry_begins judged.front) (entry_begin shown.entry) tx apart (sym same) in
              subst (λ (c : Course). IsOpenTo c tx) (sym progress_is)
              (opens tx other (judged.opens tx positive (new_to_front (entry_begins judged.front) (entry_begin shown.entry) tx apart)));
        }

-- ---- fronts
-- of each element of a front
pub all_front : {A : Type 0} (P : A → Type 0) (xs ys : List A) → All P (xs ++ ys) → All P xs
all_front P xs ys h k d within =
    let size : length (xs ++ ys) ≡ length xs + length ys = length-append xs ys in
    subst P (get_or_append_left xs ys d k within) (h k d (omega (arith, size, within)))

-- the front of entries whose numbers go on in order
pub numbered_front : (count : ℕ) (xs ys : List (ℕ × ℕ)) → AreNumbered count (xs ++ ys) → AreNumbered count xs
numbered_front count xs ys h =
    record {
      within = all_front (λ (b : ℕ × ℕ). (1 ≤ b.0) × (b.0 ≤ count)) xs ys h.within;
      apart = λ i k a b there then same. h.apart i k a b (get_front xs ys i a there) (get_front xs ys k b then) same;
      order = λ i k a b there then less. h.order i k a b (get_front xs ys i a there) (get_front xs ys k b then) less;
    }

-- the begins of entries, up to one of them
begins_cut : (before : List Shown) (shown : Shown) (behind : List Shown)
    → begins_shown (before ++ shown ∷ behind) ≡ begins_shown (before ++ shown ∷ []) ++ begins_shown behind
begins_cut [] shown behind = refl
begins_cut (x ∷ before) shown behind = ap (λ bs. entry_begin x.entry ∷ bs) (begins_cut before shown behind)

-- numbers of a front and one more go on in order where all do
pub numbered_to_one : (count : ℕ) (before : List Shown) (shown : Shown) (behind : List Shown) → AreNumbered count (begins_shown (before ++ shown ∷ behind))
    → AreNumbered count (begins_shown (before ++ shown ∷ []))
numbered_to_one count before shown behind h =
    numbered_front count (begins_shown (before ++ shown ∷ [])) (begins_shown behind)
    (subst (λ bs. AreNumbered count bs) (begins_cut before shown behind) h)

-- entries, of which the next is the last of those that are left in reverse
pub next_of_reverse : {A : Type 0} (all before left rest : List A) (x : A) → all ≡ before ++ reverse left → left ≡ rest ++ x ∷ []
    → all ≡ before ++ x ∷ reverse rest
next_of_reverse all before left rest x parts popped =
    parts ∙ ap (λ xs. before ++ reverse xs) popped ∙ ap (λ xs. before ++ xs) (reverse-append rest (x ∷ []))

-- one that is read stands at the end of what was read
pub passed_on : {A : Type 0} (before behind : List A) (x : A) → before ++ x ∷ behind ≡ (before ++ x ∷ []) ++ behind
passed_on before behind x = sym (append_assoc before (x ∷ []) behind)

-- what holds of each entry holds of that behind a front
pub all_behind : {A : Type 0} (P : A → Type 0) (all before behind : List A) (x : A) → all ≡ before ++ x ∷ behind → All P all → P x
all_behind P all before behind x parts h =
    let there : slice_get all (length before) ≡ Some x =
    subst (λ xs. slice_get xs (length before) ≡ Some x) (sym parts) (get_behind before behind x) in
    subst P (get_or_from_slice_get all (length before) x x there) (h (length before) x (slice_get_within all (length before) x there))
