-- Where each job has ended.
use Rattle.std.proofs.Common.{◌≡◌, ℕ, ◌+◌, inl, inr, Bool, List, [], ◌∷◌, ◌++◌, length, map, zero, suc}
use Rattle.std.proofs.Common.{refl, ap, sym, ◌∙◌, subst, arith, get_or}
use Rattle.std.proofs.lemmas.List.{append-nil, ext_get_or, length-map}
use Rattle.std.proofs.lemmas.Option.{get_or_from_slice_get, slice_get_within, slice_get-map}
use Rattle.std.specs.Prelude.{slice_get, Option, Contains, IsPermutation, option_map, sum_by}
use Rattle.std.specs.declared.option.Option.TheVariants.{None, Some}
use Rattle.xc_data.specs.Counts.{RisesBy}
use Rattle.xc_data.specs.declared.entry.Cause.{Cause}
use Rattle.xc_data.specs.declared.entry.Cause.TheVariants as cause
use Rattle.xc_data.specs.declared.entry.Entry.{Entry}
use Rattle.xc_data.specs.declared.entry.JobLine.{JobLine}
use Rattle.xc_data.specs.declared.entry.Mark.{Mark}
use Rattle.xc_data.specs.declared.script.HostCallKind.{HostCallKind}
use Rattle.xc_host.specs.Cause.{times}
use Rattle.xc_model.specs.Setting.{Setting}
use Rattle.xc_model.specs.Handles.{AreCalled, AreHandled, Reached, opened_reach}
use Rattle.xc_model.specs.Handling.{HandlesAgree, places_of}
use Rattle.xc_model.specs.Grounds.{Part, IsPresent, Other, IsGrounded, AreGrounded, scene_of}
use Rattle.xc_model.specs.Progress.{Following, progress_of}
use Rattle.xc_model.specs.Joint.{IsJointJournal, entry_parts}
use Rattle.xc_model.specs.Live.{IsScripted}
use Rattle.xc_model.specs.Machine.{counting, numbers_of}
use Rattle.xc_model.specs.Truth.{IsTrueJournal}
use Rattle.xc_model.specs.Ending.{AreEnds, IsEnd}
use Rattle.xc_model.specs.Moment.{TxView, JobView, Doing, Idle, Active, Starved, Ended, active_in, active_of, actives}
use Rattle.xc_model.specs.Movers.{IsActiveAt}
use Rattle.xc_model.specs.Stories.{StoriesHold, AreBegins, StoryHolds, IsDoing, active_begin, active_part, active_parts, begins_of, entry_begin, reading}
use Rattle.xc_model.specs.Words.{WordsAgree}
use Rattle.xc_model.specs.Consistent.{AreLinesOf, IsLineOf}
use Rattle.xc_turns.proofs.HandledMade.{ended_times}
use Rattle.xc_turns.proofs.Jobs.{none_active}
use Rattle.xc_turns.proofs.Ways.{lasts_are, parts_of_joint}

-- ---- no transaction is active
line_none : (line : JobLine) (job : JobView) (d : Doing) → IsLineOf line job d → active_in d ≡ None
line_none line job Idle of = absurd of
line_none line job (Active tx) of = absurd of
line_none line job Starved of = absurd of
line_none line job (Ended end) of = refl

none_there : (jobs : List JobView) (lines : List JobLine) → AreLinesOf jobs lines → (j : ℕ) (tx : TxView) → IsActiveAt jobs j tx → ⊥
none_there [] lines are j tx (job, there, has) = let h : ◌≡◌ {A = Option JobView} None (Some job) = there in cc
none_there (job ∷ jobs) [] are j tx active = absurd are
none_there (job ∷ jobs) (line ∷ lines) are zero tx (at, there, has) =
    let same : job ≡ at = cc in
    let h : ◌≡◌ {A = Option TxView} None (Some tx) = sym (line_none line job job.doing are.0) ∙ ap active_of same ∙ has in cc
none_there (job ∷ jobs) (line ∷ lines) are (suc j) tx (at, there, has) = none_there jobs lines are.1 j tx (at, there, has)

-- ---- numbers and begins
begins_there : (journal : List Entry) (jobs : List JobView) → actives jobs ≡ [] → begins_of journal jobs ≡ map entry_begin journal
begins_there journal jobs none = ap (λ txs. map entry_begin journal ++ map active_begin txs) none ∙ append-nil (map entry_begin journal)

numbers_there : (journal : List Entry) → map (λ (b : ℕ × ℕ). b.0) (map entry_begin journal) ≡ numbers_of journal
numbers_there [] = refl
numbers_there (e ∷ journal) = ap (λ ns. e.tx ∷ ns) (numbers_there journal)

entry_there : (journal : List Entry) (i : ℕ) (e : Entry) → slice_get journal i ≡ Some e → Contains (map entry_begin journal) (entry_begin e)
entry_there journal i e at =
    let there : slice_get (map entry_begin journal) i ≡ Some (entry_begin e) = slice_get-map entry_begin journal i ∙ ap (option_map entry_begin) at in (
      i,
      slice_get_within (map entry_begin journal) i (entry_begin e) there,
      get_or_from_slice_get (map entry_begin journal) i (entry_begin e) (entry_begin e) there,
    )

-- ---- conflicts
parts_none : (s : Setting) (words : ℕ) (marks : ℕ → Option Mark) (number : ℕ) (jobs : List JobView) (lines : List JobLine) → AreLinesOf jobs lines
    → (j : ℕ) → get_or (active_parts (reading s words marks) number jobs) j None ≡ None
parts_none s words marks number [] lines are zero = refl
parts_none s words marks number [] lines are (suc j) = refl
parts_none s words marks number (job ∷ jobs) [] are j = absurd are
parts_none s words marks number (job ∷ jobs) (line ∷ lines) are zero =
    ap (active_part (reading s words marks) number job) (line_none line job job.doing are.0)
parts_none s words marks number (job ∷ jobs) (line ∷ lines) are (suc j) = parts_none s words marks (number + 1) jobs lines are.1 j

-- none of these parts is there
abbrev AreNone : List (Option Part) → Type 0
AreNone active = (j : ℕ) → get_or active j None ≡ None

stands_logged : (tells : Bool) (log : List Part) (active : List (Option Part)) (at : ℕ) (who : Part) → AreNone active
    → IsPresent (scene_of tells log active) at who → IsPresent (scene_of tells log []) at who
stands_logged tells log active at who none (inl there) = inl there
stands_logged tells log active at who none (inr (j, there)) = absurd (let h : ◌≡◌ {A = Option Part} None (Some who) = sym (none j) ∙ there in cc)

other_logged : (tells : Bool) (log : List Part) (active : List (Option Part)) (number at job : ℕ) → AreNone active
    → Other (scene_of tells log active) number at job → Other (scene_of tells log []) number at job
other_logged tells log active number at job none n =
    record {
      who = n.who;
      present = stands_logged tells log active at n.who none n.present;
      numbered = n.numbered;
      other = n.other;
      began = n.began;
    }

grounded_logged : (tells : Bool) (log : List Part) (active : List (Option Part)) (place : ℕ) (e : Part) (c : Option Cause) → AreNone active
    → IsGrounded (scene_of tells log active) place e c → IsGrounded (scene_of tells log []) place e c
unfolding other_logged
grounded_logged tells log active place e None none h = h
grounded_logged tells log active place e (Some (cause.Stuck failed)) none h = h
grounded_logged tells log active place e (Some cause.Asked) none h = h
grounded_logged tells log active place e (Some (cause.Conflict object holder at)) none g =
    record {
      before = g.before;
      within = g.within;
      named = other_logged tells log active holder at e.job none g.named;
      holds = g.holds;
      clash = g.clash;
    }
grounded_logged tells log active place e (Some (cause.Revoked object by at)) none g =
    record {
      before = g.before;
      within = g.within;
      named = other_logged tells log active by at e.job none g.named;
      older = g.older;
      holds = g.holds;
      clash = g.clash;
    }
grounded_logged tells log active place e (Some cause.NoMemory) none h = h

all_logged : (tells : Bool) (log : List Part) (active : List (Option Part)) → AreNone active
    → AreGrounded (scene_of tells log active) → AreGrounded (scene_of tells log [])
all_logged tells log active none g =
    record {
      entries = λ i e at. grounded_logged tells log active i e e.cause none (g.entries i e at);
      actives = λ j e at. absurd (let h : ◌≡◌ {A = Option Part} None (Some e) = at in cc);
    }

-- ---- the journal
-- where each job has ended the journal is true, both parts of an entry at once
joint_true : (s : Setting) (words : ℕ) (marks : ℕ → Option Mark) (journal : List Entry) (jobs : List JobView) (calls : HostCallKind → ℕ)
    → (lines : List JobLine)
    → (told : StoriesHold s words marks journal jobs) → HandlesAgree s told.lasts journal jobs calls
    → AreLinesOf jobs lines → IsJointJournal s journal
joint_true s words marks journal jobs calls lines told handled are =
    let begins : AreBegins journal (map entry_begin journal) =
    subst (AreBegins journal) (begins_there journal jobs (none_active jobs (none_there jobs lines are))) told.begins in
    let many : length (map entry_begin journal) ≡ length journal = length-map journal entry_begin in
    record {
      lasts = told.lasts;
      entries = told.entries;
      numbers = subst (λ n. IsPermutation (numbers_of journal) (counting 1 n)) many
          (subst (λ ns. IsPermutation ns (counting 1 (length (map entry_begin journal)))) (numbers_there journal) begins.numbers);
      begins = λ i j a b ea eb less. begins.order (entry_begin a) (entry_begin b) (entry_there journal i a ea) (entry_there journal j b eb) less;
      grounded = all_logged s.tells (entry_parts s told.lasts journal) (active_parts (reading s words marks) 1 jobs)
          (parts_none s words marks 1 jobs lines are) told.grounded;
      handled = λ tells. (record { places = places_of jobs; made = handled.entered }, handled.entries);
    }

-- so it is true of the machine, and asked by the script
pub journal_true : (s : Setting) (words : ℕ) (marks : ℕ → Option Mark) (journal : List Entry) (jobs : List JobView) (calls : HostCallKind → ℕ)
    → (lines : List JobLine)
    → (told : StoriesHold s words marks journal jobs) → HandlesAgree s told.lasts journal jobs calls
    → AreLinesOf jobs lines → IsTrueJournal s journal
journal_true s words marks journal jobs calls lines told handled are =
    parts_of_joint s journal (joint_true s words marks journal jobs calls lines told handled are)

-- the host was called by its entries, and by nothing else
pub calls_true : (s : Setting) (words : ℕ) (marks : ℕ → Option Mark) (journal : List Entry) (jobs : List JobView) (calls : HostCallKind → ℕ)
    → (lines : List JobLine)
    → IsScripted s.script → (told : StoriesHold s words marks journal jobs) → HandlesAgree s told.lasts journal jobs calls
    → AreLinesOf jobs lines → AreCalled s.script journal calls
calls_true s words marks journal jobs calls lines own told handled are =
    let ends : Reached = record { places = places_of jobs; made = handled.entered } in
    record {
      ends = ends;
      entries = subst (λ lasts. AreHandled (opened_reach s.script.outline) lasts journal ends) (lasts_are s told.lasts journal own told.entries)
          handled.entries;
      called = λ kind.
          let none = ended_times kind s jobs lines handled.under_way are handled.active in
          let all : times kind handled.entered + sum_by (times kind) handled.under_way ≡ times kind handled.entered = omega (arith, none) in
          subst (λ n. RisesBy n 0 (calls kind)) all (handled.called kind);
    }

-- ---- the ends
line_ends : (s : Setting) (begun : ℕ) (f : Following) (job : JobView) (line : JobLine) (d : Doing) → IsLineOf line job d → IsDoing s begun f job d
    → (line.block ≡ job.block) × IsEnd s begun f line.end
line_ends s begun f job line Idle of h = absurd of
line_ends s begun f job line (Active tx) of h = absurd of
line_ends s begun f job line Starved of h = absurd of
line_ends s begun f job line (Ended end) of h = (of.0, subst (IsEnd s begun f) (sym of.1) h)

ends_are : (s : Setting) (begun entered : ℕ) (fs : List Following) (jobs : List JobView) (lines : List JobLine) → length fs ≡ length jobs
    → ((at : ℕ) (f : Following) (job : JobView) → slice_get fs at ≡ Some f → slice_get jobs at ≡ Some job → StoryHolds s begun entered f job)
    → AreLinesOf jobs lines → AreEnds s begun fs lines
ends_are s begun entered [] [] lines count told are = are
ends_are s begun entered [] (job ∷ jobs) lines count told are = absurd (omega arith)
ends_are s begun entered (f ∷ fs) [] lines count told are = absurd (omega arith)
ends_are s begun entered (f ∷ fs) (job ∷ jobs) [] count told are = absurd are
ends_are s begun entered (f ∷ fs) (job ∷ jobs) (line ∷ lines) count told are =
    let here = told 0 f job refl refl in
    let end = line_ends s begun f job line job.doing are.0 here.doing in (
      record { block = end.0 ∙ sym here.block; end = end.1 },
      ends_are s begun entered fs jobs lines (omega arith) (λ at g k eg ek. told (suc at) g k eg ek) are.1,
    )

-- where each job has ended it has the end of its story
pub ends_told : (s : Setting) (words : ℕ) (marks : ℕ → Option Mark) (journal : List Entry) (jobs : List JobView) (lines : List JobLine)
    → StoriesHold s words marks journal jobs
    → AreLinesOf jobs lines → AreEnds s (length journal) (progress_of s.script journal).jobs lines
ends_told s words marks journal jobs lines told are =
    let fs = (progress_of s.script journal).jobs in
    let begun : length journal + length (actives jobs) ≡ length journal = omega (arith, ap length (none_active jobs (none_there jobs lines are))) in
    subst (λ n. AreEnds s n fs lines) begun
    (ends_are s (length journal + length (actives jobs)) (length journal) fs jobs lines told.count told.jobs_told are)

-- ---- the words
-- where each job has ended the words are those that the journal left
pub words_are_left : (before words : List ℕ) (jobs : List JobView) (lines : List JobLine) → WordsAgree before words jobs → AreLinesOf jobs lines
    → words ≡ before
words_are_left before words jobs lines spoken are =
    ext_get_or 0 words before spoken.count
    (λ k less. spoken.others k (omega (arith, spoken.count)) (λ j tx w. none_there jobs lines are j tx w.active))
