-- Before the first turn all is true that is true between two turns.
use Rattle.std.proofs.Common.{◌≡◌, ℕ, ◌+◌, ◌≤◌, List, [], ◌∷◌, ◌++◌, length, map, zero, suc, refl, ap, ap₂, sym, ◌∙◌, subst, arith}
use Rattle.std.proofs.Common.{append-nil}
use Rattle.std.specs.Prelude.{Option, flat_map, get_or, slice_get, sum_by}
use Rattle.std.specs.declared.option.Option.TheVariants.{None, Some}
use Rattle.std.proofs.lemmas.List.Elements.{All-nil}
use Rattle.std.proofs.lemmas.List.{length-map}
use Rattle.std.proofs.lemmas.List.Sorted.{IsPermutation-refl}
use Rattle.xc_data.specs.Counts.{RisesBy}
use Rattle.xc_text.specs.declared.script.Script.{Script}
use Rattle.xc_script.specs.Ask.{block_place, fresh_job}
use Rattle.xc_data.specs.declared.entry.Entry.{Entry}
use Rattle.xc_data.specs.declared.entry.Mark.{Mark}
use Rattle.xc_model.specs.Setting.{Setting}
use Rattle.xc_model.specs.Live.{most_entries}
use Rattle.xc_model.specs.EntryEnds.{IsUnrevoked, cause_in}
use Rattle.xc_model.specs.Grounds.{Part}
use Rattle.xc_model.specs.Progress.{Following, untried}
use Rattle.xc_model.specs.Counted.{tx_faults}
use Rattle.xc_model.specs.Handling.{HandlesAgree}
use Rattle.xc_model.specs.Holding.{AreApart}
use Rattle.xc_model.specs.Consistent.{IsConsistent}
use Rattle.xc_model.specs.Opened.{IsOpening, opened_job}
use Rattle.xc_model.specs.Moment.{TxView, JobView, Moment, actives}
use Rattle.xc_model.specs.Words.{WordsAgree}
use Rattle.xc_model.specs.Stories.{AreBegins, StoriesHold, StoryHolds, active_begin, active_parts, reading}
use Rattle.xc_model.specs.Started.{blocks, started_by}
use Rattle.xc_turns.proofs.HandledRows.{opened_handled}
use Rattle.xc_turns.proofs.Jobs.{none_active, opened_rests}
use Rattle.xc_turns.proofs.Sided.{opened_sided}

-- a job of a script that hasn't begun
abbrev opened_following : Script → List ℕ → Following
opened_following script name = untried name (fresh_job script (block_place script name)) 0

-- its jobs before their first transactions
abbrev opened_jobs : Script → List (List ℕ) → List JobView
opened_jobs script names = map (opened_job script) names

-- none of them is active
none_opened : (script : Script) (names : List (List ℕ)) → actives (opened_jobs script names) ≡ []
none_opened script names = none_active (opened_jobs script names) (opened_rests script names)

-- they are of these blocks
opened_blocks : (script : Script) (names : List (List ℕ)) → blocks (opened_jobs script names) ≡ names
opened_blocks script [] = refl
opened_blocks script (name ∷ names) = ap (λ bs. name ∷ bs) (opened_blocks script names)

-- each is told
opened_told : (s : Setting) (begun entered : ℕ) (names : List (List ℕ)) (at : ℕ) (f : Following) (job : JobView)
    → slice_get (map (opened_following s.script) names) at ≡ Some f → slice_get (opened_jobs s.script names) at ≡ Some job → StoryHolds s begun entered f job
opened_told s begun entered [] at f job got_f got = cc
opened_told s begun entered (name ∷ names) zero f job got_f got =
    let first : opened_following s.script name ≡ f = cc in
    let one : opened_job s.script name ≡ job = cc in
    let told : StoryHolds s begun entered (opened_following s.script name) (opened_job s.script name) = record {
      block = refl;
      fresh = refl;
      sided = opened_sided s.script.outline;
      since = omega arith;
      attempts = (refl, refl);
      few = omega arith;
      doing = (λ own. refl, refl);
    } in
    subst (λ (g : Following). StoryHolds s begun entered g job) first
    (subst (StoryHolds s begun entered (opened_following s.script name)) one told)
opened_told s begun entered (name ∷ names) (suc at) f job got_f got = opened_told s begun entered names at f job got_f got

-- no conflict has to be grounded
none_wanted : (s : Setting) (words : ℕ) (marks : ℕ → Option Mark) (number : ℕ) (names : List (List ℕ)) (j : ℕ) (e : Part)
    → get_or (active_parts (reading s words marks) number (opened_jobs s.script names)) j None ≡ Some e → ⊥
none_wanted s words marks number [] j e got = cc
none_wanted s words marks number (name ∷ names) zero e got = cc
none_wanted s words marks number (name ∷ names) (suc j) e got = none_wanted s words marks (number + 1) names j e got

none_begun : AreBegins [] []
none_begun =
    record {
      numbers = IsPermutation-refl [];
      order = λ a b in_a in_b lt. absurd (let none = in_a.1 in omega arith);
      by_now = λ a in_a. absurd (let none = in_a.1 in omega arith);
    }

start_told : (s : Setting) (words : ℕ) (marks : ℕ → Option Mark)
    → (now : StoriesHold s words marks [] (opened_jobs s.script s.script.outline.jobs)) × (now.lasts ≡ [])
start_told s words marks =
    let names = s.script.outline.jobs in
    let jobs = opened_jobs s.script names in
    let told : StoriesHold s words marks [] jobs = record {
      lasts = [];
      entries = refl;
      count = length-map names (opened_following s.script) ∙ sym (length-map names (opened_job s.script));
      jobs_told = λ at f job got_f got. opened_told s (0 + length (actives jobs)) 0 names at f job got_f got;
      begins = subst (λ (txs : List TxView). AreBegins [] (map active_begin txs)) (sym (none_opened s.script names)) none_begun;
      few = subst (λ (txs : List TxView). 0 + length txs ≤ most_entries s.script) (sym (none_opened s.script names)) (omega arith);
      grounded = record {
        entries = λ i e got. cc;
        actives = λ j e got. absurd (none_wanted s words marks 1 names j e got);
      };
    } in
    (told, refl)

start_spoken : (script : Script) (names : List (List ℕ)) (words : List ℕ) → WordsAgree words words (opened_jobs script names)
start_spoken script names words =
    record {
      count = refl;
      each = λ j tx active. absurd (opened_rests script names j tx active);
      written = λ word j tx lt writer. absurd (opened_rests script names j tx writer.active);
      others = λ word lt none. refl;
    }

start_apart : (script : Script) (names : List (List ℕ)) → AreApart (opened_jobs script names)
start_apart script names =
    record {
      together = λ i j t u ne is_t is_u c d in_t in_u same. absurd (opened_rests script names i t is_t);
      once = λ i t is_t. absurd (opened_rests script names i t is_t);
    }

start_counted : (script : Script) (names : List (List ℕ)) (faults : ℕ) → RisesBy (0 + sum_by tx_faults (actives (opened_jobs script names))) faults faults
start_counted script names faults =
    subst (λ (txs : List TxView). RisesBy (0 + sum_by tx_faults txs) faults faults) (sym (none_opened script names)) refl

start_started : (script : Script) (names : List (List ℕ))
    → names ≡ blocks (opened_jobs script names) ++ flat_map started_by (actives (opened_jobs script names))
start_started script names =
    sym (ap₂ (λ a b. a ++ b) (opened_blocks script names) (ap (flat_map started_by) (none_opened script names)) ∙ append-nil names)

-- a start keeps all
pub start_kept : (s : Setting) (now : Moment) → length s.script.outline.jobs ≤ 1000 → IsOpening s.script now → IsConsistent s now.faults now
start_kept s now few opening =
    let names = s.script.outline.jobs in
    let first : Moment = record now { words = s.script.outline.words; journal = []; jobs = opened_jobs s.script names; started = names } in
    let same : now ≡ first = λ i. record now { words = opening.words i; journal = opening.journal i; jobs = opening.jobs i; started = opening.started i } in
    let start = start_told s (length s.script.outline.words) now.marks in
    let kept : IsConsistent s now.faults first = record {
      told = start.0;
      attempts = tt;
      patience = λ zero. record {
        entries = All-nil (λ (e : Entry). IsUnrevoked (cause_in e.outcome));
        active = λ j tx active. absurd (opened_rests s.script names j tx active);
        marks = opening.marks;
      };
      spoken = start_spoken s.script names s.script.outline.words;
      apart = start_apart s.script names;
      counted = start_counted s.script names now.faults;
      started = record {
        order = start_started s.script names;
        few = few;
        holds = λ j tx active. absurd (opened_rests s.script names j tx active);
        starts = λ j tx active. absurd (opened_rests s.script names j tx active);
      };
      handled = subst (λ lasts. HandlesAgree s lasts [] (opened_jobs s.script names) now.calls) (sym start.1)
          (opened_handled s names now.calls refl opening.calls);
    } in
    subst (IsConsistent s now.faults) (sym same) kept
