-- The text of a run without faults: its entries, and its jobs' lines.
use Rattle.std.proofs.Common.{◌≡◌, ℕ, ◌+◌, ◌<◌, ◌≤◌, Bool, true, false, not, ◌||◌, List, [], ◌∷◌, length, zero, suc, refl, ap, ap₂, arith}
use Rattle.std.proofs.Common.{sym, ◌∙◌, subst}
use Rattle.std.specs.Prelude.{slice_get, map, Option, sum_by, is_some, IsTrue, unwrap_or, if◌then◌else◌}
use Rattle.std.specs.declared.option.Option.TheVariants.{Some}
use Rattle.std.specs.List.{AllByRecursion, list_all, list_any}
use Rattle.std.proofs.lemmas.Bool.{and_parts, and_from, or_parts}
use Rattle.std.proofs.lemmas.Option.{get_or_from_slice_get, slice_get_within}
use Rattle.xc_data.specs.Faults.{entry_faults}
use Rattle.xc_data.specs.declared.entry.Entry.{Entry}
use Rattle.xc_data.specs.declared.entry.JobEnd.{JobEnd}
use Rattle.xc_data.specs.declared.entry.JobEnd.TheVariants as job_end
use Rattle.xc_data.specs.declared.entry.JobLine.{JobLine}
use Rattle.xc_data.specs.declared.entry.Outcome.{Outcome}
use Rattle.xc_data.specs.declared.entry.Outcome.TheVariants.{Committed, Aborted}
use Rattle.xc_print.specs.Text.{rendered}
use Rattle.xc_script.specs.Ask.{fresh_job, block_place, next_body}
use Rattle.xc_model.specs.Live.{IsScripted}
use Rattle.xc_model.specs.Ending.{IsEnd, AreEnds, Final, IsTrueEnd, StopWhereFull, all_done, is_done_end, is_memory, is_starved}
use Rattle.xc_model.specs.Ending.{is_final_or_tried_again}
use Rattle.xc_model.specs.Ending.{some_late_starved, wanted_memory}
use Rattle.xc_model.specs.Progress.{Following, untried, opening_progress, progress_of}
use Rattle.xc_model.specs.Setting.{Setting}
use Rattle.xc_model.specs.Serial.{AreSerial, IsSerial, all_final, is_alone, is_asked, is_final}
use Rattle.xc_model.specs.EntryEnds.{is_tried_again}
use Rattle.xc_text.specs.declared.script.Script.{Script}
use Rattle.xc_model.proofs.Laws.{most_scripted}
use Rattle.xc_turns.proofs.Laws.{IsNotStarved, all_go, joint_of_parts}
use Rattle.xc_serial.specs.Plain.{plain_job_end, plain_journal, plain_lines, plain_text}
use Rattle.xc_serial.specs.Undisturbed.{all_alone, is_full, is_full_end}
use Rattle.xc_serial.proofs.Journals.{AreOver, AreOverBefore, AreUntried, are_next, rise, same_journal, untried_all}

-- ---- where no attempt is tried again each entry is settled
left_of_two : (a b : Bool) → (a || b) ≡ true → not b ≡ true → a ≡ true
left_of_two a true either lacks = cc
left_of_two true false either lacks = refl
left_of_two false false either lacks = either

settled_alone : (o : Outcome) → is_final_or_tried_again o ≡ true → is_alone o ≡ true → is_final o ≡ true
settled_alone (Committed late) either alone = refl
settled_alone (Aborted report) either alone = left_of_two (is_asked report.cause) (is_tried_again report.cause) either alone

-- all are settled
all_are_settled : (entries : List Entry) → all_alone entries ≡ true
    → list_all (λ (e : Entry). is_final_or_tried_again e.outcome) entries ≡ true → all_final entries ≡ true
all_are_settled [] alone each = refl
all_are_settled (e ∷ entries) alone each =
    let both = and_parts (is_final_or_tried_again e.outcome) (list_all (λ (x : Entry). is_final_or_tried_again x.outcome) entries) each in
    let parts = and_parts (is_alone e.outcome) (all_alone entries) alone in
    and_from (is_final e.outcome) (all_final entries) (settled_alone e.outcome both.0 parts.0) (all_are_settled entries parts.1 both.1)

-- where transactions came one after another none met another
alone_in_order : (place : ℕ) (entries : List Entry) → AreSerial place entries → all_alone entries ≡ true
alone_in_order place [] order = refl
alone_in_order place (e ∷ entries) order =
    and_from (is_alone e.outcome) (all_alone entries) order.2 (alone_in_order (place + 1) entries order.3)

-- ---- the jobs' ends
-- where memory wasn't wanting no job starved
goes_on : (s : Setting) (n : ℕ) (f : Following) (d : JobEnd) → IsScripted s.script → IsEnd s n f d → is_memory d ≡ false → f.starved ≡ false
goes_on s n f job_end.Done own ends fed = ends.0 own
goes_on s n f (job_end.GaveUp c) own ends fed = ends.0 own
goes_on s n f job_end.JournalFull own ends fed = ends.0 own
goes_on s n f job_end.NoMemory own ends fed = cc

all_go_on : (s : Setting) (n : ℕ) (jobs : List Following) (lines : List JobLine) → IsScripted s.script → AreEnds s n jobs lines
    → list_any is_starved lines ≡ false → AllByRecursion IsNotStarved jobs
all_go_on s n [] lines own ends fed = tt
all_go_on s n (f ∷ jobs) [] own ends fed = absurd ends
all_go_on s n (f ∷ jobs) (line ∷ lines) own ends fed =
    let parts = or_parts (is_starved line) (list_any is_starved lines) fed in
    (goes_on s n f line.end own ends.0.end parts.0, all_go_on s n jobs lines own ends.1 parts.1)

-- an end where no attempt failed: the plain one, and after a job that has a transaction left the journal is full
record IsPlainEnd (s : Setting) (n : ℕ) (f : Following) (d : JobEnd) : Type 0 where
  same : d ≡ plain_job_end s.script f
  done : (d ≡ job_end.JournalFull → ⊥) → is_some (next_body s.script f.job) ≡ false
  full : d ≡ job_end.JournalFull → 10000 ≤ n

plain_is : (s : Setting) (n : ℕ) (f : Following) (d : JobEnd) → IsScripted s.script → 1 ≤ s.rules.attempts → f.failed ≡ [] → IsEnd s n f d → is_memory d ≡ false
    → IsPlainEnd s n f d
plain_is s n f job_end.Done own some none ends fed =
    let over : is_some (next_body s.script f.job) ≡ false = ap is_some (ends.1 own) in
    record { same = sym (ap (λ (b : Bool). if b then job_end.JournalFull else job_end.Done) over); done = λ other. over; full = λ e. cc }
plain_is s n f (job_end.GaveUp c) own some none ends fed = absurd (let most = ends.2.0 in omega (arith, ap length none))
plain_is s n f job_end.JournalFull own some none ends fed =
    record {
      same = sym (ap (λ (b : Bool). if b then job_end.JournalFull else job_end.Done) ends.1);
      done = λ other. absurd (other refl);
      full = λ e. ends.3;
    }
plain_is s n f job_end.NoMemory own some none ends fed = cc

-- the line of a job, and its end
record HasPlainEnd (s : Setting) (n : ℕ) (f : Following) (line : JobLine) : Type 0 where
  block : line.block ≡ f.block
  end : IsPlainEnd s n f line.end

-- each job has its line
abbrev HavePlainEnds : Setting → ℕ → List Following → List JobLine → Type 0
HavePlainEnds s n [] lines = lines ≡ []
HavePlainEnds s n (f ∷ jobs) [] = ⊥
HavePlainEnds s n (f ∷ jobs) (line ∷ lines) = HasPlainEnd s n f line × HavePlainEnds s n jobs lines

plain_are : (s : Setting) (n : ℕ) (jobs : List Following) (lines : List JobLine) → IsScripted s.script → 1 ≤ s.rules.attempts → AreUntried jobs
    → AreEnds s n jobs lines
    → list_any is_starved lines ≡ false → HavePlainEnds s n jobs lines
plain_are s n [] lines own some untried ends fed = ends
plain_are s n (f ∷ jobs) [] own some untried ends fed = absurd ends
plain_are s n (f ∷ jobs) (line ∷ lines) own some untried ends fed =
    let parts = or_parts (is_starved line) (list_any is_starved lines) fed in (
      record { block = ends.0.block; end = plain_is s n f line.end own some untried.0.1 ends.0.end parts.0 },
      plain_are s n jobs lines own some untried.1 ends.1 parts.1,
    )

lines_are : (s : Setting) (n : ℕ) (jobs : List Following) (lines : List JobLine) → HavePlainEnds s n jobs lines → lines ≡ plain_lines s.script jobs
lines_are s n [] lines ends = ends
lines_are s n (f ∷ jobs) [] ends = absurd ends
lines_are s n (f ∷ jobs) (line ∷ lines) ends =
    let block = ends.0.block in
    let end = ends.0.end.same in
    let here : line ≡ record { block = f.block; end = plain_job_end s.script f } = λ i. record { block = block i; end = end i } in
    ap₂ (λ (l : JobLine) (ls : List JobLine). l ∷ ls) here (lines_are s n jobs lines ends.1)

-- the line beside a job
line_beside : (s : Setting) (n : ℕ) (jobs : List Following) (lines : List JobLine) (i : ℕ) (g : Following) → HavePlainEnds s n jobs lines
    → slice_get jobs i ≡ Some g → (line : JobLine) × (slice_get lines i ≡ Some line) × IsPlainEnd s n g line.end
line_beside s n [] lines i g ends has = cc
line_beside s n (f ∷ jobs) [] i g ends has = absurd ends
line_beside s n (f ∷ jobs) (line ∷ lines) zero g ends has =
    let same : f ≡ g = ap (λ (o : Option Following). unwrap_or o f) has in
    (line, refl, subst (λ (x : Following). IsPlainEnd s n x line.end) same ends.0.end)
line_beside s n (f ∷ jobs) (line ∷ lines) (suc i) g ends has = line_beside s n jobs lines i g ends.1 has

-- a plain end of a job that found the journal not full is that of one that was done
plain_done : (script : Script) (f : Following) (d : JobEnd) → d ≡ plain_job_end script f → is_full_end d ≡ false → is_done_end d ≡ true
plain_done script f d same room = subst (λ (x : JobEnd). is_full_end x ≡ false → is_done_end x ≡ true) (sym same)
    (by_next (is_some (next_body script f.job))) room
  where
    by_next : (b : Bool) → is_full_end (if b then job_end.JournalFull else job_end.Done) ≡ false
        → is_done_end (if b then job_end.JournalFull else job_end.Done) ≡ true
    by_next true full = let no : true ≡ false = full in cc
    by_next false full = refl

-- so it is of all
all_plain : (s : Setting) (n : ℕ) (jobs : List Following) (lines : List JobLine) → HavePlainEnds s n jobs lines
    → list_any is_full lines ≡ false → all_done lines ≡ true
all_plain s n [] lines ends room = ap all_done ends
all_plain s n (f ∷ jobs) [] ends room = absurd ends
all_plain s n (f ∷ jobs) (line ∷ lines) ends room =
    let parts = or_parts (is_full line) (list_any is_full lines) room in
    and_from (is_done_end line.end) (all_done lines) (plain_done s.script f line.end ends.0.end.same parts.0)
    (all_plain s n jobs lines ends.1 parts.1)

-- with a journal that isn't full none has a transaction left
all_over : (s : Setting) (n : ℕ) (jobs : List Following) (lines : List JobLine) → HavePlainEnds s n jobs lines → n < 10000 → AreOver s.script jobs
all_over s n jobs lines ends room i g has =
    let at = line_beside s n jobs lines i g ends has in
    at.2.done (λ full. let most = at.2.full full in omega arith)

-- and none has before one that made an entry
over_before : (s : Setting) (n : ℕ) (jobs : List Following) (lines : List JobLine) (entries : List Entry) → HavePlainEnds s n jobs lines
    → StopWhereFull lines entries → (k : ℕ) (e : Entry) → slice_get entries k ≡ Some e → AreOverBefore s.script jobs e.job
over_before s n jobs lines entries ends stop k e there i g lt has =
    let at = line_beside s n jobs lines i g ends has in
    at.2.done (λ full.
    let P : Entry → Type 0 = λ x. x.job ≤ i + 1 in
    let low : e.job ≤ i + 1 =
    subst P (get_or_from_slice_get entries k e e there) (stop i at.0 at.1 full k e (slice_get_within entries k e there)) in
    omega arith)

untried_opening : (script : Script) (names : List (List ℕ))
    → AreUntried (map (λ name. untried name (fresh_job script (block_place script name)) 0) names)
untried_opening script [] = tt
untried_opening script (name ∷ names) = ((refl, refl), untried_opening script names)

-- ---- the text
-- a run that didn't want memory, of transactions that met no other
record IsFed (s : Setting) (entries : List Entry) (final : Final) : Type 0 where
  settled : all_final entries ≡ true
  late : some_late_starved entries ≡ false
  ends : HavePlainEnds s (length entries) (progress_of s.script entries).jobs final.lines

is_fed : (s : Setting) (entries : List Entry) (final : Final) → IsScripted s.script → 1 ≤ s.rules.attempts → IsTrueEnd s entries final
    → all_alone entries ≡ true → wanted_memory final.lines entries ≡ false → IsFed s entries final
is_fed s entries final own some whole alone fed =
    let joint = joint_of_parts s entries whole.journal in
    let told = joint.entries in
    let opening = opening_progress s.script in
    let parts = or_parts (list_any is_starved final.lines) (some_late_starved entries) fed in
    let jobs = (progress_of s.script entries).jobs in
    let go = all_go_on s (length entries) jobs final.lines own whole.ends parts.0 in
    let settled = all_are_settled entries alone (all_go s opening joint.lasts entries own told go).1 in
    let untried = untried_all s opening joint.lasts entries told settled (untried_opening s.script s.script.outline.jobs) in
    record { settled = settled; late = parts.1; ends = plain_are s (length entries) jobs final.lines own some untried whole.ends parts.0 }

-- the journal is the plain one
same_entries : (s : Setting) (entries : List Entry) (final : Final) → IsScripted s.script → IsTrue s.tells → 1 ≤ s.rules.undo_tries → IsTrueEnd s entries final
    → IsSerial entries → StopWhereFull final.lines entries → sum_by entry_faults entries ≡ 0 → IsFed s entries final
    → entries ≡ plain_journal s.script
same_entries s entries final own tells tries whole serial stop faults fed =
    let opening = opening_progress s.script in
    let joint = joint_of_parts s entries whole.journal in
    let told = joint.entries in
    let jobs = (progress_of s.script entries).jobs in
    let next = are_next s opening 10000 joint.lasts entries told (rise entries serial.jobs)
    (over_before s (length entries) jobs final.lines entries fed.ends stop) (all_over s (length entries) jobs final.lines fed.ends) in
    same_journal s opening 0 10000 joint.lasts entries own told tells tries serial.order faults fed.late fed.settled
    (untried_opening s.script s.script.outline.jobs) (subst (λ n. length entries ≤ n) (most_scripted s.script own) whole.few) next

-- where no attempt met another, no job found the journal full and nothing wanted memory, each job ended by its last transaction
pub all_are_done : (s : Setting) (entries : List Entry) (final : Final) → IsScripted s.script → 1 ≤ s.rules.attempts → IsTrueEnd s entries final
    → all_alone entries ≡ true → list_any is_full final.lines ≡ false → wanted_memory final.lines entries ≡ false
    → all_done final.lines ≡ true
all_are_done s entries final own some whole alone room fed =
    all_plain s (length entries) (progress_of s.script entries).jobs final.lines (is_fed s entries final own some whole alone fed).ends room

-- the text of a run whose jobs ran one after another, where no call met a fault and nothing wanted memory, is the plain one
pub plain_end : (s : Setting) (entries : List Entry) (final : Final) → IsScripted s.script → IsTrue s.tells → 1 ≤ s.rules.attempts → 1 ≤ s.rules.undo_tries
    → IsTrueEnd s entries final → IsSerial entries → StopWhereFull final.lines entries → sum_by entry_faults entries ≡ 0
    → wanted_memory final.lines entries ≡ false → rendered entries final.lines final.words [] ≡ plain_text s.script
plain_end s entries final own tells some tries whole serial stop faults memory =
    let fed = is_fed s entries final own some whole (alone_in_order 0 entries serial.order) memory in
    let same = same_entries s entries final own tells tries whole serial stop faults fed in
    let lines = lines_are s (length entries) (progress_of s.script entries).jobs final.lines fed.ends in
    let text = λ (journal : List Entry).
    rendered journal (plain_lines s.script (progress_of s.script journal).jobs) (progress_of s.script journal).state.world.words [] in
    ap₂ (λ (ls : List JobLine) (words : List ℕ). rendered entries ls words []) lines (whole.state tells).words ∙ ap text same
