-- How a job ended, by what its line shows, and the lines that begin with those of the jobs.
use Rattle.std.proofs.Common.{◌≡◌, ◌⊎◌, inl, inr, ℕ, ◌+◌, ◌≤◌, ◌==◌, ◌&&◌, ◌||◌, Bool, true, false, not, is_some, Option, None, Some}
use Rattle.std.proofs.Common.{List, [], ◌∷◌, ◌++◌, length, drop, refl, ap, sym, ◌∙◌, subst, arith}
use Rattle.std.specs.Prelude.{nat_eq, nat_le, nat_lt, MatchOption, if◌then◌else◌}
use Rattle.std.specs.List.{AllZip}
use Rattle.std.specs.Cmp.Derive.{both_true}
use Rattle.std.specs.Cmp.Lexicographic.{pointwise, nat_list_eq_equiv, same_text}
use Rattle.std.proofs.lemmas.Bool.{and_parts, not-true, not_from_false, leb-true, le-leb, ltb-true, lt-ltb, eqb-true, eq-eqb}
use Rattle.xc_data.specs.declared.entry.Cause.{Cause}
use Rattle.xc_data.specs.declared.entry.JobEnd.{JobEnd}
use Rattle.xc_data.specs.declared.entry.JobEnd.TheVariants as job_end
use Rattle.xc_data.specs.declared.entry.JobLine.{JobLine}
use Rattle.xc_lines.specs.declared.shown.JobShown.{JobShown}
use Rattle.xc_lines.specs.declared.shown.JobShown.TheVariants as ended
use Rattle.xc_model.specs.Ending.{IsEnd, IsLine, AreEnds}
use Rattle.xc_model.specs.Live.{GoesOn}
use Rattle.xc_model.specs.Progress.{Following}
use Rattle.xc_model.specs.Setting.{Setting}
use Rattle.xc_model.specs.declared.rules.Rules.{Rules}
use Rattle.xc_script.specs.Ask.{next_body}
use Rattle.xc_sheet.specs.Ends.{job_end_shown, lines_of_jobs}
use Rattle.xc_sheet.specs.declared.lines.Line.{Line}
use Rattle.xc_sheet.specs.declared.lines.Line.TheVariants as line
use Rattle.xc_tail.specs.JobLines.{ends_so, goes_on, is_job_line, behind_jobs, Numbered, numbered_jobs, HasJobLines}
use Rattle.xc_tail.specs.Tails.{IsToldOf}
use Rattle.xc_tail.specs.declared.job_left.JobLeft.{JobLeft}

-- the last of causes that are some
last_cause : (causes : List Cause) → 1 ≤ length causes → (c : Cause) × (before : List Cause) × (causes ≡ before ++ c ∷ [])
last_cause [] some = absurd (omega (arith, some))
last_cause (c ∷ []) some = (c, [], refl)
last_cause (c ∷ d ∷ causes) some =
    let last = last_cause (d ∷ causes) (omega arith) in (last.0, c ∷ last.1, ap (λ cs. c ∷ cs) last.2)

-- nothing is there
none_there : {X : Type 0} (o : Option X) → is_some o ≡ false → o ≡ None
none_there None e = refl
none_there (Some x) e = cc

-- a job's end that its line shows so
abbrev EndsAs : Setting → ℕ → Following → JobShown → Type 0
EndsAs s entries f shown = (e : JobEnd) × (job_end_shown e ≡ shown) × IsEnd s entries f e

-- a job's line that is shown so
abbrev IsShownLine : Setting → ℕ → ℕ → Following → Line → Type 0
IsShownLine s entries number f l = (job : JobLine) × IsLine s entries f job × (l ≡ line.Job number job.block (job_end_shown job.end))

-- what is found behind the lines of these jobs: none where these don't come first
abbrev pub FindsJobLines : Setting → ℕ → Numbered → List Line → Option (List Line) → Type 0
FindsJobLines s entries from lines found =
    MatchOption found ((rest : List Line) → HasJobLines s entries from lines rest → ⊥) (HasJobLines s entries from lines)

-- one of two is so
or_parts_of : (a b : Bool) → (a || b) ≡ true → (a ≡ true) ⊎ (b ≡ true)
or_parts_of true b is = inl refl
or_parts_of false b is = inr is

or_so : (a b : Bool) → (a ≡ false → b ≡ true) → (a || b) ≡ true
or_so true b so = refl
or_so false b so = so refl

-- where one of two isn't so the other is
where_other : (a b : Bool) → (a || b) ≡ true → a ≡ false → b ≡ true
where_other a b is lacks =
    elim (or_parts_of a b is) [
      | inl first ↦ cc (first, lacks)
      | inr second ↦ second
    ]

module _ (s : Setting) (rules : Rules) (entries : ℕ) (same : s.rules ≡ rules) (some : 1 ≤ rules.attempts) where
  -- the attempts that are allowed
  most : s.rules.attempts ≡ rules.attempts
  most = ap (λ (r : Rules). r.attempts) same

  module _ (f : Following) (j : JobLeft) (told : IsToldOf s.script f j) where
    -- a job that goes on does so by the code
    going : GoesOn s.script f.starved → goes_on j ≡ true
    going on = or_so j.is_client (not j.is_starved) (λ own. not_from_false j.is_starved (told.starved ∙ on (sym told.client ∙ own)))

    gone_on : goes_on j ≡ true → GoesOn s.script f.starved
    gone_on is own = sym told.starved ∙ not-true j.is_starved (where_other j.is_client (not j.is_starved) is (told.client ∙ own))

    -- where an end passes, the job may have ended so
    ends_to : (shown : JobShown) → ends_so rules entries j shown ≡ true → EndsAs s entries f shown
    ends_to ended.Done passed =
        let p = and_parts (goes_on j) (j.is_client || not j.is_left) passed in (
          job_end.Done,
          refl,
          (
            gone_on p.0,
            λ own.
                let lacks = where_other j.is_client (not j.is_left) p.1 (told.client ∙ own) in
                none_there (next_body s.script f.job) (sym told.left ∙ not-true j.is_left lacks),
          ),
        )
    ends_to ended.GaveUp passed =
        let p = and_parts (goes_on j && j.is_left) (nat_le rules.attempts j.failed) passed in
        let q = and_parts (goes_on j) j.is_left p.0 in
        let enough = leb-true rules.attempts j.failed p.1 in
        let count = told.failed in
        let last = last_cause f.failed (omega (arith, some, enough, count)) in (
          job_end.GaveUp last.0,
          refl,
          (gone_on q.0, sym told.left ∙ q.1, (omega (arith, enough, count, most), last.1, last.2)),
        )
    ends_to ended.JournalFull passed =
        let r = and_parts (goes_on j && j.is_left && nat_lt j.failed rules.attempts) (nat_le 10000 entries) passed in
        let p = and_parts (goes_on j && j.is_left) (nat_lt j.failed rules.attempts) r.0 in
        let q = and_parts (goes_on j) j.is_left p.0 in
        let fewer = ltb-true j.failed rules.attempts p.1 in
        let count = told.failed in (
          job_end.JournalFull,
          refl,
          (gone_on q.0, sym told.left ∙ q.1, omega (arith, fewer, count, most), leb-true 10000 entries r.1),
        )
    ends_to ended.NoMemory passed =
        let p = and_parts (not j.is_client) j.is_left passed in (job_end.NoMemory, refl, (sym told.client ∙ not-true j.is_client p.0, sym told.left ∙ p.1))

    -- the job has a transaction left, and goes on
    has_left : GoesOn s.script f.starved → is_some (next_body s.script f.job) ≡ true → (goes_on j && j.is_left) ≡ true
    has_left on left = both_true (going on) (told.left ∙ left)

    -- a job's end passes
    end_so : (e : JobEnd) → IsEnd s entries f e → ends_so rules entries j (job_end_shown e) ≡ true
    end_so job_end.Done end =
        both_true (going end.0)
        (or_so j.is_client (not j.is_left) (λ own. not_from_false j.is_left (told.left ∙ ap is_some (end.1 (sym told.client ∙ own)))))
    end_so (job_end.GaveUp c) end =
        let enough = end.2 in
        let count = told.failed in
        both_true (has_left end.0 end.1) (le-leb rules.attempts j.failed (omega (arith, enough, count, most)))
    end_so job_end.JournalFull end =
        let fewer = end.2 in
        let count = told.failed in
        both_true (both_true (has_left end.0 end.1) (lt-ltb j.failed rules.attempts (omega (arith, fewer, count, most)))) (le-leb 10000 entries end.3)
    end_so job_end.NoMemory end = both_true (not_from_false j.is_client (told.client ∙ end.0)) (told.left ∙ end.1)

    -- where the job may have ended so, the end passes
    ends_from : (shown : JobShown) → EndsAs s entries f shown → ends_so rules entries j shown ≡ true
    ends_from shown end = subst (λ x. ends_so rules entries j x ≡ true) end.1 (end_so end.0 end.2)

    -- a line is that of the job exactly where it passes
    line_to : (number : ℕ) (l : Line) → is_job_line rules entries number j l ≡ true → IsShownLine s entries number f l
    line_to number (line.Job shown block end) passed =
        let p = and_parts (shown == number && pointwise nat_eq block j.block) (ends_so rules entries j end) passed in
        let q = and_parts (shown == number) (pointwise nat_eq block j.block) p.0 in
        let e = ends_to end p.1 in
        let named : block ≡ f.block = same_text block j.block (sym q.1) ∙ told.block in (
          record { block = f.block; end = e.0 },
          record { block = refl; end = e.2 },
          ap (λ n. line.Job n block end) (eqb-true shown number q.0) ∙ ap (λ b. line.Job number b end) named
              ∙ ap (λ x. line.Job number f.block x) (sym e.1),
        )
    line_to number (line.Head head) passed = cc
    line_to number (line.Call call reply) passed = cc
    line_to number (line.Late n end) passed = cc
    line_to number (line.Undo n kind end) passed = cc
    line_to number (line.Remains effect) passed = cc
    line_to number (line.Held claims) passed = cc
    line_to number (line.Word at value) passed = cc
    line_to number (line.Kept item) passed = cc
    line_to number (line.Total committed aborted faults remains) passed = cc

    -- the job's line passes
    line_from : (number : ℕ) (l : Line) → IsShownLine s entries number f l → is_job_line rules entries number j l ≡ true
    line_from number l shown =
        let job = shown.0 in
        let named : pointwise nat_eq job.block j.block ≡ true =
        ap (pointwise nat_eq job.block) (told.block ∙ sym shown.1.block) ∙ nat_list_eq_equiv.refl job.block in
        ap (is_job_line rules entries number j) shown.2
        ∙ both_true (both_true (eq-eqb number number refl) named) (end_so job.end shown.1.end)

  -- ---- all lines
  -- the line of the first job stands before those of the others
  with_line : (number : ℕ) (f : Following) (told : List Following) (l : Line) (lines : List Line) (found : Option (List Line))
      → IsShownLine s entries number f l → FindsJobLines s entries (numbered_jobs (number + 1) told) lines found
      → FindsJobLines s entries (numbered_jobs number (f ∷ told)) (l ∷ lines) found
  with_line number f told l lines None shown finds = λ rest has. apart rest has.0 has.1 has.2
    where
      apart : (rest : List Line) (ends : List JobLine) → AreEnds s entries (f ∷ told) ends → (l ∷ lines) ≡ lines_of_jobs number ends ++ rest → ⊥
      apart rest [] are is = are
      apart rest (e ∷ ends) are is = finds rest (ends, are.1, cc (is))
  with_line number f told l lines (Some rest) shown finds =
      (shown.0 ∷ finds.0, (shown.1, finds.1), ap (λ x. x ∷ lines) shown.2 ∙ ap (λ ls. line.Job number shown.0.block (job_end_shown shown.0.end) ∷ ls) finds.2)

  -- where it doesn't come first, none are found
  without_line : (number : ℕ) (f : Following) (told : List Following) (l : Line) (lines : List Line)
      → (IsShownLine s entries number f l → ⊥) → FindsJobLines s entries (numbered_jobs number (f ∷ told)) (l ∷ lines) None
  without_line number f told l lines other rest ([], are, is) = are
  without_line number f told l lines other rest (e ∷ ends, are, is) = other (e, are.0, cc (is))

  -- they are found
  jobs_found : (number : ℕ) (told : List Following) (jobs : List JobLeft) (lines : List Line) → AllZip (IsToldOf s.script) told jobs
      → FindsJobLines s entries (numbered_jobs number told) lines (behind_jobs rules entries number jobs lines)
  jobs_found number [] [] lines told = ([], refl, refl)
  jobs_found number [] (j ∷ jobs) lines told = absurd told
  jobs_found number (f ∷ fs) [] lines told = absurd told
  jobs_found number (f ∷ fs) (j ∷ jobs) [] told = none_first
    where
      none_first : FindsJobLines s entries (numbered_jobs number (f ∷ fs)) [] None
      none_first rest ([], are, is) = are
      none_first rest (e ∷ ends, are, is) = cc
  jobs_found number (f ∷ fs) (j ∷ jobs) (l ∷ lines) told =
      by_line (is_job_line rules entries number j l) refl (jobs_found (number + 1) fs jobs lines told.1)
    where
      by_line : (b : Bool) → is_job_line rules entries number j l ≡ b
          → FindsJobLines s entries (numbered_jobs (number + 1) fs) lines (behind_jobs rules entries (number + 1) jobs lines)
          → FindsJobLines s entries (numbered_jobs number (f ∷ fs)) (l ∷ lines) (if b then behind_jobs rules entries (number + 1) jobs lines else None)
      by_line true passed finds = with_line number f fs l lines _ (line_to f j told.0 number l passed) finds
      by_line false passed finds = without_line number f fs l lines (λ shown. cc (line_from f j told.0 number l shown, passed))

-- the same of what was found
pub jobs_at : (s : Setting) (rules : Rules) (entries : ℕ) → s.rules ≡ rules → 1 ≤ rules.attempts
    → (told : List Following) (jobs : List JobLeft) (lines : List Line) → AllZip (IsToldOf s.script) told jobs
    → (found : Option (List Line)) → found ≡ behind_jobs rules entries 1 jobs lines → FindsJobLines s entries (numbered_jobs 1 told) lines found
jobs_at s rules entries same some told jobs lines zip found is =
    subst (FindsJobLines s entries (numbered_jobs 1 told) lines) (sym is) (jobs_found s rules entries same some 1 told jobs lines zip)

-- what is behind them is so much of the lines
pub jobs_rest : (s : Setting) (entries number : ℕ) (told : List Following) (lines rest : List Line)
    → HasJobLines s entries (numbered_jobs number told) lines rest → rest ≡ drop (length told) lines
jobs_rest s entries number [] lines rest ([], are, is) = sym is
jobs_rest s entries number [] lines rest (e ∷ ends, are, is) = cc
jobs_rest s entries number (f ∷ fs) lines rest ([], are, is) = absurd are
jobs_rest s entries number (f ∷ fs) [] rest (e ∷ ends, are, is) = cc
jobs_rest s entries number (f ∷ fs) (l ∷ lines) rest (e ∷ ends, are, is) = jobs_rest s entries (number + 1) fs lines rest (ends, are.1, cc (is))
