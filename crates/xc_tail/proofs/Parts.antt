-- The parts of the lines behind the entries, one after another.
use Rattle.std.proofs.Common.{◌≡◌, ◌+◌, ◌-◌, ◌<◌, ◌≤◌, Bool, false, List, [], ◌∷◌, ◌++◌, length, take, drop, get_or, refl, ap, sym, ◌∙◌, arith}
use Rattle.std.specs.Prelude.{IfOk}
use Rattle.std.specs.Bool.{Decides}
use Rattle.std.specs.declared.result.Result.{Result}
use Rattle.std.specs.declared.result.Result.TheVariants.{Ok, Err}
use Rattle.std.proofs.lemmas.List.{append_cancel_left, take-append-drop, drop_more, drop_all}
use Rattle.xc_data.specs.declared.memory.NoMemory.{NoMemory}
use Rattle.xc_model.specs.Setting.{Setting}
use Rattle.xc_print.specs.Kept.{joined}
use Rattle.xc_sheet.specs.Ends.{lines_of_jobs, lines_of_words, lines_of_kept, line_of_totals}
use Rattle.xc_sheet.specs.declared.lines.Line.{Line}
use Rattle.xc_tail.specs.JobLines.{HasJobLines, numbered_jobs}
use Rattle.xc_tail.specs.KeptLines.{HasKeptLines}
use Rattle.xc_tail.specs.Tails.{IsTail, Led}
use Rattle.xc_tail.proofs.JobEnds.{jobs_rest}

-- what isn't so is decided by a no
pub refused : (P : Type 0) → (P → ⊥) → Decides false P
refused P none = ((λ e. absurd (cc (e))), λ p. absurd (none p))

-- what is decided decides what it is as good as
pub decides_more : (P Q : Type 0) (result : Result Bool NoMemory) → ((answer : Bool) → Decides answer P → Decides answer Q)
    → IfOk result (λ answer. Decides answer P) → IfOk result (λ answer. Decides answer Q)
decides_more P Q (Ok answer) more decides = more answer decides
decides_more P Q (Err e) more decides = decides

-- lists that are one have one first item, and one rest
last_apart : (l : Line) (ls : List Line) (m : Line) (ms : List Line) → (l ∷ ls) ≡ (m ∷ ms) → (l ≡ m) × (ls ≡ ms)
last_apart l ls m ms e = (cc (e), cc (e))

-- one line isn't two
never_alone : (l m n : Line) (ms : List Line) → l ∷ [] ≡ m ∷ (ms ++ n ∷ []) → ⊥
never_alone l m n [] e = cc
never_alone l m n (k ∷ ms) e = cc

-- lists with one more item are one where their fronts are, and their last items
one_last : (front other : List Line) (last more : Line) → front ++ last ∷ [] ≡ other ++ more ∷ [] → (front ≡ other) × (last ≡ more)
one_last [] [] last more e = (refl, (last_apart last [] more [] e).0)
one_last [] (m ∷ other) last more e = absurd (never_alone last m more other e)
one_last (l ∷ front) [] last more e = absurd (never_alone more l last front (sym e))
one_last (l ∷ front) (m ∷ other) last more e =
    let apart = last_apart l (front ++ last ∷ []) m (other ++ more ∷ []) e in
    let same = one_last front other last more apart.1 in
    (ap (λ x. x ∷ front) apart.0 ∙ ap (λ ls. m ∷ ls) same.0, same.1)

-- lines that are some end in their last one
pub parted_last : (lines : List Line) (last : Line) → 1 ≤ length lines → last ≡ get_or lines (length lines - 1) last
    → lines ≡ take (length lines - 1) lines ++ last ∷ []
parted_last lines last some is =
    sym (take-append-drop (length lines - 1) lines)
    ∙ ap (λ ls. take (length lines - 1) lines ++ ls) (drop_more lines (length lines - 1) last (omega arith)
    ∙ ap (λ l. l ∷ drop (length lines - 1 + 1) lines) (sym is)
    ∙ ap (λ ls. last ∷ ls) (drop_all (length lines - 1 + 1) lines (omega arith)))

module _ (s : Setting) (led : Led) (lines : List Line) where
  -- without the lines of the jobs
  pub no_jobs : ((rest : List Line) → HasJobLines s led.entries (numbered_jobs 1 led.jobs) lines rest → ⊥) → IsTail s led lines → ⊥
  no_jobs none t = none _ (t.job_lines, t.ends, t.shown)

  -- behind them are the others
  others : (behind : List Line) → HasJobLines s led.entries (numbered_jobs 1 led.jobs) lines behind → (t : IsTail s led lines)
      → behind ≡ lines_of_words 0 led.world.words ++ (lines_of_kept (joined t.kept) ++ line_of_totals led.totals ∷ [])
  others behind has t =
      jobs_rest s led.entries 1 led.jobs lines behind has
      ∙ sym (jobs_rest s led.entries 1 led.jobs lines _ (t.job_lines, t.ends, t.shown))

  -- without those of the words
  pub no_words : (behind : List Line) → HasJobLines s led.entries (numbered_jobs 1 led.jobs) lines behind
      → ((rest : List Line) → behind ≡ lines_of_words 0 led.world.words ++ rest → ⊥) → IsTail s led lines → ⊥
  no_words behind has none t = none _ (others behind has t)

  -- behind them are kept data and the totals
  module _ (behind left : List Line) (has : HasJobLines s led.entries (numbered_jobs 1 led.jobs) lines behind)
      (words : behind ≡ lines_of_words 0 led.world.words ++ left) where
    left_is : (t : IsTail s led lines) → left ≡ lines_of_kept (joined t.kept) ++ line_of_totals led.totals ∷ []
    left_is t = append_cancel_left (lines_of_words 0 led.world.words) left _ (sym words ∙ others behind has t)

    -- no line is left for the totals
    pub no_total : length left < 1 → IsTail s led lines → ⊥
    no_total none t = never_none left (lines_of_kept (joined t.kept)) none (left_is t)
      where
        never_none : (ls front : List Line) → length ls < 1 → ls ≡ front ++ line_of_totals led.totals ∷ [] → ⊥
        never_none [] [] none e = cc
        never_none [] (l ∷ front) none e = cc
        never_none (l ∷ ls) front none e = omega (arith, none)

    module _ (front : List Line) (last : Line) (parts : left ≡ front ++ last ∷ []) where
      -- the last one is of other totals
      pub other_totals : (last ≡ line_of_totals led.totals → ⊥) → IsTail s led lines → ⊥
      other_totals other t = other (one_last front (lines_of_kept (joined t.kept)) last (line_of_totals led.totals) (sym parts ∙ left_is t)).1

      -- what is between decides
      pub kept_decides : last ≡ line_of_totals led.totals → (answer : Bool) → Decides answer (HasKeptLines led.world front)
          → Decides answer (IsTail s led lines)
      kept_decides total answer kept = ((λ e. whole (kept.0 e)), λ t. kept.1 (part t))
        where
          whole : HasKeptLines led.world front → IsTail s led lines
          whole k = record {
            job_lines = has.0;
            kept = k.0;
            shown = has.2 ∙ ap (λ ls. lines_of_jobs 1 has.0 ++ ls) (words ∙ ap (λ ls. lines_of_words 0 led.world.words ++ ls)
                (parts ∙ ap (λ ls. ls ++ last ∷ []) k.1 ∙ ap (λ l. lines_of_kept (joined k.0) ++ l ∷ []) total));
            ends = has.1;
            front = k.2;
          }

          part : IsTail s led lines → HasKeptLines led.world front
          part t = (t.kept, (one_last front (lines_of_kept (joined t.kept)) last (line_of_totals led.totals) (sym parts ∙ left_is t)).0, t.front)
