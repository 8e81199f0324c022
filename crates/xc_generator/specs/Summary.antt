-- The line that sums up what a run of a generated script left.
use Rattle.std.specs.Prelude.{ℕ, List, ◌++◌, codes, sum}
use Rattle.std.specs.Fmt.{decimal}
use Rattle.xc_data.specs.declared.entry.Entry.{Entry}
use Rattle.xc_print.specs.Totals.{totals_of}
use Rattle.xc_print.specs.declared.totals.Totals.{Totals}

-- the line begins with its seed
abbrev pub seed_text : ℕ → List ℕ
seed_text seed = codes "seed " ++ decimal seed ++ codes ": "

-- the totals as the last line of a printed text counts them
abbrev pub totals_text : Totals → List ℕ
totals_text totals = decimal totals.committed ++ codes " committed, " ++ decimal totals.aborted ++ codes " aborted, "
    ++ decimal totals.faults ++ codes " faults, " ++ decimal totals.remains ++ codes " remains"

-- the line ends with the sum of all words
abbrev pub sum_text : ℕ → List ℕ
sum_text total = codes ", words sum " ++ decimal total ++ codes "\n"

-- the line of a journal, its words and its seed
abbrev pub summary_of : List Entry → List ℕ → ℕ → List ℕ
summary_of journal words seed = seed_text seed ++ totals_text (totals_of journal) ++ sum_text (sum words)
