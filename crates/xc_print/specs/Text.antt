-- The whole text of a run.
use Rattle.std.specs.Prelude.{ℕ, ◌+◌, ◌==◌, List, [], ◌∷◌, ◌++◌, codes, if◌then◌else◌}
use Rattle.std.specs.Fmt.{decimal}
use Rattle.xc_data.specs.declared.entry.Entry.{Entry}
use Rattle.xc_data.specs.declared.entry.JobEnd.{JobEnd}
use Rattle.xc_data.specs.declared.entry.JobEnd.TheVariants.{Done, GaveUp, JournalFull, NoMemory}
use Rattle.xc_data.specs.declared.entry.JobLine.{JobLine}
use Rattle.xc_data.specs.declared.entry.KeptItem.{KeptItem}
use Rattle.xc_print.specs.Entries.{journal_text}
use Rattle.xc_print.specs.Kept.{kept_lines}
use Rattle.xc_print.specs.Totals.{totals_of, totals_line}

-- how a job ended
abbrev pub job_end_text : JobEnd → List ℕ
job_end_text Done = codes "done"
job_end_text (GaveUp cause) = codes "gave up"
job_end_text JournalFull = codes "journal full"
job_end_text NoMemory = codes "no memory"

-- the line of the job of this number
abbrev pub job_line : ℕ → JobLine → List ℕ
job_line number job = codes "job " ++ decimal number ++ codes " " ++ job.block ++ codes " " ++ job_end_text job.end ++ codes "\n"

-- the lines of the jobs, the first of which has this number
abbrev pub job_lines : ℕ → List JobLine → List ℕ
job_lines number [] = []
job_lines number (job ∷ jobs) = job_line number job ++ job_lines (number + 1) jobs

-- the line of a word, none where it is 0
abbrev pub word_line : ℕ → ℕ → List ℕ
word_line at value = if value == 0 then [] else codes "word " ++ decimal at ++ codes " " ++ decimal value ++ codes "\n"

-- the lines of the words from a place on
abbrev pub word_lines : ℕ → List ℕ → List ℕ
word_lines at [] = []
word_lines at (value ∷ values) = word_line at value ++ word_lines (at + 1) values

-- the entries, the jobs, the words, the kept data and, last, the totals
abbrev pub rendered : List Entry → List JobLine → List ℕ → List KeptItem → List ℕ
rendered journal jobs words kept = journal_text journal ++ job_lines 1 jobs ++ word_lines 0 words ++ kept_lines kept
    ++ totals_line (totals_of journal)
