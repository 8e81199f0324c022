-- The script that a seed gives: 64 words, a file, and 20 jobs of 25 transfers.
use Rattle.std.specs.Prelude.{ℕ, zero, suc, ◌+◌, ◌-◌, ◌*◌, ◌%◌, List, [], ◌++◌, codes}
use Rattle.std.specs.Fmt.{decimal}
use Rattle.xc_generator.specs.Draws.{drawn}
use Rattle.xc_generator.specs.declared.transfer.Transfer.{Transfer}

-- the texts of n numbers, from the first on
unfoldable pub texts : (ℕ → List ℕ) → ℕ → ℕ → List ℕ
texts text first zero = []
texts text first (suc n) = text first ++ texts text (first + 1) n

-- the line that gives a word its first value
abbrev pub generated_word_line : ℕ → List ℕ
generated_word_line index = codes "word " ++ decimal index ++ codes " 1000\n"

-- the transaction takes the amount out of a word that has it
abbrev pub taking_lines : Transfer → List ℕ
taking_lines t = codes "tx\nload " ++ decimal t.from ++ codes " -> x\nabort if x < " ++ decimal t.amount
    ++ codes "\nstore " ++ decimal t.from ++ codes " x - " ++ decimal t.amount ++ codes "\n"

-- it adds the amount to a word
abbrev pub giving_lines : Transfer → List ℕ
giving_lines t = codes "load " ++ decimal t.to ++ codes " -> y\nstore " ++ decimal t.to ++ codes " y + " ++ decimal t.amount ++ codes "\n"

-- it writes the amount to the file, and commits
abbrev pub logging_lines : Transfer → List ℕ
logging_lines t = codes "x_open log -> f\nx_write_seq f \"" ++ decimal t.amount ++ codes "\\n\"\nx_close f\ncommit\n"

-- the lines of a transfer
abbrev pub transfer_lines : Transfer → List ℕ
transfer_lines t = taking_lines t ++ giving_lines t ++ logging_lines t

-- the k-th transfer of a script, counted from 0, has three draws of its own
abbrev pub transfer : ℕ → ℕ → Transfer
transfer seed k = record {
  from = drawn seed (3 * k + 1) % 64;
  to = drawn seed (3 * k + 2) % 64;
  amount = drawn seed (3 * k + 3) % 10 + 1;
}

-- the lines of the k-th transfer
abbrev pub transaction : ℕ → ℕ → List ℕ
transaction seed k = transfer_lines (transfer seed k)

-- the job of a number, counted from 1, has 25 transactions
abbrev pub generated_job_lines : ℕ → ℕ → List ℕ
generated_job_lines seed number =
    codes "job g" ++ decimal number ++ codes "\n" ++ texts (transaction seed) (25 * (number - 1)) 25 ++ codes "end\n"

-- the script of a seed
abbrev pub generated : ℕ → List ℕ
generated seed = codes "words 64\n" ++ texts generated_word_line 0 64 ++ codes "file log\n"
    ++ texts (generated_job_lines seed) 1 20
