-- Who holds which word: for each word a list of the transactions that hold it, at the word's place in a list.
use Rattle.std.specs.Prelude.{ℕ, ◌+◌, List, [], ◌∷◌, ◌++◌}
use Rattle.std.specs.FinMap.{FinMap, from_entries}
use Rattle.xc_data.specs.declared.claim.Mode.{Mode}
use Rattle.xc_locks.specs.Keys.{WordHolder, word_holder_cmp}
use Rattle.xc_locks.specs.Rows.{entries_at}

-- the holders of the words from one on, each with its word
abbrev pub entries_from : ℕ → List (List (ℕ × Mode)) → List (WordHolder × Mode)
entries_from w [] = []
entries_from w (m ∷ ms) = entries_at w m ++ entries_from (w + 1) ms

-- what contracts see of the holders of all words
abbrev pub words_of : List (List (ℕ × Mode)) → FinMap word_holder_cmp Mode
words_of ms = from_entries (entries_from 0 ms)
