-- Tables of words.
use Rattle.std.specs.Prelude.{ℕ, List, find, option_map, Option}
use Rattle.xc_tokens.specs.Words.{spells}

-- a word, and what it stands for
abbrev pub Entry : Type 0 → Type 0
Entry A = List ℕ × A

-- what a word stands for by a table
abbrev pub by_word : {A : Type 0} → List (Entry A) → List ℕ → Option A
by_word {A} table word = option_map (λ (e : Entry A). e.1) (find (λ (e : Entry A). spells word e.0) table)
