-- The shapes of lines: what may stand after a line's first word.
use Rattle.std.specs.Prelude.{ℕ, List, [], ◌∷◌, codes, Option, Some, None, Result, Ok, Err, if◌then◌else◌}
use Rattle.xc_tokens.specs.declared.why.Why.{Why}
use Rattle.xc_tokens.specs.declared.why.Why.TheVariants.{BadForm}
use Rattle.xc_tokens.specs.Answers.{both, seen}
use Rattle.xc_tokens.specs.Tokens.{Lexeme}
use Rattle.xc_tokens.specs.Words.{is_sign, ident}

-- nothing
abbrev pub no_tokens : List Lexeme → Result (Unit {0}) Why
no_tokens [] = Ok tt
no_tokens _ = Err BadForm

-- one token, and nothing after it
abbrev pub alone : {A : Type 0} → (Lexeme → Result A Why) → List Lexeme → Result A Why
alone read (t ∷ []) = read t
alone read _ = Err BadForm

-- one token, and a shape after it
abbrev pub led : {A B : Type 0} → (Lexeme → Result A Why) → (List Lexeme → Result B Why) → List Lexeme → Result (A × B) Why
led first behind [] = Err BadForm
led first behind (t ∷ ts) = both (first t) (behind ts)

-- nothing, or `-> V`
abbrev pub target : List Lexeme → Result (Option (List ℕ)) Why
target [] = Ok None
target (arrow ∷ v ∷ []) = if is_sign arrow (codes "->") then seen Some (ident v) else Err BadForm
target _ = Err BadForm

-- nothing, or `-> V W`
abbrev pub two_targets : List Lexeme → Result (Option (List ℕ × List ℕ)) Why
two_targets [] = Ok None
two_targets (arrow ∷ v ∷ w ∷ []) = if is_sign arrow (codes "->") then seen Some (both (ident v) (ident w)) else Err BadForm
two_targets _ = Err BadForm

-- nothing, or `slot S`
abbrev pub slot_ending : List Lexeme → Result (Option (List ℕ)) Why
slot_ending [] = Ok None
slot_ending (word ∷ s ∷ []) = if is_sign word (codes "slot") then seen Some (ident s) else Err BadForm
slot_ending _ = Err BadForm

-- the tokens in front of an ending, and the ending: the last two, where the first of them is the word `slot`
abbrev pub parted : List Lexeme → List Lexeme × List Lexeme
parted [] = ([], [])
parted (t ∷ []) = (t ∷ [], [])
parted (word ∷ s ∷ []) = if is_sign word (codes "slot") then ([], word ∷ s ∷ []) else (word ∷ s ∷ [], [])
parted (t ∷ u ∷ v ∷ ts) = let p = parted (u ∷ v ∷ ts) in (t ∷ p.0, p.1)

-- a shape, and after it nothing or `slot S`
abbrev pub before_slot : {A : Type 0} → (List Lexeme → Result A Why) → List Lexeme → Result (A × Option (List ℕ)) Why
before_slot front tokens = let p = parted tokens in both (front p.0) (slot_ending p.1)
