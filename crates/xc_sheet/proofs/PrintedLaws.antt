-- What was compared with its text stands there, and what stands there is found.
use Rattle.std.proofs.Common.{◌≡◌, ℕ, ◌<◌, Bool, true, false, cond, List, [], ◌∷◌, ◌++◌, length}
use Rattle.std.proofs.Common.{take, drop, Option, Some, None, refl, sym, ap, subst, ◌∙◌, arith}
use Rattle.std.specs.Prelude.{◌==◌, nat_eq, codes, unwrap_or, IfOk, Result, Ok, Err}
use Rattle.std.specs.Cmp.Lexicographic.{pointwise, bytes_decides}
use Rattle.std.proofs.lemmas.Bool.{ne_eqb, false≢true}
use Rattle.std.proofs.lemmas.List.{take_at, drop_at, take-append-drop}
use Rattle.xc_data.specs.declared.entry.Cause.{Cause}
use Rattle.xc_data.specs.declared.entry.KeptItem.TheVariants as item
use Rattle.xc_lines.specs.declared.heads.Head.{Head}
use Rattle.xc_lines.specs.declared.stop.ReadStop.{ReadStop}
use Rattle.xc_lines.specs.Heads.{word_of, numbers_text, cause_of}
use Rattle.xc_lines.specs.Parts.{◌>>=◌, Read, GivesRead, past}
use Rattle.xc_sheet.specs.declared.lines.Line.{Line}
use Rattle.xc_sheet.specs.declared.lines.Line.TheVariants as line
use Rattle.xc_sheet.specs.Lines.{line_at, line_text}
use Rattle.xc_sheet.specs.Printed.{past_some, printed}
use Rattle.xc_sheet.specs.Ranges.{IsLineInRange}
use Rattle.xc_sheet.proofs.LineLaws.{line_again}

-- the value of a step that did not fail
bind_some : {A B : Type 0} (r : Option A) (f : A → Option B) (y : B) → (r >>= f) ≡ Some y → (x : A) × (r ≡ Some x) × (f x ≡ Some y)
bind_some (Some x) f y e = (x, refl, e)
bind_some None f y e = absurd cc

guarded : {A : Type 0} (b : Bool) (x y : A) → cond b (Some x) None ≡ Some y → (b ≡ true) × (x ≡ y)
guarded true x y e = (refl, cc)
guarded false x y e = absurd cc

-- what was passed stood in front
pub past_is : (front bytes rest : List ℕ) → past front bytes ≡ Some rest → bytes ≡ front ++ rest
past_is front bytes rest e =
    let g = guarded (pointwise nat_eq (take (length front) bytes) front) (drop (length front) bytes) rest e in
    let same : take (length front) bytes ≡ front = (bytes_decides (take (length front) bytes) front).0 g.0 in
    sym (take-append-drop (length front) bytes) ∙ ap (λ t. t ++ drop (length front) bytes) same ∙ ap (λ t. front ++ t) g.1

-- what stands in front is passed
pub past_again : (front rest : List ℕ) → past front (front ++ rest) ≡ Some rest
past_again front rest =
    rw (take_at front rest (length front) refl, drop_at front rest (length front) refl, (bytes_decides front front).1 refl) refl

pair_read : {A : Type 0} → A × List ℕ → Read A
pair_read p = Some p

same_pair : {A : Type 0} (p q : A × List ℕ) → pair_read p ≡ pair_read q → p ≡ q
unfolding pair_read
same_pair p q e = ap (λ o. unwrap_or o p) e

-- whether there is a first byte
abbrev has_first : List ℕ → Bool
has_first [] = false
has_first (b ∷ bytes) = true

-- then the length isn't 0
some_first : (bytes : List ℕ) → has_first bytes ≡ true → (length bytes == 0) ≡ false
some_first [] e = absurd (false≢true e)
some_first (b ∷ bytes) e = ne_eqb (length (b ∷ bytes)) 0 (λ none. omega (arith, none))

-- what was passed stood in front, and wasn't empty
some_is : (front bytes rest : List ℕ) → past_some front bytes ≡ Some rest → (bytes ≡ front ++ rest) × (0 < length front)
unfolding past_some
some_is [] bytes rest e = absurd cc
some_is (b ∷ front) bytes rest e =
    let some = some_first (b ∷ front) refl in
    (past_is (b ∷ front) bytes rest (sym (ap (λ t. cond t None (past (b ∷ front) bytes)) some) ∙ e), omega arith)

some_again : (front rest : List ℕ) → (length front == 0) ≡ false → past_some front (front ++ rest) ≡ Some rest
unfolding past_some
some_again front rest some = rw (some, past_again front rest) refl

-- a value that was compared stands there, and has a text
pub printed_is : {A : Type 0} (read : List ℕ → Read A) (text : A → List ℕ) (bytes : List ℕ) (x : A) (rest : List ℕ)
    → printed read text bytes ≡ Some (x, rest) → (bytes ≡ text x ++ rest) × (0 < length (text x))
unfolding printed pair_read
printed_is {A = A} read text bytes x rest e =
    let b = bind_some (read bytes) (λ x. past_some (text x.0) bytes >>= λ rest. Some (x.0, rest)) (x, rest) e in
    let c = bind_some (past_some (text b.0.0) bytes) (λ rest. Some (b.0.0, rest)) (x, rest) b.2 in
    let stands = some_is (text b.0.0) bytes c.0 c.1 in
    let same = same_pair (b.0.0, c.0) (x, rest) c.2 in
    (stands.0 ∙ ap (λ p. text p.0 ++ p.1) same, subst (λ (p : A × List ℕ). 0 < length (text p.0)) same stands.1)

-- a value that stands there, and has a text, is found
pub printed_again : {A : Type 0} (read : List ℕ → Read A) (text : A → List ℕ) (x : A) (rest behind : List ℕ)
    → (length (text x) == 0) ≡ false → read (text x ++ rest) ≡ Some (x, behind) → printed read text (text x ++ rest) ≡ Some (x, rest)
unfolding printed
printed_again read text x rest behind some e = rw (e, some_again (text x) rest some) refl

-- ---- a line
head_some : (head : Head) (cause : Option Cause)
    → (length (word_of cause ++ numbers_text head ++ cause_of cause ++ codes "\n") == 0) ≡ false
head_some head None = some_first (word_of None ++ numbers_text head ++ cause_of None ++ codes "\n") refl
head_some head (Some cause) = some_first (word_of (Some cause) ++ numbers_text head ++ cause_of (Some cause) ++ codes "\n") refl

-- a line in its range has a text
pub line_some : (l : Line) → IsLineInRange l → (length (line_text l) == 0) ≡ false
line_some (line.Head head) within = head_some head head.cause
line_some (line.Call call reply) within = some_first (line_text (line.Call call reply)) refl
line_some (line.Late number end) within = some_first (line_text (line.Late number end)) refl
line_some (line.Undo number kind end) within = some_first (line_text (line.Undo number kind end)) refl
line_some (line.Remains effect) within = some_first (line_text (line.Remains effect)) refl
line_some (line.Held []) within = absurd within
line_some (line.Held (claim ∷ claims)) within = some_first (line_text (line.Held (claim ∷ claims))) refl
line_some (line.Job number block end) within = some_first (line_text (line.Job number block end)) refl
line_some (line.Word at value) within = some_first (line_text (line.Word at value)) refl
line_some (line.Kept (item.Bytes pipe bytes)) within = some_first (line_text (line.Kept (item.Bytes pipe bytes))) refl
line_some (line.Kept (item.Message pair side bytes)) within = some_first (line_text (line.Kept (item.Message pair side bytes))) refl
line_some (line.Total committed aborted faults remains) within = some_first (line_text (line.Total committed aborted faults remains)) refl

-- a line that was compared stands there
pub line_found : (r : Result Line ReadStop) (new old : List ℕ) → GivesRead r new (printed line_at line_text old)
    → IfOk r (λ l. old ≡ line_text l ++ new)
line_found (Ok l) new old h = (printed_is line_at line_text old l new h).0
line_found (Err e) new old h = tt

-- and has a text
pub line_has : (r : Result Line ReadStop) (new old : List ℕ) → GivesRead r new (printed line_at line_text old)
    → IfOk r (λ l. 0 < length (line_text l))
line_has (Ok l) new old h = (printed_is line_at line_text old l new h).1
line_has (Err e) new old h = tt

-- a line in its range that stands there is found
pub line_only : (r : Result Line ReadStop) (new old : List ℕ) → GivesRead r new (printed line_at line_text old)
    → (l : Line) (rest : List ℕ) → IsLineInRange l → old ≡ line_text l ++ rest → GivesRead r new (Some (l, rest))
line_only r new old h l rest is e =
    subst (GivesRead r new) (ap (printed line_at line_text) e ∙ printed_again line_at line_text l rest rest (line_some l is) (line_again l rest is)) h
