-- Tokens that may end in `slot S`.
use Rattle.std.proofs.Common.{◌≡◌, ℕ, zero, suc, ◌+◌, ◌-◌, ◌<◌, true, false, List, [], ◌∷◌, length, map, take, drop, get_or, take_all}
use Rattle.std.proofs.Common.{Result, Ok, Err, refl, ap, sym, ◌∙◌, arith}
use Rattle.std.specs.Prelude.{codes, Option, if◌then◌else◌}
use Rattle.xc_text.specs.Named.{NamedItem}
use Rattle.xc_text.specs.Places.{variable, placed_data, placed_ending, written_with_slot_of}
use Rattle.xc_text.specs.Said.{Names}
use Rattle.xc_text.specs.Stated.{Item as PlacedItem}
use Rattle.xc_text.specs.Pieces.{data_of}
use Rattle.xc_text.specs.Shapes.{led, before_slot, parted, slot_ending}
use Rattle.xc_text.proofs.Checked.{checked}
use Rattle.xc_tokens.specs.declared.token.Token.{Token}
use Rattle.xc_tokens.specs.declared.why.Why.{Why}
use Rattle.xc_tokens.specs.Answers.{both, seen}
use Rattle.xc_tokens.specs.Tokens.{Lexeme}
use Rattle.xc_tokens.specs.Views.{lexeme}
use Rattle.xc_tokens.specs.Words.{ident, is_sign}

abbrev LineParts : Type 0
LineParts = List Lexeme × List Lexeme

-- with one token in front of three or more
abbrev behind_one : Token → LineParts → LineParts
behind_one t p = (lexeme t ∷ p.0, p.1)

-- the last two, where the first of them is the word
pub parts_of_slot : (tokens : List Token) (n : ℕ) (word : Token) → length tokens ≡ n + 2 → word ≡ get_or tokens n word
    → is_sign (lexeme word) (codes "slot") ≡ true → parted (map lexeme tokens) ≡ (map lexeme (take n tokens), map lexeme (drop n tokens))
parts_of_slot [] n word len is sign = absurd (omega arith)
parts_of_slot (t ∷ []) n word len is sign = absurd (omega arith)
parts_of_slot (t ∷ u ∷ []) zero word len is sign =
    let two : LineParts = ([], lexeme t ∷ lexeme u ∷ []) in
    let none : LineParts = (lexeme t ∷ lexeme u ∷ [], []) in
    ap (λ b. if b then two else none) (sym (ap (λ w. is_sign (lexeme w) (codes "slot")) is) ∙ sign)
parts_of_slot (t ∷ u ∷ []) (suc n) word len is sign = absurd (omega arith)
parts_of_slot (t ∷ u ∷ v ∷ ts) zero word len is sign = absurd (omega arith)
parts_of_slot (t ∷ u ∷ v ∷ ts) (suc n) word len is sign = ap (behind_one t) (parts_of_slot (u ∷ v ∷ ts) n word (omega arith) is sign)

-- all, where it isn't
pub parts_without : (tokens : List Token) (n : ℕ) (word : Token) → length tokens ≡ n + 2 → word ≡ get_or tokens n word
    → is_sign (lexeme word) (codes "slot") ≡ false → parted (map lexeme tokens) ≡ (map lexeme tokens, [])
parts_without [] n word len is sign = absurd (omega arith)
parts_without (t ∷ []) n word len is sign = absurd (omega arith)
parts_without (t ∷ u ∷ []) zero word len is sign =
    let two : LineParts = ([], lexeme t ∷ lexeme u ∷ []) in
    let none : LineParts = (lexeme t ∷ lexeme u ∷ [], []) in
    ap (λ b. if b then two else none) (sym (ap (λ w. is_sign (lexeme w) (codes "slot")) is) ∙ sign)
parts_without (t ∷ u ∷ []) (suc n) word len is sign = absurd (omega arith)
parts_without (t ∷ u ∷ v ∷ ts) zero word len is sign = absurd (omega arith)
parts_without (t ∷ u ∷ v ∷ ts) (suc n) word len is sign = ap (behind_one t) (parts_without (u ∷ v ∷ ts) n word (omega arith) is sign)

-- fewer than two
pub parts_of_few : (tokens : List Token) → length tokens < 2 → parted (map lexeme tokens) ≡ (map lexeme tokens, [])
parts_of_few [] few = refl
parts_of_few (t ∷ []) few = refl
parts_of_few (t ∷ u ∷ ts) few = absurd (omega arith)

refused_three : (a : Result (List ℕ) Why) (b : Result (List NamedItem) Why) (c : Result (Option (List ℕ)) Why) (e : Why)
    → both a (both (checked b) c) ≡ Err e → both a (both b c) ≡ Err e
refused_three (Ok a) (Ok b) (Ok c) e h = cc
refused_three (Ok a) (Ok b) (Err g) e h = grind (arith, h)
refused_three (Ok a) (Err f) (Ok c) e h = grind (arith, h)
refused_three (Ok a) (Err f) (Err g) e h = grind (arith, h)
refused_three (Err d) (Ok b) (Ok c) e h = grind (arith, h)
refused_three (Err d) (Ok b) (Err g) e h = grind (arith, h)
refused_three (Err d) (Err f) (Ok c) e h = grind (arith, h)
refused_three (Err d) (Err f) (Err g) e h = grind (arith, h)

-- a line is refused where its handle, its data or its ending is
pub data_slot_refused : (t : Token) (ts items ending : List Token) (e : Why) → t ≡ get_or ts 0 t → 0 < length ts
    → map lexeme items ≡ (parted (map lexeme (take (length ts - 1) (drop 1 ts)))).0
    → map lexeme ending ≡ (parted (map lexeme (take (length ts - 1) (drop 1 ts)))).1
    → both (ident (lexeme t)) (both (checked (data_of (map lexeme items))) (slot_ending (map lexeme ending))) ≡ Err e
    → led ident (before_slot data_of) (map lexeme ts) ≡ Err e
data_slot_refused t [] items ending e is some front behind bad = absurd (omega arith)
data_slot_refused t (u ∷ ts) items ending e is some front behind bad =
    let rest : take (length (u ∷ ts) - 1) ts ≡ ts = take_all (length (u ∷ ts) - 1) ts (omega arith) in
    let p = parted (map lexeme ts) in
    refused_three (ident (lexeme u)) (data_of p.0) (slot_ending p.1) e (rw (front, behind, is, rest) at bad)

abbrev Good : Type 0
Good = List ℕ × (Unit {0} × Option (List ℕ))

same_good : (p q : Good) → ◌≡◌ {A = Result Good Why} (Ok p) (Ok q) → p ≡ q
same_good p q e = cc

three_written : (names : Names) (a : Result (List ℕ) Why) (b : Result (List NamedItem) Why) (c : Result (Option (List ℕ)) Why) (handle : List ℕ)
    (slot : Option (List ℕ)) (n m : Names) (is : List PlacedItem) → both a (both (checked b) c) ≡ Ok (handle, (tt, slot))
    → n ≡ (variable names handle).0 → seen (placed_data n) b ≡ Ok (m, is)
    → seen (written_with_slot_of names) (both a (both b c)) ≡ Ok ((placed_ending m slot).0, (((variable names handle).1, is), (placed_ending m slot).1))
three_written names (Ok a) (Ok b) (Ok c) handle slot n m is h first made =
    let good : ◌≡◌ {A = Good} (a, (tt, c)) (handle, (tt, slot)) = same_good (a, (tt, c)) (handle, (tt, slot)) h in
    let same : a ≡ handle = ap (λ (p : Good). p.0) good in
    let end : c ≡ slot = ap (λ (p : Good). p.1.1) good in
    let left : placed_data n b ≡ (m, is) = cc in
    rw (same, end, sym first, left) refl
three_written names (Ok a) (Ok b) (Err e) handle slot n m is h first made = cc
three_written names (Ok a) (Err e) c handle slot n m is h first made = cc
three_written names (Err e) (Ok b) (Ok c) handle slot n m is h first made = cc
three_written names (Err e) (Ok b) (Err d) handle slot n m is h first made = cc
three_written names (Err e) (Err d) c handle slot n m is h first made = cc

-- the parts of a line take their places in their order
pub slot_written : (names : Names) (t : Token) (ts items ending : List Token) (handle : List ℕ) (slot : Option (List ℕ)) (n m : Names)
    (is : List PlacedItem) → t ≡ get_or ts 0 t → 0 < length ts
    → map lexeme items ≡ (parted (map lexeme (take (length ts - 1) (drop 1 ts)))).0
    → map lexeme ending ≡ (parted (map lexeme (take (length ts - 1) (drop 1 ts)))).1
    → both (ident (lexeme t)) (both (checked (data_of (map lexeme items))) (slot_ending (map lexeme ending))) ≡ Ok (handle, (tt, slot))
    → n ≡ (variable names handle).0 → seen (placed_data n) (data_of (map lexeme items)) ≡ Ok (m, is)
    → seen (written_with_slot_of names) (led ident (before_slot data_of) (map lexeme ts))
    ≡ Ok ((placed_ending m slot).0, (((variable names handle).1, is), (placed_ending m slot).1))
slot_written names t [] items ending handle slot n m is first some front behind good named made = absurd (omega arith)
slot_written names t (u ∷ ts) items ending handle slot n m is first some front behind good named made =
    let rest : take (length (u ∷ ts) - 1) ts ≡ ts = take_all (length (u ∷ ts) - 1) ts (omega arith) in
    let p = parted (map lexeme ts) in
    three_written names (ident (lexeme u)) (data_of p.0) (slot_ending p.1) handle slot n m is (rw (front, behind, first, rest) at good) named
    (rw (front, rest) at made)
