-- Parts of a line that are checked first, and made then.
use Rattle.std.proofs.Common.{◌≡◌, ℕ, ◌-◌, ◌<◌, List, [], ◌∷◌, length, map, take, drop, get_or, take_all, drop-cons, suc, subst, arith, Result, Ok, Err, refl}
use Rattle.std.proofs.Common.{ap, sym, ◌∙◌}
use Rattle.std.specs.Prelude.{IsOk}
use Rattle.xc_text.specs.Named.{NamedItem}
use Rattle.xc_tokens.specs.declared.token.Token.{Token}
use Rattle.xc_tokens.specs.declared.why.Stop.{Stop}
use Rattle.xc_tokens.specs.declared.why.Stop.TheVariants as stop
use Rattle.xc_tokens.specs.declared.why.Why.{Why}
use Rattle.xc_tokens.specs.Answers.{Stops, both, seen}
use Rattle.xc_text.specs.Shapes.{led}
use Rattle.xc_text.specs.Pieces.{item_of, items_of, data_of}
use Rattle.xc_tokens.specs.Words.{ident}
use Rattle.xc_tokens.specs.Tokens.{Lexeme}
use Rattle.xc_tokens.specs.Views.{lexeme}

-- whether a part is good, and else the reason against it
abbrev pub checked : {A : Type 0} → Result A Why → Result (Unit {0}) Why
checked a = seen (λ _. tt) a

-- the first of two parts, where both are good
abbrev pub first_good : {A B : Type 0} → Result A Why → Result B Why → Result A Why
first_good {A} {B} a b = seen (λ (p : A × B). p.0) (both a b)

both_good : (a : Result NamedItem Why) (b : Result (List NamedItem) Why) →
    first_good (checked a) (checked b) ≡ checked (seen (λ (p : NamedItem × List NamedItem). p.0 ∷ p.1) (both a b))
both_good (Ok a) (Ok b) = refl
both_good (Ok a) (Err e) = refl
both_good (Err d) (Ok b) = refl
both_good (Err d) (Err e) = refl

-- items are good where the first and the others are
pub checked_items : (t : Lexeme) (ts : List Lexeme) → checked (items_of (t ∷ ts)) ≡ first_good (checked (item_of t)) (checked (items_of ts))
checked_items t ts = sym (both_good (item_of t) (items_of ts))

-- the same of tokens of the code
pub checked_tokens : (t : Token) (ts : List Token) → t ≡ get_or ts 0 t → 0 < length ts →
    checked (items_of (map lexeme ts)) ≡ first_good (checked (item_of (lexeme t))) (checked (items_of (map lexeme (take (length ts - 1) (drop 1 ts)))))
checked_tokens t [] e some = absurd (omega arith)
checked_tokens t (u ∷ ts) e some = rw (e, take_all (length (u ∷ ts) - 1) ts (omega arith)) (checked_items (lexeme u) (map lexeme ts))

refused_first : (a : Result (List ℕ) Why) (b : Result (List NamedItem) Why) (e : Why) → first_good a (checked b) ≡ Err e → both a b ≡ Err e
refused_first (Ok a) (Ok b) e h = cc
refused_first (Ok a) (Err d) e h = grind (arith, h)
refused_first (Err d) (Ok b) e h = grind (arith, h)
refused_first (Err d) (Err c) e h = grind (arith, h)

-- a line that writes is refused where its handle or its data are
pub written_refused : (t : Token) (ts : List Token) (e : Why) → t ≡ get_or ts 0 t → 0 < length ts →
    first_good (ident (lexeme t)) (checked (data_of (map lexeme (take (length ts - 1) (drop 1 ts))))) ≡ Err e →
    led ident data_of (map lexeme ts) ≡ Err e
written_refused t [] e is some bad = absurd (omega arith)
written_refused t (u ∷ ts) e is some bad =
    let rest : take (length (u ∷ ts) - 1) ts ≡ ts = take_all (length (u ∷ ts) - 1) ts (omega arith) in
    refused_first (ident (lexeme u)) (data_of (map lexeme ts)) e (rw (is, rest) at bad)

no_item : {B : Type 0} (f : List NamedItem → B) (a : Result NamedItem Why) (b : Result (List NamedItem) Why) (e : Why) →
    IsOk (seen f (seen (λ (p : NamedItem × List NamedItem). p.0 ∷ p.1) (both a b))) → a ≡ Err e → ⊥
no_item f (Ok x) b e fine bad = cc
no_item f (Err d) (Ok xs) e fine bad = cc
no_item f (Err d) (Err c) e fine bad = cc

-- where all items are good none is bad
pub no_bad_item : {B : Type 0} (f : List NamedItem → B) (t : Lexeme) (ts : List Lexeme) (e : Why) → IsOk (seen f (items_of (t ∷ ts))) → item_of t ≡ Err e → ⊥
no_bad_item f t ts e fine bad = no_item f (item_of t) (items_of ts) e fine bad

refused_item : {B : Type 0} (stops : Stop) (f : List NamedItem → B) (t : Lexeme) (ts : List Lexeme) (all : Result B Why) →
    seen f (items_of (t ∷ ts)) ≡ all → IsOk all → Stops stops (item_of t) → Stops stops all
refused_item stop.NoMemory f t ts all e fine bad = tt
refused_item (stop.Refused why) f t ts all e fine bad = absurd (no_bad_item f t ts why (subst IsOk (sym e) fine) bad)

still_good : {B : Type 0} (g : List NamedItem → B) (items : Result (List NamedItem) Why) → IsOk items → IsOk (seen g items)
still_good g (Ok is) fine = refl
still_good g (Err e) fine = fine

-- only memory stops the making of items that are good
pub item_stops : {B : Type 0} (stops : Stop) (f g : List NamedItem → B) (t : Token) (tokens : List Token) (i : ℕ) → i < length tokens → t ≡ get_or tokens i t →
    seen f (items_of (map lexeme (drop i tokens))) ≡ seen g (items_of (map lexeme tokens)) → IsOk (items_of (map lexeme tokens)) →
    Stops stops (item_of (lexeme t)) → Stops stops (seen g (items_of (map lexeme tokens)))
item_stops stops f g t tokens i within is left fine bad =
    let at : drop i tokens ≡ t ∷ drop (suc i) tokens = drop-cons tokens i t within ∙ ap (λ u. u ∷ drop (suc i) tokens) (sym is) in
    refused_item stops f (lexeme t) (map lexeme (drop (suc i) tokens)) _ (ap (λ ts. seen f (items_of (map lexeme ts))) (sym at) ∙ left)
    (still_good g (items_of (map lexeme tokens)) fine) bad
