-- The texts of elements, one after another.
use Rattle.std.proofs.Common.{◌≡◌, ◌++◌, ◌∷◌, ◌+◌, ◌-◌, ◌<◌, [], ℕ, suc, List, refl, sym, ap, subst, ◌∙◌, append_assoc}
use Rattle.std.proofs.Common.{drop, drop-cons, get_or, length, add-one, arith}
use Rattle.xc_picture.specs.Arrows.{Spots, spot_of, arrow_to, rival_spot, arrows_of}
use Rattle.xc_picture.specs.Drawn.{bar_elements, bars_elements, lane_element, lane_labels}
use Rattle.xc_picture.specs.Elements.{Element, element_text, elements_text}
use Rattle.xc_picture.specs.declared.scene.Bar.{Bar}

-- the text of elements, and of others behind them
pub text_of_both : (a b : List Element) → elements_text (a ++ b) ≡ elements_text a ++ elements_text b
text_of_both [] b = refl
text_of_both (e ∷ a) b =
    ap (λ (bs : List ℕ). element_text e ++ bs) (text_of_both a b) ∙ sym (append_assoc (element_text e) (elements_text a) (elements_text b))

-- elements were printed, and what is left is less by them
pub next_texts : (out new all : List ℕ) (a b : List Element) → new ≡ out ++ elements_text a → out ++ elements_text (a ++ b) ≡ all
    → new ++ elements_text b ≡ all
next_texts out new all a b printed before =
    ap (λ (bs : List ℕ). bs ++ elements_text b) printed ∙ append_assoc out (elements_text a) (elements_text b)
    ∙ ap (λ (bs : List ℕ). out ++ bs) (sym (text_of_both a b)) ∙ before

-- elements were printed, and then others
pub two_texts : (out new last : List ℕ) (a b : List Element) → new ≡ out ++ elements_text a → last ≡ new ++ elements_text b
    → last ≡ out ++ elements_text (a ++ b)
two_texts out new last a b first second = second ∙ next_texts out new (out ++ elements_text (a ++ b)) a b first refl

-- what is left of a list begins with the next one
left_begins : {X : Type 0} (xs : List X) (i : ℕ) (x : X) → i < length xs → x ≡ get_or xs i x → drop i xs ≡ x ∷ drop (i + 1) xs
left_begins xs i x within is = rw add-one (drop-cons xs i x within ∙ ap (λ y. y ∷ drop (suc i) xs) (sym is))

-- a bar was drawn, and those behind it are left
pub bar_drawn : (out new all : List ℕ) (bars : List Bar) (i : ℕ) (bar : Bar) → i < length bars → bar ≡ get_or bars i bar
    → new ≡ out ++ elements_text (bar_elements bar) → out ++ elements_text (bars_elements (drop i bars)) ≡ all
    → new ++ elements_text (bars_elements (drop (i + 1) bars)) ≡ all
bar_drawn out new all bars i bar within is printed before =
    next_texts out new all (bar_elements bar) (bars_elements (drop (i + 1) bars)) printed
    (subst (λ (left : List Bar). out ++ elements_text (bars_elements left) ≡ all) (left_begins bars i bar within is) before)

-- the arrow of a bar was drawn, and those of the bars behind it are left
pub arrow_drawn : (spots : Spots) (out new all : List ℕ) (bars : List Bar) (i : ℕ) (bar : Bar) → i < length bars → bar ≡ get_or bars i bar
    → new ≡ out ++ elements_text (arrow_to (spot_of bar) (rival_spot spots bar.rival))
    → out ++ elements_text (arrows_of spots (drop i bars)) ≡ all → new ++ elements_text (arrows_of spots (drop (i + 1) bars)) ≡ all
arrow_drawn spots out new all bars i bar within is printed before =
    next_texts out new all (arrow_to (spot_of bar) (rival_spot spots bar.rival)) (arrows_of spots (drop (i + 1) bars)) printed
    (subst (λ (left : List Bar). out ++ elements_text (arrows_of spots left) ≡ all) (left_begins bars i bar within is) before)

-- the label of a lane was drawn, and those of the lanes behind it are left
pub lane_drawn : (out new all : List ℕ) (before lanes : ℕ) → before < lanes → new ≡ out ++ element_text (lane_element (before + 1))
    → out ++ elements_text (lane_labels (before + 1) (lanes - before)) ≡ all
    → new ++ elements_text (lane_labels (before + 1 + 1) (lanes - (before + 1))) ≡ all
lane_drawn out new all before lanes within printed all_before =
    let one_more : lanes - before ≡ suc (lanes - (before + 1)) = omega (arith, within) in
    let left : List ℕ = elements_text (lane_labels (before + 1 + 1) (lanes - (before + 1))) in
    ap (λ (bs : List ℕ). bs ++ left) printed ∙ append_assoc out (element_text (lane_element (before + 1))) left
    ∙ ap (λ (bs : List ℕ). out ++ bs) (sym (ap (λ (n : ℕ). elements_text (lane_labels (before + 1) n)) one_more)) ∙ all_before
