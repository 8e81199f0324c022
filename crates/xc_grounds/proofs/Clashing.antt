-- Claims that clash, by the list they stand in.
use Rattle.std.proofs.Common.{◌≡◌, inl, inr, Bool, false, List, ◌++◌}
use Rattle.std.specs.Bool.{Decides}
use Rattle.std.proofs.lemmas.List.Elements.{Contains-append_cases, Contains-append_right}
use Rattle.xc_data.specs.declared.claim.Claim.{Claim}
use Rattle.xc_model.specs.Grounds.{Clashes}

-- where the first list has none that clashes, the second decides
pub second_decides : (xs ys : List Claim) (held : Claim) (first second : Bool) → Decides first (Clashes xs held) → first ≡ false
    → Decides second (Clashes ys held) → Decides second (Clashes (xs ++ ys) held)
second_decides xs ys held first second one lacks two = (
  λ e. let (c, among, clash) = two.0 e in (c, Contains-append_right xs ys c among, clash),
  λ clashes.
      let (c, among, clash) = clashes in
      elim (Contains-append_cases xs ys c among) [
        | inl front ↦ let has = one.1 (c, front, clash) in cc (has, lacks)
        | inr back ↦ two.1 (c, back, clash)
      ],
)
