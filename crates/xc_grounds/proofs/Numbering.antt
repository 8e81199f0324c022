-- From a table of places to numbers that are right, or wrong from a place on.
use Rattle.std.proofs.Common.{◌≡◌, ℕ, ◌+◌, ◌<◌, ◌≤◌, List, Bool, length, take, refl, sym, ◌∙◌, subst, arith, get_or, set, if◌then◌else◌}
use Rattle.std.specs.Prelude.{Option, slice_get}
use Rattle.std.specs.Bool.{Decides}
use Rattle.std.specs.declared.option.Option.TheVariants.{None, Some}
use Rattle.std.proofs.lemmas.List.{take_all, take-take, length-take-le}
use Rattle.std.proofs.lemmas.Option.{get_or_from_slice_get, slice_get-get_or, slice_get_within}
use Rattle.std.proofs.lemmas.List.Elements.{All-take}
use Rattle.xc_data.proofs.Laws.{get_map}
use Rattle.xc_model.specs.Grounds.{Part}
use Rattle.xc_grounds.specs.Numbered.{AreInOrder, AreNumbered, IsFirstMisnumbered, part_begin, part_begins}
use Rattle.xc_grounds.specs.Places.{AreEntered, HasPlaces, IsFirstDisordered, IsUnusedNumber}
use Rattle.xc_grounds.proofs.Entering.{entered_free}
use Rattle.xc_grounds.proofs.Fronts.{in_front, of_front}
use Rattle.xc_grounds.proofs.Orders.{number_within, one_place}

-- a front of entered numbers is right where it is in order
front_numbered : (begins : List (ℕ × ℕ)) (count size entered k : ℕ) (table : List (Option ℕ)) → AreEntered begins size entered table → size ≡ count + 1
    → k ≤ entered
    → AreInOrder (take k begins) → AreNumbered count (take k begins)
front_numbered begins count size entered k table are many less ordered =
    let within_entered : (i : ℕ) (a : ℕ × ℕ) → slice_get (take k begins) i ≡ Some a → slice_get (take entered begins) i ≡ Some a =
    λ i a at. let (low, there) = of_front k begins i a at in in_front entered begins i a (omega (arith, low, less)) there in
    record {
      within = λ i d low.
          let a = get_or (take k begins) i d in
          let (above, below) = number_within (take entered begins) table are.has i a (within_entered i a (slice_get-get_or (take k begins) i d low)) in
          let same = are.same in (above, omega (arith, below, same, many));
      apart = λ i j a b at there same. one_place (take entered begins) table are.has i j a b (within_entered i a at) (within_entered j b there) same;
      order = ordered;
    }

-- all are right where all were entered and are in order
pub all_numbered : (begins : List (ℕ × ℕ)) (count size entered : ℕ) (table : List (Option ℕ)) → AreEntered begins size entered table
    → size ≡ count + 1 → length begins ≤ entered → AreInOrder (take entered begins) → AreNumbered count begins
all_numbered begins count size entered table are many past ordered =
    subst (AreNumbered count) (take_all entered begins past) (front_numbered begins count size entered entered table are many (omega arith) ordered)

-- from the first on that is out of order they are wrong
pub wrong_in_order : (begins : List (ℕ × ℕ)) (count size entered place : ℕ) (table : List (Option ℕ)) → AreEntered begins size entered table
    → size ≡ count + 1 → IsFirstDisordered (take entered begins) place → IsFirstMisnumbered count begins place
wrong_in_order begins count size entered place table are many (low, ordered, disordered) =
    let all = length-take-le entered begins are.within in
    let front : take place (take entered begins) ≡ take place begins = take-take place entered begins (omega arith) in
    let more : take (place + 1) (take entered begins) ≡ take (place + 1) begins = take-take (place + 1) entered begins (omega arith) in
    let within = are.within in (
      omega (arith, low, all, within),
      front_numbered begins count size entered place table are many (omega (arith, low, all)) (subst AreInOrder front ordered),
      λ numbered. disordered (subst AreInOrder (sym more) numbered.order),
    )

-- a right number that comes next has no place yet
unused_there : (begins : List (ℕ × ℕ)) (count entered : ℕ) (table : List (Option ℕ)) → HasPlaces (take entered begins) table → (b : ℕ × ℕ)
    → slice_get (take (entered + 1) begins) entered ≡ Some b → AreNumbered count (take (entered + 1) begins)
    → (o : Option ℕ) → get_or table b.0 None ≡ o → o ≡ None
unused_there begins count entered table has b last numbered None is = refl
unused_there begins count entered table has b last numbered (Some place) is =
    let (c, at, same) = has.found b.0 place is in
    let (low, there) = of_front entered begins place c at in
    let one = numbered.apart place entered c b (in_front (entered + 1) begins place c (omega (arith, low)) there) last same in
    absurd (omega (arith, low, one))

-- a right number that comes next is free
pub free_there : (begins : List (ℕ × ℕ)) (count entered : ℕ) (table : List (Option ℕ)) → HasPlaces (take entered begins) table → length table ≡ count + 1
    → (b : ℕ × ℕ) → slice_get (take (entered + 1) begins) entered ≡ Some b → AreNumbered count (take (entered + 1) begins) → IsUnusedNumber table b.0
free_there begins count entered table has size b last numbered =
    let low = slice_get_within (take (entered + 1) begins) entered b last in
    let (above, below) = subst (λ (a : ℕ × ℕ). (1 ≤ a.0) × (a.0 ≤ count)) (get_or_from_slice_get (take (entered + 1) begins) entered b b last)
    (numbered.within entered b low) in
    record {
      above = above;
      within = omega (arith, below, size);
      unused = unused_there begins count entered table has b last numbered (get_or table b.0 None) refl;
    }

-- from the first on whose number isn't free they are wrong
pub wrong_in_number : (begins : List (ℕ × ℕ)) (count size entered : ℕ) (table : List (Option ℕ)) → AreEntered begins size entered table
    → size ≡ count + 1 → entered < length begins → AreInOrder (take entered begins) → IsFirstMisnumbered count begins entered
wrong_in_number begins count size entered table are many low ordered =
    let b = get_or begins entered (0, 0) in
    let at = slice_get-get_or begins entered (0, 0) low in
    let last : slice_get (take (entered + 1) begins) entered ≡ Some b = in_front (entered + 1) begins entered b (omega arith) at in (
      low,
      front_numbered begins count size entered entered table are many (omega arith) ordered,
      λ numbered. are.stopped b at (free_there begins count entered table are.has (are.same ∙ many) b last numbered),
    )

-- ---- of what conflicts are judged by
-- a front of right numbers is right
pub front_right : (begins : List (ℕ × ℕ)) (count k : ℕ) → AreNumbered count begins → AreNumbered count (take k begins)
front_right begins count k are =
    record {
      within = All-take (λ b. (1 ≤ b.0) × (b.0 ≤ count)) k begins are.within;
      apart = λ i j a b at there. are.apart i j a b (of_front k begins i a at).1 (of_front k begins j b there).1;
      order = λ i j a b at there. are.order i j a b (of_front k begins i a at).1 (of_front k begins j b there).1;
    }

-- where numbers are right, the table has the place of one part more
pub part_entered : (parts : List Part) (k : ℕ) (part : Part) (table new : List (Option ℕ)) (was : Bool) → AreNumbered (length parts) (part_begins parts)
    → HasPlaces (take k (part_begins parts)) table → length table ≡ length parts + 1 → slice_get parts k ≡ Some part
    → Decides was (IsUnusedNumber table part.number) → new ≡ (if was then set table part.number (Some k) else table)
    → HasPlaces (take (k + 1) (part_begins parts)) new × (length new ≡ length parts + 1)
part_entered parts k part table new was are has size stands says is =
    let begins = part_begins parts in
    let b = part_begin part in
    let at : slice_get begins k ≡ Some b = get_map part_begin parts k part stands in
    let last : slice_get (take (k + 1) begins) k ≡ Some b = in_front (k + 1) begins k b (omega arith) at in
    let free = free_there begins (length parts) k table has size b last (front_right begins (length parts) (k + 1) are) in
    let more = entered_free begins k b table new was has at says is (says.1 free) in
    (more.0, more.1 ∙ size)
