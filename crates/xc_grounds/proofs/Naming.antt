-- The transaction that a conflict or a revocation names, found by its number.
use Rattle.std.proofs.Common.{◌≡◌, inl, inr, ℕ, ◌<◌, ◌≤◌, Bool, List, ◌++◌, length, refl, ap, sym, ◌∙◌, subst, get_or}
use Rattle.std.specs.Prelude.{Option, slice_get}
use Rattle.std.specs.Bool.{Decides}
use Rattle.std.specs.declared.option.Option.TheVariants.{None, Some}
use Rattle.std.proofs.lemmas.Option.{slice_get_read, slice_get_within}
use Rattle.xc_data.specs.declared.object.Object.{Object}
use Rattle.xc_data.proofs.Laws.{get_map}
use Rattle.xc_model.specs.Grounds.{Ground, Other, Part, Revocation}
use Rattle.xc_grounds.specs.Groundless.{AreTwo, IsNamed, ClashesOver, blame, mention, scene}
use Rattle.xc_grounds.specs.Numbered.{part_begin, part_begins}
use Rattle.xc_grounds.specs.Places.{HasPlaces}
use Rattle.xc_grounds.proofs.Fronts.{of_image}

-- ---- by the table
module _ (parts : List Part) (table : List (Option ℕ)) (has : HasPlaces (part_begins parts) table) where
  -- at a number's place stands the one of this number
  pub stands_there : (number there : ℕ) → get_or table number None ≡ Some there → (who : Part) × (slice_get parts there ≡ Some who) × (who.number ≡ number)
  stands_there number there found =
      let (b, at, is) = has.found number there found in
      let (who, stands, same) = of_image part_begin parts there b at in
      (who, stands, ap (λ (c : ℕ × ℕ). c.0) same ∙ is)

  -- its place is within the list
  pub place_within : (number there : ℕ) → get_or table number None ≡ Some there → there < length parts
  place_within number there found =
      let (who, stands, is) = stands_there number there found in slice_get_within parts there who stands

  -- one that stands somewhere has its number's place
  pub place_of : (there : ℕ) (who : Part) → slice_get parts there ≡ Some who → get_or table who.number None ≡ Some there
  place_of there who stands = has.there there (part_begin who) (get_map part_begin parts there who stands)

  -- two that are named by one number are one
  pub named_once : (place number at : ℕ) (e a b : Part) → IsNamed parts place e (mention number at) a → IsNamed parts place e (mention number at) b → a ≡ b
  named_once place number at e a b one two =
      let first = place_of one.there a one.stands in
      let second = place_of two.there b two.stands in
      let number : get_or table a.number None ≡ get_or table b.number None = ap (λ n. get_or table n None) (one.numbered ∙ sym two.numbered) in
      let place : one.there ≡ two.there = cc (first, second, number) in
      let both : slice_get parts one.there ≡ slice_get parts two.there = ap (slice_get parts) place in
      let stands = one.stands in
      let stood = two.stands in
      cc (stands, stood, both)

  -- where a number has no place none is named
  pub none_named : (place number at : ℕ) (e who : Part) → get_or table number None ≡ None → IsNamed parts place e (mention number at) who → ⊥
  none_named place number at e who none named =
      let there = place_of named.there who named.stands in
      let same : get_or table who.number None ≡ get_or table number None = ap (λ n. get_or table n None) named.numbered in
      cc (there, same, none)

  -- what stands at a number's place
  stands_so : (number there : ℕ) (who : Part) → get_or table number None ≡ Some there → who ≡ get_or parts there who
      → (slice_get parts there ≡ Some who) × (who.number ≡ number)
  stands_so number there who found is =
      let (w, stands, same) = stands_there number there found in
      let here = slice_get_read parts (length parts) there who refl (slice_get_within parts there w stands) is in
      let one : who ≡ w = cc (here, stands) in
      (here, ap (λ (p : Part). p.number) one ∙ same)

  -- the one at a number's place is named, where the two had begun and hadn't ended
  pub named_there : (place number at there : ℕ) (e who : Part) → get_or table number None ≡ Some there → who ≡ get_or parts there who
      → AreTwo e place who there at → IsNamed parts place e (mention number at) who
  named_there place number at there e who found is two =
      let (stands, numbered) = stands_so number there who found is in
      record {
        there = there;
        stands = stands;
        numbered = numbered;
        two = two;
      }

  -- no other is
  pub named_only : (place number at there : ℕ) (e who : Part) → get_or table number None ≡ Some there → who ≡ get_or parts there who
      → (AreTwo e place who there at → ⊥) → (w : Part) → IsNamed parts place e (mention number at) w → ⊥
  named_only place number at there e who found is never w named =
      let (stands, numbered) = stands_so number there who found is in
      let its = place_of named.there w named.stands in
      let same : get_or table w.number None ≡ get_or table number None = ap (λ n. get_or table n None) named.numbered in
      let here : named.there ≡ there = cc (its, same, found) in
      let at_one : slice_get parts named.there ≡ slice_get parts there = ap (slice_get parts) here in
      let stood = named.stands in
      let one : w ≡ who = cc (stands, stood, at_one) in
      never (subst (λ p. AreTwo e place who p at) here (subst (λ v. AreTwo e place v named.there at) one named.two))

-- ---- what names it
module _ (known : Bool) (parts : List Part) (place : ℕ) (e : Part) (object : Object) (number at : ℕ) where
  -- the other transaction is the one that is named
  named_of : (o : Other (scene known parts) number at e.job) → e.began ≤ at → at ≤ place → IsNamed parts place e (mention number at) o.who
  named_of o before within =
      elim o.present [
        | inl (p, stands, later) ↦
            record {
              there = p;
              stands = stands;
              numbered = o.numbered;
              two = record { before = before; within = within; began = o.began; present = later; other = o.other };
            }
        | inr (j, none) ↦ cc none
      ]

  -- and the one that is named is the other
  other_of : (who : Part) → IsNamed parts place e (mention number at) who → Other (scene known parts) number at e.job
  other_of who named =
      record {
        who = who;
        present = inl (named.there, named.stands, named.two.present);
        numbered = named.numbered;
        other = named.two.other;
        began = named.two.began;
      }

  -- a conflict names a holder, and a holder that is named makes a conflict
  pub of_conflict : Ground (scene known parts) place e (blame object number at)
      → (who : Part) × IsNamed parts place e (mention number at) who × ClashesOver known who.held e.wanted object
  of_conflict g =
      (g.named.who, named_of g.named g.before g.within, (g.holds.claim, g.holds.names, (g.holds.among, g.clash)))

  pub to_conflict : (who : Part) → IsNamed parts place e (mention number at) who → ClashesOver known who.held e.wanted object
      → Ground (scene known parts) place e (blame object number at)
  unfolding other_of
  to_conflict who named (claim, names, meets) =
      record {
        before = named.two.before;
        within = named.two.within;
        named = other_of who named;
        holds = record { claim = claim; names = names; among = meets.0 };
        clash = meets.1;
      }

  -- a revocation names an older one, and an older one that is named makes a revocation
  pub of_revocation : Revocation (scene known parts) place e (blame object number at)
      → (who : Part) × IsNamed parts place e (mention number at) who × ((who.rank < e.rank) × ClashesOver known e.held (who.held ++ who.wanted) object)
  of_revocation g =
      (g.named.who, named_of g.named g.before g.within, (g.older, (g.holds.claim, g.holds.names, (g.holds.among, g.clash))))

  pub to_revocation : (who : Part) → IsNamed parts place e (mention number at) who
      → (who.rank < e.rank) × ClashesOver known e.held (who.held ++ who.wanted) object → Revocation (scene known parts) place e (blame object number at)
  unfolding other_of
  to_revocation who named (older, (claim, names, meets)) =
      record {
        before = named.two.before;
        within = named.two.within;
        named = other_of who named;
        older = older;
        holds = record { claim = claim; names = names; among = meets.0 };
        clash = meets.1;
      }

-- with the one that is named it is decided whether there is a conflict
pub conflict_decided : (known : Bool) (parts : List Part) (table : List (Option ℕ)) → HasPlaces (part_begins parts) table
    → (place number at : ℕ) (e who : Part) (object : Object) (r : Bool) → IsNamed parts place e (mention number at) who
    → Decides r (ClashesOver known who.held e.wanted object) → Decides r (Ground (scene known parts) place e (blame object number at))
conflict_decided known parts table has place number at e who object r named says = (
  λ holds. to_conflict known parts place e object number at who named (says.0 holds),
  λ ground.
      let (w, its, meets) = of_conflict known parts place e object number at ground in
      says.1 (subst (λ (v : Part). ClashesOver known v.held e.wanted object) (named_once parts table has place number at e w who its named) meets),
)

-- without one there is no conflict
pub no_conflict : (known : Bool) (parts : List Part) (place number at : ℕ) (e : Part) (object : Object)
    → ((who : Part) → IsNamed parts place e (mention number at) who → ⊥) → Ground (scene known parts) place e (blame object number at) → ⊥
no_conflict known parts place number at e object none ground =
    let (w, its, meets) = of_conflict known parts place e object number at ground in none w its

-- the same of a revocation
pub revocation_decided : (known : Bool) (parts : List Part) (table : List (Option ℕ)) → HasPlaces (part_begins parts) table
    → (place number at : ℕ) (e who : Part) (object : Object) (r : Bool) → IsNamed parts place e (mention number at) who
    → Decides r ((who.rank < e.rank) × ClashesOver known e.held (who.held ++ who.wanted) object)
    → Decides r (Revocation (scene known parts) place e (blame object number at))
revocation_decided known parts table has place number at e who object r named says = (
  λ holds. to_revocation known parts place e object number at who named (says.0 holds),
  λ revoked.
      let (w, its, meets) = of_revocation known parts place e object number at revoked in
      says.1 (subst (λ (v : Part). (v.rank < e.rank) × ClashesOver known e.held (v.held ++ v.wanted) object)
      (named_once parts table has place number at e w who its named) meets),
)

-- without one there is no revocation
pub no_revocation : (known : Bool) (parts : List Part) (place number at : ℕ) (e : Part) (object : Object)
    → ((who : Part) → IsNamed parts place e (mention number at) who → ⊥) → Revocation (scene known parts) place e (blame object number at) → ⊥
no_revocation known parts place number at e object none revoked =
    let (w, its, meets) = of_revocation known parts place e object number at revoked in none w its
