-- One seat changes, and all others stay.
use Rattle.std.proofs.Common.{◌≡◌, ◌≢◌, ℕ, Bool, false, cond, Some, None, refl, ap, sym, ◌∙◌, subst}
use Rattle.std.specs.Prelude.{nat_eq, Option, IsSome, if◌then◌else◌}
use Rattle.std.specs.Ordering.{nat_cmp, is_eq, eq_by_cmp}
use Rattle.std.specs.Cmp.{eq_by_cmp_equiv, nat_cmp_total}
use Rattle.std.specs.declared.cmp.Ordering.{Ordering}
use Rattle.std.specs.declared.cmp.Ordering.TheVariants.{Less, Equal, Greater}
use Rattle.std.specs.FinMap as map
use Rattle.std.specs.FinMap.{get-insert, get-remove}
use Rattle.std.proofs.lemmas.Map.Lookups.{exact_unsigned}
use borrow.Author.Tests.{eq-eqb, ne_eqb}
use mathlib.Core.Logic.{dite}
use native.Mathlib.Decide.{ℕ_discrete}
use Rattle.slab.specs.Slab.{Slab, get as slot_at, with_value, Updates as SlotUpdates}
use Rattle.slab.proofs.SlabLemmas.{Updates-with_value}
use Rattle.xc_sentinel.specs.declared.seat.Seat.{Seat}
use Rattle.xc_sentinel.specs.declared.seat.Slot.{Slot}
use Rattle.xc_sentinel.specs.Seated.{seat_of, seat_number, seat_at, seat_by, AreSeated}

apart : (k q : ℕ) → (k ≡ q → ⊥) → eq_by_cmp nat_cmp k q ≡ false
apart k q ne = by_order (nat_cmp k q) refl
  where
    by_order : (r : Ordering) → nat_cmp k q ≡ r → is_eq r ≡ false
    by_order Less e = refl
    by_order Equal e = absurd (ne (exact_unsigned k q e))
    by_order Greater e = refl

-- one key changes, and all others stay
pub record KeyUpdates (keys keys' : map.FinMap nat_cmp ℕ) (tx : ℕ) (w : Option ℕ) : Type 0 where
  pub changed : map.get keys' tx ≡ w
  pub others : (n : ℕ) → (n ≡ tx → ⊥) → map.get keys' n ≡ map.get keys n

-- a key put in changes one number's seat
pub key_inserted : (keys keys' : map.FinMap nat_cmp ℕ) (tx key : ℕ) → keys' ≡ map.insert keys tx key → KeyUpdates keys keys' tx (Some key)
key_inserted keys keys' tx key is =
    record {
      changed = ap (λ m. map.get m tx) is ∙ get-insert nat_cmp_total keys tx key tx
          ∙ ap (λ b. cond b (Some key) (map.get keys tx)) ((eq_by_cmp_equiv nat_cmp_total).refl tx);
      others = λ n ne. ap (λ m. map.get m n) is ∙ get-insert nat_cmp_total keys tx key n
          ∙ ap (λ b. cond b (Some key) (map.get keys n)) (apart n tx ne);
    }

-- and a key taken out leaves that number none
pub key_removed : (keys keys' : map.FinMap nat_cmp ℕ) (tx : ℕ) → keys' ≡ map.remove keys tx → KeyUpdates keys keys' tx None
key_removed keys keys' tx is =
    record {
      changed = ap (λ m. map.get m tx) is ∙ get-remove nat_cmp_total keys tx tx
          ∙ ap (λ b. cond b None (map.get keys tx)) ((eq_by_cmp_equiv nat_cmp_total).refl tx);
      others = λ n ne. ap (λ m. map.get m n) is ∙ get-remove nat_cmp_total keys tx n
          ∙ ap (λ b. cond b None (map.get keys n)) (apart n tx ne);
    }

module _ (keys keys' : map.FinMap nat_cmp ℕ) (slots slots' : Slab Slot) (tx key : ℕ) where
  -- what stays where one transaction's key and slot change
  pub record OtherSlotsStay : Type 0 where
    pub key_on : (n : ℕ) → (n ≡ tx → ⊥) → map.get keys' n ≡ map.get keys n
    pub slot_on : (k : ℕ) → k ≢ key → slot_at slots' k ≡ slot_at slots k
    pub other : (n : ℕ) → (n ≡ tx → ⊥) → map.get keys n ≡ Some key → ⊥

  slot_stays : OtherSlotsStay → (n k : ℕ) → (n ≡ tx → ⊥) → map.get keys n ≡ Some k → slot_at slots' k ≡ slot_at slots k
  slot_stays s n k ne e = s.slot_on k (λ same. s.other n ne (e ∙ ap Some same))

  seat_stays : OtherSlotsStay → (n : ℕ) → (n ≡ tx → ⊥) → seat_by keys' slots' n ≡ seat_by keys slots n
  seat_stays s n ne = ap (seat_at slots') (s.key_on n ne) ∙ by_key (map.get keys n) refl
    where
      by_key : (o : Option ℕ) → map.get keys n ≡ o → seat_at slots' o ≡ seat_at slots o
      by_key None e = refl
      by_key (Some k) e = ap seat_of (slot_stays s n k ne e)

  -- all are seated, where the one is
  pub seated : OtherSlotsStay → AreSeated keys slots → ((k : ℕ) → map.get keys' tx ≡ Some k → seat_number (slot_at slots' k) ≡ Some tx)
      → AreSeated keys' slots'
  seated s all one n k e = dite (ℕ_discrete n tx)
      (λ (here : n ≡ tx). one k (ap (map.get keys') (sym here) ∙ e) ∙ ap Some (sym here))
      (λ (ne : n ≢ tx).
      let was : map.get keys n ≡ Some k = sym (s.key_on n ne) ∙ e in
      ap seat_number (slot_stays s n k ne was) ∙ all n k was)

  -- the seat is this one, and all others stay
  pub sets : OtherSlotsStay → (seat : Option Seat) → seat_by keys' slots' tx ≡ seat
      → (n : ℕ) → seat_by keys' slots' n ≡ (if nat_eq n tx then seat else seat_by keys slots n)
  sets s seat is n = dite (ℕ_discrete n tx)
      (λ (here : n ≡ tx).
      ap (seat_by keys' slots') here ∙ is
      ∙ sym (ap (λ (b : Bool). if b then seat else seat_by keys slots n) (eq-eqb n tx here)))
      (λ (ne : n ≢ tx). seat_stays s n ne ∙ sym (ap (λ (b : Bool). if b then seat else seat_by keys slots n) (ne_eqb n tx ne)))

-- two numbers have two keys
pub two_keys : (keys : map.FinMap nat_cmp ℕ) (slots : Slab Slot) (tx key : ℕ) → AreSeated keys slots → map.get keys tx ≡ Some key
    → (n : ℕ) → (n ≡ tx → ⊥) → map.get keys n ≡ Some key → ⊥
two_keys keys slots tx key all has n ne e =
    let both : Some n ≡ Some tx = sym (all n key e) ∙ all tx key has in ne (cc both)

-- a vacant key is of no number
pub vacant_key : (keys : map.FinMap nat_cmp ℕ) (slots : Slab Slot) (tx key : ℕ) → AreSeated keys slots → slot_at slots key ≡ None
    → (n : ℕ) → (n ≡ tx → ⊥) → map.get keys n ≡ Some key → ⊥
vacant_key keys slots tx key all none n ne e =
    let h : ◌≡◌ {A = Option ℕ} None (Some n) = ap seat_number (sym none) ∙ all n key e in cc

-- ---- each call
-- a new transaction at a vacant key, where room was made
module _ (keys keys' : map.FinMap nat_cmp ℕ) (slots room slots' : Slab Slot) (tx key at : ℕ) (seat : Seat)
    (same : room ≡ record slots { capacity = room.capacity })
    (is : at ≡ key) (none : slot_at room key ≡ None) (k : KeyUpdates keys keys' tx (Some key))
    (s : SlotUpdates room slots' at (Some (record { tx = tx; seat = seat }))) (all : AreSeated keys slots) where
  room_is : (j : ℕ) → slot_at room j ≡ slot_at slots j
  room_is j = ap (λ (r : Slab Slot). slot_at r j) same

  put : slot_at slots' key ≡ Some (record { tx = tx; seat = seat })
  put = ap (slot_at slots') (sym is) ∙ s.changed

  others : OtherSlotsStay keys keys' slots slots' tx key
  others = record {
    key_on = k.others;
    slot_on = λ j ne. s.others j (λ e. ne (e ∙ is)) ∙ room_is j;
    other = vacant_key keys slots tx key all (sym (room_is key) ∙ none);
  }

  pub inserted_seated : AreSeated keys' slots'
  inserted_seated = seated keys keys' slots slots' tx key others all (λ j e.
      let same_key : key ≡ j = let both : Some key ≡ Some j = sym k.changed ∙ e in cc both in
      ap (λ n. seat_number (slot_at slots' n)) (sym same_key) ∙ ap seat_number put)

  pub inserted_sets : (n : ℕ) → seat_by keys' slots' n ≡ (if nat_eq n tx then Some seat else seat_by keys slots n)
  inserted_sets = sets keys keys' slots slots' tx key others (Some seat) (ap (seat_at slots') k.changed ∙ ap seat_of put)

-- a slot is written, whose number stays
pub seat_written : (keys : map.FinMap nat_cmp ℕ) (slots : Slab Slot) (tx key : ℕ) (seat : Seat) (slot : Slot) → AreSeated keys slots
    → map.get keys tx ≡ Some key → Some slot ≡ slot_at slots key
    → SlotUpdates slots (with_value slots key (record { tx = slot.tx; seat = seat })) key (Some (record { tx = tx; seat = seat }))
seat_written keys slots tx key seat slot all has there =
    let number : Some slot.tx ≡ Some tx = ap seat_number there ∙ all tx key has in
    let same : slot.tx ≡ tx = cc number in
    subst (λ (n : ℕ). SlotUpdates slots (with_value slots key (record { tx = slot.tx; seat = seat })) key (Some (record { tx = n; seat = seat }))) same
    (Updates-with_value slots key (record { tx = slot.tx; seat = seat }) (subst IsSome there refl))

-- a seat is written
module _ (keys : map.FinMap nat_cmp ℕ) (slots slots' : Slab Slot) (tx key : ℕ) (seat : Seat) (has : map.get keys tx ≡ Some key)
    (s : SlotUpdates slots slots' key (Some (record { tx = tx; seat = seat }))) (all : AreSeated keys slots) where
  others_kept : OtherSlotsStay keys keys slots slots' tx key
  others_kept = record { key_on = λ n ne. refl; slot_on = s.others; other = two_keys keys slots tx key all has }

  pub set_seated : AreSeated keys slots'
  set_seated = seated keys keys slots slots' tx key others_kept all (λ j e.
      let same_key : key ≡ j = let both : Some key ≡ Some j = sym has ∙ e in cc both in
      ap (λ n. seat_number (slot_at slots' n)) (sym same_key) ∙ ap seat_number s.changed)

  pub set_sets : (n : ℕ) → seat_by keys slots' n ≡ (if nat_eq n tx then Some seat else seat_by keys slots n)
  set_sets = sets keys keys slots slots' tx key others_kept (Some seat) (ap (seat_at slots') has ∙ ap seat_of s.changed)

-- a transaction goes
module _ (keys keys' : map.FinMap nat_cmp ℕ) (slots slots' : Slab Slot) (tx key : ℕ) (has : map.get keys tx ≡ Some key)
    (k : KeyUpdates keys keys' tx None) (s : SlotUpdates slots slots' key None) (all : AreSeated keys slots) where
  others_left : OtherSlotsStay keys keys' slots slots' tx key
  others_left = record { key_on = k.others; slot_on = s.others; other = two_keys keys slots tx key all has }

  pub removed_seated : AreSeated keys' slots'
  removed_seated = seated keys keys' slots slots' tx key others_left all (λ j e.
      absurd (let h : ◌≡◌ {A = Option ℕ} None (Some j) = sym k.changed ∙ e in cc))

  pub removed_sets : (n : ℕ) → seat_by keys' slots' n ≡ (if nat_eq n tx then None else seat_by keys slots n)
  removed_sets = sets keys keys' slots slots' tx key others_left None (ap (seat_at slots') k.changed)

-- a key goes
module _ (keys keys' : map.FinMap nat_cmp ℕ) (slots : Slab Slot) (tx : ℕ) (k : KeyUpdates keys keys' tx None) (all : AreSeated keys slots) where
  pub absent_seated : AreSeated keys' slots
  absent_seated n key e = dite (ℕ_discrete n tx)
      (λ (here : n ≡ tx). absurd (let h : ◌≡◌ {A = Option ℕ} None (Some key) = sym k.changed ∙ ap (map.get keys') (sym here) ∙ e in let bad : ⊥ = cc h in bad))
      (λ (ne : n ≢ tx). all n key (sym (k.others n ne) ∙ e))

  pub absent_sets : (n : ℕ) → seat_by keys' slots n ≡ (if nat_eq n tx then None else seat_by keys slots n)
  absent_sets n = dite (ℕ_discrete n tx)
      (λ (here : n ≡ tx). ap (seat_at slots) (ap (map.get keys') here ∙ k.changed)
      ∙ sym (ap (λ (b : Bool). if b then None else seat_by keys slots n) (eq-eqb n tx here)))
      (λ (ne : n ≢ tx). ap (seat_at slots) (k.others n ne) ∙ sym (ap (λ (b : Bool). if b then None else seat_by keys slots n) (ne_eqb n tx ne)))
