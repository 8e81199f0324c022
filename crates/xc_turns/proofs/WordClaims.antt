-- Words that are held: what claims more hold, and that an owner is alone.
use Rattle.std.proofs.Common.{◌≡◌, ◌≢◌, ℕ, ◌<◌, ◌||◌, inl, inr, Bool, true, false, Some, None, List, [], ◌∷◌, ◌++◌, map, refl, ap, sym, ◌∙◌}
use Rattle.std.proofs.Common.{subst, arith}
use Rattle.std.specs.Prelude.{Contains, nat_eq, nat_le, if◌then◌else◌}
use Rattle.std.specs.List.{cons_option}
use Rattle.std.proofs.lemmas.Bool.{eqb-true, leb-true, or_left, or_right}
use Rattle.std.proofs.lemmas.List.Folds.{list_any-append}
use Rattle.std.proofs.lemmas.Map.Views.{Contains-from_any}
use Rattle.xc_data.specs.declared.call.Call.{Call}
use Rattle.xc_data.specs.declared.call.Call.TheVariants.{Load, Store}
use Rattle.xc_data.specs.declared.claim.Claim.{Claim}
use Rattle.xc_data.specs.declared.claim.Mode.{Mode}
use Rattle.xc_data.specs.declared.claim.Mode.TheVariants.{Shared, Exclusive}
use Rattle.xc_data.specs.declared.object.Object.{Object}
use Rattle.xc_data.specs.declared.object.Object.TheVariants as object
use Rattle.xc_data.specs.declared.private.Private.{Private}
use Rattle.xc_data.specs.Claims.{is_object, claim, is_exclusive, exclusive, compatible, objects, owned, stronger, merged, holding_one, holding}
use Rattle.xc_world.specs.Modes.{mode_of, claims_of}
use Rattle.xc_world.specs.Own.{Sees, Owns}
use Rattle.xc_world.proofs.Laws.{objects_append, owned_append, contains_object, found}
use Rattle.xc_data.proofs.Laws.{same_object}
use Rattle.xc_model.specs.Moment.{TxView, JobView}
use Rattle.xc_model.specs.Movers.{IsActiveAt}
use Rattle.xc_model.specs.Rivals.{HasNoRival}
use Rattle.xc_model.specs.Holding.{AreApart}
use Rattle.xc_model.specs.Words.{speaks_of, stores_to}
use Rattle.xc_turns.proofs.Lists.{contains_first, contains_later}
use Rattle.xc_turns.proofs.HeldClaims.{objects_merged}

-- ---- one claim more
merged_object_if : (new h : Claim) (b : Bool) → (if b then record h { mode = stronger h.mode new.mode } else h).object ≡ h.object
merged_object_if new h true = refl
merged_object_if new h false = refl

seen_still_one : (held : List Claim) (new : Claim) (o : Object) → contains_object (objects held) o ≡ true
    → contains_object (objects (holding_one held new)) o ≡ true
seen_still_one held new o is = by_test (contains_object (objects held) new.object)
  where
    by_test : (b : Bool) → contains_object (objects (if b then map (merged new) held else held ++ new ∷ [])) o ≡ true
    by_test true = ap (λ l. contains_object l o) (objects_merged new held) ∙ is
    by_test false = ap (λ l. contains_object l o) (objects_append held (new ∷ [])) ∙ list_any-append (is_object o) (objects held) (new.object ∷ [])
        ∙ or_left (contains_object (objects held) o) (contains_object (new.object ∷ []) o) is

stronger_first : (m n : Mode) → is_exclusive m ≡ true → is_exclusive (stronger m n) ≡ true
stronger_first Exclusive n is = refl
stronger_first Shared n is = cc is

stronger_later : (m n : Mode) → is_exclusive n ≡ true → is_exclusive (stronger m n) ≡ true
stronger_later Exclusive n is = refl
stronger_later Shared n is = is

merged_exclusive : (new h : Claim) (b : Bool) → exclusive h ≡ true → exclusive (if b then record h { mode = stronger h.mode new.mode } else h) ≡ true
merged_exclusive new h true is = stronger_first h.mode new.mode is
merged_exclusive new h false is = is

-- a claim in front that owns no less, before claims that own no less
kept_in_front : (h k o : Object) (os ps : List Object) (b d : Bool) → k ≡ h → (b ≡ true → d ≡ true)
    → (contains_object os o ≡ true → contains_object ps o ≡ true)
    → contains_object (cons_option (if b then Some h else None) os) o ≡ true → contains_object (cons_option (if d then Some k else None) ps) o ≡ true
kept_in_front h k o os ps true true same more later is = by_test (is_object o h) refl is
  where
    by_test : (t : Bool) → is_object o h ≡ t → (t || contains_object os o) ≡ true → (is_object o k || contains_object ps o) ≡ true
    by_test true e is = or_left (is_object o k) (contains_object ps o) (ap (is_object o) same ∙ e)
    by_test false e is = or_right (is_object o k) (contains_object ps o) (later is)
kept_in_front h k o os ps true false same more later is = let no : false ≡ true = more refl in cc no
kept_in_front h k o os ps false true same more later is = or_right (is_object o k) (contains_object ps o) (later is)
kept_in_front h k o os ps false false same more later is = later is

owned_still_merged : (new : Claim) (held : List Claim) (o : Object) → contains_object (owned held) o ≡ true
    → contains_object (owned (map (merged new) held)) o ≡ true
owned_still_merged new [] o is = is
owned_still_merged new (h ∷ held) o is =
    kept_in_front h.object (merged new h).object o (owned held) (owned (map (merged new) held)) (exclusive h) (exclusive (merged new h))
    (merged_object_if new h (is_object new.object h.object)) (merged_exclusive new h (is_object new.object h.object))
    (owned_still_merged new held o) is

owned_still_one : (held : List Claim) (new : Claim) (o : Object) → contains_object (owned held) o ≡ true
    → contains_object (owned (holding_one held new)) o ≡ true
owned_still_one held new o is = by_test (contains_object (objects held) new.object)
  where
    by_test : (b : Bool) → contains_object (owned (if b then map (merged new) held else held ++ new ∷ [])) o ≡ true
    by_test true = owned_still_merged new held o is
    by_test false = ap (λ l. contains_object l o) (owned_append held (new ∷ [])) ∙ list_any-append (is_object o) (owned held) (owned (new ∷ []))
        ∙ or_left (contains_object (owned held) o) (contains_object (owned (new ∷ [])) o) is

-- ---- the new one is held
itself : (o : Object) → is_object o o ≡ true
itself o = by_any (is_object o o) refl (found (o ∷ []) o (0, omega arith, refl))
  where
    by_any : (b : Bool) → is_object o o ≡ b → (b || false) ≡ true → is_object o o ≡ true
    by_any true e is = e
    by_any false e is = cc is

seen_one : (held : List Claim) (new : Claim) → contains_object (objects (holding_one held new)) new.object ≡ true
seen_one held new = by_test (contains_object (objects held) new.object) refl
  where
    by_test : (b : Bool) → contains_object (objects held) new.object ≡ b
        → contains_object (objects (if b then map (merged new) held else held ++ new ∷ [])) new.object ≡ true
    by_test true e = ap (λ l. contains_object l new.object) (objects_merged new held) ∙ e
    by_test false e = ap (λ l. contains_object l new.object) (objects_append held (new ∷ []))
        ∙ list_any-append (is_object new.object) (objects held) (new.object ∷ [])
        ∙ or_right (contains_object (objects held) new.object) (contains_object (new.object ∷ []) new.object)
        (or_left (is_object new.object new.object) false (itself new.object))

owned_in_front : (h o : Object) (os : List Object) (b : Bool) → b ≡ true → is_object o h ≡ true
    → contains_object (cons_option (if b then Some h else None) os) o ≡ true
owned_in_front h o os true is same = or_left (is_object o h) (contains_object os o) same
owned_in_front h o os false is same = cc is

owned_behind : (h o : Object) (os : List Object) (b : Bool) → contains_object os o ≡ true
    → contains_object (cons_option (if b then Some h else None) os) o ≡ true
owned_behind h o os true is = or_right (is_object o h) (contains_object os o) is
owned_behind h o os false is = is

owned_merged : (new : Claim) (held : List Claim) → exclusive new ≡ true → contains_object (objects held) new.object ≡ true
    → contains_object (owned (map (merged new) held)) new.object ≡ true
owned_merged new [] alone is = is
owned_merged new (h ∷ held) alone is = by_test (is_object new.object h.object) refl is (owned_merged new held alone)
  where
    by_test : (b : Bool) → is_object new.object h.object ≡ b → (b || contains_object (objects held) new.object) ≡ true
        → (contains_object (objects held) new.object ≡ true → contains_object (owned (map (merged new) held)) new.object ≡ true)
        → (let k = if b then record h { mode = stronger h.mode new.mode } else h in
        contains_object (cons_option (if exclusive k then Some k.object else None) (owned (map (merged new) held))) new.object ≡ true)
    by_test true e is later = owned_in_front h.object new.object (owned (map (merged new) held)) (is_exclusive (stronger h.mode new.mode))
        (stronger_later h.mode new.mode alone) e
    by_test false e is later = owned_behind h.object new.object (owned (map (merged new) held)) (exclusive h) (later is)

-- what is claimed exclusively is owned
pub owned_one : (held : List Claim) (new : Claim) → exclusive new ≡ true → contains_object (owned (holding_one held new)) new.object ≡ true
owned_one held new alone = by_test (contains_object (objects held) new.object) refl
  where
    by_test : (b : Bool) → contains_object (objects held) new.object ≡ b
        → contains_object (owned (if b then map (merged new) held else held ++ new ∷ [])) new.object ≡ true
    by_test true e = owned_merged new held alone e
    by_test false e =
        ap (λ l. contains_object l new.object) (owned_append held (new ∷ [])) ∙ list_any-append (is_object new.object) (owned held) (owned (new ∷ []))
        ∙ or_right (contains_object (owned held) new.object) (contains_object (owned (new ∷ [])) new.object)
        (owned_in_front new.object new.object [] (exclusive new) alone (itself new.object))

-- ---- all claims
seen_still : (held claims : List Claim) (o : Object) → contains_object (objects held) o ≡ true → contains_object (objects (holding held claims)) o ≡ true
seen_still held [] o is = is
seen_still held (c ∷ claims) o is = seen_still (holding_one held c) claims o (seen_still_one held c o is)

-- what was owned still is
pub owned_still : (held claims : List Claim) (o : Object) → contains_object (owned held) o ≡ true → contains_object (owned (holding held claims)) o ≡ true
owned_still held [] o is = is
owned_still held (c ∷ claims) o is = owned_still (holding_one held c) claims o (owned_still_one held c o is)

-- with claims more a transaction sees what it saw
pub sees_still : (tx : ℕ) (held claims : List Claim) (o : Object) → Sees tx held o → Sees tx (holding held claims) o
sees_still tx held claims o (inl at) =
    inl (Contains-from_any same_object o (objects (holding held claims)) (seen_still held claims o (found (objects held) o at)))
sees_still tx held claims o (inr numbered) = inr numbered

-- and owns what it owned
pub owns_still : (tx : ℕ) (held claims : List Claim) (o : Object) → Owns tx held o → Owns tx (holding held claims) o
owns_still tx held claims o (inl at) =
    inl (Contains-from_any same_object o (owned (holding held claims)) (owned_still held claims o (found (owned held) o at)))
owns_still tx held claims o (inr numbered) = inr numbered

-- it sees what it claims
pub sees_claimed : (tx : ℕ) (held : List Claim) (m : Mode) (o : Object) → Sees tx (holding held (claim m o ∷ [])) o
sees_claimed tx held m o = inl (Contains-from_any same_object o (objects (holding_one held (claim m o))) (seen_one held (claim m o)))

-- and owns what it claims exclusively
pub owns_claimed : (tx : ℕ) (held : List Claim) (o : Object) → Owns tx (holding held (claim Exclusive o ∷ [])) o
owns_claimed tx held o = inl (Contains-from_any same_object o (owned (holding_one held (claim Exclusive o))) (owned_one held (claim Exclusive o) refl))

-- ---- who holds
-- a claim among these is on the object
abbrev pub HoldsIt : List Claim → Object → Type 0
HoldsIt held o = (d : Claim) × Contains held d × (d.object ≡ o)

-- an exclusive claim is
abbrev pub OwnsIt : List Claim → Object → Type 0
OwnsIt held o = (d : Claim) × Contains held d × (d.object ≡ o) × (d.mode ≡ Exclusive)

held_further : (c : Claim) (cs : List Claim) (o : Object) → HoldsIt cs o → HoldsIt (c ∷ cs) o
held_further c cs o h = (h.0, contains_later c cs h.0 h.1, h.2)

owned_further : (c : Claim) (cs : List Claim) (o : Object) → OwnsIt cs o → OwnsIt (c ∷ cs) o
owned_further c cs o h = (h.0, contains_later c cs h.0 h.1, h.2, h.3)

holder_of : (held : List Claim) (o : Object) → contains_object (objects held) o ≡ true → HoldsIt held o
holder_of [] o is = cc is
holder_of (c ∷ held) o is = by_test (is_object o c.object) refl is (λ later. held_further c held o (holder_of held o later))
  where
    by_test : (b : Bool) → is_object o c.object ≡ b → (b || contains_object (objects held) o) ≡ true
        → (contains_object (objects held) o ≡ true → HoldsIt (c ∷ held) o)
        → HoldsIt (c ∷ held) o
    by_test true e is later = (c, contains_first c held, sym (same_object o c.object e))
    by_test false e is later = later is

exclusive_mode : (m : Mode) → is_exclusive m ≡ true → m ≡ Exclusive
exclusive_mode Exclusive is = refl
exclusive_mode Shared is = cc is

-- what is owned is claimed exclusively
pub owner_of : (held : List Claim) (o : Object) → contains_object (owned held) o ≡ true → OwnsIt held o
owner_of [] o is = cc is
owner_of (c ∷ held) o is = by_mode (exclusive c) refl is (λ later. owned_further c held o (owner_of held o later))
  where
    by_test : (b : Bool) → exclusive c ≡ true → is_object o c.object ≡ b → (b || contains_object (owned held) o) ≡ true
        → (contains_object (owned held) o ≡ true → OwnsIt (c ∷ held) o) → OwnsIt (c ∷ held) o
    by_test true alone e is later = (c, contains_first c held, sym (same_object o c.object e), exclusive_mode c.mode alone)
    by_test false alone e is later = later is

    by_mode : (b : Bool) → exclusive c ≡ b → contains_object (cons_option (if b then Some c.object else None) (owned held)) o ≡ true
        → (contains_object (owned held) o ≡ true → OwnsIt (c ∷ held) o) → OwnsIt (c ∷ held) o
    by_mode true e is later = by_test (is_object o c.object) e refl is later
    by_mode false e is later = later is

owned_seen : (cs : List Claim) (o : Object) → contains_object (owned cs) o ≡ true → contains_object (objects cs) o ≡ true
owned_seen [] o is = is
owned_seen (c ∷ cs) o is =
    kept_in_front c.object c.object o (owned cs) (objects cs) (exclusive c) true refl (λ _. refl) (owned_seen cs o) is

-- nothing goes together with an exclusive claim
pub alone_first : (m : Mode) → compatible Exclusive m ≡ true → ⊥
alone_first Shared e = cc e
alone_first Exclusive e = cc e

with_owner : (m : Mode) → compatible m Exclusive ≡ false
with_owner Shared = refl
with_owner Exclusive = refl

-- ---- words
-- a call on a word in range claims it
claimed_word : (m : Mode) (count i word : ℕ) (b : Bool) → nat_le count i ≡ b → word < count → nat_eq i word ≡ true
    → map (claim m) (if b then [] else object.Word i ∷ []) ≡ claim m (object.Word word) ∷ []
claimed_word m count i word true past lt is =
    let le = leb-true count i past in
    let same = eqb-true i word is in
    absurd (omega (arith, le, same))
claimed_word m count i word false past lt is = ap (λ k. claim m (object.Word k) ∷ []) (eqb-true i word is)

-- the claims of a call that speaks of a word in range
pub word_claims : (c : Call) (me : Private) (count word : ℕ) → word < count → speaks_of word c ≡ true
    → claims_of c me count ≡ claim (mode_of c) (object.Word word) ∷ []
word_claims (Load i) me count word lt is = claimed_word Shared count i word (nat_le count i) refl lt is
word_claims (Store i x) me count word lt is = claimed_word Exclusive count i word (nat_le count i) refl lt is
word_claims _ me count word lt is = cc is

-- a store speaks of its word, and claims it exclusively
pub stores_speaks : (c : Call) (word : ℕ) → stores_to word c ≡ true → (speaks_of word c ≡ true) × (mode_of c ≡ Exclusive)
stores_speaks (Store i x) word is = (is, refl)
stores_speaks _ word is = cc is

-- what a word's owner has, it holds exclusively
pub word_owner : (tx : ℕ) (held : List Claim) (word : ℕ) → Owns tx held (object.Word word) → OwnsIt held (object.Word word)
word_owner tx held word (inl at) = owner_of held (object.Word word) (found (owned held) (object.Word word) at)
word_owner tx held word (inr numbered) = absurd numbered

word_holder : (tx : ℕ) (held : List Claim) (word : ℕ) → Sees tx held (object.Word word) → HoldsIt held (object.Word word)
word_holder tx held word (inl at) = holder_of held (object.Word word) (found (objects held) (object.Word word) at)
word_holder tx held word (inr numbered) = absurd numbered

-- a word's owner sees it
pub owner_sees : (tx : ℕ) (held : List Claim) (word : ℕ) → Owns tx held (object.Word word) → Sees tx held (object.Word word)
owner_sees tx held word (inl at) =
    inl (Contains-from_any same_object (object.Word word) (objects held) (owned_seen held (object.Word word) (found (owned held) (object.Word word) at)))
owner_sees tx held word (inr numbered) = inr numbered

-- nobody else sees a word that one owns
pub owner_is_alone : (jobs : List JobView) (i j : ℕ) (t u : TxView) (word : ℕ) → AreApart jobs → i ≢ j → IsActiveAt jobs i t → IsActiveAt jobs j u
    → Owns t.number t.held (object.Word word) → Sees u.number u.held (object.Word word) → ⊥
owner_is_alone jobs i j t u word apart ne active other owns sees =
    both (word_owner t.number t.held word owns) (word_holder u.number u.held word sees)
  where
    both : OwnsIt t.held (object.Word word) → HoldsIt u.held (object.Word word) → ⊥
    both a b = alone_first b.0.mode (subst (λ m. compatible m b.0.mode ≡ true) a.3 (apart.together i j t u ne active other a.0 b.0 a.1 b.1 (a.2 ∙ sym b.2)))

-- nobody else owns a word where a claim on it has no rival
pub unowned : (jobs : List JobView) (at j : ℕ) (u : TxView) (m : Mode) (word : ℕ) → HasNoRival jobs at (claim m (object.Word word)) → j ≢ at
    → IsActiveAt jobs j u → Owns u.number u.held (object.Word word) → ⊥
unowned jobs at j u m word free ne active owns = by_claim (word_owner u.number u.held word owns)
  where
    by_claim : OwnsIt u.held (object.Word word) → ⊥
    by_claim d = free j u ne active (d.0, d.1, (d.2, subst (λ n. compatible m n ≡ false) (sym d.3) (with_owner m)))
