-- What a release gives.
use Rattle.std.proofs.Common.{◌≡◌, ◌<◌, ◌≤◌, ◌+◌, ℕ, Bool, true, false, cond, ◌||◌, Option, Some, None, List, [], ◌∷◌, ◌++◌, map, refl, ap, ap₂, sym, ◌∙◌}
use Rattle.std.proofs.Common.{length, take, drop, get_or, drop-cons, add-one, arith}
use Rattle.std.specs.Prelude.{All, if◌then◌else◌, option_map}
use Rattle.std.specs.List.{fold, cons_option}
use Rattle.std.proofs.Math.Bool.{or-false}
use Rattle.std.proofs.lemmas.List.{append-nil, map-append}
use Rattle.std.proofs.lemmas.List.Elements.{All-head, All-tail, filter_map-append}
use Rattle.std.proofs.lemmas.List.Sums.{fold-append}
use Rattle.xc_data.specs.declared.object.Object.{Object}
use Rattle.xc_data.specs.declared.claim.Mode.{Mode}
use Rattle.xc_data.specs.declared.claim.Claim.{Claim}
use Rattle.xc_data.specs.Claims.{claim, is_object, merged, holding_one, objects}
use Rattle.xc_data.specs.Step.{Step}
use Rattle.xc_locks.specs.Released.{with_one, each_once, claims_on}
use Rattle.xc_locks.specs.Table.{Table, KeepsOthers, has, held_mode, set_mode}
use Rattle.xc_locks.proofs.Claimed.{is_object-swap, rest-cons, take-more, without}
use Rattle.xc_locks.proofs.Held.{merged_object}
use Rattle.xc_locks.proofs.Modes.{mode_of-set, mode_of-set_other}
use Rattle.xc_data.proofs.Laws.{same_object}
use Rattle.xc_locks.proofs.Places.{has-append, or_last}

-- ---- objects, each once
-- the objects of what is held after a claim
merged_objects : (c : Claim) (held : List Claim) → objects (map (merged c) held) ≡ objects held
merged_objects c [] = refl
merged_objects c (h ∷ hs) =
    ap (λ o. o ∷ objects (map (merged c) hs)) (merged_object c h (is_object c.object h.object) refl) ∙ ap (λ os. h.object ∷ os) (merged_objects c hs)

-- after one claim, and after several
pub one_objects : (held : List Claim) (c : Claim) → objects (holding_one held c) ≡ with_one (objects held) c.object
one_objects held c = by (has (objects held) c.object)
  where
    by : (b : Bool) → objects (if b then map (merged c) held else held ++ c ∷ []) ≡ (if b then objects held else objects held ++ c.object ∷ [])
    by true = merged_objects c held
    by false = map-append (λ (d : Claim). d.object) held (c ∷ [])

-- an object after others adds itself alone
with_has : (os : List Object) (p o : Object) (b : Bool) → has os p ≡ b → has (if b then os else os ++ p ∷ []) o ≡ (has os o || has (p ∷ []) o)
with_has os p o true there = by (is_object o p) refl
  where
    by : (x : Bool) → is_object o p ≡ x → has os o ≡ (has os o || (x || false))
    by true is = ap (has os) (same_object o p is) ∙ there ∙ sym (or_last (has os o))
    by false is = sym (or-false (has os o))
with_has os p o false lacks = has-append os (p ∷ []) o

-- objects after others add themselves alone
fold_has : (os ps : List Object) (o : Object) → has (fold with_one os ps) o ≡ (has os o || has ps o)
fold_has os [] o = sym (or-false (has os o))
fold_has os (p ∷ ps) o =
    fold_has (with_one os p) ps o ∙ ap (λ b. b || has ps o) (with_has os p o (has os p) refl) ∙ regroup (has os o) (is_object o p) (has ps o)
  where
    regroup : (a b c : Bool) → ((a || (b || false)) || c) ≡ (a || (b || c))
    regroup true b c = refl
    regroup false true c = refl
    regroup false false c = refl

-- a list has what it has with each object once
pub once_has : (os : List Object) (o : Object) → has (each_once os) o ≡ has os o
once_has os o = fold_has [] os o

-- ---- the claims on objects
-- claims in these modes are those on their objects
pub same_claims : (modes : Object → Option Mode) (held : List Claim) → All (λ (h : Claim). modes h.object ≡ Some h.mode) held
    → claims_on modes (objects held) ≡ held
same_claims modes [] all = refl
same_claims modes (h ∷ hs) all =
    let P : Claim → Type 0 = λ h. modes h.object ≡ Some h.mode in
    ap (λ m. cons_option (option_map (λ m. claim m h.object) m) (claims_on modes (objects hs))) (All-head P h hs all)
    ∙ ap (λ cs. h ∷ cs) (same_claims modes hs (All-tail P h hs all))

-- the claim on an object in a mode, where there is one
abbrev pub claim_in : Option Mode → Object → List Claim
claim_in m o = cons_option (option_map (λ m. claim m o) m) []

-- an object more adds its claim, where it is new and held
claims_more : (modes : Object → Option Mode) (os : List Object) (p : Object)
    → claims_on modes (each_once (os ++ p ∷ [])) ≡ claims_on modes (each_once os) ++ claim_in (cond (has os p) None (modes p)) p
claims_more modes os p =
    ap (claims_on modes) (fold-append with_one [] os (p ∷ [])) ∙ by (has os p) (once_has os p)
  where
    by : (b : Bool) → has (each_once os) p ≡ b
        → claims_on modes (with_one (each_once os) p) ≡ claims_on modes (each_once os) ++ claim_in (cond b None (modes p)) p
    by true e = ap (λ (b : Bool). claims_on modes (if b then each_once os else each_once os ++ p ∷ [])) e ∙ sym (append-nil (claims_on modes (each_once os)))
    by false e =
        ap (λ (b : Bool). claims_on modes (if b then each_once os else each_once os ++ p ∷ [])) e
        ∙ filter_map-append (λ o. option_map (λ m. claim m o) (modes o)) (each_once os) (p ∷ [])

-- ---- the loop over the claims
-- the objects of the claims so far are taken out of the table, each is kept once in the front, and the claims after stand as they were
pub record Taking (tx : ℕ) (table : Step Table) (claims : Step (List Claim)) (at count : ℕ) : Type 0 where
  pub kept : take count claims.new ≡ claims_on (held_mode table.old tx) (each_once (objects (take at claims.old)))
  pub own : (o : Object) → held_mode table.new tx o ≡ cond (has (objects (take at claims.old)) o) None (held_mode table.old tx o)
  pub others : KeepsOthers tx table.old table.new
  pub rest : drop at claims.new ≡ drop at claims.old
  pub behind : count ≤ at
  pub same_length : length claims.new ≡ length claims.old

module _ (tx : ℕ) (was now : Table) (log items : List Claim) (at count : ℕ)
    (t : Taking tx (record { old = was; new = now }) (record { old = log; new = items }) at count) (c : Claim)
    (within : at < length items) (is : c ≡ get_or items at c) where
  -- the claim is the log's next one, and after it all stands as it was
  both : c ∷ drop (at + 1) items ≡ get_or log at c ∷ drop (at + 1) log
  both = sym (rest-cons items at c within is) ∙ t.rest ∙ rw add-one (drop-cons log at c (omega (arith, t.same_length)))

  is_next : c ≡ get_or log at c
  is_next = let e = both in cc

  rest_next : drop (at + 1) items ≡ drop (at + 1) log
  rest_next = let e = both in cc

  -- the objects so far, with one more
  grown : objects (take (at + 1) log) ≡ objects (take at log) ++ c.object ∷ []
  grown = ap objects (take-more log at c (omega (arith, t.same_length)) is_next) ∙ map-append (λ (d : Claim). d.object) (take at log) (c ∷ [])

  -- a claim more is done
  pub taking_more : (next : List Claim) (n : ℕ) → take n next ≡ take count items ++ claim_in (held_mode now tx c.object) c.object
      → drop (at + 1) next ≡ drop (at + 1) items → n ≤ at + 1 → length next ≡ length items
      → Taking tx (record { old = was; new = set_mode now tx c.object None }) (record { old = log; new = next }) (at + 1) n
  taking_more next n front back behind same = record {
    kept =
        front ∙ ap₂ (λ cs m. cs ++ claim_in m c.object) t.kept (t.own c.object)
        ∙ sym (ap (λ os. claims_on (held_mode was tx) (each_once os)) grown ∙ claims_more (held_mode was tx) (objects (take at log)) c.object);
    own = λ o.
        mode_of-set now c.object o tx None
        ∙ ap₂ (λ b m. cond b None m) (is_object-swap c.object o ∙ sym (or-false (is_object o c.object))) (t.own o)
        ∙ without (has (objects (take at log)) o) (has (c.object ∷ []) o) (held_mode was tx o)
        ∙ ap (λ b. cond b None (held_mode was tx o)) (sym (ap (λ os. has os o) grown ∙ has-append (objects (take at log)) (c.object ∷ []) o));
    others = λ n o ne. mode_of-set_other now c.object o tx n None ne ∙ t.others n o ne;
    rest = back ∙ rest_next;
    behind = behind;
    same_length = same ∙ t.same_length;
  }
