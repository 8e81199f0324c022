-- A whole body: what it depends on and changes, by induction from one call.
use Rattle.std.proofs.Common.{◌≡◌, inl, inr, ℕ, ◌≤◌, arith, ◌&&◌, List, [], ◌∷◌, ◌++◌, length, Option, None, Some, ap, ap₂, sym, ◌∙◌, subst, refl}
use Rattle.std.specs.Prelude.{All, Contains}
use Rattle.std.specs.FinMap as map
use Rattle.std.proofs.lemmas.List.{map-append}
use Rattle.std.proofs.lemmas.List.Elements.{All-contains, All-weaker, All-contains_itself, filter_map-append, Contains-append_left, Contains-append_right}
use Rattle.std.proofs.lemmas.List.Elements.{Contains-append_cases}
use Rattle.xc_data.specs.declared.object.Object.{Object}
use Rattle.xc_data.specs.declared.object.Object.TheVariants as object
use Rattle.xc_data.specs.declared.call.Call.{Call}
use Rattle.xc_data.specs.declared.call.Call.TheVariants as call
use Rattle.xc_data.specs.declared.private.Private.{Private}
use Rattle.xc_world.specs.World.{World}
use Rattle.xc_world.specs.Act.{act}
use Rattle.xc_world.specs.Late.{kept_call}
use Rattle.xc_world.specs.Fits.{fits}
use Rattle.xc_world.specs.Sound.{IsFree, IsSound}
use Rattle.xc_world.specs.Touch.{touch, made_by}
use Rattle.xc_world.specs.Trail.{recorded}
use Rattle.xc_world.specs.Laws.{AgreeAt, ChangesOnly, ActsAlike}
use Rattle.xc_world.proofs.Local.{act_alike}
use Rattle.xc_world.proofs.LocalParts.{agree_itself}
use Rattle.xc_data.specs.declared.claim.Claim.{Claim}
use Rattle.xc_data.specs.declared.call.CallWithAnswer.{CallWithAnswer}
use Rattle.xc_data.specs.Claims.{objects, owned, owned_object}
use Rattle.xc_world.specs.Modes.{mode_of, claims_of}
use Rattle.xc_world.specs.Run.{BodyResult, BlockState, begins, taken_by, step, after_calls, plain_fits, gone_back, back_from, marked, block_step, runs_on}
use Rattle.xc_world.specs.Run.{opens}
use Rattle.xc_world.specs.Run.{fits_on, body, body_fits}
use Rattle.xc_world.proofs.Blocks.{marked_by}
use Rattle.xc_world.specs.Own.{IsNumbered, Sees, Owns, AgreeOn, KeepsBut, GaveAlike, RanAlike}
use Rattle.xc_world.proofs.Objects.{agree_on}
use Rattle.xc_world.proofs.Calls.{objects_of_claims, made_numbered, recorded_alike, fits_alike, agreed, still_agree, keeps_itself, act_keeps}

-- ---- changes one after another
pub keeps_on : (own : Object → Type 0) (w v x : World) → KeepsBut own w v → KeepsBut own v x → KeepsBut own w x
keeps_on own w v x first later =
    record {
      others = λ o lacks. agree_on w v x o (first.others o lacks) (later.others o lacks);
      count = later.count ∙ first.count;
      blocks = later.blocks ∙ first.blocks;
    }

-- what keeps all but some objects keeps all but more of them
pub keeps_more : (own more : Object → Type 0) (w v : World) → ((o : Object) → own o → more o) → KeepsBut own w v → KeepsBut more w v
keeps_more own more w v within keeps = record { others = λ o lacks. keeps.others o (λ has. lacks (within o has)); count = keeps.count; blocks = keeps.blocks }

-- ---- claims one after another
pub objects_append : (a b : List Claim) → objects (a ++ b) ≡ objects a ++ objects b
objects_append a b = map-append (λ (c : Claim). c.object) a b

-- what claims one after another own
pub owned_append : (a b : List Claim) → owned (a ++ b) ≡ owned a ++ owned b
owned_append a b = filter_map-append owned_object a b

-- an object of the front claims is one of all
pub earlier_claims : (a b : List Claim) (o : Object) → Contains (objects a) o → Contains (objects (a ++ b)) o
earlier_claims a b o at = subst (λ l. Contains l o) (sym (objects_append a b)) (Contains-append_left (objects a) (objects b) o at)

-- an object of the later claims is one of all
pub later_claims : (a b : List Claim) (o : Object) → Contains (objects b) o → Contains (objects (a ++ b)) o
later_claims a b o at = subst (λ l. Contains l o) (sym (objects_append a b)) (Contains-append_right (objects a) (objects b) o at)

-- an owned object of the later claims is one of all
pub owned_behind : (a b : List Claim) (o : Object) → Contains (owned b) o → Contains (owned (a ++ b)) o
owned_behind a b o at = subst (λ l. Contains l o) (sym (owned_append a b)) (Contains-append_right (owned a) (owned b) o at)

-- what the front claims own, all own
pub owns_in_front : (tx : ℕ) (a b : List Claim) (o : Object) → Owns tx a o → Owns tx (a ++ b) o
owns_in_front tx a b o (inl at) = inl (subst (λ l. Contains l o) (sym (owned_append a b)) (Contains-append_left (owned a) (owned b) o at))
owns_in_front tx a b o (inr numbered) = inr numbered

-- what was touched stays touched
pub keeps_touched : (tx : ℕ) (ran : BodyResult) (asked : List CallWithAnswer) (o : Object) → Contains (objects ran.touched) o
    → Contains (objects (after_calls tx ran asked).touched) o
keeps_touched tx ran [] o at = at
keeps_touched tx ran (c ∷ asked) o at =
    keeps_touched tx (step tx ran c) asked o (earlier_claims ran.touched (claims_of c.call ran.me (length ran.world.words)) o at)

-- ---- one call of two bodies
-- two bodies gave the same so far, in worlds that agree on what P tells; and from the worlds in which they began, each
-- changed nothing but its own
pub record Alike (P : Object → Type 0) (tx : ℕ) (starts : World × World) (r q : BodyResult) : Type 0 where
  pub gave : GaveAlike r q
  pub agree : AgreeOn P r.world q.world
  pub count : length r.world.words ≡ length q.world.words
  pub left : KeepsBut (Owns tx r.touched) starts.0 r.world
  pub right : KeepsBut (Owns tx q.touched) starts.1 q.world

-- the objects of a call are among those of P
pub record CallWithin (P : Object → Type 0) (tx : ℕ) (r : BodyResult) (c : CallWithAnswer) : Type 0 where
  pub claimed : (o : Object) → Contains (objects (claims_of c.call r.me (length r.world.words))) o → P o
  pub numbered : (o : Object) → IsNumbered tx o → P o

module _ (P : Object → Type 0) (tx : ℕ) (r q : BodyResult) (c : CallWithAnswer) where
  abbrev listed : List Object
  listed = touch c.call r.me (length r.world.words) ++ made_by c.call r.me tx

  listed_within : CallWithin P tx r c → (o : Object) → Contains listed o → P o
  listed_within within o at = elim (Contains-append_cases (touch c.call r.me (length r.world.words)) (made_by c.call r.me tx) o at) [
    | inl touched ↦ within.claimed o (subst (λ l. Contains l o) (sym (objects_of_claims (mode_of c.call) (touch c.call r.me (length r.world.words)))) touched)
    | inr made ↦ within.numbered o (made_numbered r.me tx c.call o made)
  ]

  -- worlds that agree on P agree on what the call touches and makes
  pub call_agreed : AgreeOn P r.world q.world → CallWithin P tx r c → All (AgreeAt r.world q.world) listed
  call_agreed agree within = agreed P r.world q.world listed agree (listed_within within)

first_part : {X : Type 0} (P : X → Type 0) (xs ys : List X) → All P (xs ++ ys) → All P xs
first_part P xs ys all = All-weaker (Contains xs) P (λ x at. All-contains P (xs ++ ys) x all (Contains-append_left xs ys x at)) xs (All-contains_itself xs)

-- what one call more owns
step_keeps : (tx : ℕ) (w : World) (r : BodyResult) (c : CallWithAnswer) → KeepsBut (Owns tx r.touched) w r.world
    → KeepsBut (Owns tx (step tx r c).touched) r.world (step tx r c).world → KeepsBut (Owns tx (step tx r c).touched) w (step tx r c).world
step_keeps tx w r c before now =
    keeps_on _ w r.world (step tx r c).world
    (keeps_more (Owns tx r.touched) (Owns tx (step tx r c).touched) w r.world
    (owns_in_front tx r.touched (claims_of c.call r.me (length r.world.words))) before) now

-- two bodies stay alike over one call on objects of P
pub step_alike : (P : Object → Type 0) (tx : ℕ) (w v : World) (r q : BodyResult) (c : CallWithAnswer) → Alike P tx (w, v) r q → CallWithin P tx r c
    → Alike P tx (w, v) (step tx r c) (step tx q c)
step_alike P tx w v r q c so within =
    let words = length r.world.words in
    let both = call_agreed P tx r q c so.agree within in
    let s = act r.world r.me tx c.call c.answer in
    let t = act q.world q.me tx c.call c.answer in
    let L = touch c.call r.me words ++ made_by c.call r.me tx in
    let acts : ActsAlike L r.world q.world s t =
    subst (λ m. ActsAlike L r.world q.world s (act q.world m tx c.call c.answer)) so.gave.me
    (act_alike r.world q.world r.me tx c.call c.answer so.count both) in
    let same_claims : claims_of c.call r.me words ≡ claims_of c.call q.me (length q.world.words) = ap₂ (claims_of c.call) so.gave.me so.count in
    let record_there : recorded r.world r.me tx c.call s.reply ≡ recorded q.world q.me tx c.call t.reply =
    recorded_alike r.world q.world r.me tx c.call c.answer (first_part (AgreeAt r.world q.world) (touch c.call r.me words) (made_by c.call r.me tx) both)
    ∙ ap₂ (λ m a. recorded q.world m tx c.call a) so.gave.me acts.reply in
    let here = act_keeps (Owns tx (step tx r c).touched) r.world r.me tx c.call c.answer
    (λ o at. inl (owned_behind r.touched (claims_of c.call r.me words) o at)) (λ o numbered. inr numbered) acts.worlds.left in
    let there = act_keeps (Owns tx (step tx q c).touched) q.world q.me tx c.call c.answer
    (λ o at. inl (owned_behind q.touched (claims_of c.call q.me (length q.world.words)) o at)) (λ o numbered. inr numbered)
    (subst (λ n. ChangesOnly (touch c.call q.me n ++ made_by c.call q.me tx) q.world t.world) so.count
    (subst (λ m. ChangesOnly (touch c.call m words ++ made_by c.call m tx) q.world t.world) so.gave.me acts.worlds.right)) in
    record {
      gave = record {
        me = acts.me;
        replies = ap₂ (λ l a. l ++ a ∷ []) so.gave.replies acts.reply;
        late = ap₂ (λ l k. l ++ k) so.gave.late (ap₂ (kept_call c.call) so.gave.me acts.reply);
        trail = ap₂ (λ l k. l ++ k) so.gave.trail record_there;
        taken = ap₂ (λ l k. l ++ k) so.gave.taken (ap₂ (taken_by c.call) so.gave.me acts.reply);
        touched = ap₂ (λ l k. l ++ k) so.gave.touched same_claims;
      };
      agree = still_agree P r.world q.world s.world t.world L acts.worlds so.agree;
      count = acts.worlds.left.count ∙ so.count ∙ sym acts.worlds.right.count;
      left = step_keeps tx w r c so.left here;
      right = step_keeps tx v q c so.right there;
    }

-- ---- the whole
-- the next call's objects are among those of the body
next_within : (P : Object → Type 0) (tx : ℕ) (ran : BodyResult) (c : CallWithAnswer) (asked : List CallWithAnswer)
    → ((o : Object) → Contains (objects (after_calls tx ran (c ∷ asked)).touched) o → P o)
    → ((o : Object) → IsNumbered tx o → P o) → CallWithin P tx ran c
next_within P tx ran c asked touched numbered =
    record {
      claimed = λ o at. touched o (keeps_touched tx (step tx ran c) asked o (later_claims ran.touched (claims_of c.call ran.me (length ran.world.words)) o at));
      numbered = numbered;
    }

-- two bodies stay alike over calls on objects of P
pub goes_on_alike : (P : Object → Type 0) (tx : ℕ) (w v : World) (r q : BodyResult) (asked : List CallWithAnswer) → Alike P tx (w, v) r q
    → ((o : Object) → Contains (objects (after_calls tx r asked).touched) o → P o) → ((o : Object) → IsNumbered tx o → P o)
    → Alike P tx (w, v) (after_calls tx r asked) (after_calls tx q asked)
goes_on_alike P tx w v r q [] so touched numbered = so
goes_on_alike P tx w v r q (c ∷ asked) so touched numbered =
    goes_on_alike P tx w v (step tx r c) (step tx q c) asked (step_alike P tx w v r q c so (next_within P tx r c asked touched numbered)) touched numbered

-- the same answers fit the calls of both
pub on_fits_alike : (P : Object → Type 0) (tx : ℕ) (w v : World) (r q : BodyResult) (asked : List CallWithAnswer) → Alike P tx (w, v) r q
    → ((o : Object) → Contains (objects (after_calls tx r asked).touched) o → P o) → ((o : Object) → IsNumbered tx o → P o)
    → plain_fits r.world r.me tx asked ≡ plain_fits q.world q.me tx asked
on_fits_alike P tx w v r q [] so touched numbered = refl
on_fits_alike P tx w v r q (c ∷ asked) so touched numbered =
    let within = next_within P tx r c asked touched numbered in
    ap₂ (λ x y. x && y)
    (fits_alike r.world q.world r.me tx c.call c.answer so.count (call_agreed P tx r q c so.agree within)
    ∙ ap (λ m. fits q.world m tx c.call c.answer) so.gave.me)
    (on_fits_alike P tx w v (step tx r c) (step tx q c) asked (step_alike P tx w v r q c so within) touched numbered)

-- ---- with inner blocks
-- two copies are alike, and what they own is owned still
pub record CopiesAlike (P : Object → Type 0) (tx : ℕ) (starts : World × World) (copies now : BodyResult × BodyResult) : Type 0 where
  pub alike : Alike P tx starts copies.0 copies.1
  pub left : (o : Object) → Owns tx copies.0.touched o → Owns tx now.0.touched o
  pub right : (o : Object) → Owns tx copies.1.touched o → Owns tx now.1.touched o

module _ (P : Object → Type 0) (tx : ℕ) (starts : World × World) where
  -- the saves of two bodies are alike, or neither has one
  abbrev pub SavedAlike : Option BodyResult → Option BodyResult → BodyResult → BodyResult → Type 0
  SavedAlike None None r q = Unit {0}
  SavedAlike (Some s) (Some t) r q = CopiesAlike P tx starts (s, t) (r, q)
  SavedAlike _ _ r q = ⊥

  -- two bodies are alike, and so are their saves
  pub record StateAlike (b d : BlockState) : Type 0 where
    pub now : Alike P tx starts b.now d.now
    pub saved : SavedAlike b.saved d.saved b.now d.now

  -- the claims of one call more
  saved_more : (s t : Option BodyResult) (r q r' q' : BodyResult) → ((o : Object) → Owns tx r.touched o → Owns tx r'.touched o)
      → ((o : Object) → Owns tx q.touched o → Owns tx q'.touched o) → SavedAlike s t r q → SavedAlike s t r' q'
  saved_more None None r q r' q' left right so = tt
  saved_more (Some s) (Some t) r q r' q' left right so =
      record { alike = so.alike; left = λ o own. left o (so.left o own); right = λ o own. right o (so.right o own) }
  saved_more None (Some t) r q r' q' left right so = absurd so
  saved_more (Some s) None r q r' q' left right so = absurd so

  back_alike : (s t : Option BodyResult) (r q : BodyResult) → Alike P tx starts r q → SavedAlike s t r q → Alike P tx starts (back_from s r) (back_from t q)
  back_alike None None r q so saved = so
  back_alike (Some s) (Some t) r q so saved =
      let was = saved.alike in
      record {
        gave = record {
          me = ap₂ (λ (m n : Private). record m { places = n.places }) so.gave.me was.gave.me;
          replies = so.gave.replies;
          late = was.gave.late;
          trail = was.gave.trail;
          taken = was.gave.taken;
          touched = so.gave.touched;
        };
        agree = was.agree;
        count = was.count;
        left = keeps_more (Owns tx s.touched) (Owns tx r.touched) starts.0 s.world saved.left was.left;
        right = keeps_more (Owns tx t.touched) (Owns tx q.touched) starts.1 t.world saved.right was.right;
      }
  back_alike None (Some t) r q so saved = absurd saved
  back_alike (Some s) None r q so saved = absurd saved

  -- by what a call does to the block of both
  both_marked : (c : Call) (s t : Option BodyResult) (r q : BodyResult) → Alike P tx starts r q → SavedAlike s t r q → StateAlike (marked c s r) (marked c t q)
  both_marked call.Save s t r q so saved = record { now = so; saved = record { alike = so; left = λ o own. own; right = λ o own. own } }
  both_marked call.Keep s t r q so saved = record { now = so; saved = tt }
  both_marked call.Back s t r q so saved = record { now = back_alike s t r q so saved; saved = tt }
  both_marked _ s t r q so saved = record { now = so; saved = saved }

-- two bodies stay alike over one call on objects of P
pub block_step_alike : (P : Object → Type 0) (tx : ℕ) (w v : World) (b d : BlockState) (c : CallWithAnswer) → StateAlike P tx (w, v) b d
    → CallWithin P tx b.now c
    → StateAlike P tx (w, v) (block_step tx b c) (block_step tx d c)
block_step_alike P tx w v b d c so within =
    both_marked P tx (w, v) c.call b.saved d.saved (step tx b.now c) (step tx d.now c) (step_alike P tx w v b.now d.now c so.now within)
    (saved_more P tx (w, v) b.saved d.saved b.now d.now (step tx b.now c) (step tx d.now c)
    (owns_in_front tx b.now.touched (claims_of c.call b.now.me (length b.now.world.words)))
    (owns_in_front tx d.now.touched (claims_of c.call d.now.me (length d.now.world.words))) so.saved)

-- a mark leaves the claims
back_touched : (saved : Option BodyResult) (r : BodyResult) → (back_from saved r).touched ≡ r.touched
back_touched None r = refl
back_touched (Some s) r = refl

marked_touched : (c : Call) (saved : Option BodyResult) (r : BodyResult) → (marked c saved r).now.touched ≡ r.touched
marked_touched c saved r = marked_by (λ b. b.now.touched ≡ r.touched) c saved r refl refl (back_touched saved r) refl

-- what was touched stays touched
pub runs_touched : (tx : ℕ) (b : BlockState) (asked : List CallWithAnswer) (o : Object) → Contains (objects b.now.touched) o
    → Contains (objects (runs_on tx b asked).now.touched) o
runs_touched tx b [] o at = at
runs_touched tx b (c ∷ asked) o at =
    runs_touched tx (block_step tx b c) asked o
    (subst (λ l. Contains (objects l) o) (sym (marked_touched c.call b.saved (step tx b.now c)))
    (earlier_claims b.now.touched (claims_of c.call b.now.me (length b.now.world.words)) o at))

-- and what it owned
pub runs_owned : (tx : ℕ) (b : BlockState) (asked : List CallWithAnswer) (o : Object) → Contains (owned b.now.touched) o
    → Contains (owned (runs_on tx b asked).now.touched) o
runs_owned tx b [] o at = at
runs_owned tx b (c ∷ asked) o at =
    let now = claims_of c.call b.now.me (length b.now.world.words) in
    runs_owned tx (block_step tx b c) asked o
    (subst (λ l. Contains (owned l) o) (sym (marked_touched c.call b.saved (step tx b.now c)))
    (subst (λ l. Contains l o) (sym (owned_append b.now.touched now)) (Contains-append_left (owned b.now.touched) (owned now) o at)))

-- the next call's objects are among those of the body
next_runs_within : (P : Object → Type 0) (tx : ℕ) (b : BlockState) (c : CallWithAnswer) (asked : List CallWithAnswer)
    → ((o : Object) → Contains (objects (runs_on tx b (c ∷ asked)).now.touched) o → P o)
    → ((o : Object) → IsNumbered tx o → P o) → CallWithin P tx b.now c
next_runs_within P tx b c asked touched numbered =
    record {
      claimed = λ o at. touched o (runs_touched tx (block_step tx b c) asked o
          (subst (λ l. Contains (objects l) o) (sym (marked_touched c.call b.saved (step tx b.now c)))
          (later_claims b.now.touched (claims_of c.call b.now.me (length b.now.world.words)) o at)));
      numbered = numbered;
    }

-- two bodies stay alike over calls on objects of P
pub runs_alike : (P : Object → Type 0) (tx : ℕ) (w v : World) (b d : BlockState) (asked : List CallWithAnswer) → StateAlike P tx (w, v) b d
    → ((o : Object) → Contains (objects (runs_on tx b asked).now.touched) o → P o) → ((o : Object) → IsNumbered tx o → P o)
    → StateAlike P tx (w, v) (runs_on tx b asked) (runs_on tx d asked)
runs_alike P tx w v b d [] so touched numbered = so
runs_alike P tx w v b d (c ∷ asked) so touched numbered =
    runs_alike P tx w v (block_step tx b c) (block_step tx d c) asked (block_step_alike P tx w v b d c so (next_runs_within P tx b c asked touched numbered))
    touched numbered

-- the same answers fit the calls of both
pub runs_fit_alike : (P : Object → Type 0) (tx : ℕ) (w v : World) (b d : BlockState) (asked : List CallWithAnswer) → StateAlike P tx (w, v) b d
    → ((o : Object) → Contains (objects (runs_on tx b asked).now.touched) o → P o) → ((o : Object) → IsNumbered tx o → P o)
    → fits_on tx b asked ≡ fits_on tx d asked
runs_fit_alike P tx w v b d [] so touched numbered = refl
runs_fit_alike P tx w v b d (c ∷ asked) so touched numbered =
    let within = next_runs_within P tx b c asked touched numbered in
    let r = b.now in
    let q = d.now in
    ap₂ (λ x y. x && y)
    (fits_alike r.world q.world r.me tx c.call c.answer so.now.count (call_agreed P tx r q c so.now.agree within)
    ∙ ap (λ m. fits q.world m tx c.call c.answer) so.now.gave.me)
    (runs_fit_alike P tx w v (block_step tx b c) (block_step tx d c) asked (block_step_alike P tx w v b d c so within) touched numbered)

-- ---- from the start
pub begin_alike : (P : Object → Type 0) (tx : ℕ) (w v : World) (me : Private) → length w.words ≡ length v.words → AgreeOn P w v
    → Alike P tx (w, v) (begins w me) (begins v me)
begin_alike P tx w v me count agree =
    record {
      gave = record { me = refl; replies = refl; late = refl; trail = refl; taken = refl; touched = refl };
      agree = agree;
      count = count;
      left = keeps_itself _ w;
      right = keeps_itself _ v;
    }

-- in no block
pub opens_alike : (P : Object → Type 0) (tx : ℕ) (w v : World) (me : Private) → length w.words ≡ length v.words → AgreeOn P w v
    → StateAlike P tx (w, v) (opens w me) (opens v me)
opens_alike P tx w v me count agree = record { now = begin_alike P tx w v me count agree; saved = tt }

-- no object has the transaction's number, so both worlds have the same there
pub free_agree : (tx : ℕ) (w v : World) → ((k : ℕ) → IsFree w (record { tx = tx; k = k })) → ((k : ℕ) → IsFree v (record { tx = tx; k = k }))
    → AgreeOn (IsNumbered tx) w v
free_agree tx w v free empty (object.File num) e =
    subst (λ t. map.get w.files (record { tx = t; k = num.k }) ≡ map.get v.files (record { tx = t; k = num.k })) (sym e)
    ((free num.k).file ∙ sym (empty num.k).file)
free_agree tx w v free empty (object.Pipe num) e =
    subst (λ t. map.get w.pipes (record { tx = t; k = num.k }) ≡ map.get v.pipes (record { tx = t; k = num.k })) (sym e)
    ((free num.k).pipe ∙ sym (empty num.k).pipe)
free_agree tx w v free empty (object.Pair num) e =
    subst (λ t. map.get w.pairs (record { tx = t; k = num.k }) ≡ map.get v.pairs (record { tx = t; k = num.k })) (sym e)
    ((free num.k).pair ∙ sym (empty num.k).pair)
free_agree tx w v free empty (object.Word at) e = absurd e
free_agree tx w v free empty (object.Name name) e = absurd e
free_agree tx w v free empty object.Jobs e = absurd e

-- worlds that agree on what was touched and on the transaction's numbers agree on all that it sees
pub seen_agree : (tx : ℕ) (w v : World) (claims : List Claim) → All (AgreeAt w v) (objects claims) → AgreeOn (IsNumbered tx) w v → AgreeOn (Sees tx claims) w v
seen_agree tx w v claims touched numbered o (inl at) = All-contains (AgreeAt w v) (objects claims) o touched at
seen_agree tx w v claims touched numbered o (inr e) = numbered o e

-- a body gives the same in worlds that agree on what it touches and on its numbers
pub body_alike : (w v : World) (me : Private) (tx : ℕ) (asked : List CallWithAnswer) → length w.words ≡ length v.words
    → All (AgreeAt w v) (objects (body w me tx asked).touched) → AgreeOn (IsNumbered tx) w v
    → RanAlike tx w v (body w me tx asked) (body v me tx asked)
body_alike w v me tx asked count touched numbered =
    let claims = (body w me tx asked).touched in
    let P = Sees tx claims in
    let so =
    (runs_alike P tx w v (opens w me) (opens v me) asked (opens_alike P tx w v me count (seen_agree tx w v claims touched numbered)) (λ o at. inl at)
    (λ o e. inr e)).now in
    record { gave = so.gave; agree = so.agree; left = so.left; right = so.right }

-- the same answers fit a body in worlds that agree on what it touches and on its numbers
pub body_fits_alike : (w v : World) (me : Private) (tx : ℕ) (asked : List CallWithAnswer) → length w.words ≡ length v.words
    → All (AgreeAt w v) (objects (body w me tx asked).touched) → AgreeOn (IsNumbered tx) w v
    → body_fits w me tx asked ≡ body_fits v me tx asked
body_fits_alike w v me tx asked count touched numbered =
    let claims = (body w me tx asked).touched in
    let P = Sees tx claims in
    runs_fit_alike P tx w v (opens w me) (opens v me) asked (opens_alike P tx w v me count (seen_agree tx w v claims touched numbered)) (λ o at. inl at)
    (λ o e. inr e)

-- what it changes, whatever other world there is
pub body_keeps : (w : World) (me : Private) (tx : ℕ) (asked : List CallWithAnswer)
    → KeepsBut (Owns tx (body w me tx asked).touched) w (body w me tx asked).world
body_keeps w me tx asked =
    (body_alike w w me tx asked refl (agreed (λ _. Unit {0}) w w (objects (body w me tx asked).touched) (λ o _. agree_itself w o) (λ _ _. tt))
    (λ o _. agree_itself w o)).left

-- ---- from a transaction's begin, where it has made nothing yet
none_made : (w : World) (me : Private) (tx : ℕ) → IsSound w me tx → me.made ≡ 0 → (k : ℕ) → IsFree w (record { tx = tx; k = k })
none_made w me tx sound none k = sound.new k (subst (λ n. n ≤ k) (sym none) (omega arith))

-- a body that has made nothing before gives the same in sound worlds that agree on what it touches
pub body_alike_begun : (w v : World) (me : Private) (tx : ℕ) (asked : List CallWithAnswer) → IsSound w me tx → IsSound v me tx → me.made ≡ 0
    → length w.words ≡ length v.words
    → All (AgreeAt w v) (objects (body w me tx asked).touched) → RanAlike tx w v (body w me tx asked) (body v me tx asked)
body_alike_begun w v me tx asked here there none count touched =
    body_alike w v me tx asked count touched (free_agree tx w v (none_made w me tx here none) (none_made v me tx there none))
