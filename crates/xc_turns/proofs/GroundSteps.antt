-- Grounds of conflicts and revocations stay while what they are judged by goes on, comes and enters.
use Rattle.std.proofs.Common.{◌≡◌, ◌≢◌, ◌⊎◌, inl, inr, ℕ, ◌≤◌, Bool, false, List, [], ◌∷◌, ◌++◌, length, get_or, refl, ap, sym, ◌∙◌, subst, arith}
use Rattle.std.proofs.Common.{length-append}
use Rattle.std.specs.Prelude.{IsTrue, Option, slice_get}
use Rattle.std.specs.declared.option.Option.TheVariants.{None, Some}
use Rattle.std.proofs.lemmas.Option.{slice_get_within}
use mathlib.Core.Logic.{dite}
use native.Mathlib.Decide.{ℕ_discrete}
use Rattle.xc_data.specs.Claims.{compatible}
use Rattle.xc_data.specs.declared.claim.Claim.{Claim}
use Rattle.xc_data.specs.declared.object.Object.{Object}
use Rattle.xc_data.specs.declared.entry.Cause.{Cause}
use Rattle.xc_data.specs.declared.entry.Cause.TheVariants.{Conflict, Revoked}
use Rattle.xc_model.specs.Grounds.{Part, IsPresent, Other, HoldsObject, Clashes, IsGrounded, AreGrounded, scene_of}
use Rattle.xc_turns.proofs.Lists.{get_front, get_last, get_cases, not_both}
use Rattle.xc_turns.proofs.HeldClaims.{IsAsStrong, AreCovered, covered_same, either_way}

-- ---- those that are named
-- whoever names the first may name the second
pub record Follows (tells : Bool) (a b : Part) : Type 0 where
  pub number : b.number ≡ a.number
  pub job : b.job ≡ a.job
  pub rank : b.rank ≡ a.rank
  pub began : b.began ≡ a.began
  pub held : AreCovered a.held b.held
  pub reach : IsTrue tells → AreCovered (a.held ++ a.wanted) (b.held ++ b.wanted)

-- each part by itself
pub follows_itself : (tells : Bool) (a : Part) → Follows tells a a
follows_itself tells a = record {
  number = refl;
  job = refl;
  rank = refl;
  began = refl;
  held = covered_same a.held a.held refl;
  reach = λ t. covered_same (a.held ++ a.wanted) (a.held ++ a.wanted) refl;
}

module _ (tells : Bool) (log log' : List Part) (active active' : List (Option Part)) where
  -- each one that may be named is followed by one that may
  record OthersGoOn : Type 0 where
    each : (number at job : ℕ) → at ≤ length log → (h : Other (scene_of tells log active) number at job)
        → (k : Other (scene_of tells log' active') number at job) × Follows tells h.who k.who

  -- where each one that stands is followed by one that does
  record StandOn : Type 0 where
    each : (at : ℕ) (who : Part) → at ≤ length log → IsPresent (scene_of tells log active) at who
        → (next : Part) × Follows tells who next × IsPresent (scene_of tells log' active') at next

  others_on : StandOn → OthersGoOn
  others_on on = record { each = each }
    where
      each : (number at job : ℕ) → at ≤ length log → (h : Other (scene_of tells log active) number at job)
          → (k : Other (scene_of tells log' active') number at job) × Follows tells h.who k.who
      each number at job le h =
          let next = on.each at h.who le h.present in
          let follows = next.1 in
          let began = h.began in (
            record {
              who = next.0;
              present = next.2;
              numbered = follows.number ∙ h.numbered;
              other = λ e. h.other (sym follows.job ∙ e);
              began = omega (arith, follows.began);
            },
            follows,
          )

-- ---- grounds
-- a conflict or a revocation of the second is judged as one of the first
pub record IsJudgedAs (tells : Bool) (a b : Part) : Type 0 where
  pub job : b.job ≡ a.job
  pub rank : b.rank ≡ a.rank
  pub began : b.began ≡ a.began
  pub held : AreCovered a.held b.held
  pub wanted : IsTrue tells → b.wanted ≡ a.wanted

judged_itself : (tells : Bool) (a : Part) → IsJudgedAs tells a a
judged_itself tells a = record { job = refl; rank = refl; began = refl; held = covered_same a.held a.held refl; wanted = λ t. refl }

-- a holder still holds
holds_on : (held held' : List Claim) (object : Object) → AreCovered held held' → (h : HoldsObject held object)
    → (k : HoldsObject held' object) × IsAsStrong h.claim k.claim
holds_on held held' object covers h =
    let d = covers.each h.claim h.among in
    let is = d.2 in
    (record { claim = d.0; names = is.object ∙ h.names; among = d.1 }, is)

-- what clashes still does
clash_on : (wanted wanted' : List Claim) (c d : Claim) → AreCovered wanted wanted' → IsAsStrong c d → Clashes wanted c → Clashes wanted' d
clash_on wanted wanted' c d more covers clash =
    let w = clash.0 in
    let next = more.each w clash.1 in
    let is = next.2 in
    let first : compatible w.mode d.mode ≡ false = covers.mode w.mode clash.2.1 in (
      next.0,
      next.1,
      (sym (is.object ∙ sym clash.2.0 ∙ sym covers.object), either_way next.0.mode d.mode ∙ is.mode d.mode (either_way d.mode w.mode ∙ first)),
    )

-- where those that are named go on, each ground stays
module _ (tells : Bool) (log log' : List Part) (active active' : List (Option Part)) (on : OthersGoOn tells log log' active active') where
  ground_on : (place place' : ℕ) (a b : Part) (why : Option Cause) → IsJudgedAs tells a b → place ≤ place' → place ≤ length log
      → IsGrounded (scene_of tells log active) place a why → IsGrounded (scene_of tells log' active') place' b why
  ground_on place place' a b (Some (Conflict object holder at)) judged later within g =
      let low = g.within in
      let before = g.before in
      let next = on.each holder at a.job (omega arith) g.named in
      let named = next.0 in
      let follows = next.1 in
      let holds = holds_on g.named.who.held named.who.held object follows.held g.holds in
      record {
        before = omega (arith, judged.began);
        within = omega arith;
        named = record {
          who = named.who;
          present = named.present;
          numbered = named.numbered;
          other = λ e. named.other (e ∙ judged.job);
          began = named.began;
        };
        holds = holds.0;
        clash = λ t. clash_on a.wanted b.wanted g.holds.claim holds.0.claim (covered_same a.wanted b.wanted (judged.wanted t)) holds.1 (g.clash t);
      }
  ground_on place place' a b (Some (Revoked object by at)) judged later within g =
      let low = g.within in
      let before = g.before in
      let next = on.each by at a.job (omega arith) g.named in
      let named = next.0 in
      let follows = next.1 in
      let holds = holds_on a.held b.held object judged.held g.holds in
      let old = g.older in
      record {
        before = omega (arith, judged.began);
        within = omega arith;
        named = record {
          who = named.who;
          present = named.present;
          numbered = named.numbered;
          other = λ e. named.other (e ∙ judged.job);
          began = named.began;
        };
        older = omega (arith, follows.rank, judged.rank);
        holds = holds.0;
        clash = λ t. clash_on (g.named.who.held ++ g.named.who.wanted) (named.who.held ++ named.who.wanted) g.holds.claim holds.0.claim
            (follows.reach t) holds.1 (g.clash t);
      }
  ground_on place place' a b _ judged later within g = tt

-- where nothing else changes, the second is grounded as the first
pub ground_as : (tells : Bool) (log : List Part) (active : List (Option Part)) (a b : Part) (why : Option Cause) → IsJudgedAs tells a b
    → IsGrounded (scene_of tells log active) (length log) a why → IsGrounded (scene_of tells log active) (length log) b why
ground_as tells log active a b why judged g =
    ground_on tells log log active active
    (others_on tells log log active active (record { each = λ at who le stands. (who, follows_itself tells who, stands) }))
    (length log) (length log) a b why judged (omega arith) (omega arith) g

-- ---- active ones go on or come
module _ (tells : Bool) (log : List Part) (active active' : List (Option Part)) where
  -- each active one is followed by an active one, and each is as before or grounded
  pub record GoOn : Type 0 where
    pub kept : (j : ℕ) (a : Part) → get_or active j None ≡ Some a → (b : Part) × Follows tells a b × (get_or active' j None ≡ Some b)
    pub fresh : (j : ℕ) (b : Part) → get_or active' j None ≡ Some b → IsGrounded (scene_of tells log active) (length log) b b.cause

  stands_on : GoOn → (at : ℕ) (who : Part) → IsPresent (scene_of tells log active) at who
      → (next : Part) × Follows tells who next × IsPresent (scene_of tells log active') at next
  stands_on on at who (inl entry) = (who, follows_itself tells who, inl entry)
  stands_on on at who (inr one) = let next = on.kept one.0 who one.1 in (next.0, next.1, inr (one.0, next.2))

  -- then all stay grounded
  pub grounds_go_on : GoOn → AreGrounded (scene_of tells log active) → AreGrounded (scene_of tells log active')
  grounds_go_on on g = record { entries = entries; actives = actives }
    where
      others : OthersGoOn tells log log active active'
      others = others_on tells log log active active' (record { each = λ at who le stands. stands_on on at who stands })

      entries : (i : ℕ) (e : Part) → slice_get log i ≡ Some e → IsGrounded (scene_of tells log active') i e e.cause
      entries i e got =
          let low = slice_get_within log i e got in
          ground_on tells log log active active' others i i e e e.cause (judged_itself tells e) (omega arith) (omega arith) (g.entries i e got)

      actives : (j : ℕ) (b : Part) → get_or active' j None ≡ Some b → IsGrounded (scene_of tells log active') (length log) b b.cause
      actives j b got =
          ground_on tells log log active active' others (length log) (length log) b b b.cause (judged_itself tells b) (omega arith) (omega arith)
          (on.fresh j b got)

-- ---- an active one enters
module _ (tells : Bool) (log : List Part) (active active' : List (Option Part)) (at : ℕ) (a e : Part) where
  -- it is no more active, and all others are as before; its entry is like it
  pub record Enter : Type 0 where
    pub before : get_or active at None ≡ Some a
    pub after : get_or active' at None ≡ None
    pub others : (j : ℕ) → j ≢ at → get_or active' j None ≡ get_or active j None
    pub follows : Follows tells a e
    pub judged : IsJudgedAs tells a e
    pub cause : e.cause ≡ a.cause

  is_this : Enter → (j : ℕ) (who : Part) → get_or active j None ≡ Some who → j ≡ at → a ≡ who
  is_this m j who got here =
      let same : Some a ≡ Some who = sym m.before ∙ ap (λ (k : ℕ). get_or active k None) (sym here) ∙ got in
      cc

  stands_enter : Enter → (from : ℕ) (who : Part) → from ≤ length log → IsPresent (scene_of tells log active) from who
      → (next : Part) × Follows tells who next × IsPresent (scene_of tells (log ++ e ∷ []) active') from next
  stands_enter m from who le (inl entry) = (who, follows_itself tells who, inl (entry.0, get_front log (e ∷ []) entry.0 who entry.1, entry.2))
  stands_enter m from who le (inr one) = dite (ℕ_discrete one.0 at)
      (λ (here : one.0 ≡ at).
      (e, subst (λ (w : Part). Follows tells w e) (is_this m one.0 who one.1 here) m.follows, inl (length log, get_last log e, le)))
      (λ (away : one.0 ≢ at). (who, follows_itself tells who, inr (one.0, m.others one.0 away ∙ one.1)))

  -- then all stay grounded
  pub grounds_enter : Enter → AreGrounded (scene_of tells log active) → AreGrounded (scene_of tells (log ++ e ∷ []) active')
  grounds_enter m g = record { entries = λ i x got. entry i x (get_cases log e i x got); actives = actives }
    where
      others : OthersGoOn tells log (log ++ e ∷ []) active active'
      others = others_on tells log (log ++ e ∷ []) active active' (record { each = stands_enter m })

      entry : (i : ℕ) (x : Part) → (slice_get log i ≡ Some x) ⊎ ((i ≡ length log) × (e ≡ x)) → IsGrounded (scene_of tells (log ++ e ∷ []) active') i x x.cause
      entry i x (inl got) =
          let low = slice_get_within log i x got in
          ground_on tells log (log ++ e ∷ []) active active' others i i x x x.cause (judged_itself tells x) (omega arith) (omega arith) (g.entries i x got)
      entry i x (inr last) =
          let place = last.0 in
          subst (λ (y : Part). IsGrounded (scene_of tells (log ++ e ∷ []) active') i y y.cause) last.1
          (subst (IsGrounded (scene_of tells (log ++ e ∷ []) active') i e) (sym m.cause)
          (ground_on tells log (log ++ e ∷ []) active active' others (length log) i a e a.cause m.judged (omega arith) (omega arith)
          (g.actives at a m.before)))

      actives : (j : ℕ) (b : Part) → get_or active' j None ≡ Some b → IsGrounded (scene_of tells (log ++ e ∷ []) active') (length (log ++ e ∷ [])) b b.cause
      actives j b got = dite (ℕ_discrete j at)
          (λ (here : j ≡ at).
          absurd (not_both (get_or active' at None) b m.after (ap (λ (k : ℕ). get_or active' k None) (sym here) ∙ got)))
          (λ (away : j ≢ at).
          let more = length-append log (e ∷ []) in
          ground_on tells log (log ++ e ∷ []) active active' others (length log) (length (log ++ e ∷ [])) b b b.cause (judged_itself tells b)
          (omega arith) (omega arith) (g.actives j b (sym (m.others j away) ∙ got)))
