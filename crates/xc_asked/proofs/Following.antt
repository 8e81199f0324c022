-- A transaction on its way through replies: whether each call was asked.
use Rattle.std.proofs.Common.{◌≡◌, ℕ, zero, suc, ◌+◌, ◌≤◌, add-one, length, arith, drop, Bool, true, false, List, [], ◌∷◌, refl, sym, ap, ◌∙◌, subst}
use Rattle.std.proofs.Math.Dec.{leb}
use Rattle.std.proofs.lemmas.Bool.{le-leb, leb-true}
use Rattle.std.proofs.lemmas.List.{drop_all}
use Rattle.std.specs.Bool.{Decides}
use Rattle.std.specs.Prelude.{◌&&◌, Option, slice_get}
use Rattle.std.specs.declared.option.Option.TheVariants.{None, Some}
use Rattle.xc_data.specs.declared.call.Call.{Call}
use Rattle.xc_data.specs.declared.call.Reply.{Reply}
use Rattle.xc_script.specs.declared.ask.Ask.TheVariants as ask
use Rattle.xc_script.specs.Asking.{asks}
use Rattle.xc_script.specs.Blocks.{BlockWalk, IsInner, all_replied, replied}
use Rattle.xc_script.proofs.Laws.{all_inner}
use Rattle.xc_model.specs.Asked.{AsksEach}
use Rattle.xc_asked.specs.Walking.{IsAskedAt}

-- the first call
abbrev first_call : List Call → Option Call
first_call [] = None
first_call (call ∷ calls) = Some call

-- the calls behind it
abbrev behind_first : List Call → List Call
behind_first [] = []
behind_first (call ∷ calls) = calls

-- each of all these calls was asked just where each was so far and each of those left is
module _ (begin : BlockWalk) (calls : List Call) (replies : List Reply) where
  pub record IsFollowing (now : BlockWalk) (left : List Call) (behind : List Reply) (met : Bool) : Type 0 where
    pub inner : IsInner now
    pub walk : all_replied now behind ≡ all_replied begin replies
    pub forwards : met ≡ true → AsksEach now left behind → AsksEach begin calls replies
    pub backwards : AsksEach begin calls replies → (met ≡ true) × AsksEach now left behind

-- a call at a place is the first of those from there on
from_there : (calls : List Call) (at : ℕ) (call : Call) → slice_get calls at ≡ Some call → drop at calls ≡ call ∷ drop (suc at) calls
from_there [] at call is = absurd (let none : None ≡ Some call = is in cc)
from_there (c ∷ calls) zero call is = let same : c ≡ call = cc is in ap (λ x. x ∷ calls) same
from_there (c ∷ calls) (suc at) call is = from_there calls at call is

-- and the other way round
at_there : (calls : List Call) (at : ℕ) (call : Call) (rest : List Call) → drop at calls ≡ call ∷ rest
    → (slice_get calls at ≡ Some call) × (rest ≡ drop (suc at) calls)
at_there [] zero call rest is = absurd (let none : [] ≡ call ∷ rest = is in cc)
at_there [] (suc at) call rest is = absurd (let none : [] ≡ call ∷ rest = is in cc)
at_there (c ∷ calls) zero call rest is = (ap first_call is, sym (ap behind_first is))
at_there (c ∷ calls) (suc at) call rest is = at_there calls at call rest is

-- where each of these calls is asked, the first one is
ahead : (b : BlockWalk) (left : List Call) (reply : Reply) (behind : List Reply) → AsksEach b left (reply ∷ behind)
    → (call : Call) × (rest : List Call) × (left ≡ call ∷ rest) × (asks b.walk ≡ ask.Call call) × AsksEach (replied b reply) rest behind
ahead b [] reply behind each = absurd (let none : reply ∷ behind ≡ [] = each in cc)
ahead b (call ∷ rest) reply behind each = (call, rest, refl, each.0, each.1)

and_left : (a b : Bool) → (a && b) ≡ true → a ≡ true
and_left true b e = refl
and_left false b e = absurd (let no : false ≡ true = e in cc)

and_right : (a b : Bool) → (a && b) ≡ true → b ≡ true
and_right true b e = e
and_right false b e = absurd (let no : false ≡ true = e in cc)

both : (a b : Bool) → a ≡ true → b ≡ true → (a && b) ≡ true
both a b left right = ap (λ x. x && b) left ∙ right

-- behind a reply
step : (begin : BlockWalk) (calls : List Call) (replies : List Reply) (now new : BlockWalk) (at : ℕ) (reply : Reply) (met is : Bool)
    → IsFollowing begin calls replies now (drop at calls) (drop at replies) met → drop at replies ≡ reply ∷ drop (suc at) replies
    → Decides is (IsAskedAt now calls at) → new ≡ replied now reply
    → IsFollowing begin calls replies new (drop (suc at) calls) (drop (suc at) replies) (met && is)
step begin calls replies now new at reply met is so there decides went =
    let one : IsFollowing begin calls replies now (drop at calls) (reply ∷ drop (suc at) replies) met =
    subst (λ behind. IsFollowing begin calls replies now (drop at calls) behind met) there so in
    record {
      inner = subst IsInner (sym went) (all_inner now (reply ∷ []) one.inner);
      walk = ap (λ b. all_replied b (drop (suc at) replies)) went ∙ one.walk;
      forwards = λ true_both each.
          let asked = decides.0 (and_right met is true_both) in
          one.forwards (and_left met is true_both)
          (subst (λ left. AsksEach now left (reply ∷ drop (suc at) replies)) (sym (from_there calls at asked.0 asked.1))
          (asked.2, subst (λ b. AsksEach b (drop (suc at) calls) (drop (suc at) replies)) went each));
      backwards = λ all.
          let each = one.backwards all in
          let first = ahead now (drop at calls) reply (drop (suc at) replies) each.1 in
          let here = at_there calls at first.0 first.1 first.2 in (
            both met is each.0 (decides.1 (first.0, here.0, first.3)),
            subst (λ b. AsksEach b (drop (suc at) calls) (drop (suc at) replies)) (sym went)
                (subst (λ left. AsksEach (replied now reply) left (drop (suc at) replies)) here.1 first.4),
          );
    }

-- the same with the next place as a sum
pub step_on : (begin : BlockWalk) (calls : List Call) (replies : List Reply) (now new : BlockWalk) (at : ℕ) (reply : Reply) (met is : Bool)
    → IsFollowing begin calls replies now (drop at calls) (drop at replies) met → drop at replies ≡ reply ∷ drop (suc at) replies
    → Decides is (IsAskedAt now calls at) → new ≡ replied now reply
    → IsFollowing begin calls replies new (drop (at + 1) calls) (drop (at + 1) replies) (met && is)
step_on begin calls replies now new at reply met is so there decides went =
    subst (λ n. IsFollowing begin calls replies new (drop n calls) (drop n replies) (met && is)) (sym (add-one at))
    (step begin calls replies now new at reply met is so there decides went)

-- before the first reply
pub begins : (begin : BlockWalk) (calls : List Call) (replies : List Reply) → IsInner begin
    → IsFollowing begin calls replies begin calls replies true
begins begin calls replies inner =
    record { inner = inner; walk = refl; forwards = λ _ each. each; backwards = λ each. (refl, each) }

none_left : (b : BlockWalk) (left : List Call) → left ≡ [] → AsksEach b left []
none_left b left none = subst (λ calls. AsksEach b calls []) (sym none) refl

left_none : (b : BlockWalk) (left : List Call) → AsksEach b left [] → left ≡ []
left_none b [] each = refl
left_none b (call ∷ left) each = absurd each

-- behind the last reply each call was asked just where none is left
ended : (begin : BlockWalk) (calls : List Call) (replies : List Reply) (now : BlockWalk) (left : List Call) (behind : List Reply)
    → IsFollowing begin calls replies now left behind true → behind ≡ []
    → (left ≡ [] → AsksEach begin calls replies) × (AsksEach begin calls replies → left ≡ [])
ended begin calls replies now left behind so none =
    let last : IsFollowing begin calls replies now left [] true =
    subst (λ b. IsFollowing begin calls replies now left b true) none so in (
      λ no_call. last.forwards refl (none_left now left no_call),
      λ all. left_none now left (last.backwards all).1,
    )

few_left : (calls : List Call) (at : ℕ) → drop at calls ≡ [] → length calls ≤ at
few_left [] at none = omega arith
few_left (c ∷ calls) zero none = absurd (let some : c ∷ calls ≡ [] = none in cc)
few_left (c ∷ calls) (suc at) none = let few = few_left calls at none in omega (arith, few)

-- so it is where there are no more calls than replies
pub ended_by : (begin : BlockWalk) (calls : List Call) (replies : List Reply) (now : BlockWalk) (at : ℕ)
    → IsFollowing begin calls replies now (drop at calls) (drop at replies) true → length replies ≤ at → at ≤ length replies
    → Decides (leb (length calls) (length replies)) (AsksEach begin calls replies)
ended_by begin calls replies now at so past within =
    let end = ended begin calls replies now (drop at calls) (drop at replies) so (drop_all at replies past) in
    let same : at ≡ length replies = omega (arith, past, within) in (
      λ few. end.0 (drop_all at calls (let less = leb-true (length calls) (length replies) few in omega (arith, less, same))),
      λ all. le-leb (length calls) (length replies) (let few = few_left calls at (end.1 all) in omega (arith, few, same)),
    )
