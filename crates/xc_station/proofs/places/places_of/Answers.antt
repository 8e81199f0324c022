use Rattle.std.proofs.Common.{◌≡◌, ℕ, ◌+◌, Bool, true, false, ◌||◌, ◌≤◌, List, [], ◌∷◌, ◌++◌, length, Option, None, Some, cond}
use Rattle.std.proofs.Common.{refl, ap, sym, ◌∙◌, subst}
use Rattle.std.specs.Prelude.{nat_eq, is_some, unwrap_or}
use Rattle.std.specs.Cmp.Lexicographic.{pointwise, nat_list_cmp_total, nat_list_eq_equiv, same_text, texts_ties}
use Rattle.std.specs.FinMap as map
use Rattle.std.specs.List.{IsDistinct, AllByRecursion, list_any, position, position_from}
use Rattle.std.specs.Ordering.{eq_by_cmp}
use Rattle.std.proofs.lemmas.List.{drop_all}
use Rattle.std.proofs.lemmas.Iterator.Adapters.{position_from-zero}
use Rattle.std.proofs.lemmas.List.Sorted.{list_any-IsPermutation}
use Rattle.xc_maps.specs.Keys.{name_cmp}
use Rattle.xc_text.specs.declared.script.Block.{Block}
use Rattle.xc_text.specs.declared.script.Script.{Script}
use Rattle.xc_text.specs.Scripts.{IsScript, names_of}
use Rattle.xc_model.specs.Starts.{is_block_in}
use Rattle.xc_station.specs.Places.{IndexesBlocks}
use Rattle.xc_station.proofs.places.places_of.Invariants.{with_places}
use Rattle.xc_station.proofs.places.places_of.Goals as goal

abbrev Places : Type 0
Places = map.FinMap name_cmp ℕ

-- whether a block has this name
abbrev named : List ℕ → Block → Bool
named name b = pointwise nat_eq b.name name

-- where a place is there it is that, and otherwise what was there before
abbrev later : Option ℕ → Option ℕ → Option ℕ
later (Some at) old = Some at
later None old = old

-- a name apart from those of all blocks has no place among them
nowhere : (name : List ℕ) (blocks : List Block) (at : ℕ) → AllByRecursion (λ n. pointwise nat_eq name n ≡ false) (names_of blocks) →
    position_from (named name) at blocks ≡ None
nowhere name [] at apart = refl
nowhere name (b ∷ blocks) at apart =
    ap (λ t. cond t (Some at) (position_from (named name) (at + 1) blocks)) (nat_list_eq_equiv.symm b.name name ∙ apart.0)
    ∙ nowhere name blocks (at + 1) apart.1

-- what one block more leaves at a name
one_more : (b : Block) (blocks : List Block) (at : ℕ) (places : Places) (name : List ℕ) (t : Bool) →
    AllByRecursion (λ n. pointwise nat_eq b.name n ≡ false) (names_of blocks) → pointwise nat_eq b.name name ≡ t →
    later (position_from (named name) (at + 1) blocks) (cond t (Some at) (map.get places name))
    ≡ later (cond t (Some at) (position_from (named name) (at + 1) blocks)) (map.get places name)
one_more b blocks at places name false apart is = refl
one_more b blocks at places name true apart is =
    let same : b.name ≡ name = same_text b.name name (sym is) in
    let none = nowhere name blocks (at + 1) (subst (λ n. AllByRecursion (λ m. pointwise nat_eq n m ≡ false) (names_of blocks)) same apart) in
    ap (λ o. later o (Some at)) none

-- of blocks with different names each name has its place, and any other what it had
with_places-get : (blocks : List Block) (at : ℕ) (places : Places) (name : List ℕ) → IsDistinct (pointwise nat_eq) (names_of blocks) →
    map.get (with_places blocks at places) name ≡ later (position_from (named name) at blocks) (map.get places name)
unfolding IsDistinct
with_places-get [] at places name distinct = refl
with_places-get (b ∷ blocks) at places name distinct =
    let behind = with_places-get blocks (at + 1) (map.insert places b.name at) name distinct.1 in
    let test : eq_by_cmp name_cmp name b.name ≡ pointwise nat_eq b.name name =
    sym (texts_ties name b.name) ∙ nat_list_eq_equiv.symm name b.name in
    let there : map.get (map.insert places b.name at) name ≡ cond (pointwise nat_eq b.name name) (Some at) (map.get places name) =
    map.get-insert nat_list_cmp_total places b.name at name ∙ ap (λ t. cond t (Some at) (map.get places name)) test in
    behind ∙ ap (later (position_from (named name) (at + 1) blocks)) there
    ∙ one_more b blocks at places name (pointwise nat_eq b.name name) distinct.0 refl

some_at : (t : Bool) (at : ℕ) (o : Option ℕ) → is_some (cond t (Some at) o) ≡ (t || is_some o)
some_at true at o = refl
some_at false at o = refl

-- a name has a place exactly where a block has it
has_place : (name : List ℕ) (blocks : List Block) (at : ℕ) →
    is_some (position_from (named name) at blocks) ≡ list_any (λ n. pointwise nat_eq n name) (names_of blocks)
has_place name [] at = refl
has_place name (b ∷ blocks) at =
    some_at (pointwise nat_eq b.name name) at (position_from (named name) (at + 1) blocks)
    ∙ ap (λ t. pointwise nat_eq b.name name || t) (has_place name blocks (at + 1))

split : (o : Option ℕ) → o ≡ cond (is_some o) (Some (unwrap_or o 0)) None
split None = refl
split (Some at) = refl

no_later : (o : Option ℕ) → later o None ≡ o
no_later None = refl
no_later (Some at) = refl

-- all blocks of a script make its index
indexed : (script : Script) → IsScript script → IndexesBlocks script (with_places script.blocks 0 map.empty)
indexed script is = λ name.
    let at = position_from (named name) 0 script.blocks in
    let there = position (named name) script.blocks in
    let same : there ≡ at = position_from-zero (named name) script.blocks in
    let known : is_some at ≡ is_block_in script name =
    has_place name script.blocks 0
    ∙ sym (list_any-IsPermutation (λ n. pointwise nat_eq n name) (script.outline.jobs ++ script.outline.bodies) (names_of script.blocks) is.named) in
    let found : map.get (with_places script.blocks 0 map.empty) name ≡ at =
    with_places-get script.blocks 0 map.empty name is.distinct ∙ ap (later at) (map.get-empty name_cmp name) ∙ no_later at in
    found ∙ split at ∙ ap (λ t. cond t (Some (unwrap_or at 0)) None) known
    ∙ ap (λ o. cond (is_block_in script name) (Some (unwrap_or o 0)) None) (sym same)

pub returns : goal.returns
returns c =
    let script = c.args.script.now in
    let past : length script.blocks ≤ c.loop-at.at = subst (λ blocks. length blocks ≤ c.loop-at.at) c.as_slice-block-items.ensures c.loop-at-test.false in
    let all : c.loop-at.places ≡ with_places script.blocks 0 map.empty =
    ap (λ blocks. with_places blocks c.loop-at.at c.loop-at.places) (sym (drop_all c.loop-at.at script.blocks past)) ∙ c.loop-at.invariant in
    subst (IndexesBlocks script) (sym all) (indexed script c.requires)
