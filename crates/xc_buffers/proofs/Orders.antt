-- The order of sources is total, and a source in it is one.
use Rattle.std.proofs.Common.{◌≡◌, ℕ, true, false, refl, ap, sym, ◌∙◌}
use Rattle.std.specs.declared.cmp.Ordering.{Ordering}
use Rattle.std.specs.declared.cmp.Ordering.TheVariants.{Less, Equal, Greater}
use Rattle.std.specs.Ordering.{nat_cmp, ordering_reverse, then_cmp, on, is_lt, is_eq, is_gt, eq_by_cmp}
use Rattle.std.specs.Cmp.{IsTotalOrder, nat_cmp_total}
use Rattle.std.proofs.lemmas.Cmp.{on_total, then_total, tied_itself, upto}
use Rattle.std.proofs.lemmas.Map.Lookups.{CmpEqualImpliesEq, exact_unsigned, exact_pairs}
use Rattle.xc_data.specs.declared.object.Num.{Num}
use Rattle.xc_maps.specs.Keys.{num_cmp}
use Rattle.xc_maps.proofs.Laws.{alike, tied, num_total, num_exact}
use Rattle.xc_buffers.specs.declared.source.Endpoint.{Endpoint}
use Rattle.xc_buffers.specs.declared.source.Endpoint.TheVariants.{Pipe, Side}
use Rattle.xc_buffers.specs.Sources.{source_cmp, is_before}

sides : IsTotalOrder (then_cmp (on (λ (p : Num × ℕ). p.0) num_cmp) (on (λ (p : Num × ℕ). p.1) nat_cmp))
sides = then_total (on_total (λ (p : Num × ℕ). p.0) num_total) (on_total (λ (p : Num × ℕ). p.1) nat_cmp_total)

turned_source : (x y : Endpoint) → source_cmp x y ≡ ordering_reverse (source_cmp y x)
turned_source (Pipe a) (Pipe b) = num_total.antisymm a b
turned_source (Pipe a) (Side b t) = refl
turned_source (Side a s) (Pipe b) = refl
turned_source (Side a s) (Side b t) = sides.antisymm (a, s) (b, t)

less_source : (x y z : Endpoint) → source_cmp x y ≡ Less → source_cmp y z ≡ Less → source_cmp x z ≡ Less
less_source (Pipe a) (Pipe b) (Pipe c) p q = num_total.trans a b c p q
less_source (Pipe a) (Pipe b) (Side c u) p q = refl
less_source (Pipe a) (Side b t) (Pipe c) p q = cc
less_source (Pipe a) (Side b t) (Side c u) p q = refl
less_source (Side a s) (Pipe b) (Pipe c) p q = cc
less_source (Side a s) (Pipe b) (Side c u) p q = cc
less_source (Side a s) (Side b t) (Pipe c) p q = cc
less_source (Side a s) (Side b t) (Side c u) p q = sides.trans (a, s) (b, t) (c, u) p q

alike_source : (x y z : Endpoint) → source_cmp x y ≡ Equal → source_cmp x z ≡ source_cmp y z
alike_source (Pipe a) (Pipe b) (Pipe c) p = num_total.congr a b c p
alike_source (Pipe a) (Pipe b) (Side c u) p = refl
alike_source (Pipe a) (Side b t) (Pipe c) p = cc
alike_source (Pipe a) (Side b t) (Side c u) p = cc
alike_source (Side a s) (Pipe b) (Pipe c) p = cc
alike_source (Side a s) (Pipe b) (Side c u) p = cc
alike_source (Side a s) (Side b t) (Pipe c) p = refl
alike_source (Side a s) (Side b t) (Side c u) p = sides.congr (a, s) (b, t) (c, u) p

-- the order of sources is total
pub source_total : IsTotalOrder source_cmp
source_total = record { antisymm = turned_source; trans = less_source; congr = alike_source }

-- sources that compare as equal are the same
pub source_exact : CmpEqualImpliesEq source_cmp
source_exact (Pipe a) (Pipe b) h = ap Pipe (num_exact a b h)
source_exact (Pipe a) (Side b t) h = cc
source_exact (Side a s) (Pipe b) h = cc
source_exact (Side a s) (Side b t) h = ap (λ (p : Num × ℕ). Side p.0 p.1) (exact_pairs num_cmp nat_cmp num_exact exact_unsigned (a, s) (b, t) h)

-- a source is its own
pub own_source : (a : Endpoint) → eq_by_cmp source_cmp a a ≡ true
own_source a = alike source_total source_exact a

-- sources that tie are one
pub one_source : (a b : Endpoint) → eq_by_cmp source_cmp a b ≡ true → a ≡ b
one_source a b e = tied source_total source_exact a b e

-- no source stands before itself
pub before_itself : (a : Endpoint) → is_before a a ≡ false
before_itself a = ap is_lt (tied_itself source_total a)

greater_apart : (r : Ordering) → is_lt r ≡ true → is_eq (ordering_reverse r) ≡ false
greater_apart Less e = refl
greater_apart Equal e = cc
greater_apart Greater e = cc

-- one that stands before a source is another
pub before_apart : (a b : Endpoint) → is_before a b ≡ true → eq_by_cmp source_cmp b a ≡ false
before_apart a b e = ap is_eq (turned_source b a) ∙ greater_apart (source_cmp a b) e

less_apart : (r : Ordering) → is_lt r ≡ true → is_eq r ≡ false
less_apart Less e = refl
less_apart Equal e = cc
less_apart Greater e = cc

-- one that stands after a source is another
pub behind_apart : (a b : Endpoint) → is_before b a ≡ true → eq_by_cmp source_cmp b a ≡ false
behind_apart a b e = less_apart (source_cmp b a) e

neither_apart : (r : Ordering) → is_lt r ≡ false → is_lt (ordering_reverse r) ≡ false → is_eq r ≡ true
neither_apart Less e f = cc
neither_apart Equal e f = refl
neither_apart Greater e f = cc

-- of two sources of which none stands before the other both are one
pub neither : (a b : Endpoint) → is_before a b ≡ false → is_before b a ≡ false → eq_by_cmp source_cmp a b ≡ true
neither a b e f = neither_apart (source_cmp a b) e (ap is_lt (sym (turned_source b a)) ∙ f)

greater_not : (r : Ordering) → is_lt r ≡ true → is_lt (ordering_reverse r) ≡ false
greater_not Less e = refl
greater_not Equal e = cc
greater_not Greater e = cc

-- of two sources one at most stands before the other
pub before_not : (a b : Endpoint) → is_before a b ≡ true → is_before b a ≡ false
before_not a b e = ap is_lt (turned_source b a) ∙ greater_not (source_cmp a b) e

reversed_gt : (r : Ordering) → is_gt (ordering_reverse r) ≡ is_lt r
reversed_gt Less = refl
reversed_gt Equal = refl
reversed_gt Greater = refl

gt_lt : (a b : Endpoint) → is_gt (source_cmp b a) ≡ is_lt (source_cmp a b)
gt_lt a b = ap is_gt (turned_source b a) ∙ reversed_gt (source_cmp a b)

-- what doesn't stand before a second one, which doesn't stand before a third, doesn't stand before the third
pub not_before : (a b c : Endpoint) → is_before a b ≡ false → is_before b c ≡ false → is_before a c ≡ false
not_before a b c p q = sym (gt_lt a c) ∙ upto source_total c b a (gt_lt b c ∙ q) (gt_lt a b ∙ p)
