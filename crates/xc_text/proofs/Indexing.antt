-- Names in order, and an index of them.
use Rattle.std.proofs.Common.{◌≡◌, ℕ, Bool, true, false, List, [], ◌∷◌, ◌++◌, Option, Some, cond, refl, ap, sym, ◌∙◌, ◌||◌}
use Rattle.std.proofs.Common.{subst, append_assoc}
use Rattle.std.specs.Prelude.{IsPermutation, is_some, nat_eq}
use Rattle.std.specs.Cmp.Lexicographic.{pointwise, nat_list_cmp_total, nat_list_eq_equiv, texts_ties}
use Rattle.std.specs.FinMap as map
use Rattle.std.specs.List.{IsDistinct, AllByRecursion}
use Rattle.std.specs.Ordering.{eq_by_cmp}
use Rattle.std.proofs.lemmas.Bool.{or_parts}
use Rattle.std.proofs.lemmas.List.Folds.{list_any-append}
use Rattle.std.proofs.lemmas.List.Sorted.{IsPermutation-sym, IsPermutation-trans, IsPermutation-to_front, IsPermutation-append_left}
use Rattle.std.proofs.lemmas.List.Sorted.{IsPermutation-append_right, list_any-IsPermutation}
use Rattle.std.proofs.lemmas.Map.Keys.{IsDistinct-IsPermutation}
use Rattle.xc_maps.specs.Keys.{name_cmp}
use Rattle.xc_text.specs.Steps.{is_among}
use Rattle.xc_text.specs.Views.{Indexes}

-- no name is in no list
pub no_index : Indexes map.empty []
no_index name = ap is_some (map.get-empty name_cmp name)

found_more : (b there : Bool) (found : Option (Unit {0})) → is_some found ≡ there → is_some (cond b (Some tt) found) ≡ (there || (b || false))
found_more true true found e = refl
found_more true false found e = refl
found_more false true found e = e
found_more false false found e = e

-- one name more
index_more : (index : map.FinMap name_cmp (Unit {0})) (names : List (List ℕ)) (name : List ℕ) → Indexes index names →
    Indexes (map.insert index name tt) (names ++ name ∷ [])
index_more index names name is q =
    ap is_some (map.get-insert nat_list_cmp_total index name tt q)
    ∙ found_more (eq_by_cmp name_cmp q name) (is_among q names) (map.get index q) (is q)
    ∙ ap (λ b. is_among q names || (b || false)) (sym (texts_ties q name) ∙ nat_list_eq_equiv.symm q name)
    ∙ sym (list_any-append (λ other. pointwise nat_eq other q) names (name ∷ []))

apart_more : (k : List ℕ) (names : List (List ℕ)) (name : List ℕ) → AllByRecursion (λ y. pointwise nat_eq k y ≡ false) names →
    pointwise nat_eq k name ≡ false → AllByRecursion (λ y. pointwise nat_eq k y ≡ false) (names ++ name ∷ [])
apart_more k [] name all is = (is, tt)
apart_more k (other ∷ names) name all is = (all.0, apart_more k names name all.1 is)

-- a name that is none of some different ones makes them one more
distinct_more : (names : List (List ℕ)) (name : List ℕ) → is_among name names ≡ false → IsDistinct (pointwise nat_eq) names →
    IsDistinct (pointwise nat_eq) (names ++ name ∷ [])
unfolding IsDistinct
distinct_more [] name new all = (tt, tt)
distinct_more (k ∷ names) name new all =
    let parts = or_parts (pointwise nat_eq k name) (is_among name names) new in
    (apart_more k names name all.0 parts.0, distinct_more names name parts.1 all.1)

-- the names of blocks with that of a job more, which might as well stand after all
job_moved : (jobs bodies : List (List ℕ)) (name : List ℕ) → IsPermutation ((jobs ++ bodies) ++ name ∷ []) ((jobs ++ name ∷ []) ++ bodies)
job_moved jobs bodies name =
    let moved = IsPermutation-append_right jobs (bodies ++ name ∷ []) (name ∷ bodies) (IsPermutation-to_front bodies name) in
    let behind = subst (λ ys. IsPermutation (jobs ++ (bodies ++ name ∷ [])) ys) (sym (append_assoc jobs (name ∷ []) bodies)) moved in
    subst (λ xs. IsPermutation xs ((jobs ++ name ∷ []) ++ bodies)) (sym (append_assoc jobs bodies (name ∷ []))) behind

-- an index of names is one of them in any order
index_moved : (index : map.FinMap name_cmp (Unit {0})) (names moved : List (List ℕ)) → IsPermutation names moved → Indexes index names
    → Indexes index moved
index_moved index names moved same is q = is q ∙ list_any-IsPermutation (λ other. pointwise nat_eq other q) names moved same

-- the name of a job more
pub job_name_more : (index : map.FinMap name_cmp (Unit {0})) (jobs bodies : List (List ℕ)) (name : List ℕ) → Indexes index (jobs ++ bodies)
    → Indexes (map.insert index name tt) ((jobs ++ name ∷ []) ++ bodies)
job_name_more index jobs bodies name is =
    index_moved (map.insert index name tt) ((jobs ++ bodies) ++ name ∷ []) ((jobs ++ name ∷ []) ++ bodies) (job_moved jobs bodies name)
    (index_more index (jobs ++ bodies) name is)

-- the name of a body more
pub one_body_more : (index : map.FinMap name_cmp (Unit {0})) (jobs bodies : List (List ℕ)) (name : List ℕ) → Indexes index (jobs ++ bodies)
    → Indexes (map.insert index name tt) (jobs ++ (bodies ++ name ∷ []))
one_body_more index jobs bodies name is =
    subst (λ names. Indexes (map.insert index name tt) names) (append_assoc jobs bodies (name ∷ [])) (index_more index (jobs ++ bodies) name is)

-- the names of blocks in another order are those with a job more
pub job_among : (jobs bodies names : List (List ℕ)) (name : List ℕ) → IsPermutation (jobs ++ bodies) names
    → IsPermutation ((jobs ++ name ∷ []) ++ bodies) (names ++ name ∷ [])
job_among jobs bodies names name same =
    let all = (jobs ++ bodies) ++ name ∷ [] in
    let with_job = (jobs ++ name ∷ []) ++ bodies in
    IsPermutation-trans with_job all (names ++ name ∷ []) (IsPermutation-sym all with_job (job_moved jobs bodies name))
    (IsPermutation-append_left (name ∷ []) (jobs ++ bodies) names same)

-- and with a body more
pub body_among : (jobs bodies names : List (List ℕ)) (name : List ℕ) → IsPermutation (jobs ++ bodies) names
    → IsPermutation (jobs ++ (bodies ++ name ∷ [])) (names ++ name ∷ [])
body_among jobs bodies names name same =
    subst (λ all. IsPermutation all (names ++ name ∷ [])) (append_assoc jobs bodies (name ∷ []))
    (IsPermutation-append_left (name ∷ []) (jobs ++ bodies) names same)

-- different names are so in any order
pub distinct_moved : (names moved : List (List ℕ)) → IsPermutation names moved → IsDistinct (pointwise nat_eq) names
    → IsDistinct (pointwise nat_eq) moved
distinct_moved names moved same all = IsDistinct-IsPermutation (pointwise nat_eq) nat_list_eq_equiv.symm names moved same all

-- a job whose name no block has
pub distinct_job : (jobs bodies : List (List ℕ)) (name : List ℕ) → is_among name (jobs ++ bodies) ≡ false
    → IsDistinct (pointwise nat_eq) (jobs ++ bodies) → IsDistinct (pointwise nat_eq) ((jobs ++ name ∷ []) ++ bodies)
distinct_job jobs bodies name new all =
    distinct_moved ((jobs ++ bodies) ++ name ∷ []) ((jobs ++ name ∷ []) ++ bodies) (job_moved jobs bodies name)
    (distinct_more (jobs ++ bodies) name new all)

-- a body whose name no block has
pub distinct_body : (jobs bodies : List (List ℕ)) (name : List ℕ) → is_among name (jobs ++ bodies) ≡ false
    → IsDistinct (pointwise nat_eq) (jobs ++ bodies) → IsDistinct (pointwise nat_eq) (jobs ++ (bodies ++ name ∷ []))
distinct_body jobs bodies name new all =
    subst (IsDistinct (pointwise nat_eq)) (append_assoc jobs bodies (name ∷ [])) (distinct_more (jobs ++ bodies) name new all)
