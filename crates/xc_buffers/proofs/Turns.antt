-- Changes of one value of a finite map by number, one after another.
use Rattle.std.proofs.Common.{◌≡◌, ◌≢◌, Bool, true, false, cond, Option, Some, None, refl, ap, sym, ◌∙◌}
use Rattle.std.specs.Ordering.{eq_by_cmp}
use Rattle.std.specs.FinMap.{FinMap, get, insert, remove, get-insert, get-remove, same_map}
use Rattle.xc_data.specs.declared.object.Num.{Num}
use Rattle.xc_maps.specs.Keys.{num_cmp}
use Rattle.xc_maps.proofs.Laws.{alike, tied, get-insert_same, get-insert_other, get-remove_other, insert-insert_same, insert-insert_other, num_total, num_exact}

module _ {X : Type 0} where
  -- the value of a number becomes another, by what was there
  abbrev pub change : FinMap num_cmp X → Num → (Option X → X) → FinMap num_cmp X
  change m k f = insert m k (f (get m k))

  -- changes of two numbers go in either order
  pub change_other : (m : FinMap num_cmp X) (j k : Num) (g f : Option X → X) → j ≢ k → change (change m j g) k f ≡ change (change m k f) j g
  change_other m j k g f ne =
      let u = g (get m j) in
      let v = f (get m k) in
      ap (λ o. insert (insert m j u) k (f o)) (get-insert_other num_total num_exact m j k u (λ e. ne (sym e)))
      ∙ insert-insert_other num_total num_exact m j k u v ne
      ∙ ap (λ o. insert (insert m k v) j (g o)) (sym (get-insert_other num_total num_exact m k j v ne))

  -- of two changes of one number the second sees the first
  pub change_same : (m : FinMap num_cmp X) (k : Num) (g f : Option X → X) → change (change m k g) k f ≡ change m k (λ o. f (Some (g o)))
  change_same m k g f =
      let u = g (get m k) in
      ap (λ o. insert (insert m k u) k (f o)) (get-insert_same num_total num_exact m k u)
      ∙ insert-insert_same num_total num_exact m k u (f (Some u))

  -- two changes that go in either order where the number is one
  pub change_apart : (m : FinMap num_cmp X) (j k : Num) (g f : Option X → X)
      → (eq_by_cmp num_cmp j k ≡ true → (o : Option X) → f (Some (g o)) ≡ g (Some (f o)))
      → change (change m j g) k f ≡ change (change m k f) j g
  change_apart m j k g f same = by_test (eq_by_cmp num_cmp j k) refl
    where
      together : (i : Num) → i ≡ k → ((o : Option X) → f (Some (g o)) ≡ g (Some (f o))) → change (change m i g) k f ≡ change (change m k f) i g
      together i e h =
          ap (λ n. change (change m n g) k f) e ∙ change_same m k g f ∙ ap (λ v. insert m k v) (h (get m k)) ∙ sym (change_same m k f g)
          ∙ ap (λ n. change (change m k f) n g) (sym e)

      by_test : (b : Bool) → eq_by_cmp num_cmp j k ≡ b → change (change m j g) k f ≡ change (change m k f) j g
      by_test true e = together j (tied num_total num_exact j k e) (same e)
      by_test false e = change_other m j k g f (λ is. true_false (sym (ap (λ n. eq_by_cmp num_cmp j n) (sym is) ∙ alike num_total num_exact j) ∙ e))
        where
          true_false : true ≡ false → ⊥
          true_false h = cc

  -- what a number has after a change
  pub get-change : (m : FinMap num_cmp X) (k q : Num) (f : Option X → X) → get (change m k f) q ≡ cond (eq_by_cmp num_cmp q k) (Some (f (get m k))) (get m q)
  get-change m k q f = get-insert num_total m k (f (get m k)) q

  -- a number goes, and another is changed
  pub change-remove : (m : FinMap num_cmp X) (j k : Num) (f : Option X → X) → j ≢ k → change (remove m j) k f ≡ remove (change m k f) j
  change-remove m j k f ne = same_map num_total num_exact _ _ (λ q.
      get-insert num_total (remove m j) k (f (get (remove m j) k)) q
      ∙ ap (λ v. cond (eq_by_cmp num_cmp q k) (Some (f v)) (get (remove m j) q)) (gone (λ e. ne (sym e)))
      ∙ ap (cond (eq_by_cmp num_cmp q k) (Some (f (get m k)))) (get-remove num_total m j q)
      ∙ both_at (f (get m k)) (get m q) (eq_by_cmp num_cmp q j) (eq_by_cmp num_cmp q k)
      (λ a b. ne (sym (tied num_total num_exact q j a) ∙ tied num_total num_exact q k b))
      ∙ ap (cond (eq_by_cmp num_cmp q j) None) (sym (get-insert num_total m k (f (get m k)) q))
      ∙ sym (get-remove num_total (change m k f) j q))
    where
      gone : k ≢ j → get (remove m j) k ≡ get m k
      gone apart = get-remove_other num_total num_exact m j k apart

      both_at : (x : X) (g : Option X) (b c : Bool) → (b ≡ true → c ≡ true → ⊥) → cond c (Some x) (cond b None g) ≡ cond b None (cond c (Some x) g)
      both_at x g true true h = absurd (h refl refl)
      both_at x g true false h = refl
      both_at x g false true h = refl
      both_at x g false false h = refl
