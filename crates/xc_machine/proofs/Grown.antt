-- A file that is taken out, changed and put back.
use Rattle.std.proofs.Common.{◌≡◌, ℕ, List, [], Some, ap, sym, ◌∙◌}
use Rattle.std.specs.Prelude.{unwrap_or}
use Rattle.std.specs.FinMap as map
use Rattle.xc_data.specs.declared.object.Num.{Num}
use Rattle.xc_maps.specs.Keys.{num_cmp}
use Rattle.xc_maps.proofs.Laws.{insert-insert_same, insert-get_same, num_total, num_exact}
use Rattle.xc_world.specs.World.{World, file_of, with_file}

-- it is changed
pub changed_back : (f : List ℕ → List ℕ) (w : World) (num : Num) (body empty next : List ℕ) (without with_it : map.FinMap num_cmp (List ℕ))
    → Some body ≡ map.get w.files num → without ≡ map.insert w.files num empty → next ≡ f body → with_it ≡ map.insert without num next
    → record w { files = with_it } ≡ with_file w num (f (file_of w num))
changed_back f w num body empty next without with_it held taken over put =
    ap (λ m. record w { files = m })
    (put ∙ ap (λ m. map.insert m num next) taken ∙ insert-insert_same num_total num_exact w.files num empty next
    ∙ ap (map.insert w.files num) (over ∙ ap (λ o. f (unwrap_or o [])) held))

-- it is put back as it was
pub same_back : (w : World) (num : Num) (body empty next : List ℕ) (without with_it : map.FinMap num_cmp (List ℕ))
    → Some body ≡ map.get w.files num → without ≡ map.insert w.files num empty → next ≡ body → with_it ≡ map.insert without num next
    → record w { files = with_it } ≡ w
same_back w num body empty next without with_it held taken same put =
    ap (λ m. record w { files = m })
    (put ∙ ap (λ m. map.insert m num next) taken ∙ insert-insert_same num_total num_exact w.files num empty next
    ∙ ap (map.insert w.files num) same ∙ insert-get_same num_total num_exact w.files num body (sym held))
