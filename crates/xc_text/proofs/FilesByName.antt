-- An index of the names of files, and counts of pipes and of pairs.
use Rattle.std.proofs.Common.{◌≡◌, ℕ, Bool, true, false, List, [], ◌∷◌, ◌++◌, Option, Some, cond, refl, ap, sym, ◌∙◌, ◌||◌, arith}
use Rattle.std.specs.Prelude.{is_some, count_by}
use Rattle.std.specs.Cmp.Lexicographic.{nat_list_cmp_total, texts_ties}
use Rattle.std.specs.FinMap as map
use Rattle.std.specs.List.{list_any}
use Rattle.std.specs.Ordering.{eq_by_cmp}
use Rattle.std.proofs.lemmas.List.Folds.{list_any-append}
use Rattle.std.proofs.lemmas.List.Sums.{sum_by_push}
use Rattle.xc_data.specs.declared.script.Opened.{Opened}
use Rattle.xc_data.specs.declared.script.Opened.TheVariants.{File}
use Rattle.xc_data.specs.Limits.{is_pipe_line, is_pair_line}
use Rattle.xc_maps.specs.Keys.{name_cmp}
use Rattle.xc_text.specs.Views.{NamesFiles}
use Rattle.xc_text.specs.Steps.{is_file_of}

-- no name has no file
pub no_names_files : NamesFiles map.empty []
no_names_files name = ap is_some (map.get-empty name_cmp name)

is_some_more : (b there : Bool) (found : Option (Unit {0})) → is_some found ≡ there → is_some (cond b (Some tt) found) ≡ (there || (b || false))
is_some_more true true found e = refl
is_some_more true false found e = refl
is_some_more false true found e = e
is_some_more false false found e = e

-- one name more, and its file
pub one_name_more : (names : map.FinMap name_cmp (Unit {0})) (objects : List Opened) (name bytes : List ℕ) → NamesFiles names objects →
    NamesFiles (map.insert names name tt) (objects ++ File name bytes ∷ [])
one_name_more names objects name bytes is q =
    ap is_some (map.get-insert nat_list_cmp_total names name tt q)
    ∙ is_some_more (eq_by_cmp name_cmp q name) (list_any (is_file_of q) objects) (map.get names q) (is q)
    ∙ ap (λ b. list_any (is_file_of q) objects || (b || false)) (sym (texts_ties q name))
    ∙ sym (list_any-append (is_file_of q) objects (File name bytes ∷ []))

-- a file is no pipe
pub pipes_stay : (objects : List Opened) (name bytes : List ℕ) → count_by is_pipe_line objects ≡ count_by is_pipe_line (objects ++ File name bytes ∷ [])
pipes_stay objects name bytes = omega (arith, sum_by_push (λ o. cond (is_pipe_line o) 1 0) objects (File name bytes))

-- a file is no pair
pub pairs_stay : (objects : List Opened) (name bytes : List ℕ) → count_by is_pair_line objects ≡ count_by is_pair_line (objects ++ File name bytes ∷ [])
pairs_stay objects name bytes = omega (arith, sum_by_push (λ o. cond (is_pair_line o) 1 0) objects (File name bytes))
