-- What a journal leads to, with one entry more.
use Rattle.std.proofs.Common.{◌≡◌, ◌+◌, ◌-◌, List, [], ◌∷◌, ◌++◌, length, suc, refl, ap, ◌∙◌, arith, append-nil, length-append}
use Rattle.std.specs.Prelude.{replicate}
use Rattle.std.specs.List.{fold}
use Rattle.std.proofs.lemmas.List.Sums.{fold_push}
use Rattle.xc_data.specs.declared.entry.Entry.{Entry}
use Rattle.xc_text.specs.declared.script.Script.{Script}
use Rattle.xc_script.specs.declared.ask.Ask.{Ask}
use Rattle.xc_model.specs.Setting.{Setting}
use Rattle.xc_model.specs.Grounds.{Part}
use Rattle.xc_model.specs.Progress.{Progress, after_entry, opening_progress, progress_of}
use Rattle.xc_model.specs.Joint.{AreTrue, IsTrueEntry, part_of, parts_from, entry_parts}
use Rattle.xc_model.specs.Rows.{lasts_behind}

-- the entry leads on from where the journal led
pub progress-more : (script : Script) (journal : List Entry) (e : Entry)
    → progress_of script (journal ++ e ∷ []) ≡ after_entry script (progress_of script journal) e
progress-more script journal e = fold_push (after_entry script) (opening_progress script) journal e

entered-from : (script : Script) (p : Progress) (journal : List Entry) → (fold (after_entry script) p journal).entered ≡ p.entered + length journal
entered-from script p [] = let h : p.entered ≡ p.entered + 0 = omega arith in h
entered-from script p (e ∷ journal) =
    entered-from script (after_entry script p e) journal ∙ (let h : p.entered + 1 + length journal ≡ p.entered + suc (length journal) = omega arith in h)

-- as many entries led there as the journal has
pub entered-all : (script : Script) (journal : List Entry) → (progress_of script journal).entered ≡ length journal
entered-all script journal = entered-from script (opening_progress script) journal ∙ (let h : 0 + length journal ≡ length journal = omega arith in h)

-- ---- a true journal, with what was asked last of each entry
lasts_count_from : (s : Setting) (p : Progress) (lasts : List Ask) (journal : List Entry) → AreTrue s p lasts journal → length lasts ≡ length journal
lasts_count_from s p lasts [] h = ap length h
lasts_count_from s p [] (e ∷ journal) h = absurd h
lasts_count_from s p (last ∷ lasts) (e ∷ journal) h = ap suc (lasts_count_from s (after_entry s.script p e) lasts journal h.1)

-- of each entry one ask stands there
pub lasts_count : (s : Setting) (lasts : List Ask) (journal : List Entry) → AreTrue s (opening_progress s.script) lasts journal
    → length lasts ≡ length journal
lasts_count s lasts journal h = lasts_count_from s (opening_progress s.script) lasts journal h

-- where none enters, what was asked last stays
pub lasts_stay : (last : Ask) (old new : List Entry) (lasts : List Ask) → new ≡ old → lasts_behind last old new lasts ≡ lasts
lasts_stay last old new lasts same =
    let none : length new - length old ≡ 0 = omega (arith, ap length same) in
    ap (λ n. lasts ++ replicate n last) none ∙ append-nil lasts

-- where one enters, it has what its job was asked
pub lasts_grow : (last : Ask) (old new : List Entry) (lasts : List Ask) (e : Entry) → new ≡ old ++ e ∷ []
    → lasts_behind last old new lasts ≡ lasts ++ last ∷ []
lasts_grow last old new lasts e more =
    let one : length new - length old ≡ 1 = omega (arith, ap length more, length-append old (e ∷ [])) in
    ap (λ n. lasts ++ replicate n last) one

true-from : (s : Setting) (p : Progress) (lasts : List Ask) (journal : List Entry) (last : Ask) (e : Entry) → AreTrue s p lasts journal
    → IsTrueEntry s (fold (after_entry s.script) p journal) last e → AreTrue s p (lasts ++ last ∷ []) (journal ++ e ∷ [])
true-from s p [] [] last e h one = (one, refl)
true-from s p (l ∷ lasts) [] last e h one = cc h
true-from s p [] (d ∷ journal) last e h one = absurd h
true-from s p (l ∷ lasts) (d ∷ journal) last e h one = (h.0, true-from s (after_entry s.script p d) lasts journal last e h.1 one)

-- a true journal with one more true entry
pub true-more : (s : Setting) (lasts : List Ask) (journal : List Entry) (last : Ask) (e : Entry)
    → AreTrue s (opening_progress s.script) lasts journal → IsTrueEntry s (progress_of s.script journal) last e
    → AreTrue s (opening_progress s.script) (lasts ++ last ∷ []) (journal ++ e ∷ [])
true-more s lasts journal last e h one = true-from s (opening_progress s.script) lasts journal last e h one

-- ---- what conflicts are judged by
parts_length_from : (s : Setting) (p : Progress) (lasts : List Ask) (journal : List Entry) → length lasts ≡ length journal
    → length (parts_from s p lasts journal) ≡ length journal
parts_length_from s p lasts [] same = refl
parts_length_from s p [] (e ∷ journal) same = absurd (omega (arith, same))
parts_length_from s p (last ∷ lasts) (e ∷ journal) same =
    ap suc (parts_length_from s (after_entry s.script p e) lasts journal (omega (arith, same)))

-- one part for each entry
pub parts_length : (s : Setting) (lasts : List Ask) (journal : List Entry) → AreTrue s (opening_progress s.script) lasts journal
    → length (entry_parts s lasts journal) ≡ length journal
parts_length s lasts journal h = parts_length_from s (opening_progress s.script) lasts journal (lasts_count s lasts journal h)

parts_more_from : (s : Setting) (p : Progress) (lasts : List Ask) (journal : List Entry) (last : Ask) (e : Entry) → length lasts ≡ length journal
    → parts_from s p (lasts ++ last ∷ []) (journal ++ e ∷ [])
    ≡ parts_from s p lasts journal ++ part_of (fold (after_entry s.script) p journal) last e ∷ []
parts_more_from s p [] [] last e same = refl
parts_more_from s p (l ∷ lasts) [] last e same = absurd (omega (arith, same))
parts_more_from s p [] (d ∷ journal) last e same = absurd (omega (arith, same))
parts_more_from s p (l ∷ lasts) (d ∷ journal) last e same =
    ap (λ (ps : List Part). part_of p l d ∷ ps) (parts_more_from s (after_entry s.script p d) lasts journal last e (omega (arith, same)))

-- with one entry more there is its part more
pub parts_more : (s : Setting) (lasts : List Ask) (journal : List Entry) (last : Ask) (e : Entry)
    → AreTrue s (opening_progress s.script) lasts journal
    → entry_parts s (lasts ++ last ∷ []) (journal ++ e ∷ []) ≡ entry_parts s lasts journal ++ part_of (progress_of s.script journal) last e ∷ []
parts_more s lasts journal last e h = parts_more_from s (opening_progress s.script) lasts journal last e (lasts_count s lasts journal h)
