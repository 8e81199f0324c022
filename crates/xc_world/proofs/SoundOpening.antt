-- The opening of a script within its limits is sound for every transaction.
use Rattle.std.proofs.Common.{◌≡◌, ℕ, ◌+◌, ◌-◌, ◌≤◌, ◌<◌, true, false, Option, Some, None, is_some, List, [], ◌∷◌, ◌++◌, length, zero, suc, ap, sym, ◌∙◌}
use Rattle.std.proofs.Common.{subst, refl, arith, unwrap_or}
use Rattle.std.specs.Prelude.{replicate, All}
use Rattle.std.specs.FinMap as map
use Rattle.std.proofs.lemmas.List.Elements.{All-nil, All-cons, All-head, All-tail}
use Rattle.xc_data.specs.declared.object.Num.{Num}
use Rattle.xc_data.specs.declared.script.Opened.{Opened}
use Rattle.xc_data.specs.declared.script.Opened.TheVariants as opened
use Rattle.xc_data.specs.declared.script.Outline.{Outline}
use Rattle.xc_data.specs.declared.private.Place.{Place}
use Rattle.xc_data.specs.declared.private.Place.TheVariants as place
use Rattle.xc_data.specs.Private.{place_of}
use Rattle.xc_maps.specs.Keys.{num_cmp, name_cmp}
use Rattle.xc_world.specs.World.{World, Pair, beginning, empty_pair}
use Rattle.xc_world.specs.Sound.{HoldsShort, IsFit, IsFree, IsKnown, IsSound}
use Rattle.xc_data.specs.Limits.{IsOpenedFit, KeepsLimits}
use Rattle.xc_world.specs.Opening.{line_num, with_opened, with_all_opened, bare_world, opening, handles_of, opening_handles}
use Rattle.xc_world.proofs.SoundParts.{Adds, there_put, adds_named, adds_pipe, adds_pair}
use Rattle.xc_world.proofs.SoundCalls.{empty_short}

-- one line
opened_adds : (w : World) (k : ℕ) (o : Opened) → IsOpenedFit o → IsFit w → Adds w (with_opened w (line_num k) o) (line_num k)
opened_adds w k (opened.File name bytes) le fit = adds_named w name (line_num k) bytes le fit
opened_adds w k (opened.Pipe bytes) le fit = adds_pipe w (line_num k) (record { held = bytes; shut = false }) fit
opened_adds w k opened.Pair le fit = adds_pair w (line_num k) empty_pair empty_short fit

-- all lines: what was known stays known, and numbers of transactions stay free
pub record Opens (w v : World) : Type 0 where
  pub fit : IsFit v
  pub known : (p : Place) → IsKnown w p → IsKnown v p
  pub free : (q : Num) → 0 < q.tx → IsFree w q → IsFree v q

all_opened : (w : World) (k : ℕ) (objects : List Opened) → All IsOpenedFit objects → IsFit w → Opens w (with_all_opened w k objects)
all_opened w k [] fits fit = record { fit = fit; known = λ p known. known; free = λ q lt free. free }
all_opened w k (o ∷ objects) fits fit =
    let adds = opened_adds w k o (All-head IsOpenedFit o objects fits) fit in
    let more = all_opened (with_opened w (line_num k) o) (k + 1) objects (All-tail IsOpenedFit o objects fits) adds.fit in
    record {
      fit = more.fit;
      known = λ p known. more.known p (adds.known p known);
      free = λ q lt free. more.free q lt (adds.free q (λ e. let none : q.tx ≡ 0 = ap (λ (n : Num). n.tx) e in absurd (omega arith)) free);
    }

-- no line opens a word
opened_words : (w : World) (num : Num) (o : Opened) → (with_opened w num o).words ≡ w.words
opened_words w num (opened.File name bytes) = refl
opened_words w num (opened.Pipe bytes) = refl
opened_words w num opened.Pair = refl

-- nor do all
pub opening_words : (w : World) (k : ℕ) (objects : List Opened) → (with_all_opened w k objects).words ≡ w.words
opening_words w k [] = refl
opening_words w k (o ∷ objects) = opening_words (with_opened w (line_num k) o) (k + 1) objects ∙ opened_words w (line_num k) o

-- each handle's object is there
handles_known : (w : World) (k : ℕ) (objects : List Opened) → All IsOpenedFit objects → IsFit w
    → All (IsKnown (with_all_opened w k objects)) (handles_of k objects)
handles_known w k [] fits fit = All-nil (IsKnown w)
handles_known w k (opened.File name bytes ∷ objects) fits fit =
    let o = opened.File name bytes in
    handles_known (with_opened w (line_num k) o) (k + 1) objects (All-tail IsOpenedFit o objects fits)
    (opened_adds w k o (All-head IsOpenedFit o objects fits) fit).fit
handles_known w k (opened.Pipe bytes ∷ objects) fits fit =
    let o = opened.Pipe bytes in
    let v = with_opened w (line_num k) o in
    let rest = All-tail IsOpenedFit o objects fits in
    let here = (opened_adds w k o (All-head IsOpenedFit o objects fits) fit).fit in
    All-cons (IsKnown (with_all_opened v (k + 1) objects)) (place.Pipe (line_num k)) (handles_of (k + 1) objects)
    ((all_opened v (k + 1) objects rest here).known (place.Pipe (line_num k)) (there_put w.pipes (line_num k) (record { held = bytes; shut = false })))
    (handles_known v (k + 1) objects rest here)
handles_known w k (opened.Pair ∷ objects) fits fit =
    let v = with_opened w (line_num k) opened.Pair in
    let rest = All-tail IsOpenedFit opened.Pair objects fits in
    let here = (opened_adds w k opened.Pair (All-head IsOpenedFit opened.Pair objects fits) fit).fit in
    let there : is_some (map.get v.pairs (line_num k)) ≡ true = there_put w.pairs (line_num k) empty_pair in
    let all = all_opened v (k + 1) objects rest here in
    let known = IsKnown (with_all_opened v (k + 1) objects) in
    All-cons known (place.Pair (line_num k) 0) (place.Pair (line_num k) 1 ∷ handles_of (k + 1) objects)
    (all.known (place.Pair (line_num k) 0) (there, omega arith))
    (All-cons known (place.Pair (line_num k) 1) (handles_of (k + 1) objects) (all.known (place.Pair (line_num k) 1) (there, omega arith))
    (handles_known v (k + 1) objects rest here))

vacant_at : (n h : ℕ) → place_of (replicate n place.Vacant) h ≡ place.Vacant
vacant_at zero h = refl
vacant_at (suc n) zero = refl
vacant_at (suc n) (suc h) = vacant_at n h

-- what holds of some places, with vacant ones after them
place_in : (P : Place → Type 0) (places : List Place) (n h : ℕ) → P place.Vacant → All P places → P (place_of (places ++ replicate n place.Vacant) h)
place_in P [] n h vacant all = subst P (sym (vacant_at n h)) vacant
place_in P (p ∷ places) n zero vacant all = All-head P p places all
place_in P (p ∷ places) n (suc h) vacant all = place_in P places n h vacant (All-tail P p places all)

bare_fit : (script : Outline) → IsFit (bare_world script)
bare_fit script =
    record {
      files = λ q. subst (λ (o : Option (List ℕ)). length (unwrap_or o []) ≤ 65536) (sym (map.get-empty num_cmp q)) (omega arith);
      messages = λ q. subst (λ (o : Option Pair). HoldsShort (unwrap_or o empty_pair)) (sym (map.get-empty num_cmp q)) empty_short;
      names = λ name num e. let none : None ≡ Some num = sym (map.get-empty name_cmp name) ∙ e in cc;
    }

bare_free : (script : Outline) (q : Num) → IsFree (bare_world script) q
bare_free script q = record { file = map.get-empty num_cmp q; pipe = map.get-empty num_cmp q; pair = map.get-empty num_cmp q }

-- a script within its limits opens a sound world
pub opening_sound : (script : Outline) → KeepsLimits script → (tx : ℕ) → 0 < tx → IsSound (opening script) (beginning (opening_handles script)) tx
opening_sound script limits tx lt =
    let objects = script.prologue.objects in
    let all = all_opened (bare_world script) 0 objects limits.prologue.contents (bare_fit script) in
    let handles = handles_of 0 objects in
    record {
      world = all.fit;
      made = omega arith;
      stored = omega arith;
      new = λ k le. all.free (record { tx = tx; k = k }) lt (bare_free script (record { tx = tx; k = k }));
      handles =
          λ h. place_in (IsKnown (opening script)) handles (256 - length handles) h tt
          (handles_known (bare_world script) 0 objects limits.prologue.contents (bare_fit script));
    }
