-- What keeps a world sound: each kind of change of it.
use Rattle.std.proofs.Common.{◌≡◌, ◌≢◌, inl, inr, ℕ, ◌≤◌, Bool, true, false, cond, Option, Some, None, is_some, List, [], length, ap, sym, ◌∙◌, subst, refl}
use Rattle.std.proofs.Common.{unwrap_or}
use Rattle.std.specs.Prelude.{if◌then◌else◌}
use Rattle.std.specs.FinMap as map
use Rattle.std.specs.Ordering.{eq_by_cmp}
use Rattle.std.specs.Cmp.Lexicographic.{nat_list_cmp_total}
use Rattle.std.proofs.lemmas.Map.Lookups.{exact_bytes}
use Rattle.xc_data.specs.declared.object.Num.{Num}
use Rattle.xc_data.specs.declared.private.Place.{Place}
use Rattle.xc_data.specs.declared.private.Place.TheVariants as place
use Rattle.xc_maps.specs.Keys.{num_cmp, name_cmp}
use Rattle.xc_maps.proofs.Laws.{get-insert_cases, get-insert_same, num_total, num_exact}
use Rattle.xc_world.specs.World.{World, Pipe, Pair, with_file, with_pipe, with_pair, empty_pair}
use Rattle.xc_world.specs.Sound.{HoldsShort, IsFit, IsFree, IsKnown}
use Rattle.xc_world.specs.Act.Names.{with_moved}

-- a choice has what both sides have, each where it is taken
pub chosen_so : {X : Type 0} (P : X → Type 0) (b : Bool) (x y : X) → (b ≡ true → P x) → (b ≡ false → P y) → P (if b then x else y)
chosen_so P true x y p q = p refl
chosen_so P false x y p q = q refl

-- ---- one number of a map
-- what is there stays there
pub there_insert : {X : Type 0} (m : map.FinMap num_cmp X) (num q : Num) (x : X) → is_some (map.get m q) ≡ true
    → is_some (map.get (map.insert m num x) q) ≡ true
there_insert m num q x there = elim (get-insert_cases num_total num_exact m num q x) [
  | inl at ↦ ap is_some at.1
  | inr is ↦ ap is_some is ∙ there
]

-- what is put is there
pub there_put : {X : Type 0} (m : map.FinMap num_cmp X) (num : Num) (x : X) → is_some (map.get (map.insert m num x) num) ≡ true
there_put m num x = ap is_some (get-insert_same num_total num_exact m num x)

-- another number stays free
pub free_other : {X : Type 0} (m : map.FinMap num_cmp X) (num q : Num) (x : X) → (q ≢ num) → map.get m q ≡ None → map.get (map.insert m num x) q ≡ None
free_other m num q x ne none = elim (get-insert_cases num_total num_exact m num q x) [
  | inl at ↦ absurd (ne at.0)
  | inr is ↦ is ∙ none
]

-- a free number stays free where the number that is put is taken
pub free_insert : {X : Type 0} (m : map.FinMap num_cmp X) (num q : Num) (x : X) → is_some (map.get m num) ≡ true → map.get m q ≡ None
    → map.get (map.insert m num x) q ≡ None
free_insert {X = X} m num q x there none = elim (get-insert_cases num_total num_exact m num q x) [
  | inl at ↦ let gone : map.get m num ≡ None = ap (map.get m) (sym at.0) ∙ none in let bad : is_some {T = X} None ≡ true = ap is_some (sym gone) ∙ there in cc
  | inr is ↦ is ∙ none
]

-- what holds of all values, and of a new one
pub all_insert : {X : Type 0} (P : X → Type 0) (m : map.FinMap num_cmp X) (num q : Num) (x none : X) → P x → P (unwrap_or (map.get m q) none)
    → P (unwrap_or (map.get (map.insert m num x) q) none)
all_insert {X = X} P m num q x none new old = elim (get-insert_cases num_total num_exact m num q x) [
  | inl at ↦ subst (λ (o : Option X). P (unwrap_or o none)) (sym at.1) new
  | inr is ↦ subst (λ (o : Option X). P (unwrap_or o none)) (sym is) old
]

-- ---- one name
dropped_at : {X : Type 0} (b : Bool) (g : Option X) (x : X) → cond b None g ≡ Some x → g ≡ Some x
dropped_at true g x e = cc
dropped_at false g x e = e

-- what a name has after another was removed it had before
pub dropped : (m : map.FinMap name_cmp Num) (from q : List ℕ) (num : Num) → map.get (map.remove m from) q ≡ Some num → map.get m q ≡ Some num
dropped m from q num e = dropped_at (eq_by_cmp name_cmp q from) (map.get m q) num (sym (map.get-remove nat_list_cmp_total m from q) ∙ e)

-- each name is that of a file that is there
abbrev pub AreNamed : map.FinMap name_cmp Num → map.FinMap num_cmp (List ℕ) → Type 0
AreNamed names files = (name : List ℕ) (num : Num) → map.get names name ≡ Some num → is_some (map.get files num) ≡ true

-- a name is put on a file that is there
pub named_insert : (names : map.FinMap name_cmp Num) (files : map.FinMap num_cmp (List ℕ)) (name : List ℕ) (num : Num) → is_some (map.get files num) ≡ true
    → AreNamed names files → AreNamed (map.insert names name num) files
named_insert names files name num there named q n e = elim (get-insert_cases nat_list_cmp_total exact_bytes names name q num) [
  | inl at ↦ let same : Some num ≡ Some n = sym at.1 ∙ e in let one : num ≡ n = cc in subst (λ m. is_some (map.get files m) ≡ true) one there
  | inr is ↦ named q n (sym is ∙ e)
]

-- ---- a world that became another
-- what is known stays known
pub known_by : (w v : World) → ((q : Num) → is_some (map.get w.files q) ≡ true → is_some (map.get v.files q) ≡ true)
    → ((q : Num) → is_some (map.get w.pipes q) ≡ true → is_some (map.get v.pipes q) ≡ true)
    → ((q : Num) → is_some (map.get w.pairs q) ≡ true → is_some (map.get v.pairs q) ≡ true) → (p : Place) → IsKnown w p → IsKnown v p
known_by w v files pipes pairs place.Vacant known = tt
known_by w v files pipes pairs (place.File num at) known = files num known
known_by w v files pipes pairs (place.Pipe num) known = pipes num known
known_by w v files pipes pairs (place.Pair num side) known = (pairs num known.0, known.1)

-- it stays within its limits, keeps its objects, and, where its object was there, takes no number that was free
pub record Keeps (there : Bool) (w v : World) : Type 0 where
  pub fit : IsFit v
  pub known : (p : Place) → IsKnown w p → IsKnown v p
  pub free : there ≡ true → (q : Num) → IsFree w q → IsFree v q

-- the same but that it takes one number
pub record Adds (w v : World) (num : Num) : Type 0 where
  pub fit : IsFit v
  pub known : (p : Place) → IsKnown w p → IsKnown v p
  pub free : (q : Num) → (q ≢ num) → IsFree w q → IsFree v q

-- a fit world keeps itself
pub fit_keeps_itself : (there : Bool) (w : World) → IsFit w → Keeps there w w
fit_keeps_itself there w fit = record { fit = fit; known = λ p known. known; free = λ _ q free. free }

-- what keeps adds nothing
pub keeps_all : {there : Bool} (w v : World) (num : Num) → Keeps there w v → there ≡ true → Adds w v num
keeps_all w v num keeps there = record { fit = keeps.fit; known = keeps.known; free = λ q _. keeps.free there q }

-- the maps of objects stay
pub keeps_objects : (there : Bool) (w v : World) → v.files ≡ w.files → v.pipes ≡ w.pipes → v.pairs ≡ w.pairs → AreNamed v.names w.files → IsFit w
    → Keeps there w v
keeps_objects there w v files pipes pairs named fit =
    record {
      fit = record {
        files = λ q. subst (λ (m : map.FinMap num_cmp (List ℕ)). length (unwrap_or (map.get m q) []) ≤ 65536) (sym files) (fit.files q);
        messages = λ q. subst (λ (m : map.FinMap num_cmp Pair). HoldsShort (unwrap_or (map.get m q) empty_pair)) (sym pairs) (fit.messages q);
        names = subst (AreNamed v.names) (sym files) named;
      };
      known = known_by w v
          (λ q there. ap (λ (m : map.FinMap num_cmp (List ℕ)). is_some (map.get m q)) files ∙ there)
          (λ q there. ap (λ (m : map.FinMap num_cmp Pipe). is_some (map.get m q)) pipes ∙ there)
          (λ q there. ap (λ (m : map.FinMap num_cmp Pair). is_some (map.get m q)) pairs ∙ there);
      free = λ _ q free. record {
        file = ap (λ (m : map.FinMap num_cmp (List ℕ)). map.get m q) files ∙ free.file;
        pipe = ap (λ (m : map.FinMap num_cmp Pipe). map.get m q) pipes ∙ free.pipe;
        pair = ap (λ (m : map.FinMap num_cmp Pair). map.get m q) pairs ∙ free.pair;
      };
    }

-- the words become others
pub keeps_words : (there : Bool) (w : World) (words : List ℕ) → IsFit w → Keeps there w (record w { words = words })
keeps_words there w words fit = keeps_objects there w (record w { words = words }) refl refl refl fit.names fit

-- the started blocks become others
pub keeps_started : (there : Bool) (w : World) (started : List (List ℕ)) → IsFit w → Keeps there w (record w { started = started })
keeps_started there w started fit = keeps_objects there w (record w { started = started }) refl refl refl fit.names fit

-- a file takes another name
pub keeps_moved : (there : Bool) (w : World) (from to : List ℕ) (num : Num) → map.get w.names from ≡ Some num → IsFit w
    → Keeps there w (with_moved w from to num)
keeps_moved there w from to num e fit =
    keeps_objects there w (with_moved w from to num) refl refl refl
    (named_insert (map.remove w.names from) w.files to num (fit.names from num e) (λ q n is. fit.names q n (dropped w.names from q n is))) fit

-- a name is removed
pub keeps_removed : (there : Bool) (w : World) (name : List ℕ) → IsFit w → Keeps there w (record w { names = map.remove w.names name })
keeps_removed there w name fit =
    keeps_objects there w (record w { names = map.remove w.names name }) refl refl refl (λ q n is. fit.names q n (dropped w.names name q n is)) fit

-- ---- an object is put
fit_file : (w : World) (num : Num) (bytes : List ℕ) → length bytes ≤ 65536 → IsFit w → IsFit (with_file w num bytes)
fit_file w num bytes le fit =
    record {
      files = λ q. all_insert (λ (b : List ℕ). length b ≤ 65536) w.files num q bytes [] le (fit.files q);
      messages = fit.messages;
      names = λ name n e. there_insert w.files num n bytes (fit.names name n e);
    }

known_file : (w : World) (num : Num) (bytes : List ℕ) (p : Place) → IsKnown w p → IsKnown (with_file w num bytes) p
known_file w num bytes = known_by w (with_file w num bytes) (λ q. there_insert w.files num q bytes) (λ q there. there) (λ q there. there)

-- the bytes of a file become others
pub keeps_file : (w : World) (num : Num) (bytes : List ℕ) → length bytes ≤ 65536 → IsFit w → Keeps (is_some (map.get w.files num)) w (with_file w num bytes)
keeps_file w num bytes le fit =
    record {
      fit = fit_file w num bytes le fit;
      known = known_file w num bytes;
      free = λ there q free. record { file = free_insert w.files num q bytes there free.file; pipe = free.pipe; pair = free.pair };
    }

-- a file with its name
pub adds_named : (w : World) (name : List ℕ) (num : Num) (bytes : List ℕ) → length bytes ≤ 65536 → IsFit w
    → Adds w (record w { names = map.insert w.names name num; files = map.insert w.files num bytes }) num
adds_named w name num bytes le fit =
    let v : World = record w { names = map.insert w.names name num; files = map.insert w.files num bytes } in
    record {
      fit = record {
        files = (fit_file w num bytes le fit).files;
        messages = fit.messages;
        names = named_insert w.names v.files name num (there_put w.files num bytes) (fit_file w num bytes le fit).names;
      };
      known = known_by w v (λ q. there_insert w.files num q bytes) (λ q there. there) (λ q there. there);
      free = λ q ne free. record { file = free_other w.files num q bytes ne free.file; pipe = free.pipe; pair = free.pair };
    }

known_pipe : (w : World) (num : Num) (pipe : Pipe) (p : Place) → IsKnown w p → IsKnown (with_pipe w num pipe) p
known_pipe w num pipe = known_by w (with_pipe w num pipe) (λ q there. there) (λ q. there_insert w.pipes num q pipe) (λ q there. there)

fit_pipe : (w : World) (num : Num) (pipe : Pipe) → IsFit w → IsFit (with_pipe w num pipe)
fit_pipe w num pipe fit = record { files = fit.files; messages = fit.messages; names = fit.names }

-- a pipe becomes another
pub keeps_pipe : (w : World) (num : Num) (pipe : Pipe) → IsFit w → Keeps (is_some (map.get w.pipes num)) w (with_pipe w num pipe)
keeps_pipe w num pipe fit =
    record {
      fit = fit_pipe w num pipe fit;
      known = known_pipe w num pipe;
      free = λ there q free. record { file = free.file; pipe = free_insert w.pipes num q pipe there free.pipe; pair = free.pair };
    }

-- a pipe is put under a number
pub adds_pipe : (w : World) (num : Num) (pipe : Pipe) → IsFit w → Adds w (with_pipe w num pipe) num
adds_pipe w num pipe fit =
    record {
      fit = fit_pipe w num pipe fit;
      known = known_pipe w num pipe;
      free = λ q ne free. record { file = free.file; pipe = free_other w.pipes num q pipe ne free.pipe; pair = free.pair };
    }

known_pair : (w : World) (num : Num) (pair : Pair) (p : Place) → IsKnown w p → IsKnown (with_pair w num pair) p
known_pair w num pair = known_by w (with_pair w num pair) (λ q there. there) (λ q there. there) (λ q. there_insert w.pairs num q pair)

fit_pair : (w : World) (num : Num) (pair : Pair) → HoldsShort pair → IsFit w → IsFit (with_pair w num pair)
fit_pair w num pair short fit =
    record { files = fit.files; messages = λ q. all_insert HoldsShort w.pairs num q pair empty_pair short (fit.messages q); names = fit.names }

-- a pair becomes another
pub with_pair_keeps : (w : World) (num : Num) (pair : Pair) → HoldsShort pair → IsFit w → Keeps (is_some (map.get w.pairs num)) w (with_pair w num pair)
with_pair_keeps w num pair short fit =
    record {
      fit = fit_pair w num pair short fit;
      known = known_pair w num pair;
      free = λ there q free. record { file = free.file; pipe = free.pipe; pair = free_insert w.pairs num q pair there free.pair };
    }

-- a pair is put under a number
pub adds_pair : (w : World) (num : Num) (pair : Pair) → HoldsShort pair → IsFit w → Adds w (with_pair w num pair) num
adds_pair w num pair short fit =
    record {
      fit = fit_pair w num pair short fit;
      known = known_pair w num pair;
      free = λ q ne free. record { file = free.file; pipe = free.pipe; pair = free_other w.pairs num q pair ne free.pair };
    }
