-- What each change of a world depends on, and what it leaves.
use Rattle.std.proofs.Common.{◌≡◌, ◌≢◌, ℕ, Bool, true, false, cond, Some, None, List, [], ◌∷◌, ◌++◌, zero, suc, ap, sym, ◌∙◌, subst, refl, arith}
use Rattle.std.specs.Prelude.{slice_get, slice_set, All, Contains, if◌then◌else◌}
use Rattle.std.specs.FinMap as map
use Rattle.std.specs.FinMap.{FinMap}
use Rattle.std.specs.declared.cmp.Ordering.{Ordering}
use Rattle.std.specs.Ordering.{eq_by_cmp}
use Rattle.std.specs.Cmp.{IsTotalOrder}
use Rattle.std.specs.Cmp.Lexicographic.{nat_list_cmp_total}
use Rattle.std.proofs.lemmas.Map.Lookups.{exact_bytes}
use Rattle.std.proofs.lemmas.List.{length-set}
use Rattle.std.proofs.lemmas.List.Elements.{All-weaker}
use Rattle.xc_data.specs.declared.object.Num.{Num}
use Rattle.xc_data.specs.declared.object.Object.{Object}
use Rattle.xc_data.specs.declared.object.Object.TheVariants as object
use Rattle.xc_maps.proofs.Laws.{get-insert_other, get-remove_other, num_total, num_exact}
use Rattle.xc_world.specs.World.{World, Pipe, Pair, with_file, with_pipe, with_pair}
use Rattle.xc_world.specs.Act.Names.{with_new_file, with_moved}
use Rattle.xc_world.specs.Laws.{AgreeAt, ChangesOnly, GoAlike}

-- two choices by one test have what both sides have, each where it is taken
pub both_so : {X Y : Type 0} (P : X → Y → Type 0) (b c : Bool) (x y : X) (z u : Y) → b ≡ c → (b ≡ true → P x z) → (b ≡ false → P y u)
    → P (if b then x else y) (if c then z else u)
both_so P true true x y z u e p q = p refl
both_so P false false x y z u e p q = q refl
both_so P true false x y z u e p q = cc
both_so P false true x y z u e p q = cc

-- the first of a list, and what another list has
pub first_in : (o : Object) (objects : List Object) → Contains (o ∷ objects) o
first_in o objects = (0, omega arith, refl)

-- an object of a list is in the list with one more in front
pub later_in : (o p : Object) (objects : List Object) → Contains objects p → Contains (o ∷ objects) p
later_in o p objects at = (suc at.0, omega (arith, at.1), at.2)

-- one list has an object and not another: they are two
two : {X : Type 0} (as_object : X → Object) (objects : List Object) (a b : X) → Contains objects (as_object a) → (Contains objects (as_object b) → ⊥) → b ≢ a
two as_object objects a b has lacks e = lacks (subst (λ c. Contains objects (as_object c)) (sym e) has)

-- ---- lists and maps: the same change on both sides, and a change elsewhere
words_alike : (xs ys : List ℕ) (i j x : ℕ) → slice_get xs j ≡ slice_get ys j → slice_get (slice_set xs i x) j ≡ slice_get (slice_set ys i x) j
words_alike [] [] i j x e = refl
words_alike [] (y ∷ ys) zero zero x e = cc
words_alike [] (y ∷ ys) zero (suc j) x e = e
words_alike [] (y ∷ ys) (suc i) zero x e = cc
words_alike [] (y ∷ ys) (suc i) (suc j) x e = words_alike [] ys i j x e
words_alike (y ∷ ys) [] zero zero x e = cc
words_alike (y ∷ ys) [] zero (suc j) x e = e
words_alike (y ∷ ys) [] (suc i) zero x e = cc
words_alike (y ∷ ys) [] (suc i) (suc j) x e = words_alike ys [] i j x e
words_alike (y ∷ ys) (z ∷ zs) zero zero x e = refl
words_alike (y ∷ ys) (z ∷ zs) zero (suc j) x e = e
words_alike (y ∷ ys) (z ∷ zs) (suc i) zero x e = e
words_alike (y ∷ ys) (z ∷ zs) (suc i) (suc j) x e = words_alike ys zs i j x e

word_other : (xs : List ℕ) (i j x : ℕ) → j ≢ i → slice_get xs j ≡ slice_get (slice_set xs i x) j
word_other [] i j x ne = refl
word_other (y ∷ ys) zero zero x ne = absurd (ne refl)
word_other (y ∷ ys) zero (suc j) x ne = refl
word_other (y ∷ ys) (suc i) zero x ne = refl
word_other (y ∷ ys) (suc i) (suc j) x ne = word_other ys i j x (λ e. ne (ap suc e))

insert_alike : {K X : Type 0} {R : K → K → Ordering} (o : IsTotalOrder R) (m n : FinMap R X) (k q : K) (x : X) → map.get m q ≡ map.get n q
    → map.get (map.insert m k x) q ≡ map.get (map.insert n k x) q
insert_alike {R = R} o m n k q x e = map.get-insert o m k x q ∙ ap (cond (eq_by_cmp R q k) (Some x)) e ∙ sym (map.get-insert o n k x q)

remove_alike : {K X : Type 0} {R : K → K → Ordering} (o : IsTotalOrder R) (m n : FinMap R X) (k q : K) → map.get m q ≡ map.get n q
    → map.get (map.remove m k) q ≡ map.get (map.remove n k) q
remove_alike {R = R} o m n k q e = map.get-remove o m k q ∙ ap (cond (eq_by_cmp R q k) None) e ∙ sym (map.get-remove o n k q)

-- ---- no change
pub agree_itself : (w : World) (o : Object) → AgreeAt w w o
agree_itself w (object.Word at) = refl
agree_itself w (object.Name name) = refl
agree_itself w (object.File num) = refl
agree_itself w (object.Pipe num) = refl
agree_itself w (object.Pair num) = refl
agree_itself w object.Jobs = refl

-- two worlds that stay as they are
pub same_alike : (objects : List Object) (w v : World) → All (AgreeAt w v) objects → GoAlike objects w v w v
same_alike objects w v agree =
    record {
      agree = agree;
      left = record { others = λ o _. agree_itself w o; count = refl; blocks = refl };
      right = record { others = λ o _. agree_itself v o; count = refl; blocks = refl };
    }

-- ---- a change that is one on both sides
pub go : (change : World → World) (objects : List Object) (w v : World) → ((o : Object) → AgreeAt w v o → AgreeAt (change w) (change v) o)
    → ((u : World) → ChangesOnly objects u (change u)) → All (AgreeAt w v) objects
    → GoAlike objects w v (change w) (change v)
go change objects w v kept only agree =
    record {
      agree = All-weaker (AgreeAt w v) (AgreeAt (change w) (change v)) kept objects agree;
      left = only w;
      right = only v;
    }

-- ---- a word
abbrev pub with_word : World → ℕ → ℕ → World
with_word w at value = record w { words = slice_set w.words at value }

word_kept : (w v : World) (at value : ℕ) (o : Object) → AgreeAt w v o → AgreeAt (with_word w at value) (with_word v at value) o
word_kept w v at value (object.Word i) e = words_alike w.words v.words at i value e
word_kept w v at value _ e = e

word_left : (w : World) (objects : List Object) (at value : ℕ) → Contains objects (object.Word at) → (o : Object) → (Contains objects o → ⊥)
    → AgreeAt w (with_word w at value) o
word_left w objects at value has (object.Word i) lacks = word_other w.words at i value (two object.Word objects at i has lacks)
word_left w objects at value has (object.Name name) lacks = refl
word_left w objects at value has (object.File num) lacks = refl
word_left w objects at value has (object.Pipe num) lacks = refl
word_left w objects at value has (object.Pair num) lacks = refl
word_left w objects at value has object.Jobs lacks = refl

-- a word is stored in both worlds
pub word_alike : (objects : List Object) (w v : World) (at value : ℕ) → Contains objects (object.Word at) → All (AgreeAt w v) objects
    → GoAlike objects w v (with_word w at value) (with_word v at value)
word_alike objects w v at value has agree =
    go (λ u. with_word u at value) objects w v (word_kept w v at value)
    (λ u. record { others = word_left u objects at value has; count = length-set u.words at value; blocks = refl }) agree

-- ---- a file
file_kept : (w v : World) (num : Num) (bytes : List ℕ) (o : Object) → AgreeAt w v o → AgreeAt (with_file w num bytes) (with_file v num bytes) o
file_kept w v num bytes (object.File q) e = insert_alike num_total w.files v.files num q bytes e
file_kept w v num bytes _ e = e

file_left : (w : World) (objects : List Object) (num : Num) (bytes : List ℕ) → Contains objects (object.File num) → (o : Object) → (Contains objects o → ⊥)
    → AgreeAt w (with_file w num bytes) o
file_left w objects num bytes has (object.File q) lacks =
    sym (get-insert_other num_total num_exact w.files num q bytes (two object.File objects num q has lacks))
file_left w objects num bytes has (object.Word at) lacks = refl
file_left w objects num bytes has (object.Name name) lacks = refl
file_left w objects num bytes has (object.Pipe q) lacks = refl
file_left w objects num bytes has (object.Pair q) lacks = refl
file_left w objects num bytes has object.Jobs lacks = refl

-- the bytes may be written in two ways
pub file_alike : (objects : List Object) (w v : World) (num : Num) (bytes more : List ℕ) → bytes ≡ more → Contains objects (object.File num)
    → All (AgreeAt w v) objects
    → GoAlike objects w v (with_file w num bytes) (with_file v num more)
file_alike objects w v num bytes more e has agree =
    subst (λ b. GoAlike objects w v (with_file w num bytes) (with_file v num b)) e
    (go (λ u. with_file u num bytes) objects w v (file_kept w v num bytes)
    (λ u. record { others = file_left u objects num bytes has; count = refl; blocks = refl }) agree)

-- ---- a file with its name
new_kept : (w v : World) (name : List ℕ) (num : Num) (o : Object) → AgreeAt w v o → AgreeAt (with_new_file w name num) (with_new_file v name num) o
new_kept w v name num (object.File q) e = insert_alike num_total w.files v.files num q [] e
new_kept w v name num (object.Name q) e = insert_alike nat_list_cmp_total w.names v.names name q num e
new_kept w v name num _ e = e

new_left : (w : World) (objects : List Object) (name : List ℕ) (num : Num) → Contains objects (object.Name name) → Contains objects (object.File num)
    → (o : Object) → (Contains objects o → ⊥) → AgreeAt w (with_new_file w name num) o
new_left w objects name num named has (object.File q) lacks =
    sym (get-insert_other num_total num_exact w.files num q [] (two object.File objects num q has lacks))
new_left w objects name num named has (object.Name q) lacks =
    sym (get-insert_other nat_list_cmp_total exact_bytes w.names name q num (two object.Name objects name q named lacks))
new_left w objects name num named has (object.Word at) lacks = refl
new_left w objects name num named has (object.Pipe q) lacks = refl
new_left w objects name num named has (object.Pair q) lacks = refl
new_left w objects name num named has object.Jobs lacks = refl

-- an empty file is put under a name in both worlds
pub new_alike : (objects : List Object) (w v : World) (name : List ℕ) (num : Num) → Contains objects (object.Name name) → Contains objects (object.File num)
    → All (AgreeAt w v) objects
    → GoAlike objects w v (with_new_file w name num) (with_new_file v name num)
new_alike objects w v name num named has agree =
    go (λ u. with_new_file u name num) objects w v (new_kept w v name num)
    (λ u. record { others = new_left u objects name num named has; count = refl; blocks = refl }) agree

-- ---- a name that moves, and one that goes
moved_kept : (w v : World) (from to : List ℕ) (num : Num) (o : Object) → AgreeAt w v o → AgreeAt (with_moved w from to num) (with_moved v from to num) o
moved_kept w v from to num (object.Name q) e =
    insert_alike nat_list_cmp_total (map.remove w.names from) (map.remove v.names from) to q num (remove_alike nat_list_cmp_total w.names v.names from q e)
moved_kept w v from to num _ e = e

moved_left : (w : World) (objects : List Object) (from to : List ℕ) (num : Num) → Contains objects (object.Name from) → Contains objects (object.Name to)
    → (o : Object) → (Contains objects o → ⊥) → AgreeAt w (with_moved w from to num) o
moved_left w objects from to num old new (object.Name q) lacks =
    sym (get-insert_other nat_list_cmp_total exact_bytes (map.remove w.names from) to q num (two object.Name objects to q new lacks)
    ∙ get-remove_other nat_list_cmp_total exact_bytes w.names from q (two object.Name objects from q old lacks))
moved_left w objects from to num old new (object.File q) lacks = refl
moved_left w objects from to num old new (object.Word at) lacks = refl
moved_left w objects from to num old new (object.Pipe q) lacks = refl
moved_left w objects from to num old new (object.Pair q) lacks = refl
moved_left w objects from to num old new object.Jobs lacks = refl

-- a file takes another name in both worlds
pub moved_alike : (objects : List Object) (w v : World) (from to : List ℕ) (num there : Num) → num ≡ there → Contains objects (object.Name from)
    → Contains objects (object.Name to) → All (AgreeAt w v) objects
    → GoAlike objects w v (with_moved w from to num) (with_moved v from to there)
moved_alike objects w v from to num there e old new agree =
    subst (λ q. GoAlike objects w v (with_moved w from to num) (with_moved v from to q)) e
    (go (λ u. with_moved u from to num) objects w v (moved_kept w v from to num)
    (λ u. record { others = moved_left u objects from to num old new; count = refl; blocks = refl }) agree)

-- the world without a name
abbrev pub without_name : World → List ℕ → World
without_name w name = record w { names = map.remove w.names name }

gone_kept : (w v : World) (name : List ℕ) (o : Object) → AgreeAt w v o → AgreeAt (without_name w name) (without_name v name) o
gone_kept w v name (object.Name q) e = remove_alike nat_list_cmp_total w.names v.names name q e
gone_kept w v name _ e = e

gone_left : (w : World) (objects : List Object) (name : List ℕ) → Contains objects (object.Name name) → (o : Object) → (Contains objects o → ⊥)
    → AgreeAt w (without_name w name) o
gone_left w objects name has (object.Name q) lacks =
    sym (get-remove_other nat_list_cmp_total exact_bytes w.names name q (two object.Name objects name q has lacks))
gone_left w objects name has (object.File q) lacks = refl
gone_left w objects name has (object.Word at) lacks = refl
gone_left w objects name has (object.Pipe q) lacks = refl
gone_left w objects name has (object.Pair q) lacks = refl
gone_left w objects name has object.Jobs lacks = refl

-- a name is removed in both worlds
pub gone_alike : (objects : List Object) (w v : World) (name : List ℕ) → Contains objects (object.Name name) → All (AgreeAt w v) objects
    → GoAlike objects w v (without_name w name) (without_name v name)
gone_alike objects w v name has agree =
    go (λ u. without_name u name) objects w v (gone_kept w v name) (λ u. record { others = gone_left u objects name has; count = refl; blocks = refl }) agree

-- ---- a pipe
pipe_kept : (w v : World) (num : Num) (pipe : Pipe) (o : Object) → AgreeAt w v o → AgreeAt (with_pipe w num pipe) (with_pipe v num pipe) o
pipe_kept w v num pipe (object.Pipe q) e = insert_alike num_total w.pipes v.pipes num q pipe e
pipe_kept w v num pipe _ e = e

pipe_left : (w : World) (objects : List Object) (num : Num) (pipe : Pipe) → Contains objects (object.Pipe num) → (o : Object) → (Contains objects o → ⊥)
    → AgreeAt w (with_pipe w num pipe) o
pipe_left w objects num pipe has (object.Pipe q) lacks = sym (get-insert_other num_total num_exact w.pipes num q pipe (two object.Pipe objects num q has lacks))
pipe_left w objects num pipe has (object.Word at) lacks = refl
pipe_left w objects num pipe has (object.Name name) lacks = refl
pipe_left w objects num pipe has (object.File q) lacks = refl
pipe_left w objects num pipe has (object.Pair q) lacks = refl
pipe_left w objects num pipe has object.Jobs lacks = refl

-- the same pipe is put in both worlds
pub pipe_alike : (objects : List Object) (w v : World) (num : Num) (pipe other : Pipe) → pipe ≡ other → Contains objects (object.Pipe num)
    → All (AgreeAt w v) objects
    → GoAlike objects w v (with_pipe w num pipe) (with_pipe v num other)
pipe_alike objects w v num pipe other e has agree =
    subst (λ p. GoAlike objects w v (with_pipe w num pipe) (with_pipe v num p)) e
    (go (λ u. with_pipe u num pipe) objects w v (pipe_kept w v num pipe)
    (λ u. record { others = pipe_left u objects num pipe has; count = refl; blocks = refl }) agree)

-- ---- a pair
pair_kept : (w v : World) (num : Num) (pair : Pair) (o : Object) → AgreeAt w v o → AgreeAt (with_pair w num pair) (with_pair v num pair) o
pair_kept w v num pair (object.Pair q) e = insert_alike num_total w.pairs v.pairs num q pair e
pair_kept w v num pair _ e = e

pair_left : (w : World) (objects : List Object) (num : Num) (pair : Pair) → Contains objects (object.Pair num) → (o : Object) → (Contains objects o → ⊥)
    → AgreeAt w (with_pair w num pair) o
pair_left w objects num pair has (object.Pair q) lacks = sym (get-insert_other num_total num_exact w.pairs num q pair (two object.Pair objects num q has lacks))
pair_left w objects num pair has (object.Word at) lacks = refl
pair_left w objects num pair has (object.Name name) lacks = refl
pair_left w objects num pair has (object.File q) lacks = refl
pair_left w objects num pair has (object.Pipe q) lacks = refl
pair_left w objects num pair has object.Jobs lacks = refl

-- the same pair is put in both worlds
pub pair_alike : (objects : List Object) (w v : World) (num : Num) (pair other : Pair) → pair ≡ other → Contains objects (object.Pair num)
    → All (AgreeAt w v) objects
    → GoAlike objects w v (with_pair w num pair) (with_pair v num other)
pair_alike objects w v num pair other e has agree =
    subst (λ p. GoAlike objects w v (with_pair w num pair) (with_pair v num p)) e
    (go (λ u. with_pair u num pair) objects w v (pair_kept w v num pair)
    (λ u. record { others = pair_left u objects num pair has; count = refl; blocks = refl }) agree)

-- ---- the started jobs
abbrev pub with_started_job : World → List ℕ → World
with_started_job w body = record w { started = w.started ++ body ∷ [] }

job_kept : (w v : World) (body : List ℕ) (o : Object) → AgreeAt w v o → AgreeAt (with_started_job w body) (with_started_job v body) o
job_kept w v body object.Jobs e = ap (λ s. s ++ body ∷ []) e
job_kept w v body _ e = e

job_left : (w : World) (objects : List Object) (body : List ℕ) → Contains objects object.Jobs → (o : Object) → (Contains objects o → ⊥)
    → AgreeAt w (with_started_job w body) o
job_left w objects body has object.Jobs lacks = absurd (lacks has)
job_left w objects body has (object.Word at) lacks = refl
job_left w objects body has (object.Name name) lacks = refl
job_left w objects body has (object.File q) lacks = refl
job_left w objects body has (object.Pipe q) lacks = refl
job_left w objects body has (object.Pair q) lacks = refl

-- a block is started in both worlds
pub job_alike : (objects : List Object) (w v : World) (body : List ℕ) → Contains objects object.Jobs → All (AgreeAt w v) objects
    → GoAlike objects w v (with_started_job w body) (with_started_job v body)
job_alike objects w v body has agree =
    go (λ u. with_started_job u body) objects w v (job_kept w v body) (λ u. record { others = job_left u objects body has; count = refl; blocks = refl }) agree
