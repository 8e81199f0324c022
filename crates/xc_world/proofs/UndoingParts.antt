-- What undoing rests on: lists whose middle is put back, maps with one key put back, and what is
-- left of pipes and pairs.
use Rattle.std.proofs.Common.{◌≡◌, ℕ, ◌+◌, ◌≤◌, Bool, true, false, cond, Option, Some, None, is_some, unwrap_or, List, [], ◌++◌, length, take, drop, refl, ap}
use Rattle.std.proofs.Common.{ap₂, sym, ◌∙◌, subst, append_assoc, arith, length-append, length-drop}
use Rattle.std.specs.FinMap as map
use Rattle.std.specs.Ordering.{eq_by_cmp}
use Rattle.std.proofs.lemmas.List.{take-append-drop, take-take, drop-drop, length-take-le}
use Rattle.std.proofs.Math.Seq.{take-append_seam, drop-append_seam}
use Rattle.xc_data.specs.declared.object.Num.{Num}
use Rattle.xc_maps.specs.Keys.{num_cmp}
use Rattle.xc_maps.proofs.Laws.{get-insert_same, insert-insert_same, insert-get_same, tied, num_total, num_exact}
use Rattle.xc_world.specs.World.{World, Pipe, Pair, file_of, with_file, pipe_of, with_pipe, empty_pipe, pair_of, with_pair, empty_pair}
use Rattle.xc_world.specs.Act.Files.{overwritten}
use Rattle.xc_world.specs.Undoing.{IsRest, IsPipeRest, IsPairRest, BothOrNone, BroughtBack}

-- ---- lists
-- the first and the last of three parts
front : (at : ℕ) (p b q : List ℕ) → length p ≡ at → take at ((p ++ b) ++ q) ≡ p
front at p b q e = ap (λ n. take n ((p ++ b) ++ q)) (sym e) ∙ (ap (take (length p)) (append_assoc p b q) ∙ take-append_seam p (b ++ q))

back : (to : ℕ) (p b q : List ℕ) → length p + length b ≡ to → drop to ((p ++ b) ++ q) ≡ q
back to p b q e = ap (λ n. drop n ((p ++ b) ++ q)) (sym e ∙ sym (length-append p b)) ∙ drop-append_seam (p ++ b) q

-- a middle is written over by one as long
pub swapped : (at : ℕ) (p b m q : List ℕ) → length p ≡ at → length b ≡ length m → overwritten at m ((p ++ b) ++ q) ≡ (p ++ m) ++ q
swapped at p b m q e l = ap₂ (λ x y. (x ++ m) ++ y) (front at p b q e) (back (at + length m) p b q (omega arith))

-- the list in three parts
in_parts : (at n : ℕ) (file : List ℕ) → (take at file ++ take n (drop at file)) ++ drop n (drop at file) ≡ file
in_parts at n file =
    append_assoc (take at file) (take n (drop at file)) (drop n (drop at file))
    ∙ (ap (λ x. take at file ++ x) (take-append-drop n (drop at file)) ∙ take-append-drop at file)

-- what stood under so many bytes of an overwrite, of which the first n were done, is put back
pub bytes_restored : (at n all : ℕ) (bytes file : List ℕ) → length bytes ≡ n → n ≤ all → at + n ≤ length file
    → overwritten at (take n (take all (drop at file))) (overwritten at bytes file) ≡ file
bytes_restored at n all bytes file e le inside =
    let m = take n (drop at file) in
    let q = drop n (drop at file) in
    let whole : length m ≡ n = length-take-le n (drop at file) (omega (arith, length-drop at file)) in
    let behind : drop (at + length bytes) file ≡ q = ap (λ k. drop (at + k) file) e ∙ sym (drop-drop n at file) in
    ap₂ (overwritten at) (take-take n all (drop at file) le) (ap (λ x. (take at file ++ bytes) ++ x) behind)
    ∙ (swapped at (take at file) bytes m q (length-take-le at file (omega arith)) (e ∙ sym whole) ∙ in_parts at n file)

-- ---- what is there
pub there_by : {X : Type 0} (o : Option X) (x : X) → is_some o ≡ true → o ≡ Some (unwrap_or o x)
there_by None x there = cc
there_by (Some y) x there = refl

-- ---- rests
module _ {A : Type 0} where
  -- all of a list is a rest of it
  pub rest-all : (xs : List A) → IsRest xs xs
  rest-all xs = record { taken = []; split = refl }

  -- a list without its first items is a rest of it
  pub rest-drop : (n : ℕ) (xs : List A) → IsRest xs (drop n xs)
  rest-drop n xs = record { taken = take n xs; split = sym (take-append-drop n xs) }

  rest-rest : (xs ys zs : List A) → IsRest xs ys → IsRest ys zs → IsRest xs zs
  rest-rest xs ys zs r s =
      record { taken = r.taken ++ s.taken; split = r.split ∙ (ap (λ x. r.taken ++ x) s.split ∙ sym (append_assoc r.taken s.taken zs)) }

pipe_rest-all : (p : Pipe) → IsPipeRest p p
pipe_rest-all p = record { shut = refl; held = rest-all p.held }

pipe_rest-rest : (p q r : Pipe) → IsPipeRest p q → IsPipeRest q r → IsPipeRest p r
pipe_rest-rest p q r a b = record { shut = b.shut ∙ a.shut; held = rest-rest p.held q.held r.held a.held b.held }

pair_rest-all : (p : Pair) → IsPairRest p p
pair_rest-all p = record { shut = refl; first = rest-all p.first; second = rest-all p.second }

pair_rest-rest : (p q r : Pair) → IsPairRest p q → IsPairRest q r → IsPairRest p r
pair_rest-rest p q r a b =
    record {
      shut = b.shut ∙ a.shut;
      first = rest-rest p.first q.first r.first a.first b.first;
      second = rest-rest p.second q.second r.second a.second b.second;
    }

-- ---- maps of what is left
abbrev pub AreRests : {X : Type 0} → (X → X → Type 0) → map.FinMap num_cmp X → map.FinMap num_cmp X → Type 0
AreRests P m n = (num : Num) → BothOrNone P (map.get m num) (map.get n num)

module _ {X : Type 0} (P : X → X → Type 0) where
  as_both : (x y u v : Option X) → u ≡ x → v ≡ y → BothOrNone P x y → BothOrNone P u v
  as_both x y u v e f h = subst (λ o. BothOrNone P o v) (sym e) (subst (BothOrNone P x) (sym f) h)

  both_all : ((a : X) → P a a) → (o : Option X) → BothOrNone P o o
  both_all all None = tt
  both_all all (Some a) = all a

  both_both : ((a b c : X) → P a b → P b c → P a c) → (x y z : Option X) → BothOrNone P x y → BothOrNone P y z → BothOrNone P x z
  both_both chain None None z g h = h
  both_both chain None (Some b) z g h = absurd g
  both_both chain (Some a) None z g h = absurd g
  both_both chain (Some a) (Some b) None g h = h
  both_both chain (Some a) (Some b) (Some c) g h = chain a b c g h

  put_at : ((a : X) → P a a) → (m : map.FinMap num_cmp X) (num : Num) (was now : X) → map.get m num ≡ Some was → P was now
      → (q : Num) (b : Bool) → eq_by_cmp num_cmp q num ≡ b → BothOrNone P (map.get m q) (cond b (Some now) (map.get m q))
  put_at all m num was now there h q true e = as_both (Some was) (Some now) _ _ (ap (map.get m) (tied num_total num_exact q num e) ∙ there) refl h
  put_at all m num was now there h q false e = both_all all (map.get m q)

  -- some of an object that is there was taken
  rests-insert : ((a : X) → P a a) → ((a b c : X) → P a b → P b c → P a c) → (m n : map.FinMap num_cmp X) (num : Num) (was now : X)
      → map.get m num ≡ Some was → P was now → AreRests P (map.insert m num now) n → AreRests P m n
  rests-insert all chain m n num was now there h rests q =
      both_both chain (map.get m q) (map.get (map.insert m num now) q) (map.get n q)
      (as_both _ _ _ _ refl (map.get-insert num_total m num now q) (put_at all m num was now there h q (eq_by_cmp num_cmp q num) refl)) (rests q)

  gone_at : (m n : map.FinMap num_cmp X) (num : Num) (now : X) → map.get m num ≡ None → (q : Num) (b : Bool) → eq_by_cmp num_cmp q num ≡ b
      → BothOrNone P (cond b (Some now) (map.get m q)) (map.get n q) → BothOrNone P (map.get m q) (cond b None (map.get n q))
  gone_at m n num now none q true e h = as_both None None _ _ (ap (map.get m) (tied num_total num_exact q num e) ∙ none) refl tt
  gone_at m n num now none q false e h = h

  -- a new object is gone again
  rests-remove : (m n : map.FinMap num_cmp X) (num : Num) (now : X) → map.get m num ≡ None → AreRests P (map.insert m num now) n
      → AreRests P m (map.remove n num)
  rests-remove m n num now none rests q =
      as_both _ _ _ _ refl (map.get-remove num_total n num q)
      (gone_at m n num now none q (eq_by_cmp num_cmp q num) refl (as_both _ _ _ _ (sym (map.get-insert num_total m num now q)) refl (rests q)))

-- ---- a world with one object put, brought back
pub same-back : (w : World) → BroughtBack w w
same-back w =
    record {
      names = refl;
      files = refl;
      pipes = λ num. both_all IsPipeRest pipe_rest-all (map.get w.pipes num);
      pairs = λ num. both_all IsPairRest pair_rest-all (map.get w.pairs num);
      started = refl;
      blocks = refl;
      words = refl;
    }

-- by what takes the new bytes to the old ones
pub file-back : (w v : World) (num : Num) (bytes : List ℕ) (g : List ℕ → List ℕ) → is_some (map.get w.files num) ≡ true → g bytes ≡ file_of w num
    → BroughtBack (with_file w num bytes) v → BroughtBack w (with_file v num (g (file_of v num)))
file-back w v num bytes g there e b =
    record {
      names = b.names;
      files =
          ap (λ (m : map.FinMap num_cmp (List ℕ)). map.insert m num (g (unwrap_or (map.get m num) []))) b.files
          ∙ (ap (λ o. map.insert (map.insert w.files num bytes) num (g (unwrap_or o []))) (get-insert_same num_total num_exact w.files num bytes)
          ∙ (insert-insert_same num_total num_exact w.files num bytes (g bytes)
          ∙ insert-get_same num_total num_exact w.files num (g bytes) (there_by (map.get w.files num) [] there ∙ ap Some (sym e))));
      pipes = b.pipes;
      pairs = b.pairs;
      started = b.started;
      blocks = b.blocks;
      words = b.words;
    }

-- what brings back a world with the rest of a pipe brings back the world before
pub pipe-back : (w v : World) (num : Num) (now : Pipe) → is_some (map.get w.pipes num) ≡ true → IsPipeRest (pipe_of w num) now
    → BroughtBack (with_pipe w num now) v → BroughtBack w v
pipe-back w v num now there rest b =
    record {
      names = b.names;
      files = b.files;
      pipes = rests-insert IsPipeRest pipe_rest-all pipe_rest-rest w.pipes v.pipes num (pipe_of w num) now
          (there_by (map.get w.pipes num) empty_pipe there) rest b.pipes;
      pairs = b.pairs;
      started = b.started;
      blocks = b.blocks;
      words = b.words;
    }

-- what brings back a world with the rest of a pair brings back the world before
pub pair-back : (w v : World) (num : Num) (now : Pair) → is_some (map.get w.pairs num) ≡ true → IsPairRest (pair_of w num) now
    → BroughtBack (with_pair w num now) v → BroughtBack w v
pair-back w v num now there rest b =
    record {
      names = b.names;
      files = b.files;
      pipes = b.pipes;
      pairs = rests-insert IsPairRest pair_rest-all pair_rest-rest w.pairs v.pairs num (pair_of w num) now
          (there_by (map.get w.pairs num) empty_pair there) rest b.pairs;
      started = b.started;
      blocks = b.blocks;
      words = b.words;
    }

-- what brings back a world with a new pipe brings back the world before, once the pipe is removed
pub new_pipe-back : (w v : World) (num : Num) (now : Pipe) → map.get w.pipes num ≡ None → BroughtBack (with_pipe w num now) v
    → BroughtBack w (record v { pipes = map.remove v.pipes num })
new_pipe-back w v num now none b =
    record {
      names = b.names;
      files = b.files;
      pipes = rests-remove IsPipeRest w.pipes v.pipes num now none b.pipes;
      pairs = b.pairs;
      started = b.started;
      blocks = b.blocks;
      words = b.words;
    }

-- what brings back a world with a new pair brings back the world before, once the pair is removed
pub new_pair-back : (w v : World) (num : Num) (now : Pair) → map.get w.pairs num ≡ None → BroughtBack (with_pair w num now) v
    → BroughtBack w (record v { pairs = map.remove v.pairs num })
new_pair-back w v num now none b =
    record {
      names = b.names;
      files = b.files;
      pipes = b.pipes;
      pairs = rests-remove IsPairRest w.pairs v.pairs num now none b.pairs;
      started = b.started;
      blocks = b.blocks;
      words = b.words;
    }
