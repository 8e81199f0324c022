-- The record that a call without memory left is that of the call whole, or one of a front of its bytes.
use Rattle.std.proofs.Common.{inl, inr, ◌≡◌, ℕ, ◌+◌, ◌==◌, ◌<◌, ◌≤◌, Bool, true, false, List, [], ◌∷◌, length, take, drop, refl, ap, sym, ◌∙◌, subst, arith}
use Rattle.std.specs.Prelude.{if◌then◌else◌, ◌&&◌, ◌||◌, nat_lt, not}
use Rattle.std.proofs.lemmas.Bool.{and_from, and_parts, ltb-true}
use Rattle.std.proofs.lemmas.Bool.Decides.{nat_tests}
use Rattle.xc_data.specs.Calls.{bytes_of}
use Rattle.xc_data.specs.Private.{place_of}
use Rattle.xc_data.specs.declared.call.Answer.{Answer}
use Rattle.xc_data.specs.declared.call.Answer.TheVariants as answer
use Rattle.xc_data.specs.declared.call.Call.{Call}
use Rattle.xc_data.specs.declared.call.Call.TheVariants as call
use Rattle.xc_data.specs.declared.call.Reply.{Reply}
use Rattle.xc_data.specs.declared.call.Reply.TheVariants as reply
use Rattle.xc_data.specs.declared.private.Place.{Place}
use Rattle.xc_data.specs.declared.private.Place.TheVariants as place
use Rattle.xc_data.specs.declared.private.Private.{Private}
use Rattle.xc_data.specs.declared.undo.Undo.{Undo}
use Rattle.xc_data.specs.declared.undo.Undo.TheVariants.{Overwrite, Append, Create, Rename, NewPipe, NewPair}
use Rattle.xc_compensate.specs.Records.{covered, covers}
use Rattle.xc_model.specs.EntryEnds.{AreLeftBy}
use Rattle.xc_world.specs.Act.{act, done, faulty, fine}
use Rattle.xc_world.specs.Act.Files.{append_at, overwrite_at}
use Rattle.xc_world.specs.Act.Step.{Stepped, bytes_counted}
use Rattle.xc_world.specs.Checks.{is_bad_handle, is_bad_word, is_refused, is_too_big, is_too_much}
use Rattle.xc_world.specs.Fits.{asks_host, is_done, is_write, may_stop}
use Rattle.xc_world.specs.Run.{begins}
use Rattle.xc_world.specs.Trail.{append_record, done_of, overwrite_record, recorded}
use Rattle.xc_world.specs.World.{World, file_of}
use Rattle.xc_world.proofs.Laws.{act_cases, chosen_so, refusal-none}
use Rattle.xc_judge.specs.Left.{IsWriteFront, whole_records}
use Rattle.xc_judge.proofs.Recording.{each_recorded}
use Rattle.xc_judge.proofs.Stopped.{append_fault, overwrite_fault, undone_leaves_none}

-- ---- records of one call
-- a record of a write covers all that was to be written
abbrev pub IsFull : Undo → Type 0
IsFull (Overwrite file at before after n) = n ≡ length after
IsFull (Append file from after n) = n ≡ length after
IsFull (Create name num) = Unit {0}
IsFull (Rename from to) = Unit {0}
IsFull (NewPipe num) = Unit {0}
IsFull (NewPair num) = Unit {0}

-- a record with its own length is itself
pub covered_own : (u : Undo) → u ≡ covered u (covers u)
covered_own (Overwrite file at before after n) = refl
covered_own (Append file from after n) = refl
covered_own (Create name num) = refl
covered_own (Rename from to) = refl
covered_own (NewPipe num) = refl
covered_own (NewPair num) = refl

-- a record of a front of what this one covers whole
pub record FromWhole (u v : Undo) : Type 0 where
  pub is : u ≡ covered v (covers u)
  pub front : IsWriteFront (covers u) v
  pub full : IsFull v

-- one that is left is such, of what the call leaves whole
pub record LeftFrom (w : World) (me : Private) (tx : ℕ) (c : Call) (u : Undo) : Type 0 where
  pub whole : Undo
  pub left : whole ∷ [] ≡ whole_records w me tx c
  pub from : FromWhole u whole

-- its length is the last one
covered_twice : (k n : ℕ) (u : Undo) → covered u k ≡ covered (covered u n) k
covered_twice k n (Overwrite file at before after m) = refl
covered_twice k n (Append file from after m) = refl
covered_twice k n (Create name num) = refl
covered_twice k n (Rename from to) = refl
covered_twice k n (NewPipe num) = refl
covered_twice k n (NewPair num) = refl

-- what is not true is false
not_true : (b : Bool) → not b ≡ true → b ≡ false
not_true true e = cc e
not_true false e = refl

-- a reply that is done is that one
done_is : (r : Reply) → is_done r ≡ true → r ≡ reply.Done
done_is reply.Done e = refl
done_is _ e = cc e

-- two lists of one record have the same
first_is : {X : Type 0} {x u : X} → u ∷ [] ≡ x ∷ [] → x ≡ u
first_is e = cc e

-- ---- calls that write
-- this record tells of n bytes, where `records` has those of any number
record OfWrite (records : ℕ → List Undo) (all n : ℕ) (u : Undo) : Type 0 where
  some : (n == 0) ≡ false
  is : (k : ℕ) → (k == 0) ≡ false → records k ≡ covered u k ∷ []
  full : n ≡ all → IsFull u
  size : covers u ≡ n
  front : (k : ℕ) → 1 ≤ k → k ≤ n → IsWriteFront k u
  within : (k : ℕ) → IsWriteFront k u → (1 ≤ k) × (k ≤ n)

-- a call that writes: the records of so many bytes, and how many it is to write
record IsWriting (w : World) (me : Private) (tx : ℕ) (c : Call) : Type 0 where
  records : ℕ → List Undo
  all : ℕ
  write : is_write c ≡ true
  bytes : length (bytes_of c) ≡ all
  leaves : (r : Reply) → recorded w me tx c r ≡ records (done_of all r)
  of : (n : ℕ) (u : Undo) → u ∷ [] ≡ records n → OfWrite records all n u
  is_done : (u : Undo) → u ∷ [] ≡ records (done_of all (fine w me tx c).reply) → (fine w me tx c).reply ≡ reply.Done
  stops : (n : ℕ) → (faulty w me c n).reply ≡ reply.Fault n
  none : records 0 ≡ []

-- where one record is left, it is this one
by_some : {X : Type 0} (b : Bool) (x u : X) → u ∷ [] ≡ (if b then [] else x ∷ []) → (b ≡ false) × (x ≡ u)
by_some true x u e = cc e
by_some false x u e = (refl, cc e)

-- and so it is where there is one
chosen_one : {X : Type 0} (b : Bool) (x : X) → b ≡ false → (if b then [] else x ∷ []) ≡ x ∷ []
chosen_one true x e = cc e
chosen_one false x e = refl

-- records of an overwrite tell of their bytes
of_overwrite : (w : World) (bytes : List ℕ) (p : Place) (n : ℕ) (u : Undo) → u ∷ [] ≡ overwrite_record w bytes n p
    → OfWrite (λ k. overwrite_record w bytes k p) (length bytes) n u
of_overwrite w bytes (place.File num at) n u e =
    let before = take (length bytes) (drop at (file_of w num)) in
    let both = by_some (n == 0) (Overwrite num at before bytes n) u e in
    subst (OfWrite (λ k. overwrite_record w bytes k (place.File num at)) (length bytes) n) both.1 (record {
      some = both.0;
      is = λ k some. chosen_one (k == 0) (Overwrite num at before bytes k) some;
      full = λ same. same;
      size = refl;
      front = λ k low high. (low, high);
      within = λ k front. front;
    })
of_overwrite w bytes _ n u e = cc e

-- and those of an append
of_append : (w : World) (bytes : List ℕ) (p : Place) (n : ℕ) (u : Undo) → u ∷ [] ≡ append_record w bytes n p
    → OfWrite (λ k. append_record w bytes k p) (length bytes) n u
of_append w bytes (place.File num at) n u e =
    let both = by_some (n == 0) (Append num (length (file_of w num)) bytes n) u e in
    subst (OfWrite (λ k. append_record w bytes k (place.File num at)) (length bytes) n) both.1 (record {
      some = both.0;
      is = λ k some. chosen_one (k == 0) (Append num (length (file_of w num)) bytes k) some;
      full = λ same. same;
      size = refl;
      front = λ k low high. (low, high);
      within = λ k front. front;
    })
of_append w bytes _ n u e = cc e

-- of no byte an overwrite has none
overwrite_none : (w : World) (bytes : List ℕ) (p : Place) → overwrite_record w bytes 0 p ≡ []
overwrite_none w bytes (place.File num at) = refl
overwrite_none w bytes _ = refl

-- nor has an append
append_none : (w : World) (bytes : List ℕ) (p : Place) → append_record w bytes 0 p ≡ []
append_none w bytes (place.File num at) = refl
append_none w bytes _ = refl

-- where no byte was done it left no record
overwrite_done : (w : World) (me : Private) (h : ℕ) (bytes : List ℕ) (p : Place) (u : Undo)
    → u ∷ [] ≡ overwrite_record w bytes (done_of (length bytes) (overwrite_at w me h bytes p).reply) p
    → (overwrite_at w me h bytes p).reply ≡ reply.Done
overwrite_done w me h bytes (place.File num at) u =
    let P : Stepped → Type 0 =
    λ s. u ∷ [] ≡ overwrite_record w bytes (done_of (length bytes) s.reply) (place.File num at) → s.reply ≡ reply.Done in
    chosen_so P (length bytes == 0) _ _ (λ _ _. refl) (λ _.
    chosen_so P (nat_lt (length (file_of w num)) (at + length bytes)) _ _ (λ _ e. cc e) (λ _ _. refl))
overwrite_done w me h bytes _ u = λ e. cc e

-- nor did an append
append_done : (w : World) (me : Private) (h : ℕ) (bytes : List ℕ) (p : Place) (u : Undo)
    → u ∷ [] ≡ append_record w bytes (done_of (length bytes) (append_at w me h bytes p).reply) p → (append_at w me h bytes p).reply ≡ reply.Done
append_done w me h bytes (place.File num at) u =
    let P : Stepped → Type 0 =
    λ s. u ∷ [] ≡ append_record w bytes (done_of (length bytes) s.reply) (place.File num at) → s.reply ≡ reply.Done in
    chosen_so P (length bytes == 0) _ _ (λ _ _. refl) (λ _.
    chosen_so P (nat_lt 65536 (length (file_of w num) + length bytes)) _ _ (λ _ e. cc e) (λ _ _. refl))
append_done w me h bytes _ u = λ e. cc e

-- an overwrite writes so
overwrite_writes : (w : World) (me : Private) (tx h : ℕ) (bytes : List ℕ)
    → IsWriting w me tx (call.XWriteOvr h bytes)
overwrite_writes w me tx h bytes =
    let p = place_of me.places h in
    record {
      records = λ k. overwrite_record w bytes k p;
      all = length bytes;
      write = refl;
      bytes = refl;
      leaves = λ r. refl;
      of = of_overwrite w bytes p;
      is_done = overwrite_done w me h bytes p;
      stops = overwrite_fault w me h p bytes;
      none = overwrite_none w bytes p;
    }

-- and so does an append
append_writes : (w : World) (me : Private) (tx h : ℕ) (bytes : List ℕ)
    → IsWriting w me tx (call.XWriteSeq h bytes)
append_writes w me tx h bytes =
    let p = place_of me.places h in
    record {
      records = λ k. append_record w bytes k p;
      all = length bytes;
      write = refl;
      bytes = refl;
      leaves = λ r. refl;
      of = of_append w bytes p;
      is_done = append_done w me h bytes p;
      stops = append_fault w me h p bytes;
      none = append_none w bytes p;
    }

-- a call that no check refuses is done
passed_all : {X : Type 0} (a b c d : Bool) (w x y z s : X) → (a || b || c || d) ≡ false
    → (if a then w else if b then x else if c then y else if d then z else s) ≡ s
passed_all true b c d w x y z s e = cc e
passed_all false true c d w x y z s e = cc e
passed_all false false true d w x y z s e = cc e
passed_all false false false true w x y z s e = cc e
passed_all false false false false w x y z s e = refl

-- so it acts
act_passed : (w : World) (me : Private) (tx : ℕ) (c : Call) (a : Answer) → is_refused c me (length w.words) ≡ false
    → act w me tx c a ≡ bytes_counted c (done w me tx c a)
act_passed w me tx c a e =
    passed_all (is_bad_handle c me) (is_too_big c) (is_too_much c me) (is_bad_word c (length w.words)) _ _ _ _ (bytes_counted c (done w me tx c a)) e

module _ (w : World) (me : Private) (tx : ℕ) (c : Call) (so : IsWriting w me tx c) where
  -- one that left a record whole was not refused, and was done
  record IsDone (v : Undo) : Type 0 where
    passed : is_refused c me (length w.words) ≡ false
    gave : (fine w me tx c).reply ≡ reply.Done
    written : v ∷ [] ≡ so.records so.all

  -- its record tells so
  done_whole : (v : Undo) → v ∷ [] ≡ whole_records w me tx c → IsDone v
  done_whole v =
      let none = refusal-none w me tx c in
      act_cases w me tx c answer.Fine (λ (s : Stepped). v ∷ [] ≡ recorded w me tx c s.reply → IsDone v) (λ e. absurd (one_not_none (e ∙ none.bad_handle)))
      (λ e. absurd (one_not_none (e ∙ none.too_big))) (λ e. absurd (one_not_none (e ∙ none.too_much)))
      (λ e. absurd (one_not_none (e ∙ none.bad_word)))
      (λ passed e.
      let gave = so.is_done v (e ∙ so.leaves (fine w me tx c).reply) in
      record { passed = passed; gave = gave; written = e ∙ so.leaves (fine w me tx c).reply ∙ ap (λ r. so.records (done_of so.all r)) gave })
    where
      one_not_none : v ∷ [] ≡ [] → ⊥
      one_not_none e = cc e

  -- where it passes and would be done, its records are those of all bytes
  whole_is : is_refused c me (length w.words) ≡ false → (fine w me tx c).reply ≡ reply.Done → whole_records w me tx c ≡ so.records so.all
  whole_is passed gave =
      ap (λ (s : Stepped). recorded w me tx c s.reply) (act_passed w me tx c answer.Fine passed) ∙ so.leaves (fine w me tx c).reply
      ∙ ap (λ r. so.records (done_of so.all r)) gave

  -- where it stops after n bytes, they are those of so many
  stopped_is : (n : ℕ) → is_refused c me (length w.words) ≡ false
      → recorded w me tx c (act w me tx c (answer.Fault n)).reply ≡ so.records n
  stopped_is n passed =
      ap (λ (s : Stepped). recorded w me tx c s.reply) (act_passed w me tx c (answer.Fault n) passed) ∙ so.leaves (faulty w me c n).reply
      ∙ ap (λ r. so.records (done_of so.all r)) (so.stops n)

  -- each front of what it leaves whole may be left
  write_left : (k : ℕ) (v : Undo) → v ∷ [] ≡ whole_records w me tx c → IsWriteFront k v → AreLeftBy (begins w me) tx c (covered v k ∷ [])
  write_left k v whole front = by_length (nat_lt k so.all) refl
    where
      all_done : IsDone v
      all_done = done_whole v whole

      own : OfWrite so.records so.all so.all v
      own = so.of so.all v all_done.written

      some_bytes : (k == 0) ≡ false
      some_bytes = let low = (own.within k front).0 in grind (arith, nat_tests)

      by_length : (b : Bool) → nat_lt k so.all ≡ b → AreLeftBy (begins w me) tx c (covered v k ∷ [])
      by_length true less = inr (
        answer.Fault k,
        and_from (not (is_refused c me (length w.words))) (if k == 0 then asks_host c else may_stop w me tx c k) (ap not all_done.passed)
            (ap (λ b. if b then asks_host c else may_stop w me tx c k) some_bytes
            ∙ and_from (is_write c && is_done (fine w me tx c).reply) (nat_lt k (length (bytes_of c)))
            (and_from (is_write c) (is_done (fine w me tx c).reply) so.write (ap is_done all_done.gave)) (ap (nat_lt k) so.bytes ∙ less)),
        sym (stopped_is k all_done.passed ∙ own.is k some_bytes),
      )
      by_length false more =
          let high = (own.within k front).1 in
          let same : k ≡ covers v = let size = own.size in grind (arith, nat_tests) in
          inr (answer.Fine, refl, subst (λ (u : Undo). u ∷ [] ≡ whole_records w me tx c) (covered_own v ∙ ap (λ n. covered v n) (sym same)) whole)

  -- and each record that is left is such a front
  write_from : (u : Undo) → AreLeftBy (begins w me) tx c (u ∷ []) → LeftFrom w me tx c u
  write_from u (inl none) = cc none
  write_from u (inr (answer.Fine, fit, left)) =
      let own = so.of so.all u (done_whole u left).written in
      let low : 1 ≤ covers u = let some = own.some in let size = own.size in grind (arith, nat_tests) in
      let high : covers u ≤ so.all = let size = own.size in omega arith in
      record { whole = u; left = left; from = record { is = covered_own u; front = own.front (covers u) low high; full = own.full refl } }
  write_from u (inr (answer.Fault n, fit, left)) =
      let parts = and_parts (not (is_refused c me (length w.words))) (if n == 0 then asks_host c else may_stop w me tx c n) fit in
      let passed = not_true (is_refused c me (length w.words)) parts.0 in
      let own = so.of n u (left ∙ stopped_is n passed) in
      let stop : may_stop w me tx c n ≡ true = subst (λ b. (if b then asks_host c else may_stop w me tx c n) ≡ true) own.some parts.1 in
      let ends = and_parts (is_write c && is_done (fine w me tx c).reply) (nat_lt n (length (bytes_of c))) stop in
      let gave = done_is (fine w me tx c).reply (and_parts (is_write c) (is_done (fine w me tx c).reply) ends.0).1 in
      let less : n < so.all = subst (λ k. n < k) so.bytes (ltb-true n (length (bytes_of c)) ends.1) in
      let some : (so.all == 0) ≡ false = grind (arith, nat_tests) in
      let v = covered u so.all in
      let whole : v ∷ [] ≡ whole_records w me tx c = sym (whole_is passed gave ∙ own.is so.all some) in
      let there = so.of so.all v (sym (own.is so.all some)) in
      let low : 1 ≤ covers u = let some_done = own.some in let size = own.size in grind (arith, nat_tests) in
      let high : covers u ≤ so.all = let size = own.size in omega arith in
      record {
        whole = v;
        left = whole;
        from = record {
          is = covered_own u ∙ covered_twice (covers u) so.all u;
          front = there.front (covers u) low high;
          full = there.full refl;
        };
      }
  write_from u (inr (answer.Undone n, fit, left)) = let none = left ∙ undone_leaves_none w me tx c n in cc none

-- ---- calls that don't write
-- a record that is none of a write
abbrev IsNoWrite : Undo → Type 0
IsNoWrite (Overwrite file at before after n) = ⊥
IsNoWrite (Append file from after n) = ⊥
IsNoWrite (Create name num) = Unit {0}
IsNoWrite (Rename from to) = Unit {0}
IsNoWrite (NewPipe num) = Unit {0}
IsNoWrite (NewPair num) = Unit {0}

-- all of it is a front of it, of any number of bytes
other_front : (k : ℕ) (u : Undo) → IsNoWrite u → (covered u k ≡ u) × IsWriteFront k u × IsFull u
other_front k (Overwrite file at before after n) is = absurd is
other_front k (Append file from after n) is = absurd is
other_front k (Create name num) is = (refl, tt, tt)
other_front k (Rename from to) is = (refl, tt, tt)
other_front k (NewPipe num) is = (refl, tt, tt)
other_front k (NewPair num) is = (refl, tt, tt)

-- records of which the first is none of a write
abbrev AreOther : List Undo → Type 0
AreOther [] = Unit {0}
AreOther (u ∷ us) = IsNoWrite u

-- such is that of any call that writes nothing
recorded_other : (w : World) (me : Private) (tx : ℕ) (c : Call) (r : Reply) (u : Undo) → is_write c ≡ false → u ∷ [] ≡ recorded w me tx c r → IsNoWrite u
recorded_other w me tx c r u write e =
    subst AreOther (sym e) (each_recorded AreOther w me tx c r (record {
      none = tt;
      overwrite = λ is file at before after n. cc (write, is);
      append = λ is file from after n. cc (write, is);
      create = λ name. tt;
      rename = λ from to. tt;
      pipe = tt;
      pair = tt;
    }))

-- what such a call leaves whole may be left
other_left : (w : World) (me : Private) (tx : ℕ) (c : Call) (k : ℕ) (v : Undo) → is_write c ≡ false → v ∷ [] ≡ whole_records w me tx c
    → AreLeftBy (begins w me) tx c (covered v k ∷ [])
other_left w me tx c k v write whole =
    let same = (other_front k v (recorded_other w me tx c (act w me tx c answer.Fine).reply v write whole)).0 in
    inr (answer.Fine, refl, subst (λ (u : Undo). u ∷ [] ≡ whole_records w me tx c) (sym same) whole)

-- where it meets a fault it leaves none
faulty_none : (w : World) (me : Private) (tx : ℕ) (c : Call) (n : ℕ) → is_write c ≡ false → recorded w me tx c (faulty w me c n).reply ≡ []
faulty_none w me tx (call.XWriteOvr h bytes) n write = cc write
faulty_none w me tx (call.XWriteSeq h bytes) n write = cc write
faulty_none w me tx _ n write = refl

-- nor where it stops
stopped_none : (w : World) (me : Private) (tx : ℕ) (c : Call) (n : ℕ) → is_write c ≡ false → recorded w me tx c (act w me tx c (answer.Fault n)).reply ≡ []
stopped_none w me tx c n write =
    let none = refusal-none w me tx c in
    act_cases w me tx c (answer.Fault n) (λ (s : Stepped). recorded w me tx c s.reply ≡ []) none.bad_handle none.too_big none.too_much none.bad_word
    (λ passed. faulty_none w me tx c n write)

-- so what it left is what it leaves whole
other_from : (w : World) (me : Private) (tx : ℕ) (c : Call) (u : Undo) → is_write c ≡ false → AreLeftBy (begins w me) tx c (u ∷ []) → LeftFrom w me tx c u
other_from w me tx c u write (inl none) = cc none
other_from w me tx c u write (inr (answer.Fine, fit, left)) =
    let other = other_front (covers u) u (recorded_other w me tx c (act w me tx c answer.Fine).reply u write left) in
    record { whole = u; left = left; from = record { is = covered_own u; front = other.1; full = other.2 } }
other_from w me tx c u write (inr (answer.Fault n, fit, left)) = let none = left ∙ stopped_none w me tx c n write in cc none
other_from w me tx c u write (inr (answer.Undone n, fit, left)) = let none = left ∙ undone_leaves_none w me tx c n in cc none

-- ---- any call
-- each front of what it leaves whole may be left
pub front_left_by : (w : World) (me : Private) (tx : ℕ) (c : Call) (k : ℕ) (v : Undo) → v ∷ [] ≡ whole_records w me tx c → IsWriteFront k v
    → AreLeftBy (begins w me) tx c (covered v k ∷ [])
front_left_by w me tx (call.XWriteOvr h bytes) k v whole front =
    write_left w me tx (call.XWriteOvr h bytes) (overwrite_writes w me tx h bytes) k v whole front
front_left_by w me tx (call.XWriteSeq h bytes) k v whole front =
    write_left w me tx (call.XWriteSeq h bytes) (append_writes w me tx h bytes) k v whole front
front_left_by w me tx c k v whole front = other_left w me tx c k v refl whole

-- and each record that is left is such a front
pub left_from : (w : World) (me : Private) (tx : ℕ) (c : Call) (u : Undo) → AreLeftBy (begins w me) tx c (u ∷ []) → LeftFrom w me tx c u
left_from w me tx (call.XWriteOvr h bytes) u left = write_from w me tx (call.XWriteOvr h bytes) (overwrite_writes w me tx h bytes) u left
left_from w me tx (call.XWriteSeq h bytes) u left = write_from w me tx (call.XWriteSeq h bytes) (append_writes w me tx h bytes) u left
left_from w me tx c u left = other_from w me tx c u refl left
