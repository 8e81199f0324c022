-- The records of an aborted entry, by what is shown of them.
use Rattle.std.proofs.Common.{inl, inr, ◌⊎◌, ◌≡◌, ℕ, suc, ◌+◌, ◌-◌, ◌<◌, ◌≤◌, true, false, Option, Some, None, List, [], ◌∷◌, ◌++◌, length, get_or}
use Rattle.std.proofs.Common.{map, take, refl, ap, sym, ◌∙◌, subst, arith, append_assoc}
use Rattle.std.proofs.Common.{drop-cons, length-append, length-take}
use Rattle.std.specs.Prelude.{slice_get, if◌then◌else◌}
use Rattle.std.specs.List.{list_any}
use Rattle.std.proofs.Math.Seq.{get_or-append_seam}
use Rattle.std.proofs.lemmas.List.{append-nil, drop_all, length-map, map-append, take-append-drop}
use Rattle.std.proofs.lemmas.Option.{slice_get-get_or}
use Rattle.xc_data.specs.Claims.{is_object}
use Rattle.xc_data.specs.Remaining.{objects_of, remains_from}
use Rattle.xc_data.specs.declared.call.Call.{Call}
use Rattle.xc_data.specs.declared.entry.Cause.{Cause}
use Rattle.xc_data.specs.declared.entry.Cause.TheVariants as cause
use Rattle.xc_data.specs.declared.object.Object.{Object}
use Rattle.xc_data.specs.declared.private.Private.{Private}
use Rattle.xc_data.specs.declared.undo.Undo.{Undo}
use Rattle.xc_data.specs.declared.undo.UndoEnd.{UndoEnd}
use Rattle.xc_lines.specs.declared.shown.EffectShown.{EffectShown}
use Rattle.xc_lines.specs.declared.shown.UndoKind.{UndoKind}
use Rattle.xc_script.specs.declared.ask.Ask.{Ask}
use Rattle.xc_script.specs.declared.ask.Ask.TheVariants as ask
use Rattle.xc_sheet.specs.Ends.{effect_shown}
use Rattle.xc_shown.specs.Shown.{effect_from, effects_shown, record_shown}
use Rattle.xc_world.specs.Ends.{AreLegal, Ending, IsLegalEnd, blocker, stands_in_way, is_undone}
use Rattle.xc_world.specs.Run.{BodyResult, begins}
use Rattle.xc_world.specs.World.{World}
use Rattle.xc_model.specs.EntryEnds.{AreLeft, AreRecords}
use Rattle.xc_judge.specs.Left.{AreAlike, IsLeftLast, IsNotLeft, IsShownLast, NewestShown}
use Rattle.xc_judge.specs.Ran.{is_memory_cause}
use Rattle.xc_judge.specs.Traced.{AreAllAlike, AreNotTraced, AreShown, AreTraced, ReportShown, ends_of, shown_ends, undos_of}
use Rattle.xc_judge.proofs.Stopped.{alike_left, left_alike, left_few, starved_by_memory}

-- ---- records with their ends
-- those of equal records with equal ends are equal
same_pairs : (xs ys : List Ending) → undos_of xs ≡ undos_of ys
    → ends_of xs ≡ ends_of ys → xs ≡ ys
same_pairs [] [] us es = refl
same_pairs [] (y ∷ ys) us es = cc us
same_pairs (x ∷ xs) [] us es = cc us
same_pairs ((u, e) ∷ xs) ((v, f) ∷ ys) us es =
    let undo : u ≡ v = cc us in
    let end : e ≡ f = cc es in
    let more_us : undos_of xs ≡ undos_of ys = cc us in
    let more_es : ends_of xs ≡ ends_of ys = cc es in
    λ i. (undo i, end i) ∷ same_pairs xs ys more_us more_es i

-- a list of records that ends with this one, with their ends
pub split_last : (us : List Undo) (u : Undo) (es : List UndoEnd) (e : UndoEnd) (xs : List Ending) → undos_of xs ≡ us ++ u ∷ []
    → ends_of xs ≡ es ++ e ∷ [] → length us ≡ length es
    → (front : List Ending) × (xs ≡ front ++ (u, e) ∷ []) × (undos_of front ≡ us) × (ends_of front ≡ es)
split_last [] u [] e [] p q size = cc p
split_last [] u [] e ((v, f) ∷ []) p q size =
    let undo : v ≡ u = cc p in let end : f ≡ e = cc q in ([], λ i. (undo i, end i) ∷ [], refl, refl)
split_last [] u [] e (x ∷ y ∷ xs) p q size = cc p
split_last [] u (f ∷ es) e xs p q size = absurd (omega (arith, size))
split_last (v ∷ us) u [] e xs p q size = absurd (omega (arith, size))
split_last (v ∷ us) u (f ∷ es) e [] p q size = cc p
split_last (v ∷ us) u (f ∷ es) e ((w, g) ∷ xs) p q size =
    let undo : w ≡ v = cc p in
    let end : g ≡ f = cc q in
    let more_p : undos_of xs ≡ us ++ u ∷ [] = cc p in
    let more_q : ends_of xs ≡ es ++ e ∷ [] = cc q in
    let so = split_last us u es e xs more_p more_q (omega (arith, size)) in
    ((v, f) ∷ so.0, (λ i. (undo i, end i) ∷ so.1 i), ap (λ l. v ∷ l) so.2, ap (λ l. f ∷ l) so.3)

-- the ends are shown
pub shown_ends_are : (xs : List Ending) → shown_ends (map record_shown xs) ≡ ends_of xs
shown_ends_are [] = refl
shown_ends_are ((u, e) ∷ xs) = ap (λ l. e ∷ l) (shown_ends_are xs)

-- ---- two lists that are alike
module _ (u v : Undo) (end : UndoEnd) (so : AreAlike u v end) where
  -- one blocks an older record if the other does
  blocks_alike : (older : Undo) → stands_in_way older (u, end) ≡ stands_in_way older (v, end)
  blocks_alike older =
      ap (λ (os : List Object). if is_undone end then false else list_any (λ o. list_any (is_object o) os) (objects_of older)) so.objects

  -- so the same record is in the way
  blocker_alike : (from : ℕ) (older : Undo) (front : List Ending) → blocker from older (front ++ (u, end) ∷ []) ≡ blocker from older (front ++ (v, end) ∷ [])
  blocker_alike from older [] = ap (λ b. if b then Some from else None) (blocks_alike older)
  blocker_alike from older (x ∷ front) = ap (λ w. if stands_in_way older x then Some from else w) (blocker_alike (from + 1) older front)

  -- and as legal are the ends
  legal_alike : (tries from : ℕ) (front : List Ending) → AreLegal tries from (front ++ (u, end) ∷ []) → AreLegal tries from (front ++ (v, end) ∷ [])
  legal_alike tries from [] (one, rest) = (so.legal tries None one, tt)
  legal_alike tries from ((x, e) ∷ front) (one, rest) =
      (subst (IsLegalEnd tries x e) (blocker_alike (from + 1) x front) one, legal_alike tries (from + 1) front rest)

  -- the effects that stand are shown the same
  effects_alike : (front : List Ending) → effects_shown (front ++ (u, end) ∷ []) ≡ effects_shown (front ++ (v, end) ∷ [])
  effects_alike [] = ap (λ es. es ++ []) so.effects
  effects_alike ((x, e) ∷ front) = ap (λ es. effect_from x (remains_from x e) ++ es) (effects_alike front)

  -- and so are the kinds
  kinds_alike : (front : List Ending) → map record_shown (front ++ (u, end) ∷ []) ≡ map record_shown (front ++ (v, end) ∷ [])
  kinds_alike [] = ap (λ k. (k, end) ∷ []) so.kinds
  kinds_alike ((x, e) ∷ front) = ap (λ ks. record_shown (x, e) ∷ ks) (kinds_alike front)

  -- as many records
  as_many : (front : List Ending) → length (front ++ (u, end) ∷ []) ≡ length (front ++ (v, end) ∷ [])
  as_many [] = refl
  as_many (x ∷ front) = ap suc (as_many front)

  -- whose last two are alike, without memory
  alike_last : (front : List Ending) → AreAllAlike cause.NoMemory (front ++ (u, end) ∷ []) (front ++ (v, end) ∷ [])
  alike_last front =
      record {
        kinds = kinds_alike front;
        effects = effects_alike front;
        reports = λ tries count report. record {
          many = subst (λ n. (count ≤ n) × (n ≤ count + 1)) (as_many front) report.many;
          legal = legal_alike tries 1 front report.legal;
        };
      }

-- equal lists are alike
alike_equal : (why : Cause) (xs ys : List Ending) → xs ≡ ys → AreAllAlike why xs ys
alike_equal why xs ys same = subst (AreAllAlike why xs) same (record { kinds = refl; effects = refl; reports = λ tries count report. report })

-- ---- what is shown last
-- nothing newer is in the way of the last record
legal_last : (tries from : ℕ) (front : List Ending) (u : Undo) (end : UndoEnd) → AreLegal tries from (front ++ (u, end) ∷ []) → IsLegalEnd tries u end None
legal_last tries from [] u end (one, rest) = one
legal_last tries from ((x, e) ∷ front) u end (one, rest) = legal_last tries (from + 1) front u end rest

-- the last effect is that of the last record, where it stands
effects_last : (front : List Ending) (u : Undo) (end : UndoEnd) (k : ℕ) → remains_from u end ≡ Some k
    → (more : List EffectShown) × (effects_shown (front ++ (u, end) ∷ []) ≡ more ++ effect_shown u k ∷ [])
effects_last [] u end k stands = ([], ap (λ o. effect_from u o ++ []) stands)
effects_last ((x, e) ∷ front) u end k stands =
    let so = effects_last front u end k stands in
    let first = effect_from x (remains_from x e) in
    (first ++ so.0, ap (λ es. first ++ es) so.1 ∙ sym (append_assoc first so.0 (effect_shown u k ∷ [])))

-- the last of a list
last_there : {X : Type 0} (xs : List X) (x : X) → slice_get (xs ++ x ∷ []) (length (xs ++ x ∷ []) - 1) ≡ Some x
last_there xs x =
    let size = length-append xs (x ∷ []) in
    let at : length (xs ++ x ∷ []) - 1 ≡ length xs = omega (arith, size) in
    ap (slice_get (xs ++ x ∷ [])) at ∙ slice_get-get_or (xs ++ x ∷ []) (length xs) x (omega (arith, size)) ∙ ap Some (get_or-append_seam xs x [] x)

-- the last of records that are shown so is shown so last
shown_last : (front : List Ending) (u : Undo) (seen : ReportShown) (newest : NewestShown) → AreShown seen (front ++ (u, newest.end) ∷ [])
    → newest.effect ≡ slice_get seen.effects (length seen.effects - 1) → IsShownLast u newest
shown_last front u seen newest so is =
    record {
      tries = so.tries;
      legal = legal_last so.tries 1 front u newest.end so.legal;
      stands = λ k stands.
          let last = effects_last front u newest.end k stands in
          is ∙ ap (λ es. slice_get es (length es - 1)) (sym so.effects ∙ last.1) ∙ last_there last.0 (effect_shown u k);
    }

-- ---- the records of an aborted entry
-- a call may leave no record
none_left : (b : BodyResult) (tx : ℕ) (last : Ask) → AreLeft b tx last []
none_left b tx (ask.Call c) = inl refl
none_left b tx ask.Commit = refl
none_left b tx ask.Abort = refl
none_left b tx ask.End = refl

-- those of its calls may be all
trail_records : (b : BodyResult) (tx : ℕ) (last : Ask) (why : Cause) → AreRecords b tx last why b.trail
trail_records b tx last cause.NoMemory = ([], none_left b tx last, sym (append-nil b.trail))
trail_records b tx last cause.Asked = refl
trail_records b tx last (cause.Conflict object holder at) = refl
trail_records b tx last (cause.Revoked object by at) = refl
trail_records b tx last (cause.Stuck failed) = refl

-- without memory one of the next call stands last
record OneMore (b : BodyResult) (tx : ℕ) (last : Ask) (why : Cause) (us : List Undo) : Type 0 where
  starved : why ≡ cause.NoMemory
  more : Undo
  left : AreLeft b tx last (more ∷ [])
  is : us ≡ b.trail ++ more ∷ []

-- and leaves no two
many_left : (b : BodyResult) (tx : ℕ) (last : Ask) (u v : Undo) (more : List Undo) → AreLeft b tx last (u ∷ v ∷ more) → ⊥
many_left b tx (ask.Call c) u v more left = let few = left_few b.world b.me tx c (u ∷ v ∷ more) left in omega (arith, few)
many_left b tx ask.Commit u v more left = cc left
many_left b tx ask.Abort u v more left = cc left
many_left b tx ask.End u v more left = cc left

-- so one record more at most is left
more_left : (b : BodyResult) (tx : ℕ) (last : Ask) (us more : List Undo) → AreLeft b tx last more → us ≡ b.trail ++ more
    → (us ≡ b.trail) ⊎ OneMore b tx last cause.NoMemory us
more_left b tx last us [] left is = inl (is ∙ append-nil b.trail)
more_left b tx last us (u ∷ []) left is = inr (record { starved = refl; more = u; left = left; is = is })
more_left b tx last us (u ∷ v ∷ more) left is = absurd (many_left b tx last u v more left)

-- those of its calls are all, or one more stands last
trail_or_more : (b : BodyResult) (tx : ℕ) (last : Ask) (why : Cause) (us : List Undo) → AreRecords b tx last why us
    → (us ≡ b.trail) ⊎ OneMore b tx last why us
trail_or_more b tx last cause.NoMemory us so = more_left b tx last us so.0 so.1 so.2
trail_or_more b tx last cause.Asked us so = inl so
trail_or_more b tx last (cause.Conflict object holder at) us so = inl so
trail_or_more b tx last (cause.Revoked object by at) us so = inl so
trail_or_more b tx last (cause.Stuck failed) us so = inl so

-- the ends that are shown, where there is one more than n
ends_split : (shown : List (UndoKind × UndoEnd)) (n : ℕ) (d : UndoKind × UndoEnd) → length shown ≡ n + 1
    → shown_ends shown ≡ shown_ends (take n shown) ++ (get_or shown n d).1 ∷ []
ends_split shown n d size =
    let lt : n < length shown = omega (arith, size) in
    ap shown_ends
    (sym (take-append-drop n shown)
    ∙ ap (λ r. take n shown ++ r) (drop-cons shown n d lt ∙ ap (λ r. get_or shown n d ∷ r) (drop_all (suc n) shown (omega (arith, size)))))
    ∙ map-append (λ (s : UndoKind × UndoEnd). s.1) (take n shown) (get_or shown n d ∷ [])

-- and how many ends come before the last
ends_size : (shown : List (UndoKind × UndoEnd)) (n : ℕ) → length shown ≡ n + 1
    → length (shown_ends (take n shown)) ≡ n
ends_size shown n size =
    let a = length-map (take n shown) (λ (s : UndoKind × UndoEnd). s.1) in
    let b = length-take n shown in
    omega (arith, a, b, size)

module _ (b : BodyResult) (tx : ℕ) (last : Ask) (seen : ReportShown) where
  -- as many are shown
  as_shown : (records : List Ending) → AreShown seen records → length (undos_of records) ≡ length seen.records
  as_shown records so =
      length-map records (λ (r : Ending). r.0) ∙ sym (length-map records record_shown) ∙ ap length so.kinds

  -- with the same ends
  ends_so : (records : List Ending) → AreShown seen records → ends_of records ≡ shown_ends seen.records
  ends_so records so = sym (shown_ends_are records) ∙ ap shown_ends so.kinds

  -- as many are shown as its calls left
  pub traced_trail : (trail : List Undo) → trail ≡ b.trail → length seen.records ≡ length trail → AreTraced b tx last seen trail
  traced_trail trail is size =
      record {
        count = sym size;
        records = subst (AreRecords b tx last seen.cause) (sym is) (trail_records b tx last seen.cause);
        alike = λ records so there others us es. by_cases records so there others us es (trail_or_more b tx last seen.cause (undos_of records) so);
      }
    where
      by_cases : (records : List Ending) → AreRecords b tx last seen.cause (undos_of records) → AreShown seen records → (others : List Ending)
          → undos_of others ≡ trail → ends_of others ≡ shown_ends seen.records
          → (undos_of records ≡ b.trail) ⊎ OneMore b tx last seen.cause (undos_of records) → AreAllAlike seen.cause records others
      by_cases records so there others us es (inl same) =
          alike_equal seen.cause records others (same_pairs records others (same ∙ sym is ∙ sym us) (ends_so records there ∙ sym es))
      by_cases records so there others us es (inr one) =
          let many = as_shown records there in
          let more = ap length one.is ∙ length-append b.trail (one.more ∷ []) in
          let same = ap length is in
          absurd (omega (arith, many, more, same, size))

  -- neither as many are shown nor one more that may have been left
  pub not_as_many : (trail : List Undo) → trail ≡ b.trail → (length seen.records ≡ length trail → ⊥)
      → ((is_memory_cause seen.cause ≡ true) × (length seen.records ≡ length trail + 1) → ⊥) → AreNotTraced b tx last seen
  not_as_many trail is other none records so there = by_cases (trail_or_more b tx last seen.cause (undos_of records) so)
    where
      by_cases : (undos_of records ≡ b.trail) ⊎ OneMore b tx last seen.cause (undos_of records) → ⊥
      by_cases (inl same) = other (sym (as_shown records there) ∙ ap length (same ∙ sym is))
      by_cases (inr one) =
          let many = as_shown records there in
          let more = ap length one.is ∙ length-append b.trail (one.more ∷ []) in
          let same = ap length is in
          none (ap is_memory_cause one.starved, omega (arith, many, more, same))

  -- what is asked last leaves no record
  pub not_called : (trail : List Undo) → trail ≡ b.trail → (length seen.records ≡ length trail → ⊥) → ((c : Call) → last ≡ ask.Call c → ⊥)
      → AreNotTraced b tx last seen
  not_called trail is other none records so there = by_cases (trail_or_more b tx last seen.cause (undos_of records) so)
    where
      no_call : (a : Ask) (u : Undo) → ((c : Call) → a ≡ ask.Call c → ⊥) → AreLeft b tx a (u ∷ []) → ⊥
      no_call (ask.Call c) u not_one left = not_one c refl
      no_call ask.Commit u not_one left = cc left
      no_call ask.Abort u not_one left = cc left
      no_call ask.End u not_one left = cc left

      by_cases : (undos_of records ≡ b.trail) ⊎ OneMore b tx last seen.cause (undos_of records) → ⊥
      by_cases (inl same) = other (sym (as_shown records there) ∙ ap length (same ∙ sym is))
      by_cases (inr one) = no_call last one.more none one.left

  module _ (trail : List Undo) (is : trail ≡ b.trail) (other : length seen.records ≡ length trail → ⊥) (size : length seen.records ≡ length trail + 1)
      (w : World) (me : Private) (world : w ≡ b.world) (mine : me ≡ b.me) (c : Call) (asked : last ≡ ask.Call c) (d : UndoKind × UndoEnd)
      (effect : Option EffectShown) (effect_is : effect ≡ slice_get seen.effects (length seen.effects - 1)) where
    -- how the newest ended
    abbrev end_last : UndoEnd
    end_last = (get_or seen.records (length trail) d).1

    -- what is shown of it
    abbrev newest : NewestShown
    newest = record { end = end_last; effect = effect }

    -- how those before it ended
    abbrev ends_front : List UndoEnd
    ends_front = shown_ends (take (length trail) seen.records)

    -- one that was left, as the call left it
    left_here : (u : Undo) → AreLeft b tx last (u ∷ []) → AreLeft (begins w me) tx (ask.Call c) (u ∷ [])
    left_here u left = alike_left b w me tx (ask.Call c) (u ∷ []) world mine (subst (λ a. AreLeft b tx a (u ∷ [])) asked left)

    -- and the other way round
    left_there : (u : Undo) → AreLeft (begins w me) tx (ask.Call c) (u ∷ []) → AreLeft b tx last (u ∷ [])
    left_there u left = subst (λ a. AreLeft b tx a (u ∷ [])) (sym asked) (left_alike b w me tx (ask.Call c) (u ∷ []) world mine left)

    -- records that end with this one
    parts : (u : Undo) (records : List Ending) → undos_of records ≡ trail ++ u ∷ [] → ends_of records ≡ shown_ends seen.records
        → (front : List Ending) × (records ≡ front ++ (u, end_last) ∷ []) × (undos_of front ≡ trail) × (ends_of front ≡ ends_front)
    parts u records us es =
        split_last trail u ends_front end_last records us (es ∙ ends_split seen.records (length trail) d size)
        (sym (ends_size seen.records (length trail) size))

    -- true records that are shown so
    record Ends (records : List Ending) : Type 0 where
      starved : seen.cause ≡ cause.NoMemory
      more : Undo
      left : AreLeft (begins w me) tx (ask.Call c) (more ∷ [])
      front : List Ending
      records_are : records ≡ front ++ (more, end_last) ∷ []
      undos : undos_of front ≡ trail
      ends : ends_of front ≡ ends_front
      last_shown : IsShownLast more newest

    -- all that are true and shown so are such
    ends_with : (records : List Ending) → AreRecords b tx last seen.cause (undos_of records) → AreShown seen records → Ends records
    ends_with records so there = by_cases (trail_or_more b tx last seen.cause (undos_of records) so)
      where
        by_cases : (undos_of records ≡ b.trail) ⊎ OneMore b tx last seen.cause (undos_of records) → Ends records
        by_cases (inl same) = absurd (other (sym (as_shown records there) ∙ ap length (same ∙ sym is)))
        by_cases (inr one) =
            let cut = parts one.more records (one.is ∙ ap (λ t. t ++ one.more ∷ []) (sym is)) (ends_so records there) in
            record {
              starved = one.starved;
              more = one.more;
              left = left_here one.more one.left;
              front = cut.0;
              records_are = cut.1;
              undos = cut.2;
              ends = cut.3;
              last_shown = shown_last cut.0 one.more seen newest (subst (AreShown seen) cut.1 there) effect_is;
            }

    -- none was left that is shown so
    pub not_left_so : IsNotLeft (begins w me) tx (ask.Call c) newest → AreNotTraced b tx last seen
    not_left_so none records so there = let has = ends_with records so there in none has.more has.left has.last_shown

    -- one was
    pub traced_left : (v : Undo) (us : List Undo) → is_memory_cause seen.cause ≡ true → us ≡ trail ++ v ∷ []
        → IsLeftLast (begins w me) tx (ask.Call c) newest v → AreTraced b tx last seen us
    traced_left v us starved us_are so =
        let many = ap length us_are ∙ length-append trail (v ∷ []) in
        let whole : us ≡ b.trail ++ v ∷ [] = us_are ∙ ap (λ t. t ++ v ∷ []) is in
        record {
          count = omega (arith, many, size);
          records = subst (λ y. AreRecords b tx last y us) (sym (starved_by_memory seen.cause starved)) (v ∷ [], left_there v so.left, whole);
          alike = λ records true there others undos ends.
              let has = ends_with records true there in
              let cut = parts v others (undos ∙ us_are) ends in
              let front : has.front ≡ cut.0 = same_pairs has.front cut.0 (has.undos ∙ sym cut.2) (has.ends ∙ sym cut.3) in
              let like = alike_last has.more v end_last (so.alike has.more has.left has.last_shown) cut.0 in
              subst (λ y. AreAllAlike y records others) (sym has.starved)
              (subst (λ xs. AreAllAlike cause.NoMemory xs others) (sym (has.records_are ∙ ap (λ f. f ++ (has.more, end_last) ∷ []) front))
              (subst (λ ys. AreAllAlike cause.NoMemory (cut.0 ++ (has.more, end_last) ∷ []) ys) (sym cut.1) like));
        }
