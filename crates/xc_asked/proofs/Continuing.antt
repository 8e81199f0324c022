-- Calls that start jobs, one after another.
use Rattle.std.proofs.Common.{◌≡◌, ℕ, suc, ◌+◌, ◌<◌, add-one, map, drop, get_or, List, [], ◌∷◌, ◌++◌, length, Option, None, Some, sym, subst}
use Rattle.std.proofs.lemmas.List.{append-nil}
use Rattle.std.proofs.Math.Seq.{drop-cons}
use Rattle.xc_data.specs.Calls.{thread_asked}
use Rattle.xc_data.specs.declared.call.Call.{Call}
use Rattle.xc_data.specs.declared.call.LateEnd.{LateEnd}
use Rattle.xc_data.specs.declared.call.LateEnd.TheVariants.{Done}
use Rattle.xc_text.specs.declared.script.Script.{Script}
use Rattle.xc_model.specs.LateCalls.{started_with}
use Rattle.xc_model.specs.Starts.{AreStarts}

-- all of these calls ended as the script has it just where those that are left do, from so many started jobs on
module _ (script : Script) (was : List (List ℕ)) (calls : List (Option (List ℕ))) (ends : List LateEnd) where
  pub record Continues (count : ℕ) (left : List (Option (List ℕ))) (later : List LateEnd) : Type 0 where
    pub is : List (List ℕ)
    pub counted : length is ≡ count
    pub forwards : AreStarts script is left later → AreStarts script was calls ends
    pub backwards : AreStarts script was calls ends → AreStarts script is left later

-- the first call and those behind it
apart : (script : Script) (was : List (List ℕ)) (asked : Option (List ℕ)) (calls : List (Option (List ℕ))) (end : LateEnd) (ends : List LateEnd)
    → AreStarts script was (asked ∷ calls) (end ∷ ends)
    → AreStarts script was (asked ∷ []) (end ∷ []) × AreStarts script (was ++ started_with asked end) calls ends
apart script was None calls end ends all = (tt, subst (λ is. AreStarts script is calls ends) (sym (append-nil was)) all)
apart script was (Some block) calls end ends all = ((all.0, tt), all.1)

-- and the other way round
together : (script : Script) (was : List (List ℕ)) (asked : Option (List ℕ)) (calls : List (Option (List ℕ))) (end : LateEnd)
    (ends : List LateEnd) → AreStarts script was (asked ∷ []) (end ∷ []) → AreStarts script (was ++ started_with asked end) calls ends
    → AreStarts script was (asked ∷ calls) (end ∷ ends)
together script was None calls end ends one all = subst (λ is. AreStarts script is calls ends) (append-nil was) all
together script was (Some block) calls end ends one all = (one.0, all)

module _ (script : Script) (was : List (List ℕ)) (calls : List (Option (List ℕ))) (ends : List LateEnd) where
  -- behind a call that ended so
  pub behind : (count after : ℕ) (asked : Option (List ℕ)) (left : List (Option (List ℕ))) (end : LateEnd) (later : List LateEnd)
      → (so : Continues script was calls ends count (asked ∷ left) (end ∷ later))
      → AreStarts script so.is (asked ∷ []) (end ∷ []) × (length (so.is ++ started_with asked end) ≡ after)
      → Continues script was calls ends after left later
  behind count after asked left end later so starts =
      record {
        is = so.is ++ started_with asked end;
        counted = starts.1;
        forwards = λ rest. so.forwards (together script so.is asked left end later starts.0 rest);
        backwards = λ all. (apart script so.is asked left end later (so.backwards all)).1;
      }

  -- none ended otherwise where one is left that did
  pub none : (count : ℕ) (asked : Option (List ℕ)) (left : List (Option (List ℕ))) (end : LateEnd) (later : List LateEnd)
      → (so : Continues script was calls ends count (asked ∷ left) (end ∷ later))
      → (AreStarts script so.is (asked ∷ []) (end ∷ []) → ⊥) → AreStarts script was calls ends → ⊥
  none count asked left end later so other all = other (apart script so.is asked left end later (so.backwards all)).0

  -- all did where no end is left
  pub no_end : (count : ℕ) (left : List (Option (List ℕ))) → Continues script was calls ends count left [] → AreStarts script was calls ends
  no_end count [] so = so.forwards tt
  no_end count (asked ∷ left) so = so.forwards tt

  -- and where no call is left
  pub no_call : (count : ℕ) (later : List LateEnd) → Continues script was calls ends count [] later → AreStarts script was calls ends
  no_call count later so = so.forwards tt

-- the same of lists that are taken item by item
pub behind_at : (script : Script) (was : List (List ℕ)) (calls : List (Option (List ℕ))) (ends : List LateEnd) (count after at : ℕ)
    (kept left : List Call) (call : Call) → kept ≡ call ∷ left → at < length ends
    → (so : Continues script was calls ends count (map thread_asked kept) (drop at ends))
    → ((is : List (List ℕ)) → length is ≡ count → AreStarts script is (thread_asked call ∷ []) (get_or ends at Done ∷ [])
    × (length (is ++ started_with (thread_asked call) (get_or ends at Done)) ≡ after))
    → Continues script was calls ends after (map thread_asked left) (drop (at + 1) ends)
behind_at script was calls ends count after at kept left call is within so starts =
    let there : Continues script was calls ends count (thread_asked call ∷ map thread_asked left) (get_or ends at Done ∷ drop (suc at) ends) =
    subst (λ later. Continues script was calls ends count (thread_asked call ∷ map thread_asked left) later) (drop-cons ends at Done within)
    (subst (λ (ks : List Call). Continues script was calls ends count (map thread_asked ks) (drop at ends)) is so) in
    subst (λ n. Continues script was calls ends after (map thread_asked left) (drop n ends)) (sym (add-one at))
    (behind script was calls ends count after (thread_asked call) (map thread_asked left) (get_or ends at Done) (drop (suc at) ends) there
    (starts there.is there.counted))
