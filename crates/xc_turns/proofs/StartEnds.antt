-- The ends of late calls that start jobs, one after another.
use Rattle.std.proofs.Common.{◌≡◌, ℕ, false, List, [], ◌∷◌, ◌++◌, drop, length, map, Option, Some, None, sym, subst, append-nil, append_assoc}
use Rattle.std.specs.Prelude.{is_some}
use Rattle.std.specs.List.{list_any}
use Rattle.std.proofs.lemmas.Bool.{or_parts}
use Rattle.xc_data.specs.Calls.{thread_in}
use Rattle.xc_data.specs.declared.call.LateCall.{LateCall}
use Rattle.xc_data.specs.declared.call.LateEnd.{LateEnd}
use Rattle.xc_text.specs.declared.script.Script.{Script}
use Rattle.xc_model.specs.LateCalls.{started_late, started_with}
use Rattle.xc_model.specs.Started.{is_start}
use Rattle.xc_model.specs.Starts.{AreStarts, IsStart}

-- a late call that starts this block, if it starts one, ends so after these blocks
abbrev pub EndsAsStart : Script → List (List ℕ) → Option (List ℕ) → LateEnd → Type 0
EndsAsStart script was None e = Unit {0}
EndsAsStart script was (Some block) e = IsStart script was block e (was ++ started_with (Some block) e)

-- without ends none has a wrong one
pub none_yet : (script : Script) (was : List (List ℕ)) (calls : List (Option (List ℕ))) → AreStarts script was calls []
none_yet script was [] = tt
none_yet script was (c ∷ calls) = tt

none_first : (script : Script) (was : List (List ℕ)) (calls : List (Option (List ℕ))) (o : Option (List ℕ)) (e : LateEnd) (ends : List LateEnd)
    → is_some o ≡ false → AreStarts script was calls ends → AreStarts script was (o ∷ calls) (e ∷ ends)
none_first script was calls None e ends none later = later
none_first script was calls (Some block) e ends none later = cc none

-- nor has one of those that start no job
pub no_starts : (script : Script) (was : List (List ℕ)) (late : List LateCall) (ends : List LateEnd) → list_any is_start late ≡ false
    → AreStarts script was (map thread_in late) ends
no_starts script was [] ends none = tt
no_starts script was (c ∷ late) [] none = tt
no_starts script was (c ∷ late) (e ∷ ends) none =
    let parts = or_parts (is_start c) (list_any is_start late) none in
    none_first script was (map thread_in late) (thread_in c) e ends parts.0 (no_starts script was late ends parts.1)

-- ---- one end more
first_start : (script : Script) (was : List (List ℕ)) (calls : List (Option (List ℕ))) (o : Option (List ℕ)) (e : LateEnd)
    → EndsAsStart script (was ++ []) o e → AreStarts script was (o ∷ calls) (e ∷ [])
first_start script was calls None e so = none_yet script was calls
first_start script was calls (Some block) e so =
    (subst (λ w. IsStart script w block e (w ++ started_with (Some block) e)) (append-nil was) so, none_yet script _ calls)

later_start : (script : Script) (was : List (List ℕ)) (late : List LateCall) (ends : List LateEnd) (o t : Option (List ℕ)) (x e : LateEnd)
    → ((w : List (List ℕ)) → AreStarts script w (map thread_in late) ends → EndsAsStart script (w ++ started_late late ends) t e
    → AreStarts script w (map thread_in late) (ends ++ e ∷ []))
    → AreStarts script was (o ∷ map thread_in late) (x ∷ ends)
    → EndsAsStart script (was ++ (started_with o x ++ started_late late ends)) t e
    → AreStarts script was (o ∷ map thread_in late) (x ∷ (ends ++ e ∷ []))
later_start script was late ends None t x e more are so = more was are so
later_start script was late ends (Some block) t x e more are so =
    let w = started_with (Some block) x in
    (are.0, more (was ++ w) are.1 (subst (λ bs. EndsAsStart script bs t e) (sym (append_assoc was w (started_late late ends))) so))

-- the next late call ends as it must: so all do
pub one_more_start : (script : Script) (was : List (List ℕ)) (late : List LateCall) (ends : List LateEnd) (c : LateCall) (rest : List LateCall)
    (e : LateEnd) → drop (length ends) late ≡ c ∷ rest → AreStarts script was (map thread_in late) ends
    → EndsAsStart script (was ++ started_late late ends) (thread_in c) e → AreStarts script was (map thread_in late) (ends ++ e ∷ [])
one_more_start script was [] [] c rest e left are so = cc left
one_more_start script was [] (x ∷ ends) c rest e left are so = cc left
one_more_start script was (d ∷ late) [] c rest e left are so =
    let same : c ≡ d = cc left in
    first_start script was (map thread_in late) (thread_in d) e (subst (λ (k : LateCall). EndsAsStart script (was ++ []) (thread_in k) e) same so)
one_more_start script was (d ∷ late) (x ∷ ends) c rest e left are so =
    later_start script was late ends (thread_in d) (thread_in c) x e
    (λ w. one_more_start script w late ends c rest e left) are so
