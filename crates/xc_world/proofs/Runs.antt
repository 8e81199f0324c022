-- A whole run: the late calls after a body depend on and change what the body claims.
use Rattle.std.proofs.Common.{arith, ◌≡◌, ℕ, ◌&&◌, true, not, List, [], ◌∷◌, length, ap, ap₂, sym, ◌∙◌, subst, refl, inl, inr}
use Rattle.std.specs.Prelude.{IsTrue, All, Contains, ◌==◌, min, nat_lt, if◌then◌else◌}
use Rattle.std.proofs.lemmas.List.Elements.{All-nil, All-cons, All-head, All-tail, All-contains, All-contains_itself}
use Rattle.xc_data.specs.declared.object.Object.{Object}
use Rattle.xc_data.specs.declared.object.Object.TheVariants as object
use Rattle.xc_data.specs.declared.call.LateCall.{LateCall}
use Rattle.xc_data.specs.declared.call.LateCall.TheVariants.{Sync, WritePipe}
use Rattle.xc_data.specs.declared.call.LateEnd.{LateEnd}
use Rattle.xc_data.specs.declared.call.LateAnswer.{LateAnswer}
use Rattle.xc_data.specs.declared.call.LateAnswer.TheVariants as late_answer
use Rattle.xc_data.specs.declared.private.Private.{Private}
use Rattle.xc_world.specs.World.{World, Pipe}
use Rattle.xc_world.specs.Late.{late, room}
use Rattle.xc_world.specs.Fits.{late_fits, is_late_within, late_answer_of}
use Rattle.xc_world.specs.Run.{lates, lates_fit, late_asked_of}
use Rattle.xc_world.specs.Laws.{AgreeAt, late_objects}
use Rattle.xc_world.proofs.LocalParts.{agree_itself, first_in}
use Rattle.xc_world.proofs.LocalCalls.{same_pipe}
use Rattle.xc_world.proofs.LocalLate.{late_alike}
use Rattle.xc_data.specs.declared.call.CallWithAnswer.{CallWithAnswer}
use Rattle.xc_data.specs.declared.claim.Claim.{Claim}
use Rattle.xc_data.specs.Claims.{objects}
use Rattle.xc_world.specs.Run.{body, run, run_fits}
use Rattle.xc_world.specs.Own.{IsNumbered, Sees, Owns, AgreeOn, KeepsBut, RanAlike, LooksWithin, late_changes, RunAlike}
use Rattle.xc_world.proofs.Calls.{agreed, still_agree, keeps_itself}
use Rattle.xc_world.proofs.Bodies.{keeps_on, body_alike, body_fits_alike, body_keeps}
use Rattle.xc_world.proofs.Trails.{body_speaks}

-- ---- one late call changes its object, and a sync nothing
anywhere : (w : World) (listed : List Object) → All (AgreeAt w w) listed
anywhere w listed = agreed (λ _. Unit {0}) w w listed (λ o _. agree_itself w o) (λ _ _. tt)

keeps_listed : (own : Object → Type 0) (w : World) (c : LateCall) (a : LateAnswer) → All own (late_objects c) → KeepsBut own w (late w c a).world
keeps_listed own w c a has =
    let went = (late_alike w w c a refl (anywhere w (late_objects c))).worlds.left in
    record { others = λ o lacks. went.others o (λ at. lacks (All-contains own (late_objects c) o has at)); count = went.count; blocks = went.blocks }

-- a late call keeps all but what it may change
pub late_keeps : (own : Object → Type 0) (w : World) (c : LateCall) (a : LateAnswer) → All own (late_changes c) → KeepsBut own w (late w c a).world
late_keeps own w (Sync num) late_answer.Fine has = keeps_itself own w
late_keeps own w (Sync num) (late_answer.Fault n) has = keeps_itself own w
late_keeps own w (Sync num) (late_answer.NoMemory n) has = keeps_itself own w
late_keeps own w c a has = keeps_listed own w c a has

-- a late call keeps all objects that it may not change
pub late_keeps_others : (w : World) (c : LateCall) (a : LateAnswer) → KeepsBut (Contains (late_changes c)) w (late w c a).world
late_keeps_others w c a = late_keeps (Contains (late_changes c)) w c a (All-contains_itself (late_changes c))

-- ---- which answers fit it
pub late_fits_alike : (w v : World) (c : LateCall) (a : LateAnswer) → All (AgreeAt w v) (late_objects c) → late_fits w c a ≡ late_fits v c a
late_fits_alike w v c late_answer.Fine agree = refl
late_fits_alike w v (WritePipe num bytes) (late_answer.Fault n) agree =
    ap (λ (p : Pipe). if n == 0 then true else not p.shut && nat_lt n (min (length bytes) (room p)))
    (same_pipe (object.Pipe num ∷ []) w v num (first_in (object.Pipe num) []) agree)
late_fits_alike w v (WritePipe num bytes) (late_answer.NoMemory n) agree =
    ap (λ (p : Pipe). if n == 0 then true else not p.shut && nat_lt n (min (length bytes) (room p)))
    (same_pipe (object.Pipe num ∷ []) w v num (first_in (object.Pipe num) []) agree)
late_fits_alike w v c a agree = refl

-- an answer that fits a late call tells of no more bytes than the call carries
pub late_answer_within : (w : World) (call : LateCall) (answer : LateAnswer) → IsTrue (late_fits w call answer) → IsTrue (is_late_within call answer)
late_answer_within w call late_answer.Fine fit = grind arith
late_answer_within w (WritePipe num bytes) (late_answer.Fault n) fit = grind arith
late_answer_within w (WritePipe num bytes) (late_answer.NoMemory n) fit = grind arith
late_answer_within w call (late_answer.Fault n) fit = grind arith
late_answer_within w call (late_answer.NoMemory n) fit = grind arith

-- ---- all of them
abbrev pub LateWithin : (Object → Type 0) → (Object → Type 0) → LateCall × LateAnswer → Type 0
LateWithin sees own c = LooksWithin sees own c.0

-- late calls that end the same in two worlds, that leave both agreeing on what is seen, and that the same answers fit
pub record EndAlike (sees own : Object → Type 0) (w v : World) (asked : List (LateCall × LateAnswer)) : Type 0 where
  pub ends : (lates w asked).ends ≡ (lates v asked).ends
  pub agree : AgreeOn sees (lates w asked).world (lates v asked).world
  pub fits : lates_fit w asked ≡ lates_fit v asked

-- late calls keep all but their own objects
pub lates_keep : (sees own : Object → Type 0) (w : World) (asked : List (LateCall × LateAnswer)) → All (LateWithin sees own) asked
    → KeepsBut own w (lates w asked).world
lates_keep sees own w [] within = keeps_itself own w
lates_keep sees own w ((c, a) ∷ asked) within =
    let e = late w c a in
    keeps_on own w e.world (lates e.world asked).world (late_keeps own w c a (All-head (LateWithin sees own) (c, a) asked within).changes)
    (lates_keep sees own e.world asked (All-tail (LateWithin sees own) (c, a) asked within))

-- late calls end alike in worlds that agree on what they look at
pub lates_alike : (sees own : Object → Type 0) (w v : World) (asked : List (LateCall × LateAnswer)) → w.blocks ≡ v.blocks → AgreeOn sees w v
    → All (LateWithin sees own) asked → EndAlike sees own w v asked
lates_alike sees own w v [] blocks agree within = record { ends = refl; agree = agree; fits = refl }
lates_alike sees own w v ((c, a) ∷ asked) blocks agree within =
    let e = late w c a in
    let f = late v c a in
    let one = All-head (LateWithin sees own) (c, a) asked within in
    let both = agreed sees w v (late_objects c) agree (λ o at. All-contains sees (late_objects c) o one.looks at) in
    let ended = late_alike w v c a blocks both in
    let rest = lates_alike sees own e.world f.world asked (ended.worlds.left.blocks ∙ blocks ∙ sym ended.worlds.right.blocks)
    (still_agree sees w v e.world f.world (late_objects c) ended.worlds agree) (All-tail (LateWithin sees own) (c, a) asked within) in
    record { ends = ap₂ (λ x xs. x ∷ xs) ended.end rest.ends; agree = rest.agree; fits = ap₂ (λ x y. x && y) (late_fits_alike w v c a both) rest.fits }

-- the late calls with their answers
asked_within : (sees own : Object → Type 0) (calls : List LateCall) (ends : List LateEnd) → All (LooksWithin sees own) calls
    → All (LateWithin sees own) (late_asked_of calls ends)
asked_within sees own [] ends within = All-nil (LateWithin sees own)
asked_within sees own (c ∷ calls) [] within =
    All-cons (LateWithin sees own) (c, late_answer.Fine) (late_asked_of calls []) (All-head (LooksWithin sees own) c calls within)
    (asked_within sees own calls [] (All-tail (LooksWithin sees own) c calls within))
asked_within sees own (c ∷ calls) (e ∷ ends) within =
    All-cons (LateWithin sees own) (c, late_answer_of e) (late_asked_of calls ends) (All-head (LooksWithin sees own) c calls within)
    (asked_within sees own calls ends (All-tail (LooksWithin sees own) c calls within))

-- ---- the run
pub run_keeps : (w : World) (me : Private) (tx : ℕ) (asked : List CallWithAnswer) (ends : List LateEnd)
    → KeepsBut (Owns tx (body w me tx asked).touched) w (body w me tx asked).world
    → KeepsBut (Owns tx (body w me tx asked).touched) w (run w me tx asked ends).late.world
run_keeps w me tx asked ends left =
    let ran = body w me tx asked in
    let within = asked_within (Sees tx ran.touched) (Owns tx ran.touched) ran.late ends (body_speaks w me tx asked).late in
    keeps_on _ w ran.world (run w me tx asked ends).late.world left
    (lates_keep (Sees tx ran.touched) (Owns tx ran.touched) ran.world (late_asked_of ran.late ends) within)

module _ (w v : World) (me : Private) (tx : ℕ) (asked : List CallWithAnswer) (ends : List LateEnd) where
  late_part : w.blocks ≡ v.blocks → RanAlike tx w v (body w me tx asked) (body v me tx asked)
      → EndAlike (Sees tx (body w me tx asked).touched) (Owns tx (body w me tx asked).touched) (body w me tx asked).world (body v me tx asked).world
      (late_asked_of (body w me tx asked).late ends)
  late_part blocks so =
      let ran = body w me tx asked in
      lates_alike (Sees tx ran.touched) (Owns tx ran.touched) ran.world (body v me tx asked).world (late_asked_of ran.late ends)
      (so.left.blocks ∙ blocks ∙ sym so.right.blocks) so.agree
      (asked_within (Sees tx ran.touched) (Owns tx ran.touched) ran.late ends (body_speaks w me tx asked).late)

  -- a run gives the same in worlds with the same blocks that agree on what its body touches and on its numbers
  pub run_alike : length w.words ≡ length v.words → w.blocks ≡ v.blocks → All (AgreeAt w v) (objects (body w me tx asked).touched) → AgreeOn (IsNumbered tx) w v
      → RunAlike tx w v (run w me tx asked ends) (run v me tx asked ends)
  run_alike count blocks touched numbered =
      let so = body_alike w v me tx asked count touched numbered in
      let done = late_part blocks so in
      let there = (body v me tx asked).world in
      record {
        body = so;
        ends = done.ends ∙ ap (λ calls. (lates there (late_asked_of calls ends)).ends) so.gave.late;
        agree =
            subst (λ calls. AgreeOn (Sees tx (body w me tx asked).touched) (run w me tx asked ends).late.world
            (lates there (late_asked_of calls ends)).world) so.gave.late done.agree;
        left = run_keeps w me tx asked ends so.left;
        right = run_keeps v me tx asked ends so.right;
      }

  -- the same answers fit a run in worlds with the same blocks that agree on what its body touches and on its numbers
  pub run_fits_alike : length w.words ≡ length v.words → w.blocks ≡ v.blocks → All (AgreeAt w v) (objects (body w me tx asked).touched)
      → AgreeOn (IsNumbered tx) w v
      → run_fits w me tx asked ends ≡ run_fits v me tx asked ends
  run_fits_alike count blocks touched numbered =
      let so = body_alike w v me tx asked count touched numbered in
      ap₂ (λ x y. x && y) (body_fits_alike w v me tx asked count touched numbered)
      ((late_part blocks so).fits ∙ ap (λ calls. lates_fit (body v me tx asked).world (late_asked_of calls ends)) so.gave.late)

-- ---- a run of another, which owns nothing that the body sees
pub kept_for_others : (tx ty : ℕ) (w x : World) (seen owned : List Claim) → KeepsBut (Owns ty owned) w x → ((o : Object) → Sees tx seen o → Owns ty owned o → ⊥)
    → AgreeOn (Sees tx seen) w x
kept_for_others tx ty w x seen owned keeps apart o sees = keeps.others o (apart o sees)

-- a body gives the same after a run of another that owns nothing that the body sees
pub other_run_apart : (w : World) (me you : Private) (tx ty : ℕ) (asked others : List CallWithAnswer) (ends : List LateEnd)
    → ((o : Object) → Sees tx (body w me tx asked).touched o → Owns ty (body w you ty others).touched o → ⊥)
    → RanAlike tx w (run w you ty others ends).late.world (body w me tx asked) (body (run w you ty others ends).late.world me tx asked)
other_run_apart w me you tx ty asked others ends apart =
    let claims = (body w me tx asked).touched in
    let x = (run w you ty others ends).late.world in
    let keeps = run_keeps w you ty others ends (body_keeps w you ty others) in
    let agree = kept_for_others tx ty w x claims (body w you ty others).touched keeps apart in
    body_alike w x me tx asked (sym keeps.count) (agreed (Sees tx claims) w x (objects claims) agree (λ o at. inl at)) (λ o numbered. agree o (inr numbered))
