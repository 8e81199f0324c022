-- What a body leaves speaks of its own objects: its records, and its late calls.
use Rattle.std.proofs.Common.{◌≡◌, inl, inr, ℕ, List, [], ◌∷◌, ◌++◌, length, sym, ◌∙◌, subst, refl, append_assoc}
use Rattle.std.specs.Prelude.{All, Contains, ◌==◌, nat_eq, if◌then◌else◌}
use Rattle.std.specs.Cmp.Lexicographic.{pointwise, same_text}
use Rattle.std.proofs.lemmas.List.{append-nil}
use Rattle.std.proofs.lemmas.List.Elements.{All-nil, All-cons, All-append, All-weaker}
use Rattle.xc_data.specs.declared.object.Object.{Object}
use Rattle.xc_data.specs.declared.object.Object.TheVariants as object
use Rattle.xc_data.specs.declared.undo.Undo.{Undo}
use Rattle.xc_data.specs.declared.call.Call.{Call}
use Rattle.xc_data.specs.declared.call.Call.TheVariants as call
use Rattle.xc_data.specs.declared.call.Answer.{Answer}
use Rattle.xc_data.specs.declared.call.Reply.{Reply}
use Rattle.xc_data.specs.declared.call.Reply.TheVariants as reply
use Rattle.xc_data.specs.declared.call.LateCall.{LateCall}
use Rattle.xc_data.specs.declared.call.LateCall.TheVariants.{Unlink, Sync, WritePipe, Shutdown, Send, Thread}
use Rattle.xc_data.specs.declared.private.Place.{Place}
use Rattle.xc_data.specs.declared.private.Place.TheVariants as place
use Rattle.xc_data.specs.declared.private.Private.{Private}
use Rattle.xc_data.specs.Private.{place_of}
use Rattle.xc_data.specs.Remaining.{objects_of}
use Rattle.xc_world.specs.World.{World}
use Rattle.xc_world.specs.Act.{act}
use Rattle.xc_world.specs.Act.Step.{Stepped}
use Rattle.xc_world.specs.Act.Names.{next_num}
use Rattle.xc_world.specs.Touch.{touch, objects_of_call, object_at}
use Rattle.xc_world.specs.Late.{kept_call}
use Rattle.xc_data.specs.Calls.{late_call, sync_of, write_pipe_of, shutdown_of, send_of}
use Rattle.xc_world.specs.Trail.{overwrite_record, append_record, create_record, rename_record, pipe_record, pair_record, recorded}
use Rattle.xc_world.specs.Laws.{late_objects}
use Rattle.xc_world.proofs.SoundParts.{chosen_so}
use Rattle.xc_world.proofs.LocalParts.{first_in, later_in}
use Rattle.xc_world.proofs.UndoingBody.{refusal-none}
use Rattle.xc_data.specs.declared.claim.Mode.TheVariants.{Exclusive}
use Rattle.xc_data.specs.declared.claim.Claim.{Claim}
use Rattle.xc_data.specs.declared.call.CallWithAnswer.{CallWithAnswer}
use Rattle.xc_data.specs.Claims.{objects, owned}
use Rattle.xc_world.specs.Modes.{mode_of, claims_of}
use Rattle.xc_world.specs.Run.{BodyResult, step, after_calls, gone_back, opens, body}
use Rattle.xc_world.proofs.Blocks.{Any, any_all, runs_keep}
use Rattle.xc_world.specs.Own.{IsNumbered, Sees, Owns, LooksWithin, late_changes, SpeaksOfOwn}
use Rattle.xc_world.proofs.Calls.{act_cases, touched_all, objects_of_claims, owned_of_call}
use Rattle.xc_world.proofs.Bodies.{earlier_claims, later_claims, owned_behind, owns_in_front}

-- the objects of a record are of this kind
abbrev pub SpeaksOnlyOf : (Object → Type 0) → Undo → Type 0
SpeaksOnlyOf own u = All own (objects_of u)

-- the names of a rename
abbrev both_of : List ℕ → List ℕ → List Object
both_of from to = if pointwise nat_eq from to then object.Name from ∷ [] else object.Name from ∷ object.Name to ∷ []

old_in : (from to : List ℕ) → Contains (both_of from to) (object.Name from)
old_in from to =
    chosen_so (λ l. Contains l (object.Name from)) (pointwise nat_eq from to) _ _ (λ _. first_in (object.Name from) [])
    (λ _. first_in (object.Name from) (object.Name to ∷ []))

new_in : (from to : List ℕ) → Contains (both_of from to) (object.Name to)
new_in from to =
    chosen_so (λ l. Contains l (object.Name to)) (pointwise nat_eq from to) _ _
    (λ same. subst (λ n. Contains (object.Name from ∷ []) (object.Name n)) (same_text from to (sym same)) (first_in (object.Name from) []))
    (λ _. later_in (object.Name from) (object.Name to) (object.Name to ∷ []) (first_in (object.Name to) []))

module _ (sees own : Object → Type 0) where
  one : (o : Object) → own o → All own (o ∷ [])
  one o has = All-cons own o [] has (All-nil own)

  seen : (o : Object) → sees o → All sees (o ∷ [])
  seen o has = All-cons sees o [] has (All-nil sees)

  no_record : All (SpeaksOnlyOf own) []
  no_record = All-nil (SpeaksOnlyOf own)

  one_record : (u : Undo) → SpeaksOnlyOf own u → All (SpeaksOnlyOf own) (u ∷ [])
  one_record u speaks = All-cons (SpeaksOnlyOf own) u [] speaks (All-nil (SpeaksOnlyOf own))

  -- ---- records
  overwrite_speaks : (w : World) (bytes : List ℕ) (n : ℕ) (p : Place) → ((o : Object) → Contains (object_at p) o → own o)
      → All (SpeaksOnlyOf own) (overwrite_record w bytes n p)
  overwrite_speaks w bytes n (place.File num at) has =
      chosen_so (All (SpeaksOnlyOf own)) (n == 0) _ _ (λ _. no_record)
      (λ _. one_record _ (one (object.File num) (has (object.File num) (first_in (object.File num) []))))
  overwrite_speaks w bytes n place.Vacant has = no_record
  overwrite_speaks w bytes n (place.Pipe num) has = no_record
  overwrite_speaks w bytes n (place.Pair num side) has = no_record

  append_speaks : (w : World) (bytes : List ℕ) (n : ℕ) (p : Place) → ((o : Object) → Contains (object_at p) o → own o)
      → All (SpeaksOnlyOf own) (append_record w bytes n p)
  append_speaks w bytes n (place.File num at) has =
      chosen_so (All (SpeaksOnlyOf own)) (n == 0) _ _ (λ _. no_record)
      (λ _. one_record _ (one (object.File num) (has (object.File num) (first_in (object.File num) []))))
  append_speaks w bytes n place.Vacant has = no_record
  append_speaks w bytes n (place.Pipe num) has = no_record
  append_speaks w bytes n (place.Pair num side) has = no_record

  create_speaks : (me : Private) (tx : ℕ) (name : List ℕ) (r : Reply) → own (object.Name name) → own (object.File (next_num me tx))
      → All (SpeaksOnlyOf own) (create_record me tx name r)
  create_speaks me tx name (reply.Made h) named made =
      one_record _ (All-cons own (object.Name name) (object.File (next_num me tx) ∷ []) named (one (object.File (next_num me tx)) made))
  create_speaks me tx name _ named made = no_record

  rename_speaks : (from to : List ℕ) (r : Reply) → own (object.Name from) → own (object.Name to) → All (SpeaksOnlyOf own) (rename_record from to r)
  rename_speaks from to reply.Done old new = one_record _ (All-cons own (object.Name from) (object.Name to ∷ []) old (one (object.Name to) new))
  rename_speaks from to _ old new = no_record

  pipe_speaks : (me : Private) (tx : ℕ) (r : Reply) → own (object.Pipe (next_num me tx)) → All (SpeaksOnlyOf own) (pipe_record me tx r)
  pipe_speaks me tx (reply.Made h) made = one_record _ (one (object.Pipe (next_num me tx)) made)
  pipe_speaks me tx _ made = no_record

  pair_speaks : (me : Private) (tx : ℕ) (r : Reply) → own (object.Pair (next_num me tx)) → All (SpeaksOnlyOf own) (pair_record me tx r)
  pair_speaks me tx (reply.MadePair h g) made = one_record _ (one (object.Pair (next_num me tx)) made)
  pair_speaks me tx _ made = no_record

  both_names : (from to : List ℕ) → ((o : Object) → Contains (both_of from to) o → own o)
      → own (object.Name from) × own (object.Name to)
  both_names from to has = (has (object.Name from) (old_in from to), has (object.Name to) (new_in from to))

  passed_speaks : (w : World) (me : Private) (tx : ℕ) (c : Call) (r : Reply)
      → (mode_of c ≡ Exclusive → (o : Object) → Contains (objects_of_call c me) o → own o) → ((o : Object) → IsNumbered tx o → own o)
      → All (SpeaksOnlyOf own) (recorded w me tx c r)
  passed_speaks w me tx (call.XWriteOvr h bytes) r has numbered = overwrite_speaks w bytes _ (place_of me.places h) (has refl)
  passed_speaks w me tx (call.XWriteSeq h bytes) r has numbered = append_speaks w bytes _ (place_of me.places h) (has refl)
  passed_speaks w me tx (call.XCreate name) r has numbered =
      create_speaks me tx name r (has refl (object.Name name) (first_in (object.Name name) [])) (numbered (object.File (next_num me tx)) refl)
  passed_speaks w me tx (call.XRename from to) r has numbered = let both = both_names from to (has refl) in rename_speaks from to r both.0 both.1
  passed_speaks w me tx call.XPipe r has numbered = pipe_speaks me tx r (numbered (object.Pipe (next_num me tx)) refl)
  passed_speaks w me tx call.XPair r has numbered = pair_speaks me tx r (numbered (object.Pair (next_num me tx)) refl)
  passed_speaks w me tx _ r has numbered = no_record

  -- ---- late calls
  no_late : All (LooksWithin sees own) []
  no_late = All-nil (LooksWithin sees own)

  one_late : (l : LateCall) → All sees (late_objects l) → All own (late_changes l) → All (LooksWithin sees own) (l ∷ [])
  one_late l looks changes = All-cons (LooksWithin sees own) l [] (record { looks = looks; changes = changes }) (All-nil (LooksWithin sees own))

  module _ (me : Private) where
    abbrev Each : Call → (Object → Type 0) → Type 0
    Each c P = (o : Object) → Contains (objects_of_call c me) o → P o

    sync_looks : (p : Place) → ((o : Object) → Contains (object_at p) o → sees o) → All (LooksWithin sees own) (sync_of p)
    sync_looks (place.File num at) look = one_late (Sync num) (seen (object.File num) (look (object.File num) (first_in (object.File num) []))) (All-nil own)
    sync_looks place.Vacant look = no_late
    sync_looks (place.Pipe num) look = no_late
    sync_looks (place.Pair num side) look = no_late

    write_looks : (p : Place) (bytes : List ℕ) → ((o : Object) → Contains (object_at p) o → sees o) → ((o : Object) → Contains (object_at p) o → own o)
        → All (LooksWithin sees own) (write_pipe_of p bytes)
    write_looks (place.Pipe num) bytes look has =
        let here = first_in (object.Pipe num) [] in
        one_late (WritePipe num bytes) (seen _ (look (object.Pipe num) here)) (one _ (has (object.Pipe num) here))
    write_looks place.Vacant bytes look has = no_late
    write_looks (place.File num at) bytes look has = no_late
    write_looks (place.Pair num side) bytes look has = no_late

    shutdown_looks : (p : Place) → ((o : Object) → Contains (object_at p) o → sees o) → ((o : Object) → Contains (object_at p) o → own o)
        → All (LooksWithin sees own) (shutdown_of p)
    shutdown_looks (place.Pipe num) look has =
        let here = first_in (object.Pipe num) [] in
        one_late (Shutdown (object.Pipe num)) (seen _ (look (object.Pipe num) here)) (one _ (has (object.Pipe num) here))
    shutdown_looks (place.Pair num side) look has =
        let here = first_in (object.Pair num) [] in
        one_late (Shutdown (object.Pair num)) (seen _ (look (object.Pair num) here)) (one _ (has (object.Pair num) here))
    shutdown_looks place.Vacant look has = no_late
    shutdown_looks (place.File num at) look has = no_late

    send_looks : (p : Place) (bytes : List ℕ) → ((o : Object) → Contains (object_at p) o → sees o) → ((o : Object) → Contains (object_at p) o → own o)
        → All (LooksWithin sees own) (send_of p bytes)
    send_looks (place.Pair num side) bytes look has =
        let here = first_in (object.Pair num) [] in
        one_late (Send num side bytes) (seen _ (look (object.Pair num) here)) (one _ (has (object.Pair num) here))
    send_looks place.Vacant bytes look has = no_late
    send_looks (place.File num at) bytes look has = no_late
    send_looks (place.Pipe num) bytes look has = no_late

    late_looks : (c : Call) → Each c sees → (mode_of c ≡ Exclusive → Each c own) → All (LooksWithin sees own) (late_call c me)
    late_looks (call.XUnlink name slot) look has =
        let here = first_in (object.Name name) [] in
        one_late (Unlink name) (seen _ (look (object.Name name) here)) (one _ (has refl (object.Name name) here))
    late_looks (call.XSync h slot) look has = sync_looks (place_of me.places h) look
    late_looks (call.XWritePipe h bytes slot) look has = write_looks (place_of me.places h) bytes look (has refl)
    late_looks (call.XShutdown h slot) look has = shutdown_looks (place_of me.places h) look (has refl)
    late_looks (call.XSendmsg h bytes slot) look has = send_looks (place_of me.places h) bytes look (has refl)
    late_looks (call.XThreadCreate name slot) look has =
        let here = first_in object.Jobs [] in
        one_late (Thread name) (seen _ (look object.Jobs here)) (one _ (has refl object.Jobs here))
    late_looks _ look has = no_late

    kept_looks : (c : Call) (r : Reply) → Each c sees → (mode_of c ≡ Exclusive → Each c own) → All (LooksWithin sees own) (kept_call c me r)
    kept_looks c reply.Late look has = late_looks c look has
    kept_looks c _ look has = no_late

-- ---- one call
-- the records and the late calls that a call leaves, by its claims
pub record CallSpeaks (sees own : Object → Type 0) (records : List Undo) (kept : List LateCall) : Type 0 where
  pub trail : All (SpeaksOnlyOf own) records
  pub late : All (LooksWithin sees own) kept

call_speaks : (sees own : Object → Type 0) (w : World) (me : Private) (tx : ℕ) (c : Call) (a : Answer)
    → ((o : Object) → Contains (objects (claims_of c me (length w.words))) o → sees o)
    → ((o : Object) → Contains (owned (claims_of c me (length w.words))) o → own o)
    → ((o : Object) → IsNumbered tx o → own o) → CallSpeaks sees own (recorded w me tx c (act w me tx c a).reply) (kept_call c me (act w me tx c a).reply)
call_speaks sees own w me tx c a look has numbered =
    let words = length w.words in
    let none = refusal-none w me tx c in
    act_cases w me tx c a (λ (s : Stepped). CallSpeaks sees own (recorded w me tx c s.reply) (kept_call c me s.reply))
    (refused reply.BadHandle none.bad_handle refl) (refused reply.TooBig none.too_big refl) (refused reply.TooMuch none.too_much refl)
    (refused reply.BadWord none.bad_word refl)
    (λ passed.
    let all = touched_all c me words passed in
    let looks : (o : Object) → Contains (objects_of_call c me) o → sees o =
    λ o at. look o (subst (λ l. Contains l o) (sym (objects_of_claims (mode_of c) (touch c me words) ∙ all)) at) in
    let owns : mode_of c ≡ Exclusive → (o : Object) → Contains (objects_of_call c me) o → own o =
    λ e o at. has o (subst (λ l. Contains l o) (sym (owned_of_call c me words e ∙ all)) at) in
    record { trail = passed_speaks sees own w me tx c _ owns numbered; late = kept_looks sees own me c _ looks owns })
  where
    refused : (r : Reply) → recorded w me tx c r ≡ [] → kept_call c me r ≡ [] → CallSpeaks sees own (recorded w me tx c r) (kept_call c me r)
    refused r e f =
        record {
          trail = subst (All (SpeaksOnlyOf own)) (sym e) (All-nil (SpeaksOnlyOf own));
          late = subst (All (LooksWithin sees own)) (sym f) (All-nil (LooksWithin sees own));
        }

-- ---- a body
sees_in_front : (tx : ℕ) (a b : List Claim) (o : Object) → Sees tx a o → Sees tx (a ++ b) o
sees_in_front tx a b o (inl at) = inl (earlier_claims a b o at)
sees_in_front tx a b o (inr numbered) = inr numbered

step_speaks : (tx : ℕ) (r : BodyResult) (c : CallWithAnswer) → SpeaksOfOwn tx r → SpeaksOfOwn tx (step tx r c)
step_speaks tx r c so =
    let now = claims_of c.call r.me (length r.world.words) in
    let all = r.touched ++ now in
    let s = act r.world r.me tx c.call c.answer in
    let one =
    call_speaks (Sees tx all) (Owns tx all) r.world r.me tx c.call c.answer (λ o at. inl (later_claims r.touched now o at))
    (λ o at. inl (owned_behind r.touched now o at)) (λ o numbered. inr numbered) in
    let before : All (SpeaksOnlyOf (Owns tx all)) r.trail =
    All-weaker (SpeaksOnlyOf (Owns tx r.touched)) (SpeaksOnlyOf (Owns tx all))
    (λ u of. All-weaker (Owns tx r.touched) (Owns tx all) (owns_in_front tx r.touched now) (objects_of u) of) r.trail so.trail in
    let kept : All (LooksWithin (Sees tx all) (Owns tx all)) r.late =
    All-weaker (LooksWithin (Sees tx r.touched) (Owns tx r.touched)) (LooksWithin (Sees tx all) (Owns tx all))
    (λ l of. record {
      looks = All-weaker (Sees tx r.touched) (Sees tx all) (sees_in_front tx r.touched now) (late_objects l) of.looks;
      changes = All-weaker (Owns tx r.touched) (Owns tx all) (owns_in_front tx r.touched now) (late_changes l) of.changes;
    }) r.late so.late in
    record {
      trail = All-append (SpeaksOnlyOf (Owns tx all)) r.trail (recorded r.world r.me tx c.call s.reply) before one.trail;
      late = All-append (LooksWithin (Sees tx all) (Owns tx all)) r.late (kept_call c.call r.me s.reply) kept one.late;
    }

-- the claims that later calls add
touched_on : (tx : ℕ) (r : BodyResult) (asked : List CallWithAnswer) → (more : List Claim) × ((after_calls tx r asked).touched ≡ r.touched ++ more)
touched_on tx r [] = ([], sym (append-nil r.touched))
touched_on tx r (c ∷ asked) =
    let now = claims_of c.call r.me (length r.world.words) in
    let rest = touched_on tx (step tx r c) asked in
    (now ++ rest.0, rest.1 ∙ append_assoc r.touched now rest.0)

-- with more claims the same records and late calls speak of its own
speaks_with : (tx : ℕ) (r : BodyResult) (more : List Claim) → SpeaksOfOwn tx r → (all : List Claim) → all ≡ r.touched ++ more
    → CallSpeaks (Sees tx all) (Owns tx all) r.trail r.late
speaks_with tx r more so all e =
    subst (λ l. CallSpeaks (Sees tx l) (Owns tx l) r.trail r.late) (sym e)
    (record {
      trail = All-weaker (SpeaksOnlyOf (Owns tx r.touched)) (SpeaksOnlyOf (Owns tx (r.touched ++ more)))
          (λ u of. All-weaker (Owns tx r.touched) (Owns tx (r.touched ++ more)) (owns_in_front tx r.touched more) (objects_of u) of) r.trail so.trail;
      late = All-weaker (LooksWithin (Sees tx r.touched) (Owns tx r.touched)) (LooksWithin (Sees tx (r.touched ++ more)) (Owns tx (r.touched ++ more)))
          (λ l of. record {
            looks = All-weaker (Sees tx r.touched) (Sees tx (r.touched ++ more)) (sees_in_front tx r.touched more) (late_objects l) of.looks;
            changes = All-weaker (Owns tx r.touched) (Owns tx (r.touched ++ more)) (owns_in_front tx r.touched more) (late_changes l) of.changes;
          }) r.late so.late;
    })

back_speaks : (tx : ℕ) (s : BodyResult) (calls : List CallWithAnswer) → SpeaksOfOwn tx s → SpeaksOfOwn tx (gone_back s (after_calls tx s calls))
back_speaks tx s calls so =
    let more = touched_on tx s calls in
    let with_more = speaks_with tx s more.0 so (after_calls tx s calls).touched more.1 in
    record { trail = with_more.trail; late = with_more.late }

-- the records and the late calls of a body speak of its own
pub body_speaks : (w : World) (me : Private) (tx : ℕ) (asked : List CallWithAnswer) → SpeaksOfOwn tx (body w me tx asked)
body_speaks w me tx asked =
    (runs_keep tx Any (SpeaksOfOwn tx) (record { plain = λ r c fit so. step_speaks tx r c so; back = λ s calls fit was is. back_speaks tx s calls was })
    (opens w me) asked
    (any_all tx (opens w me) asked)
    (record { now = record { trail = All-nil (SpeaksOnlyOf (Owns tx [])); late = All-nil (LooksWithin (Sees tx []) (Owns tx [])) }; saved = tt })).now
