-- What the newest record without an end of an undoing transaction tells of is there.
use Rattle.std.proofs.Common.{◌≡◌, ℕ, ◌+◌, ◌≤◌, true, is_some, List, [], ◌∷◌, ◌++◌, Option, None, Some, length, map, unwrap_or, append_assoc}
use Rattle.std.proofs.Common.{ap, sym, ◌∙◌, subst}
use Rattle.std.specs.Prelude.{All, Contains, slice_get}
use Rattle.std.specs.FinMap as finite
use Rattle.std.proofs.lemmas.List.Elements.{All-head, All-tail, All-weaker, All-contains_itself}
use Rattle.xc_data.specs.declared.entry.Cause.{Cause}
use Rattle.xc_data.specs.declared.object.Num.{Num}
use Rattle.xc_data.specs.declared.object.Object.TheVariants as object
use Rattle.xc_data.specs.declared.undo.Undo.{Undo}
use Rattle.xc_data.specs.declared.undo.Undo.TheVariants.{Overwrite, Append, Create, Rename, NewPipe, NewPair}
use Rattle.xc_data.specs.declared.undo.UndoEnd.TheVariants.{Blocked}
use Rattle.xc_data.specs.Remaining.{objects_of}
use Rattle.xc_compensate.specs.Records.{way_of}
use Rattle.xc_host.specs.Contents.{world_of, contents_of}
use Rattle.xc_world.specs.World.{World, file_of}
use Rattle.xc_world.specs.Ends.{Ending, remains, with_remains}
use Rattle.xc_world.specs.Effects.{whole, AreMadeIn, IsCovered}
use Rattle.xc_world.specs.Laws.{AgreeAt}
use Rattle.xc_world.proofs.Laws.{record-covered}
use Rattle.xc_model.specs.declared.phase.Phase.TheVariants.{Undoing}
use Rattle.xc_model.specs.Setting.{Setting}
use Rattle.xc_model.specs.Moment.{TxView, JobView, Moment, active_of}
use Rattle.xc_flight.proofs.Laws.{there_as_told as record_there}
use Rattle.xc_refines.specs.InFlight.{flown, flown_phase, flight_state, state_of, world_now, AreInFlight}
use Rattle.xc_refines.proofs.FlownJobs.{flies_there, records_made_there, sound_there}

-- a file that is there, and has so many bytes
abbrev Reaches : World → Num → ℕ → Type 0
Reaches w file n = (is_some (finite.get w.files file) ≡ true) × (n ≤ length (file_of w file))

reaches : (w v : World) (file : Num) (n : ℕ) → AgreeAt w v (object.File file) → Reaches v file n → Reaches w file n
reaches w v file n agree there =
    subst (λ (o : Option (List ℕ)). (is_some o ≡ true) × (n ≤ length (unwrap_or o []))) (sym agree) there

-- what is covered in one world is covered by the host's contents of another that agrees with it at the record's objects
covered_there : (w v : World) (u : Undo) → All (AgreeAt w v) (objects_of u) → IsCovered v u → IsCovered (world_of (contents_of w)) u
covered_there w v (Overwrite file at before after n) agree covered = reaches w v file (at + n) (All-head (AgreeAt w v) (object.File file) [] agree) covered
covered_there w v (Append file from after n) agree covered = reaches w v file (from + n) (All-head (AgreeAt w v) (object.File file) [] agree) covered
covered_there w v (Create name num) agree covered =
    let file = All-tail (AgreeAt w v) (object.Name name) (object.File num ∷ []) agree in (
      All-head (AgreeAt w v) (object.Name name) (object.File num ∷ []) agree ∙ covered.0,
      ap is_some (All-head (AgreeAt w v) (object.File num) [] file) ∙ covered.1,
    )
covered_there w v (Rename from to) agree covered =
    let new = All-tail (AgreeAt w v) (object.Name from) (object.Name to ∷ []) agree in (
      All-head (AgreeAt w v) (object.Name from) (object.Name to ∷ []) agree ∙ covered.0,
      ap is_some (All-head (AgreeAt w v) (object.Name to) [] new) ∙ covered.1,
    )
covered_there w v (NewPipe num) agree covered = ap is_some (All-head (AgreeAt w v) (object.Pipe num) [] agree) ∙ covered
covered_there w v (NewPair num) agree covered = ap is_some (All-head (AgreeAt w v) (object.Pair num) [] agree) ∙ covered

-- so it is of the newest record, if nothing stands in its way
pub covered_now : (s : Setting) (now : Moment) (all : AreInFlight s now) (at : ℕ) (job : JobView) (tx : TxView) (c : Cause) (older : List Undo) (u : Undo)
    → slice_get now.jobs at ≡ Some job → active_of job ≡ Some tx → tx.phase ≡ Undoing c → tx.undo.pending ≡ older ++ u ∷ []
    → way_of older u tx.undo ≡ None → IsCovered (world_of now.contents) u
covered_now s now all at job tx c older u there active undoes pending way =
    let t = flown job.me (all.unnoted at) tx in
    let w = (state_of s now).world in
    let newer = map (λ (r : Ending). r.0) tx.undo.ended in
    let split : tx.undo.pending ++ newer ≡ older ++ u ∷ newer = ap (λ us. us ++ newer) pending ∙ append_assoc older (u ∷ []) newer in
    let standing_now = flight_state s now all.unnoted in
    let stood = with_remains w (whole (older ++ u ∷ []) ++ remains tx.undo.ended) in
    let same : All (AgreeAt (world_now s now) stood) (objects_of u) =
    subst (λ us. All (AgreeAt (world_now s now) (with_remains w (whole us ++ remains tx.undo.ended))) (objects_of u)) pending
    (All-weaker (Contains (objects_of u)) (AgreeAt (world_now s now) (with_remains w (whole tx.undo.pending ++ remains tx.undo.ended)))
    (record_there standing_now at t older u (Blocked 0) all.flies (flies_there s now all at job tx there active) (ap flown_phase undoes)
    (sound_there s now all at job tx there active) pending) (objects_of u) (All-contains_itself (objects_of u))) in
    covered_there (world_now s now) stood u same
    (record-covered w older u tx.undo.ended (subst (AreMadeIn w) split (records_made_there s now all at job tx there active)) way)
