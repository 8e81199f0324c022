-- The records of a body that is run again with these replies are those of its calls.
use Rattle.std.proofs.Common.{ℕ, List, [], ◌∷◌, ◌++◌, refl, subst, append-nil}
use Rattle.std.specs.Prelude.{Option, unwrap_or}
use Rattle.std.specs.declared.option.Option.TheVariants.{None, Some}
use Rattle.xc_data.specs.declared.call.Call.{Call}
use Rattle.xc_data.specs.declared.call.Call.TheVariants as call
use Rattle.xc_data.specs.declared.call.Reply.{Reply}
use Rattle.xc_data.specs.declared.private.Private.{Private}
use Rattle.xc_world.specs.Act.{act}
use Rattle.xc_world.specs.Fits.{answer_of}
use Rattle.xc_world.specs.RecordOf.{AreRecordsOf, left_by}
use Rattle.xc_world.specs.Run.{BlockState, BodyResult, asked_of, back_from, block_step, body, marked, opens, runs_on, step}
use Rattle.xc_world.specs.Trail.{recorded}
use Rattle.xc_world.specs.World.{World}
use Rattle.xc_world.proofs.Laws.{acted_of, more_records}
use Rattle.xc_machine.specs.Replay.{AreReplayed, AreReplayedOn, IsReplayed, told}
use Rattle.xc_model.specs.Recorded.{Recorded, all_records, no_records, records_with}

-- the records at the save of an open block are those of the calls before it
abbrev pub AreAtSave : Option (List (Call × Reply)) → Option BodyResult → Type 0
AreAtSave None None = Unit {0}
AreAtSave (Some calls) (Some saved) = AreRecordsOf calls saved.trail
AreAtSave _ _ = ⊥

-- where a body stands, its records are those of the calls before, and so are those at its save
pub record AreOfCalls (k : Recorded) (b : BlockState) : Type 0 where
  pub now : AreRecordsOf k.now b.now.trail
  pub saved : AreAtSave k.saved b.saved

-- a call more leaves its record
stepped_of : (tx : ℕ) (calls : List (Call × Reply)) (ran : BodyResult) (c : Call) (r : Reply) → IsReplayed ran.world ran.me tx c r
    → AreRecordsOf calls ran.trail → AreRecordsOf (calls ++ left_by c r) (step tx ran (told c r)).trail
stepped_of tx calls ran c r one are =
    let s = act ran.world ran.me tx c (answer_of r) in
    subst (λ (q : Reply). AreRecordsOf (calls ++ left_by c q) (ran.trail ++ recorded ran.world ran.me tx c s.reply)) one.gives
    (more_records calls (left_by c s.reply) ran.trail (recorded ran.world ran.me tx c s.reply) are (acted_of ran.world ran.me tx c (answer_of r)))

-- a back leaves those of the save
back_of : (k : Recorded) (saved : Option BodyResult) (ran : BodyResult) → AreAtSave k.saved saved → AreRecordsOf k.now ran.trail
    → AreRecordsOf (unwrap_or k.saved k.now) (back_from saved ran).trail
back_of k saved ran at are = by_save k.saved saved at
  where
    by_save : (o : Option (List (Call × Reply))) (p : Option BodyResult) → AreAtSave o p → AreRecordsOf (unwrap_or o k.now) (back_from p ran).trail
    by_save None None at = are
    by_save (Some calls) (Some b) at = at
    by_save None (Some b) at = absurd at
    by_save (Some calls) None at = absurd at

marked_of : (k : Recorded) (c : Call) (r : Reply) (saved : Option BodyResult) (ran : BodyResult) → AreRecordsOf (k.now ++ left_by c r) ran.trail
    → AreAtSave k.saved saved → AreOfCalls (records_with k c r) (marked c saved ran)
marked_of k call.Save r saved ran are at =
    let now = subst (λ cs. AreRecordsOf cs ran.trail) (append-nil k.now) are in record { now = now; saved = now }
marked_of k call.Keep r saved ran are at = record { now = subst (λ cs. AreRecordsOf cs ran.trail) (append-nil k.now) are; saved = tt }
marked_of k call.Back r saved ran are at =
    record { now = back_of k saved ran at (subst (λ cs. AreRecordsOf cs ran.trail) (append-nil k.now) are); saved = tt }
marked_of k c r saved ran are at = record { now = are; saved = at }

runs_of : (tx : ℕ) (k : Recorded) (b : BlockState) (calls : List Call) (replies : List Reply) → AreReplayedOn tx b calls replies → AreOfCalls k b
    → AreOfCalls (all_records k calls replies) (runs_on tx b (asked_of calls replies))
runs_of tx k b [] replies all so = so
runs_of tx k b (c ∷ calls) [] all so = absurd all
runs_of tx k b (c ∷ calls) (r ∷ replies) all so =
    runs_of tx (records_with k c r) (block_step tx b (told c r)) calls replies all.1
    (marked_of k c r b.saved (step tx b.now (told c r)) (stepped_of tx k.now b.now c r all.0 so.now) so.saved)

-- from its begin
pub body_of_calls : (w : World) (me : Private) (tx : ℕ) (calls : List Call) (replies : List Reply) → AreReplayed w me tx calls replies
    → AreRecordsOf (all_records no_records calls replies).now (body w me tx (asked_of calls replies)).trail
body_of_calls w me tx calls replies all = (runs_of tx no_records (opens w me) calls replies all (record { now = refl; saved = tt })).now
