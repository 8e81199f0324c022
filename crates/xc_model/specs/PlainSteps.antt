-- A call of a transaction as the plain machine does it, and the transaction after it.
use Rattle.std.specs.Prelude.{◌≡◌, ◌⊎◌, ℕ, true, false, List, [], ◌∷◌, ◌++◌, length}
use Rattle.std.specs.Prelude.{IsTrue}
use Rattle.std.specs.Prelude.{nat_lt, if◌then◌else◌}
use Rattle.xc_data.specs.Claims.{holding}
use Rattle.xc_data.specs.Step.{Step}
use Rattle.xc_data.specs.declared.call.Answer.{Answer}
use Rattle.xc_data.specs.declared.call.Answer.TheVariants as answer
use Rattle.xc_data.specs.declared.call.CallWithAnswer.{CallWithAnswer}
use Rattle.xc_data.specs.declared.call.Call.{Call}
use Rattle.xc_data.specs.declared.call.Call.TheVariants as call
use Rattle.xc_data.specs.declared.call.Reply.{Reply}
use Rattle.xc_data.specs.declared.claim.Claim.{Claim}
use Rattle.xc_data.specs.declared.entry.Cause.TheVariants as cause
use Rattle.xc_data.specs.declared.private.Private.{Private}
use Rattle.xc_data.specs.declared.undo.Undo.{Undo}
use Rattle.xc_compensate.specs.Records.{Records}
use Rattle.xc_host.specs.Contents.{Contents, with_contents}
use Rattle.xc_script.specs.declared.ask.Ask.{Ask}
use Rattle.xc_script.specs.declared.ask.Ask.TheVariants as ask
use Rattle.xc_txmem.specs.Overlay.{overlaid}
use Rattle.xc_world.specs.World.{World}
use Rattle.xc_world.specs.Act.{act}
use Rattle.xc_world.specs.Act.Step.{step_to}
use Rattle.xc_world.specs.Effects.{takes_data}
use Rattle.xc_world.specs.Fits.{is_back, fits, answer_of}
use Rattle.xc_world.specs.Late.{kept_call}
use Rattle.xc_data.specs.Calls.{is_late, is_kept}
use Rattle.xc_world.specs.Modes.{claims_of}
use Rattle.xc_world.specs.Run.{taken_by}
use Rattle.xc_world.specs.Trail.{recorded}
use Rattle.xc_model.specs.declared.phase.Phase.TheVariants.{Undoing}
pub use Rattle.xc_model.specs.Called.{StopsAt}
pub use Rattle.xc_model.specs.Saves.{saved_by}
use Rattle.xc_model.specs.Moment.{TxView, SavedView, Moment}

-- ---- a running transaction makes the call that is asked
-- what a call works on beside the host: its transaction's number, the private state, the stores that wait, the records
pub record Parts : Type 0 where
  pub number : ℕ
  pub me : Private
  pub stores : List (ℕ × ℕ)
  pub undo : Records

-- what a transaction sees: the world with the host's contents, its stores laid over the words
abbrev pub contents_seen : World → Contents → List (ℕ × ℕ) → World
contents_seen w contents stores = record (with_contents w contents) { words = overlaid w.words stores }

-- from one world to another a call is the plain machine's, with the answer that its reply records
pub record StepsAsPlain (worlds : Step World) (parts : Step Parts) (call : Call) (reply : Reply) : Type 0 where
  pub step : act worlds.old parts.old.me parts.old.number call (answer_of reply) ≡ step_to worlds.new parts.new.me reply
  pub fits : IsTrue (fits worlds.old parts.old.me parts.old.number call (answer_of reply))
  pub records : parts.new.undo.pending ≡ parts.old.undo.pending ++ recorded worlds.old parts.old.me parts.old.number call reply

-- the same in every world with these words, from contents of the host to others
abbrev pub StepsAsPlainIn : List ℕ → Step Contents → Step Parts → Call → Reply → Type 0
StepsAsPlainIn words contents parts call reply =
    (w : World) → w.words ≡ words
    → StepsAsPlain (record
    { old = contents_seen w contents.old parts.old.stores; new = contents_seen w contents.new parts.new.stores }) parts call reply

-- these parts of a transaction
abbrev pub tx_parts : TxView → Parts
tx_parts tx = record { number = tx.number; me = tx.me; stores = tx.writes; undo = tx.undo }

-- the transaction after a call: noted with its reply, what it claimed held, what it took from a pipe or a pair noted,
-- and kept for the commit where it replied so
abbrev pub noting_plain : TxView → Call → Reply → List Claim → Parts → TxView
noting_plain tx call reply claims parts =
    record tx {
      me = parts.me;
      writes = parts.stores;
      undo = parts.undo;
      taken = tx.taken ++ taken_by call tx.me reply;
      calls = tx.calls ++ call ∷ [];
      replies = tx.replies ++ reply ∷ [];
      held = holding tx.held claims;
      late = tx.late ++ kept_call call tx.me reply;
    }

-- what a save keeps of a transaction
abbrev pub copied : TxView → SavedView
copied tx =
    record {
      places = tx.me.places;
      writes = tx.writes;
      trail = tx.undo.pending;
      taken = tx.taken;
      late = tx.late;
    }

-- the same, and where the call opens or closes a block
abbrev pub noting : TxView → Call → Reply → List Claim → Parts → TxView
noting tx call reply claims parts =
    let u = noting_plain tx call reply claims parts in
    record u { saved = saved_by call tx.saved (copied u) }

-- the stores that a call adds, over so many words
abbrev pub stored_by : ℕ → Call → List (ℕ × ℕ)
stored_by count (call.Store at value) = if nat_lt at count then (at, value) ∷ [] else []
-- no other call stores to words
stored_by count _ = []

-- what a transaction's call claims
abbrev pub claims_at : Moment → TxView → Call → List Claim
claims_at now tx call = claims_of call tx.me (length now.words)

-- over every host: a call that is kept for the commit replies as the plain machine does, which asks no host, and every
-- other one replies now
pub record IsReplyInTime (me : Private) (number : ℕ) (call : Call) (reply : Reply) : Type 0 where
  pub kept : is_kept call ≡ true → (w : World) → reply ≡ (act w me number call answer.Fine).reply
  pub now : is_kept call ≡ false → is_late reply ≡ false

-- One that takes data gives it back, and did nothing; and a back did nothing
pub record LeavesAsPlain (worlds : Step World) (parts : Parts) (asked : CallWithAnswer) (left : List Undo) : Type 0 where
  pub untaken : takes_data asked.call ≡ false
  pub ahead : is_back asked.call ≡ false
  pub fits : IsTrue (fits worlds.old parts.me parts.number asked.call asked.answer)
  pub world : worlds.new ≡ (act worlds.old parts.me parts.number asked.call asked.answer).world
  pub records : left
      ≡ recorded worlds.old parts.me parts.number asked.call (act worlds.old parts.me parts.number asked.call asked.answer).reply

-- the same in every world with these words, from contents of the host to others
abbrev pub LeavesAsPlainIn : List ℕ → Step Contents → Parts → CallWithAnswer → List Undo → Type 0
LeavesAsPlainIn words contents parts asked left =
    (w : World) → w.words ≡ words
    → LeavesAsPlain
    (record { old = contents_seen w contents.old parts.stores; new = contents_seen w contents.new parts.stores }) parts asked left

-- a call that is asked left these records before memory ran out: with some answer it did its part
abbrev pub LeavesPart : Moment → Moment → Parts → Ask → List Undo → Type 0
LeavesPart old new parts (ask.Call call) left =
    (answer : Answer)
    × LeavesAsPlainIn old.words (record { old = old.contents; new = new.contents }) parts (record { call = call; answer = answer }) left
LeavesPart old new parts _ left = ⊥

-- what is at the host where memory ran out: all as before, or what the asked call left
abbrev pub IsLeft : Moment → Moment → Parts → Ask → List Undo → Type 0
IsLeft old new parts next left = ((left ≡ []) × (new.contents ≡ old.contents)) ⊎ LeavesPart old new parts next left

-- the transaction turns back for lack of memory; these records are left of a call that isn't noted
abbrev pub wanting : TxView → List Undo → List Claim → TxView
wanting tx left held =
    record tx { phase = Undoing cause.NoMemory; undo = record tx.undo { pending = tx.undo.pending ++ left }; held = held }
