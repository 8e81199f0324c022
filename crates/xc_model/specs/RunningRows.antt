-- The rows of a running transaction: it makes its call, waits, meets a conflict, is revoked, is out of memory, or turns to its end.
use Rattle.std.specs.Prelude.{◌≡◌, ◌⊎◌, ℕ, ◌<◌, ◌≤◌, List, [], ◌++◌, length}
use Rattle.std.specs.Prelude.{All, IsTrue, IsSome, Bool, true, false}
use Rattle.std.specs.Prelude.{Option, Ok, Err, nat_eq, if◌then◌else◌}
use Rattle.std.specs.declared.option.Option.TheVariants.{None, Some}
use Rattle.xc_data.specs.Claims.{holding}
use Rattle.xc_data.specs.Counts.{CountsFault}
use Rattle.xc_data.specs.Faults.{is_fault_reply}
use Rattle.xc_data.specs.declared.call.Call.{Call}
use Rattle.xc_data.specs.declared.call.Call.TheVariants as call
use Rattle.xc_data.specs.declared.call.Reply.{Reply}
use Rattle.xc_data.specs.declared.call.Reply.TheVariants as reply
use Rattle.xc_script.specs.Values.{Values}
use Rattle.xc_data.specs.declared.claim.Claim.{Claim}
use Rattle.xc_data.specs.declared.object.Object.{Object}
use Rattle.xc_data.specs.declared.entry.Cause.TheVariants as cause
use Rattle.xc_data.specs.declared.entry.Turn.{Turn}
use Rattle.xc_data.specs.declared.entry.Turn.TheVariants as turn
use Rattle.xc_data.specs.Step.{Step}
use Rattle.xc_data.specs.declared.entry.KeptItem.{KeptItem}
use Rattle.xc_data.specs.declared.undo.Undo.{Undo}
use Rattle.xc_host.specs.Uses.{CallsOf}
use Rattle.xc_calls.specs.Taking.{HasTaken}
use Rattle.xc_script.specs.declared.ask.Ask.{Ask}
use Rattle.xc_script.specs.declared.ask.Ask.TheVariants as ask
use Rattle.xc_script.specs.Answers.{answered}
use Rattle.xc_script.specs.Position.{Position, walk_of, IsPastSilent}
use Rattle.xc_txmem.specs.Overlay.{overlaid}
use Rattle.xc_world.specs.After.{IsMeAfter}
use Rattle.xc_world.specs.Checks.{IsChecked, refusal_of}
use Rattle.xc_world.specs.RecordOf.{AreRecordsOf, left_by}
use Rattle.xc_data.specs.declared.entry.Mark.{Mark}
use Rattle.xc_model.specs.declared.phase.Phase.{Phase}
use Rattle.xc_model.specs.declared.phase.Phase.TheVariants.{Running, Committing, Undoing, Backing}
use Rattle.xc_model.specs.Live.{IsScripted}
use Rattle.xc_model.specs.WordCalls.{IsWordStep}
use Rattle.xc_model.specs.Moment.{TxView, Moment}
use Rattle.xc_model.specs.Moment.{with_job}
use Rattle.xc_model.specs.Moment.{revoked, asked_to_wait, kept_between, TouchesData}
use Rattle.xc_model.specs.Movers.{asked_at, answered_with, IsSameBegin, IsSamePosition, with_tx, Mover, HasCalled}
use Rattle.xc_model.specs.Rivals.{HasNoRival, IsFirstRival}
use Rattle.xc_model.specs.PlainSteps.{Parts, StepsAsPlainIn, tx_parts, noting, stored_by, claims_at, IsReplyInTime, StopsAt, saved_by}
use Rattle.xc_model.specs.PlainSteps.{IsLeft, wanting}

-- what becomes of a transaction's mark: a running one without a mark takes this one
abbrev pub mark_behind : Phase → Option Mark → Mark → Option Mark
mark_behind Running None new = Some new
mark_behind Backing None new = Some new
mark_behind phase kept new = kept

-- the marks, where this transaction takes this one
abbrev pub marks_with : (ℕ → Option Mark) → TxView → Mark → ℕ → Option Mark
marks_with marks tx new n = if nat_eq n tx.number then mark_behind tx.phase (marks n) new else marks n

-- the values of the variables where the next call is asked
abbrev pub values_at : Mover → Values
values_at m = (walk_of m.setting.script m.job.place).variables.values

-- a reply that tells of a way back
abbrev pub is_way_back : Reply → Bool
is_way_back (reply.Undone faults) = true
-- no other reply does
is_way_back _ = false

-- a call that opens a block, or closes one
abbrev pub opens_or_closes : Call → Bool
opens_or_closes call.Save = true
opens_or_closes call.Keep = true
-- no other call does; a back is none of these
opens_or_closes _ = false

-- there a call was done
abbrev pub IsDoneWhere : Bool → Reply → Type 0
IsDoneWhere b r = b ≡ true → r ≡ reply.Done

module _ (m : Mover) (tx : TxView) where
  -- the call is done and noted
  pub record Calls (call : Call) (new : Moment) : Type 0 where
    -- what it claims nobody else holds against it
    pub free : All (HasNoRival m.old.jobs m.at) (claims_at m.old tx call)
    pub reply : Reply
    pub place : Position
    pub parts : Parts
    pub behind : TouchesData m.old m.at (answered_with m.job place (noting tx call reply (claims_at m.old tx call) parts)) new
    -- the job stands after the reply
    pub begin : IsSameBegin m.job.place place
    pub walk : walk_of m.setting.script place ≡ answered (walk_of m.setting.script m.job.place) reply
    pub nearer : IsScripted m.setting.script → m.job.place.at < place.at
    -- a save keeps what the variables held where it was asked
    pub saved : place.saved ≡ saved_by call m.job.place.saved (values_at m)
    -- it is kept for the commit or done now
    pub in_time : IsReplyInTime tx.me tx.number call reply
    -- over every host: refused exactly where a private check refuses it, with its reply, and else with one that may come; its
    -- handles, what it made and stored are those of the reply
    pub checked : IsChecked (refusal_of call tx.me) call reply
    pub after : IsMeAfter tx.number call reply tx.me parts.me
    pub stored : parts.me.stored ≤ 16384
    -- the host was called so, and not where a check refused it
    pub uses : HasCalled (CallsOf (refusal_of call tx.me) call reply) m.old new
    -- the older records stay, and one comes after them exactly where the call with its reply leaves one, which is of this call
    pub made : List Undo
    pub one : length made ≤ 1
    pub kinds : AreRecordsOf (left_by call reply) made
    pub undo : parts.undo ≡ record tx.undo { pending = tx.undo.pending ++ made }
    -- its stores wait after the older ones
    pub stores : parts.stores ≡ tx.writes ++ stored_by (length m.old.words) call
    -- it tells of no way back
    pub no_way_back : is_way_back reply ≡ false
    -- a save and a keep are done
    pub blocks : IsDoneWhere (opens_or_closes call) reply
    -- on words its reply and its effect are those of the words with the transaction's stores, over every host
    pub spoken : IsWordStep (overlaid m.old.words tx.writes) (overlaid m.old.words parts.stores) call reply
    -- a fault exactly where the host's count rose
    pub cause : CountsFault (is_fault_reply reply) m.old.faults new.faults
    -- over every host: what it took is kept no longer, or the host's; and with a fault it is kept
    pub kept : HasTaken call tx.me (kept_between m.old new) (Ok reply)
    -- over a host that tells, all is the plain machine's
    pub does : IsTrue m.setting.tells → StepsAsPlainIn m.old.words (record { old = m.old.contents; new = new.contents })
        (record { old = tx_parts tx; new = parts }) call reply

  -- a claim of the call meets a holder, which isn't younger, or for which no patience is left: the transaction undoes
  pub record Conflicts (call : Call) (new : Moment) : Type 0 where
    pub object : Object
    pub holder : ℕ
    pub met : IsFirstRival m.old.jobs m.at (claims_at m.old tx call) object holder
    pub stops : (met.rival.rival.rank ≤ tx.rank) ⊎ (m.setting.rules.patience ≤ m.job.busy)
    pub place : Position
    pub same : IsSamePosition m.setting m.job.place place
    pub behind : new
        ≡ with_job m.old m.at (with_tx m.job place (record tx { phase = Undoing (cause.Conflict object holder (length m.old.journal)) }))

  -- a claim of the call meets a younger holder, and patience is left: the transaction waits, and the holder is marked
  pub record Waits (object : Object) (holder : ℕ) (new : Moment) : Type 0 where
    pub call : Call
    pub asked : asked_at m.setting m.job ≡ ask.Call call
    pub met : IsFirstRival m.old.jobs m.at (claims_at m.old tx call) object holder
    pub younger : tx.rank < met.rival.rival.rank
    pub patient : m.job.busy < m.setting.rules.patience
    pub place : Position
    pub same : IsSamePosition m.setting m.job.place place
    pub behind : new ≡ record (with_job m.old m.at (asked_to_wait (with_tx m.job place tx))) {
      marks = marks_with m.old.marks met.rival.rival (record { object = object; by = tx.number; at = length m.old.journal });
    }

  -- it is revoked, as its mark says
  abbrev pub Revokes : Mark → Moment → Type 0
  Revokes mark new = new ≡ with_job m.old m.at (with_tx m.job m.job.place (record tx { phase = Undoing (revoked mark) }))

  -- it goes over to its commit: its stores are written
  pub record Commits (new : Moment) : Type 0 where
    pub place : Position
    pub same : IsSamePosition m.setting m.job.place place
    pub settled : IsPastSilent m.setting.script place
    pub behind : new
        ≡ record (with_job m.old m.at (with_tx m.job place (record tx { phase = Committing }))) { words = overlaid m.old.words tx.writes }

  -- the script asks it to go back to its block's begin
  pub record BeginsBack (new : Moment) : Type 0 where
    pub place : Position
    pub same : IsSamePosition m.setting m.job.place place
    pub settled : IsPastSilent m.setting.script place
    pub opened : IsSome tx.saved
    pub behind : new ≡ with_job m.old m.at (with_tx m.job place (record tx { phase = Backing }))

  -- the script asks its abort
  pub record TurnsBack (new : Moment) : Type 0 where
    pub place : Position
    pub same : IsSamePosition m.setting m.job.place place
    pub behind : new ≡ with_job m.old m.at (with_tx m.job place (record tx { phase = Undoing cause.Asked }))

-- from one world to another a call did its part, with this answer, before memory ran out; these records are left of it.

module _ (m : Mover) (tx : TxView) where
  -- what it holds where memory ran out: no more than before, if the asked call left nothing; or also what that call
  -- claims, which nobody else holds against it
  abbrev pub HoldsWanting : Ask → List Undo → List Claim → Type 0
  HoldsWanting (ask.Call call) left held =
      ((left ≡ []) × (held ≡ tx.held))
      ⊎ (All (HasNoRival m.old.jobs m.at) (claims_at m.old tx call) × (held ≡ holding tx.held (claims_at m.old tx call)))
  HoldsWanting _ left held = (left ≡ []) × (held ≡ tx.held)

  -- what is kept where memory ran out: all that was, and what the host gave to the asked call behind it
  abbrev pub KeepsWanting : Ask → Step (List KeptItem) → Type 0
  KeepsWanting (ask.Call call) kept = HasTaken call tx.me kept (Err (record {}))
  KeepsWanting ask.Commit kept = kept.new ≡ kept.old
  KeepsWanting ask.Abort kept = kept.new ≡ kept.old
  KeepsWanting ask.End kept = kept.new ≡ kept.old

module _ (m : Mover) (tx : TxView) where
  -- memory runs out: nothing is noted, and the host is as before but for what the asked call did before, which at most
  -- one record tells
  pub record Wants (new : Moment) : Type 0 where
    pub place : Position
    pub same : IsSamePosition m.setting m.job.place place
    pub left : List Undo
    pub one : length left ≤ 1
    pub held : List Claim
    pub holds : HoldsWanting m tx (asked_at m.setting m.job) left held
    pub behind : new
        ≡ record (with_job m.old m.at (with_tx m.job place (wanting tx left held))) {
          contents = new.contents;
          calls = new.calls;
          kept = new.kept;
        }
    pub kept : KeepsWanting m tx (asked_at m.setting m.job) (kept_between m.old new)
    -- the host was called for no more than the asked call
    pub uses : HasCalled (StopsAt (asked_at m.setting m.job)) m.old new
    pub contents : IsTrue m.setting.tells → IsLeft m.old new (tx_parts tx) (asked_at m.setting m.job) left

  -- by the call that is asked
  abbrev pub CalledTurn : Call → Moment → Type 0
  CalledTurn call.Back new = BeginsBack m tx new
  CalledTurn call new = Calls m tx call new ⊎ Conflicts m tx call new

  -- by what is asked
  abbrev pub AskedTurn : Ask → Moment → Type 0
  AskedTurn (ask.Call call) new = CalledTurn call new
  AskedTurn ask.Commit new = Commits m tx new
  AskedTurn ask.Abort new = TurnsBack m tx new
  AskedTurn ask.End new = ⊥

  -- a running transaction does what is asked, waits, or memory runs out
  abbrev pub RunningTurn : Turn → Moment → Type 0
  RunningTurn turn.Went new = AskedTurn (asked_at m.setting m.job) new
  RunningTurn (turn.Busy object holder) new = Waits m tx object holder new
  RunningTurn turn.NoMemory new = Wants new
  RunningTurn _ new = ⊥

  -- but where it is marked
  abbrev pub MarkedTurn : Option Mark → Turn → Moment → Type 0
  MarkedTurn None answer new = RunningTurn answer new
  MarkedTurn (Some mark) turn.Went new = Revokes m tx mark new
  MarkedTurn (Some mark) _ new = ⊥
