-- What the calls and replies of a journal fix of private states, over every host: which calls a private check refuses, which replies
-- may come of the others, where handles stand, and which calls of the host were made. Which file an open found, and where an append
-- ended, is the host's word.
use Rattle.std.specs.Prelude.{◌≡◌, ℕ, ◌-◌, true, List, [], ◌∷◌, ◌++◌, All, length, replicate, slice_get, slice_set, sum_by}
use Rattle.std.specs.Prelude.{Option, unwrap_or}
use Rattle.std.specs.declared.option.Option.TheVariants.{None}
use Rattle.xc_data.specs.Counts.{RisesBy}
use Rattle.xc_data.specs.Faults.{undo_faults}
use Rattle.xc_data.specs.declared.call.Call.{Call}
use Rattle.xc_data.specs.declared.call.Call.TheVariants as call
use Rattle.xc_data.specs.declared.call.LateCall.{LateCall}
use Rattle.xc_data.specs.declared.call.Reply.{Reply}
use Rattle.xc_data.specs.declared.call.Reply.TheVariants as reply
use Rattle.xc_data.specs.declared.entry.Entry.{Entry}
use Rattle.xc_data.specs.declared.entry.Outcome.{Outcome}
use Rattle.xc_data.specs.declared.entry.Outcome.TheVariants.{Committed, Aborted}
use Rattle.xc_data.specs.declared.private.Place.{Place}
use Rattle.xc_data.specs.declared.private.Private.{Private}
use Rattle.xc_data.specs.declared.script.HostCallKind.{HostCallKind}
use Rattle.xc_data.specs.declared.script.Outline.{Outline}
use Rattle.xc_data.specs.declared.undo.Undo.{Undo}
use Rattle.xc_data.specs.declared.undo.UndoEnd.{UndoEnd}
use Rattle.xc_host.specs.Cause.{times}
use Rattle.xc_host.specs.Uses.{CallsOf}
use Rattle.xc_script.specs.declared.ask.Ask.{Ask}
use Rattle.xc_script.specs.Blocks.{kept_calls}
use Rattle.xc_text.specs.declared.script.Script.{Script}
use Rattle.xc_world.specs.After.{IsMeAfter}
use Rattle.xc_world.specs.Checks.{IsChecked, refusal_of}
use Rattle.xc_world.specs.Ends.{is_undone}
use Rattle.xc_world.specs.Late.{kept_call}
use Rattle.xc_world.specs.Opening.{opening_handles}
use Rattle.xc_world.specs.World.{beginning}
use Rattle.xc_model.specs.Asked.{lasts_of}
use Rattle.xc_model.specs.Called.{BacksMake, EndMakes}
use Rattle.xc_model.specs.Progress.{started_blocks}
use Rattle.xc_model.specs.Saves.{saved_by}

-- the handles and the late calls that a block's save keeps
pub record AtSave : Type 0 where
  pub places : List Place
  pub late : List LateCall

-- a transaction's private state and its late calls, what the save of its open block kept of them, and which calls of the host its
-- calls made
pub record Handled : Type 0 where
  pub me : Private
  pub late : List LateCall
  pub saved : Option AtSave
  pub made : List HostCallKind

-- at the begin of a transaction with these handles
abbrev pub handled_anew : List Place → Handled
handled_anew places = record { me = beginning places; late = []; saved = None; made = [] }

-- what a save keeps of it
abbrev pub at_save : Handled → AtSave
at_save h = record { places = h.me.places; late = h.late }

-- the block went back, and its compensations made these: the handles and the late calls are those of its save, and what was made and
-- stored counts on
abbrev pub handled_back : Handled → List HostCallKind → Handled
handled_back h made =
    let kept = unwrap_or h.saved (at_save h) in
    record { me = record h.me { places = kept.places }; late = kept.late; saved = None; made = h.made ++ made }

-- a call that is no back is refused exactly where a private check refuses it, and else has a reply that may come; the private state
-- after it is that of its reply, and it made its calls of the host
pub record IsHandled (tx : ℕ) (call : Call) (reply : Reply) (was is : Handled) : Type 0 where
  pub checked : IsChecked (refusal_of call was.me) call reply
  pub after : IsMeAfter tx call reply was.me is.me
  pub late : is.late ≡ was.late ++ kept_call call was.me reply
  pub saved : is.saved ≡ saved_by call was.saved (at_save is)
  pub uses : (more : List HostCallKind) × CallsOf (refusal_of call was.me) call reply more × (is.made ≡ was.made ++ more)

-- a back undid some records of its block, with the faults of its reply, and made the calls of their compensations
pub record IsBackReply (r : Reply) (was is : Handled) : Type 0 where
  pub records : List (Undo × UndoEnd)
  pub undone : All (λ record_end. is_undone record_end.1 ≡ true) records
  pub faults : r ≡ reply.Undone (sum_by undo_faults records)
  pub made : List HostCallKind
  pub uses : BacksMake records made
  pub behind : is ≡ handled_back was made

-- one call of the transaction of this number
abbrev pub HandlesCall : ℕ → Call → Reply → Handled → Handled → Type 0
HandlesCall tx call.Back r was is = IsBackReply r was is
-- any other call stays in its block, also one yet to come
HandlesCall tx c r was is = IsHandled tx c r was is

-- each call, one after another
abbrev pub HandlesCalls : ℕ → List Call → List Reply → Handled → Handled → Type 0
HandlesCalls tx [] replies was is = is ≡ was
HandlesCalls tx (c ∷ calls) [] was is = ⊥
HandlesCalls tx (c ∷ calls) (r ∷ replies) was is =
    (next : Handled) × HandlesCall tx c r was next × HandlesCalls tx calls replies next is

-- each started job's handles after an entry whose body left these: a commit hands them on to its job and to those that it started
abbrev pub handles_behind : List (List Place) → Entry → List Place → Outcome → List (List Place)
handles_behind all e left (Committed late) =
    slice_set all (e.job - 1) left ++ replicate (length (started_blocks (kept_calls e.calls e.replies) late)) left
handles_behind all e left (Aborted report) = all

-- how far a journal led: each started job's handles, and which calls of the host its entries made
pub record Reached : Type 0 where
  pub places : List (List Place)
  pub made : List HostCallKind

-- an entry, after whose replies `last` was asked, leads from there to here
pub record HandlesEntry (was : Reached) (last : Ask) (e : Entry) (is : Reached) : Type 0 where
  pub left : Handled
  pub calls : HandlesCalls e.tx e.calls e.replies (handled_anew (unwrap_or (slice_get was.places (e.job - 1)) [])) left
  pub ends : List HostCallKind
  pub uses : EndMakes last left.late e.outcome ends
  pub places : is.places ≡ handles_behind was.places e left.me.places e.outcome
  pub made : is.made ≡ was.made ++ left.made ++ ends

-- so does a journal; `lasts` has what was asked last, entry by entry
abbrev pub AreHandled : Reached → List Ask → List Entry → Reached → Type 0
AreHandled was lasts [] is = (lasts ≡ []) × (is ≡ was)
AreHandled was [] (e ∷ journal) is = ⊥
AreHandled was (last ∷ lasts) (e ∷ journal) is = (next : Reached) × HandlesEntry was last e next × AreHandled next lasts journal is

-- ---- a whole journal
-- each job's handles at the opening, and no call
abbrev pub opened_reach : Outline → Reached
opened_reach outline = record { places = replicate (length outline.jobs) (opening_handles outline); made = [] }

-- from the opening's handles on
abbrev pub IsHandledJournal : Outline → List Ask → List Entry → Type 0
IsHandledJournal outline lasts journal = (ends : Reached) × AreHandled (opened_reach outline) lasts journal ends

-- the host was called since its opening by the entries of a journal, as often as they say, and by nothing else
pub record AreCalled (script : Script) (journal : List Entry) (calls : HostCallKind → ℕ) : Type 0 where
  pub ends : Reached
  pub entries : AreHandled (opened_reach script.outline) (lasts_of script journal) journal ends
  pub called : (kind : HostCallKind) → RisesBy (times kind ends.made) 0 (calls kind)
