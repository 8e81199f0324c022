-- A transaction on its way through its statements, with an inner block.
use Rattle.std.specs.Prelude.{◌≡◌, Bool, true, false, not, is_some, ◌+◌, ◌++◌, List, [], ◌∷◌, Option, unwrap_or, if◌then◌else◌}
use Rattle.std.specs.declared.option.Option.TheVariants.{None, Some}
use Rattle.xc_data.specs.declared.call.Call.{Call}
use Rattle.xc_data.specs.declared.call.Call.TheVariants as call
use Rattle.xc_data.specs.declared.call.Reply.{Reply}
use Rattle.xc_data.specs.Calls.{is_late}
use Rattle.xc_text.specs.declared.script.Script.{Script}
use Rattle.xc_text.specs.declared.script.CallForm.TheVariants as form
use Rattle.xc_text.specs.declared.script.Statement.TheVariants as statement
use Rattle.xc_text.specs.Inner.{are_inner}
use Rattle.xc_text.specs.Stated.{CallForm, Statement}
use Rattle.xc_script.specs.declared.ask.Ask.{Ask}
use Rattle.xc_script.specs.declared.ask.Ask.TheVariants as ask
use Rattle.xc_script.specs.Values.{Values}
use Rattle.xc_script.specs.Walks.{Walk, past_silent}
use Rattle.xc_script.specs.Asking.{asks}
use Rattle.xc_script.specs.Answers.{answered}
use Rattle.xc_script.specs.Ask.{Job, walk_from}

-- where a transaction is, and in an open block the values of its variables at the save
pub record BlockWalk : Type 0 where
  pub walk : Walk
  pub saved : Option Values

-- whether a line that is a call closes a block
abbrev pub closes : CallForm → Bool
closes form.Keep = true
closes _ = false

-- whether a statement closes a block
abbrev pub is_keep : Statement → Bool
is_keep (statement.Call f) = closes f
is_keep _ = false

-- the statements behind the block's keep
abbrev pub behind_keep : List Statement → List Statement
behind_keep [] = []
behind_keep (s ∷ rest) = if is_keep s then rest else behind_keep rest

-- after a back it goes on behind the keep, with the variables as at the save; what it stored counts on
abbrev pub back_to : Walk → Option Values → Walk
back_to walk None = walk
back_to walk (Some values) = past_silent (record walk.variables { values = values }) walk.stored false (behind_keep walk.left)

-- the block that a call opens or closes
abbrev pub block_after_call : BlockWalk → Call → Reply → BlockWalk
block_after_call b call.Save reply = record { walk = answered b.walk reply; saved = Some b.walk.variables.values }
block_after_call b call.Keep reply = record { walk = answered b.walk reply; saved = None }
block_after_call b call.Back reply = record { walk = back_to b.walk b.saved; saved = None }
-- any other call is made in the block that is open, also one yet to come
block_after_call b _ reply = record { walk = answered b.walk reply; saved = b.saved }

-- after what is asked: where that is no call, no reply comes, and it stays
abbrev pub after_ask : BlockWalk → Ask → Reply → BlockWalk
after_ask b (ask.Call call) reply = block_after_call b call reply
after_ask b ask.Commit reply = b
after_ask b ask.Abort reply = b
after_ask b ask.End reply = b

-- a transaction on its way after a reply
abbrev pub replied : BlockWalk → Reply → BlockWalk
replied b reply = after_ask b (asks b.walk) reply

-- after these replies, one after another
abbrev pub all_replied : BlockWalk → List Reply → BlockWalk
all_replied b [] = b
all_replied b (reply ∷ replies) = all_replied (replied b reply) replies

-- the next transaction at its begin, in no block
abbrev pub block_from : Script → Job → BlockWalk
block_from script job = record { walk = walk_from script job; saved = None }

-- the job at the next transaction, with the variables that these replies leave
abbrev pub passed_blocks : Script → Job → List Reply → Job
passed_blocks script job replies =
    record { block = job.block; next = job.next + 1; variables = (all_replied (block_from script job) replies).walk.variables }

-- a block is open just where the statements that are left are in one
abbrev pub IsInner : BlockWalk → Type 0
IsInner b = are_inner (is_some b.saved) b.walk.left ≡ true

-- a save is asked outside of blocks, a keep and a back in one
abbrev pub fits_block : Bool → Call → Bool
fits_block within call.Save = not within
fits_block within call.Keep = within
fits_block within call.Back = within
-- any other call may stand in a block or outside, also one yet to come
fits_block within _ = true

-- so it is of what is asked
abbrev pub ask_fits : Bool → Ask → Bool
ask_fits within (ask.Call c) = fits_block within c
ask_fits within ask.Commit = true
ask_fits within ask.Abort = true
ask_fits within ask.End = true

-- ---- the calls that are kept for the commit
-- those so far, and in an open block those at its save
pub record KeptCalls : Type 0 where
  pub kept : List Call
  pub saved : Option (List Call)

-- none yet
abbrev pub none_kept : KeptCalls
none_kept = record { kept = []; saved = None }

-- with one call more, and its recorded reply: a back drops those of its block
abbrev pub kept_with : KeptCalls → Call → Reply → KeptCalls
kept_with k call.Save reply = record { kept = k.kept; saved = Some k.kept }
kept_with k call.Keep reply = record { kept = k.kept; saved = None }
kept_with k call.Back reply = record { kept = unwrap_or k.saved k.kept; saved = None }
-- any other call is made in the block that is open, also one yet to come
kept_with k c reply = record { kept = if is_late reply then k.kept ++ c ∷ [] else k.kept; saved = k.saved }

-- with these calls and their recorded replies
abbrev pub all_kept : KeptCalls → List Call → List Reply → KeptCalls
all_kept k [] replies = k
all_kept k (c ∷ calls) [] = k
all_kept k (c ∷ calls) (reply ∷ replies) = all_kept (kept_with k c reply) calls replies

-- the calls that were kept for the commit, by their recorded replies, but those of blocks that went back
abbrev pub kept_calls : List Call → List Reply → List Call
kept_calls calls replies = (all_kept none_kept calls replies).kept
