-- What a script asks next of a job, from the replies so far.
use Rattle.std.specs.Prelude.{ℕ, ◌+◌, false, nat_eq}
use Rattle.std.specs.Prelude.{List, [], ◌∷◌, Option, length, unwrap_or, replicate, slice_get, slice_set, position, if◌then◌else◌}
use Rattle.std.specs.declared.option.Option.TheVariants.{None, Some}
use Rattle.std.specs.Cmp.Lexicographic.{pointwise}
use Rattle.xc_data.specs.declared.call.Reply.{Reply}
use Rattle.xc_script.specs.JobSlots.{unset}
use Rattle.xc_text.specs.declared.script.Script.{Script}
use Rattle.xc_text.specs.declared.script.Block.{Block}
use Rattle.xc_text.specs.Stated.{Statement}
use Rattle.xc_script.specs.declared.ask.Ask.{Ask}
use Rattle.xc_script.specs.declared.ask.Ask.TheVariants as ask
use Rattle.xc_script.specs.declared.value.Value.TheVariants as value
use Rattle.xc_script.specs.Values.{Values, Variables}
use Rattle.xc_script.specs.Walks.{Walk, past_silent}
use Rattle.xc_script.specs.Asking.{asks}
use Rattle.xc_script.specs.Answers.{all_answered}

-- ---- a job: the place of its block in the script, the number of its next transaction, its variables
pub record Job : Type 0 where
  pub block : ℕ
  pub next : ℕ
  pub variables : Variables

-- the transactions of a block: each has its statements
abbrev pub transactions_of : Option Block → List (List Statement)
transactions_of None = []
transactions_of (Some block) = block.transactions

-- the transactions of the block at this place in the script
abbrev pub transactions_at : Script → ℕ → List (List Statement)
transactions_at script block = transactions_of (slice_get script.blocks block)

-- the job's next transaction, where one is left; where clients ask one always is, of which its block says nothing
abbrev pub next_body : Script → Job → Option (List Statement)
next_body script job = if script.clients then Some [] else slice_get (transactions_at script job.block) job.next

-- the next transaction at its begin
abbrev pub walk_from : Script → Job → Walk
walk_from script job = past_silent job.variables 0 false (unwrap_or (next_body script job) [])

-- a job with no transaction left is at its end; otherwise its transaction asks
abbrev pub asks_from : Option (List Statement) → Walk → Ask
asks_from None walk = ask.End
asks_from (Some body) walk = asks walk

-- the job at the next transaction, with the variables that these replies leave
abbrev pub job_passed : Script → Job → List Reply → Job
job_passed script job replies =
    record { block = job.block; next = job.next + 1; variables = (all_answered (walk_from script job) replies).variables }

-- no variable holds anything, and each of the script's slots is unset
abbrev pub no_variables : Script → Variables
no_variables script = record { values = replicate (length script.variables) None; slots = unset script.slots }

-- the variables of a starter, with all slots unset
abbrev pub handed_on : Script → Variables → Variables
handed_on script variables = record (no_variables script) { values = variables.values }

-- the values where these variables hold handles, from h on: of several in one variable the last one stays
abbrev pub with_handles : List ℕ → ℕ → Values → Values
with_handles [] h values = values
with_handles (v ∷ vs) h values = with_handles vs (h + 1) (slice_set values v (Some (value.Handle h)))

-- what a job knows at the opening: its variables hold the handles of the prologue, and nothing else is set
abbrev pub opening_variables : Script → Variables
opening_variables script = let none = no_variables script in record none { values = with_handles script.handles 0 none.values }

-- a job that begins its block at the opening
abbrev pub fresh_job : Script → ℕ → Job
fresh_job script block = record { block = block; next = 0; variables = opening_variables script }

-- the place of the block of this name in the script
abbrev pub block_place : Script → List ℕ → ℕ
block_place script name = unwrap_or (position (λ (b : Block). pointwise nat_eq b.name name) script.blocks) 0
