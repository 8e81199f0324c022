-- Scripts whose transactions are asked by clients, call by call: what was handed in stands beside the job's place.
use Rattle.std.specs.Prelude.{◌≡◌, ℕ, Bool, true, false, Option, unwrap_or, if◌then◌else◌}
use Rattle.xc_text.specs.declared.script.Script.{Script}
use Rattle.xc_script.specs.declared.ask.Ask.{Ask}
use Rattle.xc_script.specs.declared.ask.Ask.TheVariants as ask
use Rattle.xc_script.specs.Asking.{asks}
use Rattle.xc_script.specs.Position.{Position, walk_of}

-- its jobs are asked by clients: its blocks say nothing, and a transaction is always left
abbrev pub has_clients : Script → Bool
has_clients script = script.clients

-- what is asked: what the client has handed in, or what the script asks at the place; where nothing was handed in nothing is asked
abbrev pub asked_by : Bool → Script → Option Ask → Position → Ask
asked_by true script handed place = unwrap_or handed ask.End
asked_by false script handed place = asks (walk_of script place)

-- its jobs are asked by its blocks
abbrev pub IsScripted : Script → Type 0
IsScripted script = has_clients script ≡ false

-- a script's job goes on where its last entry wasn't aborted for lack of memory; a client's goes on in any case
abbrev pub GoesOn : Script → Bool → Type 0
GoesOn script starved = IsScripted script → starved ≡ false

-- the most entries that a journal has: what clients did is handed out, so theirs ends only where the numbers of transactions do
abbrev pub most_entries : Script → ℕ
most_entries script = if has_clients script then 4294967295 else 10000
