-- What is told of the active transaction of a client's job.
use Rattle.std.specs.Prelude.{ℕ, ◌+◌, ◌-◌, ◌==◌, Bool, false, List, length, position, is_some, unwrap_or, Option, slice_get}
use Rattle.std.specs.Option.{option_map}
use Rattle.std.specs.declared.option.Option.TheVariants.{None, Some}
use Rattle.xc_data.specs.declared.call.Reply.{Reply}
use Rattle.xc_model.specs.Moment.{JobView, Doing, Idle, Active, Starved, Ended}
use Rattle.xc_station.specs.Finishing.{told_at}
use Rattle.xc_station.specs.Jobs.{doing_of}
use Rattle.xc_station.specs.declared.job.Job.{Job}

-- the reply to the last call that an active transaction has noted
abbrev pub last_reply_in : Doing → Option Reply
last_reply_in (Active tx) = slice_get tx.replies (length tx.replies - 1)
last_reply_in Idle = None
last_reply_in Starved = None
last_reply_in (Ended end) = None

-- the same of the job of this number
abbrev pub last_reply_at : List JobView → ℕ → Option Reply
last_reply_at jobs number = told_at last_reply_in jobs number

-- whether an active transaction has an open block
abbrev pub open_block_in : Doing → Option Bool
open_block_in (Active tx) = Some (is_some tx.saved)
open_block_in Idle = None
open_block_in Starved = None
open_block_in (Ended end) = None

-- the same of the job of this number
abbrev pub open_block_at : List JobView → ℕ → Bool
open_block_at jobs number = unwrap_or (told_at open_block_in jobs number) false

-- an active transaction has this number
abbrev pub is_numbered : ℕ → Doing → Bool
is_numbered number (Active tx) = tx.number == number
is_numbered number Idle = false
is_numbered number Starved = false
is_numbered number (Ended end) = false

-- the number of the first job whose active transaction has this one
abbrev pub job_numbered : List Job → ℕ → Option ℕ
job_numbered jobs number = option_map (λ at. at + 1) (position (λ (job : Job). is_numbered number (doing_of job)) jobs)
