-- How many turns a station may still take.
use Rattle.std.specs.Prelude.{ℕ, ◌+◌, ◌*◌, ◌-◌, List, [], ◌∷◌, length, drop, sum_by}
use Rattle.xc_text.specs.declared.script.Block.{Block}
use Rattle.xc_text.specs.Stated.{Statement}
use Rattle.xc_script.specs.Ask.{transactions_at}
use Rattle.xc_model.specs.declared.phase.Phase.{Phase}
use Rattle.xc_model.specs.declared.phase.Phase.TheVariants.{Running, Committing, Undoing, Backing}
use Rattle.xc_model.specs.Setting.{Setting}
use Rattle.xc_model.specs.Moment.{TxView, JobView, Doing, Idle, Active, Starved, Ended, Moment, failures, late_left}

-- an attempt at a transaction: three turns for each statement, which may leave a record and a late call, its begin, the
-- entering of its commit or abort, and its entry; and so often as patience lasts it waits, while it runs and after it
abbrev pub attempt_turns : Setting → List Statement → ℕ
attempt_turns s body = 3 * length body + 5 + 2 * s.rules.patience

-- what is left of an attempt of so many statements, after so many of them
abbrev pub phase_turns : ℕ → ℕ → TxView → Phase → ℕ
phase_turns statements at tx Running = 3 * (statements - at) + length tx.undo.pending + length (late_left tx) + 4
phase_turns statements at tx Committing = length (late_left tx) + 2
phase_turns statements at tx (Undoing c) = length tx.undo.pending + 2
phase_turns statements at tx Backing = 3 * (statements - at) + length tx.undo.pending + length (late_left tx) + 3

-- transactions, each tried as often as the rules allow
abbrev pub bodies_turns : Setting → List (List Statement) → ℕ
bodies_turns s bodies = sum_by (λ body. s.rules.attempts * attempt_turns s body) bodies

-- a job before these transactions, but for the patience that is left; of the first one so many attempts failed
abbrev pub doing_turns : Setting → ℕ → ℕ → List (List Statement) → Doing → ℕ
doing_turns s failed at [] Idle = 1
doing_turns s failed at (body ∷ bodies) Idle = (s.rules.attempts - failed) * attempt_turns s body + bodies_turns s bodies + 1
doing_turns s failed at [] (Active tx) = phase_turns 0 at tx tx.phase + s.rules.patience + 1
doing_turns s failed at (body ∷ bodies) (Active tx) =
    phase_turns (length body) at tx tx.phase + s.rules.patience + (s.rules.attempts - (failed + 1)) * attempt_turns s body
    + bodies_turns s bodies + 1
doing_turns s failed at bodies Starved = 1
doing_turns s failed at bodies (Ended end) = 0

-- the turns left of a job
abbrev pub job_turns : Setting → JobView → ℕ
job_turns s job =
    (s.rules.patience - job.busy) + doing_turns s (failures job.attempts) job.place.at
    (drop job.place.next (transactions_at s.script job.place.block)) job.doing

-- no job has more at its begin
abbrev pub most_turns : Setting → ℕ
most_turns s = s.rules.patience + (sum_by (λ (b : Block). bodies_turns s b.transactions) s.script.blocks + 1)

-- of all, and of those that may still be started
abbrev pub turns_left : Setting → Moment → ℕ
turns_left s now = sum_by (job_turns s) now.jobs + (1000 - length now.jobs) * most_turns s
