-- Bytes that a write puts into a pipe.
use Rattle.std.specs.Prelude.{◌≡◌, ◌⊎◌, ℕ, ◌<◌, ◌≤◌, List, length, take, replicate, IsTrue, Result, Ok, Err, OnOk, OnErr}
use Rattle.xc_data.specs.Counts.{CountsFault}
use Rattle.xc_data.specs.Step.{Step}
use Rattle.xc_data.specs.declared.call.LateEnd.{LateEnd}
use Rattle.xc_data.specs.declared.call.LateEnd.TheVariants.{Done, Full, Fault, NoMemory}
use Rattle.xc_data.specs.declared.object.Num.{Num}
use Rattle.xc_data.specs.declared.script.HostCallKind.{HostCallKind}
use Rattle.xc_data.specs.declared.script.HostCallKind.TheVariants as kind
use Rattle.xc_host.specs.Cause.{is_fault}
use Rattle.xc_host.specs.Contents.{Contents}
use Rattle.xc_host.specs.Model.{HostModel}
use Rattle.xc_host.specs.Pipes.{put_front}
use Rattle.xc_host.specs.Uses.{Uses, MovesBy, PutsFor}
use Rattle.xc_host.specs.declared.errors.HostErr.{HostErr}
use Rattle.xc_deferred.specs.declared.putting.Put.{Put}

-- the puts that put so many bytes, and the one after them that failed, where one did
abbrev pub PutsUntil : ℕ → Result (Unit {0}) HostErr → List HostCallKind → Type 0
PutsUntil done (Ok x) made = MovesBy kind.Put done 0 made
PutsUntil done (Err e) made = MovesBy kind.Put done 1 made

-- so much of the bytes is put into a pipe of the host: all, or a front and what stopped it
pub record IsPut {H : Type 0} (model : HostModel H) (pipe : Num) (bytes : List ℕ) (step : Step H) (put : Put) : Type 0 where
  pub whole : OnOk put.end (put.done ≡ length bytes)
  pub short : OnErr put.end (put.done < length bytes)
  pub uses : Uses model step (PutsUntil put.done put.end)
  pub contents : IsTrue model.tells → model.contents step.new ≡ put_front (model.contents step.old) pipe (take put.done bytes)
  pub cause : CountsFault (is_fault put.end) (model.fault_count step.old) (model.fault_count step.new)

-- a front of n bytes is put
abbrev pub PutsFrontOf : Step Contents → Num → List ℕ → ℕ → Type 0
PutsFrontOf c pipe bytes n = c.new ≡ put_front c.old pipe (take n bytes)

-- what a write that ended so put into a pipe with so much room: all, or what fits, or before a failure a front of that
abbrev pub Writes : Step Contents → Num → List ℕ → ℕ → LateEnd → Type 0
Writes c pipe bytes room Done = (length bytes ≤ room) × (c.new ≡ put_front c.old pipe bytes)
Writes c pipe bytes room (Full n) = (n ≡ room) × (room < length bytes) × PutsFrontOf c pipe bytes n
Writes c pipe bytes room (Fault n) = ((n ≡ 0) ⊎ ((n < length bytes) × (n < room))) × PutsFrontOf c pipe bytes n
Writes c pipe bytes room (NoMemory n) = ((n ≡ 0) ⊎ ((n < length bytes) × (n < room))) × PutsFrontOf c pipe bytes n
-- it has no other end
Writes c pipe bytes room _ = ⊥

-- the puts of a write of n bytes that ended so
abbrev pub PutsOnly : ℕ → LateEnd → List HostCallKind → Type 0
PutsOnly n end made = (count : ℕ) × PutsFor n end count × (made ≡ replicate count kind.Put)
