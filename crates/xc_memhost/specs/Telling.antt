-- What a host told, as an answer.
use Rattle.std.specs.Prelude.{◌≡◌, Result, Ok, Err}
use Rattle.xc_data.specs.declared.memory.NoMemory.{NoMemory}
use Rattle.xc_host.specs.declared.errors.HostErr.{HostErr}
use Rattle.xc_host.specs.declared.errors.HostErr.TheVariants as told
use Rattle.xc_memhost.specs.declared.calls.HostAnswer.{HostAnswer}
use Rattle.xc_memhost.specs.declared.calls.HostAnswer.TheVariants as answer

-- the value as an answer, a fault, or lack of memory
abbrev pub Tells : {T : Type 0} → Result T HostErr → Result HostAnswer NoMemory → (T → HostAnswer) → Type 0
Tells (Ok x) r f = r ≡ Ok (f x)
Tells (Err told.Fault) r f = r ≡ Ok answer.Fault
Tells (Err told.NoMemory) r f = r ≡ Err (record {})
