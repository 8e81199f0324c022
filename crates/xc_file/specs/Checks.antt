-- What is there where a file is open or is made, and the private checks of a call of so many bytes on an open file.
use Rattle.std.specs.Prelude.{◌≡◌, ℕ, ◌<◌, not, nat_lt, Option, if◌then◌else◌}
use Rattle.std.specs.declared.option.Option.TheVariants.{None, Some}
use Rattle.xc_data.specs.declared.call.Reply.{Reply}
use Rattle.xc_data.specs.declared.call.Reply.TheVariants.{BadHandle, TooBig, TooMuch}
use Rattle.xc_data.specs.declared.private.Place.TheVariants.{File}
use Rattle.xc_data.specs.declared.private.Private.{Private}
use Rattle.xc_data.specs.Private.{place_of}
use Rattle.xc_world.specs.Checks.{is_file, passes_store}
use Rattle.xc_file.specs.declared.checks.OpenFile.{OpenFile}
use Rattle.std.specs.Prelude.{◌≤◌, true, false}
use Rattle.std.specs.Prelude.{length}
use Rattle.xc_data.specs.declared.private.Place.{Place}
use Rattle.xc_world.specs.Act.Names.{next_num}
use Rattle.xc_host.specs.Contents.{Contents, file_in, has_file}

-- the file is open at its handle, at its position
pub record IsOpenAt (me : Private) (file : OpenFile) : Type 0 where
  pub handle : file.h < 256
  pub place : place_of me.places file.h ≡ File file.num file.at

-- the reply of the first check that refuses a call of n bytes at a handle
abbrev pub file_refusal_at : Private → ℕ → ℕ → Option Reply
file_refusal_at me h n =
    if not (is_file (place_of me.places h)) then Some BadHandle
    else if nat_lt 1024 n then Some TooBig
    else if passes_store me n then Some TooMuch
    else None

-- an open file is there, within its limit
abbrev pub IsOpenIn : Contents → Place → Type 0
IsOpenIn c (File num at) = (has_file c num ≡ true) × (length (file_in c num) ≤ 65536)
IsOpenIn c _ = Unit {0}

-- no file has the number of the next object that the transaction of this number makes
abbrev pub IsNewIn : Contents → Private → ℕ → Type 0
IsNewIn c me number = has_file c (next_num me number) ≡ false
