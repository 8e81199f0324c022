-- Calls on an open file: read, overwrite, append, seek, length.
use Rattle.std.specs.Prelude.{ℕ, ◌+◌, ◌==◌, List, [], ◌++◌, length, take, drop, nat_lt, nat_le, if◌then◌else◌}
use Rattle.xc_data.specs.declared.object.Num.{Num}
use Rattle.xc_data.specs.declared.call.Reply.{Reply}
use Rattle.xc_data.specs.declared.call.Reply.TheVariants.{Number, Got, Done, End, BadHandle, PastEnd, TooBig, Fault}
use Rattle.xc_data.specs.declared.private.Place.{Place}
use Rattle.xc_data.specs.declared.private.Place.TheVariants.{File}
use Rattle.xc_data.specs.declared.private.Private.{Private}
use Rattle.xc_data.specs.Private.{with_place}
use Rattle.xc_world.specs.World.{World, file_of, with_file}
use Rattle.xc_world.specs.Act.Step.{Stepped, step_to}

-- the file with these bytes in the place of those from `at` on
abbrev pub overwritten : ℕ → List ℕ → List ℕ → List ℕ
overwritten at bytes file = take at file ++ bytes ++ drop (at + length bytes) file

-- the file's length is told
abbrev pub len_at : World → Private → Place → Stepped
len_at w me (File num at) = step_to w me (Number (length (file_of w num)))
len_at w me _ = step_to w me BadHandle

-- ---- through a handle
-- a file that is open: its handle, its number, and the position there
pub record OpenFile : Type 0 where
  pub handle : ℕ
  pub num : Num
  pub at : ℕ

-- the file of this number, open at a handle and there at a position
abbrev pub open_at : ℕ → Num → ℕ → OpenFile
open_at h num at = record { handle = h; num = num; at = at }

module _ (w : World) (me : Private) where
  -- these bytes are read, and the position moves on
  abbrev pub read_step : OpenFile → List ℕ → Stepped
  read_step file bytes = step_to w (with_place me file.handle (File file.num (file.at + length bytes))) (Got bytes)

  -- the next n bytes, or all to the end where those are fewer
  abbrev pub read_at : ℕ → ℕ → Place → Stepped
  read_at h n (File num at) =
      if n == 0 then step_to w me (Got [])
      else if nat_le (length (file_of w num)) at then step_to w me End
      else read_step (open_at h num at) (take n (drop at (file_of w num)))
  read_at h n _ = step_to w me BadHandle

  -- these bytes are written over, and the position moves on
  abbrev pub put : OpenFile → List ℕ → Reply → Stepped
  put file bytes r =
      step_to (with_file w file.num (overwritten file.at bytes (file_of w file.num)))
      (with_place me file.handle (File file.num (file.at + length bytes))) r

  -- the bytes are written over those at the handle's position, and none where they would pass the end
  abbrev pub overwrite_at : ℕ → List ℕ → Place → Stepped
  overwrite_at h bytes (File num at) =
      if length bytes == 0 then step_to w me Done
      else if nat_lt (length (file_of w num)) (at + length bytes) then step_to w me PastEnd
      else put (open_at h num at) bytes Done
  overwrite_at h bytes _ = step_to w me BadHandle

  -- these bytes are appended, and the position is the new end
  abbrev pub append_step : OpenFile → List ℕ → Reply → Stepped
  append_step file bytes r =
      step_to (with_file w file.num (file_of w file.num ++ bytes))
      (with_place me file.handle (File file.num (length (file_of w file.num) + length bytes))) r

  -- the bytes are appended, and none where the file would pass 65536 bytes
  abbrev pub append_at : ℕ → List ℕ → Place → Stepped
  append_at h bytes (File num at) =
      if length bytes == 0 then step_to w me Done
      else if nat_lt 65536 (length (file_of w num) + length bytes) then step_to w me TooBig
      else append_step (open_at h num at) bytes Done
  append_at h bytes _ = step_to w me BadHandle

  -- the handle's position is set, and stays where it would be past 65536
  abbrev pub seek_at : ℕ → ℕ → Place → Stepped
  seek_at h to (File num at) = if nat_lt 65536 to then step_to w me TooBig else step_to w (with_place me h (File num to)) Done
  seek_at h to _ = step_to w me BadHandle

  -- ---- with a fault after n bytes, which are done: through a handle with what stands there
  -- an overwrite that stops after n bytes
  abbrev pub overwrite_short : ℕ × Place → List ℕ → ℕ → Stepped
  overwrite_short (h, File num at) bytes n = if n == 0 then step_to w me (Fault n) else put (open_at h num at) (take n bytes) (Fault n)
  overwrite_short (h, place) bytes n = step_to w me (Fault n)

  -- an append that stops after n bytes
  abbrev pub append_short : ℕ × Place → List ℕ → ℕ → Stepped
  append_short (h, File num at) bytes n = if n == 0 then step_to w me (Fault n) else append_step (open_at h num at) (take n bytes) (Fault n)
  append_short (h, place) bytes n = step_to w me (Fault n)
