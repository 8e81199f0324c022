-- The jobs that late calls start.
use Rattle.std.specs.Prelude.{ℕ, List, [], ◌∷◌, ◌++◌, Option}
use Rattle.std.specs.declared.option.Option.TheVariants.{Some}
use Rattle.xc_data.specs.declared.call.LateCall.{LateCall}
use Rattle.xc_data.specs.declared.call.LateEnd.{LateEnd}
use Rattle.xc_data.specs.declared.call.LateEnd.TheVariants as end
use Rattle.xc_data.specs.Calls.{thread_in}

-- it is started where the call is done
abbrev pub started_with : Option (List ℕ) → LateEnd → List (List ℕ)
started_with (Some block) end.Done = block ∷ []
-- no other call starts one, nor does one that was not done
started_with _ _ = []

-- the blocks that late calls with their ends started
abbrev pub started_late : List LateCall → List LateEnd → List (List ℕ)
started_late [] ends = []
started_late (c ∷ calls) [] = []
started_late (c ∷ calls) (e ∷ ends) = started_with (thread_in c) e ++ started_late calls ends
