-- How calls end that start jobs.
use Rattle.std.specs.Prelude.{◌≡◌, ℕ, ◌<◌, ◌≤◌, Bool, true, false, List, [], ◌∷◌, ◌++◌, length, nat_eq, Option}
use Rattle.std.specs.declared.option.Option.TheVariants.{None, Some}
use Rattle.std.specs.Cmp.Lexicographic.{pointwise}
use Rattle.std.specs.List.{list_any}
use Rattle.xc_data.specs.declared.call.LateEnd.{LateEnd}
use Rattle.xc_data.specs.declared.call.LateEnd.TheVariants as late_end
use Rattle.xc_text.specs.declared.script.Script.{Script}
use Rattle.xc_model.specs.LateCalls.{started_with}

-- the script has this block
abbrev pub is_block_in : Script → List ℕ → Bool
is_block_in script block = list_any (λ name. pointwise nat_eq name block) (script.outline.jobs ++ script.outline.bodies)

-- how a call ends that starts a job of this block: from these blocks of started jobs to those
abbrev pub IsStart : Script → List (List ℕ) → List ℕ → LateEnd → List (List ℕ) → Type 0
IsStart script was block late_end.Done is = (is_block_in script block ≡ true) × (length was < 1000) × (is ≡ was ++ block ∷ [])
IsStart script was block late_end.NoScript is = (is_block_in script block ≡ false) × (is ≡ was)
IsStart script was block (late_end.Full n) is = (is_block_in script block ≡ true) × (1000 ≤ length was) × (n ≡ 0) × (is ≡ was)
IsStart script was block (late_end.NoMemory n) is = (n ≡ 0) × (is ≡ was)
-- it has no other end
IsStart script was block _ is = ⊥

-- those of several late calls that start a job ended so, one after another, from these blocks of started jobs on; each call is given by
-- the block that it starts, if it starts one
abbrev pub AreStarts : Script → List (List ℕ) → List (Option (List ℕ)) → List LateEnd → Type 0
AreStarts script was [] ends = Unit {0}
AreStarts script was (call ∷ calls) [] = Unit {0}
AreStarts script was (None ∷ calls) (end ∷ ends) = AreStarts script was calls ends
AreStarts script was (Some block ∷ calls) (end ∷ ends) =
    let is = was ++ started_with (Some block) end in IsStart script was block end is × AreStarts script is calls ends
