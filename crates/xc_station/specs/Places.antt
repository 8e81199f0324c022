-- The places of a script's blocks, by their names.
use Rattle.std.specs.Prelude.{◌≡◌, ℕ, List, if◌then◌else◌}
use Rattle.std.specs.declared.option.Option.TheVariants.{None, Some}
use Rattle.std.specs.FinMap as map
use Rattle.xc_maps.specs.Keys.{name_cmp}
use Rattle.xc_script.specs.Ask.{block_place}
use Rattle.xc_model.specs.Starts.{is_block_in}
use Rattle.xc_text.specs.declared.script.Script.{Script}

-- each name that a block has is there with the block's place, and no other
abbrev pub IndexesBlocks : Script → map.FinMap name_cmp ℕ → Type 0
IndexesBlocks script places =
    (name : List ℕ) → map.get places name ≡ (if is_block_in script name then Some (block_place script name) else None)
