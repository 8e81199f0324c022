-- How many entries a journal may have.
use Rattle.std.proofs.Common.{◌≡◌, ◌≤◌, ℕ, Bool, true, false, ap, arith}
use Rattle.std.specs.Prelude.{if◌then◌else◌}
use Rattle.xc_text.specs.declared.script.Script.{Script}
use Rattle.xc_model.specs.Live.{IsScripted, most_entries}

-- of a script 10,000
pub most_scripted : (script : Script) → IsScripted script → most_entries script ≡ 10000
most_scripted script own = ap (λ (b : Bool). if b then 4294967295 else 10000) own

-- never more than there are numbers
pub most_numbered : (script : Script) → most_entries script ≤ 4294967295
most_numbered script = by_kind script.clients where
  by_kind : (b : Bool) → (if b then 4294967295 else 10000) ≤ 4294967295
  by_kind true = omega arith
  by_kind false = omega arith
