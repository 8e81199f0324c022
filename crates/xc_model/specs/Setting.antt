-- What a journal is judged by.
use Rattle.std.specs.Prelude.{Bool}
use Rattle.xc_text.specs.declared.script.Script.{Script}
use Rattle.xc_model.specs.declared.rules.Rules.{Rules}

-- the script, the rules, and whether the host tells its contents
pub record Setting : Type 0 where
  pub script : Script
  pub rules : Rules
  pub tells : Bool

-- the setting of a script, under rules and over a host
abbrev pub setting : Script → Rules → Bool → Setting
setting script rules tells = record { script = script; rules = rules; tells = tells }
