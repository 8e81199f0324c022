-- A station before its first turn.
use Rattle.std.specs.Prelude.{◌≡◌, ℕ, List, [], map}
use Rattle.std.specs.declared.option.Option.TheVariants.{None}
use Rattle.xc_data.specs.declared.script.HostCallKind.{HostCallKind}
use Rattle.xc_text.specs.declared.script.Script.{Script}
use Rattle.xc_world.specs.Opening.{opening_handles}
use Rattle.xc_world.specs.World.{beginning}
use Rattle.xc_script.specs.Ask.{fresh_job, block_place}
use Rattle.xc_script.specs.Position.{at_begin}
use Rattle.xc_model.specs.Moment.{JobView, Idle, Moment}

-- the job of a block at its begin, with the prologue's handles
abbrev pub opened_job : Script → List ℕ → JobView
opened_job script block =
    record {
      block = block;
      me = beginning (opening_handles script.outline);
      place = at_begin (fresh_job script (block_place script block));
      handed = None;
      attempts = None;
      busy = 0;
      doing = Idle;
    }

-- the script's words, an empty journal, nothing kept, its jobs before their first transactions, which alone are started, no mark,
-- and no call of the host after its opening
pub record IsOpening (script : Script) (now : Moment) : Type 0 where
  pub words : now.words ≡ script.outline.words
  pub journal : now.journal ≡ []
  pub kept : now.kept ≡ []
  pub jobs : now.jobs ≡ map (opened_job script) script.outline.jobs
  pub started : now.started ≡ script.outline.jobs
  pub marks : (n : ℕ) → now.marks n ≡ None
  pub calls : (kind : HostCallKind) → now.calls kind ≡ 0
