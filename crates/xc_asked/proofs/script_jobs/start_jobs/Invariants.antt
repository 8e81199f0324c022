use Rattle.std.proofs.Common.{◌≡◌, ◌<◌, ◌++◌, Some, map, take, length}
use Rattle.std.specs.Prelude.{slice_get}
use Rattle.xc_model.specs.Asked.{ScriptJob, script_started}
use Rattle.xc_asked.proofs.script_jobs.start_jobs.Given as goal

-- those of the blocks so far
abbrev pub invariant-loop-block : goal.invariant-loop-block
invariant-loop-block l =
    record {
      within : l.at < length l.jobs.items;
      starter : (j : ScriptJob) → slice_get l.fn.jobs.items l.at ≡ Some j → slice_get l.jobs.items l.at ≡ Some j;
      children : (j : ScriptJob) → slice_get l.fn.jobs.items l.at ≡ Some j
          → l.jobs.items ≡ l.fn.jobs.items ++ map (script_started l.script j.job) (take l.block-index l.blocks);
    }
