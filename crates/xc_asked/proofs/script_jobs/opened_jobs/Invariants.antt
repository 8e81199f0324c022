use Rattle.std.proofs.Common.{◌≡◌, map, take}
use Rattle.xc_asked.specs.Walking.{opened_script_job}
use Rattle.xc_asked.proofs.script_jobs.opened_jobs.Given as goal

-- those of the blocks so far
abbrev pub invariant-loop-block : goal.invariant-loop-block
invariant-loop-block l = l.jobs.items ≡ map (opened_script_job l.script) (take l.block-index l.blocks)
