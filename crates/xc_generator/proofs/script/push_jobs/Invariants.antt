use Rattle.std.proofs.Common.{◌≡◌, ◌++◌, ◌+◌, ◌-◌, ◌*◌, string_bytes}
use Rattle.xc_generator.specs.Draws.{state}
use Rattle.xc_generator.specs.Generated.{texts, generated_job_lines}
use Rattle.xc_generator.proofs.script.push_jobs.Given as goal

-- what is printed and what is left are all, by 75 draws each
abbrev pub invariant-loop-before : goal.invariant-loop-before
invariant-loop-before l =
    (string_bytes l.out ++ texts (generated_job_lines l.seed) (l.before + 1) (l.count - l.before)
    ≡ string_bytes l.fn.out ++ texts (generated_job_lines l.seed) 1 l.count)
    × (l.draws.state ≡ state l.seed (75 * l.before))
