use Rattle.std.proofs.Common.{◌≡◌, ℕ, List, length, ap, arith}
use Rattle.xc_script.proofs.job.JobState.new.Goals as goal

pub hold-requires : goal.hold-requires
hold-requires c =
    let same : length c.as_slice.result.now ≡ length c.args.script.now.handles = ap (λ (vs : List ℕ). length vs) c.as_slice.ensures in
    omega (arith, same, c.requires.handles, c.requires.prologue.pipes, c.requires.prologue.pairs)
