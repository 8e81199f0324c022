use Rattle.std.proofs.Common.{◌≡◌, ◌≤◌, Some, map, length}
use Rattle.xc_settings.specs.Options.{numbers_in}
use Rattle.xc_settings.proofs.values.jobs.Given as goal

-- the numbers of the parts so far
abbrev pub invariant-loop-part : goal.invariant-loop-part
invariant-loop-part l =
    record {
      can_next : (goal.iterator-loop-part).can_next l.part-iterator;
      is_finite : (goal.iterator-loop-part).is_finite l.part-iterator;
      read : numbers_in 1000 (map (λ part. part.now) l.yielded) ≡ Some l.jobs;
      count : length l.jobs ≡ length l.yielded;
      few : length l.jobs ≤ 10000;
    }
