use Rattle.std.proofs.Common.{arith, subst}
use Rattle.std.specs.List.{AllByRecursion}
use Rattle.xc_lines.specs.Ranges.{AreClaimsInRange, IsCallInRange, IsReplyInRange}
use Rattle.xc_ranges.proofs.Lengths.{held_within, outcome_within}
use Rattle.xc_ranges.proofs.entries.entry.Goals as goal

pub outcome-requires : goal.outcome-requires
outcome-requires c = omega (arith, c.requires, outcome_within c.args.entry.now)

pub returns : goal.returns
returns c =
    record {
      head = c.head.ensures;
      calls = subst (AllByRecursion IsCallInRange) c.as_slice.ensures c.calls.ensures;
      replies = subst (AllByRecursion IsReplyInRange) c.as_slice-2.ensures c.replies.ensures;
      outcome = c.outcome.ensures;
      held = subst AreClaimsInRange c.as_slice-3.ensures c.claims.ensures;
      few = omega (arith, c.requires, held_within c.args.entry.now);
    }
