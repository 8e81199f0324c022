use Rattle.std.proofs.Common.{◌≡◌, ◌∙◌, ◌<◌, ◌+◌, length, take, slice_index_or, sym, arith}
use Rattle.std.proofs.lemmas.Option.{get_or_from_slice_get}
use Rattle.xc_check.specs.Refusals.{line_behind}
use Rattle.xc_check.proofs.Verdicts.{refused_within}
use Rattle.xc_check.proofs.whole.refused_at.Goals as goal

-- src/whole.rt
pub returns-then-refused : goal.returns-then-refused
returns-then-refused c s entries tail lines stop =
    let place = c.args.refused.place in
    let within = refused_within s (length entries) entries place c.args.refused.reason stop.refused in
    record {
      place = place;
      reason = c.args.refused.reason;
      refused = stop.refused;
      untold = sym stop.untold ∙ c.if-refused.true;
      line_is = get_or_from_slice_get c.args.lines.now place (line_behind (take place entries)) 0 (lines.1 place (omega (arith, within)));
    }

pub returns : goal.returns
returns c s entries tail lines stop =
    let place = c.args.refused.place in
    let within = refused_within s (length entries) entries place c.args.refused.reason stop.refused in
    record {
      place = place;
      refused = stop.refused;
      told = sym stop.untold ∙ c.if-refused.false;
      line_is = get_or_from_slice_get c.args.lines.now place (line_behind (take place entries)) 0 (lines.1 place (omega (arith, within)));
    }
