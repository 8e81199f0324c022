use Rattle.std.proofs.Common.{length, arith}
use Rattle.xc_check.specs.TrueTexts.{telling}
use Rattle.xc_check.proofs.Verdicts.{front_numbered, refused_behind_front, refused_of_front, refused_within}
use Rattle.xc_check.proofs.whole.refuse.Goals as goal

-- src/whole.rt
pub judge_entries-requires-clause-numbered : goal.judge_entries-requires-clause-numbered
judge_entries-requires-clause-numbered c = (
  length c.args.entries.items,
  front_numbered (telling c.args.script.now c.args.rules.now) c.args.entries.items c.args.place c.requires.place c.truncate.new.self.items
      c.truncate.ensures.items,
)

pub refused_at-requires-in-Err : goal.refused_at-requires-in-Err
refused_at-requires-in-Err c =
    let s = telling c.args.script.now c.args.rules.now in
    let entries = c.args.entries.items in
    let refused = c.in-Err.refused in
    let at = refused_of_front s entries c.args.place c.requires.place c.truncate.new.self.items c.truncate.ensures.items c.in_ok-_judging.field-0
    c.in_ok-_judging.ensures refused c.in-Err.is in
    let within = refused_within s (length entries) entries refused.place refused.reason at.refused in
    let lines = c.requires.lines.0 in
    omega (arith, within, lines)

pub returns-in-Ok : goal.returns-in-Ok
returns-in-Ok c tail =
    let s = telling c.args.script.now c.args.rules.now in
    c.refused_at.ensures s c.args.entries.items tail c.requires.lines
    (refused_behind_front s c.args.entries.items c.args.place c.requires.place c.truncate.new.self.items c.truncate.ensures.items
    c.in_ok-_judging.field-0 c.in_ok-_judging.ensures c.in-Ok._judging c.in-Ok.is)

pub returns-in-Err : goal.returns-in-Err
returns-in-Err c tail =
    let s = telling c.args.script.now c.args.rules.now in
    c.refused_at-in-Err.ensures s c.args.entries.items tail c.requires.lines
    (refused_of_front s c.args.entries.items c.args.place c.requires.place c.truncate.new.self.items c.truncate.ensures.items
    c.in_ok-_judging.field-0 c.in_ok-_judging.ensures c.in-Err.refused c.in-Err.is)
