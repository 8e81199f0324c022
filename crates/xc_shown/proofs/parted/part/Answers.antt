use Rattle.xc_shown.proofs.Parts.{parts_of_all, parts_bare, parts_replied, parts_plain, parts_tail, only_parts}
use Rattle.xc_shown.proofs.parted.part.Goals as goal

pub returns-clause-parts : goal.returns-clause-parts
returns-clause-parts c =
    (parts_of_all c.args.lines c.in_ok-all.all c.into_items-entries.result c.into_items-tail.result c.requires.placed c.requires.some c.in_ok-all.ensures
    c.into_items-entries.ensures c.into_items-tail.ensures).joined

pub returns-clause-bare : goal.returns-clause-bare
returns-clause-bare c =
    parts_bare c.args.lines c.into_items-entries.result c.into_items-tail.result
    (parts_of_all c.args.lines c.in_ok-all.all c.into_items-entries.result c.into_items-tail.result c.requires.placed c.requires.some c.in_ok-all.ensures
    c.into_items-entries.ensures c.into_items-tail.ensures)

pub returns-clause-replied : goal.returns-clause-replied
returns-clause-replied c =
    parts_replied c.args.lines c.into_items-entries.result c.into_items-tail.result
    (parts_of_all c.args.lines c.in_ok-all.all c.into_items-entries.result c.into_items-tail.result c.requires.placed c.requires.some c.in_ok-all.ensures
    c.into_items-entries.ensures c.into_items-tail.ensures)

pub returns-clause-plain : goal.returns-clause-plain
returns-clause-plain c =
    parts_plain c.args.lines c.into_items-entries.result c.into_items-tail.result
    (parts_of_all c.args.lines c.in_ok-all.all c.into_items-entries.result c.into_items-tail.result c.requires.placed c.requires.some c.in_ok-all.ensures
    c.into_items-entries.ensures c.into_items-tail.ensures)

pub returns-clause-tail : goal.returns-clause-tail
returns-clause-tail c =
    parts_tail c.args.lines c.into_items-entries.result c.into_items-tail.result
    (parts_of_all c.args.lines c.in_ok-all.all c.into_items-entries.result c.into_items-tail.result c.requires.placed c.requires.some c.in_ok-all.ensures
    c.into_items-entries.ensures c.into_items-tail.ensures)

pub returns-clause-only : goal.returns-clause-only
returns-clause-only c =
    only_parts c.args.lines c.in_ok-all.all c.into_items-entries.result c.into_items-tail.result c.in_ok-all.ensures c.into_items-entries.ensures
    c.into_items-tail.ensures
