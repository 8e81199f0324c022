use Rattle.std.proofs.Common.{rules}
use Rattle.xc_text.proofs.Keeping.{parsed, parsed_blocks, in_limits}
use Rattle.xc_text.proofs.parser.parse.Goals as goal

pub returns-clause-script : goal.returns-clause-script
returns-clause-script c = parsed c.args.text.now c.in_ok-script.script (search rules)

pub returns-clause-limits : goal.returns-clause-limits
returns-clause-limits c = in_limits c.in_ok-script.script (parsed c.args.text.now c.in_ok-script.script (search rules))

pub returns-clause-blocks : goal.returns-clause-blocks
returns-clause-blocks c = parsed_blocks c.args.text.now c.in_ok-script.script (search rules)
