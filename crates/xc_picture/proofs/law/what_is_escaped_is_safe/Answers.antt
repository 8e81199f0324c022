use Rattle.xc_picture.proofs.EscapeLaws.{all_are_safe, byte_is_escape}
use Rattle.xc_picture.proofs.law.what_is_escaped_is_safe.Goals as goal

pub returns-clause-safe : goal.returns-clause-safe
returns-clause-safe c = all_are_safe

pub returns-clause-each : goal.returns-clause-each
returns-clause-each c = byte_is_escape
