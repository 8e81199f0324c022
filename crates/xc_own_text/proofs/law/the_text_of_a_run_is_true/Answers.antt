use Rattle.xc_own_text.proofs.OwnTexts.{own_text}
use Rattle.xc_own_text.proofs.law.the_text_of_a_run_is_true.Goals as goal

pub returns : goal.returns
returns c at bytes rules host end told run script parsed = own_text c.H.Host.model rules host end told run.1 bytes script run.0 parsed
