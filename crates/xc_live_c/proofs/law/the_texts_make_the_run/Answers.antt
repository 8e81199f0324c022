use Rattle.xc_live_c.proofs.Lasts.{texts_more, texts_whole, totals_more}
use Rattle.xc_live_c.proofs.law.the_texts_make_the_run.Goals as goal

pub returns-clause-more : goal.returns-clause-more
returns-clause-more c one other = texts_more one other

pub returns-clause-counted : goal.returns-clause-counted
returns-clause-counted c one other = totals_more one other

pub returns-clause-whole : goal.returns-clause-whole
returns-clause-whole c gone end = texts_whole gone end
