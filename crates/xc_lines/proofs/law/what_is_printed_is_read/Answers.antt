use Rattle.xc_lines.proofs.CallLaws.{call_again}
use Rattle.xc_lines.proofs.HeadLaws.{head_again}
use Rattle.xc_lines.proofs.ReplyLaws.{reply_again, late_end_again}
use Rattle.xc_lines.proofs.TailLaws.{job_end_again, item_again}
use Rattle.xc_lines.proofs.law.what_is_printed_is_read.Goals as goal

pub returns-clause-call : goal.returns-clause-call
returns-clause-call c = call_again

pub returns-clause-reply : goal.returns-clause-reply
returns-clause-reply c = reply_again

pub returns-clause-late : goal.returns-clause-late
returns-clause-late c = late_end_again

pub returns-clause-head : goal.returns-clause-head
returns-clause-head c = head_again

pub returns-clause-kept : goal.returns-clause-kept
returns-clause-kept c = item_again

pub returns-clause-job : goal.returns-clause-job
returns-clause-job c = job_end_again
