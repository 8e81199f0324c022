use Rattle.xc_alike.proofs.LeadingAlike.{course_alike, part_alike, jobs_alike, asked_alike}
use Rattle.xc_alike.proofs.law.entries_shown_alike_lead_alike.Goals as goal

pub returns-clause-course : goal.returns-clause-course
returns-clause-course c = course_alike

pub returns-clause-part : goal.returns-clause-part
returns-clause-part c = part_alike

pub returns-clause-jobs : goal.returns-clause-jobs
returns-clause-jobs c = jobs_alike

pub returns-clause-asked : goal.returns-clause-asked
returns-clause-asked c = asked_alike
