use Rattle.xc_text.proofs.Indexing.{job_name_more}
use Rattle.xc_text.proofs.block_names.BlockNames.push_job.Goals as goal

pub invariant_of-self-2 : goal.invariant_of-self-2
invariant_of-self-2 c =
    rw (c.in_ok-add.ensures.index, c.in_ok-add.ensures.names)
    (job_name_more c.self.inside.index c.self.inside.jobs c.self.inside.bodies c.args.name c.self.invariant)
