use Rattle.xc_asked.proofs.Beginning.{begin_inner}
use Rattle.xc_asked.proofs.script_job.walk_block.Goals as goal

pub follow-requires : goal.follow-requires
follow-requires c =
    record {
      inner = begin_inner c.args.script.now c.args.place.now c.begin.new.self c.args.place.now.variables c.requires.read c.requires.begin
          c.in_ok-begin.ensures.ok;
    }
