use Rattle.std.proofs.Common.{List, subst, sym}
use Rattle.std.proofs.lemmas.List.Elements.{length_all_zip}
use Rattle.xc_poll.specs.Alls.{ArePolled, IsPolledOnce}
use Rattle.xc_poll.specs.Crews.{IsCrewSound}
use Rattle.xc_poll.specs.Tasks.{Task, known_of}
use Rattle.xc_poll.proofs.Parts.{put_back}
use Rattle.xc_poll.proofs.Sound.{sound_polled}
use Rattle.xc_poll.proofs.crew.Crew.poll_tasks.Goals as goal

pub invariant_of-self : goal.invariant_of-self
invariant_of-self g c =
    let i = c.self.inside in
    let home = i.shop.now.table.shared.table_id in
    let polled : ArePolled i.tasks.items c.poll_each.new.tasks =
    subst (λ (ts : List Task). ArePolled ts c.poll_each.new.tasks) c.as_mut_slice.ensures.value c.poll_each.ensures.polled in (
      c.self.invariant.0,
      subst (λ (ts : List Task). IsCrewSound (record { home = home; asking = known_of i.asking; tasks = ts; top = i.top; share = i.share }))
          (sym (put_back c.poll_each.new.tasks i.tasks.items i.tasks.len
          (sym (length_all_zip IsPolledOnce i.tasks.items c.poll_each.new.tasks polled)) i.tasks.ok.0))
          (sound_polled home (known_of i.asking) i.tasks.items c.poll_each.new.tasks i.top i.share c.self.invariant.1 polled),
    )
