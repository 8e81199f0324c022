use Rattle.std.proofs.Common.{◌≡◌, List, [], ◌∷◌, ◌++◌, ap, arith, inl, length, refl, subst, sym, ◌∙◌}
use Rattle.xc_station.specs.Passes.{StationPass}
use Rattle.xc_poll.specs.Askings.{PartsMost, TakesIn, TakesInOrLeaves, task_for}
use Rattle.xc_poll.specs.Crews.{Crew, IsCrewSound}
use Rattle.xc_poll.specs.Tasks.{Task, known_of}
use Rattle.xc_poll.proofs.Parts.{tasks_length, put_back}
use Rattle.xc_poll.proofs.Sound.{takes_in}
use Rattle.xc_poll.proofs.crew.Crew.take_in.Given as given
use Rattle.xc_poll.proofs.crew.Crew.take_in.Goals as goal

-- the crew before
abbrev old_crew : (g : given.Over) → goal.After-self-3-1 g → Crew
old_crew g c =
    let i = c.self.inside in
    record { home = i.shop.now.table.shared.table_id; asking = known_of i.asking; tasks = i.tasks.items; top = i.top; share = i.share }

-- and behind the taking in
abbrev new_crew : (g : given.Over) → goal.After-self-3-1 g → Crew
new_crew g c =
    let i = c.self.inside in
    record {
      home = i.shop.now.table.shared.table_id;
      asking = c.part_most-given.new.asking;
      tasks = c.push_reserved.new.self.items;
      top = c.args.job;
      share = i.share;
    }

-- half of a pass was given away
parts : (g : given.Over) (c : goal.After-self-3-1 g)
    → PartsMost (known_of c.self.inside.asking) c.part_most-given.new.asking c.self.inside.tasks.items c.part_most-given.new.tasks c.in-Some-given.given
parts g c =
    let left = c.part_most-given.new.asking in
    let rest = c.part_most-given.new.tasks in
    subst (λ (k : StationPass). PartsMost k left c.self.inside.tasks.items rest c.in-Some-given.given) (sym (ap known_of c.in-Some.is))
    (subst (λ (ts : List Task). PartsMost c.in-Some.asking left ts rest c.in-Some-given.given) (c.as_mut_slice.ensures.value ∙ c.reserve.ensures.items)
    c.in-Some-given.ensures.1)

-- and the new task stands behind the others
pushed : (g : given.Over) (c : goal.After-self-3-1 g)
    → c.push_reserved.new.self.items ≡ c.part_most-given.new.tasks ++ task_for c.args.job c.self.inside.share c.in-Some-given.given ∷ []
pushed g c =
    let rest = c.part_most-given.new.tasks in
    let room = c.reserve.new.self in
    let long = tasks_length _ _ _ rest _ (parts g c) ∙ sym (ap (λ (ts : List Task). length ts) c.reserve.ensures.items) in
    c.push_reserved.ensures.items ∙ (ap (λ (ts : List Task). ts ++ c.new.result ∷ []) (put_back rest room.items room.len long room.ok.0)
    ∙ ap (λ (t : Task). rest ++ t ∷ []) c.new.ensures)

taken : (g : given.Over) (c : goal.After-self-3-1 g) → TakesIn (old_crew g c) (new_crew g c) c.args.job × IsCrewSound (new_crew g c)
taken g c =
    let i = c.self.inside in
    takes_in i.shop.now.table.shared.table_id (known_of i.asking) c.part_most-given.new.asking c.in-Some-given.given i.tasks.items
    c.part_most-given.new.tasks c.push_reserved.new.self.items i.top i.share c.args.job c.self.invariant.1 (omega (arith, c.if-job-self.false))
    (c.in-Some-given.ensures.0 ∙ ap (λ (k : StationPass). k.table) (sym (ap known_of c.in-Some.is))) (parts g c) (pushed g c)

pub invariant_of-self-2 : goal.invariant_of-self-2
invariant_of-self-2 g c = (refl, (taken g c).1)

pub returns : goal.returns
returns g c = subst (λ (crew : Crew). TakesInOrLeaves crew (new_crew g c) c.args.job) c.self.view_is (inl (taken g c).0)
