use Rattle.std.proofs.Common.{◌≡◌, ◌+◌, ◌-◌, ◌++◌, [], Ok, length, IsTrue, List, ℕ, refl, ap, sym, ◌∙◌, subst, arith, length-append}
use Rattle.xc_buffers.specs.Items.{kept_bytes}
use Rattle.xc_data.specs.Step.{Step}
use Rattle.xc_data.specs.declared.entry.KeptItem.{KeptItem}
use Rattle.xc_buffers.specs.Views.{KeptView}
use Rattle.xc_host.specs.Pipes.{IsSomeOf, IsTakenOf, after_take, pipe_in}
use Rattle.xc_host.specs.Uses.{Uses}
use Rattle.xc_host.specs.declared.errors.HostErr.TheVariants.{NoMemory}
use Rattle.xc_host.specs.declared.pipes.Took.{Took}
use Rattle.xc_host.specs.declared.pipes.Took.TheVariants.{Empty, End}
use Rattle.xc_host.specs.declared.pipes.Took.TheVariants as took
use Rattle.xc_world.specs.Run.{given_back}
use Rattle.xc_pipe.specs.Reading.{GivesSameWorld, TakesUntil}
use Rattle.xc_calls.specs.Taking.{bytes_back}
use Rattle.xc_pipe.specs.Taking.{TakesAfter}
use Rattle.xc_host.proofs.Laws.{keeps_then}
use Rattle.xc_calls.proofs.Laws.{keeps_same}
use Rattle.xc_pipe.proofs.KeptData.{keeps_take}
use Rattle.xc_pipe.proofs.Takings.{fails_back, rest_joined, taken_there}
use Rattle.xc_pipe.proofs.TakeRuns.{takes_end, takes_fail, takes_more}
use Rattle.xc_pipe.proofs.Behind.{Extends, back_after, found_after, extends_further}
use Rattle.xc_pipe.proofs.reading.take_rest.Goals as goal

pub returns-in-Err-join-clause-err : goal.returns-in-Err-join-clause-err
returns-in-Err-join-clause-err g c =
    let model = g.H.Host.model in
    let was = c.loop-alloc.invariant in
    let pipe = c.args.pipe in
    let front = c.loop-alloc.front in
    let more = c.in-Ok-Bytes.more in
    let items = c.args.kept.now.items in
    let old = model.contents c.args.host.now in
    let here = model.contents c.loop-alloc.host in
    let next = model.contents c.take.new.self in
    let some = subst (IsSomeOf (c.args.n - c.len-in-loop-alloc.result)) c.in-Ok-Bytes.field-0-is c.in-Ok-Bytes.ensures.bound in
    let none : kept_bytes pipe items ≡ [] = c.requires.left (omega (arith, was.least, c.loop-alloc-test.true, c.len.ensures.value)) in
    λ t.
    let is = subst (IsTakenOf (pipe_in here pipe)) c.in-Ok-Bytes.field-0-is (c.in-Ok-Bytes.ensures.value t) in
    let did = c.in-Ok-Bytes.ensures.answered.done t ∙ ap (λ (o : Took). after_take pipe o here) c.in-Ok-Bytes.field-0-is in
    let leads = rest_joined pipe c.args.kept_front front more old here next items items (was.leads t) (was.there t) none some.0 is did in
    fails_back pipe c.args.kept_front (front ++ more) old next next items items c.join.new.kept.items leads refl
    (λ w. c.in-Err-join.ensures.err w ∙ ap (λ (k : KeptView). given_back (given_back w k.items) (bytes_back pipe (front ++ more))) was.same)

pub returns-in-Err-join-clause-uses : goal.returns-in-Err-join-clause-uses
returns-in-Err-join-clause-uses g c =
    takes_fail g.H.Host.model c.args.n (length c.args.kept_front) (length c.loop-alloc.front) NoMemory c.args.host.now c.loop-alloc.host c.take.new.self
    (omega (arith, c.loop-alloc-test.true, c.len.ensures.value)) c.loop-alloc.invariant.uses c.in-Ok-Bytes.ensures.answered.used

pub loop-alloc-preserved : goal.loop-alloc-preserved
loop-alloc-preserved g c =
    let model = g.H.Host.model in
    let was = c.loop-alloc.invariant in
    let pipe = c.args.pipe in
    let front = c.loop-alloc.front in
    let more = c.in-Ok-Bytes.more in
    let items = c.args.kept.now.items in
    let old = model.contents c.args.host.now in
    let here = model.contents c.loop-alloc.host in
    let next = model.contents c.take.new.self in
    let some = subst (IsSomeOf (c.args.n - c.len-in-loop-alloc.result)) c.in-Ok-Bytes.field-0-is c.in-Ok-Bytes.ensures.bound in
    let none : kept_bytes pipe items ≡ [] = c.requires.left (omega (arith, was.least, c.loop-alloc-test.true, c.len.ensures.value)) in
    let size : length c.in-Ok.all ≡ length front + length more = ap (λ (bytes : List ℕ). length bytes) c.in-Ok.ensures.all ∙ length-append front more in
    let did : (t : IsTrue model.tells) → next ≡ after_take pipe (took.Bytes more) here = λ t.
    c.in-Ok-Bytes.ensures.answered.done t ∙ ap (λ (o : Took). after_take pipe o here) c.in-Ok-Bytes.field-0-is in
    record {
      most = omega (arith, size, some.1, c.len-in-loop-alloc.ensures.value, was.most);
      least = omega (arith, size, was.least);
      goes = subst (Extends c.args.kept_front) (sym c.in-Ok.ensures.all) (extends_further c.args.kept_front front more was.goes);
      same = c.in-Ok.ensures.kept ∙ was.same;
      there = λ t. taken_there here next pipe (length more) (did t);
      leads = λ t.
          let is = subst (IsTakenOf (pipe_in here pipe)) c.in-Ok-Bytes.field-0-is (c.in-Ok-Bytes.ensures.value t) in
          subst (λ (bytes : List ℕ). GivesSameWorld pipe c.args.kept_front bytes (record {
            old = record { contents = old; items = items };
            new =
                record { contents = next; items = items };
          }))
          (sym c.in-Ok.ensures.all)
          (rest_joined pipe c.args.kept_front front more old here next items items (was.leads t) (was.there t) none some.0 is (did t));
      keeps = λ t. keeps_then old here next (was.keeps t) (keeps_take pipe (took.Bytes more) here next (did t));
      uses = takes_more model (length c.args.kept_front) (length front) (length c.in-Ok.all) c.args.host.now c.loop-alloc.host c.take.new.self
          (omega (arith, size, some.0)) was.uses c.in-Ok-Bytes.ensures.answered.used;
      faults = c.in-Ok-Bytes.ensures.answered.cause ∙ was.faults;
    }

pub returns-in-Ok-Empty-clause-uses : goal.returns-in-Ok-Empty-clause-uses
returns-in-Ok-Empty-clause-uses g c =
    subst (λ (r : Took). Uses g.H.Host.model (record { old = c.args.host.now; new = c.take.new.self }) (TakesUntil c.args.n (length c.args.kept_front) (Ok r)))
    (sym c.found.ensures)
    (takes_end g.H.Host.model c.args.n (length c.args.kept_front) c.loop-alloc.front Empty c.args.host.now c.loop-alloc.host c.take.new.self refl
    (omega (arith, c.loop-alloc-test.true, c.len.ensures.value)) c.loop-alloc.invariant.uses c.in-Ok-Empty.ensures.answered.used)

pub returns-in-Ok-End-clause-uses : goal.returns-in-Ok-End-clause-uses
returns-in-Ok-End-clause-uses g c =
    subst (λ (r : Took). Uses g.H.Host.model (record { old = c.args.host.now; new = c.take.new.self }) (TakesUntil c.args.n (length c.args.kept_front) (Ok r)))
    (sym c.found-in-Ok-End.ensures)
    (takes_end g.H.Host.model c.args.n (length c.args.kept_front) c.loop-alloc.front End c.args.host.now c.loop-alloc.host c.take.new.self refl
    (omega (arith, c.loop-alloc-test.true, c.len.ensures.value)) c.loop-alloc.invariant.uses c.in-Ok-End.ensures.answered.used)

pub returns-in-Err-clause-uses : goal.returns-in-Err-clause-uses
returns-in-Err-clause-uses g c =
    takes_fail g.H.Host.model c.args.n (length c.args.kept_front) (length c.loop-alloc.front) c.in-Err.error c.args.host.now c.loop-alloc.host c.take.new.self
    (omega (arith, c.loop-alloc-test.true, c.len.ensures.value)) c.loop-alloc.invariant.uses c.in-Err.ensures.answered.used

pub returns-in-Err-join-clause-keeps : goal.returns-in-Err-join-clause-keeps
returns-in-Err-join-clause-keeps g c =
    let model = g.H.Host.model in
    let here = model.contents c.loop-alloc.host in
    let next = model.contents c.take.new.self in
    λ t. keeps_then (model.contents c.args.host.now) here next (c.loop-alloc.invariant.keeps t)
    (keeps_take c.args.pipe _ here next (c.in-Ok-Bytes.ensures.answered.done t))

pub returns-in-Ok-Empty-clause-keeps : goal.returns-in-Ok-Empty-clause-keeps
returns-in-Ok-Empty-clause-keeps g c =
    let model = g.H.Host.model in
    let here = model.contents c.loop-alloc.host in
    let next = model.contents c.take.new.self in
    λ t. keeps_then (model.contents c.args.host.now) here next (c.loop-alloc.invariant.keeps t)
    (keeps_take c.args.pipe _ here next (c.in-Ok-Empty.ensures.answered.done t))

pub returns-in-Ok-End-clause-keeps : goal.returns-in-Ok-End-clause-keeps
returns-in-Ok-End-clause-keeps g c =
    let model = g.H.Host.model in
    let here = model.contents c.loop-alloc.host in
    let next = model.contents c.take.new.self in
    λ t. keeps_then (model.contents c.args.host.now) here next (c.loop-alloc.invariant.keeps t)
    (keeps_take c.args.pipe _ here next (c.in-Ok-End.ensures.answered.done t))

pub returns-in-Err-clause-keeps : goal.returns-in-Err-clause-keeps
returns-in-Err-clause-keeps g c =
    let model = g.H.Host.model in
    let here = model.contents c.loop-alloc.host in
    let next = model.contents c.take.new.self in
    λ t. keeps_then (model.contents c.args.host.now) here next (c.loop-alloc.invariant.keeps t)
    (keeps_same here next (c.in-Err.ensures.answered.refused t))

pub returns-in-Err-join-clause-after : goal.returns-in-Err-join-clause-after
returns-in-Err-join-clause-after g c =
    let was = c.loop-alloc.invariant in
    let front = c.loop-alloc.front in
    let more = c.in-Ok-Bytes.more in
    back_after c.args.kept.now.items c.join.new.kept.items c.args.pipe c.args.kept_front (front ++ more) NoMemory
    (extends_further c.args.kept_front front more was.goes)
    (λ w. c.in-Err-join.ensures.err w ∙ ap (λ (k : KeptView). given_back (given_back w k.items) (bytes_back c.args.pipe (front ++ more))) was.same)

pub returns-in-Ok-Empty-clause-after : goal.returns-in-Ok-Empty-clause-after
returns-in-Ok-Empty-clause-after g c =
    let kept : Step (List KeptItem) = record { old = c.args.kept.now.items; new = c.loop-alloc.kept.items } in
    subst (λ (r : Took). TakesAfter c.args.pipe c.args.kept_front kept (Ok r)) (sym c.found.ensures)
    (found_after c.args.pipe c.args.kept_front c.loop-alloc.front kept Empty c.loop-alloc.invariant.goes (λ none. none))

pub returns-in-Ok-End-clause-after : goal.returns-in-Ok-End-clause-after
returns-in-Ok-End-clause-after g c =
    let kept : Step (List KeptItem) = record { old = c.args.kept.now.items; new = c.loop-alloc.kept.items } in
    subst (λ (r : Took). TakesAfter c.args.pipe c.args.kept_front kept (Ok r)) (sym c.found-in-Ok-End.ensures)
    (found_after c.args.pipe c.args.kept_front c.loop-alloc.front kept End c.loop-alloc.invariant.goes (λ none. none))

pub returns-in-Err-clause-after : goal.returns-in-Err-clause-after
returns-in-Err-clause-after g c =
    let was = c.loop-alloc.invariant in
    back_after c.args.kept.now.items c.give_back.new.self.items c.args.pipe c.args.kept_front c.loop-alloc.front c.in-Err.error was.goes
    (λ w. c.give_back.ensures.world w ∙ ap (λ (k : KeptView). given_back (given_back w k.items) (bytes_back c.args.pipe c.loop-alloc.front)) was.same)

pub returns-clause-after : goal.returns-clause-after
returns-clause-after g c = c.loop-alloc.invariant.goes
