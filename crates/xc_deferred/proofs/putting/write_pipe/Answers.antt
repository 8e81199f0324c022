use Rattle.std.proofs.Common.{◌+◌, ◌-◌, length, refl, ap, sym, ◌∙◌, subst, arith}
use Rattle.xc_data.specs.Counts.{CountsFault}
use Rattle.xc_data.specs.Faults.{is_fault_end}
use Rattle.xc_data.specs.declared.call.LateCall.TheVariants.{WritePipe}
use Rattle.xc_data.specs.declared.call.LateEnd.TheVariants.{Fault, Shut}
use Rattle.xc_buffers.specs.Items.{kept_bytes}
use Rattle.xc_host.specs.Contents.{Contents}
use Rattle.xc_host.specs.Kept.{KeepsData}
use Rattle.xc_host.specs.Pipes.{pipe_in}
use Rattle.xc_host.specs.declared.pipes.HostState.{HostState}
use Rattle.xc_deferred.specs.Puts.{Writes}
use Rattle.xc_deferred.proofs.Lifted.{nothing_done, shut_written, uses_fronted, writes_does}
use Rattle.xc_deferred.proofs.PipePuts.{keeps_written, look_uses, write_uses}
use Rattle.xc_deferred.proofs.putting.write_pipe.Goals as goal

pub returns-in-Err-clause-ends : goal.returns-in-Err-clause-ends
returns-in-Err-clause-ends g c =
    let model = g.H.Host.model in
    let items = c.args.kept.now.items in
    let did = c.in-Err.ensures.answered in
    record {
      cause = did.cause;
      uses = uses_fronted model items c.args.host.now c.pipe_state.new.self
          (look_uses model c.args.pipe c.args.bytes.now (Fault 0) c.args.host.now c.pipe_state.new.self (omega arith) did.used);
      does = λ t. nothing_done (model.contents c.args.host.now) (model.contents c.pipe_state.new.self) (WritePipe c.args.pipe c.args.bytes.now) items
          (Fault 0) (did.refused t) (λ x. refl) (λ x. refl);
    }

pub returns-then-state-clause-ends : goal.returns-then-state-clause-ends
returns-then-state-clause-ends g c =
    let model = g.H.Host.model in
    let items = c.args.kept.now.items in
    let did = c.in-Ok.ensures.answered in
    record {
      cause = did.cause;
      uses = uses_fronted model items c.args.host.now c.pipe_state.new.self
          (look_uses model c.args.pipe c.args.bytes.now Shut c.args.host.now c.pipe_state.new.self refl did.used);
      does = λ t. shut_written (model.contents c.args.host.now) (model.contents c.pipe_state.new.self) c.args.pipe c.args.bytes.now items (did.done t)
          (sym (ap (λ (s : HostState). s.shut) (c.in-Ok.ensures.value t)) ∙ c.if-state.true);
    }

pub put_fitting-requires-clause-fits : goal.put_fitting-requires-clause-fits
put_fitting-requires-clause-fits g c = λ t some.
    let model = g.H.Host.model in
    let size = ap (λ (s : HostState). s.held) (c.in-Ok.ensures.value t) in
    let same = ap (λ (d : Contents). length (pipe_in d c.args.pipe).held) (c.in-Ok.ensures.answered.done t) in
    omega (arith, size, same, some, c.room_behind-room.ensures)

pub returns-clause-ends : goal.returns-clause-ends
returns-clause-ends g c =
    let model = g.H.Host.model in
    let items = c.args.kept.now.items in
    let a = c.args.host.now in
    let b = c.pipe_state.new.self in
    let d = c.put_fitting.new.host in
    let state = c.in-Ok.ensures in
    let end = c.put_fitting.result in
    let room = c.room_behind-room.result in
    record {
      cause = subst (λ n. CountsFault (is_fault_end end) n (model.fault_count d)) state.answered.cause c.put_fitting.ensures.cause;
      uses = uses_fronted model items a d (write_uses model c.args.pipe c.args.bytes.now end a b d state.answered.used c.put_fitting.ensures.uses);
      does = λ t.
          let size = ap (λ (s : HostState). s.held) (state.value t) in
          writes_does (model.contents a) (model.contents d) c.args.pipe c.args.bytes.now items room (c.requires.there t)
          (sym (ap (λ (s : HostState). s.shut) (state.value t)) ∙ c.if-state.false)
          (c.room_behind-room.ensures ∙ ap (λ n. 4096 - (length (kept_bytes c.args.pipe items) + n)) size) end
          (subst (λ (x : Contents). Writes (record { old = x; new = model.contents d }) c.args.pipe c.args.bytes.now room end) (state.answered.done t)
          (c.put_fitting.ensures.told t));
    }

pub returns-clause-keeps : goal.returns-clause-keeps
returns-clause-keeps g c t =
    let model = g.H.Host.model in
    subst (λ (x : Contents). KeepsData x (model.contents c.put_fitting.new.host)) (c.in-Ok.ensures.answered.done t)
    (keeps_written (record { old = model.contents c.pipe_state.new.self; new = model.contents c.put_fitting.new.host }) c.args.pipe c.args.bytes.now
    c.room_behind-room.result c.put_fitting.result (c.put_fitting.ensures.told t))
