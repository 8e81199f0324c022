use Rattle.std.proofs.Common.{inl, inr, refl, ap, sym, ◌∙◌, subst}
use Rattle.xc_data.specs.declared.call.LateCall.TheVariants.{Send}
use Rattle.xc_data.specs.declared.call.LateEnd.TheVariants.{Done, Fault, Full, NoMemory, Shut}
use Rattle.xc_host.specs.Contents.{Contents}
use Rattle.xc_host.specs.Kept.{KeepsData}
use Rattle.xc_host.specs.Pairs.{sent_from}
use Rattle.xc_host.specs.declared.pipes.HostState.{HostState}
use Rattle.xc_host.proofs.Laws.{keeps_sent}
use Rattle.xc_deferred.proofs.Lifted.{nothing_done}
use Rattle.xc_deferred.proofs.Sends.{failed_then, full_sent, looks_and_sends, looks_only, message_sent, shut_sent, told_full}
use Rattle.xc_deferred.proofs.sending.send.Goals as goal

pub returns-in-Err-clause-ends : goal.returns-in-Err-clause-ends
returns-in-Err-clause-ends g c =
    let model = g.H.Host.model in
    let items = c.args.kept.now.items in
    let a = c.args.host.now in
    let b = c.pair_state.new.self in
    let did = c.in-Err.ensures.answered in
    record {
      cause = did.cause;
      uses = looks_only model items c.args.pair c.args.side c.args.bytes.now (Fault 0) a b (inl refl) did.used;
      does = λ t. nothing_done (model.contents a) (model.contents b) (Send c.args.pair c.args.side c.args.bytes.now) items (Fault 0) (did.refused t)
          (λ x. refl) (λ x. refl);
    }

pub returns-then-state-clause-ends : goal.returns-then-state-clause-ends
returns-then-state-clause-ends g c =
    let model = g.H.Host.model in
    let items = c.args.kept.now.items in
    let a = c.args.host.now in
    let b = c.pair_state.new.self in
    let did = c.in-Ok.ensures.answered in
    record {
      cause = did.cause;
      uses = looks_only model items c.args.pair c.args.side c.args.bytes.now Shut a b refl did.used;
      does = λ t. shut_sent (model.contents a) (model.contents b) c.args.pair c.args.side c.args.bytes.now items (did.done t)
          (sym (ap (λ (s : HostState). s.shut) (c.in-Ok.ensures.value t)) ∙ c.if-state.true);
    }

pub returns-then-is_full-clause-ends : goal.returns-then-is_full-clause-ends
returns-then-is_full-clause-ends g c =
    let model = g.H.Host.model in
    let items = c.args.kept.now.items in
    let a = c.args.host.now in
    let b = c.pair_state.new.self in
    let did = c.in-Ok.ensures.answered in
    record {
      cause = did.cause;
      uses = looks_only model items c.args.pair c.args.side c.args.bytes.now (Full 0) a b refl did.used;
      does = λ t.
          full_sent (model.contents a) (model.contents b) c.args.pair c.args.side c.args.bytes.now items c.is_full.ensures.kept.fit
          (sym (ap (λ (s : HostState). s.shut) (c.in-Ok.ensures.value t)) ∙ c.if-state.false) (did.done t)
          (told_full (model.contents a) c.args.pair c.args.side c.side_across-receiver.result items c.in-Ok.state c.is_full.result _
          c.side_across-receiver.ensures (c.in-Ok.ensures.value t) c.is_full.ensures.value c.if-is_full.true);
    }

pub returns-in-Ok-send-clause-ends : goal.returns-in-Ok-send-clause-ends
returns-in-Ok-send-clause-ends g c =
    let model = g.H.Host.model in
    let items = c.args.kept.now.items in
    let a = c.args.host.now in
    let b = c.pair_state.new.self in
    let d = c.send.new.self in
    let looked = c.in-Ok.ensures.answered in
    let did = c.in-Ok-send.ensures.answered in
    record {
      cause = did.cause ∙ looked.cause;
      uses = looks_and_sends model items c.args.pair c.args.side c.args.bytes.now Done a b d refl looked.used did.used;
      does = λ t.
          message_sent (model.contents a) (model.contents d) c.args.pair c.args.side c.args.bytes.now items c.is_full.ensures.kept.fit
          (sym (ap (λ (s : HostState). s.shut) (c.in-Ok.ensures.value t)) ∙ c.if-state.false)
          (did.done t ∙ ap (λ (x : Contents). sent_from x c.args.pair c.args.side c.as_slice.result.now) (looked.done t)
          ∙ ap (λ bytes. sent_from (model.contents a) c.args.pair c.args.side bytes) c.as_slice.ensures)
          (told_full (model.contents a) c.args.pair c.args.side c.side_across-receiver.result items c.in-Ok.state c.is_full.result _
          c.side_across-receiver.ensures (c.in-Ok.ensures.value t) c.is_full.ensures.value c.if-is_full.false);
    }

pub returns-in-Ok-send-clause-keeps : goal.returns-in-Ok-send-clause-keeps
returns-in-Ok-send-clause-keeps g c t =
    let model = g.H.Host.model in
    let was = model.contents c.args.host.now in
    subst (KeepsData was)
    (sym (c.in-Ok-send.ensures.answered.done t
    ∙ ap (λ (x : Contents). sent_from x c.args.pair c.args.side c.as_slice.result.now) (c.in-Ok.ensures.answered.done t)))
    (keeps_sent was c.args.pair c.args.side c.as_slice.result.now)

pub returns-in-Err-Fault-clause-ends : goal.returns-in-Err-Fault-clause-ends
returns-in-Err-Fault-clause-ends g c =
    let model = g.H.Host.model in
    let items = c.args.kept.now.items in
    let a = c.args.host.now in
    let b = c.pair_state.new.self in
    let d = c.send.new.self in
    let looked = c.in-Ok.ensures.answered in
    let did = c.in-Err-Fault.ensures.answered in
    record {
      cause = failed_then c.in-Err-Fault.field-0 _ (model.fault_count a) (model.fault_count b) (model.fault_count d) c.in-Err-Fault.field-0-is
          looked.cause did.cause;
      uses = looks_and_sends model items c.args.pair c.args.side c.args.bytes.now (Fault 0) a b d (inr refl) looked.used did.used;
      does = λ t. nothing_done (model.contents a) (model.contents d) (Send c.args.pair c.args.side c.args.bytes.now) items (Fault 0)
          (did.refused t ∙ looked.done t) (λ x. refl) (λ x. refl);
    }

pub returns-in-Err-NoMemory-clause-ends : goal.returns-in-Err-NoMemory-clause-ends
returns-in-Err-NoMemory-clause-ends g c =
    let model = g.H.Host.model in
    let items = c.args.kept.now.items in
    let a = c.args.host.now in
    let b = c.pair_state.new.self in
    let d = c.send.new.self in
    let looked = c.in-Ok.ensures.answered in
    let did = c.in-Err-NoMemory.ensures.answered in
    record {
      cause = failed_then c.in-Err-NoMemory.field-0 _ (model.fault_count a) (model.fault_count b) (model.fault_count d) c.in-Err-NoMemory.field-0-is
          looked.cause did.cause;
      uses = looks_and_sends model items c.args.pair c.args.side c.args.bytes.now (NoMemory 0) a b d refl looked.used did.used;
      does = λ t. nothing_done (model.contents a) (model.contents d) (Send c.args.pair c.args.side c.args.bytes.now) items (NoMemory 0)
          (did.refused t ∙ looked.done t) (λ x. refl) (λ x. refl);
    }
