use Rattle.std.proofs.Common.{◌+◌, ◌≤◌, length, ap, sym, ◌∙◌, subst}
use Rattle.xc_data.specs.declared.call.Call.TheVariants.{XWriteSeq}
use Rattle.xc_data.specs.declared.call.Reply.{Reply}
use Rattle.xc_data.specs.declared.private.Place.TheVariants.{File}
use Rattle.xc_world.specs.Trail.{append_record, done_of}
use Rattle.xc_host.specs.Contents.{world_of}
use Rattle.xc_file.specs.Checks.{file_refusal_at}
use Rattle.xc_calls.proofs.Laws.{refused_call}
use Rattle.xc_file.proofs.FileCalls.{some_grow, at_handle}
use Rattle.xc_file.proofs.Refusals.{refused_append}
use Rattle.xc_file.proofs.AppendCalls.{append_call}
use Rattle.xc_file.proofs.appending.x_write_seq.Goals as goal

pub returns-in-Err-clause-call : goal.returns-in-Err-clause-call
returns-in-Err-clause-call g c =
    let refused = ap (file_refusal_at c.args.me.now c.args.h) (sym c.len.ensures.value) ∙ c.in-Err.ensures.checks in
    λ number. refused_call g.H.Host.model _ (record { host = c.args.host.now; number = number; me = c.args.me.now; undo = c.args.undo.now }) _ refused
    (refused_append c.args.me.now c.args.h c.args.bytes.now _ refused)

pub returns-clause-call : goal.returns-clause-call
returns-clause-call g c =
    let free = ap (file_refusal_at c.args.me.now c.args.h) (sym c.len.ensures.value) ∙ c.in-Ok.ensures.checks in
    let next = c.append_next.ensures in
    let open_at = c.in-Ok.ensures.open in
    let few = subst (λ n. (n ≤ 1024) × (c.args.me.now.stored + n ≤ 16384)) c.len.ensures.value c.in-Ok.ensures.few in
    let file = c.in-Ok.file in
    let size = length c.args.bytes.now in
    let w = world_of (g.H.Host.model.contents c.args.host.now) in
    let made = λ (r : Reply). append_record w c.args.bytes.now (done_of size r) (File file.num file.at) in
    let call = XWriteSeq file.h c.args.bytes.now in
    λ number. at_handle g.H.Host.model (λ h. XWriteSeq h c.args.bytes.now) _ _
    (record { host = c.args.host.now; number = number; me = c.args.me.now; undo = c.args.undo.now }) _ _ open_at.0 free
    (λ passes. append_call g.H.Host.model file.h c.args.bytes.now file.num file.at _ _ c.append_next.result passes few
    open_at.1.place c.requires.none (next.passes number)
    (some_grow g.H.Host.model call made _ _ c.append_next.result next.leaves.records
    (λ r v. ap (append_record w c.args.bytes.now (done_of size r)) (sym open_at.1.place)))
    next.leaves.stops next.some)
