use Rattle.std.proofs.Common.{ap, sym, ◌∙◌, length}
use Rattle.xc_data.specs.declared.call.Call.TheVariants.{XWriteOvr}
use Rattle.xc_data.specs.declared.call.Reply.{Reply}
use Rattle.xc_data.specs.declared.private.Place.TheVariants.{File}
use Rattle.xc_world.specs.Trail.{overwrite_record, done_of}
use Rattle.xc_host.specs.Contents.{world_of}
use Rattle.xc_file.specs.Checks.{file_refusal_at}
use Rattle.xc_calls.proofs.Laws.{refused_call, passed_call}
use Rattle.xc_file.proofs.FileCalls.{some_grow, at_handle}
use Rattle.xc_file.proofs.Refusals.{refused_overwrite}
use Rattle.xc_file.proofs.overwriting.x_write_ovr.Goals as goal

pub returns-in-Err-clause-call : goal.returns-in-Err-clause-call
returns-in-Err-clause-call g c =
    let refused = ap (file_refusal_at c.args.me.now c.args.h) (sym c.len.ensures.value) ∙ c.in-Err.ensures.checks in
    λ number. refused_call g.H.Host.model _ (record { host = c.args.host.now; number = number; me = c.args.me.now; undo = c.args.undo.now }) _ refused
    (refused_overwrite c.args.me.now c.args.h c.args.bytes.now _ refused)

pub returns-clause-call : goal.returns-clause-call
returns-clause-call g c =
    let free = ap (file_refusal_at c.args.me.now c.args.h) (sym c.len.ensures.value) ∙ c.in-Ok.ensures.checks in
    let next = c.write_next.ensures in
    let w = world_of (g.H.Host.model.contents c.args.host.now) in
    let file = c.in-Ok.file in
    let made = λ (r : Reply). overwrite_record w c.args.bytes.now (done_of (length c.args.bytes.now) r) (File file.num file.at) in
    let size = length c.args.bytes.now in
    let there = c.in-Ok.ensures.open.1.place in
    let result = c.write_next.result in
    let call = XWriteOvr file.h c.args.bytes.now in
    λ number. at_handle g.H.Host.model (λ h. XWriteOvr h c.args.bytes.now) _ _
    (record { host = c.args.host.now; number = number; me = c.args.me.now; undo = c.args.undo.now }) _ _ c.in-Ok.ensures.open.0 free
    (λ passes. passed_call g.H.Host.model call _ _ result passes
    (next.passes number)
    (some_grow g.H.Host.model call made _ _ result next.leaves.records
    (λ r v. ap (overwrite_record w c.args.bytes.now (done_of size r)) (sym there)))
    next.leaves.err)
