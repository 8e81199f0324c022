use Rattle.std.proofs.Common.{◌≡◌, true, refl}
use Rattle.xc_data.specs.declared.call.Call.TheVariants.{XRename}
use Rattle.xc_world.specs.Replies.{may_reply}
use Rattle.xc_world.specs.Trail.{rename_record}
use Rattle.xc_world.proofs.Laws.{rename_of}
use Rattle.xc_calls.specs.Calls.{ActsAsPlain, IsMePassed, IsPassedReply}
use Rattle.xc_file.specs.Naming.{Renames}
use Rattle.xc_calls.proofs.Laws.{call_view_at, passed_call, told_grow, ok_more, always_err}
use Rattle.xc_file.proofs.NameCalls.{rename_acts, rename_me}
use Rattle.xc_file.proofs.renaming.x_rename.Goals as goal

pub returns-clause-call : goal.returns-clause-call
returns-clause-call g c =
    let model = g.H.Host.model in
    let from = c.args.from.now in
    let to = c.args.to.now in
    let was = model.contents c.args.host.now in
    let is = model.contents c.rename.new.host in
    let did = c.rename.ensures.rename in
    let result = c.rename.result in
    λ number me. passed_call model (XRename from to) (record { host = c.args.host.now; number = number; me = me; undo = c.args.undo.now })
    (record { host = c.rename.new.host; number = number; me = me; undo = c.rename.new.undo }) result refl
    (record {
      reply = ok_more (IsPassedReply (XRename from to)) (λ r. may_reply (XRename from to) r ≡ true) result (λ r p. p.0) did.reply;
      uses = c.rename.ensures.uses;
      after = ok_more (IsPassedReply (XRename from to)) (IsMePassed number (XRename from to) me me) result (λ r p. rename_me number me from to r p.1)
          did.reply;
      acts = λ t. ok_more (Renames was is from to) (ActsAsPlain (XRename from to) (call_view_at was number me) (call_view_at is number me)) result
          (rename_acts was is number me from to) (did.told t);
      err = always_err _ result refl;
      cause = did.cause;
    })
    (told_grow model (XRename from to) (rename_record from to) _ _ result c.requires.none (rename_of from to) (λ r w. refl) did.records)
    did.err
