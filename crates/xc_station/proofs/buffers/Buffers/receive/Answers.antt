use Rattle.std.proofs.Common.{◌≡◌, List, [], Ok, Err, refl, ap, sym, ◌∙◌, subst}
use Rattle.std.specs.Prelude.{All}
use Rattle.xc_buffers.specs.Items.{AreKept}
use Rattle.xc_compensate.specs.Records.{Records}
use Rattle.xc_data.specs.declared.call.Call.TheVariants.{XRecvmsg}
use Rattle.xc_data.specs.declared.entry.KeptItem.{KeptItem}
use Rattle.xc_calls.specs.Calls.{IsHostCall}
use Rattle.xc_calls.proofs.Laws.{always_err}
use Rattle.xc_host.specs.Fronted.{before, fronted}
use Rattle.xc_calls.specs.Taking.{HasTaken}
use Rattle.xc_station.specs.Lent.{IsBacked, Lent}
use Rattle.xc_station.proofs.TakenAgain.{err_taken, none_taken_for}
use Rattle.xc_station.proofs.Takings.{taking_keeps, taking_stops}
use Rattle.xc_station.proofs.buffers.Buffers.receive.Goals as goal

-- no record
abbrev none : Records
none = record { pending = []; ended = [] }

pub returns-in_err-reply-clause-stops : goal.returns-in_err-reply-clause-stops
returns-in_err-reply-clause-stops g c =
    always_err _ c.from_residual-in_err-reply.result
    (taking_stops g.H.Host.model (XRecvmsg c.args.h) _ _ (Err c.in_err-reply.field-0.0) (c.in_err-reply.ensures.call 0 none))

pub returns-in_err-reply-clause-backs : goal.returns-in_err-reply-clause-backs
returns-in_err-reply-clause-backs g c =
    let model = g.H.Host.model in
    let items : c.make_room.new.kept.items ≡ c.args.self.now.kept = c.make_room.ensures.items ∙ ap (λ (l : Lent). l.kept) c.self.view_is in
    let in_order = c.x_recvmsg.ensures.in_order (subst AreKept (sym c.make_room.ensures.items) c.self.invariant.1) in
    λ t backed. taking_keeps model (XRecvmsg c.args.h)
    (record { host = before c.args.host.now c.make_room.new.kept.items; number = 0; me = c.args.me.now; undo = none })
    (record { host = before c.x_recvmsg.new.host c.x_recvmsg.new.kept.items; number = 0; me = c.x_recvmsg.new.me; undo = none })
    (Err c.in_err-reply.field-0.0) refl tt t (c.in_err-reply.ensures.err t) (c.requires.there t) c.requires.sided in_order.fit
    (subst (λ (ks : List KeptItem). All (IsBacked (model.contents c.args.host.now)) ks) (sym items) backed)

pub returns-clause-call : goal.returns-clause-call
returns-clause-call g c =
    let items : c.make_room.new.kept.items ≡ c.args.self.now.kept = c.make_room.ensures.items ∙ ap (λ (l : Lent). l.kept) c.self.view_is in
    λ number undo. subst (λ (ks : List KeptItem). IsHostCall (fronted g.H.Host.model) (XRecvmsg c.args.h)
    (record { host = before c.args.host.now ks; number = number; me = c.args.me.now; undo = undo })
    (record { host = before c.x_recvmsg.new.host c.x_recvmsg.new.kept.items; number = number; me = c.x_recvmsg.new.me; undo = undo })
    (Ok c.in_ok-reply.reply)) items (c.in_ok-reply.ensures.call number undo)

pub returns-clause-backs : goal.returns-clause-backs
returns-clause-backs g c =
    let model = g.H.Host.model in
    let items : c.make_room.new.kept.items ≡ c.args.self.now.kept = c.make_room.ensures.items ∙ ap (λ (l : Lent). l.kept) c.self.view_is in
    let in_order = c.x_recvmsg.ensures.in_order (subst AreKept (sym c.make_room.ensures.items) c.self.invariant.1) in
    λ t backed. taking_keeps model (XRecvmsg c.args.h)
    (record { host = before c.args.host.now c.make_room.new.kept.items; number = 0; me = c.args.me.now; undo = none })
    (record { host = before c.x_recvmsg.new.host c.x_recvmsg.new.kept.items; number = 0; me = c.x_recvmsg.new.me; undo = none })
    (Ok c.in_ok-reply.reply) refl (c.in_ok-reply.ensures.call 0 none) t tt (c.requires.there t) c.requires.sided in_order.fit
    (subst (λ (ks : List KeptItem). All (IsBacked (model.contents c.args.host.now)) ks) (sym items) backed)

pub returns-in_err-reply-clause-kept : goal.returns-in_err-reply-clause-kept
returns-in_err-reply-clause-kept g c =
    let items : c.make_room.new.kept.items ≡ c.args.self.now.kept = c.make_room.ensures.items ∙ ap (λ (l : Lent). l.kept) c.self.view_is in
    err_taken (XRecvmsg c.args.h) c.args.me.now (record { old = c.args.self.now.kept; new = c.x_recvmsg.new.kept.items })
    c.from_residual-in_err-reply.result c.from_residual-in_err-reply.ensures.0
    (subst (λ (ks : List KeptItem).
    HasTaken (XRecvmsg c.args.h) c.args.me.now (record { old = ks; new = c.x_recvmsg.new.kept.items }) (Err (record {})))
    items c.in_err-reply.ensures.kept)

pub returns-clause-kept : goal.returns-clause-kept
returns-clause-kept g c =
    let items : c.make_room.new.kept.items ≡ c.args.self.now.kept = c.make_room.ensures.items ∙ ap (λ (l : Lent). l.kept) c.self.view_is in
    subst (λ (ks : List KeptItem).
    HasTaken (XRecvmsg c.args.h) c.args.me.now (record { old = ks; new = c.x_recvmsg.new.kept.items }) (Ok c.in_ok-reply.reply))
    items c.in_ok-reply.ensures.kept

pub returns-in_err-make_room-clause-kept : goal.returns-in_err-make_room-clause-kept
returns-in_err-make_room-clause-kept g c =
    err_taken (XRecvmsg c.args.h) c.args.me.now (record { old = c.args.self.now.kept; new = c.make_room.new.kept.items })
    c.from_residual.result c.from_residual.ensures.0
    (none_taken_for (XRecvmsg c.args.h) c.args.me.now (record { old = c.args.self.now.kept; new = c.make_room.new.kept.items }) (record {})
    (c.make_room.ensures.items ∙ ap (λ (l : Lent). l.kept) c.self.view_is))
