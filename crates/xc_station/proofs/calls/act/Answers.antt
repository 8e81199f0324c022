use Rattle.std.proofs.Common.{◌≡◌, [], None, false, arith, ap, refl, subst, sym, ◌∙◌, Ok, IsTrue}
use Rattle.xc_data.specs.declared.call.Call.TheVariants as call
use Rattle.xc_calls.specs.Calls.{IsHostCall}
use Rattle.xc_buffers.specs.Items.{keeps_pair, kept_bytes}
use Rattle.xc_world.specs.Act.Names.{next_num}
use Rattle.xc_station.specs.Acting.{IsFreeFor, IsLentFor, IsSourceIn, acting}
use Rattle.xc_station.specs.Jobs.{tx_view}
use Rattle.xc_data.specs.declared.private.Private.{Private}
use Rattle.xc_station.proofs.Doings.{alone_acted_at, calling, file_acted, file_acted_at}
use Rattle.xc_station.proofs.DoingsLate.{kept_acted, kept_acted_at}
use Rattle.xc_station.proofs.DoingsWords.{load_acted}
use Rattle.xc_station.proofs.DoingsTaking.{made_acted}
use Rattle.xc_station.proofs.DoingsTaking.{read_acted_at}
use Rattle.xc_station.proofs.DoingsWords.{store_acted}
use Rattle.xc_station.proofs.DoingsLate.{stored_acted_at}
use Rattle.xc_world.specs.Checks.{refusal_of}
use Rattle.xc_host.specs.Fronted.{fronted}
use Rattle.xc_station.proofs.Takings.{note_backed, ok_checked}
use Rattle.xc_station.proofs.calls.act.Goals as goal

pub returns-in-Load-clause-acted : goal.returns-in-Load-clause-acted
returns-in-Load-clause-acted g c = load_acted g.H.Host.model _ _ _ _ c.in-Load.is c.load.ensures.reply c.load.ensures.now c.requires.may.stored

pub returns-in-Store-clause-acted : goal.returns-in-Store-clause-acted
returns-in-Store-clause-acted g c =
    let e = c.store.ensures in
    store_acted g.H.Host.model _ _ _ _ _ _ c.in-Store.is e.reply e.stores e.words e.err e.now c.requires.may.stored

pub returns-in-XOpen-clause-acted : goal.returns-in-XOpen-clause-acted
returns-in-XOpen-clause-acted g c =
    let e = c.x_open.ensures in
    let same = c.deref_mut.ensures.value in
    let stored = ap (λ (me : Private). me.stored) same in
    file_acted_at g.H.Host.model _ _ _ _ _ _ same (c.in-XOpen.is ∙ ap call.XOpen (sym c.value.ensures))
    refl refl refl refl refl (e.call c.args.tx.now.number c.args.tx.now.undo) refl
    (omega (arith, e.same.0, stored, c.requires.may.stored)) e.now

pub returns-in-XCreate-clause-acted : goal.returns-in-XCreate-clause-acted
returns-in-XCreate-clause-acted g c =
    let e = c.x_create.ensures in
    let same = c.deref_mut-in-XCreate.ensures.value in
    let stored = ap (λ (me : Private). me.stored) same in
    file_acted_at g.H.Host.model _ _ _ _ _ _ same c.in-XCreate.is refl refl refl refl refl
    e.call refl (omega (arith, e.stored, stored, c.requires.may.stored)) e.now

pub returns-in-XRead-clause-acted : goal.returns-in-XRead-clause-acted
returns-in-XRead-clause-acted g c =
    let e = c.x_read.ensures in
    file_acted_at g.H.Host.model _ _ _ _ _ _ c.deref_mut-in-XRead.ensures.value c.in-XRead.is
    refl refl refl refl refl (e.call c.args.tx.now.number c.args.tx.now.undo) refl e.stored e.now

pub returns-in-XWriteOvr-clause-acted : goal.returns-in-XWriteOvr-clause-acted
returns-in-XWriteOvr-clause-acted g c =
    let e = c.x_write_ovr.ensures in
    file_acted_at g.H.Host.model _ _ _ _ _ _ c.deref_mut-in-XWriteOvr.ensures.value c.in-XWriteOvr.is
    refl refl refl refl refl (e.call c.args.tx.now.number) refl e.stored e.now

pub returns-in-XSeek-clause-acted : goal.returns-in-XSeek-clause-acted
returns-in-XSeek-clause-acted g c =
    let e = c.x_seek.ensures in
    let same = c.deref_mut-in-XSeek.ensures.value in
    let stored = ap (λ (me : Private). me.stored) same in
    file_acted_at g.H.Host.model _ _ _ _ _ _ same c.in-XSeek.is refl refl refl refl refl (e.call c.args.tx.now.number c.args.tx.now.undo) refl
    (omega (arith, e.same.0, stored, c.requires.may.stored)) e.now

pub returns-in-XClose-clause-acted : goal.returns-in-XClose-clause-acted
returns-in-XClose-clause-acted g c =
    let e = c.x_close.ensures in
    let same = c.deref_mut-in-XClose.ensures.value in
    let stored = ap (λ (me : Private). me.stored) same in
    alone_acted_at g.H.Host.model _ _ _ _ _ _ same c.in-XClose.is refl refl refl refl e.call (omega (arith, e.same.0, stored, c.requires.may.stored)) e.now

pub returns-in-XLen-clause-acted : goal.returns-in-XLen-clause-acted
returns-in-XLen-clause-acted g c =
    let e = c.x_len.ensures in
    let old = acting c.args.host.now c.args.buffers.now.kept c.args.words.now c.args.tx.now in
    let new = record old { host = c.x_len.new.host } in
    file_acted g.H.Host.model _ _ old new _ c.in-XLen.is refl refl refl refl refl
    (subst (λ (m : Private). IsHostCall g.H.Host.model (call.XLen c.in-XLen.h) (record (calling old) { me = m }) (record (calling new) { me = m })
    (Ok c.x_len.result)) c.deref.ensures (e.call c.args.tx.now.number c.args.tx.now.undo)) refl
    c.requires.may.stored e.now

pub returns-in-XRename-clause-acted : goal.returns-in-XRename-clause-acted
returns-in-XRename-clause-acted g c =
    let e = c.x_rename.ensures in
    file_acted g.H.Host.model _ _ _ _ _
    c.in-XRename.is refl refl refl refl refl
    (e.call c.args.tx.now.number c.args.tx.now.me.value) refl c.requires.may.stored e.now

pub returns-in-XWriteSeq-clause-acted : goal.returns-in-XWriteSeq-clause-acted
returns-in-XWriteSeq-clause-acted g c =
    let e = c.x_write_seq.ensures in
    file_acted_at g.H.Host.model _ _ _ _ _ _ c.deref_mut-in-XWriteSeq.ensures.value c.in-XWriteSeq.is
    refl refl refl refl refl (e.call c.args.tx.now.number) refl e.stored e.now

pub returns-in-XUnlink-clause-acted : goal.returns-in-XUnlink-clause-acted
returns-in-XUnlink-clause-acted g c =
    let e = c.x_unlink.ensures in
    kept_acted g.H.Host.model _ _ _ _ _
    c.in-XUnlink.is refl refl refl
    (e.call c.args.tx.now.me.value _) e.err c.requires.may.stored

pub returns-in-XThreadCreate-clause-acted : goal.returns-in-XThreadCreate-clause-acted
returns-in-XThreadCreate-clause-acted g c =
    let e = c.x_thread_create.ensures in
    kept_acted g.H.Host.model _ _ _ _ _
    (c.in-XThreadCreate.is ∙ (λ i. call.XThreadCreate (sym c.value-in-XThreadCreate.ensures i) c.in-XThreadCreate.slot)) refl refl refl
    (e.call c.args.tx.now.me.value _) e.err c.requires.may.stored

pub returns-in-XSync-clause-acted : goal.returns-in-XSync-clause-acted
returns-in-XSync-clause-acted g c =
    let e = c.x_sync.ensures in
    kept_acted_at g.H.Host.model _ _ _ _ _ _ c.deref-in-XSync.ensures c.in-XSync.is refl refl refl (e.call _) e.err c.requires.may.stored

pub returns-in-XPipe-clause-acted : goal.returns-in-XPipe-clause-acted
returns-in-XPipe-clause-acted g c =
    let model = g.H.Host.model in
    let e = c.x_pipe.ensures in
    let same = c.deref_mut-in-XPipe.ensures.value in
    let stored = ap (λ (me : Private). me.stored) same in
    let tx = tx_view c.args.tx.now in
    let kept = c.args.buffers.now.kept in
    let none : IsTrue model.tells → kept_bytes (next_num tx.me tx.number) kept ≡ [] =
    λ t. (subst (IsFreeFor (model.contents c.args.host.now) kept (next_num tx.me tx.number)) c.in-XPipe.is (c.requires.lent t).free).1 in
    made_acted model _ _ _ _ _ _ same c.in-XPipe.is refl refl refl refl refl
    (e.call kept (λ t. ap (λ (me : Private). kept_bytes (next_num me tx.number) kept) same ∙ none t))
    e.keeps refl (omega (arith, e.stored, stored, c.requires.may.stored)) e.now

pub returns-in-XPair-clause-acted : goal.returns-in-XPair-clause-acted
returns-in-XPair-clause-acted g c =
    let model = g.H.Host.model in
    let e = c.x_pair.ensures in
    let same = c.deref_mut-in-XPair.ensures.value in
    let stored = ap (λ (me : Private). me.stored) same in
    let tx = tx_view c.args.tx.now in
    let kept = c.args.buffers.now.kept in
    let none : IsTrue model.tells → keeps_pair (next_num tx.me tx.number) kept ≡ false =
    λ t. (subst (IsFreeFor (model.contents c.args.host.now) kept (next_num tx.me tx.number)) c.in-XPair.is (c.requires.lent t).free).1 in
    made_acted model _ _ _ _ _ _ same c.in-XPair.is refl refl refl refl refl
    (e.call kept (λ t. ap (λ (me : Private). keeps_pair (next_num me tx.number) kept) same ∙ none t))
    e.keeps refl (omega (arith, e.stored, stored, c.requires.may.stored)) e.now

pub returns-in-XReadPipe-clause-acted : goal.returns-in-XReadPipe-clause-acted
returns-in-XReadPipe-clause-acted g c =
    let model = g.H.Host.model in
    let e = c.read_pipe.ensures in
    let d = call.XReadPipe c.in-XReadPipe.h c.in-XReadPipe.n in
    let k = e.call c.args.tx.now.number c.args.tx.now.undo in
    let same = c.deref_mut-in-XReadPipe.ensures.value in
    let there : IsTrue model.tells → refusal_of d c.args.tx.now.me.value ≡ None → IsSourceIn (model.contents c.args.host.now) c.args.tx.now.me.value d =
    λ t. (subst (λ d. IsLentFor c.args.tx.now.me.value c.args.tx.now.number d (model.contents c.args.host.now) c.args.buffers.now.kept) c.in-XReadPipe.is
    (c.requires.lent t)).source in
    read_acted_at model _ d _ _ _ _ _ _ _ same c.in-XReadPipe.is refl refl k e.stops e.notes e.err
    (λ t. note_backed (model.contents c.args.host.now) d c.deref_mut-in-XReadPipe.result.now
    (record { old = c.args.tx.now.taken.items; new = c.read_pipe.new.taken.items }) c.read_pipe.result
    (subst (λ (m : Private). refusal_of d m ≡ None → IsSourceIn (model.contents c.args.host.now) m d) (sym same) (there t))
    (ok_checked (fronted model) _ _ _ c.read_pipe.result k) e.notes e.fit_taken) e.keeps e.stored e.now e.kept

pub returns-in-XRecvmsg-clause-acted : goal.returns-in-XRecvmsg-clause-acted
returns-in-XRecvmsg-clause-acted g c =
    let model = g.H.Host.model in
    let e = c.receive.ensures in
    let d = call.XRecvmsg c.in-XRecvmsg.h in
    let k = e.call c.args.tx.now.number c.args.tx.now.undo in
    let same = c.deref_mut-in-XRecvmsg.ensures.value in
    let there : IsTrue model.tells → refusal_of d c.args.tx.now.me.value ≡ None → IsSourceIn (model.contents c.args.host.now) c.args.tx.now.me.value d =
    λ t. (subst (λ d. IsLentFor c.args.tx.now.me.value c.args.tx.now.number d (model.contents c.args.host.now) c.args.buffers.now.kept) c.in-XRecvmsg.is
    (c.requires.lent t)).source in
    read_acted_at model _ d _ _ _ _ _ _ _ same c.in-XRecvmsg.is refl refl k e.stops e.notes e.err
    (λ t. note_backed (model.contents c.args.host.now) d c.deref_mut-in-XRecvmsg.result.now
    (record { old = c.args.tx.now.taken.items; new = c.receive.new.taken.items }) c.receive.result
    (subst (λ (m : Private). refusal_of d m ≡ None → IsSourceIn (model.contents c.args.host.now) m d) (sym same) (there t))
    (ok_checked (fronted model) _ _ _ c.receive.result k) e.notes e.fit_taken) e.keeps e.stored e.now e.kept

pub returns-in-XSendmsg-clause-acted : goal.returns-in-XSendmsg-clause-acted
returns-in-XSendmsg-clause-acted g c =
    let e = c.x_sendmsg.ensures in
    stored_acted_at g.H.Host.model _ _ _ _ _ _ _ c.deref_mut-in-XSendmsg.ensures.value c.in-XSendmsg.is refl refl refl (e.call _) e.err e.stored

pub returns-in-XWritePipe-clause-acted : goal.returns-in-XWritePipe-clause-acted
returns-in-XWritePipe-clause-acted g c =
    let e = c.x_write_pipe.ensures in
    stored_acted_at g.H.Host.model _ _ _ _ _ _ _ c.deref_mut-in-XWritePipe.ensures.value c.in-XWritePipe.is refl refl refl (e.call _) e.err e.stored

pub returns-in-XShutdown-clause-acted : goal.returns-in-XShutdown-clause-acted
returns-in-XShutdown-clause-acted g c =
    let e = c.x_shutdown.ensures in
    kept_acted_at g.H.Host.model _ _ _ _ _ _ c.deref-in-XShutdown.ensures c.in-XShutdown.is refl refl refl (e.call _) e.err c.requires.may.stored
