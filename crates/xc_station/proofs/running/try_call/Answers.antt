use Rattle.std.proofs.Common.{ap, refl, subst, sym, ◌∙◌, arith, length}
use Rattle.xc_model.specs.Moment.{TxView}
use Rattle.xc_model.specs.Setting.{setting}
use Rattle.xc_station.specs.declared.calls.Shared.{Shared}
use Rattle.xc_station.specs.Jobs.{tx_view}
use Rattle.xc_station.specs.Acting.{in_no_block, IsLentFor}
use Rattle.xc_station.specs.Moments.{Front, Lends, front_of}
use Rattle.xc_station.proofs.Lending.{lends_done, lends_from, lends_left, lends_still, unclaimed_takes}
use Rattle.xc_station.proofs.RowsCalled.{call_turn_row, starved}
use Rattle.xc_station.proofs.RowsRun.{asked_call, row_handed, unclaimed}
use Rattle.xc_station.proofs.running.try_call.Goals as goal

pub returns-in-Err-clause-row : goal.returns-in-Err-clause-row
returns-in-Err-clause-row g c rules now at job here has holds terms =
    let e = c.in-Err.ensures in
    let s = setting c.args.script.now rules g.H.Host.model.tells in
    row_handed g.H.Host.model s at now job c.claim.new.shared c.hand_back.new.handed c.args.place.now (tx_view c.claim.new.tx) c.in-Err.turn
    c.claim.new.shared.sentinels.claims (holds ∙ sym c.hand_back.ensures)
    (unclaimed g.H.Host.model s _ _ _ _ _ c.args.tx.now here has c.claim.new.shared c.claim.new.tx c.args.call _ _ c.in-Err.turn c.requires.ahead e.same.0
    e.same.1 (asked_call s job c.args.place.now (tx_view c.args.tx.now) c.args.handed.now c.args.call has c.requires.asked holds) terms e.claimed)

pub returns-in-Ok-clause-row : goal.returns-in-Ok-clause-row
returns-in-Ok-clause-row g c rules now at job here has holds terms =
    let e = c.in-Ok.ensures in
    let s = setting c.args.script.now rules g.H.Host.model.tells in
    call_turn_row g.H.Host.model s _ _ _ _ _ c.args.tx.now here has
    (record {
      host = c.do_call.new.host;
      buffers = c.do_call.new.buffers;
      words = c.claim.new.shared.words;
      sentinels = c.claim.new.shared.sentinels;
      started = c.claim.new.shared.started;
    })
    c.claim.new.tx c.args.call
    c.in_default.ensures.same.1
    (asked_call s job c.args.place.now (tx_view c.args.tx.now) c.args.handed.now c.args.call has c.requires.asked holds)
    c.in_default.ensures.claimed (λ tells. tells) c.do_call.new.place
    (front_of c.claim.new.shared) c.do_call.new.tx
    c.note.new.self c.in-Ok.reply (record { begin = e.begin; walk = e.walk; nearer = e.nearer; values = e.values }) c.in_default.ensures.same.0
    e.acted (record { ahead = c.requires.ahead; done = e.blocks; saved = e.saved }) c.note.ensures.noted

pub returns-in-Err-do_call-clause-row : goal.returns-in-Err-do_call-clause-row
returns-in-Err-do_call-clause-row g c rules now at job here has holds terms =
    let e = c.in-Err-do_call.ensures in
    let s = setting c.args.script.now rules g.H.Host.model.tells in
    let behind : Shared g.row.H.Denot = record {
      host = c.do_call.new.host;
      buffers = c.do_call.new.buffers;
      words = c.claim.new.shared.words;
      sentinels = c.claim.new.shared.sentinels;
      started = c.claim.new.shared.started;
    } in
    row_handed g.H.Host.model s at now job behind c.hand_back-in-Err-do_call.new.handed c.do_call.new.place (tx_view c.abort_for_memory.new.tx)
    c.abort_for_memory.result behind.sentinels.claims (holds ∙ sym c.hand_back-in-Err-do_call.ensures)
    (starved g.H.Host.model s _ _ _ _ _ c.args.tx.now here has behind c.claim.new.tx c.args.call
    c.in_default.ensures.same.1
    (asked_call s job c.args.place.now (tx_view c.args.tx.now) c.args.handed.now c.args.call has c.requires.asked holds)
    c.in_default.ensures.claimed (λ tells. tells) c.do_call.new.place
    (front_of c.claim.new.shared) c.do_call.new.tx
    c.abort_for_memory.new.tx e.err_place c.in_default.ensures.same.0 e.acted e.err_saved
    c.abort_for_memory.ensures.tx c.abort_for_memory.result c.abort_for_memory.ensures.answer)

pub returns-in-Err-clause-plan : goal.returns-in-Err-clause-plan
returns-in-Err-clause-plan g c = ap (λ (f : Front g.row.H.Denot). g.H.Host.model.plan f.host) c.in-Err.ensures.same.0

pub returns-in-Ok-clause-plan : goal.returns-in-Ok-clause-plan
returns-in-Ok-clause-plan g c =
    c.in-Ok.ensures.acted.uses.used.plan ∙ ap (λ (f : Front g.row.H.Denot). g.H.Host.model.plan f.host) c.in_default.ensures.same.0

pub returns-in-Err-do_call-clause-plan : goal.returns-in-Err-do_call-clause-plan
returns-in-Err-do_call-clause-plan g c =
    c.in-Err-do_call.ensures.acted.uses.used.plan ∙ ap (λ (f : Front g.row.H.Denot). g.H.Host.model.plan f.host) c.in_default.ensures.same.0

pub returns-in-Err-clause-lends : goal.returns-in-Err-clause-lends
returns-in-Err-clause-lends g c =
    let e = c.in-Err.ensures in
    lends_still g.H.Host.model _ _ e.same.0 (unclaimed_takes _ _ _ c.in-Err.turn e.claimed)

pub do_call-requires-clause-lent : goal.do_call-requires-clause-lent
do_call-requires-clause-lent g c =
    let model = g.H.Host.model in
    let e = c.in_default.ensures in
    λ t. subst (λ (u : TxView). IsLentFor u.me u.number c.args.call (model.contents c.claim.new.shared.host) c.claim.new.shared.buffers.kept)
    (sym e.claimed.held)
    (subst (λ (f : Front g.row.H.Denot). IsLentFor c.args.tx.now.me.value c.args.tx.now.number c.args.call (model.contents f.host) f.lent.kept) (sym e.same.0)
    (c.requires.needs t c.args.call e.claimed.granted.free))

pub do_call-requires-clause-noted : goal.do_call-requires-clause-noted
do_call-requires-clause-noted g c =
    let e = c.in_default.ensures in
    let held = ap (λ (t : TxView). length t.taken) e.claimed.held in
    let lent = ap (λ (f : Front g.row.H.Denot). f.lent.noted) e.same.0 in
    let noted = c.requires.noted in
    omega (arith, held, lent, noted)

pub returns-in-Ok-clause-lends : goal.returns-in-Ok-clause-lends
returns-in-Ok-clause-lends g c =
    let model = g.H.Host.model in
    let e = c.in-Ok.ensures in
    let d = c.in_default.ensures in
    subst (λ (f : Front g.row.H.Denot). Lends model (record { old = f; new = record { host = c.do_call.new.host; lent = c.do_call.new.buffers } })
    (record { old = tx_view c.args.tx.now; new = tx_view c.note.new.self })) d.same.0
    (lends_from model _ (record { old = in_no_block (tx_view c.claim.new.tx); new = in_no_block (tx_view c.do_call.new.tx) }) (tx_view c.args.tx.now)
    (tx_view c.note.new.self)
    (ap (λ (t : TxView). t.taken) (sym d.claimed.held)) (ap (λ (t : TxView). t.taken) c.note.ensures.noted)
    (lends_done model c.args.call _ _ (front_of c.claim.new.shared).lent c.do_call.new.buffers refl c.in-Ok.reply e.acted e.noted e.backs))

pub returns-in-Err-do_call-clause-lends : goal.returns-in-Err-do_call-clause-lends
returns-in-Err-do_call-clause-lends g c =
    let model = g.H.Host.model in
    let e = c.in-Err-do_call.ensures in
    let d = c.in_default.ensures in
    subst (λ (f : Front g.row.H.Denot). Lends model (record { old = f; new = record { host = c.do_call.new.host; lent = c.do_call.new.buffers } })
    (record { old = tx_view c.args.tx.now; new = tx_view c.abort_for_memory.new.tx })) d.same.0
    (lends_from model _ (record { old = in_no_block (tx_view c.claim.new.tx); new = in_no_block (tx_view c.do_call.new.tx) }) (tx_view c.args.tx.now)
    (tx_view c.abort_for_memory.new.tx)
    (ap (λ (t : TxView). t.taken) (sym d.claimed.held)) (ap (λ (t : TxView). t.taken) c.abort_for_memory.ensures.tx)
    (lends_left model c.args.call _ _ (front_of c.claim.new.shared).lent c.do_call.new.buffers refl e.acted e.noted e.backs))
