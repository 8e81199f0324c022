use Rattle.std.proofs.Common.{◌≡◌, true, Some, ◌∙◌, refl, ap, sym, subst}
use Rattle.std.specs.Prelude.{is_some}
use Rattle.xc_data.specs.declared.call.Call.TheVariants as call
use Rattle.xc_data.specs.declared.entry.Turn.{Turn}
use Rattle.xc_data.specs.declared.entry.Turn.TheVariants as turn
use Rattle.xc_model.specs.Moment.{TxView}
use Rattle.xc_model.specs.Movers.{mover, with_tx}
use Rattle.xc_model.specs.Setting.{setting}
use Rattle.xc_script.specs.Blocks.{fits_block}
use Rattle.xc_script.specs.declared.ask.Ask.TheVariants as ask
use Rattle.xc_script.proofs.Laws.{live_settled}
use Rattle.xc_station.specs.Backs.{CanGoBack}
use Rattle.xc_station.specs.Jobs.{tx_view}
use Rattle.xc_station.specs.Moments.{IsRow, busy_counted, moved}
use Rattle.xc_station.specs.Moments as moments
use Rattle.xc_station.proofs.Lending.{lends_still}
use Rattle.xc_station.proofs.RowsRun.{asked_of_client, back_is, begins_back, begun_or_wanting, handed_live, opened_seen, row_handed, stands_with_tx}
use Rattle.xc_station.proofs.RowsRun.{starved_turn_row}
use Rattle.xc_station.proofs.client_turns.step_call.Goals as goal

-- a back
pub returns-then-is_back-clause-row : goal.returns-then-is_back-clause-row
returns-then-is_back-clause-row g c rules now at job here doing place holds terms =
    let model = g.H.Host.model in
    let s = setting c.args.script.now rules model.tells in
    let shared = c.args.shared.now in
    let b = c.begin_back.ensures in
    let new = c.begin_back.new.tx in
    let has = stands_with_tx s job c.args.place.now (tx_view c.args.tx.now) doing place in
    let is : c.args.call ≡ call.Back = back_is c.args.call (sym c.if-is_back.ensures) in
    let asked = asked_of_client s job (ask.Call call.Back) c.requires.live (holds ∙ ap (λ x. Some (ask.Call x)) is) in
    let within : is_some c.args.tx.now.saved ≡ true =
    subst (λ x. fits_block (is_some c.args.tx.now.saved) x ≡ true) is c.requires.fits in
    row_handed model s at now job shared c.hand_back.new.handed c.args.place.now (tx_view new) c.begin_back.result shared.sentinels.claims
    (holds ∙ handed_live c.args.script.now c.args.handed.now c.args.call c.requires.live ∙ sym c.hand_back.ensures)
    (begun_or_wanting
    (λ (a : Turn). IsRow (mover s at now job) (moved model shared (busy_counted a (with_tx job c.args.place.now (tx_view new))) now at) a
    shared.sentinels.claims)
    c.begin_back.result
    (λ went. begins_back model s _ _ _ _ c.args.place.now c.args.tx.now here has shared new refl refl refl (b.went went) asked
    (live_settled c.args.script.now c.args.place.now c.requires.live) (opened_seen c.args.tx.now c.args.tx.now.saved within))
    (λ other. let m = b.memory other in (
      m.0,
      starved_turn_row model s _ _ _ _ c.args.place.now c.args.tx.now here has shared new turn.NoMemory refl refl refl m.1 refl,
    )))

pub returns-then-is_back-clause-lends : goal.returns-then-is_back-clause-lends
returns-then-is_back-clause-lends g c =
    let b = c.begin_back.ensures in
    lends_still g.H.Host.model _ _ refl
    (begun_or_wanting (λ (a : Turn). (tx_view c.begin_back.new.tx).taken ≡ (tx_view c.args.tx.now).taken) c.begin_back.result
    (λ went. ap (λ (t : TxView). t.taken) (b.went went)) (λ other. ((b.memory other).0, ap (λ (t : TxView). t.taken) (b.memory other).1)))

pub returns-then-is_back-clause-waits : goal.returns-then-is_back-clause-waits
returns-then-is_back-clause-waits g c object holder =
    let b = c.begin_back.ensures in
    begun_or_wanting (λ (a : Turn). a ≡ turn.Busy object holder → c.args.terms.patient ≡ true) c.begin_back.result (λ went busy. cc busy)
    (λ other. ((b.memory other).0, λ busy. cc busy))

pub returns-then-is_back-clause-backs : goal.returns-then-is_back-clause-backs
returns-then-is_back-clause-backs g c run =
    let b = c.begin_back.ensures in
    begun_or_wanting (λ (a : Turn). CanGoBack c.args.terms.tries c.begin_back.new.tx) c.begin_back.result b.backs
    (λ other. let m = b.memory other in (m.0, absurd (let off = ap (λ (t : TxView). moments.runs t.phase) m.1 in cc (off, run))))

-- any other
pub try_call-requires-clause-asked : goal.try_call-requires-clause-asked
try_call-requires-clause-asked g c own = absurd (let live = c.requires.live in cc (own, live))

pub try_call-requires-clause-settled : goal.try_call-requires-clause-settled
try_call-requires-clause-settled g c = live_settled c.args.script.now c.args.place.now c.requires.live

pub returns-clause-row : goal.returns-clause-row
returns-clause-row g c rules now at job here doing place holds terms =
    let s = setting c.args.script.now rules g.H.Host.model.tells in
    c.try_call.ensures.row rules now at job here (stands_with_tx s job c.args.place.now (tx_view c.args.tx.now) doing place)
    (holds ∙ handed_live c.args.script.now c.args.handed.now c.args.call c.requires.live) terms
