use Rattle.std.proofs.Common.{◌≡◌, Bool, true, Some, ◌∙◌, refl, ap, sym, subst}
use Rattle.std.specs.Prelude.{is_some, if◌then◌else◌}
use Rattle.xc_data.specs.declared.call.Call.TheVariants as call
use Rattle.xc_data.specs.declared.entry.Turn.{Turn}
use Rattle.xc_data.specs.declared.entry.Turn.TheVariants as turn
use Rattle.xc_model.specs.Moment.{TxView}
use Rattle.xc_model.specs.Movers.{IsSamePosition, mover, with_tx}
use Rattle.xc_model.specs.Setting.{setting}
use Rattle.xc_script.specs.declared.ask.Ask.{Ask}
use Rattle.xc_script.specs.declared.ask.Ask.TheVariants as ask
use Rattle.xc_script.specs.Asking.{asks}
use Rattle.xc_script.specs.Blocks.{ask_fits}
use Rattle.xc_script.specs.Position.{walk_of}
use Rattle.xc_station.specs.Backs.{CanGoBack}
use Rattle.xc_station.specs.declared.calls.Shared.{Shared}
use Rattle.xc_station.specs.Handed.{handed_back}
use Rattle.xc_station.specs.Jobs.{tx_view}
use Rattle.xc_station.specs.Moments.{IsRow, busy_counted, moved}
use Rattle.xc_station.specs.Moments as moments
use Rattle.xc_station.proofs.Lending.{lends_still}
use Rattle.xc_station.proofs.RowsRun.{asked_of_script, asked_walk, back_is, begins_back, begun_or_wanting, commit_turn_row, has_tx, opened_seen}
use Rattle.xc_station.proofs.RowsRun.{abort_turn_row, row_handed, starved_turn_row}
use Rattle.xc_station.proofs.running.step_scripted.Goals as goal

-- a back
pub returns-then-is_back-clause-row : goal.returns-then-is_back-clause-row
returns-then-is_back-clause-row g c rules now at job here doing place handed terms =
    let model = g.H.Host.model in
    let script = c.args.script.now in
    let s = setting script rules model.tells in
    let e = c.in-Ok-Call.ensures in
    let b = c.begin_back.ensures in
    let shared = c.args.shared.now in
    let new = c.begin_back.new.tx in
    let same : IsSamePosition s c.args.place.now c.ask.new.self =
    record { begin = record { block = e.same.0; next = e.same.1; begun = e.begun }; walk = e.walk; saved = e.saved; at = e.at } in
    let has = has_tx s job c.args.place.now c.ask.new.self (tx_view c.args.tx.now) doing place same in
    let is : c.in-Ok-Call.call ≡ call.Back = back_is c.in-Ok-Call.call (sym c.if-is_back.ensures) in
    let asked : asks (walk_of script c.ask.new.self) ≡ ask.Call call.Back =
    asked_walk script c.args.place.now c.ask.new.self _ c.requires.left e.walk e.value ∙ c.in-Ok-Call.field-0-is ∙ ap ask.Call is in
    let asked_now = asked_of_script s job c.ask.new.self (tx_view c.args.tx.now) (ask.Call call.Back) c.requires.own has asked in
    row_handed model s at now job shared c.args.handed.now c.ask.new.self (tx_view new) c.begin_back.result shared.sentinels.claims handed
    (begun_or_wanting
    (λ (a : Turn). IsRow (mover s at now job) (moved model shared (busy_counted a (with_tx job c.ask.new.self (tx_view new))) now at) a
    shared.sentinels.claims)
    c.begin_back.result
    (λ went. begins_back model s _ _ _ _ c.ask.new.self c.args.tx.now here has shared new refl refl refl (b.went went) asked_now e.settled
    (opened_seen c.args.tx.now c.args.tx.now.saved
    (subst (λ (x : Ask). ask_fits (is_some c.args.tx.now.saved) x ≡ true) (ap asks (sym e.walk) ∙ asked) c.requires.fits)))
    (λ other. let m = b.memory other in (
      m.0,
      starved_turn_row model s _ _ _ _ c.ask.new.self c.args.tx.now here has shared new turn.NoMemory refl refl refl m.1 refl,
    )))

pub returns-then-is_back-clause-lends : goal.returns-then-is_back-clause-lends
returns-then-is_back-clause-lends g c =
    let b = c.begin_back.ensures in
    lends_still g.H.Host.model _ _ refl
    (begun_or_wanting (λ (a : Turn). (tx_view c.begin_back.new.tx).taken ≡ (tx_view c.args.tx.now).taken) c.begin_back.result
    (λ went. ap (λ (t : TxView). t.taken) (b.went went)) (λ other. ((b.memory other).0, ap (λ (t : TxView). t.taken) (b.memory other).1)))

pub returns-then-is_back-clause-waits : goal.returns-then-is_back-clause-waits
returns-then-is_back-clause-waits g c object holder =
    let b = c.begin_back.ensures in
    begun_or_wanting (λ (a : Turn). a ≡ turn.Busy object holder → c.args.terms.patient ≡ true) c.begin_back.result (λ went busy. cc busy)
    (λ other. ((b.memory other).0, λ busy. cc busy))

pub returns-then-is_back-clause-backs : goal.returns-then-is_back-clause-backs
returns-then-is_back-clause-backs g c run =
    let b = c.begin_back.ensures in
    begun_or_wanting (λ (a : Turn). CanGoBack c.args.terms.tries c.begin_back.new.tx) c.begin_back.result b.backs
    (λ other. let m = b.memory other in (m.0, absurd (let off = ap (λ (t : TxView). moments.runs t.phase) m.1 in cc (off, run))))

-- a commit
pub returns-in-Ok-Commit-clause-count : goal.returns-in-Ok-Commit-clause-count
returns-in-Ok-Commit-clause-count g c = c.enter_commit.ensures.count

pub returns-in-Ok-Commit-clause-row : goal.returns-in-Ok-Commit-clause-row
returns-in-Ok-Commit-clause-row g c rules now at job here doing place handed terms =
    let e = c.in-Ok-Commit.ensures in
    let s = setting c.args.script.now rules g.H.Host.model.tells in
    let same : IsSamePosition s c.args.place.now c.ask.new.self =
    record { begin = record { block = e.same.0; next = e.same.1; begun = e.begun }; walk = e.walk; saved = e.saved; at = e.at } in
    let has = has_tx s job c.args.place.now c.ask.new.self (tx_view c.args.tx.now) doing place same in
    let asked = asked_walk c.args.script.now c.args.place.now c.ask.new.self _ c.requires.left e.walk e.value ∙ c.in-Ok-Commit.field-0-is in
    let behind : Shared g.row.H.Denot = record c.args.shared.now { words = c.enter_commit.new.words } in
    row_handed g.H.Host.model s at now job behind c.args.handed.now c.ask.new.self (tx_view c.enter_commit.new.tx) turn.Went behind.sentinels.claims handed
    (commit_turn_row g.H.Host.model s _ _ _ _ c.ask.new.self c.args.tx.now here has behind c.enter_commit.new.tx
    refl c.enter_commit.ensures.words refl c.enter_commit.ensures.tx
    (asked_of_script s job c.ask.new.self (tx_view c.args.tx.now) ask.Commit c.requires.own has asked) e.settled)

pub returns-in-Ok-Commit-clause-backs : goal.returns-in-Ok-Commit-clause-backs
returns-in-Ok-Commit-clause-backs g c run =
    absurd (let off = ap (λ (t : TxView). moments.runs t.phase) c.enter_commit.ensures.tx in cc (off, run))

-- an abort
pub returns-in-Ok-Abort-clause-row : goal.returns-in-Ok-Abort-clause-row
returns-in-Ok-Abort-clause-row g c rules now at job here doing place handed terms =
    let e = c.in-Ok-Abort.ensures in
    let s = setting c.args.script.now rules g.H.Host.model.tells in
    let same : IsSamePosition s c.args.place.now c.ask.new.self =
    record { begin = record { block = e.same.0; next = e.same.1; begun = e.begun }; walk = e.walk; saved = e.saved; at = e.at } in
    let has = has_tx s job c.args.place.now c.ask.new.self (tx_view c.args.tx.now) doing place same in
    let asked = asked_walk c.args.script.now c.args.place.now c.ask.new.self _ c.requires.left e.walk e.value ∙ c.in-Ok-Abort.field-0-is in
    row_handed g.H.Host.model s at now job c.args.shared.now c.args.handed.now c.ask.new.self (tx_view c.enter_abort.new.tx) turn.Went
    c.args.shared.now.sentinels.claims handed
    (abort_turn_row g.H.Host.model s _ _ _ _ c.ask.new.self c.args.tx.now here has c.args.shared.now c.enter_abort.new.tx refl refl refl
    c.enter_abort.ensures.tx (asked_of_script s job c.ask.new.self (tx_view c.args.tx.now) ask.Abort c.requires.own has asked))

pub returns-in-Ok-Abort-clause-backs : goal.returns-in-Ok-Abort-clause-backs
returns-in-Ok-Abort-clause-backs g c run =
    absurd (let off = ap (λ (t : TxView). moments.runs t.phase) c.enter_abort.ensures.tx in cc (off, run))

-- memory runs out before a call
pub returns-in-Err-clause-row : goal.returns-in-Err-clause-row
returns-in-Err-clause-row g c rules now at job here doing place handed terms =
    let e = c.in-Err.ensures in
    let s = setting c.args.script.now rules g.H.Host.model.tells in
    let same : IsSamePosition s c.args.place.now c.ask.new.self =
    record { begin = record { block = e.same.0; next = e.same.1; begun = e.begun }; walk = e.walk; saved = e.saved; at = e.at } in
    row_handed g.H.Host.model s at now job c.args.shared.now c.args.handed.now c.ask.new.self (tx_view c.abort_for_memory.new.tx) c.abort_for_memory.result
    c.args.shared.now.sentinels.claims handed
    (starved_turn_row g.H.Host.model s _ _ _ _ c.ask.new.self c.args.tx.now here
    (has_tx s job c.args.place.now c.ask.new.self (tx_view c.args.tx.now) doing place same) c.args.shared.now c.abort_for_memory.new.tx
    c.abort_for_memory.result refl refl refl c.abort_for_memory.ensures.tx c.abort_for_memory.ensures.answer)

pub returns-in-Ok-Commit-clause-lends : goal.returns-in-Ok-Commit-clause-lends
returns-in-Ok-Commit-clause-lends g c = lends_still g.H.Host.model _ _ refl (ap (λ (t : TxView). t.taken) c.enter_commit.ensures.tx)

pub returns-in-Ok-Abort-clause-lends : goal.returns-in-Ok-Abort-clause-lends
returns-in-Ok-Abort-clause-lends g c = lends_still g.H.Host.model _ _ refl (ap (λ (t : TxView). t.taken) c.enter_abort.ensures.tx)

pub returns-in-Err-clause-lends : goal.returns-in-Err-clause-lends
returns-in-Err-clause-lends g c = lends_still g.H.Host.model _ _ refl (ap (λ (t : TxView). t.taken) c.abort_for_memory.ensures.tx)

-- a call
pub try_call-requires-clause-asked : goal.try_call-requires-clause-asked
try_call-requires-clause-asked g c =
    let e = c.in-Ok-Call.ensures in
    λ own. asked_walk c.args.script.now c.args.place.now c.ask.new.self _ c.requires.left e.walk e.value ∙ c.in-Ok-Call.field-0-is

pub returns-else-is_back-clause-row : goal.returns-else-is_back-clause-row
returns-else-is_back-clause-row g c rules now at job here doing place handed terms =
    let e = c.in-Ok-Call.ensures in
    let script = c.args.script.now in
    let s = setting script rules g.H.Host.model.tells in
    let same : IsSamePosition s c.args.place.now c.ask.new.self =
    record { begin = record { block = e.same.0; next = e.same.1; begun = e.begun }; walk = e.walk; saved = e.saved; at = e.at } in
    let stays : c.args.handed.now ≡ handed_back script c.args.handed.now c.in-Ok-Call.call =
    ap (λ (b : Bool). if b then Some (ask.Call c.in-Ok-Call.call) else c.args.handed.now) (sym c.requires.own) in
    c.try_call.ensures.row rules now at job here (has_tx s job c.args.place.now c.ask.new.self (tx_view c.args.tx.now) doing place same) (handed ∙ stays) terms
