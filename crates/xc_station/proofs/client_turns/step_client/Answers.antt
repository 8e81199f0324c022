use Rattle.std.proofs.Common.{◌≡◌, true, Some, ◌∙◌, refl, ap, sym, subst}
use Rattle.std.specs.Prelude.{is_some, unwrap_or, Option}
use Rattle.xc_data.specs.declared.entry.Turn.TheVariants as turn
use Rattle.xc_model.specs.Moment.{TxView}
use Rattle.xc_model.specs.Setting.{setting}
use Rattle.xc_script.specs.Blocks.{ask_fits}
use Rattle.xc_script.specs.declared.ask.Ask.{Ask}
use Rattle.xc_script.specs.declared.ask.Ask.TheVariants as ask
use Rattle.xc_script.proofs.Laws.{live_settled}
use Rattle.xc_station.specs.Jobs.{tx_view}
use Rattle.xc_station.specs.Moments as moments
use Rattle.xc_station.specs.declared.calls.Shared.{Shared}
use Rattle.xc_station.proofs.Lending.{lends_still}
use Rattle.xc_station.proofs.RowsRun.{abort_turn_row, asked_of_client, commit_turn_row, row_handed, stands_with_tx, starved_turn_row}
use Rattle.xc_station.proofs.client_turns.step_client.Goals as goal

-- a call
pub step_call-requires-clause-fits : goal.step_call-requires-clause-fits
step_call-requires-clause-fits g c =
    subst (λ (o : Option Ask). ask_fits (is_some c.args.tx.now.saved) (unwrap_or o ask.End) ≡ true)
    (sym c.take.ensures.value ∙ c.in-Some-Call.is ∙ ap Some c.in-Some-Call.field-0-is) c.requires.fits

pub returns-in-Some-Call-clause-row : goal.returns-in-Some-Call-clause-row
returns-in-Some-Call-clause-row g c rules now at job here doing place holds terms =
    c.step_call.ensures.row rules now at job here doing place (holds ∙ sym c.take.ensures.value ∙ c.in-Some-Call.is ∙ ap Some c.in-Some-Call.field-0-is) terms

-- the commit
pub returns-in-Some-Commit-clause-count : goal.returns-in-Some-Commit-clause-count
returns-in-Some-Commit-clause-count g c = c.enter_commit.ensures.count

pub returns-in-Some-Commit-clause-row : goal.returns-in-Some-Commit-clause-row
returns-in-Some-Commit-clause-row g c rules now at job here doing place holds terms =
    let s = setting c.args.script.now rules g.H.Host.model.tells in
    let is = holds ∙ sym c.take.ensures.value ∙ c.in-Some-Commit.is ∙ ap Some c.in-Some-Commit.field-0-is in
    let behind : Shared g.row.H.Denot = record c.args.shared.now { words = c.enter_commit.new.words } in
    row_handed g.H.Host.model s at now job behind (Some ask.Commit) c.args.place.now (tx_view c.enter_commit.new.tx) turn.Went behind.sentinels.claims is
    (commit_turn_row g.H.Host.model s _ _ _ _ c.args.place.now c.args.tx.now here
    (stands_with_tx s job c.args.place.now (tx_view c.args.tx.now) doing place) behind c.enter_commit.new.tx
    refl c.enter_commit.ensures.words refl c.enter_commit.ensures.tx (asked_of_client s job ask.Commit c.requires.live is)
    (live_settled c.args.script.now c.args.place.now c.requires.live))

pub returns-in-Some-Commit-clause-lends : goal.returns-in-Some-Commit-clause-lends
returns-in-Some-Commit-clause-lends g c = lends_still g.H.Host.model _ _ refl (ap (λ (t : TxView). t.taken) c.enter_commit.ensures.tx)

pub returns-in-Some-Commit-clause-backs : goal.returns-in-Some-Commit-clause-backs
returns-in-Some-Commit-clause-backs g c run =
    absurd (let off = ap (λ (t : TxView). moments.runs t.phase) c.enter_commit.ensures.tx in cc (off, run))

-- its own abort
pub returns-in-Some-Abort-clause-row : goal.returns-in-Some-Abort-clause-row
returns-in-Some-Abort-clause-row g c rules now at job here doing place holds terms =
    let s = setting c.args.script.now rules g.H.Host.model.tells in
    let is = holds ∙ sym c.take.ensures.value ∙ c.in-Some-Abort.is ∙ ap Some c.in-Some-Abort.field-0-is in
    row_handed g.H.Host.model s at now job c.args.shared.now (Some ask.Abort) c.args.place.now (tx_view c.enter_abort.new.tx) turn.Went
    c.args.shared.now.sentinels.claims is
    (abort_turn_row g.H.Host.model s _ _ _ _ c.args.place.now c.args.tx.now here
    (stands_with_tx s job c.args.place.now (tx_view c.args.tx.now) doing place) c.args.shared.now c.enter_abort.new.tx refl refl refl
    c.enter_abort.ensures.tx (asked_of_client s job ask.Abort c.requires.live is))

pub returns-in-Some-Abort-clause-lends : goal.returns-in-Some-Abort-clause-lends
returns-in-Some-Abort-clause-lends g c = lends_still g.H.Host.model _ _ refl (ap (λ (t : TxView). t.taken) c.enter_abort.ensures.tx)

pub returns-in-Some-Abort-clause-backs : goal.returns-in-Some-Abort-clause-backs
returns-in-Some-Abort-clause-backs g c run =
    absurd (let off = ap (λ (t : TxView). moments.runs t.phase) c.enter_abort.ensures.tx in cc (off, run))

-- the job's end, or nothing
pub returns-in-Some-End-clause-row : goal.returns-in-Some-End-clause-row
returns-in-Some-End-clause-row g c rules now at job here doing place holds terms =
    let s = setting c.args.script.now rules g.H.Host.model.tells in
    row_handed g.H.Host.model s at now job c.args.shared.now (Some ask.End) c.args.place.now (tx_view c.abort_for_memory.new.tx) c.abort_for_memory.result
    c.args.shared.now.sentinels.claims (holds ∙ sym c.take.ensures.value ∙ c.in-Some-End.is ∙ ap Some c.in-Some-End.field-0-is)
    (starved_turn_row g.H.Host.model s _ _ _ _ c.args.place.now c.args.tx.now here
    (stands_with_tx s job c.args.place.now (tx_view c.args.tx.now) doing place) c.args.shared.now c.abort_for_memory.new.tx
    c.abort_for_memory.result refl refl refl c.abort_for_memory.ensures.tx c.abort_for_memory.ensures.answer)

pub returns-in-Some-End-clause-lends : goal.returns-in-Some-End-clause-lends
returns-in-Some-End-clause-lends g c = lends_still g.H.Host.model _ _ refl (ap (λ (t : TxView). t.taken) c.abort_for_memory.ensures.tx)

pub returns-in-Some-End-clause-backs : goal.returns-in-Some-End-clause-backs
returns-in-Some-End-clause-backs g c run =
    absurd (let off = ap (λ (t : TxView). moments.runs t.phase) c.abort_for_memory.ensures.tx in cc (off, run))

pub returns-in-None-clause-row : goal.returns-in-None-clause-row
returns-in-None-clause-row g c rules now at job here doing place holds terms =
    let s = setting c.args.script.now rules g.H.Host.model.tells in
    let a = c.abort_for_memory-in-None in
    row_handed g.H.Host.model s at now job c.args.shared.now c.take.new.self c.args.place.now (tx_view a.new.tx) a.result
    c.args.shared.now.sentinels.claims (holds ∙ sym c.take.ensures.value ∙ c.in-None.is ∙ sym c.take.ensures.after)
    (starved_turn_row g.H.Host.model s _ _ _ _ c.args.place.now c.args.tx.now here
    (stands_with_tx s job c.args.place.now (tx_view c.args.tx.now) doing place) c.args.shared.now a.new.tx
    a.result refl refl refl a.ensures.tx a.ensures.answer)

pub returns-in-None-clause-lends : goal.returns-in-None-clause-lends
returns-in-None-clause-lends g c = lends_still g.H.Host.model _ _ refl (ap (λ (t : TxView). t.taken) c.abort_for_memory-in-None.ensures.tx)

pub returns-in-None-clause-backs : goal.returns-in-None-clause-backs
returns-in-None-clause-backs g c run =
    absurd (let off = ap (λ (t : TxView). moments.runs t.phase) c.abort_for_memory-in-None.ensures.tx in cc (off, run))
