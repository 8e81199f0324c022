use Rattle.std.proofs.Common.{◌≡◌, ℕ, true, Some, refl, subst, sym, ap, ◌∙◌}
use Rattle.std.specs.Prelude.{option_copied}
use Rattle.xc_sentinel.specs.Seating.{seat_in}
use Rattle.xc_locks.specs.Table.{Holds}
use Rattle.xc_model.specs.Setting.{setting}
use Rattle.xc_model.specs.Moment.{TxView, JobView}
use Rattle.xc_model.specs.Movers.{mover}
use Rattle.xc_data.specs.declared.entry.Turn.{Turn}
use Rattle.xc_station.specs.declared.calls.Shared.{Shared}
use Rattle.xc_station.specs.Handed.{handed_tx}
use Rattle.xc_station.specs.Jobs.{job_view, tx_view}
use Rattle.xc_station.specs.Moments.{HasNeeds, IsRunningRow, busy_counted, moved, runs, seated_as}
use Rattle.xc_station.specs.Backs.{CanGoBack}
use Rattle.xc_station.specs.Moments as moments
use Rattle.xc_station.specs.declared.tx.Tx.{Tx}
use Rattle.xc_station.proofs.Closed.{counted_doing, moves_handed, moves_on, active_with_job, its_active, active_again}
use Rattle.xc_station.proofs.RowsMarked.{gone_row, its_rank, revoked_row}
use Rattle.xc_station.proofs.running.run.Goals as goal
use Rattle.xc_station.proofs.Lending.{lends_from, lends_still}

pub returns-in-Some-clause-row : goal.returns-in-Some-clause-row
returns-in-Some-clause-row g c now at here journal =
    let model = g.H.Host.model in
    let s = setting c.args.script.now c.args.rules.now model.tells in
    let job = c.args.job.now in
    let was = c.requires.running in
    let shared = c.args.shared.now in
    let shared' : Shared g.row.H.Denot = record shared { sentinels = c.settle.new.sentinels } in
    let new = c.revoke-answer.new.tx in
    let doing = active_with_job job was.tx was.doing in
    let running : runs job.tx.phase ≡ true = ap (λ (t : TxView). runs t.phase) (its_active job was.tx was.doing) ∙ ap runs was.may.running in
    let number : new.number ≡ job.tx.number = ap (λ (t : TxView). t.number) c.revoke-answer.ensures.tx in
    let mine : seated_as (seat_in c.settle.new.sentinels.seats job.tx.number) ≡ Some (job.tx.rank, runs new.phase) =
    subst (λ (n : ℕ). seated_as (seat_in shared.sentinels.seats n) ≡ Some (job.tx.rank, true)
    → seated_as (seat_in c.settle.new.sentinels.seats n) ≡ Some (job.tx.rank, runs new.phase)) number (c.settle.ensures.own job.tx.rank)
    (its_rank model s shared now at (job_view job) (tx_view job.tx) here doing running) in
    subst (λ (a : Turn).
    IsRunningRow (mover s at now (job_view job)) (moved model shared' (job_view (record job { tx = new })) now at) a c.settle.new.sentinels)
    (sym c.revoke-answer.ensures.answer)
    (revoked_row model s shared now at (job_view job) (tx_view job.tx) here doing shared' (job_view (record job { tx = new }))
    (λ n ne. c.settle.ensures.others n (λ e. ne (e ∙ number)))
    c.in-Some.mark.now (sym (ap option_copied c.in-Some.is) ∙ c.doomed.ensures) refl refl
    c.settle.ensures.claims c.settle.ensures.marks (tx_view new) c.revoke-answer.ensures.tx
    (sym (moves_on job was.tx job.place new was.doing c.revoke-answer.ensures.begun)) mine)

pub returns-clause-row : goal.returns-clause-row
returns-clause-row g c now at here journal =
    let model = g.H.Host.model in
    let s = setting c.args.script.now c.args.rules.now model.tells in
    let job = c.args.job.now in
    let was = c.requires.running in
    let mid = c.step_running-answer.new.shared in
    let shared' : Shared g.row.H.Denot = record mid { sentinels = c.settle-2.new.sentinels } in
    let new = c.step_running-answer.new.tx in
    let doing = active_with_job job was.tx was.doing in
    let running : runs job.tx.phase ≡ true = ap (λ (t : TxView). runs t.phase) (its_active job was.tx was.doing) ∙ ap runs was.may.running in
    let answer = c.step_running-answer.result in
    let gone = busy_counted answer (handed_tx (job_view job) c.step_running-answer.new.handed c.step_running-answer.new.place (tx_view new)) in
    let behind : gone ≡ job_view c.count_wait.new.job =
    ap (busy_counted answer)
    (moves_handed job was.tx c.step_running-answer.new.handed c.step_running-answer.new.place new was.doing c.step_running-answer.ensures.begun)
    ∙ sym c.count_wait.ensures.counted in
    subst (λ (j : JobView). IsRunningRow (mover s at now (job_view job)) (moved model shared' j now at) answer c.settle-2.new.sentinels) behind
    (gone_row model s c.args.shared.now now at (job_view job) (tx_view job.tx) here doing shared' mid gone answer
    (sym (ap option_copied c.in_default.is) ∙ c.doomed.ensures)
    (c.step_running-answer.ensures.row c.args.rules.now now at (job_view job) here doing refl refl (record { patience = refl; entered = journal }))
    refl refl c.settle-2.ensures.claims c.settle-2.ensures.marks c.step_running-answer.ensures.seats running (tx_view new)
    (counted_doing answer (handed_tx (job_view job) c.step_running-answer.new.handed c.step_running-answer.new.place (tx_view new)))
    c.settle-2.ensures.others c.settle-2.ensures.own)

pub returns-in-Some-clause-lends : goal.returns-in-Some-clause-lends
returns-in-Some-clause-lends g c tx is =
    let new = c.revoke-answer.new.tx in (
      tx_view new,
      active_again c.args.job.now.tx new c.args.job.now.activity tx is,
      lends_still g.H.Host.model _ _ refl
          (ap (λ (t : TxView). t.taken) c.revoke-answer.ensures.tx ∙ ap (λ (t : TxView). t.taken) (its_active c.args.job.now tx is)),
    )

pub returns-clause-lends : goal.returns-clause-lends
returns-clause-lends g c tx is =
    let job = c.args.job.now in
    let new = c.step_running-answer.new.tx in
    let gone = handed_tx (job_view job) c.step_running-answer.new.handed c.step_running-answer.new.place (tx_view new) in (
      tx_view new,
      ap (λ (j : JobView). j.doing) (c.count_wait.ensures.counted ∙ ap (busy_counted c.step_running-answer.result)
          (sym (moves_handed job tx c.step_running-answer.new.handed c.step_running-answer.new.place new is c.step_running-answer.ensures.begun)))
          ∙ counted_doing c.step_running-answer.result gone,
      lends_from g.H.Host.model _ (record { old = tx_view job.tx; new = tx_view new }) tx (tx_view new)
          (sym (ap (λ (t : TxView). t.taken) (its_active job tx is))) refl c.step_running-answer.ensures.lends,
    )

pub step_running-answer-requires-clause-holds : goal.step_running-answer-requires-clause-holds
step_running-answer-requires-clause-holds g c =
    let was = c.requires.running in
    subst (λ (x : TxView). Holds c.args.shared.now.sentinels.claims x.number x.held) (sym (its_active c.args.job.now was.tx was.doing)) was.holds

pub step_running-answer-requires-clause-needs : goal.step_running-answer-requires-clause-needs
step_running-answer-requires-clause-needs g c =
    let was = c.requires.running in
    λ t. subst (λ (x : TxView). HasNeeds g.H.Host.model c.args.shared.now x) (sym (its_active c.args.job.now was.tx was.doing)) (was.needs t)

pub returns-clause-backs : goal.returns-clause-backs
returns-clause-backs g c active runs =
    let kept = c.count_wait.ensures.kept in
    subst (CanGoBack c.args.rules.now.undo_tries) (sym kept.0)
    (c.step_running-answer.ensures.backs (ap (λ (t : Tx). moments.runs t.phase) (sym kept.0) ∙ runs))
