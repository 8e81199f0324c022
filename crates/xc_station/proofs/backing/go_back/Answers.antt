use Rattle.std.proofs.Common.{◌≡◌, ◌+◌, ℕ, true, Some, inr, length, refl, subst, sym, ap, ◌∙◌}
use Rattle.std.specs.Prelude.{option_copied, Contains}
use Rattle.xc_data.specs.declared.entry.Mark.{Mark}
use Rattle.xc_data.specs.declared.entry.Turn.{Turn}
use Rattle.xc_data.specs.Step.{Step}
use Rattle.xc_sentinel.specs.Seating.{seat_in}
use Rattle.xc_model.specs.Moment.{TxView}
use Rattle.xc_model.specs.Movers.{mover}
use Rattle.xc_model.specs.Setting.{setting}
use Rattle.std.specs.Prelude.{Option}
use Rattle.xc_station.specs.Backs.{IsBackRow}
use Rattle.xc_station.specs.Jobs.{job_view, tx_view}
use Rattle.xc_station.specs.Moments.{Front, front_of, marks_of, moved, runs, seated_as}
use Rattle.xc_station.specs.Returning.{Returns}
use Rattle.xc_station.specs.declared.calls.Shared.{Shared}
use Rattle.xc_station.proofs.Closed.{active_again, active_with_job, its_active, moves_on}
use Rattle.xc_station.proofs.RowsBack.{back_row, revoked_back}
use Rattle.xc_station.proofs.RowsMarked.{its_rank, revoked_row}
use Rattle.xc_station.proofs.backing.go_back.Goals as goal

pub returns-in-Some-clause-returns : goal.returns-in-Some-clause-returns
returns-in-Some-clause-returns g c tx is =
    let job = c.args.job.now in
    let new = c.revoke-answer.new.tx in
    let shared' : Shared g.row.H.Denot = record c.args.shared.now { sentinels = c.settle.new.sentinels } in
    let front : Step (Front g.row.H.Denot) = record { old = front_of c.args.shared.now; new = front_of shared' } in
    let view = c.revoke-answer.ensures.tx in (
      tx_view new,
      active_again job.tx new job.activity tx is,
      subst (λ (x : TxView). Returns g.H.Host.model front (record { old = x; new = tx_view new })) (its_active job tx is) (record {
        noted = ap (λ (t : TxView). c.args.shared.now.buffers.noted + length t.taken) (sym view);
        number = ap (λ (t : TxView). t.number) view;
        rank = ap (λ (t : TxView). t.rank) view;
        held = ap (λ (t : TxView). t.held) view;
        taken = λ item there. subst (λ (t : TxView). Contains t.taken item) view there;
        by_turn = inr (record { host = refl; among = λ item there. inr there });
      }),
    )

pub returns-in-Some-clause-row : goal.returns-in-Some-clause-row
returns-in-Some-clause-row g c now at here =
    let model = g.H.Host.model in
    let s = setting c.args.script.now c.args.rules.now model.tells in
    let job = c.args.job.now in
    let was = c.requires.can in
    let shared = c.args.shared.now in
    let shared' : Shared g.row.H.Denot = record shared { sentinels = c.settle.new.sentinels } in
    let new = c.revoke-answer.new.tx in
    let doing = active_with_job job was.tx was.doing in
    let running : runs job.tx.phase ≡ true = ap (λ (t : TxView). runs t.phase) (its_active job was.tx was.doing) ∙ ap runs was.backing in
    let number : new.number ≡ job.tx.number = ap (λ (t : TxView). t.number) c.revoke-answer.ensures.tx in
    let mark : Some c.in-Some.mark.now ≡ marks_of shared.sentinels.seats job.tx.number = sym (ap option_copied c.in-Some.is) ∙ c.doomed.ensures in
    let mine : seated_as (seat_in c.settle.new.sentinels.seats job.tx.number) ≡ Some (job.tx.rank, runs new.phase) =
    subst (λ (n : ℕ). seated_as (seat_in shared.sentinels.seats n) ≡ Some (job.tx.rank, true)
    → seated_as (seat_in c.settle.new.sentinels.seats n) ≡ Some (job.tx.rank, runs new.phase)) number (c.settle.ensures.own job.tx.rank)
    (its_rank model s shared now at (job_view job) (tx_view job.tx) here doing running) in
    subst (λ (a : Turn).
    IsBackRow (mover s at now (job_view job)) (moved model shared' (job_view (record job { tx = new })) now at) a c.settle.new.sentinels)
    (sym c.revoke-answer.ensures.answer)
    (revoked_back (mover s at now (job_view job)) (moved model shared' (job_view (record job { tx = new })) now at) c.in-Some.mark.now
    c.settle.new.sentinels
    (λ tx does. ap (λ (ms : ℕ → Option Mark). ms tx.number) here.marks
    ∙ ap (λ (t : TxView). marks_of shared.sentinels.seats t.number) (sym (its_active job tx does)) ∙ sym mark)
    (revoked_row model s shared now at (job_view job) (tx_view job.tx) here doing shared' (job_view (record job { tx = new }))
    (λ n ne. c.settle.ensures.others n (λ e. ne (e ∙ number))) c.in-Some.mark.now mark refl refl
    c.settle.ensures.claims c.settle.ensures.marks (tx_view new) c.revoke-answer.ensures.tx
    (sym (moves_on job was.tx job.place new was.doing c.revoke-answer.ensures.begun)) mine))

pub returns-clause-row : goal.returns-clause-row
returns-clause-row g c now at here =
    let model = g.H.Host.model in
    let s = setting c.args.script.now c.args.rules.now model.tells in
    let job = c.args.job.now in
    let was = c.requires.can in
    let shared = c.args.shared.now in
    let mid = c.step_back.new.shared in
    let shared' : Shared g.row.H.Denot = record mid { sentinels = c.settle-2.new.sentinels } in
    let new = c.step_back.new.job in
    let doing = active_with_job job was.tx was.doing in
    let running : runs job.tx.phase ≡ true = ap (λ (t : TxView). runs t.phase) (its_active job was.tx was.doing) ∙ ap runs was.backing in
    let went = c.step_back.ensures.returns (tx_view job.tx) doing in
    let behind = went.0 in
    let its : tx_view new.tx ≡ behind = its_active new behind went.1 in
    let r = went.2 in
    back_row model s shared now at (job_view job) (tx_view job.tx) here doing shared' (job_view new) (tx_view new.tx)
    (sym (ap option_copied c.in_default.is) ∙ c.doomed.ensures) (active_with_job new behind went.1)
    (ap (λ (t : TxView). t.number) its ∙ r.number) (ap (λ (t : TxView). t.rank) its ∙ r.rank) (ap (λ (t : TxView). t.held) its ∙ r.held)
    mid (c.step_back.ensures.row now at here) c.step_back.ensures.sentinels refl refl c.settle-2.ensures.claims c.settle-2.ensures.marks running
    c.settle-2.ensures.others c.settle-2.ensures.own
