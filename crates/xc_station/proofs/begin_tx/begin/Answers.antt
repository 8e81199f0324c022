use Rattle.std.proofs.Common.{◌≡◌, ◌+◌, ℕ, refl, ap, sym, subst, arith, ◌∙◌, Option, Some, None, true}
use Rattle.xc_data.specs.declared.entry.Mark.{Mark}
use Rattle.xc_script.specs.Position.{Position}
use Rattle.xc_sentinel.specs.Seating.{KeepsSeats, SetsSeat}
use Rattle.xc_model.specs.Moment.{begun_count, unmarked, with_job}
use Rattle.xc_model.specs.Live.{has_clients}
use Rattle.xc_model.specs.Setting.{setting}
use Rattle.xc_station.specs.Beginning.{GoesWithout}
use Rattle.xc_station.specs.Jobs.{job_view}
use Rattle.xc_station.specs.Moments.{marks_of}
use Rattle.xc_station.proofs.Begun.{all_begun, begin_stopped, goes_without, job_begins, stopped_seats, stopped_there}
use Rattle.xc_station.proofs.Begun.{where_err, where_ok, without_begun, without_seats}
use Rattle.xc_station.proofs.Seated.{marks_kept, marks_unmarked}
use Rattle.xc_station.proofs.begin_tx.begin.Goals as goal

pub stop-requires : goal.stop-requires
stop-requires c = c.in-Some.ensures.patient

pub returns-in-Some-clause-row : goal.returns-in-Some-clause-row
returns-in-Some-clause-row c tells now at begun sat same there =
    begin_stopped (setting c.args.script.now c.args.rules.now tells) at now (job_view c.args.job.now) _ c.in-Some.halt _ _ same
    (c.in-Some.ensures.halts tells now (all_begun now _ _ _ begun c.len-entered.ensures) sat) c.stop.ensures.stopped

pub returns-in-Some-clause-seats : goal.returns-in-Some-clause-seats
returns-in-Some-clause-seats c = stopped_seats _ _ c.args.sentinels.now.seats _ _ c.in-Some.halt _ c.stop.ensures.stopped

pub returns-in-Some-clause-room : goal.returns-in-Some-clause-room
returns-in-Some-clause-room c = (λ went. absurd (stopped_there _ _ c.in-Some.halt _ c.stop.ensures.stopped went), omega arith)

pub returns-then-is_err-clause-seats : goal.returns-then-is_err-clause-seats
returns-then-is_err-clause-seats c =
    let kept = where_err c.take_room.result (sym c.is_err.ensures.value ∙ c.if-is_err.true) c.take_room.ensures.err_seats in
    without_seats _ _ c.args.sentinels.now.seats c.take_room.new.sentinels.seats (has_clients c.args.script.now) _ _ _ c.go_without.ensures.without kept

pub returns-then-is_err-clause-room : goal.returns-then-is_err-clause-room
returns-then-is_err-clause-room c =
    (λ went. absurd (without_begun (has_clients c.args.script.now) _ _ _ c.go_without.ensures.without went), c.take_room.ensures.kept)

pub returns-then-is_err-clause-row : goal.returns-then-is_err-clause-row
returns-then-is_err-clause-row c tells now at begun sat same there =
    let job = c.args.job.now in
    let clients = has_clients c.args.script.now in
    let ready = c.in_default.ensures.halts tells now (all_begun now _ _ _ begun c.len-entered.ensures) sat in
    let failed = sym c.is_err.ensures.value ∙ c.if-is_err.true in
    let place = where_err c.take_room.result failed c.take_room.ensures.err_place in
    let seats : KeepsSeats c.args.sentinels.now.seats c.take_room.new.sentinels.seats = where_err c.take_room.result failed c.take_room.ensures.err_seats in
    let without : GoesWithout clients (job_view job) (job_view c.go_without.new.job) c.go_without.result =
    subst (λ (p : Position). GoesWithout clients (record (job_view job) { place = p }) (job_view c.go_without.new.job) c.go_without.result) place
    c.go_without.ensures.without in
    goes_without (setting c.args.script.now c.args.rules.now tells) at now (job_view job) _ _ (marks_of c.take_room.new.sentinels.seats)
    (same ∙ sym (marks_kept c.args.sentinels.now.seats c.take_room.new.sentinels.seats seats)) there ready clients refl without

pub returns-clause-row : goal.returns-clause-row
returns-clause-row c tells now at begun sat same there =
    let job = c.args.job.now in
    let done = sym c.is_err.ensures.value ∙ c.if-is_err.false in
    let placed = where_ok c.take_room.result done c.take_room.ensures.ok_place in
    let sets : SetsSeat c.args.sentinels.now.seats c.take_room.new.sentinels.seats (c.len-entered.result + c.args.active + 1)
    (Some (record { rank = c.rank_of-rank.result; running = true; mark = None })) = where_ok c.take_room.result done c.take_room.ensures.ok_seats in
    let number = all_begun now _ _ _ begun c.len-entered.ensures in
    let job' = job_begins now (job_view job) _ _ _ _ _ _ _ c.begin.ensures.begun begun c.len-entered.ensures placed c.rank_of-rank.ensures c.begin.ensures.tx in
    let marks : marks_of c.take_room.new.sentinels.seats ≡ unmarked now.marks (begun_count now + 1) =
    marks_unmarked c.args.sentinels.now.seats c.take_room.new.sentinels.seats (c.len-entered.result + c.args.active + 1)
    (Some (record { rank = c.rank_of-rank.result; running = true; mark = None })) sets refl
    ∙ ap (λ (ms : ℕ → Option Mark). unmarked ms (c.len-entered.result + c.args.active + 1)) (sym same)
    ∙ ap (λ n. unmarked now.marks (n + 1)) (sym number) in (
      c.in_default.ensures.halts tells now number sat,
      λ i. record (with_job now at (job' i)) { marks = marks i },
    )
