-- Rows of the turn of a job whose transaction runs, with its mark and its seat.
use Rattle.std.proofs.Common.{◌≡◌, ◌≢◌, ℕ, Bool, true, ap, sym, ◌∙◌, subst}
use Rattle.std.specs.Prelude.{Option, slice_get, slice_set}
use Rattle.std.specs.declared.option.Option.TheVariants.{None, Some}
use Rattle.xc_data.specs.declared.entry.Mark.{Mark}
use Rattle.xc_data.specs.declared.entry.Turn.{Turn}
use Rattle.xc_data.specs.declared.entry.Turn.TheVariants as turn
use Rattle.xc_host.specs.Model.{HostModel}
use Rattle.xc_sentinel.specs.Seated.{Seats}
use Rattle.xc_sentinel.specs.Seating.{seat_in}
use Rattle.xc_locks.specs.Table.{Table, mode_in, held_mode}
use Rattle.xc_model.specs.declared.phase.Phase.TheVariants.{Undoing}
use Rattle.xc_model.specs.Setting.{Setting}
use Rattle.xc_model.specs.Moment.{TxView, JobView, Active, Moment, active_in, revoked}
use Rattle.xc_model.specs.Movers.{IsActiveAt, with_tx, mover}
use Rattle.xc_model.specs.RunningRows.{MarkedTurn, RunningTurn}
use Rattle.xc_station.specs.declared.calls.Shared.{Shared}
use Rattle.xc_station.specs.Moments.{Front, front_of, told_front}
use Rattle.xc_station.specs.Moments.{AreSeats, KeepsSeated, IsAt, IsRow, IsRunningRow, IsTable, marks_of, moved, runs, seated_as}
use Rattle.xc_station.proofs.Closed.{same_active}
use Rattle.xc_data.proofs.Laws.{get_set_same}
use Rattle.xc_station.proofs.RoomsKept.{number_kept}
use Rattle.xc_station.proofs.Tracked.{tracked_on}

module _ {H : Type 0} (model : HostModel H) (s : Setting) (shared : Shared H) (now : Moment) (at : ℕ) (job : JobView) (tx : TxView)
    (here : IsAt model shared now at job) (doing : job.doing ≡ Active tx) where
  active : IsActiveAt now.jobs at tx
  active = (job, here.there, ap active_in doing)

  -- what the sentinels keep of it, after a turn
  seats_on : (seats : Seats) (job' : JobView) (tx' : TxView) → job'.doing ≡ Active tx' → tx'.number ≡ tx.number
      → ((n : ℕ) → n ≢ tx.number → seated_as (seat_in seats n) ≡ seated_as (seat_in shared.sentinels.seats n))
      → seated_as (seat_in seats tx.number) ≡ Some (tx'.rank, runs tx'.phase) → AreSeats seats (slice_set now.jobs at job')
  seats_on seats job' tx' doing' number others mine =
      tracked_on (λ n. seated_as (seat_in shared.sentinels.seats n)) (λ (t : TxView). Some (t.rank, runs t.phase)) now.jobs here.seats
      (λ n. seated_as (seat_in seats n)) at job job' here.there here.single tx (ap active_in doing) others tx' (ap active_in doing') number mine

  -- its mark
  marked_as : (mark : Option Mark) → mark ≡ marks_of shared.sentinels.seats tx.number → now.marks tx.number ≡ mark
  marked_as mark is = ap (λ (ms : ℕ → Option Mark). ms tx.number) here.marks ∙ sym is

  -- a running one has a seat of its rank
  pub its_rank : runs tx.phase ≡ true → seated_as (seat_in shared.sentinels.seats tx.number) ≡ Some (tx.rank, true)
  its_rank running = here.seats.held at tx active ∙ ap (λ (b : Bool). Some (tx.rank, b)) running

  module _ (shared' : Shared H) (job' : JobView)
      (others : (n : ℕ) → n ≢ tx.number → seated_as (seat_in shared'.sentinels.seats n) ≡ seated_as (seat_in shared.sentinels.seats n)) where
    -- it is revoked
    pub revoked_row : (m : Mark) → Some m ≡ marks_of shared.sentinels.seats tx.number → front_of shared' ≡ front_of shared → shared'.words ≡ shared.words
        → shared'.sentinels.claims ≡ shared.sentinels.claims → marks_of shared'.sentinels.seats ≡ marks_of shared.sentinels.seats
        → (tx' : TxView) → tx' ≡ record tx { phase = Undoing (revoked m) } → job' ≡ with_tx job job.place tx'
        → seated_as (seat_in shared'.sentinels.seats tx.number) ≡ Some (tx.rank, runs tx'.phase)
        → IsRunningRow (mover s at now job) (moved model shared' job' now at) turn.Went shared'.sentinels
    revoked_row m is host words claims marks tx' undoes behind mine =
        let number : tx'.number ≡ tx.number = ap (λ (t : TxView). t.number) undoes in
        let doing' : job'.doing ≡ Active tx' = ap (λ (j : JobView). j.doing) behind in
        let rank : tx'.rank ≡ tx.rank = ap (λ (t : TxView). t.rank) undoes in
        let job_is : job' ≡ with_tx job job.place (record tx { phase = Undoing (revoked m) }) = behind ∙ ap (with_tx job job.place) undoes in
        record {
          tx = tx;
          doing = doing;
          row = subst (λ (mark : Option Mark). MarkedTurn (mover s at now job) tx mark turn.Went (moved model shared' job' now at))
              (sym (marked_as (Some m) is))
              (λ i. record now {
                words = (words ∙ sym here.words) i;
                contents = (ap (told_front model) host ∙ sym here.contents) i;
                faults = (ap (λ (f : Front H). model.fault_count f.host) host ∙ sym here.faults) i;
                calls = (ap (λ (f : Front H). model.calls f.host) host ∙ sym here.calls) i;
                kept = (ap (λ (f : Front H). f.lent.kept) host ∙ sym here.kept) i;
                jobs = slice_set now.jobs at (job_is i);
                marks = (marks ∙ sym here.marks) i;
              });
          table = λ o. tracked_on (λ n. held_mode shared.sentinels.claims n o) (λ (t : TxView). mode_in t.held o) now.jobs (here.table o)
              (λ n. held_mode shared'.sentinels.claims n o) at job job' here.there here.single tx (ap active_in doing)
              (λ n ne. ap (λ (t : Table). held_mode t n o) claims) tx' (ap active_in doing') number
              (ap (λ (t : Table). held_mode t tx.number o) claims ∙ (here.table o).held at tx active
              ∙ ap (λ (t : TxView). mode_in t.held o) (sym undoes));
          seats = seats_on shared'.sentinels.seats job' tx' doing' number others (mine ∙ ap (λ r. Some (r, runs tx'.phase)) (sym rank));
        }

  -- it does what is asked; then it is known whether it still runs
  pub gone_row : (shared' mid : Shared H) (job' : JobView) (answer : Turn) → None ≡ marks_of shared.sentinels.seats tx.number
      → IsRow (mover s at now job) (moved model mid job' now at) answer mid.sentinels.claims
      → front_of shared' ≡ front_of mid → shared'.words ≡ mid.words → shared'.sentinels.claims ≡ mid.sentinels.claims
      → marks_of shared'.sentinels.seats ≡ marks_of mid.sentinels.seats
      → KeepsSeated shared.sentinels.seats mid.sentinels.seats → runs tx.phase ≡ true
      → (tx' : TxView) → job'.doing ≡ Active tx'
      → ((n : ℕ) → n ≢ tx'.number → seated_as (seat_in shared'.sentinels.seats n) ≡ seated_as (seat_in mid.sentinels.seats n))
      → ((rank : ℕ) → seated_as (seat_in mid.sentinels.seats tx'.number) ≡ Some (rank, true)
      → seated_as (seat_in shared'.sentinels.seats tx'.number) ≡ Some (rank, runs tx'.phase))
      → IsRunningRow (mover s at now job) (moved model shared' job' now at) answer shared'.sentinels
  gone_row shared' mid job' answer is r host words claims marks kept running tx' doing' others own =
      let same : moved model mid job' now at ≡ moved model shared' job' now at = λ i. record now {
        words = sym words i;
        contents = told_front model (sym host i);
        faults = model.fault_count ((sym host i).host);
        calls = model.calls ((sym host i).host);
        kept = (sym host i).lent.kept;
        jobs = slice_set now.jobs at job';
        marks = sym marks i;
      } in
      let row : RunningTurn (mover s at now job) tx answer (moved model mid job' now at) =
      subst (λ (t : TxView). RunningTurn (mover s at now job) t answer (moved model mid job' now at)) (same_active r.tx tx (sym r.doing ∙ doing)) r.row in
      let on = number_kept s at now job tx answer (moved model mid job' now at) row in
      let here' = get_set_same now.jobs at job job' here.there in
      let also = get_set_same now.jobs at job on.behind here.there in
      let both = ap (λ js. slice_get js at) on.jobs in
      let one : job' ≡ on.behind = cc (here', also, both) in
      let tx_is : on.tx' ≡ tx' = same_active on.tx' tx' (sym on.doing ∙ ap (λ (j : JobView). j.doing) (sym one) ∙ doing') in
      let number : tx'.number ≡ tx.number = ap (λ (t : TxView). t.number) (sym tx_is) ∙ on.number in
      let rank : tx'.rank ≡ tx.rank = ap (λ (t : TxView). t.rank) (sym tx_is) ∙ on.rank in
      let mine : seated_as (seat_in shared'.sentinels.seats tx.number) ≡ Some (tx.rank, runs tx'.phase) =
      subst (λ n. seated_as (seat_in mid.sentinels.seats n) ≡ Some (tx.rank, true)
      → seated_as (seat_in shared'.sentinels.seats n) ≡ Some (tx.rank, runs tx'.phase)) number (own tx.rank) (kept tx.number ∙ its_rank running) in
      record {
        tx = tx;
        doing = doing;
        row = subst (λ (mark : Option Mark). MarkedTurn (mover s at now job) tx mark answer (moved model shared' job' now at)) (sym (marked_as None is))
            (subst (RunningTurn (mover s at now job) tx answer) same row);
        table = subst (λ (t : Table). IsTable t (slice_set now.jobs at job')) (sym claims) r.table;
        seats = seats_on shared'.sentinels.seats job' tx' doing' number
            (λ n ne. others n (λ e. ne (e ∙ number)) ∙ kept n) (mine ∙ ap (λ r. Some (r, runs tx'.phase)) (sym rank));
      }
