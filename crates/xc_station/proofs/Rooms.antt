-- What a station keeps beside its moment: the table of claims, the seats, and room.
use Rattle.std.proofs.Common.{◌≡◌, ℕ, ◌+◌, ◌≤◌, length, [], ap, sym, ◌∙◌, subst, arith}
use Rattle.std.specs.Prelude.{slice_get, slice_set}
use Rattle.std.specs.declared.option.Option.TheVariants.{Some}
use Rattle.xc_data.specs.declared.entry.JobLine.{JobLine}
use Rattle.xc_roomy.specs.Room.{Roomy}
use Rattle.xc_model.specs.Moment.{TxView, JobView, Moment, Idle, active_of, actives}
use Rattle.xc_station.specs.declared.calls.Shared.{Shared}
use Rattle.xc_station.specs.Lent.{notes_in_all, notes_of}
use Rattle.xc_station.specs.Moments.{AreSeats, IsTable}
use Rattle.xc_station.specs.Stations.{HasRooms}
use Rattle.xc_station.proofs.Notes.{notes_set}
use Rattle.xc_data.proofs.Laws.{ones, picked_set, length_set}

-- ---- all
-- with another job in one place
pub rooms_set : {H : Type 0} (shared shared' : Shared H) (active active' spare spare' : ℕ) (old new : Moment) (lines : Roomy JobLine) (at : ℕ)
    (job job' : JobView)
    → slice_get old.jobs at ≡ Some job → new.jobs ≡ slice_set old.jobs at job'
    → IsTable shared'.sentinels.claims (slice_set old.jobs at job') → AreSeats shared'.sentinels.seats (slice_set old.jobs at job')
    → shared'.buffers.noted + notes_of job ≡ shared.buffers.noted + notes_of job'
    → active' + ones (active_of job) ≡ active + ones (active_of job') → active' ≤ spare'
    → HasRooms shared active spare old lines → HasRooms shared' active' spare' new lines
rooms_set shared shared' active active' spare spare' old new lines at job job' there set are sit notes count room has =
    let many : length new.jobs ≡ length old.jobs = ap length set ∙ length_set old.jobs at job' in
    let picked = picked_set active_of old.jobs at job' job there in
    let same : length (actives new.jobs) ≡ length (actives (slice_set old.jobs at job')) = ap (λ js. length (actives js)) set in
    record {
      claims = subst (IsTable shared'.sentinels.claims) (sym set) are;
      seats = subst (AreSeats shared'.sentinels.seats) (sym set) sit;
      noted = ap notes_in_all set ∙ (let was = has.noted in let moved = notes_set old.jobs at job' job there in omega (arith, was, moved, notes));
      few = let few = has.few in omega (arith, few, many);
      count = let was = has.count in omega (arith, picked, same, was, count);
      room = room;
      none = has.none;
    }

-- with other room for lines
pub rooms_relined : {H : Type 0} (shared : Shared H) (active spare : ℕ) (now : Moment) (lines lines' : Roomy JobLine) → lines'.items ≡ []
    → HasRooms shared active spare now lines → HasRooms shared active spare now lines'
rooms_relined shared active spare now lines lines' none has =
    record {
      claims = has.claims;
      seats = has.seats;
      noted = has.noted;
      few = has.few;
      count = has.count;
      room = has.room;
      none = none;
    }

-- a job with an active transaction is one of those that are counted
pub active_counted : {H : Type 0} (shared : Shared H) (active spare : ℕ) (now : Moment) (lines : Roomy JobLine) (at : ℕ) (job : JobView) (tx : TxView)
    → slice_get now.jobs at ≡ Some job
    → active_of job ≡ Some tx → HasRooms shared active spare now lines → (1 ≤ active) × (1 ≤ spare)
active_counted shared active spare now lines at job tx there is has =
    let none : JobView = record job { doing = Idle } in
    let picked = picked_set active_of now.jobs at none job there in
    let one : ones (active_of job) ≡ 1 = ap ones is in
    let was = has.count in
    let room = has.room in (omega (arith, picked, one, was), omega (arith, picked, one, was, room))
