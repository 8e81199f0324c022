-- Rows of the turn of a job whose transaction's block goes back.
use Rattle.std.proofs.Common.{◌≡◌, ◌≢◌, ◌⊎◌, ℕ, ◌+◌, ◌<◌, Bool, true, false, List, ◌++◌, length, ap, sym, ◌∙◌, subst, IsTrue}
use Rattle.std.specs.Prelude.{Contains, Option, drop, nat_lt, slice_set}
use Rattle.std.specs.declared.option.Option.TheVariants.{None, Some}
use Rattle.xc_data.specs.Counts.{RisesBy}
use Rattle.xc_data.specs.Faults.{end_faults}
use Rattle.xc_data.specs.Remaining.{objects_of}
use Rattle.xc_data.specs.declared.call.Call.TheVariants as call
use Rattle.xc_data.specs.declared.call.LateCall.{LateCall}
use Rattle.xc_data.specs.declared.claim.Claim.{Claim}
use Rattle.xc_data.specs.declared.entry.KeptItem.{KeptItem}
use Rattle.xc_data.specs.declared.entry.Mark.{Mark}
use Rattle.xc_data.specs.declared.entry.Turn.TheVariants as turn
use Rattle.xc_data.specs.declared.script.HostCallKind.{HostCallKind}
use Rattle.xc_compensate.specs.Records.{IsTried, Records}
use Rattle.xc_host.specs.Cause.{IsCalled}
use Rattle.xc_host.specs.Contents.{Contents, contents_of, world_of}
use Rattle.xc_host.specs.Kept.{with_kept}
use Rattle.xc_host.specs.Model.{HostModel}
use Rattle.xc_script.specs.Blocks.{back_to}
use Rattle.xc_script.specs.Position.{Position, walk_of}
use Rattle.xc_script.specs.declared.ask.Ask.TheVariants as ask
use Rattle.xc_sentinel.specs.declared.sentinels.Sentinels.{Sentinels}
use Rattle.xc_sentinel.specs.Seating.{seat_in}
use Rattle.xc_locks.specs.Table.{Table, mode_in, held_mode}
use Rattle.xc_world.specs.Beside.{AreElsewhere}
use Rattle.xc_world.specs.Effects.{undone_to}
use Rattle.xc_world.specs.Run.{given_back}
use Rattle.xc_world.specs.World.{World}
use Rattle.xc_model.specs.BackingRows.{BackingRow, BacksOne, EndsBack, MarkedBack, OpenRow, backed, phase_after}
use Rattle.xc_model.specs.Live.{IsScripted}
use Rattle.xc_model.specs.Setting.{Setting}
use Rattle.xc_model.specs.Moment.{Active, GivesBack, JobView, Moment, SavedView, TxView, active_in}
use Rattle.xc_model.specs.Movers.{IsActiveAt, IsSameBegin, Mover, answered_with, asked_at, mover, with_tx}
use Rattle.xc_model.specs.RunningRows.{MarkedTurn}
use Rattle.xc_station.specs.Backs.{IsBackRow}
use Rattle.xc_station.specs.Lent.{Lent}
use Rattle.xc_station.specs.Moments.{IsAt, IsRunningRow, front_of, marks_of, moved, runs, seated_as, told_front}
use Rattle.xc_station.specs.Returning.{IsOpenRow}
use Rattle.xc_station.specs.declared.calls.Shared.{Shared}
use Rattle.xc_station.proofs.Closed.{same_active}
use Rattle.xc_station.proofs.Lent.{kept_again, undone_kept}
use Rattle.xc_station.proofs.Tracked.{tracked_on}

-- ---- a revoked one's row is that of a running one
pub revoked_back : (m : Mover) (new : Moment) (mark : Mark) (sentinels : Sentinels)
    → ((tx : TxView) → m.job.doing ≡ Active tx → m.old.marks tx.number ≡ Some mark) → IsRunningRow m new turn.Went sentinels
    → IsBackRow m new turn.Went sentinels
revoked_back m new mark sentinels marked r =
    let is = marked r.tx r.doing in
    record {
      tx = r.tx;
      doing = r.doing;
      row = subst (λ (o : Option Mark). MarkedBack m r.tx o turn.Went new) (sym is)
          (subst (λ (o : Option Mark). MarkedTurn m r.tx o turn.Went new) is r.row);
      table = r.table;
      seats = r.seats;
    }

-- ---- in an open block
-- its row is the one of the block that is open
open_so : (m : Mover) (tx : TxView) (kept : SavedView) (b : Bool) (new : Moment) → m.job.doing ≡ Active tx → tx.saved ≡ Some kept
    → nat_lt (length kept.trail) (length tx.undo.pending) ≡ b → BackingRow m tx kept b new → IsOpenRow m new
open_so m tx kept b new doing inside test row =
    record {
      tx = tx;
      doing = doing;
      row = subst (λ (o : Option SavedView). OpenRow m tx o new) (sym inside) (subst (λ c. BackingRow m tx kept c new) (sym test) row);
    }

module _ {H : Type 0} (model : HostModel H) (s : Setting) (shared : Shared H) (now : Moment) (at : ℕ) (job : JobView) (tx : TxView)
    (here : IsAt model shared now at job) (doing : job.doing ≡ Active tx) where
  active : IsActiveAt now.jobs at tx
  active = (job, here.there, ap active_in doing)

  module _ (kept : SavedView) (inside : tx.saved ≡ Some kept) (shared' : Shared H) (job' : JobView) (words : shared'.words ≡ shared.words)
      (sentinels : shared'.sentinels ≡ shared.sentinels) where
    -- its newest record is tried
    pub tried_row : (tells : IsTrue s.tells → IsTrue model.tells) (undo : Records)
        (t : IsTried model s.rules.undo_tries (record { host = shared.host; undo = tx.undo }) (record { host = shared'.host; undo = undo }))
        → nat_lt (length kept.trail) (length tx.undo.pending) ≡ true
        → job' ≡ with_tx job job.place (record tx { phase = phase_after (length t.older + 1) t.end; undo = undo })
        → (IsTrue model.tells → AreElsewhere (objects_of t.tried) shared.buffers.kept) → shared'.buffers ≡ shared.buffers
        → IsOpenRow (mover s at now job) (moved model shared' job' now at)
    tried_row tells undo t test is away lent =
        let new = moved model shared' job' now at in
        let behind = is ∙ ap (λ (u : Records). with_tx job job.place (record tx { phase = phase_after (length t.older + 1) t.end; undo = u })) t.stack in
        let row : BacksOne (mover s at now job) tx kept new = record {
          older = t.older;
          tried = t.tried;
          end = t.end;
          newest = t.was;
          legal = t.legal;
          faults = subst (λ n. RisesBy (end_faults t.end) n new.faults) (sym here.faults) t.faults;
          uses = (
            t.uses.made,
            t.uses.named,
            subst (λ (calls : HostCallKind → ℕ). IsCalled t.uses.made calls new.calls) (sym here.calls) t.uses.used.called,
          );
          effect = λ it.
              (λ i. with_kept (t.effect (tells it) i) ((lent i).kept))
              ∙ undone_kept (model.contents shared.host) shared.buffers.kept t.tried t.end (away (tells it))
              ∙ ap (λ (c : Contents). contents_of (undone_to (world_of c) t.tried t.end)) (sym here.contents);
          behind = λ i. record now {
            words = (words ∙ sym here.words) i;
            contents = new.contents;
            faults = new.faults;
            calls = new.calls;
            kept = (ap (λ (l : Lent). l.kept) lent ∙ sym here.kept) i;
            jobs = slice_set now.jobs at (behind i);
            marks = (ap (λ (t : Sentinels). marks_of t.seats) sentinels ∙ sym here.marks) i;
          };
        } in
        open_so (mover s at now job) tx kept true new doing inside test row

    -- all are undone
    pub ended_row : (place : Position) (more : List LateCall) → nat_lt (length kept.trail) (length tx.undo.pending) ≡ false
        → IsSameBegin job.place place → walk_of s.script place ≡ back_to (walk_of s.script job.place) job.place.saved → place.saved ≡ None
        → (IsScripted s.script → job.place.at < place.at) → asked_at s job ≡ ask.Call call.Back → tx.late ≡ kept.late ++ more
        → job' ≡ answered_with job place (backed tx kept)
        → ((w : World) → given_back w shared'.buffers.kept ≡ given_back (given_back w shared.buffers.kept) (drop (length kept.taken) tx.taken))
        → ((item : KeptItem) → Contains shared'.buffers.kept item
        → Contains (drop (length kept.taken) tx.taken) item ⊎ Contains shared.buffers.kept item)
        → shared'.host ≡ shared.host → IsOpenRow (mover s at now job) (moved model shared' job' now at)
    ended_row place more test begin walk closed nearer asked cut is given among host =
        let new = moved model shared' job' now at in
        let row : EndsBack (mover s at now job) tx kept new = record {
          place = place;
          begin = begin;
          walk = walk;
          closed = closed;
          nearer = nearer;
          asked = asked;
          more = more;
          cut = cut;
          behind = λ i. record now {
            words = (words ∙ sym here.words) i;
            contents = new.contents;
            faults = (ap model.fault_count host ∙ sym here.faults) i;
            calls = (ap model.calls host ∙ sym here.calls) i;
            kept = new.kept;
            jobs = slice_set now.jobs at (is i);
            marks = (ap (λ (t : Sentinels). marks_of t.seats) sentinels ∙ sym here.marks) i;
          };
          given = subst (λ items. GivesBack (drop (length kept.taken) tx.taken) (record { old = items; new = shared'.buffers.kept })) (sym here.kept)
              (record { given = given; among = among });
          returned = λ _.
              ap (λ h. with_kept (model.contents h) shared'.buffers.kept) host
              ∙ kept_again (model.contents shared.host) shared.buffers.kept shared'.buffers.kept (drop (length kept.taken) tx.taken) given
              ∙ ap (λ (c : Contents). with_kept c (drop (length kept.taken) tx.taken)) (sym here.contents);
        } in
        open_so (mover s at now job) tx kept false new doing inside test row

  -- its seat, and that it isn't marked
  module _ (shared' : Shared H) (job' : JobView) (tx' : TxView) (none : None ≡ marks_of shared.sentinels.seats tx.number)
      (does : job'.doing ≡ Active tx') (number : tx'.number ≡ tx.number) (rank : tx'.rank ≡ tx.rank) (held : tx'.held ≡ tx.held) where
    -- then it is known whether it still runs
    pub back_row : (mid : Shared H) → IsOpenRow (mover s at now job) (moved model mid job' now at) → mid.sentinels ≡ shared.sentinels
        → front_of shared' ≡ front_of mid → shared'.words ≡ mid.words → shared'.sentinels.claims ≡ mid.sentinels.claims
        → marks_of shared'.sentinels.seats ≡ marks_of mid.sentinels.seats → runs tx.phase ≡ true
        → ((n : ℕ) → n ≢ tx'.number → seated_as (seat_in shared'.sentinels.seats n) ≡ seated_as (seat_in mid.sentinels.seats n))
        → ((rank : ℕ) → seated_as (seat_in mid.sentinels.seats tx'.number) ≡ Some (rank, true)
        → seated_as (seat_in shared'.sentinels.seats tx'.number) ≡ Some (rank, runs tx'.phase))
        → IsBackRow (mover s at now job) (moved model shared' job' now at) turn.Went shared'.sentinels
    back_row mid r same host words claims marks running others own =
        let same_moment : moved model mid job' now at ≡ moved model shared' job' now at = λ i. record now {
          words = sym words i;
          contents = told_front model (sym host i);
          faults = model.fault_count ((sym host i).host);
          calls = model.calls ((sym host i).host);
          kept = (sym host i).lent.kept;
          jobs = slice_set now.jobs at job';
          marks = sym marks i;
        } in
        let claims' : shared'.sentinels.claims ≡ shared.sentinels.claims = claims ∙ ap (λ (t : Sentinels). t.claims) same in
        let before : seated_as (seat_in mid.sentinels.seats tx.number) ≡ Some (tx.rank, true) =
        ap (λ (t : Sentinels). seated_as (seat_in t.seats tx.number)) same ∙ here.seats.held at tx active ∙ ap (λ (b : Bool). Some (tx.rank, b)) running in
        let mine : seated_as (seat_in shared'.sentinels.seats tx.number) ≡ Some (tx.rank, runs tx'.phase) =
        subst (λ n. seated_as (seat_in mid.sentinels.seats n) ≡ Some (tx.rank, true)
        → seated_as (seat_in shared'.sentinels.seats n) ≡ Some (tx.rank, runs tx'.phase)) number (own tx.rank) before in
        let unmarked : now.marks r.tx.number ≡ None =
        ap (λ (t : TxView). now.marks t.number) (same_active r.tx tx (sym r.doing ∙ doing)) ∙ ap (λ (ms : ℕ → Option Mark). ms tx.number) here.marks
        ∙ sym none in
        record {
          tx = r.tx;
          doing = r.doing;
          row = subst (λ (mark : Option Mark). MarkedBack (mover s at now job) r.tx mark turn.Went (moved model shared' job' now at)) (sym unmarked)
              (subst (OpenRow (mover s at now job) r.tx r.tx.saved) same_moment r.row);
          table = λ o. tracked_on (λ n. held_mode shared.sentinels.claims n o) (λ (t : TxView). mode_in t.held o) now.jobs (here.table o)
              (λ n. held_mode shared'.sentinels.claims n o) at job job' here.there here.single tx (ap active_in doing)
              (λ n ne. ap (λ (t : Table). held_mode t n o) claims') tx' (ap active_in does) number
              (ap (λ (t : Table). held_mode t tx.number o) claims' ∙ (here.table o).held at tx active
              ∙ ap (λ (hs : List Claim). mode_in hs o) (sym held));
          seats = tracked_on (λ n. seated_as (seat_in shared.sentinels.seats n)) (λ (t : TxView). Some (t.rank, runs t.phase)) now.jobs here.seats
              (λ n. seated_as (seat_in shared'.sentinels.seats n)) at job job' here.there here.single tx (ap active_in doing)
              (λ n ne. others n (λ e. ne (e ∙ number)) ∙ ap (λ (t : Sentinels). seated_as (seat_in t.seats n)) same) tx' (ap active_in does) number
              (mine ∙ ap (λ k. Some (k, runs tx'.phase)) (sym rank));
        }
