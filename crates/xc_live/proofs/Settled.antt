-- A block of a client that goes back: one turn of it at the station.
use Rattle.std.proofs.Common.{◌≡◌, ◌≢◌, ℕ, ◌-◌, ◌<◌, ◌≤◌, true, List, [], ◌∷◌, length, length-append, ap, sym, ◌∙◌, subst, arith}
use Rattle.std.specs.Prelude.{replicate}
use Rattle.std.specs.declared.option.Option.TheVariants.{Some}
use Rattle.xc_data.specs.declared.entry.Entry.{Entry}
use Rattle.xc_data.specs.declared.entry.Turn.{Turn}
use Rattle.xc_data.specs.declared.entry.Turn.TheVariants as turn
use Rattle.xc_data.specs.declared.object.Object.{Object}
use Rattle.xc_host.specs.Model.{HostModel}
use Rattle.xc_script.specs.declared.ask.Ask.{Ask}
use Rattle.xc_model.specs.declared.phase.Phase.{Phase}
use Rattle.xc_model.specs.declared.phase.Phase.TheVariants.{Backing}
use Rattle.xc_model.specs.Moment.{TxView}
use Rattle.xc_station.specs.Finishing.{AddsEntry, phase_at}
use Rattle.xc_station.specs.Jobs.{job_views}
use Rattle.xc_station.specs.Stations.{HasTurned, StationView, TakeTurns, live_at, now_of, setting_of}
use Rattle.xc_live.specs.Clients.{HasTakenUp}
use Rattle.xc_live.specs.Moving.{AskedAt, AsksAt, IsMoved, back_turns, back_turns_at, back_turns_in, back_turns_of}
use Rattle.xc_live.proofs.Answered.{HasBacked, turn_asked, turn_backed}
use Rattle.xc_live.proofs.Numbered.{active_lives, turns_taken, turn_taken, phase_told, setting_kept}

module _ {H : Type 0} (model : HostModel H) (client : ℕ) (some : 0 < client) (tx : TxView) (asked : Ask) (old : StationView H)
    (had : AskedAt model client tx asked old) where
  -- it lives
  pub asked_lives : live_at old.jobs client ≡ true
  asked_lives = active_lives old.jobs client had.job had.is some had.there had.active

  module _ (told : phase_at (job_views old.jobs) client ≡ Some Backing) (new : StationView H) (answer : Turn)
      (turned : HasTurned model client (record { old = old; new = new }) answer) where
    backs : had.is.phase ≡ Backing
    backs =
        let is : phase_at (job_views old.jobs) client ≡ Some had.is.phase =
        phase_told (job_views old.jobs) client had.job had.is some had.there had.active in
        let both : Some had.is.phase ≡ Some Backing = sym is ∙ told in cc both

    backed : HasBacked (setting_of model old) (client - 1) tx asked (back_turns had.is Backing) (now_of model new)
    backed = turn_backed (setting_of model old) (client - 1) tx asked (now_of model old) had (now_of model new) backs answer turned.0

    -- after a turn it is on its way still, or the call is answered
    pub asked_on : AskedAt model client tx asked new
    asked_on =
        subst (λ s. HasTakenUp s (client - 1) tx asked (now_of model new)) (sym (setting_kept model client old new turned.1)) backed.asked_so

    -- with fewer turns left
    pub turns_fall : back_turns_at (job_views new.jobs) client < back_turns_at (job_views old.jobs) client
    turns_fall =
        let before : back_turns_at (job_views old.jobs) client ≡ back_turns had.is Backing =
        ap back_turns_in had.there ∙ ap back_turns_of had.active ∙ ap (back_turns had.is) backs in
        let behind : back_turns_at (job_views new.jobs) client ≡ back_turns_of backed.asked_so.job.doing = ap back_turns_in backed.asked_so.there in
        let fewer = backed.fewer in
        omega (arith, before, behind, fewer)

    -- one turn more was taken
    pub turn_more : (n : ℕ) (first : StationView H) → TakeTurns model (replicate n client) first old
        → (k : ℕ) × TakeTurns model (replicate k client) first new
    turn_more n first turns = turns_taken model client n 1 first old new turns (turn_taken model client answer old new asked_lives turned)

-- ---- a call that is handed in
module _ {H : Type 0} (model : HostModel H) (client : ℕ) (some : 0 < client) (old : StationView H) where
  -- who asks lives
  pub asking_lives : (tx : TxView) (asked : Ask) → AsksAt model client tx asked old → live_at old.jobs client ≡ true
  asking_lives tx asked asks = active_lives old.jobs client asks.job tx some asks.there asks.active

  -- where it isn't told to wait it took its turn
  pub asking_moved : (new : StationView H) (answer : Turn) → HasTurned model client (record { old = old; new = new }) answer
      → ((object : Object) (number : ℕ) → answer ≢ turn.Busy object number) → IsMoved model client (record { old = old; new = new })
  asking_moved new answer turned other tx asked asks = (
    turn_taken model client answer old new (asking_lives tx asked asks) turned,
    subst (λ s. HasTakenUp s (client - 1) tx asked (now_of model new)) (sym (setting_kept model client old new turned.1))
        (turn_asked (setting_of model old) (client - 1) tx asked (now_of model old) asks (now_of model new) answer other turned.0),
  )

-- one entry more leaves fewer
pub entries_fall : (client : ℕ) (phase : Phase) (old mid new : List Entry) → AddsEntry client phase old new → mid ≡ old → length mid ≤ 4294967295
    → 4294967296 - length new < 4294967296 - length old
entries_fall client phase old mid new (e, grown, is) same few =
    omega (arith, ap length grown, length-append old (e ∷ []), ap length same, few)
