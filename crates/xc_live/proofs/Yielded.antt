-- A client is told to wait for a younger one: that one is revoked, and comes to its entry.
use Rattle.std.proofs.Common.{◌≡◌, ◌≢◌, inl, inr, ℕ, suc, ◌+◌, ◌-◌, ◌<◌, Bool, true, false, length}
use Rattle.std.proofs.Common.{refl, ap, sym, ◌∙◌, subst, arith}
use Rattle.std.proofs.lemmas.Bool.{eq-eqb}
use Rattle.std.specs.Prelude.{Option, nat_eq, replicate, slice_get, slice_set, if◌then◌else◌}
use Rattle.std.specs.declared.option.Option.TheVariants.{None, Some}
use Rattle.xc_data.specs.declared.entry.Cause.{Cause}
use Rattle.xc_data.specs.declared.entry.Mark.{Mark}
use Rattle.xc_data.specs.declared.entry.Turn.{Turn}
use Rattle.xc_data.specs.declared.entry.Turn.TheVariants as turn
use Rattle.xc_data.specs.declared.object.Object.{Object}
use Rattle.xc_data.proofs.Laws.{get_set_same, get_set_other}
use Rattle.xc_host.specs.Model.{HostModel}
use Rattle.xc_script.specs.declared.ask.Ask.{Ask}
use Rattle.xc_script.specs.declared.ask.Ask.TheVariants as ask
use Rattle.xc_model.specs.declared.phase.Phase.TheVariants.{Running, Undoing}
use Rattle.xc_model.specs.Live.{has_clients}
use Rattle.xc_model.specs.Moment.{TxView, JobView, Active, Moment, active_in, asked_to_wait, revoked, with_job}
use Rattle.xc_model.specs.Movers.{IsActiveAt, mover, with_tx}
use Rattle.xc_model.specs.Rows.{ActiveTurn, IsTurn, TurnOf}
use Rattle.xc_model.specs.RunningRows.{MarkedTurn, Waits, mark_behind, marks_with}
use Rattle.xc_model.specs.Setting.{Setting}
use Rattle.xc_turns.proofs.Laws.{get_front}
use Rattle.xc_station.specs.Finishing.{AddsEntry, job_left_at, left_of, phase_at}
use Rattle.xc_station.specs.Jobs.{job_views}
use Rattle.xc_station.specs.Stations.{HasTurned, IsStepOf, StationView, TakeTurns, live_at, now_of, setting_of}
use Rattle.xc_live.specs.Calm.{IsCalm, IsCalmJob}
use Rattle.xc_live.specs.Clients.{IsAsking}
use Rattle.xc_live.specs.GivingWay.{GivesWay}
use Rattle.xc_live.specs.Moving.{AsksAt}
use Rattle.xc_live.proofs.Answered.{unmarked_row}
use Rattle.xc_live.proofs.Numbered.{active_lives, does_active, phase_told, setting_kept, settings_kept, told_placed, tx_told}
use Rattle.xc_live.proofs.Placed.{elsewhere_is, elsewhere_was, get_either, set_either}
use Rattle.xc_live.proofs.Rolled.{IsBehindEntry, comes_to_entry}

-- ---- who is marked
-- the mark of the one that is in the way
abbrev pub mark_of_asker : TxView → Object → Moment → Mark
mark_of_asker tx object old = record { object = object; by = tx.number; at = length old.journal }

module _ (at number : ℕ) (tx : TxView) (asked : Ask) where
  -- in this place stands a running transaction of this number, which alone is marked; the client that waits asks on
  pub record IsInTheWay (mark : Mark) (old mid : Moment) : Type 0 where
    pub place : ℕ
    pub away : place ≢ at
    pub job : JobView
    pub there : slice_get mid.jobs place ≡ Some job
    pub rival : TxView
    pub was_active : IsActiveAt old.jobs place rival
    pub numbered : rival.number ≡ number
    pub does : job.doing ≡ Active rival
    pub runs : rival.phase ≡ Running
    pub marked : mid.marks rival.number ≡ Some mark
    pub alone : (n : ℕ) → nat_eq n rival.number ≡ false → mid.marks n ≡ None
    pub waits : JobView
    pub waits_there : slice_get mid.jobs at ≡ Some waits
    pub waits_does : waits.doing ≡ Active tx
    pub waits_handed : waits.handed ≡ Some asked
    pub calm : (other : ℕ) (j : JobView) → other ≢ at → slice_get mid.jobs other ≡ Some j → IsCalmJob j

module _ (s : Setting) (at : ℕ) (tx : TxView) (asked : Ask) (old : Moment) (asks : IsAsking s at tx asked old) (mid : Moment) (object : Object)
    (number : ℕ) (t : IsTurn s at old (turn.Busy object number) mid) where
  w : Waits (mover s at old asks.job) tx object number mid
  w = unmarked_row s at tx asked old asks (turn.Busy object number) mid t

  abbrev rival : TxView
  rival = w.met.rival.rival

  abbrev holder : JobView
  holder = w.met.rival.active.0

  abbrev waiting : JobView
  waiting = asked_to_wait (with_tx asks.job w.place tx)

  jobs_mid : mid.jobs ≡ slice_set old.jobs at waiting
  jobs_mid = ap (λ (n : Moment). n.jobs) w.behind

  holder_does : holder.doing ≡ Active rival
  holder_does = does_active holder.doing rival w.met.rival.active.2

  holder_calm : IsCalmJob holder
  holder_calm = asks.calm.others w.met.rival.place holder w.met.rival.other w.met.rival.active.1

  holder_runs : rival.phase ≡ Running
  holder_runs = subst IsCalm holder_does holder_calm.calm

  -- the journal stays
  pub journal_mid : mid.journal ≡ old.journal
  journal_mid = ap (λ (n : Moment). n.journal) w.behind

  marks_mid : (n : ℕ) → mid.marks n ≡ marks_with old.marks rival (mark_of_asker tx object old) n
  marks_mid n = ap (λ (k : Moment). k.marks n) w.behind

  is_marked : mid.marks rival.number ≡ Some (mark_of_asker tx object old)
  is_marked =
      let mark = mark_of_asker tx object old in
      marks_mid rival.number
      ∙ ap (λ (b : Bool). if b then mark_behind rival.phase (old.marks rival.number) mark else old.marks rival.number) (eq-eqb rival.number rival.number refl)
      ∙ ap (λ p. mark_behind p (old.marks rival.number) mark) holder_runs
      ∙ ap (λ (k : Option Mark). mark_behind Running k mark) (asks.calm.unmarked rival.number)

  -- so it stands in the way
  pub in_the_way : IsInTheWay at number tx asked (mark_of_asker tx object old) old mid
  in_the_way =
      record {
        place = w.met.rival.place;
        away = w.met.rival.other;
        job = holder;
        there = elsewhere_is old.jobs mid.jobs at w.met.rival.place waiting holder jobs_mid w.met.rival.other w.met.rival.active.1;
        rival = rival;
        was_active = w.met.rival.active;
        numbered = w.met.rival.numbered;
        does = holder_does;
        runs = holder_runs;
        marked = is_marked;
        alone = λ n other. marks_mid n
            ∙ ap (λ (b : Bool). if b then mark_behind rival.phase (old.marks n) (mark_of_asker tx object old) else old.marks n) other
            ∙ asks.calm.unmarked n;
        waits = waiting;
        waits_there = ap (λ js. slice_get js at) jobs_mid ∙ get_set_same old.jobs at asks.job waiting asks.there;
        waits_does = refl;
        waits_handed = asks.handed;
        calm = λ other j away got. asks.calm.others other j away (elsewhere_was old.jobs mid.jobs at other waiting j jobs_mid away got);
      }

-- ---- its turns
-- a marked one is revoked in its turn
revoked_so : (s : Setting) (at number : ℕ) (tx : TxView) (asked : Ask) (mark : Mark) (old mid : Moment)
    (way : IsInTheWay at number tx asked mark old mid) (answer : Turn) (new : Moment) → IsTurn s way.place mid answer new
    → new ≡ with_job mid way.place (with_tx way.job way.job.place (record way.rival { phase = Undoing (revoked mark) }))
revoked_so s at number tx asked mark old mid way answer new t =
    let same : t.job ≡ way.job = cc (t.there, way.there) in
    let m = mover s way.place mid way.job in
    let row : TurnOf m way.job.doing answer new = subst (λ (j : JobView). TurnOf (mover s way.place mid j) j.doing answer new) same t.row in
    let active : ActiveTurn m way.rival way.rival.phase answer new = subst (λ d. TurnOf m d answer new) way.does row in
    let runs : ActiveTurn m way.rival Running answer new = subst (λ p. ActiveTurn m way.rival p answer new) way.runs active in
    by_answer answer (subst (λ (k : Option Mark). MarkedTurn m way.rival k answer new) way.marked runs)
  where
    by_answer : (answer : Turn) → MarkedTurn (mover s way.place mid way.job) way.rival (Some mark) answer new
        → new ≡ with_job mid way.place (with_tx way.job way.job.place (record way.rival { phase = Undoing (revoked mark) }))
    by_answer turn.Went row = row
    by_answer (turn.Busy object number) row = absurd row
    by_answer turn.NoMemory row = absurd row
    by_answer (turn.Ended end) row = absurd row

module _ {H : Type 0} (model : HostModel H) (client number : ℕ) (tx : TxView) (asked : Ask) (mark : Mark) (old : Moment) (mid : StationView H)
    (way : IsInTheWay (client - 1) number tx asked mark old (now_of model mid)) (victim : ℕ) (is : way.place ≡ victim - 1) (some : 0 < victim) where
  victim_there : slice_get (job_views mid.jobs) (victim - 1) ≡ Some way.job
  victim_there = subst (λ p. slice_get (job_views mid.jobs) p ≡ Some way.job) is way.there

  -- it lives
  pub victim_lives : live_at mid.jobs victim ≡ true
  victim_lives = active_lives mid.jobs victim way.job way.rival some victim_there way.does

  abbrev undoing : TxView
  undoing = record way.rival { phase = Undoing (revoked mark) }

  abbrev behind : JobView
  behind = with_tx way.job way.job.place undoing

  module _ (answer : Turn) (turned : StationView H) (row : IsTurn (setting_of model mid) (victim - 1) (now_of model mid) answer (now_of model turned)) where
    -- so its station is
    pub now_turned : now_of model turned ≡ with_job (now_of model mid) (victim - 1) behind
    now_turned =
        subst (λ p. now_of model turned ≡ with_job (now_of model mid) p behind) is
        (revoked_so (setting_of model mid) (client - 1) number tx asked mark old (now_of model mid) way answer (now_of model turned)
        (subst (λ p. IsTurn (setting_of model mid) p (now_of model mid) answer (now_of model turned)) (sym is) row))

    jobs_turned : job_views turned.jobs ≡ slice_set (job_views mid.jobs) (victim - 1) behind
    jobs_turned = ap (λ (n : Moment). n.jobs) now_turned

    turned_there : slice_get (job_views turned.jobs) (victim - 1) ≡ Some behind
    turned_there = ap (λ js. slice_get js (victim - 1)) jobs_turned ∙ get_set_same (job_views mid.jobs) (victim - 1) way.job behind victim_there

    -- it undoes
    pub turned_undoes : phase_at (job_views turned.jobs) victim ≡ Some (Undoing (revoked mark))
    turned_undoes = phase_told (job_views turned.jobs) victim behind undoing some turned_there refl

    -- in so many turns more
    pub turned_left : job_left_at (job_views turned.jobs) victim ≡ Some (length way.rival.undo.pending)
    turned_left = told_placed left_of (job_views turned.jobs) victim behind some turned_there

    module _ (new : StationView H) (rolls : TakeTurns model (replicate (length way.rival.undo.pending + 1) victim) turned new) where
      rolls_on : TakeTurns model (replicate (suc (length way.rival.undo.pending)) victim) turned new
      rolls_on =
          let count : length way.rival.undo.pending + 1 ≡ suc (length way.rival.undo.pending) = omega arith in
          subst (λ k. TakeTurns model (replicate k victim) turned new) count rolls

      entered_so : IsBehindEntry (victim - 1) way.rival.number (Undoing (revoked mark)) (now_of model turned) (now_of model new)
      entered_so = comes_to_entry model victim some (Undoing (revoked mark)) tt (length way.rival.undo.pending) turned new behind undoing turned_there refl
          refl refl rolls_on

      away : client - 1 ≢ victim - 1
      away same = way.away (is ∙ sym same)

      asks_there : slice_get (job_views new.jobs) (client - 1) ≡ Some way.waits
      asks_there =
          ap (λ js. slice_get js (client - 1)) entered_so.jobs
          ∙ get_front (slice_set (job_views turned.jobs) (victim - 1) entered_so.after) entered_so.more (client - 1) way.waits
          (get_set_other (job_views turned.jobs) (victim - 1) (client - 1) entered_so.after away
          ∙ elsewhere_is (job_views mid.jobs) (job_views turned.jobs) (victim - 1) (client - 1) behind way.waits jobs_turned away way.waits_there)

      others_calm : (other : ℕ) (j : JobView) → other ≢ client - 1 → slice_get (job_views new.jobs) other ≡ Some j → IsCalmJob j
      others_calm other j elsewhere got =
          elim (get_either (slice_set (job_views turned.jobs) (victim - 1) entered_so.after) entered_so.more other j
          (sym (ap (λ js. slice_get js other) entered_so.jobs) ∙ got)) [
            | inl e ↦ elim (set_either (job_views turned.jobs) (victim - 1) other entered_so.after j e) [
              | inl same ↦ subst IsCalmJob same.1 (record { none = entered_so.none; calm = subst IsCalm (sym entered_so.does) tt })
              | inr out ↦ way.calm other j elsewhere
                  (elsewhere_was (job_views mid.jobs) (job_views turned.jobs) (victim - 1) other behind j jobs_turned out.0 out.1)
            ]
            | inr e ↦ entered_so.joined e.0 j e.1
          ]

      none_marked : (n : ℕ) → (now_of model new).marks n ≡ None
      none_marked n = entered_so.marks n ∙ by_test (nat_eq n way.rival.number) refl
        where
          turned_marks : (now_of model turned).marks n ≡ (now_of model mid).marks n
          turned_marks = ap (λ (k : Moment). k.marks n) now_turned

          by_test : (b : Bool) → nat_eq n way.rival.number ≡ b
              → (if nat_eq n way.rival.number then None else (now_of model turned).marks n) ≡ None
          by_test true e = ap (λ (b : Bool). if b then None else (now_of model turned).marks n) e
          by_test false e = ap (λ (b : Bool). if b then None else (now_of model turned).marks n) e ∙ turned_marks ∙ way.alone n e

      -- the client asks the same again
      pub asks_again : (s : Setting) → has_clients s.script ≡ true → tx.phase ≡ Running → asked ≢ ask.End
          → IsAsking s (client - 1) tx asked (now_of model new)
      asks_again s clients running goes =
          record {
            clients = clients;
            job = way.waits;
            there = asks_there;
            active = way.waits_does;
            running = running;
            handed = way.waits_handed;
            asked_some = goes;
            calm = record { others = others_calm; unmarked = none_marked };
          }

-- ---- all of it
module _ {H : Type 0} (model : HostModel H) (client : ℕ) (some : 0 < client) (old mid turned new : StationView H) (object : Object) (number : ℕ)
    (waited : HasTurned model client (record { old = old; new = mid }) (turn.Busy object number)) (tx : TxView) (asked : Ask)
    (asks : AsksAt model client tx asked old) where
  abbrev mark : Mark
  mark = mark_of_asker tx object (now_of model old)

  way : IsInTheWay (client - 1) number tx asked mark (now_of model old) (now_of model mid)
  way = in_the_way (setting_of model old) (client - 1) tx asked (now_of model old) asks (now_of model mid) object number waited.0

  -- whoever is in the way has the number that the answer names
  pub holder_there : (at : ℕ) × (rival : TxView) × IsActiveAt (job_views mid.jobs) at rival × (rival.number ≡ number)
  holder_there = (way.place, way.rival, (way.job, way.there, ap active_in way.does), way.numbered)

  module _ (victim : ℕ) (only : (at : ℕ) (rival : TxView) → IsActiveAt (job_views mid.jobs) at rival → rival.number ≡ number → victim ≡ at + 1) where
    victim_is : victim ≡ way.place + 1
    victim_is = only way.place way.rival (way.job, way.there, ap active_in way.does) way.numbered

    victim_some : 0 < victim
    victim_some = let e = victim_is in omega (arith, e)

    place_is : way.place ≡ victim - 1
    place_is = let e = victim_is in omega (arith, e)

    -- it lives
    pub gives_lives : live_at mid.jobs victim ≡ true
    gives_lives = victim_lives model client number tx asked mark (now_of model old) mid way victim place_is victim_some

    module _ (answer : Turn) (revokes : HasTurned model victim (record { old = mid; new = turned }) answer) where
      -- it undoes
      pub gives_undoes : phase_at (job_views turned.jobs) victim ≡ Some (Undoing (revoked mark))
      gives_undoes = turned_undoes model client number tx asked mark (now_of model old) mid way victim place_is victim_some answer turned revokes.0

      module _ (entered : (c : Cause) → phase_at (job_views turned.jobs) victim ≡ Some (Undoing c) → AddsEntry victim (Undoing c) turned.journal new.journal)
          (rolls : (left : ℕ) → job_left_at (job_views turned.jobs) victim ≡ Some left → TakeTurns model (replicate (left + 1) victim) turned new) where
        abbrev left : ℕ
        left = length way.rival.undo.pending

        rolled : TakeTurns model (replicate (left + 1) victim) turned new
        rolled =
            rolls left (turned_left model client number tx asked mark (now_of model old) mid way victim place_is victim_some answer turned revokes.0)

        journal_turned : turned.journal ≡ old.journal
        journal_turned =
            ap (λ (n : Moment). n.journal)
            (now_turned model client number tx asked mark (now_of model old) mid way victim place_is victim_some answer turned revokes.0)
            ∙ journal_mid (setting_of model old) (client - 1) tx asked (now_of model old) asks (now_of model mid) object number waited.0

        -- the entry of the one that gave way
        pub gives_entry : AddsEntry victim (Undoing (revoked mark)) old.journal new.journal
        gives_entry =
            subst (λ j. AddsEntry victim (Undoing (revoked mark)) j new.journal) journal_turned (entered (revoked mark) gives_undoes)

        settings : setting_of model new ≡ setting_of model old
        settings = settings_kept model victim (left + 1) turned new rolled ∙ setting_kept model victim mid turned revokes.1
            ∙ setting_kept model client old mid waited.1

        -- it gave way
        pub gave_way : GivesWay model client victim (record { old = old; new = new })
        gave_way =
            record {
              tx = tx;
              asking = tx_told (job_views old.jobs) client asks.job tx some asks.there asks.active;
              object = object;
              number = number;
              waited = mid;
              told = waited;
              holder = record {
                first = victim_some;
                tx = way.rival;
                active = subst (λ p. IsActiveAt (job_views old.jobs) p way.rival) place_is way.was_active;
                numbered = way.numbered;
              };
              turns = suc (left + 1);
              rolled = (
                turned,
                subst (λ b. IsStepOf model victim (record { old = mid; new = turned }) b) (sym gives_lives) (answer, revokes),
                rolled,
              );
              entered = gives_entry;
            }

        -- and the client asks the same again
        pub asks_on : AsksAt model client tx asked new
        asks_on =
            subst (λ s. IsAsking s (client - 1) tx asked (now_of model new)) (sym settings)
            (asks_again model client number tx asked mark (now_of model old) mid way victim place_is victim_some answer turned revokes.0 new rolled
            (setting_of model old) asks.clients asks.running asks.asked_some)
