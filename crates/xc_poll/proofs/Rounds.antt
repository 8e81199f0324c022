-- The turns of a poll, one after another.
use Rattle.std.proofs.Common.{◌≡◌, ℕ, ◌+◌, ◌<◌, ◌≤◌, Bool, true, false, List, [], ◌∷◌, ◌++◌, refl, sym, ap, ◌∙◌, subst, arith, append_assoc}
use Rattle.std.specs.declared.option.Option.{Option}
use Rattle.std.specs.declared.option.Option.TheVariants.{None, Some}
use Rattle.std.specs.List.{last_or}
use Rattle.std.proofs.lemmas.List.{append-nil, map-append, length-append}
use Rattle.futures.specs.declared.task.Poll.{Poll}
use Rattle.futures.specs.declared.task.Poll.TheVariants.{Ready, Pending}
use Rattle.xc_data.specs.declared.entry.Event.{Event}
use Rattle.xc_data.specs.declared.entry.Event.TheVariants.{Turned}
use Rattle.xc_data.specs.declared.entry.JobEnd.{JobEnd}
use Rattle.xc_data.specs.declared.entry.Turn.{Turn}
use Rattle.xc_data.specs.declared.entry.Turn.TheVariants as turn
use Rattle.xc_runner.specs.Tries.{IsHeldOff}
use Rattle.xc_runner.proofs.Laws.{held_outside, outside_goes}
use Rattle.xc_turnstile.specs.Insides.{PassGoesOn}
use Rattle.xc_turnstile.proofs.Laws.{pass_goes_further, starts_self}
use Rattle.xc_station.specs.Passes.{PassView, StationPass}
use Rattle.atomic_table.specs.Seated.{TableId}
use Rattle.xc_poll.specs.Tasks.{Task, known_of}
use Rattle.xc_poll.specs.Polls.{AllWent, AllButLastWent, GainsTurn, TookTurns, HasReason, HasStopped, IsPolled, IsRound}
use Rattle.xc_poll.specs.Polls.{last_of, said, poll_said, stop_of, events_of_turns}
use Rattle.xc_poll.specs.declared.round.RoundStop.{RoundStop}
use Rattle.xc_poll.specs.declared.round.RoundStop.TheVariants as stop
use Rattle.xc_poll.specs.declared.round.Waits.{Waits}
use Rattle.xc_poll.specs.declared.round.Waits.TheVariants as waits

-- ---- answers
all_but : (as_ : List (Option Turn)) (a : Option Turn) → AllWent as_ → AllButLastWent (as_ ++ a ∷ [])
all_but [] a h = tt
all_but (b ∷ []) a h = (h.0, tt)
all_but (b ∷ c ∷ rest) a h = (h.0, all_but (c ∷ rest) a h.1)

all_but_self : (as_ : List (Option Turn)) → AllWent as_ → AllButLastWent as_
all_but_self [] h = tt
all_but_self (b ∷ []) h = tt
all_but_self (b ∷ c ∷ rest) h = (h.0, all_but_self (c ∷ rest) h.1)

last_more : (as_ : List (Option Turn)) (a : Option Turn) (o : Option (Option Turn)) → last_or o (as_ ++ a ∷ []) ≡ Some a
last_more [] a o = refl
last_more (b ∷ rest) a o = last_more rest a (Some b)

went_more : (as_ : List (Option Turn)) (a : Option Turn) → AllWent as_ → a ≡ Some turn.Went → AllWent (as_ ++ a ∷ [])
went_more [] a h e = (e, tt)
went_more (b ∷ rest) a h e = (h.0, went_more rest a h.1 e)

went_last : (as_ : List (Option Turn)) → AllWent as_ → (o : Option (Option Turn)) → poll_said o ≡ Pending → poll_said (last_or o as_) ≡ Pending
went_last [] h o p = p
went_last (a ∷ rest) h o p = went_last rest h.1 (Some a) (ap (λ (x : Option Turn). poll_said (Some x)) h.0)

events_more : (old mid new : List Event) (job : ℕ) (as_ : List (Option Turn)) (a : Option Turn) → mid ≡ old ++ events_of_turns job as_
    → new ≡ mid ++ Turned job a ∷ []
    → new ≡ old ++ events_of_turns job (as_ ++ a ∷ [])
events_more old mid new job as_ a p q =
    q ∙ (ap (λ (es : List Event). es ++ Turned job a ∷ []) p
    ∙ (append_assoc old (events_of_turns job as_) (Turned job a ∷ [])
    ∙ ap (λ (es : List Event). old ++ es) (sym (map-append (λ (answer : Option Turn). Turned job answer) as_ (a ∷ [])))))

-- ---- what a poll says
-- a poll whose turns stop for a reason is pending
pub said_waits : (share : ℕ) (as_ : List (Option Turn)) (old new : ℕ) (why : Waits) → HasReason share as_ old new why → Pending ≡ poll_said (last_of as_)
said_waits share as_ old new (waits.Met object holder) h = sym (ap poll_said h.0)
said_waits share as_ old new (waits.Held word) h = sym (went_last as_ h.0 None refl)
said_waits share as_ old new waits.Spent h = sym (went_last as_ h.0 None refl)
said_waits share as_ old new waits.Memory h = sym (ap poll_said h.0)

-- ---- a pass that stays
pub goes_nowhere : (a : StationPass) → PassGoesOn a a
goes_nowhere a =
    record {
      table = refl;
      shares = refl;
      origin = refl;
      seen = starts_self a.view.seen;
      added = [];
      mine = sym (append-nil a.view.mine);
    }

-- ---- several
pub gone_nowhere : (a : StationPass) (job : ℕ) → TookTurns a a job 0
gone_nowhere a job =
    record {
      answers = [];
      went = tt;
      long = refl;
      events = sym (append-nil a.view.events);
      won = omega arith;
      lost = refl;
      goes = goes_nowhere a;
    }

-- one turn more that went
pub gone_further : (a b c : StationPass) (job count : ℕ) (answer : Option Turn) → TookTurns a b job count → GainsTurn b c job answer → answer ≡ Some turn.Went
    → TookTurns a c job (count + 1)
gone_further a b c job count answer h k e =
    record {
      answers = h.answers ++ answer ∷ [];
      went = went_more h.answers answer h.went e;
      long = length-append h.answers (answer ∷ []) ∙ ap (λ n. n + 1) h.long;
      events = events_more _ _ _ job h.answers answer h.events k.gains.gained;
      won = omega (arith, k.won, h.won);
      lost = k.lost ∙ h.lost;
      goes = pass_goes_further a b c h.goes k.gains.goes;
    }

-- the stop that is there
abbrev stop_there : RoundStop → Option RoundStop → RoundStop
stop_there at None = at
stop_there at (Some s) = s

abbrev IsNone : Option RoundStop → Type 0
IsNone None = Unit {0}
IsNone (Some s) = ⊥

-- where the turns stop behind an answer
stopped_by : (share : ℕ) (as_ : List (Option Turn)) (answer : Option Turn) (at : RoundStop) (x y : ℕ) → last_of as_ ≡ Some answer → y ≡ x
    → stop_of answer ≡ Some at → HasStopped share as_ x y at
stopped_by share as_ None at x y l same is = subst (HasStopped share as_ x y) (ap (stop_there at) is) (l, same)
stopped_by share as_ (Some turn.Went) at x y l same is = absurd (subst IsNone is tt)
stopped_by share as_ (Some (turn.Busy object holder)) at x y l same is = subst (HasStopped share as_ x y) (ap (stop_there at) is) (l, same)
stopped_by share as_ (Some turn.NoMemory) at x y l same is = subst (HasStopped share as_ x y) (ap (stop_there at) is) (l, same)
stopped_by share as_ (Some (turn.Ended end)) at x y l same is = subst (HasStopped share as_ x y) (ap (stop_there at) is) (l, same)

-- one turn more, behind which they stop
pub round_stopped : (a b c : StationPass) (job share count : ℕ) (answer : Option Turn) (at : RoundStop) → TookTurns a b job count → count < share
    → GainsTurn b c job answer
    → stop_of answer ≡ Some at → IsRound a c job share at
round_stopped a b c job share count answer at h below k is =
    let long = length-append h.answers (answer ∷ []) ∙ ap (λ n. n + 1) h.long in
    record {
      answers = h.answers ++ answer ∷ [];
      events = events_more _ _ _ job h.answers answer h.events k.gains.gained;
      few = omega (arith, long, below);
      went = all_but h.answers answer h.went;
      won = omega (arith, k.won, h.won, long);
      goes = pass_goes_further a b c h.goes k.gains.goes;
      stopped = stopped_by share (h.answers ++ answer ∷ []) answer at _ _ (last_more h.answers answer None) (k.lost ∙ h.lost) is;
    }

-- a stop is there
abbrev IsSome : Option RoundStop → Type 0
IsSome None = ⊥
IsSome (Some s) = Unit {0}

-- where the turns go on, this one went
pub went_on : (answer : Option Turn) → stop_of answer ≡ None → answer ≡ Some turn.Went
went_on None e = absurd (subst IsSome e tt)
went_on (Some turn.Went) e = refl
went_on (Some (turn.Busy object holder)) e = absurd (subst IsSome e tt)
went_on (Some turn.NoMemory) e = absurd (subst IsSome e tt)
went_on (Some (turn.Ended end)) e = absurd (subst IsSome e tt)

-- turns that stop since another was inside
pub round_held : (a b c : StationPass) (job share count word : ℕ) → TookTurns a b job count → count < share → IsHeldOff b c word
    → IsRound a c job share (stop.Waits (waits.Held word))
round_held a b c job share count word h below k =
    record {
      answers = h.answers;
      events = ap (λ (v : PassView). v.events) k.view ∙ h.events;
      few = omega (arith, h.long, below);
      went = all_but_self h.answers h.went;
      won = ap (λ (v : PassView). v.won) k.view ∙ (h.won ∙ ap (λ n. a.view.won + n) (sym h.long));
      goes = pass_goes_further a b c h.goes (outside_goes b c (held_outside b c word k));
      stopped = (h.went, omega (arith, h.long, below), k.odd, ap (λ (v : PassView). v.lost) k.view ∙ ap (λ n. n + 1) h.lost);
    }

-- turns that stop since all of the share were taken
pub round_spent : (a b : StationPass) (job share count : ℕ) → TookTurns a b job count → count ≡ share → IsRound a b job share (stop.Waits waits.Spent)
round_spent a b job share count h e =
    record {
      answers = h.answers;
      events = h.events;
      few = omega (arith, h.long, e);
      went = all_but_self h.answers h.went;
      won = h.won ∙ ap (λ n. a.view.won + n) (sym h.long);
      goes = h.goes;
      stopped = (h.went, h.long ∙ e, h.lost);
    }

-- ---- a poll
abbrev IsFalse : Bool → Type 0
IsFalse true = ⊥
IsFalse false = Unit {0}

not_both : {A : Type 0} → (b : Bool) → b ≡ false → b ≡ true → A
not_both b f t = absurd (subst IsFalse (sym f ∙ t) tt)

-- of a task that was ready
pub polled_again : (t : Task) → 1 ≤ t.share → t.ready ≡ true → t.why ≡ None → IsPolled t t (Ready None)
polled_again t share ready why =
    record {
      answers = [];
      events = sym (append-nil t.pass.view.events);
      few = omega arith;
      share = share;
      went = tt;
      won = omega arith;
      goes = goes_nowhere t.pass;
      says = sym (ap (λ (b : Bool). said b []) ready);
      over = λ _. (refl, refl);
      ready = (ready, refl);
      again = tt;
      why = why;
      waits = tt;
      same = (refl, refl, refl);
    }

-- that has to go on
pub polled_waits : (home : TableId) (p q : StationPass) (pass : Option StationPass) (job share : ℕ) (ready : Bool) (before : Option Waits) (why : Waits)
    (result : Poll (Option JobEnd)) → known_of pass ≡ p → 1 ≤ share → ready ≡ false → result ≡ Pending → IsRound p q job share (stop.Waits why)
    → IsPolled (record { home = home; pass = known_of pass; job = job; share = share; ready = ready; why = before })
    (record { home = home; pass = q; job = job; share = share; ready = ready; why = Some why }) result
polled_waits home p q pass job share ready before why result is least unready pending round =
    let r : IsRound (known_of pass) q job share (stop.Waits why) = subst (λ (k : StationPass). IsRound k q job share (stop.Waits why)) (sym is) round in
    let old : Task = record { home = home; pass = known_of pass; job = job; share = share; ready = ready; why = before } in
    let new : Task = record { home = home; pass = q; job = job; share = share; ready = ready; why = Some why } in
    let polled : IsPolled old new Pending =
    record {
      answers = r.answers;
      events = r.events;
      few = r.few;
      share = least;
      went = r.went;
      won = r.won;
      goes = r.goes;
      says = said_waits share r.answers (known_of pass).view.lost q.view.lost why r.stopped ∙ sym (ap (λ (b : Bool). said b r.answers) unready);
      over = λ t. not_both ready unready t;
      ready = tt;
      again = unready;
      why = tt;
      waits = r.stopped;
      same = (refl, refl, refl);
    } in
    subst (λ (x : Poll (Option JobEnd)). IsPolled old new x) (sym pending) polled
