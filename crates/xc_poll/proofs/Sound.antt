-- What stays true of a crew, and how it goes on.
use Rattle.std.proofs.Common.{◌≡◌, inl, inr, ℕ, ◌+◌, ◌<◌, ◌≤◌, List, [], ◌∷◌, ◌++◌, length, map, All, refl, sym, ap, ◌∙◌, subst, arith, append_assoc}
use Rattle.std.specs.List.{AllByRecursion}
use Rattle.std.specs.declared.option.Option.TheVariants.{None, Some}
use Rattle.std.proofs.lemmas.List.{append-nil, map-append}
use Rattle.std.proofs.lemmas.List.Elements.{All-from_recursion, All-push, recursion_from_All}
use Rattle.std.proofs.lemmas.List.Sums.{sum_by-cons, sum_by_push}
use Rattle.atomic_table.specs.Seated.{TableId}
use Rattle.xc_data.specs.declared.entry.Event.{Event}
use Rattle.xc_data.specs.declared.entry.Event.TheVariants.{Picked}
use Rattle.xc_station.specs.Passes.{PassView, StationPass}
use Rattle.xc_turnstile.specs.Views.{BeginsWith}
use Rattle.xc_turnstile.proofs.Laws.{starts_self, starts_trans}
use Rattle.xc_poll.specs.Alls.{AllFront, ArePolled}
use Rattle.xc_poll.specs.Askings.{AreAsked, EndsAsking, HandOut, HandsOut, HasAsked, PartsMost, TakesIn, TakesInOrLeaves, TellsAsked}
use Rattle.xc_poll.specs.Askings.{asked_events, asked_lost, task_for}
use Rattle.xc_poll.specs.Crews.{Crew, IsGathered, IsCrewSound, Rise, all_shares, jobs_of, shares_of}
use Rattle.xc_poll.specs.Tasks.{Task}
use Rattle.xc_poll.specs.declared.asking.Asked.{Asked}
use Rattle.xc_poll.specs.declared.asking.Asked.TheVariants as asked
use Rattle.xc_poll.proofs.Gathers.{events_further}
use Rattle.xc_poll.proofs.Parts.{OnlySharesOf, front_self, front_trans, only_self, only_trans, parts_front, parts_homes, parts_jobs, parts_left, parts_sum}

-- ---- what stays true
-- one number more, above all others
rise_more : (low high n : ℕ) (ns : List ℕ) → Rise low ns high → high < n → Rise low (ns ++ n ∷ []) n
rise_more low high n [] h lt = (omega (arith, h, lt), omega arith)
rise_more low high n (m ∷ ms) h lt = (h.0, rise_more m high n ms h.1 lt)

-- the shares, with what an asking leaves
asked_keeps : (old new : StationPass) (last : Asked) → HasAsked old new last → (new.table ≡ old.table) × (new.view.shares ≡ old.view.shares)
asked_keeps old new (asked.Held word) h = (h.table, ap (λ (v : PassView). v.shares) h.view)
asked_keeps old new (asked.Job job) h = (h.gains.goes.table, h.gains.goes.shares)
asked_keeps old new asked.Nothing h = (h.gains.goes.table, h.gains.goes.shares)

-- behind an asking
pub sound_asked : (home : TableId) (asking left : StationPass) (tasks : List Task) (top share : ℕ) (last : Asked)
    → IsCrewSound (record { home = home; asking = asking; tasks = tasks; top = top; share = share }) → HasAsked asking left last
    → IsCrewSound (record { home = home; asking = left; tasks = tasks; top = top; share = share })
sound_asked home asking left tasks top share last s h =
    let k = asked_keeps asking left last h in
    record { table = k.0 ∙ s.table; homes = s.homes; rise = s.rise; share = s.share; few = omega (arith, k.1, s.few) }

-- behind the polls
polled_shares : (old new : List Task) → ArePolled old new → shares_of new ≡ shares_of old
polled_shares [] [] h = refl
polled_shares [] (y ∷ ys) h = absurd h
polled_shares (x ∷ xs) [] h = absurd h
polled_shares (x ∷ xs) (y ∷ ys) h =
    let f : Task → ℕ = λ task. task.pass.view.shares in
    omega (arith, sum_by-cons f x xs, sum_by-cons f y ys, polled_shares xs ys h.1, h.0.1.goes.shares)

polled_jobs : (old new : List Task) → ArePolled old new → jobs_of new ≡ jobs_of old
polled_jobs [] [] h = refl
polled_jobs [] (y ∷ ys) h = absurd h
polled_jobs (x ∷ xs) [] h = absurd h
polled_jobs (x ∷ xs) (y ∷ ys) h = cc (h.0.1.same.1, polled_jobs xs ys h.1)

polled_homes : (home : TableId) (old new : List Task) → ArePolled old new → AllByRecursion (λ (task : Task). task.home ≡ home) old
    → AllByRecursion (λ (task : Task). task.home ≡ home) new
polled_homes home [] [] h k = tt
polled_homes home [] (y ∷ ys) h k = absurd h
polled_homes home (x ∷ xs) [] h k = absurd h
polled_homes home (x ∷ xs) (y ∷ ys) h k = (h.0.1.same.0 ∙ k.0, polled_homes home xs ys h.1 k.1)

-- what was true is true
pub sound_polled : (home : TableId) (asking : StationPass) (tasks rest : List Task) (top share : ℕ)
    → IsCrewSound (record { home = home; asking = asking; tasks = tasks; top = top; share = share }) → ArePolled tasks rest
    → IsCrewSound (record { home = home; asking = asking; tasks = rest; top = top; share = share })
sound_polled home asking tasks rest top share s h =
    record {
      table = s.table;
      homes = All-from_recursion (λ (task : Task). task.home ≡ home) rest
          (polled_homes home tasks rest h (recursion_from_All (λ (task : Task). task.home ≡ home) tasks s.homes));
      rise = subst (λ (ns : List ℕ). Rise 0 ns top) (sym (polled_jobs tasks rest h)) s.rise;
      share = s.share;
      few = omega (arith, polled_shares tasks rest h, s.few);
    }

-- behind a taking in
module _ (old new : Crew) (job : ℕ) (h : TakesIn old new job) where
  -- no share is lost
  taken_shares : all_shares new ≡ all_shares old
  taken_shares =
      let f : Task → ℕ = λ task. task.pass.view.shares in
      omega (
        arith,
        parts_sum old.asking new.asking old.tasks h.rest h.given h.parts,
        ap shares_of h.tasks ∙ sum_by_push f h.rest (task_for job old.share h.given),
      )

  taken_rises : Rise 0 (jobs_of old.tasks) old.top → Rise 0 (jobs_of new.tasks) new.top
  taken_rises r =
      let jobs : jobs_of new.tasks ≡ jobs_of old.tasks ++ job ∷ [] =
      ap jobs_of h.tasks ∙ (map-append (λ (task : Task). task.job) h.rest (task_for job old.share h.given ∷ [])
      ∙ ap (λ (ns : List ℕ). ns ++ job ∷ []) (parts_jobs old.asking new.asking old.tasks h.rest h.given h.parts)) in
      subst (λ (ns : List ℕ). Rise 0 ns new.top) (sym jobs) (subst (Rise 0 (jobs_of old.tasks ++ job ∷ [])) (sym h.top)
      (rise_more 0 old.top job (jobs_of old.tasks) r h.above))

  pub sound_taken : IsCrewSound old → h.given.table ≡ old.home → IsCrewSound new
  sound_taken s at =
      let left = parts_left old.asking new.asking old.tasks h.rest h.given h.parts in
      let homes : All (λ (task : Task). task.home ≡ old.home) (h.rest ++ task_for job old.share h.given ∷ []) =
      All-push (λ (task : Task). task.home ≡ old.home) h.rest (task_for job old.share h.given)
      (parts_homes old.home old.asking new.asking old.tasks h.rest h.given h.parts s.homes) at in
      record {
        table = ap (λ (k : StationPass). k.table) left.1 ∙ (s.table ∙ sym h.same.0);
        homes = subst (λ (home : TableId). All (λ (task : Task). task.home ≡ home) new.tasks) (sym h.same.0)
            (subst (λ (ts : List Task). All (λ (task : Task). task.home ≡ old.home) ts) (sym h.tasks) homes);
        rise = taken_rises s.rise;
        share = subst (λ n. 1 ≤ n) (sym h.same.1) s.share;
        few = omega (arith, taken_shares, s.few);
      }

-- a task that was made for the job and stands behind the others
pub takes_in : (home : TableId) (asking left given : StationPass) (tasks rest pushed : List Task) (top share job : ℕ)
    → IsCrewSound (record { home = home; asking = asking; tasks = tasks; top = top; share = share }) → top < job → given.table ≡ asking.table
    → PartsMost asking left tasks rest given → pushed ≡ rest ++ task_for job share given ∷ []
    → TakesIn (record { home = home; asking = asking; tasks = tasks; top = top; share = share })
    (record { home = home; asking = left; tasks = pushed; top = job; share = share }) job
    × IsCrewSound (record { home = home; asking = left; tasks = pushed; top = job; share = share })
takes_in home asking left given tasks rest pushed top share job s above at parts is =
    let old : Crew = record { home = home; asking = asking; tasks = tasks; top = top; share = share } in
    let new : Crew = record { home = home; asking = left; tasks = pushed; top = job; share = share } in
    let taken : TakesIn old new job =
    record { above = above; given = given; rest = rest; parts = parts; tasks = is; top = refl; same = (refl, refl) } in
    (taken, sound_taken old new job taken s (at ∙ s.table))

-- ---- how it goes on
-- the pass that asks gains these events, and loses so often; no share is lost, and each task stays but for its shares
pub record GoesBy (old new : Crew) (events : List Event) (lost : ℕ) : Type 0 where
  pub table : new.asking.table ≡ old.asking.table
  pub origin : new.asking.view.origin ≡ old.asking.view.origin
  pub seen : BeginsWith new.asking.view.seen old.asking.view.seen
  pub shares : all_shares new ≡ all_shares old
  pub gains : new.asking.view.events ≡ old.asking.view.events ++ events
  pub loses : new.asking.view.lost ≡ old.asking.view.lost + lost
  pub stay : AllFront OnlySharesOf old.tasks new.tasks

-- one way after another
goes_by : (a b c : Crew) (es fs : List Event) (m n : ℕ) → GoesBy a b es m → GoesBy b c fs n → GoesBy a c (es ++ fs) (m + n)
goes_by a b c es fs m n p q =
    record {
      table = q.table ∙ p.table;
      origin = q.origin ∙ p.origin;
      seen = starts_trans c.asking.view.seen b.asking.view.seen a.asking.view.seen q.seen p.seen;
      shares = q.shares ∙ p.shares;
      gains = q.gains ∙ (ap (λ (xs : List Event). xs ++ fs) p.gains ∙ append_assoc a.asking.view.events es fs);
      loses = omega (arith, p.loses, q.loses);
      stay = front_trans OnlySharesOf OnlySharesOf OnlySharesOf only_trans a.tasks b.tasks c.tasks p.stay q.stay;
    }

stay_all : (ts : List Task) → AllFront OnlySharesOf ts ts
stay_all ts = subst (AllFront OnlySharesOf ts) (append-nil ts) (front_self OnlySharesOf only_self ts [])

by_nothing : (crew : Crew) → GoesBy crew crew [] 0
by_nothing crew =
    record {
      table = refl;
      origin = refl;
      seen = starts_self crew.asking.view.seen;
      shares = refl;
      gains = sym (append-nil crew.asking.view.events);
      loses = omega arith;
      stay = stay_all crew.tasks;
    }

-- an asking
by_asked : (old : Crew) (left : StationPass) (last : Asked) → HasAsked old.asking left last
    → GoesBy old (record old { asking = left }) (asked_events last) (asked_lost last)
by_asked old left (asked.Held word) h =
    record {
      table = h.table;
      origin = ap (λ (v : PassView). v.origin) h.view;
      seen = subst (λ (es : List _). BeginsWith es old.asking.view.seen) (sym (ap (λ (v : PassView). v.seen) h.view)) (starts_self old.asking.view.seen);
      shares = ap (λ (v : PassView). v.shares + shares_of old.tasks) h.view;
      gains = ap (λ (v : PassView). v.events) h.view ∙ sym (append-nil old.asking.view.events);
      loses = ap (λ (v : PassView). v.lost) h.view;
      stay = stay_all old.tasks;
    }
by_asked old left (asked.Job job) h =
    record {
      table = h.gains.goes.table;
      origin = h.gains.goes.origin;
      seen = h.gains.goes.seen;
      shares = ap (λ n. n + shares_of old.tasks) h.gains.goes.shares;
      gains = h.gains.gained;
      loses = omega (arith, h.lost);
      stay = stay_all old.tasks;
    }
by_asked old left asked.Nothing h =
    record {
      table = h.gains.goes.table;
      origin = h.gains.goes.origin;
      seen = h.gains.goes.seen;
      shares = ap (λ n. n + shares_of old.tasks) h.gains.goes.shares;
      gains = h.gains.gained;
      loses = omega (arith, h.lost);
      stay = stay_all old.tasks;
    }

-- a job that is taken in, or left
by_taken : (old new : Crew) (job : ℕ) → TakesInOrLeaves old new job → GoesBy old new [] 0
by_taken old new job (inr same) = subst (λ (c : Crew). GoesBy old c [] 0) (sym same) (by_nothing old)
by_taken old new job (inl h) =
    let left = parts_left old.asking new.asking old.tasks h.rest h.given h.parts in
    record {
      table = ap (λ (k : StationPass). k.table) left.1;
      origin = ap (λ (k : StationPass). k.view.origin) left.1;
      seen = subst (λ (es : List _). BeginsWith es old.asking.view.seen) (sym (ap (λ (k : StationPass). k.view.seen) left.1))
          (starts_self old.asking.view.seen);
      shares = taken_shares old new job h;
      gains = ap (λ (k : StationPass). k.view.events) left.1 ∙ sym (append-nil old.asking.view.events);
      loses = omega (arith, ap (λ (k : StationPass). k.view.lost) left.1);
      stay = subst (AllFront OnlySharesOf old.tasks) (sym h.tasks)
          (front_trans OnlySharesOf OnlySharesOf OnlySharesOf only_trans old.tasks h.rest (h.rest ++ task_for job old.share h.given ∷ [])
          (parts_front old.asking new.asking old.tasks h.rest h.given h.parts)
          (front_self OnlySharesOf only_self h.rest (task_for job old.share h.given ∷ [])));
    }

by_handed : (old new : Crew) (job : ℕ) → HandsOut old new job → GoesBy old new (Picked (Some job) ∷ []) 0
by_handed old new job h =
    goes_by old (record old { asking = h.left }) new (Picked (Some job) ∷ []) [] 0 0 (by_asked old h.left (asked.Job job) h.gains)
    (by_taken (record old { asking = h.left }) new job h.taken)

-- jobs that were handed out, one after another
by_jobs : (old new : Crew) (jobs : List ℕ) → HandOut old jobs new → GoesBy old new (map (λ job. Picked (Some job)) jobs) 0
by_jobs old new [] h = subst (λ (c : Crew). GoesBy old c [] 0) (sym h) (by_nothing old)
by_jobs old new (job ∷ jobs) h =
    goes_by old h.0 new (Picked (Some job) ∷ []) (map (λ job. Picked (Some job)) jobs) 0 0 (by_handed old h.0 job h.1) (by_jobs h.0 new jobs h.2)

-- the last asking
by_last : (jobs : List ℕ) (old new : Crew) (last : Asked) → EndsAsking jobs old new last → GoesBy old new (asked_events last) (asked_lost last)
by_last jobs old new (asked.Held word) h =
    subst (λ (c : Crew). GoesBy old c [] 1) (sym h.1.1) (by_asked old new.asking (asked.Held word) h.1.0)
by_last jobs old new (asked.Job job) h = by_handed old new job h.1
by_last jobs old new asked.Nothing h =
    subst (λ (c : Crew). GoesBy old c (Picked None ∷ []) 0) (sym h.1.1) (by_asked old new.asking asked.Nothing h.1.0)

-- all askings of a round
pub by_askings : (old new : Crew) (last : Asked) → (h : AreAsked old new last)
    → GoesBy old new (map (λ job. Picked (Some job)) h.before ++ asked_events last) (0 + asked_lost last)
by_askings old new last h =
    goes_by old h.mid new (map (λ job. Picked (Some job)) h.before) (asked_events last) 0 (asked_lost last) (by_jobs old h.mid h.before h.handed)
    (by_last h.before h.mid new last h.ended)

few_asked : (jobs : List ℕ) (old new : Crew) (last : Asked) → EndsAsking jobs old new last → length jobs ≤ 1000
few_asked jobs old new (asked.Held word) h = h.0
few_asked jobs old new (asked.Job job) h = omega (arith, h.0)
few_asked jobs old new asked.Nothing h = h.0

-- what the pass that asks tells of them
pub told_askings : (old new : Crew) (last : Asked) → AreAsked old new last → TellsAsked old.asking new.asking last
told_askings old new last h =
    let by = by_askings old new last h in
    record { before = h.before; few = few_asked h.before h.mid new last h.ended; events = by.gains; lost = omega (arith, by.loses) }

-- one job more
pub hand_more : (old mid new : Crew) (jobs : List ℕ) (job : ℕ) → HandOut old jobs mid → HandsOut mid new job → HandOut old (jobs ++ job ∷ []) new
hand_more old mid new [] job h k = (new, subst (λ (c : Crew). HandsOut c new job) h k, refl)
hand_more old mid new (j ∷ jobs) job h k = (h.0, h.1, hand_more h.0 mid new jobs job h.2 k)

-- ---- a round
-- one pass of what is left is one of what was there
pub gathers_back : (old left : Crew) (events : List Event) (lost : ℕ) (back : StationPass) → GoesBy old left events lost → IsGathered left back
    → IsGathered old back
gathers_back old left events lost back by h =
    record {
      table = h.table ∙ by.table;
      shares = h.shares ∙ by.shares;
      origin = h.origin ∙ by.origin;
      seen = starts_trans back.view.seen left.asking.view.seen old.asking.view.seen h.seen by.seen;
      own_events = events_further old.asking.view.events left.asking.view.events back.view.events (events, by.gains) h.own_events;
    }

-- polls change nothing of it
pub gathers_polled : (old : Crew) (polled : List Task) (back : StationPass) → ArePolled old.tasks polled → IsGathered (record old { tasks = polled }) back
    → IsGathered old back
gathers_polled old polled back h k =
    record {
      table = k.table;
      shares = k.shares ∙ ap (λ n. old.asking.view.shares + n) (polled_shares old.tasks polled h);
      origin = k.origin;
      seen = k.seen;
      own_events = k.own_events;
    }
