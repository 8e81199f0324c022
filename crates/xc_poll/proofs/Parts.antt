-- Half of a pass is given away: what stays.
use Rattle.std.proofs.Common.{◌≡◌, inl, inr, ℕ, suc, ◌+◌, ◌/◌, ◌≤◌, List, [], ◌∷◌, ◌++◌, take, drop, set, get_or, length, All, refl, sym, ap, ◌∙◌, subst, arith}
use Rattle.std.specs.List.{AllByRecursion, sum_by}
use Rattle.std.specs.declared.option.Option.TheVariants.{Some}
use Rattle.std.proofs.lemmas.List.{append-nil, drop_all, length-map, map-append, set-get_or, set_split, take_all}
use Rattle.std.proofs.lemmas.List.Elements.{All-from_recursion, recursion_from_All}
use Rattle.std.proofs.lemmas.List.Sums.{sum_by-append, sum_by-cons}
use Rattle.atomic_table.specs.Seated.{TableId}
use Rattle.xc_station.specs.Passes.{StationPass}
use Rattle.xc_turnstile.specs.Views.{given_half, kept_half}
use Rattle.xc_poll.specs.Alls.{AllFront}
use Rattle.xc_poll.specs.Askings.{IsHalved, IsMost, PartsMost}
use Rattle.xc_poll.specs.Crews.{jobs_of, shares_of}
use Rattle.xc_poll.specs.Tasks.{Task}

-- ---- fronts
module _ {A : Type 0} (R : A → A → Type 0) where
  pub front_self : ((x : A) → R x x) → (xs more : List A) → AllFront R xs (xs ++ more)
  front_self r [] more = tt
  front_self r (x ∷ xs) more = (r x, front_self r xs more)

  -- another item in the place of one
  pub front_other : ((x : A) → R x x) → (before behind : List A) (x y : A) → R x y → AllFront R (before ++ x ∷ behind) (before ++ y ∷ behind)
  front_other r [] behind x y h = (h, subst (AllFront R behind) (append-nil behind) (front_self r behind []))
  front_other r (b ∷ before) behind x y h = (r b, front_other r before behind x y h)

-- one front after another
pub front_trans : {A : Type 0} (R S T : A → A → Type 0) → ((x y z : A) → R x y → S y z → T x z) → (xs ys zs : List A) → AllFront R xs ys
    → AllFront S ys zs → AllFront T xs zs
front_trans R S T t [] ys zs h k = tt
front_trans R S T t (x ∷ xs) [] zs h k = absurd h
front_trans R S T t (x ∷ xs) (y ∷ ys) [] h k = absurd k
front_trans R S T t (x ∷ xs) (y ∷ ys) (z ∷ zs) h k = (t x y z h.0 k.0, front_trans R S T t xs ys zs h.1 k.1)

-- ---- passes and tasks that are the same but for shares
-- a pass is another one but for its shares
abbrev pub OnlyShares : StationPass → StationPass → Type 0
OnlyShares old new = (shares : ℕ) × (new ≡ record old { view = record old.view { shares = shares } })

-- so is a task, but for the shares of its pass
abbrev pub OnlySharesOf : Task → Task → Type 0
OnlySharesOf old new = (shares : ℕ) × (new ≡ record old { pass = record old.pass { view = record old.pass.view { shares = shares } } })

-- a task is so to itself
pub only_self : (t : Task) → OnlySharesOf t t
only_self t = (t.pass.view.shares, refl)

-- and one way after another
pub only_trans : (a b c : Task) → OnlySharesOf a b → OnlySharesOf b c → OnlySharesOf a c
only_trans a b c p q = (q.0, q.1 ∙ ap (λ (t : Task). record t { pass = record t.pass { view = record t.pass.view { shares = q.0 } } }) p.1)

-- ---- the parts
half_below : (n : ℕ) → n / 2 ≤ n
half_below n = omega arith

-- the shares of both halves
halves : (old kept given : StationPass) → IsHalved old kept given → kept.view.shares + given.view.shares ≡ old.view.shares
halves old kept given h =
    omega (arith, ap (λ (k : StationPass). k.view.shares) h.kept_is, ap (λ (k : StationPass). k.view.shares) h.given_is, half_below old.view.shares)

middle_sum : (before behind : List Task) (t : Task) → shares_of (before ++ t ∷ behind) ≡ shares_of before + (t.pass.view.shares + shares_of behind)
middle_sum before behind t =
    let f : Task → ℕ = λ task. task.pass.view.shares in
    sum_by-append f before (t ∷ behind) ∙ ap (λ n. sum_by f before + n) (sum_by-cons f t behind)

module _ (asking left : StationPass) (tasks rest : List Task) (given : StationPass) where
  -- the pass that asks stays but for its shares
  pub parts_left : PartsMost asking left tasks rest given → OnlyShares asking left
  parts_left (inl h) = (
    left.view.shares,
    h.halved.kept_is ∙ ap (λ n. record asking { view = record asking.view { shares = n } })
        (sym (ap (λ (k : StationPass). k.view.shares) h.halved.kept_is)),
  )
  parts_left (inr h) = (asking.view.shares, h.same)

  -- so do the tasks
  pub parts_front : PartsMost asking left tasks rest given → AllFront OnlySharesOf tasks rest
  parts_front (inl h) =
      subst (AllFront OnlySharesOf tasks) (append-nil tasks ∙ sym h.same) (front_self OnlySharesOf only_self tasks [])
  parts_front (inr h) =
      subst (λ (ts : List Task). AllFront OnlySharesOf ts rest) (sym h.were)
      (subst (AllFront OnlySharesOf (h.before ++ h.task ∷ h.behind)) (sym h.are)
      (front_other OnlySharesOf only_self h.before h.behind h.task (record h.task { pass = h.kept }) (
        h.kept.view.shares,
        ap (λ (k : StationPass). record h.task { pass = k }) (h.halved.kept_is
            ∙ ap (λ n. record h.task.pass { view = record h.task.pass.view { shares = n } }) (sym (ap (λ (k : StationPass). k.view.shares) h.halved.kept_is))),
      )))

  -- no share is lost
  pub parts_sum : PartsMost asking left tasks rest given → (left.view.shares + shares_of rest) + given.view.shares ≡ asking.view.shares + shares_of tasks
  parts_sum (inl h) = omega (arith, halves asking left given h.halved, ap shares_of h.same)
  parts_sum (inr h) =
      omega (
        arith,
        halves h.task.pass h.kept given h.halved,
        ap shares_of h.were ∙ middle_sum h.before h.behind h.task,
        ap shares_of h.are ∙ middle_sum h.before h.behind (record h.task { pass = h.kept }),
        ap (λ (k : StationPass). k.view.shares) h.same,
      )

  -- the jobs stay
  pub parts_jobs : PartsMost asking left tasks rest given → jobs_of rest ≡ jobs_of tasks
  parts_jobs (inl h) = ap jobs_of h.same
  parts_jobs (inr h) =
      let f : Task → ℕ = λ task. task.job in
      ap jobs_of h.are ∙ (map-append f h.before (record h.task { pass = h.kept } ∷ h.behind)
      ∙ (sym (map-append f h.before (h.task ∷ h.behind)) ∙ sym (ap jobs_of h.were)))

-- so there are as many tasks
pub tasks_length : (asking left : StationPass) (tasks rest : List Task) (given : StationPass) → PartsMost asking left tasks rest given
    → length rest ≡ length tasks
tasks_length asking left tasks rest given h =
    sym (length-map rest (λ (task : Task). task.job)) ∙ (ap length (parts_jobs asking left tasks rest given h) ∙ length-map tasks (λ (task : Task). task.job))

at_home : (home : TableId) (before behind : List Task) (t t' : Task) → t'.home ≡ t.home
    → AllByRecursion (λ (task : Task). task.home ≡ home) (before ++ t ∷ behind) → AllByRecursion (λ (task : Task). task.home ≡ home) (before ++ t' ∷ behind)
at_home home [] behind t t' same h = (same ∙ h.0, h.1)
at_home home (b ∷ before) behind t t' same h = (h.0, at_home home before behind t t' same h.1)

-- their turnstile too
pub parts_homes : (home : TableId) (asking left : StationPass) (tasks rest : List Task) (given : StationPass) → PartsMost asking left tasks rest given
    → All (λ (task : Task). task.home ≡ home) tasks → All (λ (task : Task). task.home ≡ home) rest
parts_homes home asking left tasks rest given (inl h) all = subst (All (λ (task : Task). task.home ≡ home)) (sym h.same) all
parts_homes home asking left tasks rest given (inr h) all =
    let at : List Task → Type 0 = λ ts. All (λ (task : Task). task.home ≡ home) ts in
    subst at (sym h.are) (All-from_recursion (λ (task : Task). task.home ≡ home) (h.before ++ record h.task { pass = h.kept } ∷ h.behind)
    (at_home home h.before h.behind h.task (record h.task { pass = h.kept }) refl
    (recursion_from_All (λ (task : Task). task.home ≡ home) (h.before ++ h.task ∷ h.behind) (subst at h.were all))))

-- ---- the task with the most shares
module _ (asking : StationPass) (tasks : List Task) (at most : ℕ) (task new : Task) (given : StationPass) where
  pub parts_task : IsMost asking.view.shares tasks (Some at) most → 2 ≤ most → task ≡ get_or tasks at task
      → new ≡ record task { pass = record task.pass { view = kept_half task.pass.view } } → given ≡ record task.pass { view = given_half task.pass.view }
      → PartsMost asking asking tasks (set tasks at new) given
  parts_task h enough is new_is given_is =
      let has : task.pass.view.shares ≡ most = ap (λ (t : Task). t.pass.view.shares) is ∙ h.at.1 task in
      inr (record {
        before = take at tasks;
        task = task;
        behind = drop (suc at) tasks;
        kept = record task.pass { view = kept_half task.pass.view };
        were = sym (ap (set tasks at) is ∙ set-get_or tasks at task) ∙ set_split tasks at task h.at.0;
        halved = record { enough = omega (arith, has, enough); kept_is = refl; given_is = given_is };
        most = (omega (arith, has, h.above), subst (λ n. All (λ (t : Task). t.pass.view.shares ≤ n) tasks) (sym has) h.below);
        are = set_split tasks at new h.at.0 ∙ ap (λ (t : Task). take at tasks ++ t ∷ drop (suc at) tasks) new_is;
        same = refl;
      })

-- ---- a slice of a vector
-- a vector whose items were all changed in place
pub put_back : {A : Type 0} (xs items : List A) (len : ℕ) → length xs ≡ length items → len ≡ length items → take len (xs ++ drop (length xs) items) ≡ xs
put_back xs items len same all =
    ap (λ ys. take len (xs ++ ys)) (drop_all (length xs) items (omega (arith, same)))
    ∙ (ap (take len) (append-nil xs) ∙ take_all len xs (omega (arith, same, all)))
