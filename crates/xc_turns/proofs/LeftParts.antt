-- What is left of one job, by what it does, and that it is less after each kind of turn.
use Rattle.std.proofs.Common.{◌≡◌, ℕ, ◌+◌, ◌*◌, ◌-◌, ◌<◌, ◌≤◌, List, [], ◌∷◌, ◌++◌, length, drop, zero, suc}
use Rattle.std.proofs.Common.{refl, ap, sym, ◌∙◌, subst, arith, length-append}
use Rattle.std.proofs.lemmas.List.Sums.{sum_by-cons}
use Rattle.std.specs.Prelude.{IsSome, slice_get, unwrap_or}
use Rattle.xc_data.specs.declared.entry.Cause.{Cause}
use Rattle.xc_data.specs.declared.entry.JobEnd.{JobEnd}
use Rattle.xc_data.specs.declared.private.Private.{Private}
use Rattle.xc_data.specs.declared.undo.Undo.{Undo}
use Rattle.xc_text.specs.Stated.{Statement}
use Rattle.xc_model.specs.declared.phase.Phase.{Phase}
use Rattle.xc_model.specs.declared.phase.Phase.TheVariants.{Running, Committing, Undoing, Backing}
use Rattle.xc_model.specs.Setting.{Setting}
use Rattle.xc_model.specs.BackingRows.{phase_after}
use Rattle.xc_data.specs.declared.undo.UndoEnd.{UndoEnd}
use Rattle.xc_data.specs.declared.undo.UndoEnd.TheVariants.{Undone, Failed, Blocked}
use Rattle.xc_model.specs.Moment.{TxView, Idle, Active, Starved, Ended, late_left}
use Rattle.xc_model.specs.IdleRows.{new_tx}
use Rattle.xc_model.specs.Measure.{attempt_turns, phase_turns, bodies_turns, doing_turns}

-- ---- the bodies that are left
-- the next one
abbrev pub first_body : List (List Statement) → List Statement
first_body [] = []
first_body (body ∷ bodies) = body

-- those after it
abbrev pub bodies_after : List (List Statement) → List (List Statement)
bodies_after [] = []
bodies_after (body ∷ bodies) = bodies

rest_past : (bodies : List (List Statement)) (n : ℕ) → drop (suc n) bodies ≡ bodies_after (drop n bodies)
rest_past [] zero = refl
rest_past [] (suc n) = refl
rest_past (body ∷ bodies) zero = refl
rest_past (body ∷ bodies) (suc n) = rest_past bodies n

-- the bodies after the next one
pub rest_there : (bodies : List (List Statement)) (n : ℕ) → drop (n + 1) bodies ≡ bodies_after (drop n bodies)
rest_there bodies n = ap (λ k. drop k bodies) (let h : n + 1 ≡ suc n = omega arith in h) ∙ rest_past bodies n

-- the next one
pub first_there : (bodies : List (List Statement)) (n : ℕ) → unwrap_or (slice_get bodies n) [] ≡ first_body (drop n bodies)
first_there [] zero = refl
first_there [] (suc n) = refl
first_there (body ∷ bodies) zero = refl
first_there (body ∷ bodies) (suc n) = first_there bodies n

-- where one is left there are some
pub some_there : (bodies : List (List Statement)) (n : ℕ) → IsSome (slice_get bodies n) → drop n bodies ≡ [] → ⊥
some_there [] n some e = cc
some_there (body ∷ bodies) zero some e = cc
some_there (body ∷ bodies) (suc n) some e = some_there bodies n some e

-- ---- what is left of a job, by what it does
two_left : (n at : ℕ) (tx : TxView) (p : Phase) → 2 ≤ phase_turns n at tx p
two_left n at tx Running = omega arith
two_left n at tx Committing = omega arith
two_left n at tx (Undoing c) = omega arith
two_left n at tx Backing = omega arith

none_failed : (a t r : ℕ) → (a - 0) * t + r + 1 ≡ a * t + r + 1
none_failed a t r = ap (λ x. x * t + r + 1) (let h : a - 0 ≡ a = omega arith in h)

idle_is : (s : Setting) (at : ℕ) (bodies : List (List Statement)) → doing_turns s 0 at bodies Idle ≡ bodies_turns s bodies + 1
idle_is s at [] = refl
idle_is s at (body ∷ bodies) = none_failed s.rules.attempts (attempt_turns s body) (bodies_turns s bodies)
    ∙ ap (λ n. n + 1) (sym (sum_by-cons (λ b. s.rules.attempts * attempt_turns s b) body bodies))

one_more : (a f t : ℕ) → f < a → (a - f) * t ≡ t + (a - (f + 1)) * t
one_more a f t h =
    let k : ℕ = a - (f + 1) in
    let e : a - f ≡ 1 + k = omega arith in
    ap (λ x. x * t) e ∙ grind arith

-- nothing is left of a job that has ended
pub ended_is : (s : Setting) (failed at : ℕ) (bodies : List (List Statement)) (end : JobEnd) → doing_turns s failed at bodies (Ended end) ≡ 0
ended_is s failed at [] end = refl
ended_is s failed at (body ∷ bodies) end = refl

-- of a starved one its end
pub starved_is : (s : Setting) (failed at : ℕ) (bodies : List (List Statement)) → doing_turns s failed at bodies Starved ≡ 1
starved_is s failed at [] = refl
starved_is s failed at (body ∷ bodies) = refl

-- of an idle one at least its end
pub idle_some : (s : Setting) (failed at : ℕ) (bodies : List (List Statement)) → 0 < doing_turns s failed at bodies Idle
idle_some s failed at [] = omega arith
idle_some s failed at (body ∷ bodies) = omega arith

-- of one with an active transaction more
pub active_some : (s : Setting) (failed at : ℕ) (bodies : List (List Statement)) (tx : TxView)
    → (s.rules.patience - 0) + 1 < doing_turns s failed at bodies (Active tx)
active_some s failed at [] tx = omega (arith, two_left 0 at tx tx.phase)
active_some s failed at (body ∷ bodies) tx = omega (arith, two_left (length body) at tx tx.phase)

-- ---- each kind of turn
-- a transaction begins
pub begun_falls : (s : Setting) (failed at : ℕ) (bodies : List (List Statement)) (number rank began : ℕ) (me : Private) → failed < s.rules.attempts
    → (bodies ≡ [] → ⊥)
    → (s.rules.patience - 0) + doing_turns s failed at bodies (Active (new_tx number rank began me)) < doing_turns s failed at bodies Idle
begun_falls s failed at [] number rank began me few some = absurd (some refl)
begun_falls s failed at (body ∷ bodies) number rank began me few some = omega (arith, one_more s.rules.attempts failed (attempt_turns s body) few)

-- the transaction is passed
pub passed_falls : (s : Setting) (failed at : ℕ) (bodies : List (List Statement)) (tx : TxView)
    → (s.rules.patience - 0) + doing_turns s 0 0 (bodies_after bodies) Idle < doing_turns s failed at bodies (Active tx)
passed_falls s failed at [] tx = omega (arith, two_left 0 at tx tx.phase)
passed_falls s failed at (body ∷ bodies) tx = omega (arith, idle_is s 0 bodies, two_left (length body) at tx tx.phase)

-- it is tried again
pub again_falls : (s : Setting) (failed at : ℕ) (bodies : List (List Statement)) (tx : TxView)
    → (s.rules.patience - 0) + doing_turns s (failed + 1) 0 bodies Idle < doing_turns s failed at bodies (Active tx)
again_falls s failed at [] tx = omega (arith, two_left 0 at tx tx.phase)
again_falls s failed at (body ∷ bodies) tx = omega (arith, two_left (length body) at tx tx.phase)

stays_below : (n at later : ℕ) (tx : TxView) (p : Phase) → p ≡ Running → at ≤ later → phase_turns n later tx p ≤ phase_turns n at tx p
stays_below n at later tx Running runs after = omega arith
stays_below n at later tx Committing runs after = cc
stays_below n at later tx (Undoing c) runs after = cc
stays_below n at later tx Backing runs after = cc

-- it goes on
pub on_falls : (s : Setting) (failed at later : ℕ) (bodies : List (List Statement)) (tx next : TxView)
    → ((n : ℕ) → n ≡ length (first_body bodies)
    → phase_turns n later next next.phase < phase_turns n at tx tx.phase)
    → doing_turns s failed later bodies (Active next) < doing_turns s failed at bodies (Active tx)
on_falls s failed at later [] tx next falls = omega (arith, falls 0 refl)
on_falls s failed at later (body ∷ bodies) tx next falls = omega (arith, falls (length body) refl)

-- it passes silent statements at most
pub on_stays : (s : Setting) (failed at later : ℕ) (bodies : List (List Statement)) (tx : TxView) → tx.phase ≡ Running → at ≤ later
    → doing_turns s failed later bodies (Active tx) ≤ doing_turns s failed at bodies (Active tx)
on_stays s failed at later [] tx runs after = let less = stays_below 0 at later tx tx.phase runs after in omega arith
on_stays s failed at later (body ∷ bodies) tx runs after = let less = stays_below (length body) at later tx tx.phase runs after in omega arith

-- ---- an active transaction
-- with one record and one late call more at most
pub called_less : (n at later : ℕ) (tx next : TxView) → tx.phase ≡ Running → next.phase ≡ tx.phase → at < later → at < n
    → length next.undo.pending ≤ length tx.undo.pending + 1 → length (late_left next) ≤ length (late_left tx) + 1
    → phase_turns n later next next.phase < phase_turns n at tx tx.phase
called_less n at later tx next runs same nearer within records kept =
    subst (λ q. phase_turns n later next q < phase_turns n at tx tx.phase) (sym (same ∙ runs))
    (subst (λ q. phase_turns n later next Running < phase_turns n at tx q) (sym runs) (omega arith))

-- it leaves its running
pub turned_less : (n at later : ℕ) (tx next : TxView) (p q : Phase) → at ≤ later → p ≡ Running → (q ≡ Running → ⊥)
    → length next.undo.pending ≡ length tx.undo.pending → length (late_left next) ≡ length (late_left tx)
    → phase_turns n later next q < phase_turns n at tx p
turned_less n at later tx next p Running after runs other records kept = absurd (other refl)
turned_less n at later tx next p Committing after runs other records kept =
    subst (λ r. length (late_left next) + 2 < phase_turns n at tx r) (sym runs) (omega arith)
turned_less n at later tx next p Backing after runs other records kept =
    subst (λ r. 3 * (n - later) + length next.undo.pending + length (late_left next) + 3 < phase_turns n at tx r) (sym runs) (omega arith)
turned_less n at later tx next p (Undoing c) after runs other records kept =
    subst (λ r. length next.undo.pending + 2 < phase_turns n at tx r) (sym runs) (omega arith)

-- it does for lack of memory, with so many records more
pub wanting_less : (n at left : ℕ) (tx : TxView) (p : Phase) → p ≡ Running → left ≤ n - at → length tx.undo.pending + left + 2 < phase_turns n at tx p
wanting_less n at left tx p runs before = subst (λ q. length tx.undo.pending + left + 2 < phase_turns n at tx q) (sym runs) (omega arith)

-- a late call is done
pub late_less : (n at : ℕ) (tx next : TxView) (p : Phase) → p ≡ Committing → length (late_left next) < length (late_left tx)
    → phase_turns n at next p < phase_turns n at tx p
late_less n at tx next p commits less = subst (λ q. phase_turns n at next q < phase_turns n at tx q) (sym commits) (omega arith)

-- a marked one leaves its way back
pub cut_less : (n at : ℕ) (c : Cause) (tx next : TxView) (p : Phase) → p ≡ Backing → length next.undo.pending ≡ length tx.undo.pending
    → phase_turns n at next (Undoing c) < phase_turns n at tx p
cut_less n at c tx next p backs records = subst (λ q. length next.undo.pending + 2 < phase_turns n at tx q) (sym backs) (omega arith)

-- one of the block's records is tried
pub backs_less : (n at number : ℕ) (tx next : TxView) (u : Undo) (e : UndoEnd) (p : Phase) → p ≡ Backing → tx.undo.pending ≡ next.undo.pending ++ u ∷ []
    → length (late_left next) ≡ length (late_left tx) → phase_turns n at next (phase_after number e) < phase_turns n at tx p
backs_less n at number tx next u e p backs same kept = subst (λ q. phase_turns n at next (phase_after number e) < phase_turns n at tx q) (sym backs) (by_end e)
  where
    count : length tx.undo.pending ≡ length next.undo.pending + 1
    count = ap length same ∙ length-append next.undo.pending (u ∷ [])

    by_end : (e : UndoEnd) → phase_turns n at next (phase_after number e) < phase_turns n at tx Backing
    by_end (Undone faults) = omega (arith, count, kept)
    by_end (Failed done faults) = omega (arith, count)
    by_end (Blocked by) = omega (arith, count)

-- its way back ends
pub gone_less : (n at later : ℕ) (tx next : TxView) (p : Phase) → p ≡ Backing → at < later → at < n → length next.undo.pending ≡ length tx.undo.pending
    → length (late_left next) ≤ length (late_left tx) → phase_turns n later next Running < phase_turns n at tx p
gone_less n at later tx next p backs nearer within records kept =
    subst (λ q. phase_turns n later next Running < phase_turns n at tx q) (sym backs) (omega arith)

-- one of its records is tried
pub tried_less : (n at : ℕ) (c : Cause) (tx next : TxView) (u : Undo) (p : Phase) → p ≡ Undoing c → tx.undo.pending ≡ next.undo.pending ++ u ∷ []
    → phase_turns n at next p < phase_turns n at tx p
tried_less n at c tx next u p undoes same =
    let count : length tx.undo.pending ≡ length next.undo.pending + 1 = ap length same ∙ length-append next.undo.pending (u ∷ []) in
    subst (λ q. phase_turns n at next q < phase_turns n at tx q) (sym undoes) (omega arith)
