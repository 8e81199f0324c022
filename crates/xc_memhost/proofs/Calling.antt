-- Calls of a host in memory that follow each other.
use Rattle.std.proofs.Common.{◌≡◌, ℕ, zero, suc, ◌+◌, ◌<◌, List, [], ◌∷◌, length, take, get_or, add-one, Result, Ok, Err, OnErr, inl}
use Rattle.std.proofs.Common.{inr, subst, ap, ◌∙◌, arith}
use Rattle.xc_memhost.specs.declared.calls.HostCall.{HostCall}
use Rattle.xc_memhost.specs.State.{MemState}
use Rattle.xc_memhost.specs.Machine.{after_host_call, after_all, StopsAtCall, StopsAmong}

after_next : (s : MemState) (calls : List HostCall) (i : ℕ) (c : HostCall) → i < length calls → c ≡ get_or calls i c
    → after_host_call (after_all s (take i calls)) c ≡ after_all s (take (suc i) calls)
after_next s [] i c le is = absurd (omega (arith, le))
after_next s (d ∷ ds) zero c le is = ap (after_host_call s) is
after_next s (d ∷ ds) (suc i) c le is = after_next (after_host_call s d) ds i c (omega (arith, le)) is

-- the state after one more call of a list
pub made_more : (old now host : MemState) (calls : List HostCall) (i : ℕ) (c : HostCall) → host ≡ after_all old (take i calls) → i < length calls
    → c ≡ get_or calls i c → now ≡ after_host_call host c
    → now ≡ after_all old (take (i + 1) calls)
made_more old now host calls i c so_far le is one = one ∙ ap (λ s. after_host_call s c) so_far ∙ rw (add-one i) (after_next old calls i c le is)

stops_at : (old now host : MemState) (calls : List HostCall) (i : ℕ) (c : HostCall) → host ≡ after_all old (take i calls) → i < length calls
    → c ≡ get_or calls i c → StopsAtCall host c now → StopsAmong old calls now
stops_at old now host [] i c so_far le is stops = absurd (omega (arith, le))
stops_at old now host (d ∷ ds) zero c so_far le is stops =
    inl (subst (λ s. StopsAtCall s d now) so_far (subst (λ e. StopsAtCall host e now) is stops))
stops_at old now host (d ∷ ds) (suc i) c so_far le is stops = inr (stops_at (after_host_call old d) now host ds i c so_far (omega (arith, le)) is stops)

-- lack of memory at one of the calls
pub memory_stopped_at : {T E : Type 0} (r : Result T E) (old now host : MemState) (calls : List HostCall) (i : ℕ) (c : HostCall)
    → host ≡ after_all old (take i calls)
    → i < length calls → c ≡ get_or calls i c → StopsAtCall host c now → OnErr r (StopsAmong old calls now)
memory_stopped_at (Ok x) old now host calls i c so_far le is stops = tt
memory_stopped_at (Err e) old now host calls i c so_far le is stops = stops_at old now host calls i c so_far le is stops
