-- A name gets its place, or none, before the call with it is made.
use Rattle.std.proofs.Common.{◌≡◌, ℕ, ℤ, Bool, true, false, Option, None, Some, inl, inr, ◌∙◌, subst, ap}
use Rattle.xc_data.specs.declared.call.Call.{Call}
use Rattle.xc_memhost.specs.State.{mem_host_model}
use Rattle.xc_live.specs.Called.{IsCalledSo}
use Rattle.xc_live_c.specs.declared.clients.Clients.{Clients}
use Rattle.xc_live_c.specs.Told.{HasCalledSo, IsNamedCall, IsNotPlaced, IsNotPlacedAt, IsSaid, IsSaidOf, KeepsDesk, KeepsHandle, MayBeNamed}
use Rattle.xc_live_c.specs.Told.{Telling, Unless, call_bar, has_begun, name_bar, runs_on, with_begun}

-- what is made after a name got its place is made of the desk before
called_before : (client : ℕ) (c : Call) (old mid new : Clients) (said : Telling) → KeepsDesk old mid → HasCalledSo client c mid new said
    → HasCalledSo client c old new said
called_before client c old mid new said keeps h = record {
  answer = h.answer;
  called = subst (λ desk. IsCalledSo mem_host_model client c (record { old = desk; new = new.desk }) h.answer) keeps.desk h.called;
  told = h.told;
  begun = h.begun ∙ ap (λ begun. with_begun begun client (runs_on h.answer)) keeps.begun;
  counted = h.counted ∙ keeps.counted;
}

-- of a client that has begun nothing bars a call
by_begun : (begun : Bool) (old new : Clients) (code : ℤ) (does : Type 0) → begun ≡ true → Unless (call_bar begun) old new code does → does
by_begun true old new code does b h = h
by_begun false old new code does b h = cc b

-- nor one with a name
by_named : (begun named : Bool) (old new : Clients) (code : ℤ) (does : Type 0) → begun ≡ true → named ≡ true → does
    → Unless (name_bar begun named) old new code does
by_named true true old new code does b n h = h
by_named true false old new code does b n h = cc n
by_named false named old new code does b n h = cc b

-- a name that gets no place bars it
by_place : (begun named : Bool) (client : ℕ) (c : Call) (old new : Clients) (said : Telling) → IsNotPlaced begun named said.code
    → KeepsDesk old new → Unless (name_bar begun named) old new said.code (IsNamedCall client c old new said)
by_place false named client c old new said lacks keeps = (lacks, keeps)
by_place true false client c old new said lacks keeps = (lacks, keeps)
by_place true true client c old new said lacks keeps = inl (lacks, keeps)

-- a call of an open desk, made after the name got its place
named_open : (named : Bool) (client : ℕ) (c : Call) (said : Telling) (old mid new : Clients)
    → has_begun old.begun.items client ≡ true → named ≡ true → KeepsDesk old mid
    → Unless (call_bar (has_begun mid.begun.items client)) mid new said.code (HasCalledSo client c mid new said)
    → Unless (name_bar (has_begun old.begun.items client) named) old new said.code (IsNamedCall client c old new said)
named_open named client c said old mid new b n keeps h =
    by_named (has_begun old.begun.items client) named old new said.code (IsNamedCall client c old new said) b n
    (inr (called_before client c old mid new said keeps
    (by_begun (has_begun mid.begun.items client) mid new said.code (HasCalledSo client c mid new said)
    (ap (λ begun. has_begun begun client) keeps.begun ∙ b) h)))

-- a call that is made after the name got its place
pub named_call : (named : Bool) (client : ℕ) (c : Call) (said : Telling) (old mid new : Option Clients)
    → MayBeNamed named client old → KeepsHandle old mid → IsSaid client c (record { old = mid; new = new }) said
    → IsSaidOf named client c (record { old = old; new = new }) said
named_call named client c said None mid new may keeps h = absurd may
named_call named client c said (Some old) None new may keeps h = absurd keeps
named_call named client c said (Some old) (Some mid) None may keeps h = absurd h
named_call named client c said (Some old) (Some mid) (Some new) may keeps h = named_open named client c said old mid new may.0 may.1 keeps h

-- a name gets no place, so no call is made
pub unplaced : (named : Bool) (client : ℕ) (c : Call) (said : Telling) (old new : Option Clients)
    → IsNotPlacedAt named client old said.code → KeepsHandle old new → IsSaidOf named client c (record { old = old; new = new }) said
unplaced named client c said None new lacks keeps = (lacks, keeps)
unplaced named client c said (Some old) None lacks keeps = absurd keeps
unplaced named client c said (Some old) (Some new) lacks keeps = by_place (has_begun old.begun.items client) named client c old new said lacks keeps

-- the same, where the handle was looked at before
pub named_call_from : (named : Bool) (client : ℕ) (c : Call) (said : Telling) (start old mid new : Option Clients) → old ≡ start
    → MayBeNamed named client old → KeepsHandle old mid → IsSaid client c (record { old = mid; new = new }) said
    → IsSaidOf named client c (record { old = start; new = new }) said
named_call_from named client c said start old mid new same may keeps h =
    subst (λ at. IsSaidOf named client c (record { old = at; new = new }) said) same (named_call named client c said old mid new may keeps h)

-- no place, where the handle was looked at before
pub unplaced_from : (named : Bool) (client : ℕ) (c : Call) (said : Telling) (start old new : Option Clients) → old ≡ start
    → IsNotPlacedAt named client old said.code → KeepsHandle old new → IsSaidOf named client c (record { old = start; new = new }) said
unplaced_from named client c said start old new same lacks keeps =
    subst (λ at. IsSaidOf named client c (record { old = at; new = new }) said) same (unplaced named client c said old new lacks keeps)

-- a call of a handle that was looked at before
pub said_from : (client : ℕ) (c : Call) (said : Telling) (start old new : Option Clients) → old ≡ start
    → IsSaid client c (record { old = old; new = new }) said → IsSaid client c (record { old = start; new = new }) said
said_from client c said start old new same h = subst (λ at. IsSaid client c (record { old = at; new = new }) said) same h
