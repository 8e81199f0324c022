-- Bytes that the host gave, and that stand behind what was kept of the same pipe, where all is given back.
use Rattle.std.proofs.Common.{◌≡◌, ℕ, ◌≤◌, ◌<◌, List, [], ◌∷◌, ◌++◌, length, refl, ap, sym, ◌∙◌, arith, subst, length-append, append-nil}
use Rattle.std.proofs.Common.{Bool, true, false}
use Rattle.std.proofs.Math.Dec.{eqb-suc-zero}
use Rattle.std.proofs.lemmas.List.{append_assoc}
use Rattle.std.specs.Prelude.{Result, Ok, Err, IfOk, OnOk, OnErr, ◌==◌, if◌then◌else◌}
use Rattle.xc_data.specs.Step.{Step}
use Rattle.xc_data.specs.declared.entry.KeptItem.{KeptItem}
use Rattle.xc_data.specs.declared.entry.KeptItem.TheVariants.{Bytes}
use Rattle.xc_data.specs.declared.object.Num.{Num}
use Rattle.xc_data.specs.declared.private.Place.TheVariants.{Pipe}
use Rattle.xc_world.specs.World.{World, pipe_of, with_pipe}
use Rattle.xc_world.specs.Run.{given_back, gives}
use Rattle.xc_buffers.specs.Items.{kept_bytes}
use Rattle.xc_buffers.specs.Views.{KeptView}
use Rattle.xc_buffers.specs.Worlds.{with_front}
use Rattle.xc_buffers.proofs.Laws.{pipe_front, pipe_put}
use Rattle.xc_host.specs.Pipes.{IsSomeOf}
use Rattle.xc_host.specs.declared.errors.HostErr.{HostErr}
use Rattle.xc_host.specs.declared.pipes.Took.{Took}
use Rattle.xc_host.specs.declared.pipes.Took.TheVariants as took
use Rattle.xc_calls.specs.Taking.{bytes_back, HoldsMore, KeepsBefore, KeepsNone, TakesFront}
use Rattle.xc_pipe.specs.Reading.{found_of}
use Rattle.xc_pipe.specs.Taking.{TakesAfter, TakesKept}
use Rattle.xc_pipe.proofs.Takings.{back_some, joined_back}

-- bytes in front of a pipe of which nothing is kept stand behind what is kept
pub stands_behind : (w : World) (items : List KeptItem) (pipe : Num) (rest : List ℕ) → kept_bytes pipe items ≡ []
    → given_back (given_back w items) (bytes_back pipe rest) ≡ given_back (given_back w (bytes_back pipe rest)) items
stands_behind w items pipe [] none = refl
stands_behind w items pipe (b ∷ more) none =
    let bytes : List ℕ = b ∷ more in
    let one : bytes_back pipe bytes ≡ Bytes pipe bytes ∷ [] = back_some pipe bytes (omega arith) in
    let same : pipe_of (given_back w items) pipe ≡ pipe_of w pipe = pipe_front w items pipe ∙ ap (λ front. with_front front (pipe_of w pipe)) none in
    ap (given_back (given_back w items)) one
    ∙ ap (λ p. with_pipe (given_back w items) pipe (with_front bytes p)) same ∙ sym (pipe_put w items pipe (with_front bytes (pipe_of w pipe)) none)
    ∙ ap (λ kept. given_back (given_back w kept) items) (sym one)

-- a front that was kept is given back with more of the host's, which stands behind all that was kept
pub more_behind : (old mid new : List KeptItem) (pipe : Num) (front rest : List ℕ) → kept_bytes pipe mid ≡ []
    → ((w : World) → given_back w old ≡ given_back (given_back w mid) (bytes_back pipe front))
    → ((w : World) → given_back w new ≡ given_back (given_back w mid) (bytes_back pipe (front ++ rest)))
    → KeepsBefore (record { old = old; new = new }) (bytes_back pipe rest)
more_behind old mid new pipe front rest none was is w =
    is w ∙ joined_back (given_back w mid) pipe front rest ∙ ap (λ x. given_back x (bytes_back pipe front)) (stands_behind w mid pipe rest none)
    ∙ sym (was (given_back w (bytes_back pipe rest)))

-- what was read is given back, for want of memory
pub read_given_back : (old mid new : List KeptItem) (pipe : Num) (n : ℕ) (bytes : List ℕ)
    → TakesFront pipe n bytes (record { old = old; new = mid })
    → ((w : World) → given_back w new ≡ given_back (given_back w mid) (bytes_back pipe bytes))
    → HoldsMore (Pipe pipe) (record { old = old; new = new })
read_given_back old mid new pipe n bytes takes is = by_rest takes.rest takes.whole
  where
    none_left : (rest : List ℕ) → bytes ≡ takes.front ++ rest → 1 ≤ length rest → kept_bytes pipe mid ≡ []
    none_left rest whole some = takes.left (omega (arith, takes.most, some, ap (λ (b : List ℕ). length b) whole ∙ length-append takes.front rest))

    by_rest : (rest : List ℕ) → bytes ≡ takes.front ++ rest → HoldsMore (Pipe pipe) (record { old = old; new = new })
    by_rest [] whole =
        ([], λ w. is w ∙ ap (λ (b : List ℕ). given_back (given_back w mid) (bytes_back pipe b)) (whole ∙ append-nil takes.front) ∙ sym (takes.taken w))
    by_rest (b ∷ rest) whole = (
      b ∷ rest,
      more_behind old mid new pipe takes.front (b ∷ rest) (none_left (b ∷ rest) whole (omega arith)) takes.taken
          (λ w. is w ∙ ap (λ (a : List ℕ). given_back (given_back w mid) (bytes_back pipe a)) whole),
    )

none_after : (old mid new : List KeptItem) (pipe : Num) (n : ℕ) (front : List ℕ) → 1 ≤ n
    → ((w : World) → given_back w old ≡ given_back (given_back w mid) (bytes_back pipe front)) → (length front < n → kept_bytes pipe mid ≡ [])
    → new ≡ mid → front ≡ [] → KeepsNone pipe (record { old = old; new = new })
none_after old mid new pipe n front some taken left same none = (
  (λ w. ap (given_back w) same ∙ sym (taken w ∙ ap (λ (b : List ℕ). given_back (given_back w mid) (bytes_back pipe b)) none)),
  ap (kept_bytes pipe) same ∙ left (omega (arith, some, ap (λ (b : List ℕ). length b) none)),
)

-- what the host's takes found after a kept front, as what all takes found
pub after_front : (old mid new : List KeptItem) (pipe : Num) (n : ℕ) (front : List ℕ) (result : Result Took HostErr) → 1 ≤ n
    → ((w : World) → given_back w old ≡ given_back (given_back w mid) (bytes_back pipe front)) → (length front < n → kept_bytes pipe mid ≡ [])
    → IfOk result (IsSomeOf n) → OnOk result (new ≡ mid) → OnErr result (length front < n) → TakesAfter pipe front (record { old = mid; new = new }) result
    → TakesKept pipe n (record { old = old; new = new }) result
after_front old mid new pipe n front (Ok (took.Bytes bytes)) some taken left few same short (rest, whole) = record {
  front = front;
  rest = rest;
  whole = whole;
  most = few.1;
  taken = λ w. taken w ∙ ap (λ items. given_back (given_back w items) (bytes_back pipe front)) (sym same);
  left = λ less. ap (kept_bytes pipe) same ∙ left less;
}
after_front old mid new pipe n front (Ok took.Empty) some taken left few same short none = none_after old mid new pipe n front some taken left same none
after_front old mid new pipe n front (Ok took.End) some taken left few same short none = none_after old mid new pipe n front some taken left same none
after_front old mid new pipe n front (Err e) some taken left few same short (rest, is) = (rest, more_behind old mid new pipe front rest (left short) taken is)

-- what is kept is the same where all is
pub same_items : {E A : Type 0} (old new : KeptView) (result : Result A E) → OnOk result (new ≡ old) → OnOk result (new.items ≡ old.items)
same_items old new (Ok x) same = ap (λ (k : KeptView). k.items) same
same_items old new (Err e) same = tt

-- ---- where the host has no more
-- a front that is a kept one and more of the host's
abbrev pub Extends : List ℕ → List ℕ → Type 0
Extends front bytes = (rest : List ℕ) × (bytes ≡ front ++ rest)

no_front : (front rest : List ℕ) → [] ≡ front ++ rest → front ≡ []
no_front [] rest is = refl
no_front (b ∷ front) rest is = absurd (cc is)

-- what was found at the end: the front, or none
pub found_after : (pipe : Num) (front bytes : List ℕ) (kept : Step (List KeptItem)) (none : Took) → Extends front bytes
    → (front ≡ [] → TakesAfter pipe front kept (Ok none)) → TakesAfter pipe front kept (Ok (found_of bytes none))
found_after pipe front [] kept none goes ends = ends (no_front front goes.0 goes.1)
found_after pipe front (b ∷ bytes) kept none goes ends =
    subst (λ (e : Bool). TakesAfter pipe front kept (Ok (if e then none else took.Bytes (b ∷ bytes)))) (sym (eqb-suc-zero (length bytes))) goes

-- what was taken at the host was given back behind the kept front
pub back_after : (old new : List KeptItem) (pipe : Num) (front bytes : List ℕ) (e : HostErr) → Extends front bytes
    → ((w : World) → given_back w new ≡ given_back (given_back w old) (bytes_back pipe bytes))
    → TakesAfter pipe front (record { old = old; new = new }) (Err e)
back_after old new pipe front bytes e goes is =
    (goes.0, λ w. is w ∙ ap (λ (b : List ℕ). given_back (given_back w old) (bytes_back pipe b)) goes.1)

-- more was taken
pub extends_further : (front bytes more : List ℕ) → Extends front bytes → Extends front (bytes ++ more)
extends_further front bytes more goes =
    (goes.0 ++ more, ap (λ (b : List ℕ). b ++ more) goes.1 ∙ append_assoc front goes.0 more)
