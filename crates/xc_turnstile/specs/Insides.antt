-- What a pass knows inside, and what it keeps over its enterings.
use Rattle.std.specs.Prelude.{◌≡◌, ℕ, ◌+◌, ◌%◌, ◌^◌, ◌<◌, ◌≤◌, ◌⊎◌, List, ◌∷◌, ◌++◌, [], length, Some, IsSome}
use Rattle.xc_turnstile.specs.Known.{Known}
use Rattle.xc_turnstile.specs.Meanings.{Meaning}
use Rattle.xc_turnstile.specs.Views.{AreAtPlaces, BeginsWith, entered_view}

-- the value was handed out, and the pass is as it was but for how often it lost
pub record IsInside {X E V O : Type 0} (m : Meaning X E V O) (pass hold : Known E V O) (value : X) : Type 0 where
  pub table : hold.table ≡ pass.table
  pub begins : BeginsWith (m.journal value) pass.view.seen
  pub origin : pass.view.origin ≡ Some (m.origin value)
  pub lost : ℕ
  pub more : pass.view.lost ≤ lost
  pub view : hold.view ≡ entered_view (m.journal value) (m.count value) (record pass.view { lost = lost })

-- another was inside: the pass is as it was but for how often it lost
pub record IsOutside {E V O : Type 0} (pass back : Known E V O) : Type 0 where
  pub table : back.table ≡ pass.table
  pub lost : ℕ
  pub more : pass.view.lost ≤ lost
  pub view : back.view ≡ record pass.view { lost = lost }

-- what `leave` asks of y where x was handed out: the journal goes on, the origin stays, and there was one event at most
pub record MayFollow {X E V O : Type 0} (m : Meaning X E V O) (x y : X) : Type 0 where
  pub front : BeginsWith (m.journal y) (m.journal x)
  pub origin : m.origin y ≡ m.origin x
  pub event : (m.count y ≡ m.count x) ⊎ (IsSome (m.last y) × (m.count y ≡ (m.count x + 1) % 2 ^ 64))
  pub room : length (m.journal y) < 2 ^ 32

-- this event leads from x to y
pub record IsNext {X E V O : Type 0} (m : Meaning X E V O) (x y : X) (event : V) : Type 0 where
  pub front : BeginsWith (m.journal y) (m.journal x)
  pub origin : m.origin y ≡ m.origin x
  pub count : m.count y ≡ (m.count x + 1) % 2 ^ 64
  pub last : m.last y ≡ Some event

-- a pass goes on: its shares and its origin stay, it has seen more, and its own entries stay in front of those it adds
pub record PassGoesOn {E V O : Type 0} (old new : Known E V O) : Type 0 where
  pub table : new.table ≡ old.table
  pub shares : new.view.shares ≡ old.view.shares
  pub origin : new.view.origin ≡ old.view.origin
  pub seen : BeginsWith new.view.seen old.view.seen
  pub added : List (ℕ × E)
  pub mine : new.view.mine ≡ old.view.mine ++ added

-- it goes on, with these events and these entries more, which stand at their places in what it has seen
pub record Gains {E V O : Type 0} (old new : Known E V O) (events : List V) (entries : List (ℕ × E)) : Type 0 where
  pub goes : PassGoesOn old new
  pub gained : new.view.events ≡ old.view.events ++ events
  pub mine : new.view.mine ≡ old.view.mine ++ entries
  pub stand : AreAtPlaces new.view.seen entries

-- it enters once, and gains this event
pub record GainsEvent {E V O : Type 0} (old new : Known E V O) (event : V) : Type 0 where
  pub entries : List (ℕ × E)
  pub gains : Gains old new (event ∷ []) entries
  pub won : new.view.won ≡ old.view.won + 1
  pub lost : old.view.lost ≤ new.view.lost

-- what passes that were split and met keep of the pass that they came from
pub record Together {E V O : Type 0} (old new : Known E V O) : Type 0 where
  pub table : new.table ≡ old.table
  pub shares : new.view.shares ≡ old.view.shares
  pub origin : new.view.origin ≡ old.view.origin
  pub seen : BeginsWith new.view.seen old.view.seen
