-- A session: the lines that a link sent, and what it got.
use Rattle.std.specs.Prelude.{◌≡◌, ◌≢◌, ◌⊎◌, ◌<◌, ◌≤◌, ℕ, List, [], ◌∷◌, ◌++◌, All, length, take, flat_map, Option}
use Rattle.std.specs.declared.option.Option.TheVariants.{None, Some}
use Rattle.std.specs.Io.KnownBytes.{Appends, Consumes, IsAtEnd}
use Rattle.xc_data.specs.Step.{Step}
use Rattle.xc_data.specs.declared.entry.Entry.{Entry}
use Rattle.xc_data.specs.declared.entry.Event.{Event}
use Rattle.xc_links.specs.Lines.{IsWithin}
use Rattle.xc_edge.specs.View.{HasFailed}
use Rattle.xc_links.specs.Wires.{Wire, giving}
use Rattle.xc_station.specs.Passes.{PassView, StationPass}
use Rattle.xc_serve.specs.declared.order.Order.{Order}
use Rattle.xc_serve.specs.declared.order.Order.TheVariants as order
use Rattle.xc_serve.specs.declared.serve.SessionEnd.{SessionEnd}
use Rattle.xc_serve.specs.declared.serve.SessionEnd.TheVariants as end
use Rattle.xc_serve.specs.Answers.{IsServeAnswer}
use Rattle.xc_turnstile.specs.Insides.{Gains}
use Rattle.xc_serve.specs.Orders.{order_of}

-- a line that was read; what the pass gained for it; and its answer
pub record Exchange : Type 0 where
  pub read : List ℕ
  pub order : Order
  pub events : List Event
  pub entries : List (ℕ × Entry)
  pub answer : List ℕ

-- a line of at most 64 bytes, and its end
pub record IsWholeLine (read : List ℕ) (asked : Order) : Type 0 where
  pub line : List ℕ
  pub is : read ≡ line ++ 10 ∷ []
  pub short : length line < 65
  pub within : IsWithin line
  pub means : asked ≡ order_of line

-- 65 bytes without an end
pub record IsLongLine (read : List ℕ) (asked : Order) : Type 0 where
  pub long : length read ≡ 65
  pub within : IsWithin read
  pub means : asked ≡ order.TooLong

-- these bytes ask for this
abbrev pub Asks : List ℕ → Order → Type 0
Asks read asked = IsWholeLine read asked ⊎ IsLongLine read asked

-- the line asks for this, and this is its answer, by what the pass knows
abbrev pub IsExchange : PassView → Exchange → Type 0
IsExchange v x = Asks x.read x.order × IsServeAnswer v x.order x.events x.entries x.answer

-- a list of this one, where there is one
abbrev pub exchange_list : Option Exchange → List Exchange
exchange_list None = []
exchange_list (Some x) = x ∷ []

-- all bytes that were read, in order
abbrev pub reads : List Exchange → List ℕ
reads xs = flat_map (λ (x : Exchange). x.read) xs

-- their events
abbrev pub events_of : List Exchange → List Event
events_of xs = flat_map (λ (x : Exchange). x.events) xs

-- their entries
abbrev pub entries_of : List Exchange → List (ℕ × Entry)
entries_of xs = flat_map (λ (x : Exchange). x.entries) xs

-- their answers
abbrev pub answers_of : List Exchange → List ℕ
answers_of xs = flat_map (λ (x : Exchange). x.answer) xs

-- the session goes on behind this line
abbrev pub SessionGoesOn : Order → Type 0
SessionGoesOn asked = (asked ≢ order.Quit) × (asked ≢ order.TooLong)

-- these lines were read, the pass gained what they gained, and these of them were answered
pub record HasServed (old new : StationPass) (link : Step Wire) (lines answered : List Exchange) : Type 0 where
  pub each : All (IsExchange new.view) lines
  pub gains : Gains old new (events_of lines) (entries_of lines)
  pub consumed : Consumes link.old.left link.new.left (reads lines)
  pub took : Appends link.old.taken link.new.taken (answers_of answered)
  pub later : link.old.faults ≤ link.new.faults

-- lines that go on were read and answered
pub record IsServing (old new : StationPass) (before after : Wire) : Type 0 where
  pub lines : List Exchange
  pub served : HasServed old new (record { old = before; new = after }) lines lines
  pub going : All (λ (x : Exchange). SessionGoesOn x.order) lines

-- what was read of the next line: all of it; or a rest without an end, and no more comes
abbrev pub IsAsked : Wire → Wire → Option Order → Type 0
IsAsked old new None = (rest : List ℕ) × (length rest < 65) × IsWithin rest × Consumes old.left new.left rest × IsAtEnd new.left
IsAsked old new (Some asked) = (read : List ℕ) × Asks read asked × Consumes old.left new.left read

-- ---- how a session ends
-- the link took all answers; or a front of them
abbrev pub TakesAnswers : SessionEnd → Wire → Wire → List ℕ → Type 0
TakesAnswers end.Quit before after answers = Appends before.taken after.taken answers
TakesAnswers end.TooLong before after answers = Appends before.taken after.taken answers
TakesAnswers _ before after answers = (n : ℕ) × Appends before.taken after.taken (take n answers)

-- the line in which it ends, behind lines that go on; or none, where no line came any more
abbrev pub EndsIn : Option Exchange → SessionEnd → Wire → Wire → Type 0
EndsIn None end.Quit before after = IsAtEnd after.left
EndsIn None end.LinkFault before after = HasFailed (giving before) (giving after)
EndsIn None _ before after = ⊥
EndsIn (Some x) end.Quit before after = x.order ≡ order.Quit
EndsIn (Some x) end.TooLong before after = x.order ≡ order.TooLong
EndsIn (Some x) end.LinkFault before after = HasFailed (giving before) (giving after)
EndsIn (Some x) end.NoMemory before after = SessionGoesOn x.order

-- a whole session
pub record IsSession (old new : StationPass) (before after : Wire) (end : SessionEnd) : Type 0 where
  -- the lines that were read, in order, each with what came of it, and what was read behind them
  pub lines : List Exchange
  pub rest : List ℕ
  pub each : All (IsExchange new.view) lines
  pub consumed : Consumes before.left after.left (reads lines ++ rest)
  pub cut : (length rest < 65) × IsWithin rest
  -- what the pass gained for them, and no more; each entry stands at its place in what it has seen
  pub gains : Gains old new (events_of lines) (entries_of lines)
  -- their answers
  pub took : TakesAnswers end before after (answers_of lines)
  -- it ends in the last of them, where it ends in one
  pub front : List Exchange
  pub last : Option Exchange
  pub parts : lines ≡ front ++ exchange_list last
  pub going : All (λ (x : Exchange). SessionGoesOn x.order) front
  pub ends : EndsIn last end before after
  pub later : before.faults ≤ after.faults
