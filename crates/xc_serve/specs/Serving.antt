-- One line of a session, as the code has it.
use Rattle.std.specs.Prelude.{◌≡◌, ℕ, ◌≤◌, List, take, Option}
use Rattle.std.specs.declared.option.Option.TheVariants.{None, Some}
use Rattle.std.specs.Io.KnownBytes.{Appends, Keeps}
use Rattle.xc_data.specs.Step.{Step}
use Rattle.xc_edge.specs.View.{HasFailed}
use Rattle.xc_links.specs.Wires.{Wire, giving}
use Rattle.xc_station.specs.Passes.{StationPass}
use Rattle.xc_serve.specs.declared.answer.ServeAnswer.{ServeAnswer}
use Rattle.xc_serve.specs.declared.order.Order.{Order}
use Rattle.xc_serve.specs.declared.order.Order.TheVariants as order
use Rattle.xc_serve.specs.declared.serve.Next.{Next}
use Rattle.xc_serve.specs.declared.serve.Next.TheVariants as next
use Rattle.xc_serve.specs.declared.serve.SessionEnd.TheVariants as end
use Rattle.xc_serve.specs.Answers.{answer_bytes}
use Rattle.xc_serve.specs.Gains.{IsOrderFollowed}
use Rattle.xc_serve.specs.Sessions.{SessionGoesOn}

-- bytes were written, and nothing was read
pub record Wrote (before after : Wire) (bytes : List ℕ) : Type 0 where
  pub took : Appends before.taken after.taken bytes
  pub left : Keeps before.left after.left
  pub later : before.faults ≤ after.faults

-- an answer was written, and the session goes on or ends by its line; or a front of it, and the link failed
abbrev pub IsSaid : Wire → Wire → Order → List ℕ → Next → Type 0
IsSaid before after asked answer next.Line = SessionGoesOn asked × Wrote before after answer
IsSaid before after asked answer (next.End end.Quit) = (asked ≡ order.Quit) × Wrote before after answer
IsSaid before after asked answer (next.End end.TooLong) = (asked ≡ order.TooLong) × Wrote before after answer
IsSaid before after asked answer (next.End end.LinkFault) =
    (n : ℕ) × Wrote before after (take n answer) × HasFailed (giving before) (giving after)
IsSaid before after asked answer (next.End end.NoMemory) = ⊥

-- where there was one; else the session ends, and nothing was written
abbrev pub IsSaidIf : Wire → Wire → Order → Option ServeAnswer → Next → Type 0
IsSaidIf before after asked None to = (to ≡ next.End end.NoMemory) × (after ≡ before)
IsSaidIf before after asked (Some answer) to = IsSaid before after asked (answer_bytes answer) to

-- an order was followed and answered
pub record IsServed (old new : StationPass) (link : Step Wire) (asked : Order) (to : Next) : Type 0 where
  pub told : Option ServeAnswer
  pub followed : IsOrderFollowed old new asked told
  pub said : IsSaidIf link.old link.new asked told to
