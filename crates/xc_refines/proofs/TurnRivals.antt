-- Claims that no other active transaction holds against, among jobs in flight.
use Rattle.std.proofs.Common.{ℕ, List, subst, sym}
use Rattle.std.specs.Prelude.{All, Contains}
use Rattle.std.proofs.lemmas.List.Elements.{All-weaker, All-contains_itself}
use Rattle.xc_data.specs.declared.call.CallWithAnswer.{CallWithAnswer}
use Rattle.xc_data.specs.declared.claim.Claim.{Claim}
use Rattle.xc_world.specs.World.{World}
use Rattle.xc_model.specs.Moment.{TxView, JobView}
use Rattle.xc_model.specs.Rivals.{HoldsAgainst, HasNoRival}
use Rattle.xc_flight.specs.Active.{Tx}
use Rattle.xc_flight.specs.Turns.{GoTogether, FitsOthers as HasNoRivalInFlight}
use Rattle.xc_refines.proofs.FlownLists.{flown_back}
use Rattle.xc_refines.proofs.TurnParts.{flight_in}

-- what is not against a claim goes together with it
together : (tx : TxView) (c : Claim) → (HoldsAgainst tx c → ⊥) → All (GoTogether c) tx.held
together tx c lacks =
    All-weaker (Contains tx.held) (GoTogether c)
    (λ d has clash. lacks (d, has, clash))
    tx.held (All-contains_itself tx.held)

-- a claim without a rival has none in flight
no_rival : (w now : World) (unnoted : ℕ → List CallWithAnswer) (jobs : List JobView) (next at : ℕ) (c : Claim) → HasNoRival jobs at c
    → HasNoRivalInFlight (flight_in w now unnoted jobs next) at c
no_rival w now unnoted jobs next at c lacks j u ne active =
    let it = flown_back unnoted jobs j u active in
    subst (λ (v : Tx). All (GoTogether c) v.held) (sym it.same)
    (together it.tx c (λ against. lacks j it.tx ne (it.job, it.there, it.active) against))

-- nor have several
pub no_rivals : (w now : World) (unnoted : ℕ → List CallWithAnswer) (jobs : List JobView) (next at : ℕ) (claims : List Claim) → All (HasNoRival jobs at) claims
    → All (HasNoRivalInFlight (flight_in w now unnoted jobs next) at) claims
no_rivals w now unnoted jobs next at claims alone =
    All-weaker (HasNoRival jobs at) (HasNoRivalInFlight (flight_in w now unnoted jobs next) at)
    (λ c. no_rival w now unnoted jobs next at c) claims alone
