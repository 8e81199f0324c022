-- What is kept where a message is received, or is given back for want of memory.
use Rattle.std.proofs.Common.{◌≡◌, ◌⊎◌, inl, inr, ℕ, ◌<◌, true, List, [], ◌∷◌, ap, sym, ◌∙◌}
use Rattle.std.specs.Prelude.{All}
use Rattle.xc_data.specs.declared.entry.KeptItem.{KeptItem}
use Rattle.xc_data.specs.declared.entry.KeptItem.TheVariants.{Message}
use Rattle.xc_data.specs.declared.object.Num.{Num}
use Rattle.xc_data.specs.declared.private.Place.TheVariants.{Pair}
use Rattle.xc_world.specs.Run.{given_back, gives}
use Rattle.xc_world.specs.World.{World}
use Rattle.xc_buffers.specs.Items.{is_fit}
use Rattle.xc_calls.specs.Taking.{HasNoneKept, HoldsMore, TakesFirst}
use Rattle.xc_socket.proofs.Receipts.{gives_there}

-- a message that was received is given back: it was kept before, or it was the host's and stands behind what is kept
pub given_message : (old mid new : List KeptItem) (num : Num) (side : ℕ) (bytes : List ℕ) → All (λ t. is_fit t ≡ true) old → side < 2
    → TakesFirst num side bytes (record { old = old; new = mid }) ⊎ HasNoneKept num side (record { old = old; new = mid })
    → ((w : World) → given_back w new ≡ gives (given_back w mid) (Message num side bytes))
    → HoldsMore (Pair num side) (record { old = old; new = new })
given_message old mid new num side bytes fit lt (inl first) is = inl (λ w. is w ∙ sym (first w))
given_message old mid new num side bytes fit lt (inr (same, none)) is =
    inr (bytes, none, λ w. is w ∙ ap (λ items. gives (given_back w items) (Message num side bytes)) same ∙ sym (gives_there old num side fit lt none w bytes))
