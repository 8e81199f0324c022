-- What a client leaves of the others.
use Rattle.std.specs.Prelude.{◌≡◌, ◌≢◌, ◌-◌, ℕ, List, [], ◌∷◌, slice_get}
use Rattle.std.specs.declared.option.Option.TheVariants.{Some}
use Rattle.xc_model.specs.Moment.{JobView}

-- a place is that of none of these clients
abbrev pub IsNoneOf : ℕ → List ℕ → Type 0
IsNoneOf place [] = Unit {0}
IsNoneOf place (client ∷ clients) = (place ≢ client - 1) × IsNoneOf place clients

-- each client that was there but these is as before
abbrev pub LeavesAllBut : List ℕ → List JobView → List JobView → Type 0
LeavesAllBut clients old new =
    (place : ℕ) (job : JobView) → IsNoneOf place clients → slice_get old place ≡ Some job → slice_get new place ≡ Some job
