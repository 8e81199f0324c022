-- The held objects of an entry, read.
use Rattle.std.specs.Prelude.{ℕ, zero, suc, List, [], ◌∷◌, ◌++◌, codes, Some, None}
use Rattle.xc_data.specs.declared.claim.Claim.{Claim}
use Rattle.xc_data.specs.declared.claim.Mode.TheVariants.{Shared, Exclusive}
use Rattle.xc_lines.specs.Parts.{◌>>=◌, Read, past, read_behind, any_object_at}

-- an object and its mode
unfoldable pub claim_at : List ℕ → Read Claim
claim_at bytes = do
  object ← any_object_at bytes
  read_behind (past (codes " shared") object.1) (λ rest. Some (record { object = object.0; mode = Shared }, rest))
      (Some (record { object = object.0; mode = Exclusive }, object.1))

-- a claim before those that were read behind it
abbrev pub before_claims : Claim → Read (List Claim) → Read (List Claim)
before_claims claim None = None
before_claims claim (Some claims) = Some (claim ∷ claims.0, claims.1)

-- claims before those that were read behind them
abbrev pub behind_claims : List Claim → Read (List Claim) → Read (List Claim)
behind_claims so_far None = None
behind_claims so_far (Some claims) = Some (so_far ++ claims.0, claims.1)

-- those after the first, but no more than so many
unfoldable pub further_at : ℕ → List ℕ → Read (List Claim)
further_at zero bytes = Some ([], bytes)
further_at (suc n) bytes =
    read_behind (past (codes ", ") bytes) (λ rest. claim_at rest >>= (λ claim. before_claims claim.0 (further_at n claim.1)))
    (Some ([], bytes))
