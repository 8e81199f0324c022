-- What making a pair does.
use Rattle.std.specs.Prelude.{◌≡◌, ℕ, ◌++◌, List, [], ◌∷◌, Result, Some, IfOk, OnErr, IsTrue}
use Rattle.xc_data.specs.Counts.{CountsFault}
use Rattle.xc_data.specs.Step.{Step}
use Rattle.xc_data.specs.Private.{lowest_vacant, with_place}
use Rattle.xc_data.specs.declared.call.Reply.{Reply}
use Rattle.xc_data.specs.declared.call.Reply.TheVariants.{MadePair, Fault}
use Rattle.xc_data.specs.declared.memory.NoMemory.{NoMemory}
use Rattle.xc_data.specs.declared.object.Num.{Num}
use Rattle.xc_data.specs.declared.private.Place.TheVariants.{Pair}
use Rattle.xc_data.specs.declared.private.Private.{Private}
use Rattle.xc_data.specs.declared.undo.Undo.{Undo}
use Rattle.xc_data.specs.declared.undo.Undo.TheVariants.{NewPair}
use Rattle.xc_world.specs.Act.Names.{making}
use Rattle.xc_compensate.specs.Records.{AtHost}
use Rattle.xc_calls.specs.Calls.{replies_fault}
use Rattle.xc_calls.specs.Passing.{IsAsBefore}
use Rattle.xc_host.specs.Contents.{Contents}
use Rattle.xc_host.specs.Model.{HostModel}
use Rattle.xc_host.specs.Pairs.{with_new_pair}

-- the first of these handles is the lowest vacant one, and where side 0 of this pair stands there, the second is
abbrev pub AreVacant : Private → Num → ℕ × ℕ → Type 0
AreVacant me num at =
    (lowest_vacant me.places ≡ Some at.0) × (lowest_vacant (with_place me at.0 (Pair num 0)).places ≡ Some at.1)

-- what the making of a pair of this number did with this reply: it is there, at these handles, or nothing changed
abbrev pub MakesPair : Step Contents → Num → ℕ × ℕ → Reply → Type 0
MakesPair c num at (MadePair h g) = ((h, g) ≡ at) × (c.new ≡ with_new_pair c.old num)
MakesPair c num at (Fault n) = (n ≡ 0) × (c.new ≡ c.old)
-- it has no other reply
MakesPair c num at _ = ⊥

-- it replies with these handles, or a fault of no byte
abbrev pub IsPairMadeAt : ℕ × ℕ → Reply → Type 0
IsPairMadeAt at (MadePair h g) = (h, g) ≡ at
IsPairMadeAt at (Fault n) = n ≡ 0
-- it has no other reply
IsPairMadeAt at _ = ⊥

-- the record of a pair that was made
abbrev pub pair_made_record : Num → Reply → List Undo
pair_made_record num (MadePair h g) = NewPair num ∷ []
-- with any other reply nothing was made
pair_made_record num _ = []

-- where a pair was made, its sides stand at their handles, and one object more is made
abbrev pub with_pair_made : Private → ℕ × ℕ → Num → Reply → Private
with_pair_made me at num (MadePair h g) = making (with_place (with_place me at.0 (Pair num 0)) at.1 (Pair num 1))
-- with any other reply nothing was made
with_pair_made me at num _ = me

-- a pair of this number is made for these handles: what it replies, does and records; where memory ran out, all is as before
pub record IsMakingPair {H : Type 0} (model : HostModel H) (num : Num) (at : ℕ × ℕ) (step : Step (AtHost H))
    (result : Result Reply NoMemory) : Type 0 where
  pub made : IfOk result (IsPairMadeAt at)
  pub told : IsTrue model.tells → IfOk result (MakesPair (record {
    old = model.contents step.old.host;
    new = model.contents step.new.host;
  }) num at)
  pub records : IfOk result (λ reply. step.new.undo ≡ record { pending = step.old.undo.pending ++ pair_made_record num reply; ended = [] })
  pub err : OnErr result (IsAsBefore model step)
  pub cause : CountsFault (replies_fault result) (model.fault_count step.old.host) (model.fault_count step.new.host)
