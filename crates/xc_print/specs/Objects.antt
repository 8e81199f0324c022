-- How handles, numbers and objects are printed.
use Rattle.std.specs.Prelude.{ℕ, ◌==◌, List, [], ◌∷◌, ◌++◌, codes, if◌then◌else◌}
use Rattle.std.specs.Fmt.{decimal}
use Rattle.xc_data.specs.declared.claim.Mode.{Mode}
use Rattle.xc_data.specs.declared.claim.Mode.TheVariants.{Shared, Exclusive}
use Rattle.xc_data.specs.declared.claim.Claim.{Claim}
use Rattle.xc_data.specs.declared.object.Num.{Num}
use Rattle.xc_data.specs.declared.object.Object.{Object}
use Rattle.xc_data.specs.declared.object.Object.TheVariants.{Word, Name, File, Pipe, Pair, Jobs}

-- a handle; 65,535 stands for a variable that holds none
abbrev pub handle_text : ℕ → List ℕ
handle_text h = if h == 65535 then codes "h-" else codes "h" ++ decimal h

-- the number of a file, pipe or pair
abbrev pub num_text : Num → List ℕ
num_text num = decimal num.tx ++ codes "." ++ decimal num.k

-- an object: its kind, and which one
abbrev pub object_text : Object → List ℕ
object_text (Word at) = codes "word " ++ decimal at
object_text (Name name) = codes "name " ++ name
object_text (File num) = codes "file " ++ num_text num
object_text (Pipe num) = codes "pipe " ++ num_text num
object_text (Pair num) = codes "pair " ++ num_text num
object_text Jobs = codes "jobs"

-- what stands after a held object
abbrev pub mode_text : Mode → List ℕ
mode_text Shared = codes " shared"
mode_text Exclusive = []

-- a held object
abbrev pub claim_text : Claim → List ℕ
claim_text claim = object_text claim.object ++ mode_text claim.mode

-- the held objects after the first
abbrev pub further_claims : List Claim → List ℕ
further_claims [] = []
further_claims (claim ∷ claims) = codes ", " ++ claim_text claim ++ further_claims claims

-- the line of the held objects, none where none is held
abbrev pub held_line : List Claim → List ℕ
held_line [] = []
held_line (claim ∷ claims) = codes "  held " ++ claim_text claim ++ further_claims claims ++ codes "\n"
