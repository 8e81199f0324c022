-- What the program writes, and how it ends.
use Rattle.std.specs.Prelude.{◌≡◌, ◌⊎◌, ℕ, List, codes}
use Rattle.xc_edge.specs.Streams.{Came, AppendsWhole, AppendsPart}
use Rattle.xc_edge.specs.View.{StreamView, HasFailed}
use Rattle.xc_picture.specs.Pictures.{IsPictureOf}
use Rattle.xcalls_picture.specs.declared.status.PictureStatus.{PictureStatus}
use Rattle.xcalls_picture.specs.declared.status.PictureStatus.TheVariants as status

-- a status as the program's exit status
abbrev pub picture_status_number : PictureStatus → ℕ
picture_status_number status.Drawn = 0
picture_status_number status.Refused = 1
picture_status_number status.Usage = 2
picture_status_number status.ReadFault = 3
picture_status_number status.WriteFault = 4
picture_status_number status.NoMemory = 5

-- what is written where there is no picture
abbrev pub refusal_text : PictureStatus → List ℕ
refusal_text status.Refused = codes "this is no journal, or one of more than 67,108,864 bytes\n"
refusal_text status.Usage = codes "usage: xcalls_picture\n"
refusal_text status.ReadFault = codes "read fault\n"
refusal_text status.NoMemory = codes "no memory\n"
refusal_text status.Drawn = codes ""
refusal_text status.WriteFault = codes ""

-- all was written, and the program ends with the status that was meant; or a front, and it ends with the sink's failure
abbrev pub IsRefusalSaid : PictureStatus → PictureStatus → StreamView → StreamView → Type 0
IsRefusalSaid meant ends old new = ((ends ≡ meant) × AppendsWhole old new (refusal_text meant))
    ⊎ ((ends ≡ status.WriteFault) × AppendsPart old new (refusal_text meant) × HasFailed old new)

-- a text came whole, and its picture was written whole
pub record IsDrawn (source left sink full : StreamView) : Type 0 where
  pub text : List ℕ
  pub svg : List ℕ
  pub came : Came 67108865 source left text
  pub drawn : IsPictureOf text svg
  pub written : AppendsWhole sink full svg
