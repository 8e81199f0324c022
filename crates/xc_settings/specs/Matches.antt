-- What the matches of the command's words have.
use Rattle.std.specs.Prelude.{IfSome, codes}
use Rattle.clap.specs.Matches.{first_value}
use Rattle.clap.specs.Values.{IsUnsignedIn}
use Rattle.clap.specs.declared.parser.matches.Found.{Found}

-- each number is in its option's bounds
pub record HasNumbers (found : Found) : Type 0 where
  pub workers : IfSome (first_value found (codes "workers")) (IsUnsignedIn 1 64)
  pub attempts : IfSome (first_value found (codes "attempts")) (IsUnsignedIn 1 1000)
  pub patience : IfSome (first_value found (codes "patience")) (IsUnsignedIn 0 1000000)
  pub undo_tries : IfSome (first_value found (codes "undo-tries")) (IsUnsignedIn 1 16)
  pub seed : IfSome (first_value found (codes "seed")) (IsUnsignedIn 0 18446744073709551615)
