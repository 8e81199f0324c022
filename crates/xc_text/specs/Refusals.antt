-- Answers to a whole script, and what code gives of them.
use Rattle.std.specs.Prelude.{◌≡◌, ℕ, Result, Ok, Err}
use Rattle.xc_tokens.specs.declared.why.Why.{Why}
use Rattle.xc_text.specs.declared.parse_err.ParseErr.{ParseErr}
use Rattle.xc_text.specs.declared.parse_err.ParseErr.TheVariants as parse_err

-- a line's number and the reason against it
abbrev pub Refusal : Type 0
Refusal = ℕ × Why

-- what the grammar says where a script isn't read
abbrev pub Fails : {B : Type 0} → ParseErr → Result B Refusal → Type 0
Fails (parse_err.Refused line e) said = said ≡ Err (line, e)
Fails parse_err.NoMemory said = Unit {0}

-- a script is read as the grammar says, but for lack of memory
abbrev pub Reads : {A : Type 0} → Result A ParseErr → Result A Refusal → Type 0
Reads (Ok x) said = said ≡ Ok x
Reads (Err e) said = Fails e said
