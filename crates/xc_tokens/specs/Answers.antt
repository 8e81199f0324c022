-- Answers with a reason, and what code gives of them.
use Rattle.std.specs.Prelude.{◌≡◌, ℕ, nat_le, Result, Ok, Err, if◌then◌else◌}
use Rattle.xc_tokens.specs.declared.why.Why.{Why}
use Rattle.xc_tokens.specs.declared.why.Why.TheVariants as why
use Rattle.xc_tokens.specs.declared.why.Stop.{Stop}
use Rattle.xc_tokens.specs.declared.why.Stop.TheVariants as stop

-- what follows of an answer
abbrev pub and_then : {A B E : Type 0} → Result A E → (A → Result B E) → Result B E
and_then (Ok x) f = f x
and_then (Err e) f = Err e

-- the same answer, seen otherwise
abbrev pub seen : {A B E : Type 0} → (A → B) → Result A E → Result B E
seen f (Ok x) = Ok (f x)
seen f (Err e) = Err e

-- where a reason stands in the order of reasons
abbrev pub rank : Why → ℕ
rank why.TooLong = 0
rank why.BadByte = 1
rank why.BadLiteral = 2
rank why.UnknownLine = 3
rank why.BadForm = 4
rank why.BadNumber = 5
rank why.BadName = 6
rank why.Twice = 7
rank why.TooMany = 8
rank why.Unclosed = 9

-- the earlier of two reasons
abbrev pub earlier : Why → Why → Why
earlier a b = if nat_le (rank a) (rank b) then a else b

-- two parts of a line; where both are bad the earlier reason decides, wherever it stands
abbrev pub both : {A B : Type 0} → Result A Why → Result B Why → Result (A × B) Why
both (Ok a) (Ok b) = Ok (a, b)
both (Ok a) (Err e) = Err e
both (Err d) (Ok b) = Err d
both (Err d) (Err e) = Err (earlier d e)

-- what the grammar says where code stops with this
abbrev pub Stops : {B : Type 0} → Stop → Result B Why → Type 0
Stops (stop.Refused e) said = said ≡ Err e
Stops stop.NoMemory said = Unit {0}

-- code answers what the grammar says, but for lack of memory
abbrev pub Gives : {A B : Type 0} → (A → B) → Result A Stop → Result B Why → Type 0
Gives view (Ok x) said = said ≡ Ok (view x)
Gives view (Err e) said = Stops e said
