-- What the variables of a job hold, and what terms, expressions and data come to.
use Rattle.std.specs.Prelude.{ℕ, ◌+◌, ◌-◌, ◌%◌, ◌^◌}
use Rattle.std.specs.Prelude.{List, [], Option, slice_get}
use Rattle.std.specs.List.{flat_map}
use Rattle.std.specs.Fmt.{decimal}
use Rattle.std.specs.declared.option.Option.TheVariants.{None, Some}
use Rattle.xc_script.specs.JobSlots.{Slots, slot_number}
use Rattle.xc_text.specs.declared.script.Item.TheVariants as item
use Rattle.xc_text.specs.declared.script.Term.TheVariants as term
use Rattle.xc_text.specs.declared.script.Expression.TheVariants as expression
use Rattle.xc_text.specs.Stated.{Term, Expression, Item}
use Rattle.xc_script.specs.declared.value.Value.{Value}
use Rattle.xc_script.specs.declared.value.Value.TheVariants as value

-- what the variables hold, by their places: a number, bytes, a handle, or nothing
abbrev pub Values : Type 0
Values = List (Option Value)

-- what stands at a place, where it is one
abbrev pub value_there : Option (Option Value) → Option Value
value_there None = None
value_there (Some held) = held

-- what the variable at a place holds
abbrev pub value_at : Values → ℕ → Option Value
value_at values v = value_there (slice_get values v)

-- what a job knows: the values of its variables, and its slots
pub record Variables : Type 0 where
  pub values : Values
  pub slots : Slots

-- ---- values: what a variable counts as where it holds nothing, or something else
-- as a number: 0
abbrev pub held_number : Option Value → ℕ
held_number (Some (value.Number n)) = n
held_number _ = 0

-- as bytes: none
abbrev pub held_bytes : Option Value → List ℕ
held_bytes (Some (value.Bytes bytes)) = bytes
held_bytes _ = []

-- as a handle: 65,535, at which nothing is ever open
abbrev pub held_handle : Option Value → ℕ
held_handle (Some (value.Handle h)) = h
held_handle _ = 65535

-- what a variable counts as where bytes are wanted
abbrev pub bytes_value : Variables → ℕ → List ℕ
bytes_value variables v = held_bytes (value_at variables.values v)

-- what a variable counts as where a handle is wanted
abbrev pub handle_value : Variables → ℕ → ℕ
handle_value variables v = held_handle (value_at variables.values v)

-- a number is itself, and a variable and a slot what they count as
abbrev pub term_value : Variables → Term → ℕ
term_value variables (term.Number n) = n
term_value variables (term.Variable v) = held_number (value_at variables.values v)
term_value variables (term.Slot s) = slot_number variables.slots s

-- sums and differences are taken modulo 2^64
abbrev pub expression_value : Variables → Expression → ℕ
expression_value variables (expression.Term t) = term_value variables t
expression_value variables (expression.Sum a b) = (term_value variables a + term_value variables b) % 2 ^ 64
expression_value variables (expression.Difference a b) = (term_value variables a + (2 ^ 64 - term_value variables b)) % 2 ^ 64

-- an item's bytes: a literal's, a variable's, or a term's value in decimal digits
abbrev pub item_value : Variables → Item → List ℕ
item_value variables (item.Literal bytes) = bytes
item_value variables (item.Bytes v) = bytes_value variables v
item_value variables (item.Digits t) = decimal (term_value variables t)

-- the items joined
abbrev pub joined_data : Variables → List Item → List ℕ
joined_data variables items = flat_map (item_value variables) items
