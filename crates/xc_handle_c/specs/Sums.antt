-- What a handle's sum is.
use Rattle.std.specs.Prelude.{ℕ, ◌+◌, Option, Some, None}
use Rattle.xc_handle_c.specs.declared.counter.Counter.{Counter}

-- the sum that a handle holds, if it is open
abbrev pub sum_of : Option Counter → Option ℕ
sum_of None = None
sum_of (Some c) = Some c.sum

-- a sum with n more, where there is one
abbrev pub plus : ℕ → Option ℕ → Option ℕ
plus n None = None
plus n (Some s) = Some (s + n)
