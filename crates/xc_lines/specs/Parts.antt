-- Reading a printed text from left to right: a value, and the bytes behind it.
use Rattle.std.specs.Prelude.{◌≡◌, ℕ, ◌^◌, Result, Ok, Err, Bool, true, false, List, length, take, drop, nat_eq, nat_lt, codes}
use Rattle.std.specs.Prelude.{Option, Some, None, if◌then◌else◌}
use Rattle.std.specs.List.{prefix_len}
use Rattle.std.specs.Cmp.Lexicographic.{pointwise}
use Rattle.xc_data.specs.declared.object.Num.{Num}
use Rattle.xc_data.specs.declared.object.Object.{Object}
use Rattle.xc_data.specs.declared.object.Object.TheVariants as object
use Rattle.xc_data.specs.Spelling.{is_name, is_name_byte, is_ident}
use Rattle.xc_tokens.specs.Numbers.{is_digit, number_of}
use Rattle.xc_tokens.specs.Quoted.{literal_of}
use Rattle.xc_lines.specs.declared.stop.ReadStop.{ReadStop}
use Rattle.xc_lines.specs.declared.stop.ReadStop.TheVariants as stop

infixl 10 ◌>>=◌
-- what follows of what was read
abbrev pub ◌>>=◌ : {A B : Type 0} → Option A → (A → Option B) → Option B
None >>= f = None
(Some x) >>= f = f x

-- a value, and the bytes behind it
abbrev pub Read : Type 0 → Type 0
Read A = Option (A × List ℕ)

-- what code that stops with this says of what is read
abbrev pub FailsToRead : {Y : Type 0} → ReadStop → Option Y → Type 0
FailsToRead stop.Unread read = read ≡ None
FailsToRead stop.NoMemory read = Unit {0}

-- code gives what is read, and stands behind it, but for want of memory
abbrev pub GivesRead : {X : Type 0} → Result X ReadStop → List ℕ → Read X → Type 0
GivesRead (Ok x) rest read = read ≡ Some (x, rest)
GivesRead (Err e) rest read = FailsToRead e read

-- the same, where the code gives what stands behind beside the value
abbrev pub GivesMeant : {X Y : Type 0} → (X → Y) → Result X ReadStop → Option Y → Type 0
GivesMeant view (Ok x) read = read ≡ Some (view x)
GivesMeant view (Err e) read = FailsToRead e read

-- code has passed what stands in front
abbrev pub PassesFront : {X : Type 0} → Result X ReadStop → List ℕ → Option (List ℕ) → Type 0
PassesFront (Ok x) rest read = read ≡ Some rest
PassesFront (Err e) rest read = FailsToRead e read

-- the same as a test, which stays where nothing was passed
abbrev pub PassesFrontIf : Bool → List ℕ → List ℕ → Option (List ℕ) → Type 0
PassesFrontIf true old new read = read ≡ Some new
PassesFrontIf false old new read = (read ≡ None) × (new ≡ old)

-- what stands behind these bytes
abbrev pub past : List ℕ → List ℕ → Option (List ℕ)
past front bytes = if pointwise nat_eq (take (length front) bytes) front then Some (drop (length front) bytes) else None

-- what one reader makes of what stands read_behind, else what another one does
abbrev pub read_behind : {A : Type 0} → Option (List ℕ) → (List ℕ → Option A) → Option A → Option A
read_behind None read other = other
read_behind (Some rest) read other = read rest

-- what was read, as another value
abbrev pub mapped : {A B : Type 0} → (A → B) → Read A → Read B
mapped f None = None
mapped f (Some x) = Some (f x.0, x.1)

-- this value, with nothing more to read
abbrev pub says : {A : Type 0} → A → List ℕ → Read A
says it rest = Some (it, rest)

-- a number in decimal digits
unfoldable pub number_at : List ℕ → Read ℕ
number_at bytes = do
  n ← number_of (take (prefix_len is_digit bytes) bytes)
  Some (n, drop (prefix_len is_digit bytes) bytes)

-- a number below a bound
unfoldable pub below_at : ℕ → List ℕ → Read ℕ
below_at bound bytes = do
  n ← number_at bytes
  if nat_lt n.0 bound then Some n else None

-- a name
unfoldable pub name_at : List ℕ → Read (List ℕ)
name_at bytes =
    let name = take (prefix_len is_name_byte bytes) bytes in
    if is_name name then Some (name, drop (prefix_len is_name_byte bytes) bytes) else None

-- the name of a slot or a block
unfoldable pub ident_at : List ℕ → Read (List ℕ)
ident_at bytes =
    let ident = take (prefix_len is_name_byte bytes) bytes in
    if is_ident ident then Some (ident, drop (prefix_len is_name_byte bytes) bytes) else None

-- bytes in quotes
unfoldable pub bytes_at : List ℕ → Read (List ℕ)
bytes_at bytes = do
  rest ← past (codes "\"") bytes
  literal_of rest

-- a handle behind its `h`, or that there is none
unfoldable pub handle_from : List ℕ → Read ℕ
handle_from bytes = read_behind (past (codes "-") bytes) (λ rest. Some (65535, rest)) (below_at (2 ^ 16) bytes)

-- a handle
unfoldable pub handle_at : List ℕ → Read ℕ
handle_at bytes = do
  rest ← past (codes "h") bytes
  handle_from rest

-- the number of a file, pipe or pair
unfoldable pub num_at : List ℕ → Read Num
num_at bytes = do
  tx ← below_at (2 ^ 32) bytes
  rest ← past (codes ".") tx.1
  k ← below_at (2 ^ 16) rest
  Some (record { tx = tx.0; k = k.0 }, k.1)

-- an object of each kind
unfoldable pub word_object_at : List ℕ → Read Object
word_object_at bytes = do
  at ← below_at (2 ^ 32) bytes
  Some (object.Word at.0, at.1)

-- a name that is an object
unfoldable pub name_object_at : List ℕ → Read Object
name_object_at bytes = do
  name ← name_at bytes
  Some (object.Name name.0, name.1)

-- a file
unfoldable pub file_object_at : List ℕ → Read Object
file_object_at bytes = do
  num ← num_at bytes
  Some (object.File num.0, num.1)

-- a pipe
unfoldable pub pipe_object_at : List ℕ → Read Object
pipe_object_at bytes = do
  num ← num_at bytes
  Some (object.Pipe num.0, num.1)

-- a pair
unfoldable pub pair_object_at : List ℕ → Read Object
pair_object_at bytes = do
  num ← num_at bytes
  Some (object.Pair num.0, num.1)

-- the list of started jobs
unfoldable pub jobs_object_at : List ℕ → Read Object
jobs_object_at bytes = do
  rest ← past (codes "jobs") bytes
  Some (object.Jobs, rest)

-- an object
unfoldable pub any_object_at : List ℕ → Read Object
any_object_at bytes =
    read_behind (past (codes "word ") bytes) word_object_at
    (read_behind (past (codes "name ") bytes) name_object_at
    (read_behind (past (codes "file ") bytes) file_object_at
    (read_behind (past (codes "pipe ") bytes) pipe_object_at
    (read_behind (past (codes "pair ") bytes) pair_object_at
    (jobs_object_at bytes)))))
