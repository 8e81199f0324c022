-- How kept data is printed.
use Rattle.std.specs.Prelude.{ℕ, ◌==◌, ◌&&◌, Bool, false, List, [], ◌∷◌, ◌++◌, codes, Option, if◌then◌else◌}
use Rattle.std.specs.declared.option.Option.TheVariants.{None, Some}
use Rattle.std.specs.Fmt.{decimal}
use Rattle.std.specs.List.{flat_map}
use Rattle.xc_data.specs.declared.entry.KeptItem.{KeptItem}
use Rattle.xc_data.specs.declared.entry.KeptItem.TheVariants.{Bytes, Message}
use Rattle.xc_data.specs.declared.object.Num.{Num}
use Rattle.xc_print.specs.Bytes.{escaped, bytes_text}
use Rattle.xc_print.specs.Objects.{num_text}

-- whether two numbers are one
abbrev pub is_same : Num → Num → Bool
is_same a b = a.tx == b.tx && a.k == b.k

-- an item before others: bytes of one pipe are one piece
abbrev pub join : KeptItem → List KeptItem → List KeptItem
join (Bytes pipe bytes) (Bytes next more ∷ items) =
    if is_same pipe next then Bytes pipe (bytes ++ more) ∷ items else Bytes pipe bytes ∷ Bytes next more ∷ items
join item items = item ∷ items

-- the items, with bytes of one pipe in one piece
abbrev pub joined : List KeptItem → List KeptItem
joined [] = []
joined (item ∷ items) = join item (joined items)

-- the line of a kept item
abbrev pub kept_line : KeptItem → List ℕ
kept_line (Bytes pipe bytes) = codes "kept pipe " ++ num_text pipe ++ codes " " ++ bytes_text bytes ++ codes "\n"
kept_line (Message pair side bytes) = codes "kept pair " ++ num_text pair ++ codes " side " ++ decimal side
    ++ codes " " ++ bytes_text bytes ++ codes "\n"

-- the lines of kept items, one for each pipe and one for each message
abbrev pub kept_lines : List KeptItem → List ℕ
kept_lines items = flat_map kept_line (joined items)

-- ---- printed item by item, where the line of a pipe may be open
-- a pipe's line, up to its bytes
abbrev pub opening_text : Num → List ℕ
opening_text pipe = codes "kept pipe " ++ num_text pipe ++ codes " \""

-- what ends the line that is open
abbrev pub closing_text : Option Num → List ℕ
closing_text None = []
closing_text (Some pipe) = codes "\"\n"

-- whether the line of this pipe is open
abbrev pub is_line_open : Option Num → Num → Bool
is_line_open None pipe = false
is_line_open (Some before) pipe = is_same before pipe

-- what stands before bytes of a pipe: nothing where its line is open
abbrev pub turned_to : Option Num → Num → List ℕ
turned_to opened pipe = if is_line_open opened pipe then [] else closing_text opened ++ opening_text pipe

-- what is printed for an item after the line that is open
abbrev pub item_text : Option Num → KeptItem → List ℕ
item_text opened (Bytes pipe bytes) = turned_to opened pipe ++ escaped bytes
item_text opened (Message pair side bytes) = closing_text opened ++ kept_line (Message pair side bytes)

-- the pipe whose line is open after an item
abbrev pub opened_by : KeptItem → Option Num
opened_by (Bytes pipe bytes) = Some pipe
opened_by (Message pair side bytes) = None
