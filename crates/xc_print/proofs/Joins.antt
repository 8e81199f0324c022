-- The lines of kept data, printed item by item.
use Rattle.std.proofs.Common.{◌≡◌, ◌++◌, ℕ, Bool, true, false, List, [], ◌∷◌, refl, ap, ap₂, sym, ◌∙◌, append_assoc}
use Rattle.std.specs.Prelude.{codes, Option, if◌then◌else◌}
use Rattle.std.specs.declared.option.Option.TheVariants.{None, Some}
use Rattle.std.specs.List.{flat_map}
use Rattle.xc_data.specs.declared.entry.KeptItem.{KeptItem}
use Rattle.xc_data.specs.declared.entry.KeptItem.TheVariants.{Bytes, Message}
use Rattle.xc_data.specs.declared.object.Num.{Num}
use Rattle.xc_print.specs.Bytes.{escaped, escaped_byte}
use Rattle.xc_print.specs.Kept.{is_same, join, joined, kept_line, kept_lines, opening_text, closing_text, turned_to, item_text, opened_by}

-- the lines of items that are joined
abbrev joined_lines : List KeptItem → List ℕ
joined_lines items = flat_map kept_line items

-- these bytes end the open line, and these lines come after it
abbrev ended : List ℕ → List ℕ → List ℕ
ended bytes lines = escaped bytes ++ (codes "\"\n" ++ lines)

-- what joined items print after the open line of a pipe
abbrev behind_open : Num → List KeptItem → List ℕ
behind_open pipe [] = ended [] []
behind_open pipe (Bytes next more ∷ items) =
    if is_same pipe next then ended more (joined_lines items) else ended [] (joined_lines (Bytes next more ∷ items))
behind_open pipe (Message pair side bytes ∷ items) = ended [] (joined_lines (Message pair side bytes ∷ items))

-- what items print after what is open
abbrev pub left_lines : Option Num → List KeptItem → List ℕ
left_lines None items = kept_lines items
left_lines (Some pipe) items = behind_open pipe (joined items)

-- bytes after bytes are printed after them
escaped_append : (a b : List ℕ) → escaped (a ++ b) ≡ escaped a ++ escaped b
escaped_append [] b = refl
escaped_append (x ∷ a) b = ap (λ bs. escaped_byte x ++ bs) (escaped_append a b) ∙ sym (append_assoc (escaped_byte x) (escaped a) (escaped b))

-- the same, with what comes after
ended_append : (a b lines : List ℕ) → ended (a ++ b) lines ≡ escaped a ++ ended b lines
ended_append a b lines =
    ap (λ bs. bs ++ (codes "\"\n" ++ lines)) (escaped_append a b) ∙ append_assoc (escaped a) (escaped b) (codes "\"\n" ++ lines)

-- the line of a pipe is opened, has its bytes, and ends
line_opens : (pipe : Num) (bytes lines : List ℕ) → kept_line (Bytes pipe bytes) ++ lines ≡ opening_text pipe ++ ended bytes lines
line_opens pipe bytes lines = simp append_assoc

-- bytes of a pipe open its line
opens : (pipe : Num) (bytes : List ℕ) (items : List KeptItem)
    → joined_lines (join (Bytes pipe bytes) items) ≡ opening_text pipe ++ (escaped bytes ++ behind_open pipe items)
opens pipe bytes [] = line_opens pipe bytes []
opens pipe bytes (Message pair side message ∷ items) = line_opens pipe bytes (joined_lines (Message pair side message ∷ items))
opens pipe bytes (Bytes next more ∷ items) = by_same (is_same pipe next)
  where
    by_same : (same : Bool) → joined_lines (if same then Bytes pipe (bytes ++ more) ∷ items else Bytes pipe bytes ∷ Bytes next more ∷ items)
        ≡ opening_text pipe ++ (escaped bytes ++ (if same then ended more (joined_lines items) else ended [] (joined_lines (Bytes next more ∷ items))))
    by_same true = line_opens pipe (bytes ++ more) (joined_lines items) ∙ ap (λ bs. opening_text pipe ++ bs) (ended_append bytes more (joined_lines items))
    by_same false = line_opens pipe bytes (joined_lines (Bytes next more ∷ items))

-- where the line of their pipe is open they go on with it
goes_on : (before pipe : Num) (bytes : List ℕ) (items : List KeptItem) → is_same before pipe ≡ true
    → behind_open before (join (Bytes pipe bytes) items) ≡ escaped bytes ++ behind_open pipe items
goes_on before pipe bytes [] same = ap (λ b. if b then ended bytes [] else ended [] (joined_lines (Bytes pipe bytes ∷ []))) same
goes_on before pipe bytes (Message pair side message ∷ items) same =
    let rest = Message pair side message ∷ items in
    ap (λ b. if b then ended bytes (joined_lines rest) else ended [] (joined_lines (Bytes pipe bytes ∷ rest))) same
goes_on before pipe bytes (Bytes next more ∷ items) same = by_same (is_same pipe next)
  where
    by_same : (one : Bool)
        → behind_open before (if one then Bytes pipe (bytes ++ more) ∷ items else Bytes pipe bytes ∷ Bytes next more ∷ items)
        ≡ escaped bytes ++ (if one then ended more (joined_lines items) else ended [] (joined_lines (Bytes next more ∷ items)))
    by_same true =
        ap (λ b. if b then ended (bytes ++ more) (joined_lines items) else ended [] (joined_lines (Bytes pipe (bytes ++ more) ∷ items))) same
        ∙ ended_append bytes more (joined_lines items)
    by_same false =
        let rest = Bytes next more ∷ items in
        ap (λ b. if b then ended bytes (joined_lines rest) else ended [] (joined_lines (Bytes pipe bytes ∷ rest))) same

-- where another line is open it ends
closes : (before pipe : Num) (bytes : List ℕ) (items : List KeptItem) → is_same before pipe ≡ false
    → behind_open before (join (Bytes pipe bytes) items) ≡ codes "\"\n" ++ joined_lines (join (Bytes pipe bytes) items)
closes before pipe bytes [] other = ap (λ b. if b then ended bytes [] else ended [] (joined_lines (Bytes pipe bytes ∷ []))) other
closes before pipe bytes (Message pair side message ∷ items) other =
    let rest = Message pair side message ∷ items in
    ap (λ b. if b then ended bytes (joined_lines rest) else ended [] (joined_lines (Bytes pipe bytes ∷ rest))) other
closes before pipe bytes (Bytes next more ∷ items) other = by_same (is_same pipe next)
  where
    by_same : (one : Bool)
        → behind_open before (if one then Bytes pipe (bytes ++ more) ∷ items else Bytes pipe bytes ∷ Bytes next more ∷ items)
        ≡ codes "\"\n" ++ joined_lines (if one then Bytes pipe (bytes ++ more) ∷ items else Bytes pipe bytes ∷ Bytes next more ∷ items)
    by_same true =
        ap (λ b. if b then ended (bytes ++ more) (joined_lines items) else ended [] (joined_lines (Bytes pipe (bytes ++ more) ∷ items))) other
    by_same false =
        let rest = Bytes next more ∷ items in
        ap (λ b. if b then ended bytes (joined_lines rest) else ended [] (joined_lines (Bytes pipe bytes ∷ rest))) other

-- bytes of a pipe, after what is open
piece_begins : (opened : Option Num) (pipe : Num) (bytes : List ℕ) (items : List KeptItem)
    → left_lines opened (Bytes pipe bytes ∷ items) ≡ turned_to opened pipe ++ escaped bytes ++ left_lines (Some pipe) items
piece_begins None pipe bytes items =
    opens pipe bytes (joined items) ∙ sym (append_assoc (opening_text pipe) (escaped bytes) (behind_open pipe (joined items)))
piece_begins (Some before) pipe bytes items = by_same (is_same before pipe) refl
  where
    by_same : (same : Bool) → is_same before pipe ≡ same
        → behind_open before (joined (Bytes pipe bytes ∷ items))
        ≡ (if same then [] else codes "\"\n" ++ opening_text pipe) ++ escaped bytes ++ behind_open pipe (joined items)
    by_same true e = goes_on before pipe bytes (joined items) e
    by_same false e =
        closes before pipe bytes (joined items) e
        ∙ ap (λ bs. codes "\"\n" ++ bs)
        (opens pipe bytes (joined items) ∙ sym (append_assoc (opening_text pipe) (escaped bytes) (behind_open pipe (joined items))))

-- a message, after what is open
message_begins : (opened : Option Num) (pair : Num) (side : ℕ) (bytes : List ℕ) (items : List KeptItem)
    → left_lines opened (Message pair side bytes ∷ items)
    ≡ closing_text opened ++ kept_line (Message pair side bytes) ++ left_lines None items
message_begins None pair side bytes items = refl
message_begins (Some before) pair side bytes items = refl

-- what is left begins with its first item
items_begin : (opened : Option Num) (item : KeptItem) (items : List KeptItem)
    → left_lines opened (item ∷ items) ≡ item_text opened item ++ left_lines (opened_by item) items
items_begin opened (Bytes pipe bytes) items = piece_begins opened pipe bytes items
items_begin opened (Message pair side bytes) items = message_begins opened pair side bytes items

-- after the last one the open line ends
pub none_left : (opened : Option Num) → left_lines opened [] ≡ closing_text opened
none_left None = refl
none_left (Some before) = refl

-- after an item what is printed and what is left are as before it
pub goes_by : (out new : List ℕ) (opened behind : Option Num) (item : KeptItem) (items rest : List KeptItem) → new ≡ out ++ item_text opened item
    → behind ≡ opened_by item → items ≡ item ∷ rest → new ++ left_lines behind rest ≡ out ++ left_lines opened items
goes_by out new opened behind item items rest printed by split =
    ap₂ (λ n b. n ++ left_lines b rest) printed by ∙ append_assoc out (item_text opened item) (left_lines (opened_by item) rest)
    ∙ ap (λ bs. out ++ bs) (sym (ap (left_lines opened) split ∙ items_begin opened item rest))
