-- The data of a line that writes.
use Rattle.std.specs.Prelude.{ℕ, ◌==◌, ◌&&◌, Bool, List, [], ◌∷◌, length, nat_le, Result, Ok, Err, if◌then◌else◌}
use Rattle.std.specs.List.{repeat}
use Rattle.xc_text.specs.declared.script.Item.TheVariants as item
use Rattle.xc_tokens.specs.declared.why.Why.{Why}
use Rattle.xc_tokens.specs.declared.why.Why.TheVariants.{BadForm, TooMany}
use Rattle.xc_tokens.specs.Answers.{and_then, both, seen}
use Rattle.xc_tokens.specs.Literals.{is_within}
use Rattle.xc_text.specs.Named.{NamedItem}
use Rattle.xc_text.specs.Terms.{term_in}
use Rattle.xc_tokens.specs.Words.{ident_in}
use Rattle.xc_tokens.specs.Tokens.{Lexeme, Word, Literal}

-- `$V`, a variable's bytes, or `@T`, a term's digits
abbrev pub word_item : List ℕ → Result NamedItem Why
word_item [] = Err BadForm
word_item (b ∷ rest) =
    if b == 36 then seen item.Bytes (ident_in rest)
    else if b == 64 then seen item.Digits (term_in rest)
    else Err BadForm

-- what stands in the place of an item
abbrev pub item_of : Lexeme → Result NamedItem Why
item_of (Word word) = word_item word
item_of (Literal meant times) = Ok (item.Literal (repeat times meant))

-- all items, or the earliest reason against one of them
abbrev pub items_of : List Lexeme → Result (List NamedItem) Why
items_of [] = Ok []
items_of (t ∷ ts) = seen (λ (p : NamedItem × List NamedItem). p.0 ∷ p.1) (both (item_of t) (items_of ts))

-- 1 to 16 items
abbrev pub is_item_count : ℕ → Bool
is_item_count n = nat_le 1 n && nat_le n 16

-- the items, whose literals give at most 1,024 bytes
abbrev pub data_of : List Lexeme → Result (List NamedItem) Why
data_of tokens =
    if is_item_count (length tokens) then
    and_then (items_of tokens) (λ (items : List NamedItem). if is_within 1024 tokens then Ok items else Err TooMany)
    else Err BadForm
