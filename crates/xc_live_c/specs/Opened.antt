-- A desk that C opens, the text that it has so far, and its closing.
use Rattle.std.specs.Prelude.{◌≡◌, ◌⊎◌, ◌<◌, ℕ, zero, suc, ◌+◌, ℤ, pos, Bool, true, false, nat_le, List, [], ◌++◌, codes, length, take}
use Rattle.std.specs.Prelude.{replicate, Option, Err}
use Rattle.std.specs.declared.option.Option.TheVariants.{None, Some}
use Rattle.std.specs.Fmt.{decimal}
use Rattle.xc_data.specs.Step.{Step}
use Rattle.xc_tokens.specs.declared.why.Why.{Why}
use Rattle.xc_text.specs.Scripts.{parse_of}
use Rattle.xc_memhost.specs.State.{mem_host_model}
use Rattle.xc_model.specs.declared.rules.Rules.{Rules}
use Rattle.xc_print.specs.Entries.{journal_text}
use Rattle.xc_print.specs.Totals.{totals_of}
use Rattle.xc_station.specs.Stations.{entries_held}
use Rattle.xc_live.specs.Opening.{IsOpenedBy}
use Rattle.xc_live_c.specs.declared.clients.Clients.{Clients}

-- the lines of the client of this number
abbrev pub client_line : ℕ → List ℕ
client_line number = codes "job c" ++ decimal number ++ codes "\nend\n"

-- the lines of so many clients
abbrev pub client_lines : ℕ → List ℕ
client_lines zero = []
client_lines (suc clients) = client_lines clients ++ client_line (suc clients)

-- the text of a desk: the lines of its prologue, the number of its words, and its clients
abbrev pub desk_text : List ℕ → ℕ → ℕ → List ℕ
desk_text prologue words clients = prologue ++ codes "\nwords " ++ decimal words ++ codes "\n" ++ client_lines clients

-- what an opening asks for
pub record DeskAsked : Type 0 where
  pub prologue : List ℕ
  pub words : ℕ
  pub clients : ℕ
  -- at one transaction of a client
  pub attempts : ℕ

-- the text of that desk
abbrev pub asked_text : DeskAsked → List ℕ
asked_text asked = desk_text asked.prologue asked.words asked.clients

-- there are too many clients, or they may not try once
abbrev pub IsOutOfRange : DeskAsked → Type 0
IsOutOfRange asked = (1000 < asked.clients) ⊎ (asked.attempts ≡ 0)

-- it is no script, and this is its first bad line; or a number is out of range
abbrev pub IsBadDesk : DeskAsked → ℕ → Type 0
IsBadDesk asked line = ((why : Why) × (parse_of (asked_text asked) ≡ Err (line, why))) ⊎ (IsOutOfRange asked × (line ≡ 0))

-- why there is no desk: its text, or memory
abbrev pub IsNotOpened : DeskAsked → ℤ → ℕ → Type 0
IsNotOpened asked code line = ((code ≡ pos 15) × IsBadDesk asked line) ⊎ ((code ≡ pos 14) × (line ≡ 0))

-- the rules of a desk: so many attempts, as much patience as there may be, and so many tries of one compensation
abbrev pub desk_rules : ℕ → Rules
desk_rules attempts = record { attempts = attempts; patience = 1000000; undo_tries = 16 }

-- the desk of what was asked for; nobody has begun, and nothing was handed out
pub record IsDeskAsked (asked : DeskAsked) (c : Clients) : Type 0 where
  pub desk : IsOpenedBy mem_host_model (asked_text asked) c.desk
  pub rules : c.desk.rules ≡ desk_rules asked.attempts
  pub begun : c.begun.items ≡ replicate (asked.clients + 1) false
  pub gone : c.desk.gone ≡ 0
  pub counted : c.counted ≡ totals_of []

-- by what the handle held and holds
abbrev pub IsOpenedInC : DeskAsked → Option Clients → Option Clients → ℤ → ℕ → Type 0
IsOpenedInC asked (Some old) new code line = (code ≡ pos 9) × (new ≡ Some old) × (line ≡ 0)
IsOpenedInC asked None None code line = IsNotOpened asked code line
IsOpenedInC asked None (Some c) code line = (code ≡ pos 0) × IsDeskAsked asked c × (line ≡ 0)

-- whether a desk was there to be closed
abbrev pub closed_code : Option Clients → ℤ
closed_code None = pos 8
closed_code (Some c) = pos 0

-- ---- the journal that waits to be handed out
-- a text is handed over if there is room for it
abbrev pub is_handed : Bool → List ℕ → Step (List ℕ) → ℤ → Type 0
is_handed true text into code = (code ≡ pos 0) × (take (length text) into.new ≡ text)
is_handed false text into code = (code ≡ pos 13) × (into.new ≡ into.old)

-- its length is told, and it is handed over if there is room
abbrev pub IsHanded : List ℕ → Step (List ℕ) → Step ℕ → ℤ → Type 0
IsHanded text into size code = (size.new ≡ length text) × is_handed (nat_le (length text) (length into.old)) text into code

-- nothing is handed over
abbrev pub IsUnhanded : Step (List ℕ) → Step ℕ → Type 0
IsUnhanded into size = (into.new ≡ into.old) × (size.new ≡ size.old)

-- the entries of an open desk that weren't handed out, unless there is no memory for their text
abbrev pub IsJournalInC : Option Clients → Step (List ℕ) → Step ℕ → ℤ → Type 0
IsJournalInC None into size code = (code ≡ pos 8) × IsUnhanded into size
IsJournalInC (Some c) into size code =
    ((code ≡ pos 14) × IsUnhanded into size) ⊎ IsHanded (journal_text (entries_held c.desk)) into size code
