-- What C is handed out of the journal of a desk that goes on: a text of its entries, each once.
use Rattle.std.specs.Prelude.{◌≡◌, ◌⊎◌, ℤ, pos, length, Option}
use Rattle.std.specs.declared.option.Option.TheVariants.{None, Some}
use Rattle.xc_data.specs.Step.{Step}
use Rattle.xc_print.specs.Entries.{journal_text}
use Rattle.xc_print.specs.Totals.{totals_of}
use Rattle.xc_station.specs.Stations.{entries_held}
use Rattle.xc_live_c.specs.declared.clients.Clients.{Clients}
use Rattle.xc_live_c.specs.declared.run_text.RunText.{RunText}
use Rattle.xc_live_c.specs.Finished.{EndsInC, StaysSo, both_totals}

-- the text is of all entries that waited; they wait no more, and are counted; nothing else of the desk changes
pub record HasHandedOut (old new : Clients) (text : RunText) : Type 0 where
  pub bytes : text.bytes ≡ journal_text (entries_held old.desk)
  pub desk : new.desk ≡ record old.desk { gone = length old.desk.journal }
  pub begun : new.begun.items ≡ old.begun.items
  pub counted : new.counted ≡ both_totals old.counted (totals_of (entries_held old.desk))

-- the desk is open as before, and the text is there with its length
pub record IsHandedOver (c : Clients) (at : Step EndsInC) : Type 0 where
  pub after : Clients
  pub there : at.new.desk ≡ Some after
  pub text : RunText
  pub kept : at.new.text ≡ Some text
  pub size : at.new.size ≡ length text.bytes
  pub handed : HasHandedOut c after text

-- by what the handles held
abbrev pub handed_by : Option Clients → Option RunText → Step EndsInC → ℤ → Type 0
handed_by None text at code = (code ≡ pos 8) × StaysSo at
handed_by (Some c) (Some text) at code = (code ≡ pos 9) × StaysSo at
handed_by (Some c) None at code = ((code ≡ pos 14) × StaysSo at) ⊎ ((code ≡ pos 0) × IsHandedOver c at)

-- the entries that wait are handed out, unless there is no memory
abbrev pub IsHandedOutInC : Step EndsInC → ℤ → Type 0
IsHandedOutInC at code = handed_by at.old.desk at.old.text at code
