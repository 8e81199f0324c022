-- What a text of clients doesn't tell: which call was asked last of a transaction, and cut short for want of memory.
use Rattle.std.specs.Prelude.{◌&&◌, Bool, true, false}
use Rattle.xc_data.specs.declared.entry.Entry.{Entry}
use Rattle.xc_data.specs.declared.entry.Outcome.{Outcome}
use Rattle.xc_data.specs.declared.entry.Outcome.TheVariants.{Committed, Aborted}
use Rattle.xc_judge.specs.Ran.{is_memory_cause}
use Rattle.xc_judge.specs.declared.basis.Basis.{Basis}
use Rattle.xc_judge.specs.declared.reason.Reason.{Reason}
use Rattle.xc_judge.specs.declared.reason.Reason.TheVariants as reason
use Rattle.xc_model.specs.Live.{has_clients}
use Rattle.xc_model.specs.Setting.{Setting}

-- what entries are judged by
abbrev pub basis_of : Setting → Basis
basis_of s = record { rules = s.rules; clients = has_clients s.script }

-- whether a transaction was aborted for want of memory
abbrev pub lacked_memory : Outcome → Bool
lacked_memory (Committed late) = false
lacked_memory (Aborted report) = is_memory_cause report.cause

-- whether what was asked last of such a one matters to a reason: it may have left a record, and claimed objects
abbrev pub looks_at_last : Reason → Bool
looks_at_last reason.Records = true
looks_at_last reason.Held = true
looks_at_last reason.Numbers = false
looks_at_last reason.Reply = false
looks_at_last reason.Late = false
looks_at_last reason.Story = false

-- whether a text leaves open that an entry is false for this reason
abbrev pub is_untold : Setting → Entry → Reason → Bool
is_untold s e r = has_clients s.script && (lacked_memory e.outcome && looks_at_last r)
