-- What the end of a desk for C comes to: the text of the run.
use Rattle.std.specs.Prelude.{◌≡◌, ◌⊎◌, ◌+◌, ◌++◌, ℕ, ℤ, pos, List, length, min, take, drop, sum_by, Option}
use Rattle.std.specs.declared.option.Option.TheVariants.{None, Some}
use Rattle.xc_buffers.specs.Items.{AreKept}
use Rattle.xc_data.specs.Counts.{RisesBy}
use Rattle.xc_data.specs.Faults.{entry_faults}
use Rattle.xc_data.specs.Step.{Step}
use Rattle.xc_host.specs.Kept.{with_kept}
use Rattle.xc_host.specs.Model.{plan_of}
use Rattle.xc_journal.specs.Told.{waiting_of}
use Rattle.xc_memhost.specs.State.{MemState, mem_host_model}
use Rattle.xc_model.specs.Ending.{IsTrueEnd}
use Rattle.xc_model.specs.Setting.{setting}
use Rattle.xc_print.specs.Entries.{journal_text}
use Rattle.xc_print.specs.Kept.{kept_lines}
use Rattle.xc_print.specs.Text.{job_lines, word_lines}
use Rattle.xc_print.specs.Totals.{totals_line, totals_of}
use Rattle.xc_print.specs.declared.totals.Totals.{Totals}
use Rattle.xc_station.specs.Stations.{StationView, entries_held}
use Rattle.xc_station.specs.declared.run_result.End.{End}
use Rattle.xc_live.specs.Closing.{NobodyIsActive, SomebodyIsActive}
use Rattle.xc_live_c.specs.declared.clients.Clients.{Clients}
use Rattle.xc_live_c.specs.declared.run_text.RunText.{RunText}

-- what the last line counts of some entries and of others
abbrev pub both_totals : Totals → Totals → Totals
both_totals one other = record {
  committed = one.committed + other.committed;
  aborted = one.aborted + other.aborted;
  faults = one.faults + other.faults;
  remains = one.remains + other.remains;
}

-- the text of an end: of the entries those that weren't handed out, and the totals of all, where so much was counted of the others
abbrev pub last_text : Totals → End MemState → List ℕ
last_text counted end = journal_text (waiting_of end.journal) ++ job_lines 1 end.jobs ++ word_lines 0 end.words ++ kept_lines end.kept
    ++ totals_line (both_totals counted (totals_of (waiting_of end.journal)))

-- the end of a desk: its journal is true of the plain machine, and leads to the words, to the host and to the clients' ends
pub record IsEndOfDesk (desk : StationView MemState) (end : End MemState) : Type 0 where
  pub opening : end.opening ≡ desk.opening
  pub journal : end.journal.items ≡ desk.journal
  pub held : waiting_of end.journal ≡ entries_held desk
  pub words : end.words ≡ desk.words
  pub whole : IsTrueEnd (setting desk.opening.script desk.rules mem_host_model.tells) end.journal.items
      (record { words = end.words; contents = with_kept (mem_host_model.contents end.host) end.kept; lines = end.jobs })
  pub kept : AreKept end.kept
  pub faults : RisesBy (sum_by entry_faults end.journal.items) desk.opening.faults (mem_host_model.fault_count end.host)
  pub plan : mem_host_model.plan end.host ≡ plan_of end.opening.script.outline.prologue

-- the desk ended so, and this is the text
abbrev pub IsTextOfRun : Clients → RunText → Type 0
IsTextOfRun c text = (end : End MemState) × IsEndOfDesk c.desk end × (text.bytes ≡ last_text c.counted end)

-- ---- of the two handles, and of the length that is told
pub record EndsInC : Type 0 where
  pub desk : Option Clients
  pub text : Option RunText
  pub size : ℕ

-- nothing changes
pub record StaysSo (at : Step EndsInC) : Type 0 where
  pub desk : at.new.desk ≡ at.old.desk
  pub text : at.new.text ≡ at.old.text
  pub size : at.new.size ≡ at.old.size

-- the text is there, and its length is told; or there was no memory for it
abbrev pub IsTextTold : Clients → Option RunText → Step ℕ → ℤ → Type 0
IsTextTold c None size code = (code ≡ pos 14) × (size.new ≡ size.old)
IsTextTold c (Some text) size code = (code ≡ pos 0) × IsTextOfRun c text × (size.new ≡ length text.bytes)

-- nobody has a transaction: the desk is closed
pub record HasFinished (c : Clients) (at : Step EndsInC) (code : ℤ) : Type 0 where
  pub nobody : NobodyIsActive c.desk
  pub closed : at.new.desk ≡ None
  pub told : IsTextTold c at.new.text (record { old = at.old.size; new = at.new.size }) code

-- somebody has one: nothing changes
pub record IsHeldUp (c : Clients) (at : Step EndsInC) (code : ℤ) : Type 0 where
  pub somebody : SomebodyIsActive c.desk
  pub same : StaysSo at
  pub told : code ≡ pos 6

-- by what the handles held
abbrev pub finished_by : Option Clients → Option RunText → Step EndsInC → ℤ → Type 0
finished_by None text at code = (code ≡ pos 8) × StaysSo at
finished_by (Some c) (Some text) at code = (code ≡ pos 9) × StaysSo at
finished_by (Some c) None at code = IsHeldUp c at code ⊎ HasFinished c at code

-- the end of a desk
abbrev pub IsFinishedInC : Step EndsInC → ℤ → Type 0
IsFinishedInC at code = finished_by at.old.desk at.old.text at code

-- ---- bytes of a text
-- as many as there is room for stand in front, and those behind are as before
pub record IsCopied (bytes : List ℕ) (into : Step (List ℕ)) (count : ℕ) : Type 0 where
  pub most : count ≡ min (length bytes) (length into.old)
  pub size : length into.new ≡ length into.old
  pub front : take count into.new ≡ take count bytes
  pub behind : drop count into.new ≡ drop count into.old

-- of a text that is there they are copied
abbrev pub IsCopiedInC : Option RunText → ℕ → Step (List ℕ) → Step ℕ → ℤ → Type 0
IsCopiedInC None from into copied code = (code ≡ pos 8) × (into.new ≡ into.old) × (copied.new ≡ copied.old)
IsCopiedInC (Some text) from into copied code = (code ≡ pos 0) × IsCopied (drop from text.bytes) into copied.new

-- whether a text was there to be freed
abbrev pub freed_code : Option RunText → ℤ
freed_code None = pos 8
freed_code (Some text) = pos 0
