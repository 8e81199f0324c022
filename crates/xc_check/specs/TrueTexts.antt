-- A text that is that of a true end.
use Rattle.std.specs.Prelude.{◌≡◌, ℕ, Bool, true, false, List, [], length, IsPermutation}
use Rattle.xc_data.specs.declared.entry.Entry.{Entry}
use Rattle.xc_data.specs.declared.entry.JobLine.{JobLine}
use Rattle.xc_data.specs.declared.entry.KeptItem.{KeptItem}
use Rattle.xc_data.specs.declared.script.Outline.{Outline}
use Rattle.xc_judge.specs.declared.basis.Basis.{Basis}
use Rattle.xc_model.specs.declared.rules.Rules.{Rules}
use Rattle.xc_model.specs.Asked.{AreAskedBy, opening_jobs}
use Rattle.xc_model.specs.Course.{opening_course}
use Rattle.xc_model.specs.Ending.{AreEnds}
use Rattle.xc_model.specs.Grounds.{AreGrounded, scene_of}
use Rattle.xc_model.specs.Live.{has_clients}
use Rattle.xc_model.specs.Machine.{AreMachineTrue, BeginInOrder, Terms, counting, machine_parts, numbers_of}
use Rattle.xc_model.specs.Progress.{progress_of}
use Rattle.xc_model.specs.Setting.{Setting, setting}
use Rattle.xc_model.specs.Truth.{IsTrueJournal, terms_of}
use Rattle.xc_print.specs.Text.{rendered}
use Rattle.xc_script.specs.declared.ask.Ask.{Ask}
use Rattle.xc_tail.specs.Tails.{IsKeptFront}
use Rattle.xc_text.specs.declared.script.Script.{Script}

-- of this script and these rules, over a host that tells its contents
abbrev pub telling : Script → Rules → Setting
telling script rules = setting script rules true

-- a script, or the prologue of clients: its blocks say nothing then
abbrev pub script_by : Bool → Script → Script
script_by true read = record read { clients = true }
script_by false read = read

-- the setting of what was read, over a host that tells
abbrev pub telling_by : Basis → Script → Setting
telling_by basis read = telling (script_by basis.clients read) basis.rules

-- it is true of the machine, over a host that tells, but it isn't known which call met a holder: each conflict names another
-- transaction that holds the object, and each revocation an older one. So a text of clients is, which doesn't show that call
pub record IsTrueButForMet (t : Terms) (outline : Outline) (lasts : List Ask) (journal : List Entry) : Type 0 where
  pub entries : AreMachineTrue t (opening_course outline) lasts journal
  pub numbers : IsPermutation (numbers_of journal) (counting 1 (length journal))
  pub begins : BeginInOrder journal
  pub grounded : AreGrounded (scene_of false (machine_parts (opening_course outline) lasts journal) [])

-- a journal of clients, who asked something last of each entry
pub record IsTrueOfClients (s : Setting) (journal : List Entry) : Type 0 where
  pub lasts : List Ask
  pub machine : IsTrueButForMet (terms_of s) s.script.outline lasts journal
  pub asked : AreAskedBy s.script (opening_jobs s.script) lasts journal

-- a journal as a text of it tells, of clients or of a script
abbrev pub IsTrueBy : Bool → Setting → List Entry → Type 0
IsTrueBy true s journal = IsTrueOfClients s journal
IsTrueBy false s journal = IsTrueJournal s journal

-- a journal is true; the words are those to which it leads, each started job ended so, and the kept data stands in front of what the
-- host holds
pub record IsTrueAsPrinted (s : Setting) (journal : List Entry) (jobs : List JobLine) (words : List ℕ) (kept : List KeptItem) : Type 0 where
  pub is_true : IsTrueBy (has_clients s.script) s journal
  pub words_are : words ≡ (progress_of s.script journal).state.world.words
  pub ends : AreEnds s (length journal) (progress_of s.script journal).jobs jobs
  pub front : IsKeptFront (progress_of s.script journal).state.world kept

-- the text is printed of such an end
pub record IsTrueText (s : Setting) (text : List ℕ) : Type 0 where
  pub journal : List Entry
  pub jobs : List JobLine
  pub words : List ℕ
  pub kept : List KeptItem
  pub is_true : IsTrueAsPrinted s journal jobs words kept
  pub printed : text ≡ rendered journal jobs words kept
