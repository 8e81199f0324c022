-- A journal that is true of a script: running its transactions one after another on the plain machine gives what it says, and
-- the script asked them.
use Rattle.std.specs.Prelude.{List}
use Rattle.xc_data.specs.declared.entry.Entry.{Entry}
use Rattle.xc_script.specs.declared.ask.Ask.{Ask}
use Rattle.xc_model.specs.Asked.{AreAskedBy, opening_jobs}
use Rattle.xc_model.specs.Live.{has_clients}
use Rattle.xc_model.specs.Machine.{IsTrueOfMachine, Terms}
use Rattle.xc_model.specs.Setting.{Setting}

-- what of a setting names no script, but whether clients ask
abbrev pub terms_of : Setting → Terms
terms_of s = record { rules = s.rules; tells = s.tells; clients = has_clients s.script }

-- it is true of the machine, and asked by the script; both agree on what was asked last of each entry
pub record IsTrueJournal (s : Setting) (journal : List Entry) : Type 0 where
  pub lasts : List Ask
  pub machine : IsTrueOfMachine (terms_of s) s.script.outline lasts journal
  pub asked : AreAskedBy s.script (opening_jobs s.script) lasts journal
