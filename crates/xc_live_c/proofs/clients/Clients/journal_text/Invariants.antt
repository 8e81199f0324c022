use Rattle.std.proofs.Common.{◌≡◌, ◌++◌, drop}
use Rattle.xc_print.specs.Entries.{journal_text}
use Rattle.xc_live_c.proofs.clients.Clients.journal_text.Given as goal

-- what is printed and what is left are all
abbrev pub invariant-loop-entry : goal.invariant-loop-entry
invariant-loop-entry l = l.out ++ journal_text (drop l.entry-index l.journal) ≡ journal_text l.journal
