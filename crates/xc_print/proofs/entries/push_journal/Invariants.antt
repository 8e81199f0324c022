use Rattle.std.proofs.Common.{◌≡◌, ◌++◌, drop}
use Rattle.xc_print.specs.Entries.{journal_text}
use Rattle.xc_print.proofs.entries.push_journal.Given as goal

-- what is printed and what is left are all
abbrev pub invariant-loop-entry : goal.invariant-loop-entry
invariant-loop-entry g l = g.P.Paper.said l.out ++ journal_text (drop l.entry-index l.journal) ≡ g.P.Paper.said l.fn.out ++ journal_text l.journal
