-- The line on the words of a command line.
use Rattle.std.specs.Prelude.{ℕ, List, codes}

-- with status 2
abbrev pub coop_usage_line : List ℕ
coop_usage_line = codes "usage: xcalls_coop [--share N] [--attempts N] [--patience N] [--undo-tries N]\n"
