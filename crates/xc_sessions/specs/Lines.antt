-- The line on the words of a command line.
use Rattle.std.specs.Prelude.{ℕ, List, codes}

-- with status 2
abbrev pub serve_usage_line : List ℕ
serve_usage_line = codes "usage: xcalls_serve [--sessions N] [--port P] [--attempts N] [--patience N] [--undo-tries N]\n"
