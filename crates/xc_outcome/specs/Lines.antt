-- The lines that a run writes in the place of its text. That of status 2, on usage, is the program's.
use Rattle.std.specs.Prelude.{ℕ, List, ◌++◌, codes}
use Rattle.std.specs.Fmt.{decimal}
use Rattle.xc_tokens.specs.declared.why.Why.{Why}
use Rattle.xc_tokens.specs.declared.why.Why.TheVariants.{TooLong, BadByte, BadLiteral, UnknownLine, BadForm, BadNumber, BadName}
use Rattle.xc_tokens.specs.declared.why.Why.TheVariants.{Twice, TooMany, Unclosed}

-- with status 3
abbrev pub read_fault_line : List ℕ
read_fault_line = codes "read fault\n"

-- with status 5, where memory runs out for the text itself or before a run
abbrev pub no_memory_line : List ℕ
no_memory_line = codes "no memory\n"

-- with status 8
abbrev pub not_scripted_line : List ℕ
not_scripted_line = codes "not scripted\n"

-- the words of a reason
abbrev pub why_text : Why → List ℕ
why_text TooLong = codes "too long"
why_text BadByte = codes "bad byte"
why_text BadLiteral = codes "bad literal"
why_text UnknownLine = codes "unknown line"
why_text BadForm = codes "bad form"
why_text BadNumber = codes "bad number"
why_text BadName = codes "bad name"
why_text Twice = codes "twice"
why_text TooMany = codes "too many"
why_text Unclosed = codes "unclosed"

-- a refused script's line and reason
abbrev pub refused_line : ℕ → Why → List ℕ
refused_line line why = codes "line " ++ decimal line ++ codes ": " ++ why_text why ++ codes "\n"
