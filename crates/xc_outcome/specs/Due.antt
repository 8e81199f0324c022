-- The bytes of what is to be written.
use Rattle.std.specs.Prelude.{ℕ, List, string_bytes}
use Rattle.xc_outcome.specs.declared.due.Due.{Due}
use Rattle.xc_outcome.specs.declared.due.Due.TheVariants.{Usage, ReadFault, NoMemory, NotScripted, Line, Whole}
use Rattle.xc_outcome.specs.Lines.{read_fault_line, no_memory_line, not_scripted_line}

-- what is to be written, as bytes
abbrev pub due_bytes : Due → List ℕ
due_bytes (Usage line) = line.now
due_bytes ReadFault = read_fault_line
due_bytes NoMemory = no_memory_line
due_bytes NotScripted = not_scripted_line
due_bytes (Line line) = string_bytes line
due_bytes (Whole text) = text
