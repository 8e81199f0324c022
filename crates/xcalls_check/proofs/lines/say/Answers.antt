use Rattle.std.proofs.Common.{inl}
use Rattle.xcalls_check.proofs.lines.say.Goals as goal

pub returns-in-Usage : goal.returns-in-Usage
returns-in-Usage g c = rw c.in-Usage.is (inl c.write.ensures)

pub returns-in-ReadFault : goal.returns-in-ReadFault
returns-in-ReadFault g c = rw c.in-ReadFault.is (inl c.write-in-ReadFault.ensures)
