use Rattle.std.proofs.Common.{◌≡◌, ◌++◌, length, take}
use Rattle.xc_judge.specs.Traced.{ends_of, shown_ends, undos_of}
use Rattle.xc_judge.proofs.undos.ended.Given as goal

-- so far each has its end
abbrev pub invariant-loop-undo : goal.invariant-loop-undo
invariant-loop-undo l =
    record {
      came : l.yielded ++ l.undo-iterator.rest.items ≡ l.fn.undos;
      undos : undos_of l.records.items ≡ l.yielded;
      ends : ends_of l.records.items ≡ shown_ends (take (length l.records.items) l.shown);
    }
