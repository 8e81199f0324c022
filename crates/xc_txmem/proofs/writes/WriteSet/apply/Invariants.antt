use Rattle.std.proofs.Common.{◌≡◌, length, drop}
use Rattle.xc_txmem.specs.Overlay.{overlaid, AreWithin}
use Rattle.xc_txmem.proofs.writes.WriteSet.apply.Given as goal

-- the stores that are left make of these words what all make of the first ones
abbrev pub invariant-loop-at : goal.invariant-loop-at
invariant-loop-at l =
    record {
      rest : overlaid l.words (drop l.at-index l.self.stores) ≡ overlaid l.fn.words l.self.stores;
      within : AreWithin (length l.words) (drop l.at-index l.self.stores);
      count : length l.words ≡ length l.fn.words;
    }
