use Rattle.std.proofs.Common.{◌≡◌, ◌<◌, ℕ, [], length, get_or}
use Rattle.std.specs.List.{filter}
use Rattle.xc_memhost.specs.Faults.{any_within}
use Rattle.xc_memhost.specs.Spans.{is_at_place}
use Rattle.xc_memhost.proofs.faults.index.Given as goal

-- each place so far has the numbers of its lines
abbrev pub invariant-loop-place : goal.invariant-loop-place
invariant-loop-place l = record {
  long : length l.listed.items ≡ l.place;
  listed : (k : ℕ) → k < l.place → (n : ℕ) → any_within n (get_or l.listed.items k []) ≡ any_within n (filter (is_at_place k) l.lines);
}
