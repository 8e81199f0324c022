use Rattle.std.proofs.Common.{◌≡◌, ◌<◌, ◌++◌, ◌+◌, length, take, drop, [], ap, subst, ℕ, List}
use Rattle.xc_edge.proofs.Pieces.{gave_front}
use Rattle.xc_edge.proofs.memory.MemSourceSource.read.Goals as goal

pub returns-clause-bytes : goal.returns-clause-bytes
returns-clause-bytes c =
    let at = c.self.inside.at in
    let count = c.copy_front-count.result in
    let into = c.copy_front-count.new.into in
    let gives : List ℕ → List ℕ → Type 0 = λ left bytes.
    (left ≡ take count into ++ drop (at + count) bytes) × (count ≡ 0 → 0 < length into → drop (at + count) bytes ≡ []) in
    let slice = c.as_slice.result.now in
    let same = c.as_slice.ensures in
    let copied = c.copy_front-count.ensures in
    let front = gave_front slice into at count c.self.inside.grain (length c.args.into.now) c.self.invariant.1 copied.size copied.count copied.bytes in
    let viewed = subst (λ (bytes : List ℕ). gives (drop at bytes) bytes) same front in
    subst (λ (left : List ℕ). gives left c.self.inside.bytes) (ap (λ s. s.left) c.self.view_is) viewed
