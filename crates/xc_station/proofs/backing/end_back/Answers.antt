use Rattle.std.proofs.Common.{◌≡◌, ◌⊎◌, ℕ, Contains, drop, subst}
use Rattle.xc_station.proofs.backing.end_back.Goals as goal

pub returns-clause-among : goal.returns-clause-among
returns-clause-among c = λ kept is item there.
    let same : c.in-Some.saved.taken ≡ kept.taken = cc (is, c.in-Some.is, c.take.ensures.value) in
    subst (λ (n : ℕ). Contains (drop n c.args.tx.now.taken.items) item ⊎ Contains c.args.buffers.now.kept item) same (c.give_to.ensures.among item there)
