-- What other crates cite of this one's proofs: they import no other file of them.
-- ---- Fronts: Beginnings of journals, and entries with their places.
-- a journal begins with itself
pub use Rattle.xc_turnstile.proofs.Fronts.{starts_self}
-- a front of a front is a front
pub use Rattle.xc_turnstile.proofs.Fronts.{starts_trans}
-- entries at their places stay there where the journal grows
pub use Rattle.xc_turnstile.proofs.Fronts.{stands_longer}
-- two lists of entries at their places are one
pub use Rattle.xc_turnstile.proofs.Fronts.{stands_append}
-- what was added stands at its places
pub use Rattle.xc_turnstile.proofs.Fronts.{numbered_stands}
-- ---- Passes: What a pass keeps over an entering with one event, and over several.
-- what the pass gains by a leaving with y
pub use Rattle.xc_turnstile.proofs.Passes.{gains_at}
-- the pass after it
pub use Rattle.xc_turnstile.proofs.Passes.{gains}
-- a pass that goes on waiting
pub use Rattle.xc_turnstile.proofs.Passes.{outside_further}
-- one way after another
pub use Rattle.xc_turnstile.proofs.Passes.{pass_goes_further}
