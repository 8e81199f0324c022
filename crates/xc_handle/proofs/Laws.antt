-- What other crates cite of this one's proofs: they import no other file of them.
-- ---- Crosses: What a handle holds says the same to every thread, where its value does.
pub use Rattle.xc_handle.proofs.Crosses.{quiet}
-- nothing that is held names a thread
pub use Rattle.xc_handle.proofs.Crosses.{held_keyless}
-- ---- Single: A struct of one pointer, and what is held there.
pub use Rattle.xc_handle.proofs.Single.{Goes-blank}
-- the struct's machine value
pub use Rattle.xc_handle.proofs.Single.{word}
-- a pointer has its type
pub use Rattle.xc_handle.proofs.Single.{ptr_good}
-- so has the struct's machine value
pub use Rattle.xc_handle.proofs.Single.{word_good}
-- the struct by its one field
pub use Rattle.xc_handle.proofs.Single.{One}
-- the field owns nothing, so it is made of nothing
pub use Rattle.xc_handle.proofs.Single.{one_made}
-- the struct is its word, and what is held at its pointer
pub use Rattle.xc_handle.proofs.Single.{single_out}
