-- What other crates cite of this one's proofs: they import no other file of them.
-- ---- Quotes: Literals that are read piece by piece.
-- what the rest of a literal means, after what it meant so far
pub use Rattle.xc_tokens.proofs.Quotes.{behind_bytes}
-- bytes are their first one and the others
pub use Rattle.xc_tokens.proofs.Quotes.{first_and_rest}
-- a piece more of a literal
pub use Rattle.xc_tokens.proofs.Quotes.{read_on}
-- bytes that mean themselves up to a quote are a literal
pub use Rattle.xc_tokens.proofs.Quotes.{quote_closes}
