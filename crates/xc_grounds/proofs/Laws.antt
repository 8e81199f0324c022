-- What other crates cite of this one's proofs: they import no other file of them.
-- ---- Counted: Numbers that are right are those from one on in some order.
-- right numbers are those from one on in some order, and a greater one didn't begin earlier
pub use Rattle.xc_grounds.proofs.Counted.{are_counted}
-- numbers that are those from one on in some order are right, where a greater one didn't begin earlier
pub use Rattle.xc_grounds.proofs.Counted.{are_numbered}
-- ---- Fronts: The front of a list, and numbers in it.
-- what stands in an image is the image of what stands there
pub use Rattle.xc_grounds.proofs.Fronts.{of_image}
