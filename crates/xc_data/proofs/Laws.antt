-- What other crates cite of this one's proofs: they import no other file of them.
-- ---- Lists: Lists with one element in another's place, and what is read off them.
-- what is set is there
pub use Rattle.xc_data.proofs.Lists.{get_set_same}
-- elsewhere all stays
pub use Rattle.xc_data.proofs.Lists.{get_set_other}
-- the list stays as long
pub use Rattle.xc_data.proofs.Lists.{length_set}
-- an image shows what is set
pub use Rattle.xc_data.proofs.Lists.{map_set}
-- an image that doesn't see it stays
pub use Rattle.xc_data.proofs.Lists.{map_set_same}
-- what is set among those that are or are not
pub use Rattle.xc_data.proofs.Lists.{put_at}
-- an image at a place
pub use Rattle.xc_data.proofs.Lists.{get_map}
-- what is at a place below the length is there
pub use Rattle.xc_data.proofs.Lists.{found_at}
-- one if there is one
pub use Rattle.xc_data.proofs.Lists.{ones}
-- one more, or one fewer, if one is set
pub use Rattle.xc_data.proofs.Lists.{picked_set}
-- ---- Objects: Objects that the test of equality tells apart or not.
-- objects that the test calls equal are the same
pub use Rattle.xc_data.proofs.Objects.{same_object}
-- the test calls an object equal to itself
pub use Rattle.xc_data.proofs.Objects.{itself}
-- objects that the test tells apart differ
pub use Rattle.xc_data.proofs.Objects.{other_object}
