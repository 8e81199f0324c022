-- What other crates cite of this one's proofs: they import no other file of them.
-- ---- BitRuns: Bits of a mask from a place on.
-- what comes before a place comes before what it tells of
pub use Rattle.xc_lanes.proofs.BitRuns.{reaches}
-- ---- Lanes: Bytes that are looked at several at once.
-- where f has the top bit set in a lane its bit of the mask is set
pub use Rattle.xc_lanes.proofs.Lanes.{mask_of}
-- where f has the top bit set in a lane the run ends: its length is the place of the first such lane
pub use Rattle.xc_lanes.proofs.Lanes.{lane_run}
