-- What other crates cite of this one's proofs: they import no other file of them.
-- ---- Orders: The order of sources is total, and a source in it is one.
-- a source is its own
pub use Rattle.xc_buffers.proofs.Orders.{own_source}
-- sources that tie are one
pub use Rattle.xc_buffers.proofs.Orders.{one_source}
-- no source stands before itself
pub use Rattle.xc_buffers.proofs.Orders.{before_itself}
-- of two sources of which none stands before the other both are one
pub use Rattle.xc_buffers.proofs.Orders.{neither}
-- of two sources one at most stands before the other
pub use Rattle.xc_buffers.proofs.Orders.{before_not}
-- what doesn't stand before a second one, which doesn't stand before a third, doesn't stand before the third
pub use Rattle.xc_buffers.proofs.Orders.{not_before}
-- ---- Splits: Lists in two parts with an element between, reversed lists, and what a filter keeps of a part.
-- what each element of two tests says of the other
pub use Rattle.xc_buffers.proofs.Splits.{All-both}
-- ---- Turns: Changes of one value of a finite map by number, one after another.
-- of two changes of one number the second sees the first
pub use Rattle.xc_buffers.proofs.Turns.{change_same}
-- ---- Ordered: Kept items in order, and the places of a source in a list in the reverse order.
-- the first item's source doesn't stand before the second one's
pub use Rattle.xc_buffers.proofs.Ordered.{NotBefore}
-- each item against all that are after it
pub use Rattle.xc_buffers.proofs.Ordered.{Rises}
-- items in order rise
pub use Rattle.xc_buffers.proofs.Ordered.{rises_from}
-- those that rise are in order
pub use Rattle.xc_buffers.proofs.Ordered.{order_from}
-- ---- Fronts: What is given back in a world goes together with changes elsewhere, and with changes after it.
-- an item may be given back before or after a change
pub use Rattle.xc_buffers.proofs.Fronts.{Commutes}
-- so may a list of such items
pub use Rattle.xc_buffers.proofs.Fronts.{given_passes}
-- with bytes in front
pub use Rattle.xc_buffers.proofs.Fronts.{pipe_fronted}
-- the world with one pipe changed
pub use Rattle.xc_buffers.proofs.Fronts.{turn_pipe}
-- then so may every item
pub use Rattle.xc_buffers.proofs.Fronts.{pipe_passes}
-- with a message in front
pub use Rattle.xc_buffers.proofs.Fronts.{firsted}
-- the world with one pair changed
pub use Rattle.xc_buffers.proofs.Fronts.{turn_pair}
-- then so may every item
pub use Rattle.xc_buffers.proofs.Fronts.{pair_passes}
-- a message that is fit is for side 0 or 1
pub use Rattle.xc_buffers.proofs.Fronts.{fit_side}
-- ---- Held: What is where, with kept items in front; and which changes of the world go together with them.
-- a pipe has what is kept of it in front
pub use Rattle.xc_buffers.proofs.Held.{pipe_front}
-- a side of a pair has what is kept for it in front
pub use Rattle.xc_buffers.proofs.Held.{side_front}
-- a pair's mark stays
pub use Rattle.xc_buffers.proofs.Held.{pair_mark}
-- a pipe is there where something is kept of it, or it was
pub use Rattle.xc_buffers.proofs.Held.{pipe_is_there}
-- so is a pair
pub use Rattle.xc_buffers.proofs.Held.{pair_is_there}
-- where no bytes are kept no item is, since each has some
pub use Rattle.xc_buffers.proofs.Held.{no_items}
-- where no messages are kept no item is
pub use Rattle.xc_buffers.proofs.Held.{no_message_items}
-- nothing but pipes and pairs
pub use Rattle.xc_buffers.proofs.Held.{held_alone}
-- bytes after those of a pipe
pub use Rattle.xc_buffers.proofs.Held.{put_stays}
-- a message after those for a side
pub use Rattle.xc_buffers.proofs.Held.{sent_stays}
-- a mark
pub use Rattle.xc_buffers.proofs.Held.{shut_stays}
-- a pipe of which nothing is kept becomes any other
pub use Rattle.xc_buffers.proofs.Held.{pipe_put}
-- a pair of which nothing is kept becomes any other
pub use Rattle.xc_buffers.proofs.Held.{pair_put}
-- a side of which nothing is kept has any other messages
pub use Rattle.xc_buffers.proofs.Held.{side_put}
-- ---- Puts: An item between others, in front of those of its source: what is kept with it and without it.
-- bytes that are given back are taken from the front again
pub use Rattle.xc_buffers.proofs.Puts.{front_left}
-- a message that is given back is the first again
pub use Rattle.xc_buffers.proofs.Puts.{first_left}
-- what is given back leaves what is there
pub use Rattle.xc_buffers.proofs.Puts.{has_front}
-- so does it a pair
pub use Rattle.xc_buffers.proofs.Puts.{has_pair_kept}
-- two pieces that are given back are one
pub use Rattle.xc_buffers.proofs.Puts.{gives_joined}
