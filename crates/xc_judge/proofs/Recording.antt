-- What a call leaves to be compensated: no record, or one.
use Rattle.std.proofs.Common.{◌≡◌, ℕ, ◌==◌, Bool, true, false, List, [], ◌∷◌, length, refl}
use Rattle.std.specs.Prelude.{if◌then◌else◌}
use Rattle.xc_data.specs.Private.{place_of}
use Rattle.xc_data.specs.declared.call.Call.{Call}
use Rattle.xc_data.specs.declared.call.Call.TheVariants as call
use Rattle.xc_data.specs.declared.call.Reply.{Reply}
use Rattle.xc_data.specs.declared.call.Reply.TheVariants as reply
use Rattle.xc_data.specs.declared.object.Num.{Num}
use Rattle.xc_data.specs.declared.private.Place.{Place}
use Rattle.xc_data.specs.declared.private.Place.TheVariants as place
use Rattle.xc_data.specs.declared.private.Private.{Private}
use Rattle.xc_data.specs.declared.undo.Undo.{Undo}
use Rattle.xc_data.specs.declared.undo.Undo.TheVariants.{Overwrite, Append, Create, Rename, NewPipe, NewPair}
use Rattle.xc_world.specs.Act.Names.{next_num}
use Rattle.xc_world.specs.Fits.{is_write}
use Rattle.xc_world.specs.Trail.{append_record, create_record, done_of, overwrite_record, pair_record, pipe_record, recorded, rename_record}
use Rattle.xc_world.specs.World.{World}

-- this is so of no record, and of each one that a call of a transaction may leave
pub record EachWay (P : List Undo → Type 0) (me : Private) (tx : ℕ) (c : Call) : Type 0 where
  pub none : P []
  pub overwrite : is_write c ≡ true → (file : Num) (at : ℕ) (before after : List ℕ) (n : ℕ) → P (Overwrite file at before after n ∷ [])
  pub append : is_write c ≡ true → (file : Num) (from : ℕ) (after : List ℕ) (n : ℕ) → P (Append file from after n ∷ [])
  pub create : (name : List ℕ) → P (Create name (next_num me tx) ∷ [])
  pub rename : (from to : List ℕ) → P (Rename from to ∷ [])
  pub pipe : P (NewPipe (next_num me tx) ∷ [])
  pub pair : P (NewPair (next_num me tx) ∷ [])

-- either of two lists of records
either : (P : List Undo → Type 0) (b : Bool) (us vs : List Undo) → P us → P vs → P (if b then us else vs)
either P true us vs p q = p
either P false us vs p q = q

module _ (P : List Undo → Type 0) (w : World) (me : Private) (tx : ℕ) where
  -- an overwrite
  of_overwrite : (h : ℕ) (bytes : List ℕ) (n : ℕ) (p : Place) → EachWay P me tx (call.XWriteOvr h bytes) → P (overwrite_record w bytes n p)
  of_overwrite h bytes n (place.File num at) so = either P (n == 0) _ _ so.none (so.overwrite refl num at _ bytes n)
  of_overwrite h bytes n _ so = so.none

  -- an append
  of_append : (h : ℕ) (bytes : List ℕ) (n : ℕ) (p : Place) → EachWay P me tx (call.XWriteSeq h bytes) → P (append_record w bytes n p)
  of_append h bytes n (place.File num at) so = either P (n == 0) _ _ so.none (so.append refl num _ bytes n)
  of_append h bytes n _ so = so.none

  -- a file that is made
  of_create : (c : Call) (name : List ℕ) (r : Reply) → EachWay P me tx c → P (create_record me tx name r)
  of_create c name (reply.Made h) so = so.create name
  of_create c name _ so = so.none

  -- another name
  of_rename : (c : Call) (from to : List ℕ) (r : Reply) → EachWay P me tx c → P (rename_record from to r)
  of_rename c from to reply.Done so = so.rename from to
  of_rename c from to _ so = so.none

  -- a pipe
  of_pipe : (c : Call) (r : Reply) → EachWay P me tx c → P (pipe_record me tx r)
  of_pipe c (reply.Made h) so = so.pipe
  of_pipe c _ so = so.none

  -- a pair
  of_pair : (c : Call) (r : Reply) → EachWay P me tx c → P (pair_record me tx r)
  of_pair c (reply.MadePair h g) so = so.pair
  of_pair c _ so = so.none

  -- what any call leaves
  pub each_recorded : (c : Call) (r : Reply) → EachWay P me tx c → P (recorded w me tx c r)
  each_recorded (call.XWriteOvr h bytes) r so = of_overwrite h bytes (done_of (length bytes) r) (place_of me.places h) so
  each_recorded (call.XWriteSeq h bytes) r so = of_append h bytes (done_of (length bytes) r) (place_of me.places h) so
  each_recorded (call.XCreate name) r so = of_create (call.XCreate name) name r so
  each_recorded (call.XRename from to) r so = of_rename (call.XRename from to) from to r so
  each_recorded call.XPipe r so = of_pipe call.XPipe r so
  each_recorded call.XPair r so = of_pair call.XPair r so
  each_recorded _ r so = so.none
