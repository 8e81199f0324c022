-- What remains of records, however they ended, leaves a sound world sound.
use Rattle.std.proofs.Common.{◌≡◌, ◌≢◌, ℕ, ◌≤◌, ◌<◌, true, Option, Some, None, List, [], ◌∷◌, length, map, refl, ap, sym, arith}
use Rattle.std.specs.Prelude.{All}
use Rattle.std.specs.FinMap as finite
use Rattle.std.proofs.lemmas.List.Elements.{All-head, All-tail}
use Rattle.xc_data.specs.declared.object.Num.{Num}
use Rattle.xc_data.specs.declared.undo.Undo.{Undo}
use Rattle.xc_data.specs.declared.undo.Undo.TheVariants.{Overwrite, Append, Create, Rename, NewPipe, NewPair}
use Rattle.xc_data.specs.declared.undo.UndoEnd.TheVariants.{Undone, Failed, Blocked}
use Rattle.xc_data.specs.declared.private.Place.{Place}
use Rattle.xc_data.specs.declared.private.Private.{Private}
use Rattle.xc_data.specs.Private.{place_of}
use Rattle.xc_data.specs.Remaining.{stopped_at}
use Rattle.xc_world.specs.World.{World, file_of, empty_pipe, empty_pair}
use Rattle.xc_world.specs.Sound.{IsFit, IsFree, IsKnown, IsSound}
use Rattle.xc_world.specs.Trail.{move_name, with_effect}
use Rattle.xc_world.specs.Ends.{Ending, remains, with_remains}
use Rattle.xc_world.specs.Effects.{whole, IsMadeIn, AreMadeIn, SparesNew}
use Rattle.xc_world.proofs.SoundParts.{keeps_file, keeps_moved, adds_named, adds_pipe, adds_pair, all_insert, free_insert, free_other}
use Rattle.xc_world.proofs.SoundCalls.{empty_short}
use Rattle.xc_world.proofs.EffectsLengths.{overwrite_within, overwrite_length, append_within, append_length}
use Rattle.xc_world.proofs.EffectsPart.{IsPart, effect_both, effect_whole, ending_records, remains_part, itself_part}

-- ---- the world that all the records left
-- its files are within their limit
abbrev pub FilesAreWithin : World → Type 0
FilesAreWithin v = (q : Num) → length (file_of v q) ≤ 65536

effect_limit : (v : World) (u : Undo) → IsMadeIn v u → FilesAreWithin v → FilesAreWithin (with_effect v u 0)
effect_limit v (Overwrite file at before after n) made within q =
    let size = overwrite_length at n after (file_of v file) made.inside made.within in
    let most = within file in
    all_insert (λ (b : List ℕ). length b ≤ 65536) v.files file q _ [] (omega (arith, size, most)) (within q)
effect_limit v (Append file from after n) made within q =
    let size = append_length n after (file_of v file) made.within in
    let same = made.size in
    let room = made.room in
    let few = made.within in
    all_insert (λ (b : List ℕ). length b ≤ 65536) v.files file q _ [] (omega (arith, size, same, room, few)) (within q)
effect_limit v (Create name num) made within q = all_insert (λ (b : List ℕ). length b ≤ 65536) v.files num q [] [] (omega arith) (within q)
effect_limit v (Rename from to) made within q = of_moved (finite.get v.names from)
  where
    of_moved : (o : Option Num) → length (file_of (move_name v from to o) q) ≤ 65536
    of_moved None = within q
    of_moved (Some num) = within q
effect_limit v (NewPipe num) made within q = within q
effect_limit v (NewPair num) made within q = within q

-- a number that is spared is none of these
spared : (me : Private) (tx k : ℕ) (num : Num) → (num.tx ≡ tx → num.k < me.made) → me.made ≤ k → record { tx = tx; k = k } ≢ num
spared me tx k num spares le e =
    let lt : num.k < me.made = spares (sym (ap (λ (q : Num). q.tx) e)) in
    let same : k ≡ num.k = ap (λ (q : Num). q.k) e in
    omega (arith, lt, same, le)

moved_free : (v : World) (from to : List ℕ) (o : Option Num) (q : Num) → IsFree v q → IsFree (move_name v from to o) q
moved_free v from to None q free = free
moved_free v from to (Some num) q free = record { file = free.file; pipe = free.pipe; pair = free.pair }

-- a number that is still to be given stays free where a record spares it
effect_free : (me : Private) (tx k : ℕ) (v : World) (u : Undo) → me.made ≤ k → IsMadeIn v u → SparesNew me tx u → IsFree v (record { tx = tx; k = k })
    → IsFree (with_effect v u 0) (record { tx = tx; k = k })
effect_free me tx k v (Overwrite file at before after n) le made spares free =
    record { file = free_insert v.files file (record { tx = tx; k = k }) _ made.there free.file; pipe = free.pipe; pair = free.pair }
effect_free me tx k v (Append file from after n) le made spares free =
    record { file = free_insert v.files file (record { tx = tx; k = k }) _ made.there free.file; pipe = free.pipe; pair = free.pair }
effect_free me tx k v (Create name num) le made spares free =
    record {
      file = free_other v.files num (record { tx = tx; k = k }) [] (spared me tx k num spares le) free.file;
      pipe = free.pipe;
      pair = free.pair;
    }
effect_free me tx k v (Rename from to) le made spares free = moved_free v from to (finite.get v.names from) (record { tx = tx; k = k }) free
effect_free me tx k v (NewPipe num) le made spares free =
    record {
      file = free.file;
      pipe = free_other v.pipes num (record { tx = tx; k = k }) empty_pipe (spared me tx k num spares le) free.pipe;
      pair = free.pair;
    }
effect_free me tx k v (NewPair num) le made spares free =
    record {
      file = free.file;
      pipe = free.pipe;
      pair = free_other v.pairs num (record { tx = tx; k = k }) empty_pair (spared me tx k num spares le) free.pair;
    }

all_free : (me : Private) (tx k : ℕ) (v : World) (us : List Undo) → me.made ≤ k → AreMadeIn v us → All (SparesNew me tx) us
    → IsFree v (record { tx = tx; k = k })
    → IsFree (with_remains v (whole us)) (record { tx = tx; k = k })
all_free me tx k v [] le made spares free = free
all_free me tx k v (u ∷ us) le made spares free =
    all_free me tx k (with_effect v u 0) us le made.1 (All-tail (SparesNew me tx) u us spares)
    (effect_free me tx k v u le made.0 (All-head (SparesNew me tx) u us spares) free)

-- ---- the world with what remains
-- it is fit, and has what the first one had
pub record StaysFit (w r : World) : Type 0 where
  pub fit : IsFit r
  pub known : (p : Place) → IsKnown w p → IsKnown r p

fit_moved : (w : World) (from to : List ℕ) (o : Option Num) → finite.get w.names from ≡ o → IsFit w → StaysFit w (move_name w from to o)
fit_moved w from to None e fit = record { fit = fit; known = λ p known. known }
fit_moved w from to (Some num) e fit = let keeps = keeps_moved true w from to num e fit in record { fit = keeps.fit; known = keeps.known }

effect_fit : (r v : World) (u : Undo) (k : ℕ) → IsMadeIn v u → IsPart r v → FilesAreWithin v
    → IsFit r → StaysFit r (with_effect r u k)
effect_fit r v (Overwrite file at before after n) k made part limit fit =
    let size = part.size file in
    let inside = made.inside in
    let within = made.within in
    let some = overwrite_within at n k (length (file_of v file)) after (file_of r file) size (omega (arith, inside, within)) within in
    let most = limit file in
    let keeps = keeps_file r file _ (omega (arith, some, most)) fit in
    record { fit = keeps.fit; known = keeps.known }
effect_fit r v (Append file from after n) k made part limit fit =
    let some = append_within n k (length (file_of v file)) after (file_of r file) (part.size file) in
    let size = made.size in
    let room = made.room in
    let within = made.within in
    let keeps = keeps_file r file _ (omega (arith, some, size, room, within)) fit in
    record { fit = keeps.fit; known = keeps.known }
effect_fit r v (Create name num) k made part limit fit = let adds = adds_named r name num [] (omega arith) fit in record { fit = adds.fit; known = adds.known }
effect_fit r v (Rename from to) k made part limit fit = fit_moved r from to (finite.get r.names from) refl fit
effect_fit r v (NewPipe num) k made part limit fit = let adds = adds_pipe r num empty_pipe fit in record { fit = adds.fit; known = adds.known }
effect_fit r v (NewPair num) k made part limit fit = let adds = adds_pair r num empty_pair empty_short fit in record { fit = adds.fit; known = adds.known }

goes_on_fit : (w r s : World) → StaysFit w r → StaysFit r s → StaysFit w s
goes_on_fit w r s first next = record { fit = next.fit; known = λ p known. next.known p (first.known p known) }

-- from a part of the world that they were made in
all_fit : (w r v : World) (records : List Ending) → AreMadeIn v (ending_records records) → IsPart r v → FilesAreWithin v → StaysFit w r
    → StaysFit w (with_remains r (remains records))
all_fit w r v [] made part within stays = stays
all_fit w r v ((u, Undone faults) ∷ records) made part within stays =
    all_fit w r (with_effect v u 0) records made.1 (effect_whole r v u made.0 part) (effect_limit v u made.0 within) stays
all_fit w r v ((u, Failed done faults) ∷ records) made part within stays =
    let k = stopped_at u done in
    all_fit w (with_effect r u k) (with_effect v u 0) records made.1 (effect_both r v u k made.0 part) (effect_limit v u made.0 within)
    (goes_on_fit w r (with_effect r u k) stays (effect_fit r v u k made.0 part within stays.fit))
all_fit w r v ((u, Blocked by) ∷ records) made part within stays =
    all_fit w (with_effect r u 0) (with_effect v u 0) records made.1 (effect_both r v u 0 made.0 part) (effect_limit v u made.0 within)
    (goes_on_fit w r (with_effect r u 0) stays (effect_fit r v u 0 made.0 part within stays.fit))

-- what remains of records that were made leaves a fit world fit, and what was there
pub remains-fit : (w : World) (records : List Ending) → AreMadeIn w (ending_records records) → IsFit w → StaysFit w (with_remains w (remains records))
remains-fit w records made fit = all_fit w w w records made (itself_part w) fit.files (record { fit = fit; known = λ p known. known })

-- where none of them makes an object that a private state is still to make, that stays sound
pub remains-sound : (w : World) (me : Private) (tx : ℕ) (records : List Ending) → AreMadeIn w (map (λ r. r.0) records)
    → All (SparesNew me tx) (map (λ r. r.0) records) → IsSound w me tx → IsSound (with_remains w (remains records)) me tx
remains-sound w me tx records made spares sound =
    let stays = remains-fit w records made sound.world in
    let part = remains_part w w records made (itself_part w) in
    record {
      world = stays.fit;
      made = sound.made;
      stored = sound.stored;
      new = λ k low.
          let q : Num = record { tx = tx; k = k } in
          let free = all_free me tx k w (ending_records records) low made spares (sound.new k low) in
          record { file = part.files q free.file; pipe = part.pipes q free.pipe; pair = part.pairs q free.pair };
      handles = λ h. stays.known (place_of me.places h) (sound.handles h);
    }
