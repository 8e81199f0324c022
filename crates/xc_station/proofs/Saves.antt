-- What an open block's save keeps stays as it is while the transaction goes on.
use Rattle.std.proofs.Common.{◌≡◌, ℕ, ◌≤◌, List, [], ◌++◌, length, refl, ap, sym, ◌∙◌, subst, arith}
use Rattle.std.specs.Prelude.{map, take, unwrap_or, Option, IsSome, OnOk, Result, Ok, Err}
use Rattle.std.specs.declared.option.Option.TheVariants.{None, Some}
use Rattle.std.proofs.lemmas.List.{append-nil, length-append, take-append-le}
use Rattle.xc_data.specs.declared.call.Call.{Call}
use Rattle.xc_data.specs.declared.call.LateCall.{LateCall}
use Rattle.xc_data.specs.declared.call.Reply.{Reply}
use Rattle.xc_data.specs.declared.entry.KeptItem.{KeptItem}
use Rattle.xc_data.specs.declared.memory.NoMemory.{NoMemory}
use Rattle.xc_data.specs.declared.undo.Undo.{Undo}
use Rattle.xc_host.specs.Model.{HostModel}
use Rattle.xc_world.specs.Ends.{Ending}
use Rattle.xc_model.specs.Moment.{TxView}
use Rattle.xc_station.specs.Acting.{HasActedAsPlain, HasDoneAsPlain, LeavesOff, acting}
use Rattle.xc_station.specs.Backs.{HasSave}
use Rattle.xc_station.specs.Jobs.{saved_in, trail_of, tx_view}
use Rattle.xc_station.specs.declared.tx.Saved.{Saved}
use Rattle.xc_station.specs.declared.tx.Tx.{Tx}

-- it keeps the same save, and its lists only grow
pub record GrowsTo (old new : Tx) : Type 0 where
  pub saved : new.saved ≡ old.saved
  pub stores : new.writes.saved ≡ old.writes.saved
  pub made : List Undo
  pub pending : new.undo.pending ≡ old.undo.pending ++ made
  pub none : old.undo.ended ≡ []
  pub none_new : new.undo.ended ≡ []
  pub took : List KeptItem
  pub taken : new.taken.items ≡ old.taken.items ++ took
  pub more : List LateCall
  pub late : new.late.calls ≡ old.late.calls ++ more

-- all of its records have no end
trail_whole : (tx : Tx) → tx.undo.ended ≡ [] → trail_of tx ≡ tx.undo.pending
trail_whole tx none = ap (λ (es : List Ending). tx.undo.pending ++ map (λ (e : Ending). e.0) es) none ∙ append-nil tx.undo.pending

-- the front of a list that grew
front : {A : Type 0} (n : ℕ) (old more new : List A) → new ≡ old ++ more → n ≤ length old → take n new ≡ take n old
front n old more new grew within = ap (take n) grew ∙ take-append-le n old more within

module _ (old new : Tx) (g : GrowsTo old new) where
  still_at : (o : Option Saved) → HasSave old o → HasSave new o × (saved_in new o ≡ saved_in old o)
  still_at None has = (tt, refl)
  still_at (Some kept) has =
      let pending = ap length g.pending ∙ length-append old.undo.pending g.made in
      let taken = ap length g.taken ∙ length-append old.taken.items g.took in
      let late = ap length g.late ∙ length-append old.late.calls g.more in
      let none = ap length g.none in
      let r = has.records in
      let t = has.taken in
      let l = has.late in
      let trail : take kept.records (trail_of new) ≡ take kept.records (trail_of old) =
      ap (take kept.records) (trail_whole new g.none_new)
      ∙ front kept.records old.undo.pending g.made new.undo.pending g.pending (omega (arith, r, none))
      ∙ ap (take kept.records) (sym (trail_whole old g.none)) in (
        record {
          records = omega (arith, r, none, pending);
          taken = omega (arith, t, taken);
          late = omega (arith, l, late);
          writes = subst IsSome (sym g.stores) has.writes;
        },
        λ i. Some (record {
          places = kept.me.value.places;
          writes = unwrap_or (g.stores i) [];
          trail = trail i;
          taken = front kept.taken old.taken.items g.took new.taken.items g.taken t i;
          late = front kept.late old.late.calls g.more new.late.calls g.late l i;
        }),
      )

  -- its save is kept
  pub still_kept : HasSave old old.saved → HasSave new new.saved
  still_kept has = subst (HasSave new) (sym g.saved) (still_at old.saved has).0

  -- and what contracts see of it
  pub still_seen : HasSave old old.saved → (tx_view new).saved ≡ (tx_view old).saved
  still_seen has = ap (saved_in new) g.saved ∙ (still_at old.saved has).1

module _ {H : Type 0} (model : HostModel H) (call : Call) (host host' : H) (kept kept' : List KeptItem) (words : List ℕ) (old new : Tx)
    (saved : (new.saved ≡ old.saved) × (new.writes.saved ≡ old.writes.saved)) (none : old.undo.ended ≡ []) where
  -- a call that is done
  pub grows_done : (reply : Reply) → HasDoneAsPlain model call (acting host kept words old) (acting host' kept' words new) reply → GrowsTo old new
  grows_done reply d =
      record {
        saved = saved.0;
        stores = saved.1;
        made = d.made;
        pending = ap (λ u. u.pending) d.undo;
        none = none;
        none_new = ap (λ u. u.ended) d.undo ∙ none;
        took = _;
        taken = ap (λ (t : TxView). t.taken) d.tx;
        more = _;
        late = ap (λ (t : TxView). t.late) d.tx;
      }

  -- and one for which memory ran out
  pub grows_left : LeavesOff model call (acting host kept words old) (acting host' kept' words new) → GrowsTo old new
  grows_left l =
      record {
        saved = saved.0;
        stores = saved.1;
        made = l.left;
        pending = ap (λ (t : TxView). t.undo.pending) l.tx;
        none = none;
        none_new = ap (λ (t : TxView). t.undo.ended) l.tx ∙ none;
        took = [];
        taken = ap (λ (t : TxView). t.taken) l.tx ∙ sym (append-nil old.taken.items);
        more = [];
        late = ap (λ (t : TxView). t.late) l.tx ∙ sym (append-nil old.late.calls);
      }

  -- so it is after either: contracts see the same save
  pub acted_seen : (r : Result Reply NoMemory) → HasActedAsPlain model call (acting host kept words old) (acting host' kept' words new) r
      → HasSave old old.saved → (tx_view new).saved ≡ (tx_view old).saved
  acted_seen (Ok reply) d has = still_seen old new (grows_done reply d) has
  acted_seen (Err e) l has = still_seen old new (grows_left l) has

-- what holds anyway holds after an Ok
pub on_ok : {A E : Type 0} (P : Type 0) (r : Result A E) → P → OnOk r P
on_ok P (Ok x) is = is
on_ok P (Err e) is = tt
