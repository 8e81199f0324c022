-- Calls on a host with kept items in front of what it holds.
use Rattle.std.proofs.Common.{◌≡◌, Ok, Err, IsTrue, List, refl, ap, sym}
use Rattle.std.specs.Prelude.{OnErr, Result}
use Rattle.xc_data.specs.declared.script.HostCallKind.{HostCallKind}
use Rattle.xc_data.specs.declared.call.Reply.{Reply}
use Rattle.xc_data.specs.declared.entry.KeptItem.{KeptItem}
use Rattle.xc_data.specs.declared.memory.NoMemory.{NoMemory}
use Rattle.xc_data.specs.declared.private.Private.{Private}
use Rattle.xc_compensate.specs.Records.{Records}
use Rattle.xc_host.specs.Contents.{Contents, contents_of, world_of}
use Rattle.xc_host.specs.Fronted.{before, fronted}
use Rattle.xc_host.specs.Kept.{with_kept}
use Rattle.xc_host.specs.Model.{HostModel}
use Rattle.xc_host.specs.Uses.{Uses}
use Rattle.xc_calls.specs.Passing.{IsAsBefore}
use Rattle.std.proofs.Common.{subst}
use Rattle.xc_host.specs.Kept.{KeepsData}
use Rattle.xc_host.proofs.Laws.{data_keeps_itself}
use Rattle.xc_calls.specs.Sides.{IsSame, Sides}

-- what a host holds with what is kept
abbrev pub logical : Sides → Contents
logical s = with_kept s.contents s.items

-- sides that lead to the same worlds hold the same
pub same_logical : (old new : Sides) → IsSame (record { old = old; new = new }) → logical old ≡ logical new
same_logical old new same = ap contents_of (same (world_of old.contents))

-- what a read leaves: the host, what is kept in front of it, and the private state
pub record ReadState (H : Type 0) : Type 0 where
  pub host : H
  pub items : List KeptItem
  pub me : Private

-- what it holds with what is kept
abbrev pub sides : {H : Type 0} → HostModel H → ReadState H → Sides
sides model s = record { contents = model.contents s.host; items = s.items }

module _ {H : Type 0} (model : HostModel H) (old new : ReadState H) where
  -- a host that was used is so with items in front, whatever becomes of these
  pub uses_both : {IsMade : List HostCallKind → Type 0} → Uses model (record { old = old.host; new = new.host }) IsMade
      → Uses (fronted model) (record { old = before old.host old.items; new = before new.host new.items }) IsMade
  uses_both u = record { made = u.made; named = u.named; used = record { called = u.used.called; plan = u.used.plan } }

-- where memory ran out what is there is as before
pub err_logical : {H : Type 0} (model : HostModel H) (old new : ReadState H) (result : Result Reply NoMemory)
    → OnErr result (IsSame (record { old = sides model old; new = sides model new }))
    → OnErr result (with_kept (model.contents new.host) new.items ≡ with_kept (model.contents old.host) old.items)
err_logical model old new (Ok r) same = tt
err_logical model old new (Err e) same = sym (same_logical (sides model old) (sides model new) same)

-- where memory ran out all is as before
pub err_before : {H : Type 0} (model : HostModel H) (old new : ReadState H) (undo : Records) (result : Result Reply NoMemory)
    → (IsTrue model.tells → OnErr result (IsSame (record { old = sides model old; new = sides model new })))
    → OnErr result (IsAsBefore (fronted model) (record {
      old = record { host = before old.host old.items; undo = undo };
      new = record { host = before new.host new.items; undo = undo };
    }))
err_before model old new undo (Ok r) same = tt
err_before model old new undo (Err e) same =
    record { undo = refl; contents = λ t. sym (same_logical (sides model old) (sides model new) (same t)) }

-- all is as before with kept items in front where it is without
pub before_fronted : {H : Type 0} (model : HostModel H) (items : List KeptItem) (a b : H) (u v : Records) (result : Result Reply NoMemory)
    → OnErr result (IsAsBefore model (record { old = record { host = a; undo = u }; new = record { host = b; undo = v } }))
    → OnErr result (IsAsBefore (fronted model) (record { old = record { host = before a items; undo = u }; new = record { host = before b items; undo = v } }))
before_fronted model items a b u v (Ok r) is = tt
before_fronted model items a b u v (Err e) is =
    record { undo = is.undo; contents = λ t. ap (λ c. with_kept c items) (is.contents t) }

-- where nothing is changed
pub keeps_same : (c d : Contents) → d ≡ c → KeepsData c d
keeps_same c d same = subst (KeepsData c) (sym same) (data_keeps_itself c)
