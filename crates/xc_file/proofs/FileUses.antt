-- Which calls of the host a call on files made.
use Rattle.std.proofs.Common.{◌≡◌, ℕ, zero, suc, ◌+◌, ◌<◌, Option, Some, None, Result, Ok, Err, inl, inr}
use Rattle.std.proofs.Common.{List, [], ◌∷◌, length, replicate, refl, ap, sym, ◌∙◌, subst, arith, append-nil}
use Rattle.std.specs.Prelude.{◌⊎◌, IsErr}
use Rattle.xc_data.specs.declared.memory.NoMemory.{NoMemory}
use Rattle.xc_data.specs.declared.call.Call.TheVariants.{XCreate, XRename, XWriteOvr, XWriteSeq}
use Rattle.xc_data.specs.declared.call.Reply.{Reply}
use Rattle.xc_data.specs.declared.call.Reply.TheVariants as reply
use Rattle.xc_data.specs.declared.script.HostCallKind.{HostCallKind}
use Rattle.xc_data.specs.declared.script.HostCallKind.TheVariants.{Lookup, Create, Rename, Len, ReadAt, WriteAt, Append}
use Rattle.xc_host.specs.Model.{HostModel, IsUsed}
use Rattle.xc_host.specs.Uses.{Uses, MayMove, MovesBy, CallsFor, StopsFor, OverwritesFor, AppendsFor, overwrites}
use Rattle.xc_host.specs.declared.errors.HostErr.{HostErr}
use Rattle.xc_host.specs.declared.errors.HostErr.TheVariants as host_err
use Rattle.xc_host.proofs.Laws.{used_then, moves_none}
use Rattle.xc_file.specs.Appending.{AppendsUntil}
use Rattle.xc_calls.specs.Calls.{PassedBy}
use Rattle.xc_file.specs.Naming.{CreatesOnce, RenamesOnce}
use Rattle.xc_file.specs.Reading.{ReadsBy}
use Rattle.xc_file.specs.Writing.{LooksFor, LooksThere}

-- an overwrite of some bytes
by_overwrites : (h : ℕ) (bytes : List ℕ) (r : Reply) (reads writes : ℕ) → 0 < length bytes → OverwritesFor (length bytes) r reads writes
    → CallsFor (XWriteOvr h bytes) r (overwrites reads writes)
by_overwrites h [] r reads writes some are = absurd (omega (arith, some))
by_overwrites h (b ∷ bs) r reads writes some are = (reads, writes, are, refl)

-- an append of some bytes
by_appends : (h : ℕ) (bytes : List ℕ) (r : Reply) (count : ℕ) → 0 < length bytes → AppendsFor (length bytes) r count
    → CallsFor (XWriteSeq h bytes) r (Len ∷ replicate count Append)
by_appends h [] r count some are = absurd (omega (arith, some))
by_appends h (b ∷ bs) r count some are = (count, are, refl)

-- so many bytes were written, or a fault came after them
written_by : (n done reads count : ℕ) → MayMove n reads → MayMove done count → 0 < n → OverwritesFor n (reply.Fault done) reads (1 + count)
written_by n zero reads count read wrote some = (read.most, omega (arith, wrote.most), omega (arith, read.least some, wrote.most))
written_by n (suc done) reads count read wrote some = (read, omega (arith, wrote.least (omega arith)), omega (arith, wrote.most))

appended_by : (n done count : ℕ) → MayMove done count → AppendsFor n (reply.Fault done) (1 + count)
appended_by n zero count did = omega (arith, did.most)
appended_by n (suc done) count did = (omega (arith, did.least (omega arith)), omega (arith, did.most))

-- where memory ran out, the create is one more or none
starved : (made : List HostCallKind) → (made ≡ []) ⊎ (made ≡ Create ∷ []) → (Lookup ∷ made ≡ Lookup ∷ []) ⊎ (Lookup ∷ made ≡ Lookup ∷ Create ∷ [])
starved made (inl e) = inl (ap (λ m. Lookup ∷ m) e)
starved made (inr e) = inr (ap (λ m. Lookup ∷ m) e)

module _ {H : Type 0} (model : HostModel H) where
  -- a create after the look for its name
  pub uses_create : (name : List ℕ) (a b c : H) (result : Result Reply NoMemory) → IsUsed model (Lookup ∷ []) (record { old = a; new = b })
      → Uses model (record { old = b; new = c }) (CreatesOnce result)
      → Uses model (record { old = a; new = c }) (PassedBy (XCreate name) result)
  uses_create name a b c (Ok r) looked then = record {
    made = Lookup ∷ Create ∷ [];
    named = then.named.1;
    used = used_then model (Lookup ∷ []) (Create ∷ []) a b c looked (subst (λ made. IsUsed model made (record { old = b; new = c })) then.named.0 then.used);
  }
  uses_create name a b c (Err e) looked then = record {
    made = Lookup ∷ then.made;
    named = starved then.made then.named;
    used = used_then model (Lookup ∷ []) then.made a b c looked then.used;
  }

  -- a rename after the look for its names
  pub uses_rename : (from to : List ℕ) (a b c d : H) (result : Result Reply NoMemory) → IsUsed model (Lookup ∷ []) (record { old = a; new = b })
      → IsUsed model (Lookup ∷ []) (record { old = b; new = c }) → Uses model (record { old = c; new = d }) (RenamesOnce result)
      → Uses model (record { old = a; new = d }) (PassedBy (XRename from to) result)
  uses_rename from to a b c d (Ok r) first second then = record {
    made = Lookup ∷ Lookup ∷ Rename ∷ [];
    named = then.named.1;
    used = used_then model (Lookup ∷ Lookup ∷ []) (Rename ∷ []) a c d (used_then model (Lookup ∷ []) (Lookup ∷ []) a b c first second)
        (subst (λ made. IsUsed model made (record { old = c; new = d })) then.named.0 then.used);
  }
  uses_rename from to a b c d (Err e) first second then = record {
    made = Lookup ∷ Lookup ∷ [];
    named = inr refl;
    used = used_then model (Lookup ∷ Lookup ∷ []) [] a c d (used_then model (Lookup ∷ []) (Lookup ∷ []) a b c first second)
        (subst (λ made. IsUsed model made (record { old = c; new = d })) then.named then.used);
  }

  -- an append that a failure stopped
  pub append_stops : (n done : ℕ) (error : HostErr) (a b c : H) → done < n → Uses model (record { old = a; new = b }) (MovesBy Append done 0)
      → IsUsed model (Append ∷ []) (record { old = b; new = c })
      → Uses model (record { old = a; new = c }) (AppendsUntil n done (Err error))
  append_stops n done host_err.Fault a b c short so_far last = moves_none model Append done 0 a b c so_far last
  append_stops n done host_err.NoMemory a b c short so_far last =
      let all = moves_none model Append done 0 a b c so_far last in
      record { made = all.made; named = (1 + all.named.0, omega (arith, all.named.1.most, short), all.named.2); used = all.used }

  -- an append after the look for the length, that runs out of memory
  pub append_starves : (h n done : ℕ) (bytes : List ℕ) (a b c : H) → n ≡ length bytes → IsUsed model (Len ∷ []) (record { old = a; new = b })
      → Uses model (record { old = b; new = c }) (AppendsUntil n done (Err host_err.NoMemory))
      → Uses model (record { old = a; new = c }) (StopsFor (XWriteSeq h bytes))
  append_starves h n done bytes a b c size looked then = record {
    made = Len ∷ then.made;
    named = (then.named.0, omega (arith, then.named.1, size), ap (λ made. Len ∷ made) then.named.2);
    used = used_then model (Len ∷ []) then.made a b c looked then.used;
  }

  -- an append after the look for the length
  pub appends_all : (h done : ℕ) (bytes : List ℕ) (a b c : H) → 0 < length bytes → done ≡ length bytes → IsUsed model (Len ∷ []) (record { old = a; new = b })
      → Uses model (record { old = b; new = c }) (MovesBy Append done 0)
      → Uses model (record { old = a; new = c }) (CallsFor (XWriteSeq h bytes) reply.Done)
  appends_all h done bytes a b c some whole looked then =
      let (count, moved, is) = then.named in
      record {
        made = Len ∷ replicate (0 + count) Append;
        named = by_appends h bytes reply.Done (0 + count) some
            (record { most = omega (arith, moved.most, whole); least = λ l. omega (arith, moved.least (omega (arith, l, whole))) });
        used = used_then model (Len ∷ []) (replicate (0 + count) Append) a b c looked
            (subst (λ made. IsUsed model made (record { old = b; new = c })) is then.used);
      }

  -- one that a fault stopped
  pub appends_front : (h done : ℕ) (bytes : List ℕ) (a b c : H) → 0 < length bytes → IsUsed model (Len ∷ []) (record { old = a; new = b })
      → Uses model (record { old = b; new = c }) (MovesBy Append done 1)
      → Uses model (record { old = a; new = c }) (CallsFor (XWriteSeq h bytes) (reply.Fault done))
  appends_front h done bytes a b c some looked then =
      let (count, moved, is) = then.named in
      record {
        made = Len ∷ replicate (1 + count) Append;
        named = by_appends h bytes (reply.Fault done) (1 + count) some (appended_by (length bytes) done count moved);
        used = used_then model (Len ∷ []) (replicate (1 + count) Append) a b c looked
            (subst (λ made. IsUsed model made (record { old = b; new = c })) is then.used);
      }

  -- bytes are read after the look for the length
  looked_used : (count : ℕ) (a b c : H) → IsUsed model (Len ∷ []) (record { old = a; new = b })
      → IsUsed model (replicate count ReadAt) (record { old = b; new = c }) → IsUsed model (overwrites count 0) (record { old = a; new = c })
  looked_used count a b c looked read =
      subst (λ made. IsUsed model made (record { old = a; new = c })) (ap (λ made. Len ∷ made) (sym (append-nil (replicate count ReadAt))))
      (used_then model (Len ∷ []) (replicate count ReadAt) a b c looked read)

  -- so many bytes are there
  pub looks_found : {T : Type 0} (n len : ℕ) (before : T) (a b c : H) → IsUsed model (Len ∷ []) (record { old = a; new = b })
      → Uses model (record { old = b; new = c }) (ReadsBy n len)
      → Uses model (record { old = a; new = c }) (LooksFor n (Ok (Some before)))
  looks_found n len before a b c looked then =
      let (count, moved, most, is) = then.named in
      record {
        made = overwrites count 0;
        named = (count, moved, refl);
        used = looked_used count a b c looked (subst (λ made. IsUsed model made (record { old = b; new = c })) is then.used);
      }

  -- fewer bytes are there
  pub looks_short : {T : Type 0} (n len : ℕ) (some : T) (a b c : H) → IsUsed model (Len ∷ []) (record { old = a; new = b })
      → Uses model (record { old = b; new = c }) (ReadsBy n len)
      → Uses model (record { old = a; new = c }) (LooksFor {T = T} n (Ok None))
  looks_short {T = T} n len some a b c looked then =
      let (count, moved, most, is) = then.named in
      record {
        made = overwrites count 0;
        named = (count, moved.most, refl);
        used = looked_used count a b c looked (subst (λ made. IsUsed model made (record { old = b; new = c })) is then.used);
      }

  -- a read failed
  pub looks_failed : {T : Type 0} (n : ℕ) (result : Result (Option T) HostErr) (a b c : H) → IsErr result
      → IsUsed model (Len ∷ []) (record { old = a; new = b }) → Uses model (record { old = b; new = c }) (MovesBy ReadAt n 0)
      → Uses model (record { old = a; new = c }) (LooksFor n result)
  looks_failed n (Ok x) a b c failed looked then = cc
  looks_failed n (Err e) a b c failed looked then =
      let (count, moved, is) = then.named in
      record {
        made = overwrites (0 + count) 0;
        named = (0 + count, omega (arith, moved.most), refl);
        used = looked_used (0 + count) a b c looked (subst (λ made. IsUsed model made (record { old = b; new = c })) is then.used);
      }

  -- the bytes that were found were read
  pub looked_there : {T : Type 0} (n size : ℕ) (result : Result (Option T) HostErr) (before : T) (a b : H) → size ≡ n → result ≡ Ok (Some before)
      → Uses model (record { old = a; new = b }) (LooksFor size result) → Uses model (record { old = a; new = b }) (LooksThere n)
  looked_there n size result before a b same found looked =
      subst (λ k. Uses model (record { old = a; new = b }) (LooksThere k)) same
      (subst (λ r. Uses model (record { old = a; new = b }) (LooksFor size r)) found looked)

  -- bytes are written after those reads
  overwrote_used : (reads writes : ℕ) (a b c : H) → IsUsed model (overwrites reads 0) (record { old = a; new = b })
      → IsUsed model (replicate writes WriteAt) (record { old = b; new = c }) → IsUsed model (overwrites reads writes) (record { old = a; new = c })
  overwrote_used reads writes a b c read wrote =
      used_then model (Len ∷ replicate reads ReadAt) (replicate writes WriteAt) a b c
      (subst (λ made. IsUsed model made (record { old = a; new = b })) (ap (λ made. Len ∷ made) (append-nil (replicate reads ReadAt))) read) wrote

  -- an overwrite of all
  pub overwrites_all : (h done : ℕ) (bytes : List ℕ) (a b c : H) → 0 < length bytes → done ≡ length bytes
      → Uses model (record { old = a; new = b }) (LooksThere (length bytes))
      → Uses model (record { old = b; new = c }) (MovesBy WriteAt done 0)
      → Uses model (record { old = a; new = c }) (CallsFor (XWriteOvr h bytes) reply.Done)
  overwrites_all h done bytes a b c some whole looked then =
      let (reads, read, are) = looked.named in
      let (count, moved, is) = then.named in
      record {
        made = overwrites reads (0 + count);
        named = by_overwrites h bytes reply.Done reads (0 + count) some
            (read, record { most = omega (arith, moved.most, whole); least = λ l. omega (arith, moved.least (omega (arith, l, whole))) });
        used = overwrote_used reads (0 + count) a b c (subst (λ made. IsUsed model made (record { old = a; new = b })) are looked.used)
            (subst (λ made. IsUsed model made (record { old = b; new = c })) is then.used);
      }

  -- one that a fault stopped
  pub overwrites_front : (h done : ℕ) (bytes : List ℕ) (a b c : H) → 0 < length bytes
      → Uses model (record { old = a; new = b }) (LooksThere (length bytes))
      → Uses model (record { old = b; new = c }) (MovesBy WriteAt done 1)
      → Uses model (record { old = a; new = c }) (CallsFor (XWriteOvr h bytes) (reply.Fault done))
  overwrites_front h done bytes a b c some looked then =
      let (reads, read, are) = looked.named in
      let (count, moved, is) = then.named in
      record {
        made = overwrites reads (1 + count);
        named = by_overwrites h bytes (reply.Fault done) reads (1 + count) some (written_by (length bytes) done reads count read moved some);
        used = overwrote_used reads (1 + count) a b c (subst (λ made. IsUsed model made (record { old = a; new = b })) are looked.used)
            (subst (λ made. IsUsed model made (record { old = b; new = c })) is then.used);
      }

  -- a read that gave none is the last
  pub reads_end : (n len size : ℕ) (a b c : H) → len < n → size ≡ len → Uses model (record { old = a; new = b }) (MovesBy ReadAt len 0)
      → IsUsed model (ReadAt ∷ []) (record { old = b; new = c }) → Uses model (record { old = a; new = c }) (ReadsBy n size)
  reads_end n len size a b c short same so_far last =
      let all = moves_none model ReadAt len 0 a b c so_far last in
      let (count, moved, is) = all.named in
      record {
        made = all.made;
        named = (1 + count, record { most = omega (arith, moved.most, short); least = λ l. omega arith }, omega (arith, moved.most, same), is);
        used = all.used;
      }

  -- a read that failed is the last
  pub reads_fail : (n len : ℕ) (a b c : H) → len < n → Uses model (record { old = a; new = b }) (MovesBy ReadAt len 0)
      → IsUsed model (ReadAt ∷ []) (record { old = b; new = c }) → Uses model (record { old = a; new = c }) (MovesBy ReadAt n 0)
  reads_fail n len a b c short so_far last =
      let all = moves_none model ReadAt len 0 a b c so_far last in
      let (count, moved, is) = all.named in
      record {
        made = all.made;
        named = (
          1 + count,
          record { most = omega (arith, moved.most, short); least = λ l. omega arith },
          is ∙ ap (λ m. replicate m ReadAt) (let e : 0 + 1 + count ≡ 0 + (1 + count) = omega arith in e),
        );
        used = all.used;
      }
