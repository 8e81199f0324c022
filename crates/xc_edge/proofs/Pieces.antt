-- Pieces that are read or written one after another.
use Rattle.std.proofs.Common.{ℕ, ◌+◌, ◌-◌, ◌≤◌, ◌≡◌, ◌<◌, min, List, [], ◌++◌, length, take, drop, Option, Result, Ok, Err, OnErr}
use Rattle.std.proofs.Common.{ap, sym, ◌∙◌, subst, arith, length-append, length-take}
use Rattle.std.proofs.Math.Seq.{take-add}
use Rattle.std.proofs.Math.ListN.{drop_of_length-le}
use Rattle.std.proofs.lemmas.List.{take_rest, take-append-drop, drop-drop, length-drop}
use Rattle.std.proofs.KnownBytes.{Appends-trans, Consumes-trans}
use Rattle.std.specs.Io.KnownBytes.{Appends, Consumes}
use Rattle.xc_edge.specs.Streams.{ConsumesUpTo}
use Rattle.xc_edge.specs.View.{StreamView}

-- a front of what was left, as `&text[done..]` gives it, makes the front longer
pub wrote_more : (a b c : Option (List ℕ)) (text : List ℕ) (done more : ℕ) → Appends a b (take done text)
    → Appends b c (take more (take (length text - done) (drop done text))) → Appends a c (take (done + more) text)
wrote_more a b c text done more before now =
    subst (Appends a c) (ap (λ xs. take done text ++ take more xs) (take_rest text done) ∙ sym (take-add done more text)) (Appends-trans a b c _ _ before now)

-- what holds holds where a call failed
pub holds_on_err : {T E P : Type 0} (r : Result T E) → P → OnErr r P
holds_on_err (Ok _) p = tt
holds_on_err (Err _) p = p

-- a front was taken, and one more piece of no more bytes than were asked for
pub took_more : (limit : ℕ) (a b c : StreamView) (before into : List ℕ) (n : ℕ) → Consumes a.bytes b.bytes before → Consumes b.bytes c.bytes (take n into)
    → n ≤ length into → length before + length into ≤ limit → ConsumesUpTo limit a c
took_more limit a b c before into n first second whole room =
    (before ++ take n into, omega (arith, length-append before (take n into), length-take n into), Consumes-trans a.bytes b.bytes c.bytes _ _ first second)

-- what a read gives of the bytes from a place on is a front of them, and nothing only where none are left
pub gave_front : (bytes into : List ℕ) (at n grain before : ℕ) → 1 ≤ grain → length into ≡ before
    → n ≡ min (min (length (take (length bytes - at) (drop at bytes))) before) grain → take n into ≡ take n (take (length bytes - at) (drop at bytes))
    → (drop at bytes ≡ take n into ++ drop (at + n) bytes) × (n ≡ 0 → 0 < length into → drop (at + n) bytes ≡ [])
gave_front bytes into at n grain before some size count same =
    let rest = take_rest bytes at in (
      sym (take-append-drop n (drop at bytes)) ∙ ap (λ xs. xs ++ drop n (drop at bytes)) (sym (same ∙ ap (take n) rest))
          ∙ ap (λ xs. take n into ++ xs) (drop-drop n at bytes),
      λ none room. drop_of_length-le bytes (omega (arith, ap length rest, length-drop at bytes)),
    )
