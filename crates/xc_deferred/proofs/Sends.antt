-- A message that is sent, at a host with kept items in front of what it holds.
use Rattle.std.proofs.Common.{◌≡◌, ℕ, ◌+◌, ◌<◌, ◌==◌, Bool, true, false, List, [], ◌∷◌, length, refl, ap, sym, ◌∙◌, subst, arith, length-append}
use Rattle.std.specs.Prelude.{All, nat_le, if◌then◌else◌, Err}
use Rattle.xc_data.specs.Counts.{CountsFault}
use Rattle.xc_data.specs.declared.call.LateCall.TheVariants.{Send}
use Rattle.xc_data.specs.declared.call.LateEnd.{LateEnd}
use Rattle.xc_data.specs.declared.call.LateEnd.TheVariants as end
use Rattle.xc_data.specs.declared.entry.KeptItem.{KeptItem}
use Rattle.xc_data.specs.declared.object.Num.{Num}
use Rattle.xc_data.specs.declared.script.HostCallKind.TheVariants as kind
use Rattle.xc_world.specs.World.{World, other_side, pair_of, waiting, with_pair}
use Rattle.xc_world.specs.Late.{ends, sent, sent_to}
use Rattle.xc_world.specs.Run.{given_back}
use Rattle.xc_host.specs.Cause.{is_fault}
use Rattle.xc_host.specs.Contents.{Contents, with_contents}
use Rattle.xc_host.specs.Fronted.{before, fronted}
use Rattle.xc_host.specs.Kept.{with_kept}
use Rattle.xc_host.specs.Model.{HostModel, IsUsed}
use Rattle.xc_host.specs.Pairs.{pair_in, sent_from, side_state}
use Rattle.xc_host.specs.Uses.{Uses, SendsFor, LatesFor}
use Rattle.xc_host.specs.declared.errors.HostErr.{HostErr}
use Rattle.xc_host.specs.declared.pipes.HostState.{HostState}
use Rattle.xc_host.proofs.Laws.{used_then}
use Rattle.xc_buffers.specs.Items.{is_fit, kept_messages}
use Rattle.xc_buffers.proofs.Laws.{pair_mark, sent_stays, side_front}
use Rattle.xc_deferred.specs.Does.{EndsAsPlain}
use Rattle.xc_deferred.proofs.Lifted.{if_false, if_true, uses_fronted, world_with}

-- the other side is one of the two
pub other_below : (side : ℕ) → other_side side < 2
other_below side = by_test (side == 0)
  where
    by_test : (b : Bool) → (if b then 1 else 0) < 2
    by_test true = omega arith
    by_test false = omega arith

module _ (c d : Contents) (pair : Num) (side : ℕ) (bytes : List ℕ) (items : List KeptItem) where
  -- a world with the host's contents, to which the kept items are given back
  abbrev whole : World → World
  whole w = given_back (with_contents w c) items

  mark_there : (w : World) (b : Bool) → (pair_in c pair).shut ≡ b → (pair_of (whole w) pair).shut ≡ b
  mark_there w b e = pair_mark (with_contents w c) items pair ∙ e

  -- how many messages wait for the other side
  count_there : (w : World) → All (λ t. is_fit t ≡ true) items
      → length (waiting (pair_of (whole w) pair) (other_side side))
      ≡ length (kept_messages pair (other_side side) items) + length (waiting (pair_in c pair) (other_side side))
  count_there w fit =
      ap (λ (ms : List (List ℕ)). length ms) (side_front (with_contents w c) items pair (other_side side) fit (other_below side))
      ∙ length-append (kept_messages pair (other_side side) items) (waiting (pair_in c pair) (other_side side))

  -- the worlds before and after it
  sent_kept : (w : World) → d ≡ sent_from c pair side bytes
      → with_pair (whole w) pair (sent_to (pair_of (whole w) pair) (other_side side) bytes) ≡ with_contents w (with_kept d items)
  sent_kept w did =
      sym (world_with w d items ∙ ap (λ x. given_back (with_contents w x) items) did
      ∙ sent_stays (with_contents w c) items pair (other_side side) bytes)

  same_world : (w : World) → d ≡ c → whole w ≡ with_contents w (with_kept d items)
  same_world w same = sym (world_with w c items) ∙ ap (λ x. with_contents w (with_kept x items)) (sym same)

  -- into a pair that is shut
  pub shut_sent : d ≡ c → (pair_in c pair).shut ≡ true → EndsAsPlain (with_kept c items) (with_kept d items) (Send pair side bytes) end.Shut
  shut_sent same shut = record {
    fits = refl;
    step = λ w.
        ap (λ v. sent v pair side bytes) (world_with w c items) ∙ if_true (pair_of (whole w) pair).shut _ _ (mark_there w true shut)
        ∙ ap (λ v. ends v end.Shut) (same_world w same);
  }

  module _ (fit : All (λ t. is_fit t ≡ true) items) (mark : (pair_in c pair).shut ≡ false) where
    abbrev is_full : Bool
    is_full = nat_le 8 (length (kept_messages pair (other_side side) items) + length (waiting (pair_in c pair) (other_side side)))

    full_there : (w : World) (b : Bool) → is_full ≡ b → nat_le 8 (length (waiting (pair_of (whole w) pair) (other_side side))) ≡ b
    full_there w b e = ap (λ n. nat_le 8 n) (count_there w fit) ∙ e

    -- to a side that is full
    pub full_sent : d ≡ c → is_full ≡ true → EndsAsPlain (with_kept c items) (with_kept d items) (Send pair side bytes) (end.Full 0)
    full_sent same full = record {
      fits = refl;
      step = λ w.
          ap (λ v. sent v pair side bytes) (world_with w c items) ∙ if_false (pair_of (whole w) pair).shut _ _ (mark_there w false mark)
          ∙ if_true (nat_le 8 (length (waiting (pair_of (whole w) pair) (other_side side)))) _ _ (full_there w true full)
          ∙ ap (λ v. ends v (end.Full 0)) (same_world w same);
    }

    -- to one that isn't
    pub message_sent : d ≡ sent_from c pair side bytes → is_full ≡ false
        → EndsAsPlain (with_kept c items) (with_kept d items) (Send pair side bytes) end.Done
    message_sent did few = record {
      fits = refl;
      step = λ w.
          ap (λ v. sent v pair side bytes) (world_with w c items) ∙ if_false (pair_of (whole w) pair).shut _ _ (mark_there w false mark)
          ∙ if_false (nat_le 8 (length (waiting (pair_of (whole w) pair) (other_side side)))) _ _ (full_there w false few)
          ∙ ap (λ v. ends v end.Done) (sent_kept w did);
    }

-- whether that side is full, as the host told of it
pub told_full : (c : Contents) (pair : Num) (side receiver : ℕ) (items : List KeptItem) (state : HostState) (full b : Bool) → receiver ≡ other_side side
    → state ≡ side_state (pair_in c pair) receiver → full ≡ nat_le 8 (length (kept_messages pair receiver items) + state.held) → full ≡ b
    → nat_le 8 (length (kept_messages pair (other_side side) items) + length (waiting (pair_in c pair) (other_side side))) ≡ b
told_full c pair side receiver items state full b across told is e =
    sym (is
    ∙ ap (λ (s : HostState). nat_le 8 (length (kept_messages pair receiver items) + s.held)) told
    ∙ ap (λ (r : ℕ). nat_le 8 (length (kept_messages pair r items) + length (waiting (pair_in c pair) r))) across)
    ∙ e

-- a failure after a look that counted no fault
pub failed_then : (e f : HostErr) (a b c : ℕ) → e ≡ f → b ≡ a → CountsFault (is_fault {T = Unit {0}} (Err e)) b c
    → CountsFault (is_fault {T = Unit {0}} (Err f)) a c
failed_then e f a b c same still counted =
    subst (λ v. CountsFault (is_fault {T = Unit {0}} (Err v)) a c) same
    (subst (λ n. CountsFault (is_fault {T = Unit {0}} (Err e)) n c) still counted)

-- ---- which calls it makes
module _ {H : Type 0} (model : HostModel H) (items : List KeptItem) (pair : Num) (side : ℕ) (bytes : List ℕ) (e : LateEnd) where
  -- a look at the other side alone
  pub looks_only : (a b : H) → SendsFor e (kind.PairState ∷ []) → IsUsed model (kind.PairState ∷ []) (record { old = a; new = b })
      → Uses (fronted model) (record { old = before a items; new = before b items }) (LatesFor (Send pair side bytes) e)
  looks_only a b named looked = uses_fronted model items a b (record { made = kind.PairState ∷ []; named = named; used = looked })

  -- and the sending after it
  pub looks_and_sends : (a b c : H) → SendsFor e (kind.PairState ∷ kind.Send ∷ [])
      → IsUsed model (kind.PairState ∷ []) (record { old = a; new = b }) → IsUsed model (kind.Send ∷ []) (record { old = b; new = c })
      → Uses (fronted model) (record { old = before a items; new = before c items }) (LatesFor (Send pair side bytes) e)
  looks_and_sends a b c named looked sends =
      uses_fronted model items a c
      (record {
        made = kind.PairState ∷ kind.Send ∷ [];
        named = named;
        used = used_then model (kind.PairState ∷ []) (kind.Send ∷ []) a b c looked sends;
      })
