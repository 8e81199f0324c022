-- A message that leaves a side of a pair, and what it leads to when it is given back.
use Rattle.std.proofs.Common.{◌≡◌, ℕ, ◌<◌, ◌==◌, Bool, true, false, is_some, Option, None, Some, unwrap_or, List, [], ◌∷◌, ◌++◌, drop}
use Rattle.std.proofs.Common.{refl, ap, sym, ◌∙◌, if◌then◌else◌}
use Rattle.std.specs.FinMap as map
use Rattle.std.specs.Prelude.{All, IfOk, Result, Ok, Err}
use Rattle.xc_data.specs.declared.entry.KeptItem.{KeptItem}
use Rattle.xc_data.specs.declared.entry.KeptItem.TheVariants.{Message}
use Rattle.xc_data.specs.declared.object.Num.{Num}
use Rattle.xc_maps.proofs.Laws.{get-insert_same, insert-insert_same, insert-get_same, num_total, num_exact}
use Rattle.xc_world.specs.World.{World, Pair, empty_pair, pair_of, waiting, with_pair, with_waiting}
use Rattle.xc_world.specs.Run.{gives, given_back}
use Rattle.xc_buffers.specs.Items.{is_fit, kept_messages}
use Rattle.xc_buffers.proofs.Laws.{no_message_items, pair_mark, side_front, side_put}
use Rattle.xc_host.specs.Contents.{Contents, with_contents}
use Rattle.xc_host.specs.Pairs.{IsReceivedOf, after_receipt, has_pair, pair_in, received_from}
use Rattle.xc_host.specs.declared.errors.HostErr.{HostErr}
use Rattle.xc_host.specs.declared.pipes.Took.{Took}
use Rattle.xc_host.specs.declared.pipes.Took.TheVariants as took
use Rattle.xc_socket.specs.Receiving.{ReceiptFinds, HasNone, MessageLeaves}
use Rattle.xc_calls.specs.Sides.{IsSame}

-- ---- the sides of a pair
-- a side whose first message left it, with that message in front again
restored : (b : Bool) (q : Pair) (message : List ℕ) (rest : List (List ℕ)) → (if b then q.first else q.second) ≡ message ∷ rest
    → (let less = if b then record q { first = drop 1 (if b then q.first else q.second) }
    else record q { second = drop 1 (if b then q.first else q.second) } in
    if b then record less { first = message ∷ (if b then less.first else less.second) }
    else record less { second = message ∷ (if b then less.first else less.second) }) ≡ q
restored true q message rest e = ap (λ (ms : List (List ℕ)). record q { first = message ∷ drop 1 ms }) e ∙ ap (λ ms. record q { first = ms }) (sym e)
restored false q message rest e = ap (λ (ms : List (List ℕ)). record q { second = message ∷ drop 1 ms }) e ∙ ap (λ ms. record q { second = ms }) (sym e)

pair_there : (c : Contents) (num : Num) → has_pair c num ≡ true → map.get c.pairs num ≡ Some (pair_in c num)
pair_there c num there = by_case (map.get c.pairs num) there
  where
    by_case : (o : Option Pair) → is_some o ≡ true → o ≡ Some (unwrap_or o empty_pair)
    by_case None e = cc
    by_case (Some q) e = refl

-- ---- at the host
module _ (c : Contents) (pair : Num) (side : ℕ) where
  -- what a receipt leaves of the pair
  abbrev less : Pair
  less = with_waiting (pair_in c pair) side (drop 1 (waiting (pair_in c pair) side))

  less_there : (w : World) → pair_of (with_contents w (received_from c pair side)) pair ≡ less
  less_there w = ap (λ o. unwrap_or o empty_pair) (get-insert_same num_total num_exact c.pairs pair less)

  -- the pair is there after it
  pub received_there : has_pair (received_from c pair side) pair ≡ true
  received_there = ap is_some (get-insert_same num_total num_exact c.pairs pair less)

  -- the message, given back
  pub host_back : (w : World) (message : List ℕ) (rest : List (List ℕ)) → has_pair c pair ≡ true → waiting (pair_in c pair) side ≡ message ∷ rest
      → gives (with_contents w (received_from c pair side)) (Message pair side message) ≡ with_contents w c
  host_back w message rest there is =
      let x = with_contents w c in
      let y = with_contents w (received_from c pair side) in
      let q = pair_in c pair in
      ap (λ (r : Pair). with_pair y pair (with_waiting r side (message ∷ waiting r side))) (less_there w)
      ∙ ap (λ (r : Pair). with_pair y pair r) (restored (side == 0) q message rest is)
      ∙ ap (λ m. record x { pairs = m })
      (insert-insert_same num_total num_exact c.pairs pair less q ∙ insert-get_same num_total num_exact c.pairs pair q (pair_there c pair there))

-- ---- with kept items in front, of which none is for the side
module _ (items : List KeptItem) (pair : Num) (side : ℕ) (fit : All (λ t. is_fit t ≡ true) items) (lt : side < 2)
    (none : kept_messages pair side items ≡ []) where
  -- what waits for it is what waits at the host
  waits_there : (x : World) → waiting (pair_of (given_back x items) pair) side ≡ waiting (pair_of x pair) side
  waits_there x = side_front x items pair side fit lt ∙ ap (λ ms. ms ++ waiting (pair_of x pair) side) none

  -- a message for it may be given back before or after them
  pub gives_there : (x : World) (message : List ℕ)
      → given_back (gives x (Message pair side message)) items ≡ gives (given_back x items) (Message pair side message)
  gives_there x message =
      side_put x items pair side (message ∷ waiting (pair_of x pair) side) fit lt (no_message_items items pair side none)
      ∙ ap (λ ms. with_pair (given_back x items) pair (with_waiting (pair_of (given_back x items) pair) side (message ∷ ms))) (sym (waits_there x))

  -- a message of the host's left it
  host_leaves : (c d : Contents) (message : List ℕ) (rest : List (List ℕ)) → has_pair c pair ≡ true → waiting (pair_in c pair) side ≡ message ∷ rest
      → d ≡ received_from c pair side
      → MessageLeaves pair side message (record { old = record { contents = c; items = items }; new = record { contents = d; items = items } })
  host_leaves c d message rest there is did = (
    (λ w.
        ap (λ x. given_back x items) (sym (host_back c pair side w message rest there is))
        ∙ gives_there (with_contents w (received_from c pair side)) message
        ∙ ap (λ x. gives (given_back (with_contents w x) items) (Message pair side message)) (sym did)),
    ap (λ x. has_pair x pair) did ∙ received_there c pair side,
  )

  -- none waits
  host_none : (c d : Contents) (shut : Bool) → waiting (pair_in c pair) side ≡ [] → (pair_in c pair).shut ≡ shut → d ≡ c
      → HasNone pair side shut (record { contents = d; items = items })
  host_none c d shut empty mark same w = (
    ap (λ x. waiting (pair_of (given_back (with_contents w x) items) pair) side) same ∙ waits_there (with_contents w c) ∙ empty,
    ap (λ x. (pair_of (given_back (with_contents w x) items) pair).shut) same ∙ pair_mark (with_contents w c) items pair ∙ mark,
  )

  same_there : (c d : Contents) → d ≡ c → IsSame (record { old = record { contents = c; items = items }; new = record { contents = d; items = items } })
  same_there c d same w = ap (λ x. given_back (with_contents w x) items) (sym same)

  host_found : (c d : Contents) (found : Took) → has_pair c pair ≡ true → IsReceivedOf (pair_in c pair) side found → d ≡ after_receipt pair side found c
      → ReceiptFinds pair side (record { old = record { contents = c; items = items }; new = record { contents = d; items = items } }) found
  host_found c d (took.Bytes message) there (rest, is) did = host_leaves c d message rest there is did
  host_found c d took.Empty there (empty, mark) same = (same_there c d same, host_none c d false empty mark same)
  host_found c d took.End there (empty, mark) same = (same_there c d same, host_none c d true empty mark same)

  -- what the host found for it
  pub host_finds : (c d : Contents) (result : Result Took HostErr) → has_pair c pair ≡ true → IfOk result (IsReceivedOf (pair_in c pair) side)
      → IfOk result (λ found. d ≡ after_receipt pair side found c)
      → IfOk result (ReceiptFinds pair side (record { old = record { contents = c; items = items }; new = record { contents = d; items = items } }))
  host_finds c d (Ok found) there is did = host_found c d found there is did
  host_finds c d (Err e) there is did = tt
