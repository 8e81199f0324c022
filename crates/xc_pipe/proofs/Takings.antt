-- Bytes that are taken from a pipe, piece by piece, and what they lead to when they are given back.
use Rattle.std.proofs.Common.{◌≡◌, ℕ, ◌≤◌, ◌<◌, Bool, true, is_some, Option, None, Some, unwrap_or, List, [], ◌∷◌, ◌++◌, length}
use Rattle.std.proofs.Common.{zero, suc, take, drop, refl, ap, sym, ◌∙◌, arith, append-nil, if◌then◌else◌}
use Rattle.std.proofs.Math.Dec.{eqb-suc-zero}
use Rattle.std.proofs.lemmas.List.{take-append-drop}
use Rattle.std.specs.FinMap as map
use Rattle.std.specs.Prelude.{IfOk, OnErr, Result, Ok, Err}
use Rattle.xc_data.specs.Step.{Step}
use Rattle.xc_data.specs.declared.entry.KeptItem.{KeptItem}
use Rattle.xc_data.specs.declared.entry.KeptItem.TheVariants.{Bytes}
use Rattle.xc_data.specs.declared.object.Num.{Num}
use Rattle.xc_maps.proofs.Laws.{get-insert_same, insert-insert_same, insert-get_same, num_total, num_exact}
use Rattle.xc_world.specs.World.{World, Pipe, pipe_of, with_pipe, empty_pipe}
use Rattle.xc_world.specs.Run.{gives, given_back}
use Rattle.xc_buffers.specs.Items.{kept_bytes}
use Rattle.xc_buffers.specs.Worlds.{with_front}
use Rattle.xc_buffers.proofs.Laws.{pipe_front, pipe_put, gives_joined}
use Rattle.xc_host.specs.Contents.{Contents, with_contents}
use Rattle.xc_host.specs.Pipes.{has_pipe, pipe_in, taken_from}
use Rattle.xc_host.specs.declared.errors.HostErr.{HostErr}
use Rattle.xc_host.specs.declared.pipes.Took.{Took}
use Rattle.xc_host.specs.declared.pipes.Took.TheVariants as took
use Rattle.xc_pipe.specs.Reading.{ReadFinds, GivesSameWorld}
use Rattle.xc_calls.specs.Sides.{Sides}
use Rattle.xc_calls.specs.Taking.{bytes_back}

-- some bytes are given back as one item
back_cons : (pipe : Num) (b : ℕ) (bs : List ℕ) → bytes_back pipe (b ∷ bs) ≡ Bytes pipe (b ∷ bs) ∷ []
back_cons pipe b bs = ap (λ (e : Bool). if e then [] else Bytes pipe (b ∷ bs) ∷ []) (eqb-suc-zero (length bs))

-- the same of bytes that are some
pub back_some : (pipe : Num) (bytes : List ℕ) → 1 ≤ length bytes → bytes_back pipe bytes ≡ Bytes pipe bytes ∷ []
back_some pipe [] some = absurd (omega (arith, some))
back_some pipe (b ∷ bs) some = back_cons pipe b bs

-- two fronts are given back one after another, the second first
pub joined_back : (x : World) (pipe : Num) (a b : List ℕ)
    → given_back x (bytes_back pipe (a ++ b)) ≡ given_back (given_back x (bytes_back pipe b)) (bytes_back pipe a)
joined_back x pipe [] b = refl
joined_back x pipe (a ∷ more) [] = ap (λ bytes. given_back x (bytes_back pipe (a ∷ bytes))) (append-nil more)
joined_back x pipe (a ∷ more) (b ∷ bs) =
    ap (given_back x) (back_cons pipe a (more ++ b ∷ bs)) ∙ gives_joined x pipe (a ∷ more) (b ∷ bs)
    ∙ ap (λ items. gives (given_back x items) (Bytes pipe (a ∷ more))) (sym (back_cons pipe b bs))
    ∙ ap (given_back (given_back x (bytes_back pipe (b ∷ bs)))) (sym (back_cons pipe a more))

-- what was given back piece by piece leads to what was there
pub given_joined : (old mid new : List KeptItem) (pipe : Num) (front more : List ℕ)
    → ((w : World) → given_back w mid ≡ given_back (given_back w old) (bytes_back pipe more))
    → ((w : World) → given_back w new ≡ given_back (given_back w mid) (bytes_back pipe front))
    → (w : World) → given_back w new ≡ given_back (given_back w old) (bytes_back pipe (front ++ more))
given_joined old mid new pipe front more first second w =
    second w ∙ ap (λ x. given_back x (bytes_back pipe front)) (first w) ∙ sym (joined_back (given_back w old) pipe front more)

-- a piece more was taken
pub taken_joined : (old mid new : List KeptItem) (pipe : Num) (front more : List ℕ) → 1 ≤ length more
    → ((w : World) → given_back w old ≡ given_back (given_back w mid) (bytes_back pipe front))
    → ((w : World) → given_back w mid ≡ gives (given_back w new) (Bytes pipe more))
    → (w : World) → given_back w old ≡ given_back (given_back w new) (bytes_back pipe (front ++ more))
taken_joined old mid new pipe front more some first second w =
    first w ∙ ap (λ x. given_back x (bytes_back pipe front)) (second w ∙ ap (given_back (given_back w new)) (sym (back_some pipe more some)))
    ∙ sym (joined_back (given_back w new) pipe front more)

-- ---- at the host
pipe_there : (c : Contents) (pipe : Num) → has_pipe c pipe ≡ true → map.get c.pipes pipe ≡ Some (pipe_in c pipe)
pipe_there c pipe there = by_case (map.get c.pipes pipe) there
  where
    by_case : (o : Option Pipe) → is_some o ≡ true → o ≡ Some (unwrap_or o empty_pipe)
    by_case None e = cc
    by_case (Some p) e = refl

-- bytes that left a pipe of the host, given back
pub host_back : (w : World) (c : Contents) (pipe : Num) (more : List ℕ) → has_pipe c pipe ≡ true → more ≡ take (length more) (pipe_in c pipe).held
    → gives (with_contents w (taken_from c pipe (length more))) (Bytes pipe more) ≡ with_contents w c
host_back w c pipe more there is =
    let x = with_contents w c in
    let p = pipe_in c pipe in
    let q : Pipe = record p { held = drop (length more) p.held } in
    let y = with_pipe x pipe q in
    let now : pipe_of y pipe ≡ q = ap (λ o. unwrap_or o empty_pipe) (get-insert_same num_total num_exact c.pipes pipe q) in
    let whole : more ++ drop (length more) p.held ≡ p.held = ap (λ bytes. bytes ++ drop (length more) p.held) is ∙ take-append-drop (length more) p.held in
    ap (λ r. with_pipe y pipe (with_front more r)) now ∙ ap (λ held. with_pipe y pipe (record p { held = held })) whole
    ∙ ap (λ m. record x { pipes = m })
    (insert-insert_same num_total num_exact c.pipes pipe q p ∙ insert-get_same num_total num_exact c.pipes pipe p (pipe_there c pipe there))

-- the same with kept items in front, of which none is of the pipe
pub host_taken : (w : World) (c : Contents) (items : List KeptItem) (pipe : Num) (more : List ℕ) → has_pipe c pipe ≡ true → kept_bytes pipe items ≡ []
    → 1 ≤ length more → more ≡ take (length more) (pipe_in c pipe).held
    → given_back (with_contents w c) items ≡ given_back (given_back (with_contents w (taken_from c pipe (length more))) items) (bytes_back pipe more)
host_taken w c items pipe more there none some is =
    let y = with_contents w (taken_from c pipe (length more)) in
    let same : pipe_of (given_back y items) pipe ≡ pipe_of y pipe = pipe_front y items pipe ∙ ap (λ bytes. with_front bytes (pipe_of y pipe)) none in
    ap (λ x. given_back x items) (sym (host_back w c pipe more there is)) ∙ pipe_put y items pipe (with_front more (pipe_of y pipe)) none
    ∙ ap (λ p. with_pipe (given_back y items) pipe (with_front more p)) (sym same)
    ∙ ap (given_back (given_back y items)) (sym (back_some pipe more some))

-- a piece more was taken at the host
pub rest_joined : (pipe : Num) (front so_far more : List ℕ) (was c d : Contents) (old items : List KeptItem)
    → GivesSameWorld pipe front so_far (record { old = record { contents = was; items = old }; new = record { contents = c; items = items } })
    → has_pipe c pipe ≡ true → kept_bytes pipe items ≡ [] → 1 ≤ length more → more ≡ take (length more) (pipe_in c pipe).held
    → d ≡ taken_from c pipe (length more)
    → GivesSameWorld pipe front (so_far ++ more) (record { old = record { contents = was; items = old }; new = record { contents = d; items = items } })
rest_joined pipe front so_far more was c d old items leads there none some is did w =
    leads w ∙ ap (λ x. given_back x (bytes_back pipe so_far)) (host_taken w c items pipe more there none some is)
    ∙ sym (joined_back (given_back (with_contents w (taken_from c pipe (length more))) items) pipe so_far more)
    ∙ ap (λ x. given_back (given_back (with_contents w x) items) (bytes_back pipe (so_far ++ more))) (sym did)

-- ---- where no more is there
-- a take that failed leaves what was taken before it
pub fails_back : (pipe : Num) (front so_far : List ℕ) (was c d : Contents) (old items new : List KeptItem)
    → GivesSameWorld pipe front so_far (record { old = record { contents = was; items = old }; new = record { contents = c; items = items } })
    → d ≡ c → ((w : World) → given_back w new ≡ given_back (given_back w items) (bytes_back pipe so_far))
    → GivesSameWorld pipe front [] (record { old = record { contents = was; items = old }; new = record { contents = d; items = new } })
fails_back pipe front so_far was c d old items new leads same given w =
    leads w ∙ sym (given (with_contents w c)) ∙ ap (λ x. given_back (with_contents w x) new) (sym same)

-- the pipe is there after a take
pub taken_there : (c d : Contents) (pipe : Num) (m : ℕ) → d ≡ taken_from c pipe m → has_pipe d pipe ≡ true
taken_there c d pipe m did =
    let p = pipe_in c pipe in
    ap (λ x. has_pipe x pipe) did ∙ ap is_some (get-insert_same num_total num_exact c.pipes pipe (record p { held = drop m p.held }))

-- ---- kept bytes, and what the host has after them
module _ (c d : Contents) (was kept new : List KeptItem) (pipe : Num) (front : List ℕ)
    (taken : (w : World) → given_back w was ≡ given_back (given_back w kept) (bytes_back pipe front)) where
  abbrev from_kept : Step Sides
  from_kept = record { old = record { contents = c; items = kept }; new = record { contents = d; items = new } }

  abbrev from_all : Step Sides
  from_all = record { old = record { contents = c; items = was }; new = record { contents = d; items = new } }

  -- what the takes after kept bytes lead to is what all lead to
  pub all_leads : (bytes : List ℕ) → GivesSameWorld pipe front bytes from_kept → GivesSameWorld pipe [] bytes from_all
  all_leads bytes leads w = taken (with_contents w c) ∙ leads w

  finds_all : (n : ℕ) (found : Took) → ReadFinds pipe n front from_kept found → ReadFinds pipe n [] from_all found
  finds_all n (took.Bytes bytes) (leads, there, drained) = (all_leads bytes leads, there, drained)
  finds_all n took.Empty (leads, drained, shut) = (all_leads [] leads, drained, shut)
  finds_all n took.End (leads, drained, shut) = (all_leads [] leads, drained, shut)

  -- so is what they find
  pub all_found : (n : ℕ) (result : Result Took HostErr) → IfOk result (ReadFinds pipe n front from_kept) → IfOk result (ReadFinds pipe n [] from_all)
  all_found n (Ok found) finds = finds_all n found finds
  all_found n (Err e) finds = tt

  -- and what a failed one leaves
  pub all_failed : (result : Result Took HostErr) → OnErr result (GivesSameWorld pipe front [] from_kept) → OnErr result (GivesSameWorld pipe [] [] from_all)
  all_failed (Ok found) leads = tt
  all_failed (Err e) leads = all_leads [] leads

-- where a front of some bytes is empty, there are none
pub no_bytes_taken : (n : ℕ) (bytes : List ℕ) → 0 < n → take n bytes ≡ [] → bytes ≡ []
no_bytes_taken n [] some none = refl
no_bytes_taken zero (b ∷ bytes) some none = absurd (omega (arith, some))
no_bytes_taken (suc n) (b ∷ bytes) some none = absurd (cc none)
