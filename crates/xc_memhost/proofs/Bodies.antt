-- Objects that are opened line by line, and a file, a pipe or a pair that is taken out, changed and put back.
use Rattle.std.proofs.Common.{◌≡◌, ℕ, Bool, true, false, List, [], ◌∷◌, drop, Some, refl, ap, sym, subst, ◌∙◌}
use Rattle.std.specs.Prelude.{◌==◌, if◌then◌else◌, unwrap_or}
use Rattle.std.specs.FinMap as map
use Rattle.xc_data.specs.declared.object.Num.{Num}
use Rattle.xc_data.specs.declared.script.Opened.{Opened}
use Rattle.xc_data.specs.declared.script.Opened.TheVariants as opened
use Rattle.xc_maps.specs.Keys.{num_cmp}
use Rattle.xc_maps.proofs.Laws.{insert-insert_same, insert-get_same, num_total, num_exact}
use Rattle.xc_world.specs.Opening.{with_opened}
use Rattle.xc_world.specs.World.{Pipe, Pair, empty_pipe, empty_pair, pair_of, waiting}
use Rattle.xc_host.specs.Contents.{Contents, file_in, world_of, contents_of}
use Rattle.xc_host.specs.Pairs.{IsReceivedOf, after_receipt}
use Rattle.xc_host.specs.Pipes.{pipe_in}
use Rattle.xc_host.specs.declared.pipes.Took.{Took}
use Rattle.xc_host.specs.declared.pipes.Took.TheVariants as took
use Rattle.xc_memhost.specs.Pairs.{first_message, message_took, received_of, pair_without_first}

-- a line opens nothing but contents
pub opens_contents : (c : Contents) (num : Num) (o : Opened) → with_opened (world_of c) num o ≡ world_of (contents_of (with_opened (world_of c) num o))
opens_contents c num (opened.File name bytes) = refl
opens_contents c num (opened.Pipe bytes) = refl
opens_contents c num opened.Pair = refl

-- a file's body is taken out, changed and put back
pub changed_back : (f : List ℕ → List ℕ) (c : Contents) (file : Num) (body empty next : List ℕ) (without with_it : map.FinMap num_cmp (List ℕ))
    → Some body ≡ map.get c.files file → without ≡ map.insert c.files file empty → next ≡ f body → with_it ≡ map.insert without file next
    → record c { files = with_it } ≡ record c { files = map.insert c.files file (f (file_in c file)) }
changed_back f c file body empty next without with_it held taken over put =
    ap (λ m. record c { files = m })
    (put ∙ ap (λ m. map.insert m file next) taken ∙ insert-insert_same num_total num_exact c.files file empty next
    ∙ ap (map.insert c.files file) (over ∙ ap (λ o. f (unwrap_or o [])) held))

-- a file's body is taken out and put back as it was
pub same_back : (c : Contents) (file : Num) (body empty next : List ℕ) (without with_it : map.FinMap num_cmp (List ℕ))
    → Some body ≡ map.get c.files file → without ≡ map.insert c.files file empty → next ≡ body → with_it ≡ map.insert without file next
    → record c { files = with_it } ≡ c
same_back c file body empty next without with_it held taken same put =
    ap (λ m. record c { files = m })
    (put ∙ ap (λ m. map.insert m file next) taken ∙ insert-insert_same num_total num_exact c.files file empty next
    ∙ ap (map.insert c.files file) same ∙ insert-get_same num_total num_exact c.files file body (sym held))

-- ---- the same of a pipe and of a pair
-- a pipe's body is taken out, changed and put back
pub pipe_changed : (f : Pipe → Pipe) (c : Contents) (num : Num) (body empty next : Pipe) (without with_it : map.FinMap num_cmp Pipe)
    → Some body ≡ map.get c.pipes num → without ≡ map.insert c.pipes num empty → next ≡ f body → with_it ≡ map.insert without num next
    → record c { pipes = with_it } ≡ record c { pipes = map.insert c.pipes num (f (pipe_in c num)) }
pipe_changed f c num body empty next without with_it held taken over put =
    ap (λ m. record c { pipes = m })
    (put ∙ ap (λ m. map.insert m num next) taken ∙ insert-insert_same num_total num_exact c.pipes num empty next
    ∙ ap (map.insert c.pipes num) (over ∙ ap (λ o. f (unwrap_or o empty_pipe)) held))

-- a pipe's body is taken out and put back as it was
pub pipe_same : (c : Contents) (num : Num) (body empty next : Pipe) (without with_it : map.FinMap num_cmp Pipe)
    → Some body ≡ map.get c.pipes num → without ≡ map.insert c.pipes num empty → next ≡ body → with_it ≡ map.insert without num next
    → record c { pipes = with_it } ≡ c
pipe_same c num body empty next without with_it held taken same put =
    ap (λ m. record c { pipes = m })
    (put ∙ ap (λ m. map.insert m num next) taken ∙ insert-insert_same num_total num_exact c.pipes num empty next
    ∙ ap (map.insert c.pipes num) same ∙ insert-get_same num_total num_exact c.pipes num body (sym held))

-- a pair's body is taken out, changed and put back
pub pair_changed : (f : Pair → Pair) (c : Contents) (num : Num) (body empty next : Pair) (without with_it : map.FinMap num_cmp Pair)
    → Some body ≡ map.get c.pairs num → without ≡ map.insert c.pairs num empty → next ≡ f body → with_it ≡ map.insert without num next
    → record c { pairs = with_it } ≡ record c { pairs = map.insert c.pairs num (f (pair_of (world_of c) num)) }
pair_changed f c num body empty next without with_it held taken over put =
    ap (λ m. record c { pairs = m })
    (put ∙ ap (λ m. map.insert m num next) taken ∙ insert-insert_same num_total num_exact c.pairs num empty next
    ∙ ap (map.insert c.pairs num) (over ∙ ap (λ o. f (unwrap_or o empty_pair)) held))

-- a pair's body is taken out and put back as it was
pub pair_same : (c : Contents) (num : Num) (body empty next : Pair) (without with_it : map.FinMap num_cmp Pair)
    → Some body ≡ map.get c.pairs num → without ≡ map.insert c.pairs num empty → next ≡ body → with_it ≡ map.insert without num next
    → record c { pairs = with_it } ≡ c
pair_same c num body empty next without with_it held taken same put =
    ap (λ m. record c { pairs = m })
    (put ∙ ap (λ m. map.insert m num next) taken ∙ insert-insert_same num_total num_exact c.pairs num empty next
    ∙ ap (map.insert c.pairs num) same ∙ insert-get_same num_total num_exact c.pairs num body (sym held))

-- ---- the first message that waits for a side of a pair
-- it is what a receipt gives
first_is : (pair : Pair) (side : ℕ) (messages : List (List ℕ)) (shut : Bool) → waiting pair side ≡ messages → pair.shut ≡ shut
    → IsReceivedOf pair side (message_took shut (first_message messages))
first_is pair side [] false none how = (none, how)
first_is pair side [] true none how = (none, how)
first_is pair side (message ∷ messages) shut is how = (messages, is)

-- so is what a host in memory takes
pub received_is : (pair : Pair) (side : ℕ) (took : Took) → took ≡ received_of pair side → IsReceivedOf pair side took
received_is pair side took is = subst (IsReceivedOf pair side) (sym is) (first_is pair side (waiting pair side) pair.shut refl refl)

-- where none waits, none leaves; the side is 0 or it isn't
none_leaves_by : (pair : Pair) (is_first : Bool) → (if is_first then pair.first else pair.second) ≡ []
    → (if is_first then record pair { first = drop 1 (if is_first then pair.first else pair.second) }
    else record pair { second = drop 1 (if is_first then pair.first else pair.second) })
    ≡ pair
none_leaves_by pair true none = ap (λ m. record pair { first = m }) (ap (drop 1) none ∙ sym none)
none_leaves_by pair false none = ap (λ m. record pair { second = m }) (ap (drop 1) none ∙ sym none)

none_leaves : (pair : Pair) (side : ℕ) → waiting pair side ≡ [] → pair_without_first pair side ≡ pair
none_leaves pair side none = none_leaves_by pair (side == 0) none

-- a pair's body is taken out, its first message leaves it, and it is put back
pub pair_received : (c : Contents) (num : Num) (side : ℕ) (took : Took) (body empty next : Pair) (without with_it : map.FinMap num_cmp Pair)
    → Some body ≡ map.get c.pairs num → without ≡ map.insert c.pairs num empty → took ≡ received_of body side
    → next ≡ pair_without_first body side → with_it ≡ map.insert without num next
    → record c { pairs = with_it } ≡ after_receipt num side took c
pair_received c num side (took.Bytes message) body empty next without with_it held taken is rest put =
    pair_changed (λ p. pair_without_first p side) c num body empty next without with_it held taken rest put
pair_received c num side took.Empty body empty next without with_it held taken is rest put =
    pair_same c num body empty next without with_it held taken
    (rest ∙ none_leaves body side (received_is body side took.Empty is).0) put
pair_received c num side took.End body empty next without with_it held taken is rest put =
    pair_same c num body empty next without with_it held taken (rest ∙ none_leaves body side (received_is body side took.End is).0) put
