-- What is given back in a world goes together with changes elsewhere, and with changes after it.
use Rattle.std.proofs.Common.{◌≡◌, ℕ, ◌<◌, ◌==◌, Bool, true, false, Option, Some, unwrap_or, List, [], ◌∷◌, refl, ap, sym, ◌∙◌, arith}
use Rattle.std.specs.Prelude.{All, if◌then◌else◌}
use Rattle.std.specs.Ordering.{nat_cmp, ordering_then, is_eq, eq_by_cmp}
use Rattle.std.specs.declared.cmp.Ordering.{Ordering}
use Rattle.std.specs.declared.cmp.Ordering.TheVariants.{Less, Equal, Greater}
use Rattle.std.proofs.lemmas.Cmp.{tied_itself}
use Rattle.std.specs.Cmp.{nat_cmp_total}
use Rattle.std.proofs.lemmas.List.Elements.{All-head, All-tail}
use Rattle.xc_data.specs.declared.entry.KeptItem.{KeptItem}
use Rattle.xc_data.specs.declared.entry.KeptItem.TheVariants.{Bytes, Message}
use Rattle.xc_data.specs.declared.object.Num.{Num}
use Rattle.xc_maps.specs.Keys.{num_cmp}
use Rattle.xc_world.specs.World.{World, Pipe, Pair, waiting, with_waiting, empty_pipe, empty_pair}
use Rattle.xc_world.specs.Run.{gives, given_back}
use Rattle.xc_buffers.specs.Sources.{source_of, is_from}
use Rattle.xc_buffers.specs.Items.{is_fit}
use Rattle.xc_buffers.specs.Worlds.{with_front}
use Rattle.xc_buffers.proofs.Turns.{change, change_apart}

-- ---- lists of items

-- an item may be given back before or after a change
abbrev pub Commutes : (World → World) → KeptItem → Type 0
Commutes change t = (x : World) → gives (change x) t ≡ change (gives x t)

-- so may a list of such items
pub given_passes : (change : World → World) (items : List KeptItem) → All (Commutes change) items → (w : World)
    → given_back (change w) items ≡ change (given_back w items)
given_passes change [] all w = refl
given_passes change (t ∷ items) all w =
    ap (λ x. gives x t) (given_passes change items (All-tail (Commutes change) t items all) w) ∙ All-head (Commutes change) t items all (given_back w items)

-- ---- changes of one pipe
-- with bytes in front
abbrev pub pipe_fronted : List ℕ → Option Pipe → Pipe
pipe_fronted bytes found = with_front bytes (unwrap_or found empty_pipe)

-- an item of this pipe may be given back before or after a change of it
abbrev pub PipeAlike : Num → (Option Pipe → Pipe) → KeptItem → Type 0
PipeAlike num f (Bytes pipe bytes) =
    eq_by_cmp num_cmp num pipe ≡ true → (found : Option Pipe) → pipe_fronted bytes (Some (f found)) ≡ f (Some (pipe_fronted bytes found))
PipeAlike num f (Message pair side bytes) = Unit {0}

-- the world with one pipe changed
abbrev pub turn_pipe : Num → (Option Pipe → Pipe) → World → World
turn_pipe num f x = record x { pipes = change x.pipes num f }

-- then so may every item
pub pipe_passes : (num : Num) (f : Option Pipe → Pipe) (t : KeptItem) → PipeAlike num f t → Commutes (turn_pipe num f) t
pipe_passes num f (Bytes pipe bytes) alike x = ap (λ m. record x { pipes = m }) (change_apart x.pipes num pipe f (pipe_fronted bytes) alike)
pipe_passes num f (Message pair side bytes) alike x = refl

-- ---- changes of one pair
-- the messages for a side become others
abbrev pub pair_turned : ℕ → (List (List ℕ) → List (List ℕ)) → Pair → Pair
pair_turned side g pair = with_waiting pair side (g (waiting pair side))

-- with a message in front
abbrev pub firsted : ℕ → List ℕ → Option Pair → Pair
firsted side message found = pair_turned side (λ ms. message ∷ ms) (unwrap_or found empty_pair)

-- an item of this pair may be given back before or after a change of it
abbrev pub PairAlike : Num → (Option Pair → Pair) → KeptItem → Type 0
PairAlike num f (Message pair side bytes) =
    eq_by_cmp num_cmp num pair ≡ true → (found : Option Pair) → firsted side bytes (Some (f found)) ≡ f (Some (firsted side bytes found))
PairAlike num f (Bytes pipe bytes) = Unit {0}

-- the world with one pair changed
abbrev pub turn_pair : Num → (Option Pair → Pair) → World → World
turn_pair num f x = record x { pairs = change x.pairs num f }

-- then so may every item
pub pair_passes : (num : Num) (f : Option Pair → Pair) (t : KeptItem) → PairAlike num f t → Commutes (turn_pair num f) t
pair_passes num f (Message pair side bytes) alike x = ap (λ m. record x { pairs = m }) (change_apart x.pairs num pair f (firsted side bytes) alike)
pair_passes num f (Bytes pipe bytes) alike x = refl

-- ---- the sides of a pair
abbrev turn_at : Bool → (List (List ℕ) → List (List ℕ)) → Pair → Pair
turn_at b g q = if b then record q { first = g (if b then q.first else q.second) } else record q { second = g (if b then q.first else q.second) }

turns_apart : (b c : Bool) (g h : List (List ℕ) → List (List ℕ)) → (b ≡ c → (ms : List (List ℕ)) → g (h ms) ≡ h (g ms)) → (q : Pair)
    → turn_at b g (turn_at c h q) ≡ turn_at c h (turn_at b g q)
turns_apart true true g h same q = ap (λ ms. record q { first = ms }) (same refl q.first)
turns_apart true false g h same q = refl
turns_apart false true g h same q = refl
turns_apart false false g h same q = ap (λ ms. record q { second = ms }) (same refl q.second)

-- changes of the messages for two sides go in either order, and for one side where they do
pub turned_apart : (s t : ℕ) (g h : List (List ℕ) → List (List ℕ)) → ((s == 0) ≡ (t == 0) → (ms : List (List ℕ)) → g (h ms) ≡ h (g ms)) → (q : Pair)
    → pair_turned s g (pair_turned t h q) ≡ pair_turned t h (pair_turned s g q)
turned_apart s t g h same q = turns_apart (s == 0) (t == 0) g h same q

-- ---- items of other sources
side_order : (r : Ordering) (b : Ordering) → is_eq r ≡ true → is_eq (ordering_then r b) ≡ is_eq b
side_order Less b e = cc
side_order Equal b e = refl
side_order Greater b e = cc

-- sides of which each is 0 or 1 are one where both are 0 or neither is
pub same_side : (s t : ℕ) → s < 2 → t < 2 → (s == 0) ≡ (t == 0) → s ≡ t
same_side s t a b e = grind arith

-- two messages of one pair and of two sources are for two sides
pub apart_sides : (num pair : Num) (s t : ℕ) → s < 2 → t < 2 → eq_by_cmp num_cmp num pair ≡ true
    → is_eq (ordering_then (num_cmp num pair) (nat_cmp s t)) ≡ false → (s == 0) ≡ (t == 0) → ⊥
apart_sides num pair s t a b one apart same =
    let tie : is_eq (nat_cmp s t) ≡ false = sym (side_order (num_cmp num pair) (nat_cmp s t) one) ∙ apart in
    let alike : is_eq (nat_cmp s t) ≡ true = ap (λ k. is_eq (nat_cmp s k)) (sym (same_side s t a b same)) ∙ ap is_eq (tied_itself nat_cmp_total s) in
    cc (tie, alike)

-- a message that is fit is for side 0 or 1
pub fit_side : (pair : Num) (side : ℕ) (bytes : List ℕ) → is_fit (Message pair side bytes) ≡ true → side < 2
fit_side pair side bytes e = grind arith

-- items of two sources may be given back in either order
pub items_pass : (t x : KeptItem) → is_fit t ≡ true → is_fit x ≡ true → is_from (source_of t) x ≡ false → Commutes (λ w. gives w t) x
items_pass (Bytes pipe bytes) (Bytes other more) fit fit' apart = pipe_passes pipe (pipe_fronted bytes) (Bytes other more) (λ e. absurd (cc (e, apart)))
items_pass (Bytes pipe bytes) (Message pair side more) fit fit' apart = λ w. refl
items_pass (Message pair side bytes) (Bytes other more) fit fit' apart = λ w. refl
items_pass (Message pair s bytes) (Message other t more) fit fit' apart =
    pair_passes pair (firsted s bytes) (Message other t more) (λ one found.
    turned_apart t s (λ ms. more ∷ ms) (λ ms. bytes ∷ ms)
    (λ same. absurd (apart_sides pair other s t (fit_side pair s bytes fit) (fit_side other t more fit') one apart (sym same)))
    (unwrap_or found empty_pair))
