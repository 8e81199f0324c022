-- What is taken out of a list in the reverse order, and put into it.
use Rattle.std.proofs.Common.{◌≡◌, ◌⊎◌, inl, inr, ℕ, ◌-◌, ◌<◌, ◌≤◌, Bool, true, false, List, [], ◌∷◌, ◌++◌, length, get_or, set, take}
use Rattle.std.proofs.Common.{drop, refl, ap, sym, ◌∙◌, subst, arith}
use Rattle.std.specs.Prelude.{All, reverse, insert, remove, map, slice_range}
use Rattle.std.specs.List.{flat_map, between, sum_by}
use Rattle.std.proofs.lemmas.Bool.{cases_lt}
use Rattle.std.proofs.lemmas.List.{reverse-reverse, take-append-drop, take_all, length-drop, length-reverse, length-map, get_or_default}
use Rattle.std.proofs.lemmas.List.Concat.{length-flat_map}
use Rattle.std.proofs.lemmas.List.Sorted.{IsPermutation-reverse, sum_by-IsPermutation}
use Rattle.xc_data.specs.declared.entry.KeptItem.{KeptItem}
use Rattle.xc_data.specs.declared.entry.KeptItem.TheVariants.{Bytes, Message}
use Rattle.xc_data.specs.declared.object.Num.{Num}
use Rattle.xc_buffers.specs.declared.source.Endpoint.{Endpoint}
use Rattle.xc_buffers.specs.declared.source.Endpoint.TheVariants.{Pipe, Side}
use Rattle.xc_buffers.specs.Sources.{source_of, is_before, is_from}
use Rattle.xc_buffers.specs.Items.{AreKept, IsInOrder, is_fit, item_bytes, items_from, keeps_from, kept_bytes, kept_messages}
use Rattle.xc_buffers.specs.Changes.{PutsFront, TakesBytes, TakesMessage}
use Rattle.xc_buffers.specs.Places.{IsFirst, IsPlace, IsSourceStart}
use Rattle.xc_buffers.proofs.Held.{any_none, none_any}
use Rattle.xc_buffers.proofs.Ordered.{falls_from, from_between}
use Rattle.xc_buffers.proofs.Orders.{before_apart, behind_apart, not_before}
use Rattle.xc_buffers.proofs.Puts.{puts_front, kept_without, kept_set, stands_there, stands_set, stands_inserted, kept_inserted, takes_whole, takes_part}
use Rattle.xc_buffers.proofs.Puts.{takes_message}
use Rattle.xc_buffers.proofs.Splits.{All-reverse, filter-none, filter-part, filter-reverse}

-- ---- where no item of a source is kept
-- all stand before it
pub none_first : (source : Endpoint) (stored : List KeptItem) (at : ℕ) → IsPlace source stored at → at ≤ 0 → keeps_from source stored ≡ false
none_first source stored at place le = any_none (is_from source) stored (λ k d lt. before_apart _ source (place.1 k d (omega arith) lt))

-- the last that doesn't stand before it stands after
pub none_from_source : (source : Endpoint) (stored : List KeptItem) (at : ℕ) (t : KeptItem) → IsInOrder (reverse stored) → IsPlace source stored at
    → 0 < at → at ≤ length stored → t ≡ get_or stored (at - 1) t → is_before source (source_of t) ≡ true → keeps_from source stored ≡ false
none_from_source source stored at t order place some within is behind = any_none (is_from source) stored (λ k d lt. apart k d lt (cases_lt k at))
  where
    ahead : (k : ℕ) (d : KeptItem) → k < at → is_before (source_of (get_or stored k d)) (source_of (get_or stored (at - 1) d)) ≡ false
    ahead k d lt = falls_from stored order k (at - 1) d (omega arith) (omega arith)

    same : (d : KeptItem) → get_or stored (at - 1) d ≡ t
    same d = get_or_default stored (at - 1) d t (omega arith) ∙ sym is

    by_test : (k : ℕ) (d : KeptItem) → k < at → (b : Bool) → is_before source (source_of (get_or stored k d)) ≡ b → b ≡ true
    by_test k d lt true e = refl
    by_test k d lt false e =
        let no = not_before source (source_of (get_or stored k d)) (source_of (get_or stored (at - 1) d)) e (ahead k d lt) in
        let yes = ap (λ u. is_before source (source_of u)) (same d) ∙ behind in
        cc (no, yes)

    apart : (k : ℕ) (d : KeptItem) → k < length stored → (k < at) ⊎ (at ≤ k) → is_from source (get_or stored k d) ≡ false
    apart k d lt (inl less) = behind_apart (source_of (get_or stored k d)) source (by_test k d less (is_before source (source_of (get_or stored k d))) refl)
    apart k d lt (inr ge) = before_apart (source_of (get_or stored k d)) source (place.1 k d ge lt)

-- ---- the items of a source side by side
pub items_there : (source : Endpoint) (stored : List KeptItem) (from to : ℕ) → from ≤ to → to ≤ length stored → IsSourceStart source stored from
    → IsPlace source stored to → between from to stored ≡ items_from source stored
items_there source stored from to le within start place =
    sym (filter-part (is_from source) stored from to le within
    (λ k d low lt. behind_apart (source_of (get_or stored k d)) source (start.0 k d low lt))
    (λ k d low lt. from_between source (get_or stored k d) (start.1 k d low (omega arith)) (place.0 k d (omega arith) lt))
    (λ k d low lt. before_apart (source_of (get_or stored k d)) source (place.1 k d low lt)))

-- how many bytes, and how many messages, they have
pub bytes_count : (pipe : Num) (stored : List KeptItem) → length (kept_bytes pipe (reverse stored)) ≡ sum_by (λ t. length (item_bytes t)) (items_from
    (Pipe pipe) stored)
bytes_count pipe stored =
    let own = items_from (Pipe pipe) stored in
    ap (λ items. length (flat_map item_bytes items)) (filter-reverse (is_from (Pipe pipe)) stored) ∙ length-flat_map item_bytes (reverse own)
    ∙ sum_by-IsPermutation (λ t. length (item_bytes t)) own (reverse own) (IsPermutation-reverse own)

-- so many messages are kept for a side as it has items
pub messages_count : (pair : Num) (side : ℕ) (stored : List KeptItem)
    → length (kept_messages pair side (reverse stored)) ≡ length (items_from (Side pair side) stored)
messages_count pair side stored =
    let own = items_from (Side pair side) stored in
    ap (λ items. length (map item_bytes items)) (filter-reverse (is_from (Side pair side)) stored) ∙ length-map (reverse own) item_bytes ∙ length-reverse own

-- ---- what is taken
-- each item is fit
pub fit_at : (stored : List KeptItem) (at : ℕ) (t : KeptItem) → AreKept (reverse stored) → at < length stored → t ≡ get_or stored at t → is_fit t ≡ true
fit_at stored at t kept lt is =
    let P : KeptItem → Type 0 = λ x. is_fit x ≡ true in
    let all : All P stored = subst (All P) (reverse-reverse stored) (All-reverse P (reverse stored) kept.fit) in
    subst P (sym is) (all at t lt)

some_there : (pipe : Num) (bytes : List ℕ) → is_fit (Bytes pipe bytes) ≡ true → 1 ≤ length bytes
some_there pipe [] fit = cc
some_there pipe (b ∷ bytes) fit = omega arith

short_there : (pair : Num) (side : ℕ) (bytes : List ℕ) → is_fit (Message pair side bytes) ≡ true → length bytes ≤ 1024
short_there pair side bytes fit = grind arith

bytes_of_pipe : (pipe : Num) (t : KeptItem) → source_of t ≡ Pipe pipe → t ≡ Bytes pipe (item_bytes t)
bytes_of_pipe pipe (Bytes other bytes) e = let same : other ≡ pipe = cc in ap (λ n. Bytes n bytes) same
bytes_of_pipe pipe (Message pair side bytes) e = cc

message_of_side : (pair : Num) (side : ℕ) (t : KeptItem) → source_of t ≡ Side pair side → t ≡ Message pair side (item_bytes t)
message_of_side pair side (Bytes other bytes) e = cc
message_of_side pair side (Message p s bytes) e =
    let one : p ≡ pair = cc in
    let two : s ≡ side = cc in
    ap (λ n. Message n s bytes) one ∙ ap (λ n. Message pair n bytes) two

module _ (stored : List KeptItem) (at : ℕ) (t : KeptItem) (is : t ≡ get_or stored at t) (kept : AreKept (reverse stored)) where
  -- without its first item
  pub took_kept : (source : Endpoint) → IsFirst source stored at → AreKept (reverse (remove stored at))
  took_kept source first =
      let e : source_of t ≡ source = ap source_of is ∙ first.from t in
      kept_without t _ _ (stands_there stored at t (subst (λ s. IsFirst s stored at) (sym e) first) is) kept

  put_back : (source : Endpoint) → IsFirst source stored at → PutsFront t (reverse (remove stored at)) (reverse stored)
  put_back source first =
      let e : source_of t ≡ source = ap source_of is ∙ first.from t in
      puts_front t _ _ (stands_there stored at t (subst (λ s. IsFirst s stored at) (sym e) first) is) kept.fit

  -- the first message of a side
  pub took_message : (pair : Num) (side : ℕ) → IsFirst (Side pair side) stored at
      → (length (item_bytes t) ≤ 1024) × TakesMessage pair side (item_bytes t) (reverse stored) (reverse (remove stored at))
  took_message pair side first =
      let same = message_of_side pair side t (ap source_of is ∙ first.from t) in
      let fit = subst (λ x. is_fit x ≡ true) same (fit_at stored at t kept first.within is) in
      let put = subst (λ x. PutsFront x (reverse (remove stored at)) (reverse stored)) same (put_back (Side pair side) first) in
      (short_there pair side (item_bytes t) fit, takes_message pair side (item_bytes t) (reverse stored) (reverse (remove stored at)) put)

  -- the first item of a pipe
  pub took_whole : (pipe : Num) → IsFirst (Pipe pipe) stored at
      → (1 ≤ length (item_bytes t)) × TakesBytes pipe (item_bytes t) (reverse stored) (reverse (remove stored at))
  took_whole pipe first =
      let same = bytes_of_pipe pipe t (ap source_of is ∙ first.from t) in
      let fit = subst (λ x. is_fit x ≡ true) same (fit_at stored at t kept first.within is) in
      let put = subst (λ x. PutsFront x (reverse (remove stored at)) (reverse stored)) same (put_back (Pipe pipe) first) in
      (some_there pipe (item_bytes t) fit, takes_whole pipe (item_bytes t) (reverse stored) (reverse (remove stored at)) put)

  -- the first n bytes of it, where it has more
  pub took_part : (pipe : Num) (n : ℕ) → IsFirst (Pipe pipe) stored at → n < length (item_bytes t)
      → TakesBytes pipe (take n (item_bytes t)) (reverse stored) (reverse (set stored at (Bytes pipe (drop n (item_bytes t)))))
      × AreKept (reverse (set stored at (Bytes pipe (drop n (item_bytes t)))))
  took_part pipe n first more =
      let bytes = item_bytes t in
      let e : source_of t ≡ Pipe pipe = ap source_of is ∙ first.from t in
      let rest = Bytes pipe (drop n bytes) in
      let whole : t ≡ Bytes pipe (take n bytes ++ drop n bytes) = bytes_of_pipe pipe t e ∙ ap (Bytes pipe) (sym (take-append-drop n bytes)) in
      let was = subst (λ x. PutsFront x (reverse (remove stored at)) (reverse stored)) whole (put_back (Pipe pipe) first) in
      let fit : is_fit rest ≡ true = rest_fits bytes more in
      let now = kept_set stored at t rest first is e fit kept in (
        takes_part pipe (take n bytes) (drop n bytes) (reverse (remove stored at)) (reverse stored) (reverse (set stored at rest)) was
            (puts_front rest _ _ (stands_set stored at rest first) now.fit),
        now,
      )
    where
      rest_fits : (bytes : List ℕ) → n < length bytes → is_fit (Bytes pipe (drop n bytes)) ≡ true
      rest_fits bytes lt = grind (arith, length-drop)

-- ---- what is put
-- at the place of its source
module _ (stored seen next : List KeptItem) (at : ℕ) (t : KeptItem) (source : Endpoint) (same : seen ≡ stored) (own : source ≡ source_of t)
    (place : IsPlace source seen at) (did : next ≡ insert stored at t) (fit : is_fit t ≡ true) (kept : AreKept (reverse stored)) where
  here : IsPlace (source_of t) stored at
  here = subst (λ s. IsPlace s stored at) own (subst (λ xs. IsPlace source xs at) same place)

  pub put_kept : AreKept (reverse next)
  put_kept = subst (λ xs. AreKept (reverse xs)) (sym did) (kept_inserted stored at t here fit kept)

  pub put_there : PutsFront t (reverse stored) (reverse next)
  put_there =
      let whole = kept_inserted stored at t here fit kept in
      subst (λ xs. PutsFront t (reverse stored) (reverse xs)) (sym did)
      (puts_front t (reverse stored) (reverse (insert stored at t)) (stands_inserted stored at t here) whole.fit)

-- ---- what is cut
module _ (stored : List KeptItem) (at : ℕ) (pipe : Num) (n size : ℕ) (t : KeptItem) (bytes front rest : List ℕ) (is : t ≡ get_or stored at t)
    (seen : bytes ≡ item_bytes t) (more : n < length bytes) (kept : AreKept (reverse stored)) (first : IsFirst (Pipe pipe) stored at)
    (whole : size ≡ length bytes) (cut : front ≡ slice_range bytes 0 n) (left : rest ≡ slice_range bytes n size) where
  front_is : front ≡ take n (item_bytes t)
  front_is = cut ∙ ap (λ k. take k bytes) (let e : n - 0 ≡ n = omega arith in e) ∙ ap (take n) seen

  rest_is : rest ≡ drop n (item_bytes t)
  rest_is =
      left ∙ ap (λ k. take (k - n) (drop n bytes)) whole ∙ take_all (length bytes - n) (drop n bytes) (omega (arith, length-drop n bytes))
      ∙ ap (drop n) seen

  split : TakesBytes pipe (take n (item_bytes t)) (reverse stored) (reverse (set stored at (Bytes pipe (drop n (item_bytes t)))))
      × AreKept (reverse (set stored at (Bytes pipe (drop n (item_bytes t)))))
  split = took_part stored at t is kept pipe n first (subst (λ b. n < length b) seen more)

  pub part_taken : TakesBytes pipe front (reverse stored) (reverse (set stored at (Bytes pipe rest)))
  part_taken =
      subst (λ b. TakesBytes pipe b (reverse stored) (reverse (set stored at (Bytes pipe rest)))) (sym front_is)
      (subst (λ b. TakesBytes pipe (take n (item_bytes t)) (reverse stored) (reverse (set stored at (Bytes pipe b)))) (sym rest_is) split.0)

  pub rest_kept : AreKept (reverse (set stored at (Bytes pipe rest)))
  rest_kept = subst (λ b. AreKept (reverse (set stored at (Bytes pipe b)))) (sym rest_is) split.1

-- ---- where nothing is kept of a source
none_from : (source : Endpoint) (stored : List KeptItem) → keeps_from source stored ≡ false → items_from source (reverse stored) ≡ []
none_from source stored none =
    filter-reverse (is_from source) stored ∙ ap reverse (filter-none (is_from source) stored (none_any (is_from source) stored none))

-- no bytes are
pub none_bytes : (pipe : Num) (stored : List KeptItem) → keeps_from (Pipe pipe) stored ≡ false → kept_bytes pipe (reverse stored) ≡ []
none_bytes pipe stored none = ap (flat_map item_bytes) (none_from (Pipe pipe) stored none)

-- no messages are
pub none_messages : (pair : Num) (side : ℕ) (stored : List KeptItem) → keeps_from (Side pair side) stored ≡ false
    → kept_messages pair side (reverse stored) ≡ []
none_messages pair side stored none = ap (map item_bytes) (none_from (Side pair side) stored none)
