-- A text that goes to a sink in pieces, step by step.
use Rattle.std.proofs.Common.{◌≡◌, ℕ, ◌+◌, ◌≤◌, Bool, true, false, List, [], ◌∷◌, ◌++◌, length, take, drop, get_or, Option, Some, None}
use Rattle.std.proofs.Common.{refl, ap, sym, subst, ◌∙◌, arith, length-append, append_assoc, append-nil}
use Rattle.std.proofs.Math.Seq.{drop-append_seam, take-append-add, take-append_seam, take-length}
use Rattle.std.proofs.lemmas.Bool.{ltb-false, ltb-true}
use Rattle.std.proofs.lemmas.List.{length-take-le, take-append-le}
use Rattle.std.specs.Io.KnownBytes.{Appends, append_known}
use Rattle.std.specs.Prelude.{is_none, nat_lt, unwrap_or, OnErr, Result}
use Rattle.xc_data.specs.Step.{Step}
use Rattle.xc_edge.specs.Streams.{AppendsPart}
use Rattle.xc_edge.specs.View.{StreamView, HasFailed}
use Rattle.xc_print.specs.Sheets.{IsSent, IsUnderway, heading, told_heading}

-- ---- what is known of the sink's bytes
-- nothing known isn't known bytes
none_some : (xs : List ℕ) → None ≡ Some xs → ⊥
none_some xs e = absurd cc

-- some bytes more, and then more of them
known_more : (a b c : Option (List ℕ)) (xs ys : List ℕ) → b ≡ append_known a xs → Appends b c ys → is_none a ≡ false
    → c ≡ append_known a (xs ++ ys)
known_more None b c xs ys e more told = absurd cc
known_more (Some old) None c xs ys e more told = absurd (none_some (old ++ xs) e)
known_more (Some old) (Some mid) None xs ys e more told = absurd more
known_more (Some old) (Some mid) (Some new) xs ys e more told =
    ap Some (more ∙ ap (λ l. l ++ ys) (ap (λ o. unwrap_or o mid) e) ∙ append_assoc old xs ys)

-- the same, as a sink's contract says it
known_appends : (a b : Option (List ℕ)) (xs : List ℕ) → (is_none a ≡ false → b ≡ append_known a xs) → Appends a b xs
known_appends None b xs is = tt
known_appends (Some old) None xs is = none_some (old ++ xs) (is refl)
known_appends (Some old) (Some new) xs is = ap (λ o. unwrap_or o new) (is refl)

-- ---- steps
-- more was pushed, and waits
pushed : (sink : Step StreamView) (said taken piece more : List ℕ) (failed : Bool)
    → IsUnderway sink (record { said = said; taken = taken; piece = piece; failed = failed })
    → IsUnderway sink (record { said = said ++ more; taken = taken; piece = piece ++ more; failed = failed })
pushed sink said taken piece more failed was =
    record {
      later = was.later;
      written = was.written;
      whole = λ e. ap (λ l. l ++ more) (was.whole e) ∙ append_assoc taken piece more;
      short = λ e. omega (arith, was.short e, length-append said more);
      front = λ e. was.front e ∙ sym (take-append-le (length taken) said more (omega (arith, was.short e)));
      faulty = was.faulty;
    }

-- a front of what waits was taken
taken_front : (taken piece : List ℕ) (n : ℕ) → n ≤ length piece
    → taken ++ take n piece ≡ take (length (taken ++ take n piece)) (taken ++ piece)
taken_front taken piece n most =
    let long : length (taken ++ take n piece) ≡ length taken + n =
    omega (arith, length-append taken (take n piece), length-take-le n piece most) in
    sym (ap (λ k. take k (taken ++ piece)) long ∙ take-append-add taken piece n)

-- all of it
taken_whole : (taken piece : List ℕ) (n : ℕ) → length piece ≡ n → taken ++ piece ≡ (taken ++ take n piece) ++ []
taken_whole taken piece n all =
    ap (λ l. taken ++ l) (sym (ap (λ k. take k piece) (sym all) ∙ take-length piece)) ∙ sym (append-nil (taken ++ take n piece))

-- what waits was written, or a front of it
wrote : (start : StreamView) (sink : Step StreamView) (said taken piece : List ℕ) (n : ℕ)
    → IsUnderway (record { old = start; new = sink.old }) (record { said = said; taken = taken; piece = piece; failed = false })
    → n ≤ length piece → Appends sink.old.bytes sink.new.bytes (take n piece) → sink.old.faults ≤ sink.new.faults
    → (nat_lt n (length piece) ≡ true → HasFailed sink.old sink.new)
    → IsUnderway (record { old = start; new = sink.new })
    (record { said = said; taken = taken ++ take n piece; piece = []; failed = nat_lt n (length piece) })
wrote start sink said taken piece n was most front later fault =
    let whole = was.whole refl in
    record {
      later = omega (arith, was.later, later);
      written = λ told. known_more start.bytes sink.old.bytes sink.new.bytes taken (take n piece) (was.written told) front told;
      whole = λ e. whole ∙ taken_whole taken piece n (omega (arith, most, ltb-false n (length piece) e));
      short = λ e. omega (
        arith,
        ltb-true n (length piece) e,
        ap length whole,
        length-append taken piece,
        length-append taken (take n piece),
        length-take-le n piece most,
      );
      front = λ e. taken_front taken piece n most ∙ ap (take (length (taken ++ take n piece))) (sym whole);
      faulty = λ e. omega (arith, was.later, fault e);
    }

-- what waits was sent
sent : (start : StreamView) (sink : Step StreamView) (said taken after piece : List ℕ) (failed : Bool)
    → IsUnderway (record { old = start; new = sink.old }) (record { said = said; taken = taken; piece = piece; failed = false })
    → IsSent sink taken after piece failed
    → IsUnderway (record { old = start; new = sink.new }) (record { said = said; taken = after; piece = []; failed = failed })
sent start sink said taken after piece failed was new =
    let n = new.count in
    subst (λ (t : List ℕ). IsUnderway (record { old = start; new = sink.new }) (record { said = said; taken = t; piece = []; failed = failed }))
    (sym new.taken)
    (subst (λ (b : Bool). IsUnderway (record { old = start; new = sink.new }) (record { said = said; taken = taken ++ take n piece; piece = []; failed = b }))
    (sym new.short)
    (wrote start sink said taken piece n was new.most new.told new.later (λ e. new.fault (new.short ∙ e))))

-- the same, as it stands in the code: what was sent is what waits, and then nothing waits
pub sent_off : (start : StreamView) (sink : Step StreamView) (said taken after piece text rest : List ℕ) (failed broken : Bool) → failed ≡ false
    → text ≡ piece → rest ≡ [] → IsUnderway (record { old = start; new = sink.old }) (record { said = said; taken = taken; piece = piece; failed = failed })
    → IsSent sink taken after text broken
    → IsUnderway (record { old = start; new = sink.new }) (record { said = said; taken = after; piece = rest; failed = broken })
sent_off start sink said taken after piece text rest failed broken well all none was new =
    subst (λ (p : List ℕ). IsUnderway (record { old = start; new = sink.new }) (record { said = said; taken = after; piece = p; failed = broken }))
    (sym none)
    (sent start sink said taken after piece broken
    (subst (λ (b : Bool). IsUnderway (record { old = start; new = sink.old }) (record { said = said; taken = taken; piece = piece; failed = b })) well was)
    (subst (λ (t : List ℕ). IsSent sink taken after t broken) all new))

-- no bytes
none_of : (xs : List ℕ) → length xs ≡ 0 → xs ≡ []
none_of [] e = refl
none_of (x ∷ xs) e = absurd (omega (arith, e))

-- more was pushed where nothing waits, and was sent at once
pub sent_at_once : (start : StreamView) (sink : Step StreamView) (said next taken after piece more : List ℕ) (failed broken : Bool) → failed ≡ false
    → length piece ≡ 0 → next ≡ said ++ more
    → IsUnderway (record { old = start; new = sink.old }) (record { said = said; taken = taken; piece = piece; failed = failed })
    → IsSent sink taken after more broken
    → IsUnderway (record { old = start; new = sink.new }) (record { said = next; taken = after; piece = piece; failed = broken })
sent_at_once start sink said next taken after piece more failed broken well none all was new =
    let waits = none_of piece none in
    let before : Step StreamView = record { old = start; new = sink.old } in
    let now : IsUnderway before (record { said = said; taken = taken; piece = []; failed = false }) =
    subst (λ (p : List ℕ). IsUnderway before (record { said = said; taken = taken; piece = p; failed = false })) waits
    (subst (λ (b : Bool). IsUnderway before (record { said = said; taken = taken; piece = piece; failed = b })) well was) in
    subst (λ (p : List ℕ). IsUnderway (record { old = start; new = sink.new }) (record { said = next; taken = after; piece = p; failed = broken }))
    (sym waits)
    (subst (λ (t : List ℕ). IsUnderway (record { old = start; new = sink.new }) (record { said = t; taken = after; piece = []; failed = broken }))
    (sym all)
    (sent start sink (said ++ more) taken after more broken (pushed before said taken [] more false now) new))

-- ---- the end
-- where a write failed the sink took a front of the text
pub part_written : (start begun new : StreamView) (text said taken piece : List ℕ) (failed : Bool) → begun ≡ start → said ≡ text → failed ≡ true
    → IsUnderway (record { old = begun; new = new }) (record { said = said; taken = taken; piece = piece; failed = failed }) → AppendsPart start new text
part_written start begun new text said taken piece failed same all broken was =
    let front : Appends begun.bytes new.bytes (take (length taken) said) =
    subst (λ (l : List ℕ). Appends begun.bytes new.bytes l) (was.front broken) (known_appends begun.bytes new.bytes taken was.written) in
    subst (λ (v : StreamView). AppendsPart v new text) same
    (subst (λ (t : List ℕ). AppendsPart begun new t) all (length taken, was.short broken, front))

-- the same of streams that stand so
pub part_of_same : {T E : Type 0} (result : Result T E) (start begun last end : StreamView) (text : List ℕ) → begun ≡ start → end ≡ last
    → OnErr result (AppendsPart begun end text) → OnErr result (AppendsPart start last text)
part_of_same result start begun last end text same at was =
    subst (λ (v : StreamView). OnErr result (AppendsPart v last text)) same
    (subst (λ (v : StreamView). OnErr result (AppendsPart begun v text)) at was)

-- ---- the heading
-- the same bytes are told, and the same stands behind the heading
told_same : (a b : Option (List ℕ)) (xs ys : List ℕ) → told_heading a ++ xs ≡ told_heading b ++ ys → (a ≡ b) × (xs ≡ ys)
told_same None None xs ys e = (refl, ap (drop 1) e)
told_same None (Some w) xs ys e = absurd (omega (arith, ap (λ l. get_or l 0 0) e))
told_same (Some v) None xs ys e = absurd (omega (arith, ap (λ l. get_or l 0 0) e))
told_same (Some v) (Some w) xs ys e =
    let rest : v ++ xs ≡ w ++ ys = ap (drop 1) e in
    let long : length v ≡ length w = omega (arith, ap (λ l. get_or l 0 0) e) in (
      ap Some (sym (take-append_seam v xs) ∙ ap (take (length v)) rest ∙ ap (λ k. take k (w ++ ys)) long ∙ take-append_seam w ys),
      sym (drop-append_seam v xs) ∙ ap (drop (length v)) rest ∙ ap (λ k. drop k (w ++ ys)) long ∙ drop-append_seam w ys,
    )

-- the same sink stood so, and this text stands behind the heading
heading_same : (n m : ℕ) (v w : StreamView) (xs ys : List ℕ) → heading n v ++ xs ≡ heading m w ++ ys → (n ≡ m) × (v ≡ w) × (xs ≡ ys)
heading_same n m v w xs ys e =
    let faults : v.faults ≡ w.faults = ap (λ l. get_or l 1 0) e in
    let rest = told_same v.bytes w.bytes xs ys (ap (drop 2) e) in
    (ap (λ l. get_or l 0 0) e, λ i. record { bytes = rest.0 i; faults = faults i }, rest.1)

-- a text was printed on a new sheet: it is the same sink, it stood so, and this was said
pub heading_behind : (n m : ℕ) (v w : StreamView) (said new text : List ℕ) → heading m w ++ new ≡ (heading n v ++ said) ++ text → said ≡ []
    → (m ≡ n) × (w ≡ v) × (new ≡ text)
heading_behind n m v w said new text e none =
    heading_same m n w v new text (e ∙ ap (λ l. (heading n v ++ l) ++ text) none ∙ ap (λ l. l ++ text) (append-nil (heading n v)))
