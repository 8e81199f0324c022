-- The lines of a session, one after another.
use Rattle.std.proofs.Common.{◌≡◌, ◌≢◌, ℕ, zero, suc, ◌+◌, ◌<◌, ◌≤◌, Bool, true, false, List, [], ◌∷◌, ◌++◌, length, take}
use Rattle.std.proofs.Common.{inl, inr, refl, sym, ap, ◌∙◌, subst, arith, All, slice_get, nat_lt, if◌then◌else◌, length-append}
use Rattle.std.specs.Prelude.{flat_map}
use Rattle.std.specs.declared.option.Option.{Option}
use Rattle.std.specs.declared.option.Option.TheVariants.{None, Some}
use Rattle.std.specs.Io.KnownBytes.{Appends, Consumes, Keeps}
use Rattle.std.proofs.KnownBytes.{Appends-nil, Appends-trans, Consumes-nil, Consumes-trans, Consumes-kept}
use Rattle.std.proofs.Math.Seq.{take-append-add, take-append_seam, take-length}
use Rattle.std.proofs.lemmas.List.{append-nil}
use Rattle.std.proofs.lemmas.List.Elements.{All-cons, All-head, All-nil, All-push, All-tail}
use Rattle.std.proofs.lemmas.Grind.{flat_map-append}
use Rattle.std.proofs.lemmas.Bool.{ltb-true}
use Rattle.xc_data.specs.declared.entry.Entry.{Entry}
use Rattle.xc_data.specs.declared.entry.Event.{Event}
use Rattle.xc_links.specs.Lines.{IsCut, IsWithin}
use Rattle.xc_edge.specs.View.{HasFailed}
use Rattle.xc_links.specs.Wires.{Wire, giving}
use Rattle.xc_station.specs.Passes.{PassView, StationPass}
use Rattle.xc_turnstile.specs.Views.{BeginsWith}
use Rattle.xc_data.specs.Counts.{counted}
use Rattle.xc_serve.specs.declared.answer.ServeAnswer.{ServeAnswer}
use Rattle.xc_serve.specs.declared.order.Order.{Order}
use Rattle.xc_serve.specs.declared.order.Order.TheVariants as order
use Rattle.xc_serve.specs.declared.serve.Next.{Next}
use Rattle.xc_serve.specs.declared.serve.Next.TheVariants as next
use Rattle.xc_serve.specs.declared.serve.SessionEnd.{SessionEnd}
use Rattle.xc_serve.specs.declared.serve.SessionEnd.TheVariants as end
use Rattle.xc_serve.specs.Answers.{IsServeAnswer, looked_up, not_yet_line, text_at}
use Rattle.xc_turnstile.specs.Insides.{Gains}
use Rattle.xc_serve.specs.Gains.{IsOrderFollowed}
use Rattle.xc_serve.specs.Sessions.{EndsIn, Exchange, SessionGoesOn, HasServed, IsAsked, IsExchange, IsServing, IsSession, TakesAnswers}
use Rattle.xc_serve.specs.Sessions.{answers_of, entries_of, events_of, reads}
use Rattle.xc_serve.specs.Serving.{IsSaid, IsSaidIf, IsServed}
use Rattle.xc_serve.proofs.Blocks.{own_longer}
use Rattle.xc_serve.proofs.Gained.{gains_further, gains_nothing}

-- ---- what was answered stays right where more was seen
-- an element of the front
get_front : (xs more : List Entry) (i : ℕ) → i < length xs → slice_get (xs ++ more) i ≡ slice_get xs i
get_front [] more i lt = absurd (omega arith)
get_front (x ∷ xs) more zero lt = refl
get_front (x ∷ xs) more (suc i) lt = get_front xs more i (omega arith)

-- what is said of a place below a length that was seen stays
looked_by : (xs more : List Entry) (count place : ℕ) (t : Bool) → nat_lt place count ≡ t → count ≤ length xs
    → (if t then text_at (slice_get xs place) else not_yet_line) ≡ (if t then text_at (slice_get (xs ++ more) place) else not_yet_line)
looked_by xs more count place false is le = refl
looked_by xs more count place true is le =
    let below : place < count = ltb-true place count is in ap text_at (sym (get_front xs more place (omega arith)))

-- the same of a look
looked_longer : (seen longer : List Entry) (count place : ℕ) → BeginsWith longer seen → count ≤ length seen
    → looked_up seen count place ≡ looked_up longer count place
looked_longer seen longer count place h le =
    looked_by seen h.0 count place (nat_lt place count) refl le ∙ ap (λ (es : List Entry). looked_up es count place) (sym h.1)

-- a length that was seen is one of what is seen later
longer_within : (seen longer : List Entry) (n : ℕ) → BeginsWith longer seen → n ≤ length seen → n ≤ length longer
longer_within seen longer n h le = omega (arith, ap length h.1, length-append seen h.0)

-- the view of a pass that goes on
record Longer (v w : PassView) : Type 0 where
  origin : w.origin ≡ v.origin
  seen : BeginsWith w.seen v.seen

-- an answer stays right
answer_longer : (v w : PassView) (o : Order) (es : List Event) (ps : List (ℕ × Entry)) (answer : List ℕ) → Longer v w
    → IsServeAnswer v o es ps answer → IsServeAnswer w o es ps answer
answer_longer v w order.Work es ps answer h (inl k) = inl k
answer_longer v w order.Work es ps answer h (inr k) =
    inr (record {
      job = k.job;
      before = k.before;
      last = k.last;
      block = k.block;
      gained = k.gained;
      went_on = k.went_on;
      ends = k.ends;
      own = own_longer v w h.origin h.seen k.job k.block k.last k.own;
      said = k.said;
    })
answer_longer v w order.Seen es ps answer h k =
    record { count = k.count; within = longer_within v.seen w.seen k.count h.seen k.within; gained = k.gained; none = k.none; said = k.said }
answer_longer v w (order.Entry place) es ps answer h k =
    record {
      count = k.count;
      within = longer_within v.seen w.seen k.count h.seen k.within;
      gained = k.gained;
      none = k.none;
      said = k.said ∙ looked_longer v.seen w.seen k.count place h.seen k.within;
    }
answer_longer v w order.Quit es ps answer h k = k
answer_longer v w order.Bad es ps answer h k = k
answer_longer v w order.TooLong es ps answer h k = k

-- each of them
each_longer : (v w : PassView) (xs : List Exchange) → Longer v w → All (IsExchange v) xs → All (IsExchange w) xs
each_longer v w [] h each = All-nil (IsExchange w)
each_longer v w (x ∷ xs) h each =
    let first : IsExchange v x = All-head (IsExchange v) x xs each in
    All-cons (IsExchange w) x xs (first.0, answer_longer v w x.order x.events x.entries x.answer h first.1)
    (each_longer v w xs h (All-tail (IsExchange v) x xs each))

-- ---- one more
-- what one more adds
one_more : {A : Type 0} (f : Exchange → List A) (xs : List Exchange) (x : Exchange) → flat_map f (xs ++ x ∷ []) ≡ flat_map f xs ++ f x
one_more f xs x = flat_map-append f xs (x ∷ []) ∙ ap (λ ys. flat_map f xs ++ ys) (append-nil (f x))

-- no line yet
pub serving_nothing : (a : StationPass) (w : Wire) → IsServing a a w w
serving_nothing a w =
    record {
      lines = [];
      served = record {
        each = All-nil (IsExchange a.view);
        gains = gains_nothing a;
        consumed = Consumes-nil w.left;
        took = Appends-nil w.taken;
        later = omega arith;
      };
      going = All-nil (λ (x : Exchange). SessionGoesOn x.order);
    }

-- a count that rose in a part of a session rose in it
failed_later : (x y z : ℕ) → x ≤ y → counted y ≤ z → counted x ≤ z
failed_later x y z le failed = omega arith

-- what was taken stays
appends_kept : (a b c : Option (List ℕ)) (xs : List ℕ) → Appends a b xs → Keeps b c → Appends a c xs
appends_kept None b c xs p q = tt
appends_kept (Some x) None c xs p q = absurd p
appends_kept (Some x) (Some y) None xs p q = absurd q
appends_kept (Some x) (Some y) (Some z) xs p q = q ∙ p

-- the answer to the last line is not written, or not whole
front_took : (a b c : Option (List ℕ)) (xs ys : List ℕ) (n : ℕ) → Appends a b xs → Appends b c (take n ys) → Appends a c (take (length xs + n) (xs ++ ys))
front_took a b c xs ys n p q = subst (Appends a c) (sym (take-append-add xs ys n)) (Appends-trans a b c xs (take n ys) p q)

-- ---- a line that was read, and followed
module _ (a b c : StationPass) (w0 w1 w2 : Wire) (h : IsServing a b w0 w1) (o : Order) (asked : IsAsked w1 w2 (Some o)) (kept : Keeps w1.taken w2.taken)
    (later : w1.faults ≤ w2.faults) (told : Option ServeAnswer) (k : IsOrderFollowed b c o told) where
  -- with what came of it
  abbrev line : Exchange
  line = record { read = asked.0; order = o; events = k.events; entries = k.entries; answer = k.answer }

  -- with the lines before
  abbrev lines_more : List Exchange
  lines_more = h.lines ++ line ∷ []

  -- their answers
  answers_more : answers_of lines_more ≡ answers_of h.lines ++ k.answer
  answers_more = one_more (λ (x : Exchange). x.answer) h.lines line

  -- it was read and followed
  line_read : HasServed a c (record { old = w0; new = w2 }) lines_more h.lines
  line_read =
      record {
        each = All-push (IsExchange c.view) h.lines line
            (each_longer b.view c.view h.lines (record { origin = k.gains.goes.origin; seen = k.gains.goes.seen }) h.served.each) (asked.1, k.is);
        gains = subst (λ (ps : List (ℕ × Entry)). Gains a c (events_of (h.lines ++ line ∷ [])) ps) (sym (one_more (λ (x : Exchange). x.entries) h.lines line))
            (subst (λ (es : List Event). Gains a c es (entries_of h.lines ++ k.entries)) (sym (one_more (λ (x : Exchange). x.events) h.lines line))
            (gains_further a b c (events_of h.lines) k.events (entries_of h.lines) k.entries h.served.gains k.gains));
        consumed = subst (Consumes w0.left w2.left) (sym (one_more (λ (x : Exchange). x.read) h.lines line))
            (Consumes-trans w0.left w1.left w2.left (reads h.lines) asked.0 h.served.consumed asked.2);
        took = appends_kept w0.taken w1.taken w2.taken (answers_of h.lines) h.served.took kept;
        later = omega (arith, h.served.later);
      }

  -- ---- no memory for its answer
  pub ends_starved : SessionGoesOn o → IsSession a c w0 w2 end.NoMemory
  ends_starved goes =
      record {
        lines = lines_more;
        rest = [];
        each = line_read.each;
        consumed = subst (Consumes w0.left w2.left) (sym (append-nil (reads lines_more))) line_read.consumed;
        cut = (omega arith, All-nil (λ (b : ℕ). b ≢ 10));
        gains = line_read.gains;
        took = (
          length (answers_of h.lines),
          subst (Appends w0.taken w2.taken) (sym (ap (take (length (answers_of h.lines))) answers_more ∙ take-append_seam (answers_of h.lines) k.answer))
              line_read.took,
        );
        front = h.lines;
        last = Some line;
        parts = refl;
        going = h.going;
        ends = goes;
        later = line_read.later;
      }

  module _ (w3 : Wire) (left : Keeps w2.left w3.left) (rises : w2.faults ≤ w3.faults) where
    -- ---- a front of its answer is written
    pub ends_unwritten : (n : ℕ) → Appends w2.taken w3.taken (take n k.answer) → HasFailed (giving w2) (giving w3) → IsSession a c w0 w3 end.LinkFault
    ends_unwritten n wrote failed =
        record {
          lines = lines_more;
          rest = [];
          each = line_read.each;
          consumed = subst (Consumes w0.left w3.left) (sym (append-nil (reads lines_more)))
              (Consumes-kept w0.left w2.left w3.left (reads lines_more) line_read.consumed left);
          cut = (omega arith, All-nil (λ (b : ℕ). b ≢ 10));
          gains = line_read.gains;
          took = (
            length (answers_of h.lines) + n,
            subst (λ (xs : List ℕ). Appends w0.taken w3.taken (take (length (answers_of h.lines) + n) xs)) (sym answers_more)
                (front_took w0.taken w2.taken w3.taken (answers_of h.lines) k.answer n line_read.took wrote),
          );
          front = h.lines;
          last = Some line;
          parts = refl;
          going = h.going;
          ends = failed_later w0.faults w2.faults w3.faults line_read.later failed;
          later = omega (arith, line_read.later);
        }

    -- ---- its answer is written
    module _ (wrote : Appends w2.taken w3.taken k.answer) where
      -- all were answered
      line_answered : HasServed a c (record { old = w0; new = w3 }) lines_more lines_more
      line_answered =
          record {
            each = line_read.each;
            gains = line_read.gains;
            consumed = Consumes-kept w0.left w2.left w3.left (reads lines_more) line_read.consumed left;
            took = subst (Appends w0.taken w3.taken) (sym answers_more)
                (Appends-trans w0.taken w2.taken w3.taken (answers_of h.lines) k.answer line_read.took wrote);
            later = omega (arith, line_read.later);
          }

      -- the session goes on
      pub serves_on : SessionGoesOn o → IsServing a c w0 w3
      serves_on goes =
          record {
            lines = lines_more;
            served = line_answered;
            going = All-push (λ (x : Exchange). SessionGoesOn x.order) h.lines line h.going goes;
          }

      -- or ends by this line
      pub ends_by : (e : SessionEnd) → TakesAnswers e w0 w3 (answers_of lines_more) → EndsIn (Some line) e w0 w3 → IsSession a c w0 w3 e
      ends_by e takes ends =
          record {
            lines = lines_more;
            rest = [];
            each = line_answered.each;
            consumed = subst (Consumes w0.left w3.left) (sym (append-nil (reads lines_more))) line_answered.consumed;
            cut = (omega arith, All-nil (λ (b : ℕ). b ≢ 10));
            gains = line_answered.gains;
            took = takes;
            front = h.lines;
            last = Some line;
            parts = refl;
            going = h.going;
            ends = ends;
            later = line_answered.later;
          }

      -- by `quit`
      pub ends_quit : o ≡ order.Quit → IsSession a c w0 w3 end.Quit
      ends_quit is = ends_by end.Quit line_answered.took is

      -- by a line that is too long
      pub ends_long : o ≡ order.TooLong → IsSession a c w0 w3 end.TooLong
      ends_long is = ends_by end.TooLong line_answered.took is

-- ---- no line came
module _ (a b : StationPass) (w0 w1 w2 : Wire) (h : IsServing a b w0 w1) (kept : Keeps w1.taken w2.taken) (later : w1.faults ≤ w2.faults) where
  -- the session ends behind the lines so far
  no_line : (e : SessionEnd) (rest : List ℕ) → length rest < 65 → IsWithin rest → Consumes w1.left w2.left rest
      → TakesAnswers e w0 w2 (answers_of h.lines) → EndsIn None e w0 w2 → IsSession a b w0 w2 e
  no_line e rest short within came takes ends =
      record {
        lines = h.lines;
        rest = rest;
        each = h.served.each;
        consumed = Consumes-trans w0.left w1.left w2.left (reads h.lines) rest h.served.consumed came;
        cut = (short, within);
        gains = h.served.gains;
        took = takes;
        front = h.lines;
        last = None;
        parts = sym (append-nil h.lines);
        going = h.going;
        ends = ends;
        later = omega (arith, h.served.later);
      }

  -- no more comes
  pub ends_at_end : IsAsked w1 w2 None → IsSession a b w0 w2 end.Quit
  ends_at_end (rest, short, within, came, over) =
      no_line end.Quit rest short within came (appends_kept w0.taken w1.taken w2.taken (answers_of h.lines) h.served.took kept) over

  -- the link failed
  pub ends_unread : IsCut w1 w2 → HasFailed (giving w1) (giving w2) → IsSession a b w0 w2 end.LinkFault
  ends_unread (front, short, within, came) failed =
      no_line end.LinkFault front short within came (
        length (answers_of h.lines),
        subst (Appends w0.taken w2.taken) (sym (take-length (answers_of h.lines)))
            (appends_kept w0.taken w1.taken w2.taken (answers_of h.lines) h.served.took kept),
      )
      (failed_later w0.faults w1.faults w2.faults h.served.later failed)

-- ---- a line that was served
-- where the session stands behind it
abbrev pub SessionStands : StationPass → StationPass → Wire → Wire → Next → Type 0
SessionStands old new before after next.Line = IsServing old new before after
SessionStands old new before after (next.End e) = IsSession old new before after e

module _ (a b c : StationPass) (w0 w1 w2 w3 : Wire) (h : IsServing a b w0 w1) (o : Order) (asked : IsAsked w1 w2 (Some o)) (kept : Keeps w1.taken w2.taken)
    (later : w1.faults ≤ w2.faults) where
  -- where there was an answer
  by_next : (ans : ServeAnswer) (k : IsOrderFollowed b c o (Some ans)) (to : Next) → IsSaid w2 w3 o k.answer to → SessionStands a c w0 w3 to
  by_next ans k next.Line (goes, wrote) =
      serves_on a b c w0 w1 w2 h o asked kept later (Some ans) k w3 wrote.left wrote.later wrote.took goes
  by_next ans k (next.End end.Quit) (is, wrote) =
      ends_quit a b c w0 w1 w2 h o asked kept later (Some ans) k w3 wrote.left wrote.later wrote.took is
  by_next ans k (next.End end.TooLong) (is, wrote) =
      ends_long a b c w0 w1 w2 h o asked kept later (Some ans) k w3 wrote.left wrote.later wrote.took is
  by_next ans k (next.End end.LinkFault) (n, wrote, failed) =
      ends_unwritten a b c w0 w1 w2 h o asked kept later (Some ans) k w3 wrote.left wrote.later n wrote.took failed
  by_next ans k (next.End end.NoMemory) never = absurd never

  -- and where there was none
  by_told : (told : Option ServeAnswer) (to : Next) → IsOrderFollowed b c o told → IsSaidIf w2 w3 o told to → SessionStands a c w0 w3 to
  by_told None to k (is, same) =
      subst (SessionStands a c w0 w3) (sym is)
      (subst (λ (w : Wire). IsSession a c w0 w end.NoMemory) (sym same)
      (ends_starved a b c w0 w1 w2 h o asked kept later None k (k.starved refl)))
  by_told (Some ans) to k said = by_next ans k to (subst (λ (bytes : List ℕ). IsSaid w2 w3 o bytes to) k.told_is said)

  -- either
  pub line_served : (to : Next) → IsServed b c (record { old = w2; new = w3 }) o to → SessionStands a c w0 w3 to
  line_served to s = by_told s.told to s.followed s.said
