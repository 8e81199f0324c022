-- What a verdict on entries and the lines behind them rests on.
use Rattle.std.proofs.Common.{◌≡◌, ◌∙◌, ◌+◌, ◌<◌, Err, Ok, ℕ, zero, suc, List, [], ◌∷◌, ◌++◌, length, take, drop}
use Rattle.std.proofs.Common.{◌&&◌, Bool, true, false, refl, ap, sym, subst, arith}
use Rattle.std.specs.Prelude.{MatchOption, MatchResult, Option, Result}
use Rattle.std.specs.declared.option.Option.TheVariants.{None}
use Rattle.std.proofs.lemmas.List.{append_assoc, length-append, length-map, take-append-drop}
use Rattle.xc_grounds.specs.Groundless.{IsFirstGroundless}
use Rattle.xc_grounds.specs.Numbered.{AreNumbered, IsFirstMisnumbered, part_begins}
use Rattle.xc_judge.specs.Judged.{place_of_reason}
use Rattle.xc_judge.specs.declared.reason.Reason.{Reason}
use Rattle.xc_judge.specs.declared.reason.Reason.TheVariants as reason
use Rattle.xc_model.specs.Course.{Course}
use Rattle.xc_model.specs.Grounds.{AreGrounded, Part, scene_of}
use Rattle.xc_model.specs.Live.{has_clients}
use Rattle.xc_model.specs.Progress.{progress_of}
use Rattle.xc_model.specs.Setting.{Setting}
use Rattle.xc_model.specs.Stories.{entry_begin}
use Rattle.xc_print.specs.declared.totals.Totals.{Totals}
use Rattle.xc_sheet.specs.declared.lines.Line.{Line}
use Rattle.xc_shown.specs.Shown.{shown_of}
use Rattle.xc_shown.specs.declared.shown.Shown.{Shown}
use Rattle.xc_tail.specs.Tails.{IsTail, Led}
use Rattle.xc_world.specs.World.{World}
use Rattle.xc_check.specs.Fronts.{are_calls_known, begins_shown, journal_led, parts_of}
use Rattle.xc_check.specs.Judging.{IsJudged}
use Rattle.xc_check.specs.Refusals.{IsFalseGround, IsFalseTail, IsRefusedAt, line_behind}
use Rattle.xc_check.specs.Stopped.{IsStoppedAt}
use Rattle.xc_check.specs.Untold.{is_untold, lacked_memory}
use Rattle.xc_check.specs.Verdicts.{AreTotalsOf, IsTrueIn}
use Rattle.xc_check.specs.declared.entries.Refused.{Refused}
use Rattle.xc_check.specs.declared.judging.Judging.{Judging}
use Rattle.xc_check.proofs.Led.{course_is, parts_begin, parts_count}
use Rattle.xc_check.proofs.Stepping.{begins_shown_with}

-- ---- what was found

-- where nothing was found that is so
pub none_is_so : {A : Type 0} (o : Option A) (P : Type 0) (Q : A → Type 0) → o ≡ None → MatchOption o P Q → P
none_is_so o P Q is found = subst (λ z. MatchOption z P Q) is found

-- ---- numbers and lists
less_by_one : (a b : ℕ) → suc a < suc b → a < b
less_by_one a b h = omega (arith, h)

tails_same : {A : Type 0} (x : A) (xs ys : List A) → x ∷ xs ≡ x ∷ ys → xs ≡ ys
tails_same x xs ys h = ap (λ zs. drop 1 zs) h

module _ (s : Setting) (entries : List Shown) (j : Judging) (judged : IsJudged s (length entries) entries j) where
  -- as many entries were judged as are shown
  pub front_count : length judged.front ≡ length entries
  front_count = sym (length-map judged.front shown_of) ∙ ap length judged.shows

  pub judged_count : length j.parts.items ≡ length entries
  judged_count = ap length judged.parts_are ∙ parts_count s.script judged.front ∙ front_count

  -- the numbers of what conflicts are judged by go on in order
  pub parts_numbered : AreNumbered (length j.parts.items) (part_begins j.parts.items)
  parts_numbered =
      subst (λ n. AreNumbered n (part_begins j.parts.items)) (sym judged_count)
      (subst (λ bs. AreNumbered (length entries) bs) (sym (ap part_begins judged.parts_are ∙ parts_begin s.script judged.front)) judged.is_true.numbered)

  -- a conflict that isn't grounded
  pub false_ground : (line place : ℕ) → IsFirstGroundless (are_calls_known s) j.parts.items place → line ≡ line_behind (take place entries)
      → IsFalseGround s entries line
  false_ground line place h line_is =
      record {
        journal = judged.front;
        place = place;
        shows = judged.shows;
        is_true = judged.is_true;
        groundless = subst (λ parts. IsFirstGroundless (are_calls_known s) parts place) judged.parts_are h;
        line_is = line_is;
      }

  -- ---- where the entries led
  module _ (grounded : AreGrounded (scene_of (are_calls_known s) j.parts.items [])) (totals : Totals) (are : AreTotalsOf entries totals)
      (count_of : ℕ) (count_is : count_of ≡ length j.parts.items) (world_of : World) (world_is : world_of ≡ j.progress.state.world) where
    abbrev told_so : Led
    told_so = record { entries = count_of; jobs = (progress_of s.script judged.front).jobs; world = world_of; totals = totals }

    led_so : told_so ≡ journal_led s.script judged.front
    led_so =
        let count : count_of ≡ length judged.front = count_is ∙ judged_count ∙ sym front_count in
        let world : world_of ≡ (progress_of s.script judged.front).state.world =
        world_is ∙ ap (λ (c : Course). c.state.world) (judged.course ∙ course_is s.script judged.front) in
        (λ i. record { entries = count i; jobs = (progress_of s.script judged.front).jobs; world = world i; totals = are judged.front judged.shows i })

    grounded_so : AreGrounded (scene_of (are_calls_known s) (parts_of s.script judged.front) [])
    grounded_so = subst (λ (parts : List Part). AreGrounded (scene_of (are_calls_known s) parts [])) judged.parts_are grounded

    -- the lines behind them are those of an end
    pub true_in : (tail : List Line) → IsTail s told_so tail → IsTrueIn s entries tail
    true_in tail h =
        record {
          journal = judged.front;
          shows = judged.shows;
          front = judged.is_true;
          grounded = grounded_so;
          ends = subst (λ (led : Led). IsTail s led tail) led_so h;
        }

    -- they aren't
    pub false_tail : (tail : List Line) (line : ℕ) → (IsTail s told_so tail → ⊥) → line ≡ line_behind entries → IsFalseTail s entries tail line
    false_tail tail line f line_is =
        record {
          journal = judged.front;
          shows = judged.shows;
          is_true = judged.is_true;
          grounded = grounded_so;
          fails = λ h. f (subst (λ (led : Led). IsTail s led tail) (sym led_so) h);
          line_is = line_is;
        }

-- ---- an entry whose number doesn't go on in order
-- entries cut at a place
record AreCutAt (entries : List Shown) (place : ℕ) : Type 0 where
  shown : Shown
  behind : List Shown
  parts : entries ≡ take place entries ++ shown ∷ behind
  at : place ≡ length (take place entries)

cut_at : (entries : List Shown) (place : ℕ) → place < length entries → AreCutAt entries place
cut_at [] place low = absurd (omega (arith, low))
cut_at (x ∷ entries) zero low = record { shown = x; behind = entries; parts = refl; at = refl }
cut_at (x ∷ entries) (suc place) low =
    let rest = cut_at entries place (less_by_one place (length entries) low) in
    record { shown = rest.shown; behind = rest.behind; parts = ap (λ xs. x ∷ xs) rest.parts; at = ap suc rest.at }

begins_front : (entries : List Shown) (place : ℕ) → begins_shown (take place entries) ≡ take place (begins_shown entries)
begins_front [] zero = refl
begins_front [] (suc place) = refl
begins_front (x ∷ entries) zero = refl
begins_front (x ∷ entries) (suc place) = ap (λ bs. entry_begin x.entry ∷ bs) (begins_front entries place)

take_next : (entries : List Shown) (place : ℕ) (shown : Shown) (behind : List Shown) → entries ≡ take place entries ++ shown ∷ behind
    → place < length entries → take (suc place) entries ≡ take place entries ++ shown ∷ []
take_next [] place shown behind parts low = absurd (omega (arith, low))
take_next (x ∷ entries) zero shown behind parts low = ap (λ xs. take 1 xs) parts
take_next (x ∷ entries) (suc place) shown behind parts low =
    ap (λ xs. x ∷ xs) (take_next entries place shown behind (tails_same x entries (take place entries ++ shown ∷ behind) parts)
    (less_by_one place (length entries) low))

-- the begins of a front and of the entry behind it are those of the front that is longer by one
begins_next : (entries : List Shown) (place : ℕ) (shown : Shown) (behind : List Shown) → entries ≡ take place entries ++ shown ∷ behind
    → place < length entries → begins_shown (take place entries ++ shown ∷ []) ≡ take (place + 1) (begins_shown entries)
begins_next entries place shown behind parts low =
    let next : suc place ≡ place + 1 = omega arith in
    ap begins_shown (sym (take_next entries place shown behind parts low)) ∙ begins_front entries (suc place)
    ∙ ap (λ n. take n (begins_shown entries)) next

-- no reason stands before the first
none_before : (r : Reason) → place_of_reason r < 0 → ⊥
none_before r h = omega (arith, h)

-- the entry at this place doesn't go on in order
pub misnumbered : (s : Setting) (entries : List Shown) (place : ℕ) (j : Judging) → place < length entries
    → IsJudged s (length entries) (take place entries) j → (AreNumbered (length entries) (take (place + 1) (begins_shown entries)) → ⊥)
    → IsRefusedAt s (length entries) entries place reason.Numbers
misnumbered s entries place j low judged f =
    let cut = cut_at entries place low in
    let begins = sym (begins_shown_with judged.front (take place entries) cut.shown judged.shows)
    ∙ begins_next entries place cut.shown cut.behind cut.parts low in
    record {
      before = take place entries;
      shown = cut.shown;
      behind = cut.behind;
      parts = cut.parts;
      at = cut.at;
      refused = record {
        front = judged.front;
        shows = judged.shows;
        is_true = judged.is_true;
        refused = record {
          fails = λ m. f (subst (λ bs. AreNumbered (length entries) bs) begins m.0);
          before = λ other lower. absurd (none_before other lower);
        };
      };
    }

-- what is refused in a front is refused
pub refused_in_front : (s : Setting) (count : ℕ) (entries : List Shown) (place : ℕ) (at : ℕ) (r : Reason)
    → IsRefusedAt s count (take place entries) at r → IsRefusedAt s count entries at r
refused_in_front s count entries place at r h =
    record {
      before = h.before;
      shown = h.shown;
      behind = h.behind ++ drop place entries;
      parts = sym (take-append-drop place entries) ∙ ap (λ xs. xs ++ drop place entries) h.parts
          ∙ append_assoc h.before (h.shown ∷ h.behind) (drop place entries);
      at = h.at;
      refused = h.refused;
    }

-- so is one at which a judgement stopped
stopped_in_front : (s : Setting) (count : ℕ) (entries : List Shown) (place : ℕ) (stop : Refused) → IsStoppedAt s count (take place entries) stop
    → IsStoppedAt s count entries stop
unfolding refused_in_front
stopped_in_front s count entries place stop h =
    record { refused = refused_in_front s count entries place stop.place stop.reason h.refused; untold = h.untold }

-- an entry with a wrong number is false whatever it asked last
number_told : (a b : Bool) → (a && (b && false)) ≡ false
number_told false b = refl
number_told true false = refl
number_told true true = refl

-- so a judgement stops there
stopped_at_number : (s : Setting) (count : ℕ) (entries : List Shown) (stop : Refused) → stop.reason ≡ reason.Numbers → stop.is_untold ≡ false
    → IsRefusedAt s count entries stop.place reason.Numbers → IsStoppedAt s count entries stop
stopped_at_number s count entries stop numbers told h =
    let at : IsRefusedAt s count entries stop.place stop.reason = subst (λ r. IsRefusedAt s count entries stop.place r) (sym numbers) h in
    record {
      refused = at;
      untold = told ∙ sym (ap (λ r. is_untold s at.shown.entry r) numbers
          ∙ number_told (has_clients s.script) (lacked_memory at.shown.entry.outcome));
    }

-- it stands among them
pub refused_within : (s : Setting) (count : ℕ) (entries : List Shown) (at : ℕ) (r : Reason) → IsRefusedAt s count entries at r → at < length entries
refused_within s count entries at r h =
    let size : length entries ≡ length h.before + length (h.shown ∷ h.behind) = ap length h.parts ∙ length-append h.before (h.shown ∷ h.behind) in
    let place = h.at in
    omega (arith, size, place)

-- ---- entries whose numbers go on in order up to a place
-- how many begins there are
pub begins_shown_count : (entries : List Shown) → length (begins_shown entries) ≡ length entries
begins_shown_count entries = length-map entries (λ (shown : Shown). entry_begin shown.entry)

-- what is said of the entries in front of it
abbrev IsSaidOf : Setting → List Shown → Result Judging Refused → Type 0
IsSaidOf s front r =
    (count : ℕ) → AreNumbered count (begins_shown front)
    → MatchResult r (IsJudged s count front) (IsStoppedAt s count front)

module _ (s : Setting) (entries : List Shown) (place : ℕ) (first : IsFirstMisnumbered (length entries) (begins_shown entries) place)
    (front : List Shown) (is : front ≡ take place entries) where
  -- they go on in order
  pub front_numbered : AreNumbered (length entries) (begins_shown front)
  front_numbered = subst (λ bs. AreNumbered (length entries) bs) (sym (ap begins_shown is ∙ begins_front entries place)) first.1

  -- one of them that is refused is refused among all
  pub refused_of_front : (r : Result Judging Refused) → IsSaidOf s front r → (refused : Refused) → r ≡ Err refused
      → IsStoppedAt s (length entries) entries refused
  refused_of_front r says refused err =
      let here : IsStoppedAt s (length entries) front refused =
      subst (λ z. MatchResult z (IsJudged s (length entries) front)
      (IsStoppedAt s (length entries) front)) err (says (length entries) front_numbered) in
      stopped_in_front s (length entries) entries place refused (subst (λ xs. IsStoppedAt s (length entries) xs refused) is here)

  -- where none of them is, the one at the place is
  pub refused_behind_front : (r : Result Judging Refused) → IsSaidOf s front r → (judging : Judging) → r ≡ Ok judging
      → IsStoppedAt s (length entries) entries (record { place = place; reason = reason.Numbers; is_untold = false })
  refused_behind_front r says judging ok =
      let here : IsJudged s (length entries) front judging =
      subst (λ z. MatchResult z (IsJudged s (length entries) front)
      (IsStoppedAt s (length entries) front)) ok (says (length entries) front_numbered) in
      let count = begins_shown_count entries in
      let low = first.0 in
      stopped_at_number s (length entries) entries (record { place = place; reason = reason.Numbers; is_untold = false }) refl refl
      (misnumbered s entries place judging (omega (arith, count, low)) (subst (λ xs. IsJudged s (length entries) xs judging) is here) first.2)

-- ---- entries whose numbers all go on in order
module _ (s : Setting) (entries : List Shown) (begins : List (ℕ × ℕ)) (are : begins ≡ begins_shown entries) (numbered : AreNumbered (length begins) begins)
    (moved : List Shown) (same : moved ≡ entries) (r : Result Judging Refused) (says : IsSaidOf s moved r) where
  -- what is said of them
  said_of_all : MatchResult r (IsJudged s (length entries) entries)
      (IsStoppedAt s (length entries) entries)
  said_of_all =
      let all : AreNumbered (length entries) (begins_shown entries) =
      subst (λ n. AreNumbered n (begins_shown entries)) (begins_shown_count entries) (subst (λ bs. AreNumbered (length bs) bs) are numbered) in
      subst (λ xs. MatchResult r (IsJudged s (length entries) xs)
      (IsStoppedAt s (length entries) xs)) same
      (says (length entries) (subst (λ bs. AreNumbered (length entries) bs) (sym (ap begins_shown same)) all))

  -- they were judged
  pub judged_all : (judging : Judging) → r ≡ Ok judging → IsJudged s (length entries) entries judging
  judged_all judging ok =
      subst (λ z. MatchResult z (IsJudged s (length entries) entries)
      (IsStoppedAt s (length entries) entries)) ok said_of_all

  -- one is refused
  pub refused_of_all : (refused : Refused) → r ≡ Err refused → IsStoppedAt s (length entries) entries refused
  refused_of_all refused err =
      subst (λ z. MatchResult z (IsJudged s (length entries) entries)
      (IsStoppedAt s (length entries) entries)) err said_of_all
