-- Texts that grow, and the turns of a job with theirs.
use Rattle.std.proofs.Common.{◌≡◌, ℕ, ◌+◌, ◌-◌, ◌<◌, length, drop, take, get_or, arith, add-one, Bool, true, false, List, [], ◌∷◌}
use Rattle.std.proofs.Common.{◌++◌, map, refl, sym, ap, ◌∙◌, subst, append_assoc, slice_get, nat_lt, if◌then◌else◌, ◌≤◌, IfOk, OnErr, Result, Ok, Err}
use Rattle.std.specs.declared.option.Option.{Option}
use Rattle.std.specs.declared.option.Option.TheVariants.{None, Some}
use Rattle.std.proofs.lemmas.List.{append-nil, map-append, take_rest}
use Rattle.std.proofs.Math.Seq.{take-suc}
use Rattle.std.proofs.lemmas.List.Elements.{All-nil, All-push}
use Rattle.std.proofs.lemmas.Bool.{ltb-false}
use Rattle.std.proofs.lemmas.Option.{slice_get_past}
use Rattle.xc_data.specs.declared.entry.Entry.{Entry}
use Rattle.xc_data.specs.declared.entry.Event.{Event}
use Rattle.xc_data.specs.declared.entry.Event.TheVariants.{Turned, Looked}
use Rattle.xc_data.specs.declared.entry.Turn.{Turn}
use Rattle.xc_station.specs.Passes.{StationPass}
use Rattle.xc_runner.specs.Walks.{is_last}
use Rattle.xc_turnstile.specs.Views.{added}
use Rattle.xc_print.specs.Entries.{entry_text, journal_text}
use Rattle.xc_data.specs.declared.memory.NoMemory.{NoMemory}
use Rattle.xc_serve.specs.declared.answer.ServeAnswer.{ServeAnswer}
use Rattle.xc_serve.specs.Answers.{IsLook, looked_up, not_yet_line, text_at, entry_texts, turn_events}
use Rattle.xc_turnstile.specs.Insides.{Gains}
use Rattle.xc_serve.specs.Gains.{Grows, HasGone, IsMade, IsText, IsTold, IsToldJob, IsToldTurn, closing_if}
use Rattle.xc_serve.proofs.Gained.{gains_further, gains_nothing, journal_text-append, texts_added}

-- ---- texts
-- by nothing
pub grows_nothing : (a : Option (List ℕ)) → Grows a a []
grows_nothing a = λ text h. subst (IsText a) (sym (append-nil text)) h

-- by one text and then by another
pub grows_on : (a b c : Option (List ℕ)) (xs ys : List ℕ) → Grows a b xs → Grows b c ys → Grows a c (xs ++ ys)
grows_on a b c xs ys p q = λ text h. subst (IsText c) (append_assoc text xs ys) (q (text ++ xs) (p text h))

-- a text that is lost
pub grows_lost : (a b : Option (List ℕ)) (xs : List ℕ) → b ≡ None → Grows a b xs
grows_lost a b xs none = λ text h. subst (λ (o : Option (List ℕ)). IsText o (text ++ xs)) (sym none) tt

-- by a text that was made, or lost where it wasn't
pub grows_made : {E : Type 0} (r : Result (List ℕ) E) (a b : Option (List ℕ)) (text : List ℕ) → IfOk r (λ (t : List ℕ). t ≡ text)
    → IfOk r (λ (t : List ℕ). Grows a b t) → OnErr r (b ≡ None) → Grows a b text
grows_made (Ok t) a b text same grows lost = subst (Grows a b) same grows
grows_made (Err e) a b text same grows lost = grows_lost a b text lost

-- the texts of two parts
pub texts-append : (xs ys : List (ℕ × Entry)) → entry_texts (xs ++ ys) ≡ entry_texts xs ++ entry_texts ys
texts-append xs ys =
    ap journal_text (map-append (λ (e : ℕ × Entry). e.1) xs ys)
    ∙ journal_text-append (map (λ (e : ℕ × Entry). e.1) xs) (map (λ (e : ℕ × Entry). e.1) ys)

-- one entry more
pub text_more : (es : List Entry) (i : ℕ) (e : Entry) → i < length es → e ≡ get_or es i e
    → journal_text (take (i + 1) es) ≡ journal_text (take i es) ++ entry_text e
text_more es i e lt is =
    ap (λ (n : ℕ). journal_text (take n es)) (add-one i)
    ∙ (ap journal_text (take-suc es i e lt)
    ∙ (ap (λ (x : Entry). journal_text (take i es ++ x ∷ [])) (sym is)
    ∙ (journal_text-append (take i es) (e ∷ []) ∙ ap (λ (t : List ℕ). journal_text (take i es) ++ t) (append-nil (entry_text e)))))

-- the entries that were added, as a slice
pub grows_added : (a b : Option (List ℕ)) (old new was is : List Entry) → old ≡ was → new ≡ is
    → Grows a b (journal_text (take (length new - length old) (drop (length old) new))) → Grows a b (entry_texts (added (length was) is))
grows_added a b old new was is p q h =
    let rest : journal_text (take (length new - length old) (drop (length old) new)) ≡ journal_text (drop (length old) new) =
    ap journal_text (take_rest new (length old)) in
    let same : drop (length old) new ≡ drop (length was) is =
    ap (λ (xs : List Entry). drop (length xs) new) p ∙ ap (drop (length was)) q in
    subst (Grows a b) (rest ∙ (ap journal_text same ∙ sym (texts_added (length was) is))) h

-- ---- what is told
-- an answer whose text was made, or not
pub told_made : (r : Result (List ℕ) NoMemory) (told : Option ServeAnswer) (text : List ℕ) → IfOk r (λ (t : List ℕ). t ≡ text) → IsMade r told
    → IsTold told text
told_made (Ok t) told text same made = subst (λ (o : Option ServeAnswer). IsTold o text) (sym made) same
told_made (Err e) told text same made = subst (λ (o : Option ServeAnswer). IsTold o text) (sym made) tt

-- ---- a look
-- by whether the place is below the length
looked_by : (journal : List Entry) (place : ℕ) (t : Bool) → nat_lt place (length journal) ≡ t
    → text_at (slice_get journal place) ≡ (if t then text_at (slice_get journal place) else not_yet_line)
looked_by journal place true is = refl
looked_by journal place false is =
    let past : length journal ≤ place = ltb-false place (length journal) is in ap text_at (slice_get_past journal place past)

-- a look, and the text of the entry in a place
pub look_is : (seen journal : List Entry) (count place : ℕ) → seen ≡ journal → count ≡ length journal
    → IsLook seen (λ n. looked_up seen n place) (Looked count ∷ []) [] (text_at (slice_get journal place))
look_is seen journal count place same is =
    record {
      count = count;
      within = omega (arith, is, ap length same);
      gained = refl;
      none = refl;
      said = looked_by journal place (nat_lt place (length journal)) refl
          ∙ (ap (λ (n : ℕ). looked_up journal n place) (sym is) ∙ ap (λ (es : List Entry). looked_up es count place) (sym same));
    }

-- ---- a job's turns
-- one turn more
turns_more : (job : ℕ) (before : List (Option Turn)) (last : Option Turn)
    → turn_events job (before ++ last ∷ []) ≡ turn_events job before ++ Turned job last ∷ []
turns_more job before last = map-append (λ (answer : Option Turn). Turned job answer) before (last ∷ [])

-- no turn yet
pub gone_nowhere : (a : StationPass) (job : ℕ) → HasGone a a job (Some [])
gone_nowhere a job =
    record {
      before = [];
      entries = [];
      gains = gains_nothing a;
      went_on = All-nil (λ (turn : Option Turn). is_last turn ≡ false);
      text = refl;
    }

module _ (a b c : StationPass) (job : ℕ) (answer : Option Turn) (told after : Option (List ℕ)) (h : HasGone a b job told)
    (k : IsToldTurn b c job answer (record { old = told; new = after })) where
  -- what the turns so far and this one gained
  both_gain : Gains a c (turn_events job (h.before ++ answer ∷ [])) (h.entries ++ k.entries)
  both_gain =
      subst (λ (es : List Event). Gains a c es (h.entries ++ k.entries)) (sym (turns_more job h.before answer))
      (gains_further a b c (turn_events job h.before) (Turned job answer ∷ []) h.entries k.entries h.gains k.gains)

  -- and their text
  both_told : (last : Bool) → is_last answer ≡ last
      → IsText after (entry_texts (h.entries ++ k.entries) ++ closing_if last job k.block answer)
  both_told last is =
      let all : IsText after (entry_texts h.entries ++ (entry_texts k.entries ++ closing_if (is_last answer) job k.block answer)) =
      k.grows (entry_texts h.entries) h.text in
      let way : entry_texts h.entries ++ (entry_texts k.entries ++ closing_if (is_last answer) job k.block answer)
      ≡ entry_texts (h.entries ++ k.entries) ++ closing_if last job k.block answer =
      sym (append_assoc (entry_texts h.entries) (entry_texts k.entries) (closing_if (is_last answer) job k.block answer))
      ∙ ap (λ (xs : List ℕ). xs ++ closing_if (is_last answer) job k.block answer) (sym (texts-append h.entries k.entries))
      ∙ ap (λ (t : Bool). entry_texts (h.entries ++ k.entries) ++ closing_if t job k.block answer) is in
      subst (IsText after) way all

  -- it goes on
  pub turn_gone_on : is_last answer ≡ false → HasGone a c job after
  turn_gone_on is =
      record {
        before = h.before ++ answer ∷ [];
        entries = h.entries ++ k.entries;
        gains = both_gain;
        went_on = All-push (λ (turn : Option Turn). is_last turn ≡ false) h.before answer h.went_on is;
        text = subst (IsText after) (append-nil (entry_texts (h.entries ++ k.entries))) (both_told false is);
      }

  -- it was the last
  pub job_told : is_last answer ≡ true → IsToldJob a c job after
  job_told is =
      record {
        before = h.before;
        last = answer;
        block = k.block;
        entries = h.entries ++ k.entries;
        gains = both_gain;
        went_on = h.went_on;
        ends = is;
        own = k.own;
        text = both_told true is;
      }
