-- What a pass gains, one entering after another.
use Rattle.std.specs.Prelude.{Box}
use Rattle.std.proofs.Common.{◌≡◌, ℕ, ◌+◌, List, [], ◌∷◌, ◌++◌, map, length, drop, refl, sym, ap, ◌∙◌, subst, arith, append_assoc}
use Rattle.std.proofs.Math.ListN.{drop_of_length-le}
use Rattle.std.proofs.lemmas.List.{append-nil}
use Rattle.xc_data.specs.declared.entry.Entry.{Entry}
use Rattle.xc_data.specs.declared.entry.Event.{Event}
use Rattle.xc_station.specs.Passes.{StationMeaning, StationPass}
use Rattle.xc_turnstile.specs.Insides.{Gains, GainsEvent, IsInside, IsNext}
use Rattle.xc_turnstile.specs.Meanings.{boxed}
use Rattle.xc_turnstile.specs.Views.{added, left_view, numbered}
use Rattle.xc_turnstile.proofs.Laws.{gains_at, pass_goes_further, stands_append, stands_longer, starts_self}
use Rattle.xc_print.specs.Entries.{journal_text}
use Rattle.xc_serve.specs.Answers.{entry_texts}

-- ---- one entering

-- a value that was handed out in its box
pub unboxed : {X Z : Type 0} (m : StationMeaning X) (pass hold : StationPass) (b : Box X Z) → IsInside (boxed m) pass hold b → IsInside m pass hold b.value
unboxed m pass hold b h = record { table = h.table; begins = h.begins; origin = h.origin; lost = h.lost; more = h.more; view = h.view }

module _ {X : Type 0} (m : StationMeaning X) (pass hold : StationPass) (x y : X) (event : Event) (inside : IsInside m pass hold x) (next : IsNext m x y event)
    (left : StationPass) (table : left.table ≡ hold.table) (view : left.view ≡ left_view (m.journal y) (m.count y) (m.last y) hold.view) where
  -- the event alone, where no entry was added
  pub gains_quietly : m.journal y ≡ m.journal x → Gains pass left (event ∷ []) []
  gains_quietly same =
      let none : drop (length (m.journal x)) (m.journal y) ≡ [] =
      ap (drop (length (m.journal x))) same ∙ drop_of_length-le (m.journal x) (omega arith) in
      subst (λ (es : List (ℕ × Entry)). Gains pass left (event ∷ []) es) (ap (numbered (length (m.journal x))) none)
      (gains_at m pass hold x y event inside next left table view)

-- the same, by what it has of its own
pub gains_no_entry : (old new : StationPass) (event : Event) → GainsEvent old new event → new.view.mine ≡ old.view.mine → Gains old new (event ∷ []) []
gains_no_entry old new event g mine =
    record { goes = g.gains.goes; gained = g.gains.gained; mine = mine ∙ sym (append-nil old.view.mine); stand = tt }

-- ---- several
-- nothing is gained
pub gains_nothing : (a : StationPass) → Gains a a [] []
gains_nothing a =
    record {
      goes = record {
        table = refl;
        shares = refl;
        origin = refl;
        seen = starts_self a.view.seen;
        added = [];
        mine = sym (append-nil a.view.mine);
      };
      gained = sym (append-nil a.view.events);
      mine = sym (append-nil a.view.mine);
      stand = tt;
    }

-- what is gained one after the other
pub gains_further : (a b c : StationPass) (es fs : List Event) (ps qs : List (ℕ × Entry)) → Gains a b es ps → Gains b c fs qs → Gains a c (es ++ fs) (ps ++ qs)
gains_further a b c es fs ps qs p q =
    record {
      goes = pass_goes_further a b c p.goes q.goes;
      gained = q.gained ∙ (ap (λ xs. xs ++ fs) p.gained ∙ append_assoc a.view.events es fs);
      mine = q.mine ∙ (ap (λ xs. xs ++ qs) p.mine ∙ append_assoc a.view.mine ps qs);
      stand = stands_append ps qs c.view.seen (stands_longer ps c.view.seen b.view.seen q.goes.seen p.stand) q.stand;
    }

-- ---- texts
-- the entries of numbered ones
pub numbered_entries : (n : ℕ) (es : List Entry) → map (λ (e : ℕ × Entry). e.1) (numbered n es) ≡ es
numbered_entries n [] = refl
numbered_entries n (e ∷ es) = ap (λ (xs : List Entry). e ∷ xs) (numbered_entries (n + 1) es)

-- the text of two parts
pub journal_text-append : (es fs : List Entry) → journal_text (es ++ fs) ≡ journal_text es ++ journal_text fs
journal_text-append [] fs = refl
journal_text-append (e ∷ es) fs = rw (journal_text-append es fs) (sym (append_assoc _ (journal_text es) (journal_text fs)))

-- the text of what was added
pub texts_added : (n : ℕ) (journal : List Entry) → entry_texts (added n journal) ≡ journal_text (drop n journal)
texts_added n journal = ap journal_text (numbered_entries n (drop n journal))
