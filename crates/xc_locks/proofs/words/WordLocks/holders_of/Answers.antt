use Rattle.std.proofs.Common.{◌≡◌, ℕ, Option, Some, None, IfSome, IfNone, List, Bor, ap, ◌∙◌}
use Rattle.std.specs.FinMap as map
use Rattle.std.specs.Slice.{IsItemAt}
use Rattle.xc_data.specs.declared.claim.Mode.{Mode}
use Rattle.xc_locks.specs.Keys.{word_holder, word_holder_cmp}
use Rattle.xc_locks.specs.Rows.{mode_among}
use Rattle.xc_locks.specs.Words.{words_of}
use Rattle.xc_locks.proofs.ByWord.{none_beyond, mode_there}
use Rattle.xc_locks.proofs.words.WordLocks.holders_of.Goals as goal

module _ (ms : List (List (ℕ × Mode))) (t : map.FinMap word_holder_cmp Mode) (is : words_of ms ≡ t) (v : ℕ) where
  -- the list at a word's place has its holders
  some_at : (r : Option (Bor (List (ℕ × Mode)))) → IsItemAt ms v r → IfSome r (λ m. (n : ℕ) → map.get t (word_holder v n) ≡ mode_among m.now n)
  some_at None item = tt
  some_at (Some m) item = mode_there ms t is v m.now item.3.0 item.1

  -- where there is none, nobody holds the word
  none_at : (r : Option (Bor (List (ℕ × Mode)))) → IsItemAt ms v r → IfNone r ((n : ℕ) → map.get t (word_holder v n) ≡ None)
  none_at None item = λ n. none_beyond ms t is v n item.3
  none_at (Some m) item = tt

pub returns-clause-some : goal.returns-clause-some
returns-clause-some c =
    some_at c.deref.result.now c.args.self.now (ap words_of c.deref.ensures.value ∙ c.self.view_is) c.args.at c.get.result c.get.ensures.lookup

pub returns-clause-none : goal.returns-clause-none
returns-clause-none c =
    none_at c.deref.result.now c.args.self.now (ap words_of c.deref.ensures.value ∙ c.self.view_is) c.args.at c.get.result c.get.ensures.lookup
