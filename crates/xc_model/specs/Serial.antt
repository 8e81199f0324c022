-- Transactions one after another, and how they ended.
use Rattle.std.specs.Prelude.{◌≡◌, ℕ, ◌+◌, ◌<◌, ◌≤◌, Bool, true, false, not, List, [], ◌∷◌}
use Rattle.std.specs.Prelude.{slice_get}
use Rattle.std.specs.declared.option.Option.TheVariants.{Some}
use Rattle.std.specs.List.{list_all}
use Rattle.xc_data.specs.declared.entry.Cause.{Cause}
use Rattle.xc_data.specs.declared.entry.Cause.TheVariants as cause
use Rattle.xc_data.specs.declared.entry.Outcome.{Outcome}
use Rattle.xc_data.specs.declared.entry.Outcome.TheVariants.{Committed, Aborted}
use Rattle.xc_data.specs.declared.entry.Entry.{Entry}
use Rattle.xc_model.specs.EntryEnds.{is_tried_again}

-- ---- transactions one after another
-- none of its attempts is to be tried again
abbrev pub is_alone : Outcome → Bool
is_alone (Committed late) = true
is_alone (Aborted report) = not (is_tried_again report.cause)

-- each entry began at its own place, the numbers rise by one, and no transaction met another; the first of these
-- entries stands at this place
abbrev pub AreSerial : ℕ → List Entry → Type 0
AreSerial place [] = Unit {0}
AreSerial place (e ∷ journal) = (e.tx ≡ place + 1) × (e.began ≡ place) × (is_alone e.outcome ≡ true) × AreSerial (place + 1) journal

-- the jobs' numbers never fall
abbrev pub JobsRise : List Entry → Type 0
JobsRise journal = (i j : ℕ) (a b : Entry) → slice_get journal i ≡ Some a → slice_get journal j ≡ Some b → i < j → a.job ≤ b.job

-- a journal of jobs that ran one after another
pub record IsSerial (journal : List Entry) : Type 0 where
  pub order : AreSerial 0 journal
  pub jobs : JobsRise journal

-- ---- how transactions ended
-- an abort that the script asked, or after which the next transaction is asked as after one
abbrev pub is_asked : Cause → Bool
is_asked cause.Asked = true
is_asked (cause.Stuck failed) = true
-- no other cause is, nor one yet to come
is_asked _ = false

-- a transaction that was done with: it committed, or aborted itself
abbrev pub is_final : Outcome → Bool
is_final (Committed late) = true
is_final (Aborted report) = is_asked report.cause

-- all of a journal were
abbrev pub all_final : List Entry → Bool
all_final journal = list_all (λ (e : Entry). is_final e.outcome) journal
