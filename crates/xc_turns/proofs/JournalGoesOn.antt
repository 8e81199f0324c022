-- The journal after a turn.
use Rattle.std.proofs.Common.{◌≡◌, ℕ, List, [], ◌∷◌, ◌++◌, sym, ◌∙◌, append-nil}
use Rattle.xc_data.specs.declared.entry.Entry.{Entry}
use Rattle.xc_data.specs.declared.entry.Turn.{Turn}
use Rattle.xc_model.specs.Setting.{Setting}
use Rattle.xc_model.specs.Moment.{JobView, Moment}
use Rattle.xc_model.specs.Rows.{IsTurn}
use Rattle.xc_model.specs.Entering.{entry_of}
use Rattle.xc_turns.proofs.KindsOfTurns.{Kind, rests, begins, moves, stays, enters}
use Rattle.xc_turns.proofs.TurnKinds.{row_kind}

-- it is the old one, with nothing after it
same : (old new : Moment) → new.journal ≡ old.journal → (more : List Entry) × (new.journal ≡ old.journal ++ more)
same old new is = ([], is ∙ sym (append-nil old.journal))

-- or with an entry after it
goes_on : (s : Setting) (at : ℕ) (old : Moment) (job : JobView) (new : Moment) → Kind s at old job new
    → (more : List Entry) × (new.journal ≡ old.journal ++ more)
goes_on s at old job new (rests k) = same old new k.journal
goes_on s at old job new (begins k) = same old new k.journal
goes_on s at old job new (moves k) = same old new k.journal
goes_on s at old job new (stays k) = same old new k.journal
goes_on s at old job new (enters k) = (entry_of k.tx at k.outcome ∷ [], k.journal)

-- so it is after each row
pub journal_goes_on : (s : Setting) (at : ℕ) (old new : Moment) (answer : Turn) → IsTurn s at old answer new
    → (more : List Entry) × (new.journal ≡ old.journal ++ more)
journal_goes_on s at old new answer turn = goes_on s at old turn.job new (row_kind s at old new answer turn)
