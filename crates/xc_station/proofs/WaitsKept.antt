-- What each turn says of waiting.
use Rattle.std.proofs.Common.{ℕ, subst}
use Rattle.xc_data.specs.declared.entry.Turn.{Turn}
use Rattle.xc_model.specs.Setting.{Setting}
use Rattle.xc_model.specs.Moment.{Moment}
use Rattle.xc_model.specs.Rows.{IsTurn}
use Rattle.xc_turns.proofs.Laws.{may_wait, waits_counted, count_kept, others_kept, marks_made}
use Rattle.xc_station.specs.Waits.{IsFairWait}

-- each row does
pub fair_wait : (s : Setting) (at : ℕ) (old new : Moment) (answer : Turn) → IsTurn s at old answer new → IsFairWait s at old answer new
fair_wait s at old new answer row =
    record {
      waits = λ object number is. may_wait s at old new object number (subst (λ a. IsTurn s at old a new) is row);
      counts = λ object number is. waits_counted s at old new object number (subst (λ a. IsTurn s at old a new) is row);
      kept = count_kept s at old new answer row;
      others = λ j. others_kept s at j old new answer row;
      marks = λ number m. marks_made s at old new answer number m row;
    }
