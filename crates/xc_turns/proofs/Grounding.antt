-- A turn keeps each conflict and each revocation grounded: it names a holder, or an older transaction.
use Rattle.std.proofs.Common.{◌≡◌, ℕ, List, length, ap, sym, subst}
use Rattle.std.specs.Prelude.{IsTrue, Option, slice_get}
use Rattle.std.specs.declared.option.Option.TheVariants.{Some}
use Rattle.xc_data.specs.declared.entry.Entry.{Entry}
use Rattle.xc_data.specs.declared.entry.Turn.{Turn}
use Rattle.xc_data.specs.declared.entry.Mark.{Mark}
use Rattle.xc_model.specs.Setting.{Setting}
use Rattle.xc_model.specs.Moment.{TxView, JobView, Moment}
use Rattle.xc_script.specs.declared.ask.Ask.{Ask}
use Rattle.xc_model.specs.Rows.{IsTurn, lasts_behind}
use Rattle.xc_model.specs.Movers.{IsActiveAt, asked_at}
use Rattle.xc_model.specs.Entering.{entry_of}
use Rattle.xc_model.specs.Progress.{progress_of}
use Rattle.xc_model.specs.Played.{IsPlayedSoFar}
use Rattle.xc_model.specs.Stories.{StoriesHold}
use Rattle.xc_model.specs.Stories.{reading}
use Rattle.xc_turns.proofs.Progressing.{lasts_grow, lasts_stay}
use Rattle.xc_turns.proofs.KindsOfTurns.{Kind, rests, begins, moves, stays, enters}
use Rattle.xc_turns.proofs.TurnKinds.{row_kind}
use Rattle.xc_turns.proofs.GroundMoves.{rests_grounded, begins_grounded, moves_grounded}
use Rattle.xc_turns.proofs.GroundWaits.{stays_grounded}
use Rattle.xc_turns.proofs.GroundEntries.{AreAllGrounded, enters_grounded}

-- ---- each kind of turn
restated : (s : Setting) (words words' : ℕ) (marks marks' : ℕ → Option Mark) (lasts lasts' : List Ask) (journal journal' : List Entry)
    (jobs jobs' : List JobView) → words' ≡ words → marks' ≡ marks → lasts' ≡ lasts → journal' ≡ journal → jobs' ≡ jobs
    → AreAllGrounded (reading s words marks) lasts journal jobs → AreAllGrounded (reading s words' marks') lasts' journal' jobs'
restated s words words' marks marks' lasts lasts' journal journal' jobs jobs' e m l f g all =
    subst (λ (n : ℕ). AreAllGrounded (reading s n marks') lasts' journal' jobs') (sym e)
    (subst (λ (ms : ℕ → Option Mark). AreAllGrounded (reading s words ms) lasts' journal' jobs') (sym m)
    (subst (λ (xs : List Ask). AreAllGrounded (reading s words marks) xs journal' jobs') (sym l)
    (subst (λ (es : List Entry). AreAllGrounded (reading s words marks) lasts es jobs') (sym f)
    (subst (λ (js : List JobView). AreAllGrounded (reading s words marks) lasts journal js) (sym g) all))))

kind_grounded : (s : Setting) (at : ℕ) (old new : Moment) (job : JobView) → slice_get old.jobs at ≡ Some job
    → (IsTrue s.tells → (tx : TxView) → (is : IsActiveAt old.jobs at tx)
    → IsPlayedSoFar (asked_at s is.0) (length old.words) (progress_of s.script old.journal) at tx)
    → (told : StoriesHold s (length old.words) old.marks old.journal old.jobs) → Kind s at old job new
    → AreAllGrounded (reading s (length new.words) new.marks) (lasts_behind (asked_at s job) old.journal new.journal told.lasts)
    new.journal new.jobs
kind_grounded s at old new job stands played told (rests k) =
    restated s _ _ _ _ _ _ _ _ _ _ k.sets.words k.marks (lasts_stay _ _ _ told.lasts k.journal) k.journal k.sets.jobs
    (rests_grounded s at old new job stands told k)
kind_grounded s at old new job stands played told (begins k) =
    restated s _ _ _ _ _ _ _ _ _ _ k.sets.words k.marks (lasts_stay _ _ _ told.lasts k.journal) k.journal k.sets.jobs
    (begins_grounded s at old new job stands told k)
kind_grounded s at old new job stands played told (moves k) =
    restated s _ _ _ _ _ _ _ _ _ _ k.sets.words k.marks (lasts_stay _ _ _ told.lasts k.journal) k.journal k.sets.jobs
    (moves_grounded s at old new job stands told k)
kind_grounded s at old new job stands played told (stays k) =
    restated s _ _ _ _ _ _ _ _ _ _ k.sets.words (ap (λ (n : Moment). n.marks) k.waits.behind) (lasts_stay _ _ _ told.lasts k.journal) k.journal
    k.sets.jobs (stays_grounded s at old new job stands told k)
kind_grounded s at old new job stands played told (enters k) =
    restated s _ _ _ _ _ _ _ _ _ _ k.words k.marks (lasts_grow _ _ _ told.lasts (entry_of k.tx at k.outcome) k.journal) k.journal k.jobs
    (enters_grounded s at old new job stands told k played)

-- after a turn each conflict names a holder, and each revocation an older transaction
pub grounds_kept : (s : Setting) (at : ℕ) (old new : Moment) (answer : Turn) → (t : IsTurn s at old answer new)
    → (IsTrue s.tells → (tx : TxView) → (is : IsActiveAt old.jobs at tx)
    → IsPlayedSoFar (asked_at s is.0) (length old.words) (progress_of s.script old.journal) at tx)
    → (told : StoriesHold s (length old.words) old.marks old.journal old.jobs)
    → AreAllGrounded (reading s (length new.words) new.marks) (lasts_behind (asked_at s t.job) old.journal new.journal told.lasts)
    new.journal new.jobs
grounds_kept s at old new answer t played told =
    kind_grounded s at old new t.job t.there played told (row_kind s at old new answer t)
