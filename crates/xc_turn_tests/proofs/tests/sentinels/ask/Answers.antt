use Rattle.std.proofs.Common.{◌≡◌, ℕ, List, ap, sym, ◌∙◌}
use Rattle.xc_data.specs.declared.claim.Claim.{Claim}
use Rattle.xc_data.specs.Step.{Step}
use Rattle.xc_locks.specs.Table.{Holds, Table, claimed, held_mode, mode_in}
use Rattle.xc_locks.proofs.Laws.{claimed-holding}
use Rattle.xc_sentinel.specs.Asking.{Claiming, IsAnswer, held_after}
use Rattle.xc_sentinel.specs.declared.seat.ClaimVerdict.{ClaimVerdict}
use Rattle.xc_sentinel.specs.declared.seat.ClaimVerdict.TheVariants as verdict
use Rattle.xc_sentinel.specs.declared.sentinels.Sentinels.{Sentinels}
use Rattle.xc_turn_tests.proofs.tests.sentinels.ask.Goals as goal

-- by the answer
answered : (s : Step Sentinels) (tx : ℕ) (c : Claiming) (v : ClaimVerdict) (held after : List Claim) → IsAnswer s tx c v → after ≡ held_after v held c.claims
    → Holds s.old.claims tx held → Holds s.new.claims tx after
answered s tx c verdict.Granted held after is list holds o =
    is.held o ∙ ap (λ m. claimed m c.claims o) (holds o) ∙ claimed-holding held c.claims o ∙ ap (λ items. mode_in items o) (sym list)
answered s tx c (verdict.Busy object holder) held after is list holds o =
    ap (λ (t : Table). held_mode t tx o) is.table ∙ holds o ∙ ap (λ items. mode_in items o) (sym list)
answered s tx c (verdict.Conflict object holder) held after is list holds o =
    ap (λ (x : Sentinels). held_mode x.claims tx o) is.same ∙ holds o ∙ ap (λ items. mode_in items o) (sym list)
answered s tx c verdict.NoMemory held after is list holds o =
    ap (λ (x : Sentinels). held_mode x.claims tx o) is.1 ∙ holds o ∙ ap (λ items. mode_in items o) (sym list)

pub returns-clause-holds : goal.returns-clause-holds
returns-clause-holds c =
    answered (record { old = c.args.sentinels.now; new = c.ask.new.self }) c.args.tx
    (record { claims = c.args.claims.now; patient = c.args.patient; at = 0 }) c.ask.result c.make_room.new.self.items c.ask.new.held.items
    c.ask.ensures.answer c.ask.ensures.list
    (λ o. c.requires.holds o ∙ ap (λ items. mode_in items o) (sym c.in_ok-make_room.ensures.items))
