-- What an entry's calls led to, by its outcome.
use Rattle.std.proofs.Common.{◌≡◌, ℕ, ◌≤◌, Bool, Option, Some, None, List, length, refl, sym, ◌∙◌, subst}
use Rattle.std.specs.Bool.{OnTrue}
use Rattle.std.specs.Prelude.{IsSome}
use Rattle.std.proofs.lemmas.Bool.{OnTrue_at, OnTrue_from}
use Rattle.xc_data.specs.declared.call.LateCall.{LateCall}
use Rattle.xc_data.specs.declared.call.LateEnd.{LateEnd}
use Rattle.xc_data.specs.declared.entry.Outcome.{Outcome}
use Rattle.xc_data.specs.declared.entry.Outcome.TheVariants.{Committed, Aborted}
use Rattle.xc_data.specs.declared.entry.Report.{Report}
use Rattle.xc_data.specs.declared.private.Private.{Private}
use Rattle.xc_machine.specs.Replay.{led_by}
use Rattle.xc_world.specs.Run.{BodyResult}
use Rattle.xc_world.specs.Sound.{IsSound}
use Rattle.xc_world.specs.World.{World}
use Rattle.xc_judge.specs.Ran.{IsKept, IsLedOn, IsLedOnBy, IsRan}
use Rattle.xc_judge.specs.declared.ran.Ran.{Ran}

-- of an entry that committed something is kept
pub kept_some : (kept : Option Ran) (b : BodyResult) (o : Outcome) (late : List LateEnd) → o ≡ Committed late → IsKept kept b o → IsSome kept
kept_some kept b (Aborted report) late is so = cc is
kept_some None b (Committed ends) late is so = absurd so
kept_some (Some ran) b (Committed ends) late is so = search

-- and that is where its calls led
pub kept_led : (kept : Option Ran) (ran : Ran) (b : BodyResult) (o : Outcome) (late : List LateEnd) → kept ≡ Some ran → o ≡ Committed late
    → IsKept kept b o → IsLedOn ran.world ran.me.value b late
kept_led kept ran b o late there is so = subst (λ k. IsKept k b (Committed late)) there (subst (IsKept kept b) is so)

-- one that was aborted left what its body left
pub led_run : (ran : Ran) (b : BodyResult) (tx : ℕ) (o : Outcome) (report : Report) → o ≡ Aborted report → IsLedOnBy ran b tx o → IsRan ran b tx
led_run ran b tx o report is so = subst (IsLedOnBy ran b tx) is so

-- of one that was not aborted it is kept where its calls led
pub kept_from : (ran : Ran) (b : BodyResult) (tx : ℕ) (o : Outcome) → ((report : Report) → o ≡ Aborted report → ⊥) → IsLedOnBy ran b tx o
    → IsKept (Some ran) b o
kept_from ran b tx (Committed late) none so = so
kept_from ran b tx (Aborted report) none so = absurd (none report refl)

-- late calls that end so lead on from what the body left
pub led_on : (ends : Bool) (ran : Ran) (w : World) (b : BodyResult) (tx : ℕ) (made : List LateCall) (late : List LateEnd) → IsRan ran b tx
    → made ≡ ran.traced.replied.late → OnTrue ends (w ≡ led_by ran.world made late) → OnTrue ends (length w.words ≡ length ran.world.words)
    → ((you : Private) (ty : ℕ) → IsSound ran.world you ty → OnTrue ends (IsSound w you ty)) → OnTrue ends (IsLedOn w ran.me.value b late)
led_on ends ran w b tx made late so made_is world words sound =
    OnTrue_from ends (IsLedOn w ran.me.value b late) (λ e. record {
      world_is = OnTrue_at e world ∙ (λ i. led_by (so.world_is i) ((made_is ∙ so.late) i) late);
      me_is = so.me_is;
      sound = λ you ty before. OnTrue_at e (sound you ty (subst (λ (v : World). IsSound v you ty) (sym so.world_is) before));
      few = subst (λ n. n ≤ 4096) (sym (OnTrue_at e words)) so.few;
    })
