-- Two passes that each try to enter once, and meet.
use Rattle.std.proofs.Common.{◌≡◌, ◌+◌, ◌%◌, ◌^◌, ◌⊎◌, Some, sym, ap, ◌∙◌, subst}
use Rattle.std.specs.Prelude.{IsSome}
use Rattle.xc_turnstile.specs.declared.view.View.{View}
use Rattle.xc_turnstile.specs.declared.turnstile.Entered.TheVariants.{Inside}
use Rattle.xc_turnstile.specs.Enterings.{HasEntered}
use Rattle.xc_turnstile.specs.Insides.{MayFollow}
use Rattle.xc_turnstile.specs.Known.{Known}
use Rattle.xc_turnstile.specs.Meanings.{Meaning}
use Rattle.xc_turnstile.specs.Pairs.{EntersOnce}
use Rattle.xc_turnstile.specs.Views.{BeginsWith, left_view}

-- a pass that was handed x may leave with what follows it
module _ {X E V O : Type 0} (m : Meaning X E V O) (pass hold : Known E V O) (x y : X)
    (entered : HasEntered m pass (Inside x hold)) (follows : MayFollow m x y) where
  pub leaves_begins : BeginsWith (m.journal y) hold.view.given
  leaves_begins = subst (BeginsWith (m.journal y)) (sym (ap (λ (v : View E V O). v.given) entered.3)) follows.front

  pub leaves_origin : hold.view.origin ≡ Some (m.origin y)
  leaves_origin = ap (λ (v : View E V O). v.origin) entered.3 ∙ (entered.2 ∙ sym (ap Some follows.origin))

  pub leaves_event : (m.count y ≡ hold.view.counted) ⊎ (IsSome (m.last y) × (m.count y ≡ (hold.view.counted + 1) % 2 ^ 64))
  leaves_event =
      subst (λ n. (m.count y ≡ n) ⊎ (IsSome (m.last y) × (m.count y ≡ (n + 1) % 2 ^ 64))) (sym (ap (λ (v : View E V O). v.counted) entered.3)) follows.event

  pub enters_once : (by : X → X → Type 0) → by x y → (left : Known E V O) → left.table ≡ hold.table
      → left.view ≡ left_view (m.journal y) (m.count y) (m.last y) hold.view → EntersOnce m by pass left
  enters_once by changed left table view =
      let was = view ∙ ap (left_view (m.journal y) (m.count y) (m.last y)) entered.3 in
      record {
        found = x;
        put = y;
        changed = changed;
        table = table ∙ entered.0;
        begins = entered.1;
        origin = entered.2;
        view = was;
        mine = ap (λ (v : View E V O). v.mine) was;
      }
