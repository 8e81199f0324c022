-- An entry at which a judgement stopped.
use Rattle.std.specs.Prelude.{◌≡◌, ℕ, List}
use Rattle.xc_model.specs.Setting.{Setting}
use Rattle.xc_shown.specs.declared.shown.Shown.{Shown}
use Rattle.xc_check.specs.Refusals.{IsRefusedAt}
use Rattle.xc_check.specs.Untold.{is_untold}
use Rattle.xc_check.specs.declared.entries.Refused.{Refused}

-- it is refused by its calls, and this says whether its text leaves open that it is false
pub record IsStoppedAt (s : Setting) (count : ℕ) (entries : List Shown) (stop : Refused) : Type 0 where
  pub refused : IsRefusedAt s count entries stop.place stop.reason
  pub untold : stop.is_untold ≡ is_untold s refused.shown.entry stop.reason
