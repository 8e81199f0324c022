-- What is received, or made, leaves each pipe and each pair there.
use Rattle.std.proofs.Common.{◌≡◌, ℕ, Bool, true, false, cond, Some, IsTrue, Ok, Err, ap, sym, ◌∙◌, refl, subst}
use Rattle.std.specs.Prelude.{Result, is_some, drop}
use Rattle.std.specs.FinMap as map
use Rattle.std.specs.Ordering.{eq_by_cmp}
use Rattle.xc_maps.proofs.Laws.{num_total}
use Rattle.xc_maps.specs.Keys.{num_cmp}
use Rattle.xc_data.specs.Step.{Step}
use Rattle.xc_data.specs.declared.object.Num.{Num}
use Rattle.xc_data.specs.declared.script.HostCallKind.TheVariants as kind
use Rattle.xc_host.specs.Contents.{Contents}
use Rattle.xc_host.specs.Kept.{KeepsData}
use Rattle.xc_host.specs.Model.{Answers, HostModel}
use Rattle.xc_host.specs.Pairs.{after_receipt, pair_in, with_new_pair}
use Rattle.xc_host.specs.declared.errors.HostErr.{HostErr}
use Rattle.xc_host.specs.declared.pipes.Took.{Took}
use Rattle.xc_host.specs.declared.pipes.Took.TheVariants as took
use Rattle.xc_world.specs.World.{Pair, empty_pair, waiting, with_waiting}
use Rattle.xc_calls.proofs.Laws.{keeps_same}

-- what is there in a map is there where something is put into it
still_there : {X : Type 0} (m : map.FinMap num_cmp X) (at num : Num) (x : X) → is_some (map.get m num) ≡ true → is_some (map.get (map.insert m at x) num) ≡ true
still_there {X = X} m at num x is = ap is_some (map.get-insert num_total m at x num) ∙ by_test (eq_by_cmp num_cmp num at)
  where
    by_test : (b : Bool) → is_some (cond b (Some x) (map.get m num)) ≡ true
    by_test true = refl
    by_test false = is

-- contents with a pair put under a number
keeps_put_pair : (c d : Contents) (at : Num) (pair : Pair) → d ≡ record c { pairs = map.insert c.pairs at pair } → KeepsData c d
keeps_put_pair c d at pair did =
    subst (KeepsData c) (sym did) (record { pipes = λ num is. is; pairs = λ num is. still_there c.pairs at num pair is })

-- after a receipt
pub keeps_receipt : (pair : Num) (side : ℕ) (found : Took) (c d : Contents) → d ≡ after_receipt pair side found c → KeepsData c d
keeps_receipt pair side (took.Bytes message) c d did =
    let q = pair_in c pair in
    keeps_put_pair c d pair (with_waiting q side (drop 1 (waiting q side))) did
keeps_receipt pair side took.Empty c d did = keeps_same c d did
keeps_receipt pair side took.End c d did = keeps_same c d did

-- the same where it may have failed
pub keeps_received : {H : Type 0} (model : HostModel H) (pair : Num) (side : ℕ) (step : Step H) (answer : Result Took HostErr)
    → Answers model kind.Recv step answer (after_receipt pair side) → IsTrue model.tells
    → KeepsData (model.contents step.old) (model.contents step.new)
keeps_received model pair side step (Ok found) answered tells =
    keeps_receipt pair side found (model.contents step.old) (model.contents step.new) (answered.done tells)
keeps_received model pair side step (Err e) answered tells = keeps_same (model.contents step.old) (model.contents step.new) (answered.refused tells)

-- after the making of a pair, whether it is made or not
pub keeps_made : {H : Type 0} (model : HostModel H) (num : Num) (step : Step H) (answer : Result (Unit {0}) HostErr)
    → Answers model kind.NewPair step answer (λ _ c. with_new_pair c num) → IsTrue model.tells
    → KeepsData (model.contents step.old) (model.contents step.new)
keeps_made model num step (Ok done) answered tells =
    keeps_put_pair (model.contents step.old) (model.contents step.new) num empty_pair (answered.done tells)
keeps_made model num step (Err e) answered tells = keeps_same (model.contents step.old) (model.contents step.new) (answered.refused tells)
