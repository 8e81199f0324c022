-- What is taken, or made, leaves each pipe and each pair there.
use Rattle.std.proofs.Common.{◌≡◌, IsTrue, Ok, Err, length, sym, subst}
use Rattle.std.specs.Prelude.{Result}
use Rattle.xc_data.specs.Step.{Step}
use Rattle.xc_data.specs.declared.object.Num.{Num}
use Rattle.xc_data.specs.declared.script.HostCallKind.TheVariants as kind
use Rattle.xc_host.specs.Contents.{Contents}
use Rattle.xc_host.specs.Kept.{KeepsData}
use Rattle.xc_host.specs.Model.{Answers, HostModel}
use Rattle.xc_host.specs.Pipes.{after_take, with_new_pipe}
use Rattle.xc_host.specs.declared.errors.HostErr.{HostErr}
use Rattle.xc_host.specs.declared.pipes.Took.{Took}
use Rattle.xc_host.specs.declared.pipes.Took.TheVariants as took
use Rattle.xc_host.proofs.Laws.{keeps_new, keeps_taken}
use Rattle.xc_calls.proofs.Laws.{keeps_same}

-- after a take
pub keeps_take : (pipe : Num) (found : Took) (c d : Contents) → d ≡ after_take pipe found c → KeepsData c d
keeps_take pipe (took.Bytes bytes) c d did = subst (KeepsData c) (sym did) (keeps_taken c pipe (length bytes))
keeps_take pipe took.Empty c d did = keeps_same c d did
keeps_take pipe took.End c d did = keeps_same c d did

-- after the making of a pipe, whether it is made or not
pub keeps_making : {H : Type 0} (model : HostModel H) (num : Num) (step : Step H) (answer : Result (Unit {0}) HostErr)
    → Answers model kind.NewPipe step answer (λ _ c. with_new_pipe c num) → IsTrue model.tells
    → KeepsData (model.contents step.old) (model.contents step.new)
keeps_making model num step (Ok done) answered tells =
    subst (KeepsData (model.contents step.old)) (sym (answered.done tells)) (keeps_new (model.contents step.old) num)
keeps_making model num step (Err e) answered tells = keeps_same (model.contents step.old) (model.contents step.new) (answered.refused tells)
