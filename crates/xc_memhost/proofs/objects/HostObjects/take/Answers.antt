use Rattle.std.proofs.Common.{ap, sym, ◌∙◌, take, drop, length, is_some}
use Rattle.std.proofs.lemmas.Result.{IfOk-weaker, on_err_weaker}
use Rattle.std.specs.FinMap as map
use Rattle.std.specs.Prelude.{unwrap_or}
use Rattle.xc_host.specs.Pipes.{pipe_in, taken_from}
use Rattle.xc_world.specs.World.{empty_pipe}
use Rattle.xc_world.proofs.Laws.{there_put}
use Rattle.xc_memhost.proofs.Bodies.{pipe_changed, pipe_same}
use Rattle.xc_memhost.proofs.objects.HostObjects.take.Goals as goal

pub replace-requires-2 : goal.replace-requires-2
replace-requires-2 c = record { there = ap (λ m. is_some (map.get m c.args.pipe)) c.replace.ensures.replaced ∙ there_put _ _ _ }

pub returns-clause-front : goal.returns-clause-front
returns-clause-front c =
    IfOk-weaker c.take-front.result _ _
    (λ front is.
    is ∙ ap (λ o. take c.args.n (unwrap_or o empty_pipe).held) (sym c.in-Some.is ∙ c.replace.ensures.value)
    ∙ ap (λ x. take c.args.n (pipe_in x c.args.pipe).held) c.self.view_is)
    c.take-front.ensures.front

pub returns-clause-rest : goal.returns-clause-rest
returns-clause-rest c =
    IfOk-weaker c.take-front.result _ _
    (λ front rest.
    pipe_changed (λ p. record p { held = drop (length front) p.held }) _ _ _ _ _ _ _
    (sym c.in-Some.is ∙ c.replace.ensures.value) c.replace.ensures.replaced rest c.replace-2.ensures.replaced
    ∙ ap (λ x. taken_from x c.args.pipe (length front)) c.self.view_is)
    c.take-front.ensures.rest

pub returns-clause-err : goal.returns-clause-err
returns-clause-err c =
    on_err_weaker c.take-front.result
    (λ same.
    pipe_same _ _ _ _ _ _ _ (sym c.in-Some.is ∙ c.replace.ensures.value) c.replace.ensures.replaced same c.replace-2.ensures.replaced
    ∙ c.self.view_is)
    c.take-front.ensures.err
