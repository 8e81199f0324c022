use Rattle.std.proofs.Common.{ap, sym, ◌∙◌, true, is_some}
use Rattle.std.specs.FinMap as map
use Rattle.xc_data.specs.declared.object.Object.TheVariants.{Pipe}
use Rattle.xc_host.specs.Pipes.{shut_in}
use Rattle.xc_world.proofs.Laws.{there_put}
use Rattle.xc_memhost.proofs.Bodies.{pipe_changed}
use Rattle.xc_memhost.proofs.objects.HostObjects.shut_pipe.Goals as goal

pub replace-requires-2 : goal.replace-requires-2
replace-requires-2 c = record { there = ap (λ m. is_some (map.get m c.args.num)) c.replace.ensures.replaced ∙ there_put _ _ _ }

pub returns : goal.returns
returns c =
    pipe_changed (λ p. record p { shut = true }) _ _ _ _ _ _ _
    (sym c.in-Some.is ∙ c.replace.ensures.value) c.replace.ensures.replaced c.shut.ensures c.replace-2.ensures.replaced
    ∙ ap (λ x. shut_in x (Pipe c.args.num)) c.self.view_is
