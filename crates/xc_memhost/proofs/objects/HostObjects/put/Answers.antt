use Rattle.std.proofs.Common.{ap, sym, ◌∙◌, ◌++◌, is_some}
use Rattle.std.proofs.lemmas.Result.{on_ok_weaker, on_err_weaker}
use Rattle.std.specs.FinMap as map
use Rattle.xc_host.specs.Pipes.{put_into}
use Rattle.xc_world.proofs.Laws.{there_put}
use Rattle.xc_memhost.proofs.Bodies.{pipe_changed, pipe_same}
use Rattle.xc_memhost.proofs.objects.HostObjects.put.Goals as goal

pub replace-requires-2 : goal.replace-requires-2
replace-requires-2 c = record { there = ap (λ m. is_some (map.get m c.args.pipe)) c.replace.ensures.replaced ∙ there_put _ _ _ }

pub returns-clause-ok : goal.returns-clause-ok
returns-clause-ok c =
    on_ok_weaker c.put-done.result
    (λ done.
    pipe_changed (λ p. record p { held = p.held ++ c.args.bytes.now }) _ _ _ _ _ _ _
    (sym c.in-Some.is ∙ c.replace.ensures.value) c.replace.ensures.replaced done c.replace-2.ensures.replaced
    ∙ ap (λ x. put_into x c.args.pipe c.args.bytes.now) c.self.view_is)
    c.put-done.ensures.ok

pub returns-clause-err : goal.returns-clause-err
returns-clause-err c =
    on_err_weaker c.put-done.result
    (λ same.
    pipe_same _ _ _ _ _ _ _ (sym c.in-Some.is ∙ c.replace.ensures.value) c.replace.ensures.replaced same c.replace-2.ensures.replaced
    ∙ c.self.view_is)
    c.put-done.ensures.err
