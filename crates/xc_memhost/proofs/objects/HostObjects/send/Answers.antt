use Rattle.std.proofs.Common.{ap, sym, ◌∙◌, is_some}
use Rattle.std.proofs.lemmas.Result.{on_ok_weaker, on_err_weaker}
use Rattle.std.specs.FinMap as map
use Rattle.xc_host.specs.Pairs.{sent_from}
use Rattle.xc_world.specs.Late.{sent_to}
use Rattle.xc_world.specs.World.{other_side}
use Rattle.xc_world.proofs.Laws.{there_put}
use Rattle.xc_memhost.proofs.Bodies.{pair_changed, pair_same}
use Rattle.xc_memhost.proofs.objects.HostObjects.send.Goals as goal

pub replace-requires-2 : goal.replace-requires-2
replace-requires-2 c = record { there = ap (λ m. is_some (map.get m c.args.pair)) c.replace.ensures.replaced ∙ there_put _ _ _ }

pub returns-clause-ok : goal.returns-clause-ok
returns-clause-ok c =
    on_ok_weaker c.send-done.result
    (λ done.
    pair_changed (λ p. sent_to p (other_side c.args.side) c.args.message) _ _ _ _ _ _ _
    (sym c.in-Some.is ∙ c.replace.ensures.value) c.replace.ensures.replaced done c.replace-2.ensures.replaced
    ∙ ap (λ x. sent_from x c.args.pair c.args.side c.args.message) c.self.view_is)
    c.send-done.ensures.ok

pub returns-clause-err : goal.returns-clause-err
returns-clause-err c =
    on_err_weaker c.send-done.result
    (λ same.
    pair_same _ _ _ _ _ _ _ (sym c.in-Some.is ∙ c.replace.ensures.value) c.replace.ensures.replaced same c.replace-2.ensures.replaced
    ∙ c.self.view_is)
    c.send-done.ensures.err
