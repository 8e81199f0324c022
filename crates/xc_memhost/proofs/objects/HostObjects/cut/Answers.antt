use Rattle.std.proofs.Common.{ap, sym, ◌∙◌, is_some, take}
use Rattle.std.specs.FinMap as map
use Rattle.xc_host.specs.Contents.{shortened}
use Rattle.xc_world.proofs.Laws.{there_put}
use Rattle.xc_memhost.proofs.Bodies.{changed_back}
use Rattle.xc_memhost.proofs.objects.HostObjects.cut.Goals as goal

pub replace-requires-2 : goal.replace-requires-2
replace-requires-2 c = record { there = ap (λ m. is_some (map.get m c.args.file)) c.replace.ensures.replaced ∙ there_put _ _ _ }

pub returns : goal.returns
returns c =
    changed_back (take c.args.len) _ _ _ _ _ _ _
    (sym c.in-Some.is ∙ c.replace.ensures.value) c.replace.ensures.replaced c.cut.ensures c.replace-2.ensures.replaced
    ∙ ap (λ x. shortened x c.args.file c.args.len) c.self.view_is
