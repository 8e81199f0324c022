use Rattle.std.proofs.Common.{ap, sym, ◌∙◌, is_some}
use Rattle.std.specs.FinMap as map
use Rattle.std.specs.Prelude.{unwrap_or}
use Rattle.xc_host.specs.Pairs.{after_receipt, pair_in}
use Rattle.xc_world.specs.World.{empty_pair}
use Rattle.xc_world.proofs.Laws.{there_put}
use Rattle.xc_memhost.specs.Pairs.{received_of}
use Rattle.xc_memhost.proofs.Bodies.{pair_received, received_is}
use Rattle.xc_memhost.proofs.objects.HostObjects.recv.Goals as goal

pub replace-requires-2 : goal.replace-requires-2
replace-requires-2 c = record { there = ap (λ m. is_some (map.get m c.args.pair)) c.replace.ensures.replaced ∙ there_put _ _ _ }

pub returns-clause-rest : goal.returns-clause-rest
returns-clause-rest c =
    pair_received _ _ c.args.side c.take-took.result _ _ _ _ _
    (sym c.in-Some.is ∙ c.replace.ensures.value) c.replace.ensures.replaced c.take-took.ensures.first c.take-took.ensures.rest
    c.replace-2.ensures.replaced
    ∙ ap (after_receipt c.args.pair c.args.side c.take-took.result) c.self.view_is

pub returns-clause-value : goal.returns-clause-value
returns-clause-value c =
    received_is _ c.args.side c.take-took.result
    (c.take-took.ensures.first
    ∙ ap (λ o. received_of (unwrap_or o empty_pair) c.args.side) (sym c.in-Some.is ∙ c.replace.ensures.value)
    ∙ ap (λ x. received_of (pair_in x c.args.pair) c.args.side) c.self.view_is)
