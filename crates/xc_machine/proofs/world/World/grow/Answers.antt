use Rattle.std.proofs.Common.{ap, sym, ◌∙◌, ◌++◌, is_some}
use Rattle.std.specs.FinMap as map
use Rattle.std.proofs.lemmas.Result.{on_ok_weaker, on_err_weaker}
use Rattle.xc_world.specs.World.{World, file_of, with_file}
use Rattle.xc_world.proofs.Laws.{there_put}
use Rattle.xc_machine.proofs.Grown.{changed_back, same_back}
use Rattle.xc_machine.proofs.world.World.grow.Goals as goal

pub replace-requires-2 : goal.replace-requires-2
replace-requires-2 c = record { there = ap (λ m. is_some (map.get m c.args.num)) c.replace.ensures.replaced ∙ there_put _ _ _ }

pub returns-clause-ok : goal.returns-clause-ok
returns-clause-ok c =
    on_ok_weaker c.append-done.result
    (λ done.
    changed_back (λ bytes. bytes ++ c.args.bytes.now) _ _ _ _ _ _ _
    (sym c.in-Some.is ∙ c.replace.ensures.value) c.replace.ensures.replaced done c.replace-2.ensures.replaced
    ∙ ap (λ (w : World). with_file w c.args.num (file_of w c.args.num ++ c.args.bytes.now)) c.self.view_is)
    c.append-done.ensures.ok

pub returns-clause-err : goal.returns-clause-err
returns-clause-err c =
    on_err_weaker c.append-done.result
    (λ same.
    same_back _ _ _ _ _ _ _ (sym c.in-Some.is ∙ c.replace.ensures.value) c.replace.ensures.replaced same c.replace-2.ensures.replaced
    ∙ c.self.view_is)
    c.append-done.ensures.err
