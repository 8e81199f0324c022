use Rattle.std.proofs.Common.{◌≡◌, [], length, ap, arith}
use Rattle.xc_data.specs.declared.undo.Undo.{Undo}
use Rattle.std.specs.Prelude.{List}
use Rattle.xc_compensate.proofs.stack.Stack.undo_to.Goals as goal

pub returns-clause-tried : goal.returns-clause-tried
returns-clause-tried g c lt = c.undo_next.ensures.tried (λ none. absurd (omega (arith, lt, ap (λ (us : List Undo). length us) none)))
