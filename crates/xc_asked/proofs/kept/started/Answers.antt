use Rattle.std.proofs.Common.{◌≡◌, ℕ, ◌++◌, List, [], ◌∷◌, ap, sym, ◌∙◌, arith}
use Rattle.std.proofs.lemmas.List.{append-nil, drop_all}
use Rattle.xc_data.specs.declared.call.Call.{Call}
use Rattle.xc_data.specs.declared.call.LateEnd.{LateEnd}
use Rattle.xc_model.specs.Progress.{started_blocks}
use Rattle.xc_asked.proofs.kept.started.Goals as goal

-- without an end nothing more is started
no_more : (blocks : List (List ℕ)) (kept : List Call) → blocks ≡ blocks ++ started_blocks kept []
no_more blocks [] = sym (append-nil blocks)
no_more blocks (c ∷ kept) = sym (append-nil blocks)

pub returns : goal.returns
returns c =
    let l = c.loop-end in
    no_more l.names l.kept
    ∙ ap (λ (ends : List LateEnd). l.names ++ started_blocks l.kept ends) (sym (drop_all l.end-index c.args.ends.now (omega (arith, c.loop-end-test.false))))
    ∙ l.invariant
