use Rattle.std.proofs.Common.{◌≡◌, ◌<◌, ◌+◌, ◌∙◌, ℕ, ◌∷◌, ◌||◌, not, length, ap, arith, sym}
use Rattle.xc_world.specs.Ends.{Ending, blocker, is_undone}
use Rattle.xc_compensate.proofs.Listing.{both_lists, older, newer, older_count, newest, record_ended, rest, same_read}
use Rattle.xc_compensate.proofs.Keeping.{keeps_ended}
use Rattle.xc_compensate.proofs.Trying.{tried_now}
use Rattle.xc_compensate.proofs.stack.Stack.undo_next.Goals as goal
use Rattle.xc_compensate.proofs.stack.Stack.undo_next.Goals.{then-not-is_undone, else-not-is_undone}

pub invariant_of-self : goal.invariant_of-self
invariant_of-self g c =
    let stack = c.self.invariant in
    let at = c.in-Some.newest in
    let after : c.self.inside.pending ≡ at + 1 = omega (arith, c.in-Some.ensures) in
    let there : at < length c.self.inside.records.items = omega (arith, after, stack.within) in
    let hindered = c.self.inside.hindered in
    let next : c.if-not-is_undone.self ≡ (not (is_undone c.try_one-end.result) || hindered) = elim c.if-not-is_undone.branch [
      | then-not-is_undone w ↦ w.self-is ∙ ap not w.if-not-is_undone.true
          ∙ ap (λ b. b || hindered) (ap not (sym w.if-not-is_undone.true ∙ c.is_undone.ensures))
      | else-not-is_undone w ↦ w.self-is ∙ ap (λ b. b || hindered) (ap not (sym w.if-not-is_undone.false ∙ c.is_undone.ensures))
    ] in
    keeps_ended _ at _ hindered c.index_mut.result.now there c.index_mut.ensures.value after stack (c.index_mut.result.now.0, c.try_one-end.result) _ next

pub returns-clause-tried : goal.returns-clause-tried
returns-clause-tried g c =
    let records = c.self.inside.records.items in
    let at = c.in-Some.newest in
    let r = c.index.result.now in
    let end = c.try_one-end.result in
    let tried = c.try_one-end.ensures in
    let after : c.self.inside.pending ≡ at + 1 = omega (arith, c.in-Some.ensures) in
    let there : at < length records = omega (arith, after, c.self.invariant.within) in
    let view = sym (newest records at there r c.self.inside.pending c.index.ensures after) ∙ c.self.view_is in
    let way : (from : ℕ) → blocker from r.0 c.hindering-newer.result.now ≡ blocker from r.0 (newer records at) =
    λ from. c.hindering-newer.ensures.way from r.0 ∙ ap (blocker from r.0) (rest records c.deref.result.now at _ c.deref.ensures.value after) in
    let same = same_read records at c.index_mut.result.now r there c.index_mut.ensures.value c.index.ensures in
    let now = record_ended records at there (c.index_mut.result.now.0, end)
    ∙ ap (λ (x : Ending). both_lists (older records at) ((x.0, end) ∷ newer records at)) same in
    λ some. tried_now c.args.self.now (older records at) (newer records at) c.hindering-newer.result.now r.0 c.self.inside.pending view
    (after ∙ ap (λ k. k + 1) (sym (older_count records at there))) way
    g.H.Host.model c.args.tries _ c.args.host.now _ end _ now tried.legal tried.undoes tried.still c.turn_of.ensures
