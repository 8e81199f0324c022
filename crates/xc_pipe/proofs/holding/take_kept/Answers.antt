use Rattle.std.proofs.Common.{◌≡◌, ◌-◌, ◌+◌, ◌++◌, length, List, ℕ, ap, sym, ◌∙◌, subst, arith, length-append}
use Rattle.std.specs.Prelude.{Option}
use Rattle.xc_world.specs.Run.{given_back}
use Rattle.xc_buffers.specs.Changes.{FindsBytes}
use Rattle.xc_buffers.specs.Views.{KeptView}
use Rattle.xc_calls.proofs.Laws.{always_err}
use Rattle.xc_calls.specs.Taking.{bytes_back}
use Rattle.xc_buffers.specs.Items.{kept_bytes}
use Rattle.xc_pipe.proofs.Takings.{no_bytes_taken, taken_joined}
use Rattle.xc_pipe.proofs.holding.take_kept.Goals as goal

pub returns-in_err-front-in-Ok-Some-clause-err : goal.returns-in_err-front-in-Ok-Some-clause-err
returns-in_err-front-in-Ok-Some-clause-err c =
    let was = c.loop-alloc.invariant in
    let finds = subst (λ (found : Option (List ℕ)). FindsBytes c.args.pipe
    (c.args.n - c.len-in-loop-alloc.result) found c.loop-alloc.kept.items c.take_front.new.self.items)
    c.in-Ok-Some.field-0-is c.in-Ok-Some.ensures.ok in
    always_err _ c.from_residual-in_err-front-in-Ok-Some.result (λ w. c.in_err-front-in-Ok-Some.ensures.err w
    ∙ sym (taken_joined c.args.kept.now.items c.loop-alloc.kept.items c.take_front.new.self.items c.args.pipe c.loop-alloc.front c.in-Ok-Some.more finds.0
    was.taken
    finds.2.back w))

pub loop-alloc-preserved : goal.loop-alloc-preserved
loop-alloc-preserved c =
    let was = c.loop-alloc.invariant in
    let front = c.loop-alloc.front in
    let more = c.in-Ok-Some.more in
    let next = c.in_ok-front-in-Ok-Some in
    let finds = subst (λ (found : Option (List ℕ)). FindsBytes c.args.pipe
    (c.args.n - c.len-in-loop-alloc.result) found c.loop-alloc.kept.items c.take_front.new.self.items)
    c.in-Ok-Some.field-0-is c.in-Ok-Some.ensures.ok in
    let size : length next.front ≡ length front + length more = ap (λ (bytes : List ℕ). length bytes) next.ensures.all ∙ length-append front more in
    record {
      most = omega (arith, size, finds.1, c.len-in-loop-alloc.ensures.value, was.most);
      taken = λ w.
          taken_joined c.args.kept.now.items c.loop-alloc.kept.items c.take_front.new.self.items c.args.pipe front more finds.0 was.taken finds.2.back w
          ∙ ap (λ (k : KeptView). given_back (given_back w k.items) (bytes_back c.args.pipe (front ++ more))) (sym next.ensures.kept)
          ∙ ap (λ (bytes : List ℕ). given_back (given_back w c.join.new.kept.items) (bytes_back c.args.pipe bytes)) (sym next.ensures.all);
      in_order = λ kept. c.join.ensures.in_order (c.take_front.ensures.in_order (was.in_order kept));
      room = omega (arith, was.room, c.take_front.ensures.spare, ap (λ (k : KeptView). k.spare) next.ensures.kept);
    }

pub returns-in-Ok-None-clause-left : goal.returns-in-Ok-None-clause-left
returns-in-Ok-None-clause-left c =
    let finds = subst (λ (found : Option (List ℕ)). FindsBytes c.args.pipe
    (c.args.n - c.len-in-loop-alloc.result) found c.loop-alloc.kept.items c.take_front.new.self.items)
    c.in-Ok-None.field-0-is c.in-Ok-None.ensures.ok in
    λ less. ap (kept_bytes c.args.pipe) finds.1
    ∙ no_bytes_taken (c.args.n - c.len-in-loop-alloc.result) (kept_bytes c.args.pipe c.loop-alloc.kept.items)
    (omega (arith, less, c.len-in-loop-alloc.ensures.value)) finds.0
