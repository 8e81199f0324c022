use Rattle.std.proofs.Common.{◌≡◌, ◌<◌, ◌^◌, sym, subst, ap, ◌∙◌, arith}
use Rattle.std.specs.Bool.{Decides}
use Rattle.std.specs.Prelude.{IfOk, Some}
use Rattle.xc_model.specs.Asked.{IsAskedBy, ScriptJob}
use Rattle.xc_script.specs.Position.{job_of}
use Rattle.xc_asked.specs.declared.script_job.Followed.{Followed}
use Rattle.xc_asked.specs.Walking.{IsBehindReplies, job_outcome, last_told}
use Rattle.xc_asked.proofs.Beginning.{begin_there, from_ok, told_at_end}
use Rattle.xc_asked.proofs.script_job.ScriptJob.follow.Goals as goal

pub returns-then-not-has_next-clause-last : goal.returns-then-not-has_next-clause-last
returns-then-not-has_next-clause-last c =
    told_at_end c.args.script.now (record { block = c.self.inside.block; job = job_of c.self.inside.place }) c.args.entry.now
    (sym c.has_next.ensures ∙ c.if-not-has_next.true)
    ∙ ap (λ (j : ScriptJob). last_told c.args.script.now (Some j) c.args.entry.now) c.self.view_is

pub end-requires : goal.end-requires
end-requires c =
    let followed : IsBehindReplies c.args.script.now (job_of c.self.inside.place) c.args.entry.now.replies c.walk-followed.new.place =
    from_ok c.walk-followed.result c.in-Ok-true.field-0
    (IsBehindReplies c.args.script.now (job_of c.self.inside.place) c.args.entry.now.replies c.walk-followed.new.place)
    c.in-Ok-true.is c.walk-followed.ensures.behind in
    let few : (job_of c.self.inside.place).next < 2 ^ 32 = subst (λ (j : ScriptJob). j.job.next < 2 ^ 32) (sym c.self.view_is) c.requires.few in
    let next = followed.next in
    omega (arith, few, next)

pub invariant_of-self : goal.invariant_of-self
invariant_of-self c =
    let followed : IsBehindReplies c.args.script.now (job_of c.self.inside.place) c.args.entry.now.replies c.walk-followed.new.place =
    from_ok c.walk-followed.result c.in-Ok-true.field-0
    (IsBehindReplies c.args.script.now (job_of c.self.inside.place) c.args.entry.now.replies c.walk-followed.new.place)
    c.in-Ok-true.is c.walk-followed.ensures.behind in
    begin_there c.end.new.place (job_outcome c.args.script.now (job_of c.self.inside.place) c.args.entry.now c.args.entry.now.outcome)
    (c.end.ensures c.args.script.now (job_of c.self.inside.place) followed)

pub returns-in-Ok-true-clause-asked : goal.returns-in-Ok-true-clause-asked
returns-in-Ok-true-clause-asked c =
    subst (λ (j : ScriptJob). IfOk c.walk-followed.result (λ (f : Followed). Decides f.is_asked (IsAskedBy c.args.script.now j.job f.last c.args.entry.now)))
    c.self.view_is c.walk-followed.ensures.asked

pub returns-in-Ok-false-clause-asked : goal.returns-in-Ok-false-clause-asked
returns-in-Ok-false-clause-asked c =
    subst (λ (j : ScriptJob). IfOk c.walk-followed.result (λ (f : Followed). Decides f.is_asked (IsAskedBy c.args.script.now j.job f.last c.args.entry.now)))
    c.self.view_is c.walk-followed.ensures.asked

pub returns-in-Ok-true-clause-last : goal.returns-in-Ok-true-clause-last
returns-in-Ok-true-clause-last c =
    subst (λ (j : ScriptJob). IfOk c.walk-followed.result (λ (f : Followed). f.last ≡ last_told c.args.script.now (Some j) c.args.entry.now))
    c.self.view_is (c.walk-followed.ensures.last c.self.inside.block)

pub returns-in-Ok-false-clause-last : goal.returns-in-Ok-false-clause-last
returns-in-Ok-false-clause-last c =
    subst (λ (j : ScriptJob). IfOk c.walk-followed.result (λ (f : Followed). f.last ≡ last_told c.args.script.now (Some j) c.args.entry.now))
    c.self.view_is (c.walk-followed.ensures.last c.self.inside.block)
