use Rattle.std.proofs.Common.{◌≡◌, ◌≤◌, get_or, sym, subst, ap, ◌∙◌, arith}
use Rattle.std.proofs.lemmas.Option.{get_or_from_slice_get}
use Rattle.xc_model.specs.Asked.{ScriptJob}
use Rattle.xc_asked.proofs.Beginning.{few_at}
use Rattle.xc_asked.proofs.Entering.{there}
use Rattle.xc_asked.proofs.script_jobs.follow_at.Goals as goal

pub follow-requires-clause-few : goal.follow-requires-clause-few
follow-requires-clause-few c =
    let few = c.requires.few in
    let jobs = c.args.jobs.now.items in
    let stands = there jobs c.args.at c.requires.place in
    let same = c.index_mut.ensures.value ∙ get_or_from_slice_get jobs c.args.at stands.0 _ stands.1 in
    let least : c.index_mut.result.now.job.next ≤ few.0 =
    subst (λ (j : ScriptJob). j.job.next ≤ few.0) (sym same) (few_at few.0 jobs c.args.at stands.0 few.1 stands.1) in
    let within = few.2 in
    omega (arith, least, within)
