use Rattle.std.proofs.Common.{◌∷◌, [], sym, arith, subst, ◌≡◌}
use Rattle.std.specs.Prelude.{List, slice_get}
use Rattle.std.specs.declared.option.Option.TheVariants.{Some}
use Rattle.xc_model.specs.Asked.{ScriptJob, script_started}
use Rattle.xc_asked.proofs.Children.{mapped_one_more, still_there}
use Rattle.xc_asked.proofs.script_jobs.start_jobs.Goals as goal

pub loop-block-preserved : goal.loop-block-preserved
loop-block-preserved c =
    let l = c.loop-block in
    let went = c.in_ok-start_one.ensures in
    record {
      within = omega (arith, l.invariant.within, went.more);
      starter = λ j is.
          let now = l.invariant.starter j is in
          subst (λ (js : List ScriptJob). slice_get js c.args.at ≡ Some j) (sym (went.child j now))
          (still_there l.jobs.items (script_started c.args.script.now j.job c.block-item.result ∷ []) c.args.at j now);
      children = λ j is.
          mapped_one_more (script_started c.args.script.now j.job) c.args.jobs.now.items l.jobs.items c.start_one.new.jobs.items c.args.blocks.now
          l.block-index c.block-item.result c.loop-block-test.true c.block-item.is (l.invariant.children j is)
          (went.child j (l.invariant.starter j is));
    }
