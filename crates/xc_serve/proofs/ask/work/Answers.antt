use Rattle.std.proofs.Common.{[], ◌∷◌, ◌++◌, ℕ, inr, refl, subst}
use Rattle.std.specs.declared.option.Option.{Option}
use Rattle.std.specs.declared.option.Option.TheVariants.{Some}
use Rattle.xc_data.specs.declared.entry.Event.TheVariants.{Picked}
use Rattle.xc_serve.specs.Answers.{job_closing, entry_texts, turn_events}
use Rattle.xc_turnstile.specs.Insides.{Gains}
use Rattle.xc_serve.proofs.Gained.{gains_further, gains_no_entry}
use Rattle.xc_serve.proofs.Scripted.{script_still}
use Rattle.xc_serve.proofs.ask.work.Goals as goal

pub returns : goal.returns
returns g c =
    let j = c.in-Some.job in
    let w = c.work_told-pass.ensures in
    let mid = c.pick-pass.result.0 in
    let picked = gains_no_entry c.args.pass mid (Picked c.pick-pass.result.1) c.pick-pass.ensures.gains c.pick-pass.ensures.mine in
    let turns = turn_events j (w.before ++ w.last ∷ []) in
    record {
      events = Picked (Some j) ∷ turns;
      entries = w.entries;
      answer = entry_texts w.entries ++ job_closing j w.block w.last;
      gains = gains_further c.args.pass mid c.work_told-pass.result.0 (Picked (Some j) ∷ []) turns [] w.entries
          (subst (λ (o : Option ℕ). Gains c.args.pass mid (Picked o ∷ []) []) c.in-Some.is picked) w.gains;
      is = inr (record {
        job = j;
        before = w.before;
        last = w.last;
        block = w.block;
        gained = refl;
        went_on = w.went_on;
        ends = w.ends;
        own = w.own;
        said = refl;
      });
      told_is = c.all_told.ensures (entry_texts w.entries ++ job_closing j w.block w.last) w.text;
      starved = λ none. (λ e. cc, λ e. cc);
    }

pub work_told-pass-requires-clause-scripted : goal.work_told-pass-requires-clause-scripted
work_told-pass-requires-clause-scripted g c =
    script_still c.args.pass c.pick-pass.result.0 c.pick-pass.ensures.gains.gains.goes.origin c.requires.scripted
