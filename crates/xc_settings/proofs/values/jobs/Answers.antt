use Rattle.std.proofs.Common.{◌≡◌, ◌<◌, ◌∷◌, ◌++◌, [], length, get_or, ap, sym, ◌∙◌, arith, lit<}
use Rattle.std.proofs.lemmas.Iterator.Consumers.{YieldsList-turn, YieldsList-end, YieldsList-at}
use Rattle.std.proofs.lemmas.Iterator.Splits.{YieldsList-from_str_split}
use Rattle.std.proofs.lemmas.List.{length_push}
use Rattle.xc_settings.specs.Options.{comma_parts}
use Rattle.xc_settings.proofs.JobLists.{numbers_in-more, numbers_in-refused, job_numbers-refused, job_numbers-many, job_numbers-read}
use Rattle.xc_settings.proofs.values.jobs.Goals as goal
use Rattle.xc_settings.proofs.values.jobs.Goals.{In-Some}

-- the part is the next one of the text
next_part : (c : In-Some) → let parts = comma_parts c.args.text.now in
    (length c.loop-part.yielded < length parts) × (c.in-Some.part.now ≡ get_or parts (length c.loop-part.yielded) c.in-Some.part.now)
next_part c =
    let of = c.split-part-items.ensures in
    let road = YieldsList-from_str_split 44 c.args.text.now (lit< tt) of.text of.has_more of.pattern in
    let given = YieldsList-at c.into_iter-part-iterator.ensures.into_iter_gives road in
    YieldsList-turn given c.loop-part.yielded _ c.loop-part.yielded_by _ _ c.in-Some.part c.in-Some.is c.next.ensures.steps

pub returns-in_default-clause-usage : goal.returns-in_default-clause-usage
returns-in_default-clause-usage c usage =
    let next = next_part (goal.at.returns-in_default-clause-usage c).In-Some in
    job_numbers-refused c.args.text.now (numbers_in-refused 1000 _ _ c.in-Some.part.now next.0 next.1 (sym c.number.ensures ∙ c.in_default.is))

pub returns-then-len-eq-MOST_TURNS-clause-usage : goal.returns-then-len-eq-MOST_TURNS-clause-usage
returns-then-len-eq-MOST_TURNS-clause-usage c usage =
    let next = next_part (goal.at.returns-then-len-eq-MOST_TURNS-clause-usage c).In-Some in
    job_numbers-many c.args.text.now (omega (arith, next.0))

pub loop-part-preserved : goal.loop-part-preserved
loop-part-preserved c =
    let pushed : c.push.new.self ≡ c.loop-part.jobs ++ c.in-Some-number.job ∷ [] = c.in_ok-push.ensures.ok in
    let longer = length_push c.loop-part.jobs c.in-Some-number.job in
    let yielded = length_push c.loop-part.yielded c.in-Some.part in
    record {
      can_next = tt;
      is_finite = tt;
      read = numbers_in-more 1000 c.loop-part.yielded c.in-Some.part _ _ _ c.loop-part.invariant.read (sym c.number.ensures ∙ c.in-Some-number.is) pushed;
      count = omega (arith, ap length pushed);
      few = omega (arith, ap length pushed);
    }

pub returns-clause-ok : goal.returns-clause-ok
returns-clause-ok c =
    let of = c.split-part-items.ensures in
    let road = YieldsList-from_str_split 44 c.args.text.now (lit< tt) of.text of.has_more of.pattern in
    let given = YieldsList-at c.into_iter-part-iterator.ensures.into_iter_gives road in
    let all = YieldsList-end given c.loop-part.yielded _ c.loop-part.yielded_by _ _ c.in-None.is c.next.ensures.steps in
    job_numbers-read c.args.text.now _ _ all.0 c.loop-part.invariant.read (omega (arith, all.1))
