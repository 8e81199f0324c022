use Rattle.std.proofs.Common.{◌≡◌, ◌<◌, Bool, true, false, List, length, map, refl, ap, ◌∙◌, subst, arith}
use Rattle.std.specs.Prelude.{not}
use Rattle.std.proofs.lemmas.List.{length-map}
use Rattle.xc_model.specs.Asked.{IsAskedEntry, ScriptJob, after_jobs}
use Rattle.xc_asked.proofs.Entering.{is_entry, leads_to}
use Rattle.xc_asked.proofs.script_jobs.ScriptJobs.follow.Goals as goal

from_not : (b : Bool) → not b ≡ false → b ≡ true
from_not true is = refl
from_not false is = absurd (let no : true ≡ false = is in cc)

pub returns-clause-asked : goal.returns-clause-asked
returns-clause-asked c =
    let jobs : List ScriptJob = c.self.inside.jobs.items in
    let at = c.saturating_sub-at.result in
    let followed = c.in_ok-followed.followed in
    let blocks = map (λ (j : ScriptJob). j.block) jobs in
    let within : at < length jobs = omega (arith, c.if-len-at.false, c.len.ensures) in
    let met : followed.is_asked ≡ true = from_not followed.is_asked c.if-not-followed.false in
    let count : length blocks ≡ c.len-else-not-followed.result =
    let mapped = length-map jobs (λ (j : ScriptJob). j.block) in
    omega (arith, mapped, c.follow_at.ensures.count, c.len-else-not-followed.ensures) in (
      λ _. subst (λ (js : List ScriptJob). IsAskedEntry c.args.script.now js followed.last c.args.entry.now) c.self.view_is
          (is_entry c.args.script.now jobs c.args.entry.now at c.saturating_sub-at.ensures within followed.last
          (λ j is. (c.in_ok-followed.ensures.followed j is).1.0 met)
          ((c.has_starts.ensures blocks count).0 c.if-not-has_starts.false)),
      λ _. met,
    )

pub returns-clause-after : goal.returns-clause-after
returns-clause-after c = λ met.
    let jobs : List ScriptJob = c.self.inside.jobs.items in
    let at = c.saturating_sub-at.result in
    let within : at < length jobs = omega (arith, c.if-len-at.false, c.len.ensures) in
    leads_to c.args.script.now jobs c.args.entry.now at c.saturating_sub-at.ensures within c.follow_at.new.jobs.items
    c.start_children.new.jobs.items (λ j is. (c.in_ok-followed.ensures.followed j is).2 met) c.in_ok-start_children.ensures
    ∙ ap (λ (js : List ScriptJob). after_jobs c.args.script.now js c.args.entry.now) c.self.view_is
