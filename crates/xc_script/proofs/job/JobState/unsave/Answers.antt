use Rattle.std.proofs.Common.{◌≡◌, ◌∙◌, Some, None, IsSome, true, false, ap, sym, subst, refl, drop}
use Rattle.std.specs.Option.{option_copied}
use Rattle.xc_script.specs.Blocks.{back_to, behind_keep}
use Rattle.xc_script.specs.Values.{Values}
use Rattle.xc_script.specs.Position.{Position, walk_of, IsPastSilent, job_of}
use Rattle.xc_script.specs.Ask.{next_body}
use Rattle.xc_script.specs.contracts.job.JobState.{the_view}
use Rattle.xc_script.proofs.Backs.{back_at, with_values}
use Rattle.xc_script.proofs.job.JobState.unsave.Goals.{in-Some-take, in_default-take}
use Rattle.xc_script.proofs.job.JobState.unsave.Goals as goal

-- the values are those of the save, and all else is as it was
swapped : (c : goal.After-pass_keep) → (values : Values) × (c.self.inside.saved ≡ Some values)
    × (c.match-take.self-inside.variables ≡ with_values c.self.inside.variables values)
    × (c.match-take.self-inside.stored ≡ c.self.inside.stored)
    × (c.match-take.self-inside.at ≡ c.self.inside.at)
    × (c.match-take.self-inside.block ≡ c.self.inside.block)
    × (c.match-take.self-inside.next ≡ c.self.inside.next)
swapped c = elim c.match-take.branch [
  | in-Some-take w ↦ (
    w.in-Some-take.values,
    sym c.take.ensures.value ∙ w.in-Some-take.is,
    ap (λ i. i.variables) w.self-inside-is ∙ w.take_values.ensures,
    ap (λ i. i.stored) w.self-inside-is,
    ap (λ i. i.at) w.self-inside-is,
    ap (λ i. i.block) w.self-inside-is,
    ap (λ i. i.next) w.self-inside-is,
  )
  | in_default-take w ↦
      let gone : c.args.self.now.saved ≡ None = ap (λ p. p.saved) (sym c.self.view_is) ∙ sym c.take.ensures.value ∙ w.in_default-take.is in
      absurd (let no : false ≡ true = subst (λ o. IsSome o) gone c.requires.open in cc)
]

pub returns-clause-walk : goal.returns-clause-walk
returns-clause-walk c =
    let s = swapped c in
    let old : Position = the_view c.self.inside in
    let new : Position = the_view (record c.match-take.self-inside { at = c.pass_keep.new.at; refused = false }) in
    let was : next_body c.args.script.now (job_of old) ≡ Some c.in-Some.body.now = sym c.body_at.ensures ∙ ap option_copied c.in-Some.is in
    let now : next_body c.args.script.now (job_of new) ≡ Some c.in-Some.body.now
    = ap (λ b. next_body c.args.script.now (record { block = b; next = c.match-take.self-inside.next; variables = new.variables })) s.5
    ∙ ap (λ n. next_body c.args.script.now (record { block = c.self.inside.block; next = n; variables = new.variables })) s.6 ∙ was in
    subst (λ (p : Position). walk_of c.args.script.now new ≡ back_to (walk_of c.args.script.now p) p.saved) c.self.view_is
    (back_at c.args.script.now old new c.in-Some.body.now s.0 was now
    (subst (IsPastSilent c.args.script.now) (sym c.self.view_is) c.requires.settled) s.1 s.2 s.3 refl
    (c.pass_keep.ensures.behind ∙ ap (λ n. behind_keep (drop n c.in-Some.body.now)) s.4))
