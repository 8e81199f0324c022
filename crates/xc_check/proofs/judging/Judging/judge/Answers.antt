use Rattle.std.proofs.Common.{◌≡◌, true, false, ◌∙◌, ◌∷◌, ◌++◌, [], length, refl, subst, ap, arith}
use Rattle.xc_judge.specs.Judged.{IsOpenTo}
use Rattle.xc_judge.specs.Stepped.{IsRefusedSo, IsSteppedTo, WhereEntered, WhereRefused}
use Rattle.xc_model.specs.Grounds.{Part}
use Rattle.xc_check.specs.TrueTexts.{telling}
use Rattle.xc_check.specs.Untold.{basis_of}
use Rattle.xc_check.proofs.Few.{jobs_are_few}
use Rattle.xc_check.proofs.Stepping.{entered_in, entered_so, number_is_new, part_is, refused_in, unasked_in}
use Rattle.xc_check.proofs.judging.Judging.judge.Goals as goal

pub step-requires-clause-open : goal.step-requires-clause-open
step-requires-clause-open c =
    let j = c.requires.judged in
    number_is_new (telling c.args.script.now c.args.rules.now) j.0 j.1 c.args.shown c.args.self j.2 j.3

pub step-requires-clause-room : goal.step-requires-clause-room
step-requires-clause-room c =
    let j = c.requires.judged in
    let count = entered_so (telling c.args.script.now c.args.rules.now) j.0 j.1 c.args.shown c.args.self j.2 in
    let few = j.4 in
    omega (arith, count, few)

pub follow-requires-clause-few : goal.follow-requires-clause-few
follow-requires-clause-few c =
    let j = c.requires.judged in
    let few = jobs_are_few (telling c.args.script.now c.args.rules.now) j.0 j.1 c.args.self j.2 in
    let within = j.4 in
    (length j.1, few, omega (arith, within))

pub returns-in-Refused : goal.returns-in-Refused
returns-in-Refused c count before judged numbered =
    let s = telling c.args.script.now c.args.rules.now in
    refused_in s count before c.args.shown c.args.self c.in_ok-followed.followed.last judged numbered
    c.in_ok-followed.ensures.last c.in-Refused.reason
    (subst (λ step. WhereRefused step (IsRefusedSo (basis_of s) c.args.self.progress c.in_ok-followed.followed.last c.args.shown)) c.in-Refused.is
    c.in_ok-stepped.ensures.refused)

pub returns-then-not-followed : goal.returns-then-not-followed
returns-then-not-followed c count before judged numbered =
    let s = telling c.args.script.now c.args.rules.now in
    unasked_in s count before c.args.shown c.args.self c.in_ok-followed.followed.last judged numbered
    c.in_ok-followed.ensures.last c.in-Entered.stepped
    (subst (λ step. WhereEntered step (IsSteppedTo (basis_of s) c.args.self.progress c.in_ok-followed.followed.last c.args.shown)) c.in-Entered.is
    c.in_ok-stepped.ensures.entered)
    (λ told.
    let yes : c.in_ok-followed.followed.is_asked ≡ true = c.in_ok-followed.ensures.asked.1 told in
    let no_ : c.in_ok-followed.followed.is_asked ≡ false = c.if-not-followed.true in
    cc)

pub returns : goal.returns
returns c count before judged numbered =
    let s = telling c.args.script.now c.args.rules.now in
    let last = c.in_ok-followed.followed.last in
    let to = c.in-Entered.stepped in
    let stepped : IsSteppedTo (basis_of s) c.args.self.progress last c.args.shown to =
    subst (λ step. WhereEntered step (IsSteppedTo (basis_of s) c.args.self.progress last c.args.shown)) c.in-Entered.is c.in_ok-stepped.ensures.entered in
    let told = c.in_ok-followed.ensures.asked.0 c.if-not-followed.false in
    let part = part_is c.part_of.result c.args.self.progress last to.entry to.wanted.items stepped.wanted c.part_of.ensures in
    entered_in s count before c.args.shown c.args.self last judged numbered c.in_ok-followed.ensures.last
    (record { progress = to.progress; jobs = c.follow.new.self; parts = c.push.new.self }) to stepped told refl
    refl
    (c.in_ok-followed.ensures.after c.if-not-followed.false)
    (c.in_ok-push.ensures.items ∙ ap (λ (p : Part). c.args.self.parts.items ++ p ∷ []) part)
    (λ tx other was. subst (λ step. WhereEntered step (λ to. IsOpenTo to.progress tx)) c.in-Entered.is (c.in_ok-stepped.ensures.open tx other was))
