use Rattle.std.proofs.Common.{rules, ◌≡◌, ◌+◌, true, false, Option, List, get_or, sym, ◌∙◌, ap, subst}
use Rattle.std.specs.Option.{option_copied}
use Rattle.xc_data.specs.declared.entry.Cause.{Cause}
use Rattle.xc_data.specs.declared.undo.UndoEnd.{UndoEnd}
use Rattle.xc_data.specs.declared.undo.UndoEnd.TheVariants.{Undone}
use Rattle.xc_lines.specs.declared.shown.EffectShown.{EffectShown}
use Rattle.xc_lines.specs.declared.shown.UndoKind.{UndoKind}
use Rattle.xc_lines.specs.declared.shown.UndoKind.TheVariants as kind
use Rattle.xc_script.specs.declared.ask.Ask.TheVariants as ask
use Rattle.xc_world.specs.Run.{begins}
use Rattle.xc_judge.specs.Left.{IsLeftLast, IsNotLeft, NewestShown}
use Rattle.xc_judge.specs.Traced.{ReportShown}
use Rattle.xc_judge.proofs.Cases.{found_none, found_some}
use Rattle.xc_judge.proofs.Tracing.{not_as_many, not_called, not_left_so, traced_left, traced_trail}
use Rattle.xc_judge.proofs.ran.Ran.trace_last.Goals as goal

-- what stands past the end of a list
abbrev past : UndoKind × UndoEnd
past = (kind.Bytes, Undone 0)

-- what is shown of a report, by its parts
abbrev seen_by : Cause → List (UndoKind × UndoEnd) → List EffectShown → ReportShown
seen_by why shown effects = record { cause = why; records = shown; effects = effects }

-- what is shown of the newest record
abbrev newest : UndoEnd → Option EffectShown → NewestShown
newest end effect = record { end = end; effect = effect }

pub returns-then-shown-count : goal.returns-then-shown-count
returns-then-shown-count c = λ b world mine trail.
    let seen = seen_by c.args.cause.now c.args.shown.now c.args.effects.now in
    traced_trail b c.args.tx c.args.last.now seen c.args.self.now.traced.trail trail
    (c.if-shown-count.true ∙ c.len-count.ensures)

pub returns-then-not-is_one_more : goal.returns-then-not-is_one_more
returns-then-not-is_one_more c = λ b world mine trail.
    let seen = seen_by c.args.cause.now c.args.shown.now c.args.effects.now in
    let none : c.is_one_more.result ≡ false = search rules in
    let count = c.len-count.ensures in
    not_as_many b c.args.tx c.args.last.now seen c.args.self.now.traced.trail trail
    (λ e. c.if-shown-count.false (e ∙ sym count))
    (λ both. let yes = c.is_one_more.ensures.1 (both.0, both.1 ∙ ap (λ n. n + 1) (sym count)) in cc (yes, none))

pub returns-in_default : goal.returns-in_default
returns-in_default c = λ b world mine trail.
    let seen = seen_by c.args.cause.now c.args.shown.now c.args.effects.now in
    not_called b c.args.tx c.args.last.now seen c.args.self.now.traced.trail trail
    (λ e. c.if-shown-count.false (e ∙ sym c.len-count.ensures)) c.in_default.not-Call

pub returns-in_default-2 : goal.returns-in_default-2
returns-in_default-2 c = λ b world mine trail.
    let ran = c.args.self.now in
    let shown = c.args.shown.now in
    let seen = seen_by c.args.cause.now shown c.args.effects.now in
    let call = c.in-Call.call in
    let effect = option_copied c.last.result in
    let more : c.is_one_more.result ≡ true = search rules in
    let both = c.is_one_more.ensures.0 more in
    let count = c.len-count.ensures in
    let there : NewestShown = newest (get_or shown c.len-count.result past).1 effect in
    let none = found_none c.in_ok-left.field-0 (IsNotLeft (begins ran.world ran.me.value) c.args.tx (ask.Call call) there)
    (IsLeftLast (begins ran.world ran.me.value) c.args.tx (ask.Call call) there) c.in_default-2.not-Some c.in_ok-left.ensures in
    not_left_so b c.args.tx c.args.last.now seen ran.traced.trail trail
    (λ e. c.if-shown-count.false (e ∙ sym count)) (both.1 ∙ ap (λ n. n + 1) count) ran.world ran.me.value world mine call c.in-Call.is past effect
    c.last.ensures.value
    (subst (λ n. IsNotLeft (begins ran.world ran.me.value) c.args.tx (ask.Call call) (newest (get_or shown n past).1 effect)) count none)

pub returns : goal.returns
returns c = λ b world mine trail.
    let ran = c.args.self.now in
    let shown = c.args.shown.now in
    let seen = seen_by c.args.cause.now shown c.args.effects.now in
    let call = c.in-Call.call in
    let effect = option_copied c.last.result in
    let more : c.is_one_more.result ≡ true = search rules in
    let both = c.is_one_more.ensures.0 more in
    let count = c.len-count.ensures in
    let there : NewestShown = newest (get_or shown c.len-count.result past).1 effect in
    let some = found_some c.in_ok-left.field-0 c.in-Some.left (IsNotLeft (begins ran.world ran.me.value) c.args.tx (ask.Call call) there)
    (IsLeftLast (begins ran.world ran.me.value) c.args.tx (ask.Call call) there) c.in-Some.is c.in_ok-left.ensures in
    traced_left b c.args.tx c.args.last.now seen ran.traced.trail trail
    (λ e. c.if-shown-count.false (e ∙ sym count)) (both.1 ∙ ap (λ n. n + 1) count) ran.world ran.me.value world mine call c.in-Call.is past effect
    c.last.ensures.value c.in-Some.left c.push.new.self both.0 c.in_ok-push.ensures.ok
    (subst (λ n. IsLeftLast (begins ran.world ran.me.value) c.args.tx (ask.Call call) (newest (get_or shown n past).1 effect) c.in-Some.left) count some)
