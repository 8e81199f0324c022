use Rattle.std.proofs.Common.{rules, ◌≡◌, true, false, length, map, sym, ◌∙◌, ap}
use Rattle.xc_shown.specs.Shown.{effects_shown, record_shown}
use Rattle.xc_model.specs.Progress.{body_of}
use Rattle.xc_model.specs.Recorded.{all_records, no_records}
use Rattle.xc_judge.specs.Counts.{RecordCount, count_of}
use Rattle.xc_judge.specs.Traced.{AreTraced, report_shown, shown_ends}
use Rattle.xc_judge.proofs.Reporting.{not_effects, not_kinds, not_reported, not_traced, not_traced_there, reported, traced_there}
use Rattle.xc_judge.proofs.progress.Progress.report.Goals as goal

pub returns-then-not-branch : goal.returns-then-not-branch
returns-then-not-branch c =
    let a = c.args in
    let e = a.shown.now.entry in
    let b = body_of a.self.now.state e in
    let so = c.requires.ran in
    let trail = c.trace_last.new.self.traced.trail in
    let seen = report_shown a.cause.now a.shown.now in
    let none : c.in_ok-trace_last.field-0 ≡ false = search rules in
    not_traced a.basis.now a.self.now a.last.now e seen
    (not_traced_there b e.tx a.last.now a.cause.now a.shown.now c.as_slice-kinds.result.now c.as_slice-effects.result.now c.in_ok-trace_last.field-0 trail
    c.as_slice-kinds.ensures c.as_slice-effects.ensures none (c.in_ok-trace_last.ensures b so.world_is so.me_is so.trail))

pub ended-requires : goal.ended-requires
ended-requires c =
    let a = c.args in
    let e = a.shown.now.entry in
    let b = body_of a.self.now.state e in
    let so = c.requires.ran in
    let trail = c.trace_last.new.self.traced.trail in
    let seen = report_shown a.cause.now a.shown.now in
    let yes : c.in_ok-trace_last.field-0 ≡ true = search rules in
    let traced : AreTraced b e.tx a.last.now seen trail =
    traced_there b e.tx a.last.now a.cause.now a.shown.now c.as_slice-kinds.result.now c.as_slice-effects.result.now c.in_ok-trace_last.field-0 trail
    c.as_slice-kinds.ensures c.as_slice-effects.ensures yes (c.in_ok-trace_last.ensures b so.world_is so.me_is so.trail) in
    ap length c.into_trail.ensures ∙ traced.count ∙ ap length (sym c.as_slice-kinds.ensures)

pub returns-then-not-have_kinds : goal.returns-then-not-have_kinds
returns-then-not-have_kinds c =
    let a = c.args in
    let e = a.shown.now.entry in
    let b = body_of a.self.now.state e in
    let so = c.requires.ran in
    let trail = c.trace_last.new.self.traced.trail in
    let seen = report_shown a.cause.now a.shown.now in
    let yes : c.in_ok-trace_last.field-0 ≡ true = search rules in
    let traced : AreTraced b e.tx a.last.now seen trail =
    traced_there b e.tx a.last.now a.cause.now a.shown.now c.as_slice-kinds.result.now c.as_slice-effects.result.now c.in_ok-trace_last.field-0 trail
    c.as_slice-kinds.ensures c.as_slice-effects.ensures yes (c.in_ok-trace_last.ensures b so.world_is so.me_is so.trail) in
    let records = c.in_ok-records.records in
    let ends = c.in_ok-records.ensures.ends ∙ ap shown_ends c.as_slice-kinds.ensures in
    let undos = c.in_ok-records.ensures.undos ∙ c.into_trail.ensures in
    let none : c.have_kinds.result ≡ false = search rules in
    not_kinds a.basis.now a.self.now a.last.now e seen trail traced records undos ends
    (λ same. let found = c.have_kinds.ensures.1 (ap (map record_shown) c.as_slice.ensures ∙ same ∙ sym c.as_slice-kinds.ensures) in cc (found, none))

pub returns-then-not-have_effects : goal.returns-then-not-have_effects
returns-then-not-have_effects c =
    let a = c.args in
    let e = a.shown.now.entry in
    let b = body_of a.self.now.state e in
    let so = c.requires.ran in
    let trail = c.trace_last.new.self.traced.trail in
    let seen = report_shown a.cause.now a.shown.now in
    let yes : c.in_ok-trace_last.field-0 ≡ true = search rules in
    let traced : AreTraced b e.tx a.last.now seen trail =
    traced_there b e.tx a.last.now a.cause.now a.shown.now c.as_slice-kinds.result.now c.as_slice-effects.result.now c.in_ok-trace_last.field-0 trail
    c.as_slice-kinds.ensures c.as_slice-effects.ensures yes (c.in_ok-trace_last.ensures b so.world_is so.me_is so.trail) in
    let records = c.in_ok-records.records in
    let ends = c.in_ok-records.ensures.ends ∙ ap shown_ends c.as_slice-kinds.ensures in
    let undos = c.in_ok-records.ensures.undos ∙ c.into_trail.ensures in
    let none : c.have_effects.result ≡ false = search rules in
    not_effects a.basis.now a.self.now a.last.now e seen trail traced records undos ends
    (λ same. let found = c.have_effects.ensures.1 (ap effects_shown c.as_slice-2.ensures ∙ same ∙ sym c.as_slice-effects.ensures) in cc (found, none))

pub returns-then-not-is_report : goal.returns-then-not-is_report
returns-then-not-is_report c =
    let a = c.args in
    let e = a.shown.now.entry in
    let b = body_of a.self.now.state e in
    let so = c.requires.ran in
    let trail = c.trace_last.new.self.traced.trail in
    let seen = report_shown a.cause.now a.shown.now in
    let yes : c.in_ok-trace_last.field-0 ≡ true = search rules in
    let traced : AreTraced b e.tx a.last.now seen trail =
    traced_there b e.tx a.last.now a.cause.now a.shown.now c.as_slice-kinds.result.now c.as_slice-effects.result.now c.in_ok-trace_last.field-0 trail
    c.as_slice-kinds.ensures c.as_slice-effects.ensures yes (c.in_ok-trace_last.ensures b so.world_is so.me_is so.trail) in
    let records = c.in_ok-records.records in
    let ends = c.in_ok-records.ensures.ends ∙ ap shown_ends c.as_slice-kinds.ensures in
    let undos = c.in_ok-records.ensures.undos ∙ c.into_trail.ensures in
    let none : c.is_report.result ≡ false = search rules in
    let count = ap (λ (n : RecordCount). n.now)
    (c.records_of-counted.ensures ∙ (λ i. count_of (all_records no_records (c.as_slice-3.ensures i) (c.as_slice-4.ensures i)))) in
    not_reported a.basis.now a.self.now a.last.now e seen trail traced records undos ends c.records_of-counted.result.count c.again.result count
    c.again.ensures (λ report. let found = c.is_report.ensures.1 report in cc (found, none))

pub returns : goal.returns
returns c =
    let a = c.args in
    let e = a.shown.now.entry in
    let b = body_of a.self.now.state e in
    let so = c.requires.ran in
    let trail = c.trace_last.new.self.traced.trail in
    let seen = report_shown a.cause.now a.shown.now in
    let yes : c.in_ok-trace_last.field-0 ≡ true = search rules in
    let traced : AreTraced b e.tx a.last.now seen trail =
    traced_there b e.tx a.last.now a.cause.now a.shown.now c.as_slice-kinds.result.now c.as_slice-effects.result.now c.in_ok-trace_last.field-0 trail
    c.as_slice-kinds.ensures c.as_slice-effects.ensures yes (c.in_ok-trace_last.ensures b so.world_is so.me_is so.trail) in
    let records = c.in_ok-records.records in
    let ends = c.in_ok-records.ensures.ends ∙ ap shown_ends c.as_slice-kinds.ensures in
    let undos = c.in_ok-records.ensures.undos ∙ c.into_trail.ensures in
    let kinds : c.have_kinds.result ≡ true = search rules in
    let effects : c.have_effects.result ≡ true = search rules in
    let report : c.is_report.result ≡ true = search rules in
    let count = ap (λ (n : RecordCount). n.now)
    (c.records_of-counted.ensures ∙ (λ i. count_of (all_records no_records (c.as_slice-3.ensures i) (c.as_slice-4.ensures i)))) in
    reported a.basis.now a.self.now a.last.now e seen trail traced records undos ends c.requires.replies c.records_of-counted.result.count c.again.result count
    c.again.ensures (ap (map record_shown) (sym c.as_slice.ensures) ∙ c.have_kinds.ensures.0 kinds ∙ c.as_slice-kinds.ensures)
    (ap effects_shown (sym c.as_slice-2.ensures) ∙ c.have_effects.ensures.0 effects ∙ c.as_slice-effects.ensures) (c.is_report.ensures.0 report)
