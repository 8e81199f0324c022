use Rattle.std.proofs.Common.{rules, ◌≡◌, true, false, ◌∙◌, ap}
use Rattle.std.proofs.lemmas.Bool.{OnTrue_at}
use Rattle.xc_data.specs.declared.entry.Entry.{Entry}
use Rattle.xc_model.specs.EntryEnds.{next_claims}
use Rattle.xc_model.specs.Progress.{body_of}
use Rattle.xc_judge.specs.Judgement.{FailsToRun, HasNoRecords, IsFoundSo, IsRunSo}
use Rattle.xc_judge.specs.declared.reason.Reason.TheVariants as reason
use Rattle.xc_judge.proofs.Cases.{found_err, found_none, found_ok, found_some}
use Rattle.xc_judge.proofs.Showing.{judged_true, played_so, refused_held, refused_records, refused_run, refused_story, shown_bare}
use Rattle.xc_judge.proofs.progress.Progress.judge.Goals as goal

pub returns-in-Err : goal.returns-in-Err
returns-in-Err c =
    let a = c.args in
    refused_run a.basis.now a.self.now a.last.now a.shown c.in-Err.why
    (found_err c.in_ok-ran.field-0 c.in-Err.why (IsRunSo a.basis.now a.self.now a.shown.entry) (FailsToRun a.basis.now a.self.now a.shown.entry) c.in-Err.is
    c.in_ok-ran.ensures)

pub returns-then-not-branch : goal.returns-then-not-branch
returns-then-not-branch c =
    let a = c.args in
    let body = found_ok c.in_ok-ran.field-0 c.in-Ok.ran (IsRunSo a.basis.now a.self.now a.shown.entry) (FailsToRun a.basis.now a.self.now a.shown.entry)
    c.in-Ok.is c.in_ok-ran.ensures in
    let none : c.in_ok-has_lates.field-0 ≡ false = search rules in
    refused_run a.basis.now a.self.now a.last.now a.shown reason.Late
    (body.numbered, body.replies, λ has. let found = c.in_ok-has_lates.ensures.decides.1 has in cc (found, none))

pub with_records-requires-clause-ran : goal.with_records-requires-clause-ran
with_records-requires-clause-ran c =
    let ends : c.in_ok-has_lates.field-0 ≡ true = search rules in
    OnTrue_at ends c.in_ok-has_lates.ensures.leads

pub returns-in_default : goal.returns-in_default
returns-in_default c =
    let a = c.args in
    let body = found_ok c.in_ok-ran.field-0 c.in-Ok.ran (IsRunSo a.basis.now a.self.now a.shown.entry) (FailsToRun a.basis.now a.self.now a.shown.entry)
    c.in-Ok.is c.in_ok-ran.ensures in
    let ends : c.in_ok-has_lates.field-0 ≡ true = search rules in
    let run = played_so a.basis.now a.self.now a.shown.entry c.in-Ok.ran body (c.in_ok-has_lates.ensures.decides.0 ends) in
    refused_records a.basis.now a.self.now a.last.now a.shown run
    (found_none c.in_ok-entry.field-0 (HasNoRecords a.basis.now a.self.now a.last.now a.shown) (IsFoundSo a.basis.now a.self.now a.last.now a.shown)
    c.in_default.not-Some c.in_ok-entry.ensures)

pub returns-then-not-holds : goal.returns-then-not-holds
returns-then-not-holds c =
    let a = c.args in
    let body = found_ok c.in_ok-ran.field-0 c.in-Ok.ran (IsRunSo a.basis.now a.self.now a.shown.entry) (FailsToRun a.basis.now a.self.now a.shown.entry)
    c.in-Ok.is c.in_ok-ran.ensures in
    let ends : c.in_ok-has_lates.field-0 ≡ true = search rules in
    let run = played_so a.basis.now a.self.now a.shown.entry c.in-Ok.ran body (c.in_ok-has_lates.ensures.decides.0 ends) in
    let so = found_some c.in_ok-entry.field-0 (c.in-Some.entry, c.in-Some.kept) (HasNoRecords a.basis.now a.self.now a.last.now a.shown)
    (IsFoundSo a.basis.now a.self.now a.last.now a.shown) c.in-Some.is c.in_ok-entry.ensures in
    let none : c.in_ok-holds.holds ≡ false = search rules in
    refused_held a.basis.now a.self.now a.last.now a.shown run c.in-Some.entry so.shows so.records
    (λ held. let found = c.in_ok-holds.ensures.1 held in cc (found, none))

pub returns-then-not-is_told : goal.returns-then-not-is_told
returns-then-not-is_told c =
    let a = c.args in
    let body = found_ok c.in_ok-ran.field-0 c.in-Ok.ran (IsRunSo a.basis.now a.self.now a.shown.entry) (FailsToRun a.basis.now a.self.now a.shown.entry)
    c.in-Ok.is c.in_ok-ran.ensures in
    let ends : c.in_ok-has_lates.field-0 ≡ true = search rules in
    let run = played_so a.basis.now a.self.now a.shown.entry c.in-Ok.ran body (c.in_ok-has_lates.ensures.decides.0 ends) in
    let so = found_some c.in_ok-entry.field-0 (c.in-Some.entry, c.in-Some.kept) (HasNoRecords a.basis.now a.self.now a.last.now a.shown)
    (IsFoundSo a.basis.now a.self.now a.last.now a.shown) c.in-Some.is c.in_ok-entry.ensures in
    let holds : c.in_ok-holds.holds ≡ true = search rules in
    let none : c.is_told.result ≡ false = search rules in
    refused_story a.basis.now a.self.now a.last.now a.shown run c.in-Some.entry so.shows so.records (c.in_ok-holds.ensures.0 holds)
    (λ told. let found = c.is_told.ensures.1 told in cc (found, none))

pub returns : goal.returns
returns c =
    let a = c.args in
    let body = found_ok c.in_ok-ran.field-0 c.in-Ok.ran (IsRunSo a.basis.now a.self.now a.shown.entry) (FailsToRun a.basis.now a.self.now a.shown.entry)
    c.in-Ok.is c.in_ok-ran.ensures in
    let ends : c.in_ok-has_lates.field-0 ≡ true = search rules in
    let run = played_so a.basis.now a.self.now a.shown.entry c.in-Ok.ran body (c.in_ok-has_lates.ensures.decides.0 ends) in
    let so = found_some c.in_ok-entry.field-0 (c.in-Some.entry, c.in-Some.kept) (HasNoRecords a.basis.now a.self.now a.last.now a.shown)
    (IsFoundSo a.basis.now a.self.now a.last.now a.shown) c.in-Some.is c.in_ok-entry.ensures in
    let holds : c.in_ok-holds.holds ≡ true = search rules in
    let told : c.is_told.result ≡ true = search rules in
    record {
      shows = so.shows;
      true = judged_true a.basis.now a.self.now a.last.now a.shown c.in-Some.entry so.shows run (c.in_ok-holds.ensures.0 holds)
          (c.is_told.ensures.0 told) so.records;
      kept = so.kept;
      wanted =
          c.wanted-wanted.ensures (body_of a.self.now.state a.shown.entry) body.body.world_is body.body.me_is
          ∙ ap (λ (e : Entry). next_claims (body_of a.self.now.state e) a.last.now) (shown_bare a.shown c.in-Some.entry so.shows);
    }
