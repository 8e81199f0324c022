use Rattle.std.proofs.Common.{ap, refl, sym, ◌∙◌, length, arith}
use Rattle.std.proofs.lemmas.List.{length-map}
use Rattle.xc_data.specs.declared.script.Outline.{Outline}
use Rattle.xc_host.specs.Contents.{opened}
use Rattle.xc_host.specs.Model.{plan_of}
use Rattle.xc_sentinel.specs.Asking.{mark_of}
use Rattle.xc_model.specs.Opened.{IsOpening, opened_job}
use Rattle.xc_model.specs.Setting.{setting}
use Rattle.xc_station.specs.Jobs.{job_view}
use Rattle.xc_station.specs.Stations.{moment}
use Rattle.xc_station.proofs.BacksKept.{backs_made}
use Rattle.xc_station.proofs.Started.{backed_at_start, each_opened, roomy, steady_at_start}
use Rattle.xc_station.proofs.station.Station.start.Goals as goal
use Rattle.xc_station.specs.Lent.{Lent}
use Rattle.xc_host.specs.Kept.{with_kept}

pub invariant_of-result : goal.invariant_of-result
invariant_of-result g c =
    let model = g.H.Host.model in
    let s = setting c.args.script c.args.rules model.tells in
    let rooms = c.in-Ok.rooms in
    let opening : IsOpening c.args.script (moment model (record {
      host = c.open_with.new.self;
      buffers = rooms.buffers;
      words = rooms.words;
      sentinels = c.new-sentinels.result;
      started = rooms.started;
    })
    c.new-journal.result.items rooms.jobs.items) = record {
      words = c.in-Ok.ensures.words;
      journal = c.new-journal.ensures.0;
      kept = ap (λ (lent : Lent). lent.kept) c.in-Ok.ensures.buffers;
      jobs = c.in-Ok.ensures.jobs;
      started = c.in-Ok.ensures.started;
      marks = λ n. ap mark_of (c.new-sentinels.ensures.nobody n);
      calls = c.in_default-open_with.ensures.fresh;
    } in record {
      steady = steady_at_start s _ _ (record { read = c.requires.script; attempts = c.requires.rules.0; tries = c.requires.rules.1 }) c.requires.limits opening
          (c.open_with.ensures.count ∙ sym c.faults-faults.ensures)
          (λ t. ap (λ (lent : Lent). with_kept (model.contents c.open_with.new.self) lent.kept) c.in-Ok.ensures.buffers
          ∙ c.in_default-open_with.ensures.ok t ∙ ap (λ (p : Outline). opened p.prologue.objects) c.outline.ensures);
      rooms = roomy c.args.script _ _ _ _ c.requires.script opening c.new-sentinels.ensures.nothing c.new-sentinels.ensures.nobody
          c.in-Ok.ensures.lines.1
          (ap (λ (lent : Lent). lent.noted) c.in-Ok.ensures.buffers);
      ahead = c.in-Ok.ensures.ahead;
      taken = omega arith;
      plan = c.in_default-open_with.ensures.plan ∙ ap (λ (p : Outline). plan_of p.prologue) c.outline.ensures;
      backed = λ tells. backed_at_start c.args.script _ _ _ c.in-Ok.ensures.jobs (ap (λ (lent : Lent). lent.kept) c.in-Ok.ensures.buffers);
      unparted = λ own. c.new-journal.ensures.1;
      indexed = c.in-Ok.ensures.places;
      starts = (let count = sym (length-map rooms.jobs.items job_view) ∙ ap length c.in-Ok.ensures.jobs
          ∙ length-map c.args.script.outline.jobs (opened_job c.args.script) in
          let names = ap length c.in-Ok.ensures.started in
          let lines = c.in-Ok.ensures.lines.0 in
          let marks = c.in-Ok.ensures.ahead.count in
          let jobs_len = rooms.jobs.ok.0 in let jobs_cap = rooms.jobs.ok.1 in
          let ahead_len = rooms.ahead.ok.0 in let ahead_cap = rooms.ahead.ok.1 in
          record {
            children = each_opened c.args.script c.args.script.outline.jobs rooms.jobs.items c.in-Ok.ensures.jobs c.in-Ok.ensures.alone;
            jobs_room = omega (arith, count, names, jobs_len, jobs_cap);
            lines_room = omega (arith, count, names, lines);
            marks_room = omega (arith, count, names, marks, ahead_len, ahead_cap);
          });
      undoable = backs_made c.args.rules.undo_tries rooms.jobs.items (opened_job c.args.script) c.args.script.outline.jobs (λ name. refl) c.in-Ok.ensures.jobs;
    }

pub returns-clause-opening : goal.returns-clause-opening
returns-clause-opening g c =
    record {
      words = c.in-Ok.ensures.words;
      journal = c.new-journal.ensures.0;
      kept = ap (λ (lent : Lent). lent.kept) c.in-Ok.ensures.buffers;
      jobs = c.in-Ok.ensures.jobs;
      started = c.in-Ok.ensures.started;
      marks = λ n. ap mark_of (c.new-sentinels.ensures.nobody n);
      calls = c.in_default-open_with.ensures.fresh;
    }
