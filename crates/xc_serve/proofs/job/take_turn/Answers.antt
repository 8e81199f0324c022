use Rattle.std.proofs.Common.{subst, sym}
use Rattle.xc_model.specs.Live.{IsScripted}
use Rattle.xc_runner.specs.Walks.{is_last}
use Rattle.xc_station.specs.declared.run_result.Opening.{Opening}
use Rattle.xc_serve.specs.Answers.{block_or_none}
use Rattle.xc_serve.specs.Gains.{closing_if}
use Rattle.xc_serve.proofs.Blocks.{own_told}
use Rattle.xc_serve.proofs.Told.{grows_added, grows_on}
use Rattle.xc_serve.proofs.job.take_turn.Goals as goal

pub returns-clause-tells : goal.returns-clause-tells
returns-clause-tells g c =
    let was = c.args.station.now in
    let is = c.try_turn-answer.new.self in
    let block = block_or_none c.name-block.result in
    record {
      block = block;
      own = own_told g.H.Host.model c.args.job (record { old = was; new = is }) c.name-block.result c.try_turn-answer.result c.try_turn-answer.ensures.tried
          c.try_turn-answer.ensures.event.origin.opening c.try_turn-answer.ensures.event.front c.name-block.ensures.told;
      grows = grows_on c.args.text c.with_entries-text.result c.with_closing-text.result _
          (closing_if (is_last c.try_turn-answer.result) c.args.job block c.try_turn-answer.result)
          (grows_added c.args.text c.with_entries-text.result c.journal-before.result.now c.journal.result.now was.journal is.journal
          (c.journal-before.ensures.all c.requires) (c.journal.ensures.all (subst (λ (o : Opening). IsScripted o.script)
          (sym c.try_turn-answer.ensures.event.origin.opening) c.requires)) c.with_entries-text.ensures)
          c.with_closing-text.ensures;
    }
