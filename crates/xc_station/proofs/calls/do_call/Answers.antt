use Rattle.std.proofs.Common.{IsTrue, ap, refl, subst, sym, ◌∙◌}
use Rattle.std.specs.Prelude.{is_err}
use Rattle.xc_script.specs.declared.ask.Ask.{Ask}
use Rattle.xc_script.specs.Position.{is_call_asked}
use Rattle.xc_station.specs.Acting.{acting}
use Rattle.xc_station.proofs.DoingsBlocks.{block_acted, saved_plain}
use Rattle.xc_station.proofs.DoingsStarved.{unanswered, unanswered_so, wants_value}
use Rattle.xc_station.proofs.DoingsWords.{word_untaken}
use Rattle.xc_model.specs.Moment.{TxView}
use Rattle.xc_model.specs.PlainSteps.{copied}
use Rattle.xc_station.specs.Jobs.{tx_view}
use Rattle.xc_station.proofs.Saves.{acted_seen, on_ok}
use Rattle.xc_station.proofs.calls.do_call.Goals as goal

pub returns-in_err-answer-clause-acted : goal.returns-in_err-answer-clause-acted
returns-in_err-answer-clause-acted g c =
    let e = c.in_ok-reply.ensures in
    let new = acting c.act.new.host c.act.new.buffers.kept c.args.words.now c.act.new.tx in
    let still = e.words (sym c.if-not-is_on_words.ensures) in
    unanswered_so g.H.Host.model _ _ _ _ c.from_residual-in_err-answer.ensures.0
    (unanswered g.H.Host.model _ _ _ _ _ e.acted (word_untaken c.args.call.now (sym c.if-not-is_on_words.ensures)) c.requires.ahead
    (λ i. record new { tx = record new.tx { me = (still.0 i).value } })
    (wants_value c.answer.result _ (ap is_err c.in_err-answer.was) c.answer.ensures.lasting))

pub returns-then-is_block_end-clause-acted : goal.returns-then-is_block_end-clause-acted
returns-then-is_block_end-clause-acted g c =
    let old = acting c.args.host.now c.args.buffers.now.kept c.args.words.now c.args.tx.now in
    let e = c.do_block_call.ensures in
    block_acted g.H.Host.model c.args.call.now old _ c.do_block_call.result (sym c.if-is_block_end.ensures)
    (ap (λ (t : TxView). record old { tx = t }) e.tx) e.done c.requires.may.stored

pub returns-then-not-is_on_words-clause-saved : goal.returns-then-not-is_on_words-clause-saved
returns-then-not-is_on_words-clause-saved g c =
    let e = c.do_host_call.ensures in
    on_ok _ c.do_host_call.result
    (acted_seen g.H.Host.model c.args.call.now _ _ _ _ _ c.args.tx.now c.do_host_call.new.tx e.save c.requires.may.none c.do_host_call.result e.acted
    c.requires.save
    ∙ sym (saved_plain c.args.call.now (tx_view c.args.tx.now).saved (copied (tx_view c.do_host_call.new.tx)) (sym c.if-is_block_end.ensures)
    c.requires.ahead))

pub answer-requires-clause-asked : goal.answer-requires-clause-asked
answer-requires-clause-asked g c own = subst (λ (a : Ask). IsTrue (is_call_asked a)) (sym (c.requires.asked own)) refl
