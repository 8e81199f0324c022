use Rattle.std.proofs.Common.{◌≡◌, IsTrue, ap, refl, subst, sym, ◌∙◌, length, arith}
use Rattle.std.specs.Prelude.{Contains, Ok}
use Rattle.xc_data.specs.declared.private.Private.{Private}
use Rattle.xc_model.specs.Moment.{TxView}
use Rattle.xc_world.specs.After.{IsMeAfter}
use Rattle.xc_world.specs.Run.{given_back}
use Rattle.xc_script.specs.declared.ask.Ask.{Ask}
use Rattle.xc_script.specs.Position.{is_call_asked}
use Rattle.xc_station.specs.Acting.{acting, in_no_block, HasActedAsPlain, HasDoneAsPlain, LeavesOff}
use Rattle.xc_station.specs.Lent.{Lent, StaysBacked}
use Rattle.xc_station.specs.PutBack.{place_before}
use Rattle.xc_station.specs.declared.calls.Before.{Before}
use Rattle.xc_station.specs.declared.tx.Tx.{Tx}
use Rattle.xc_station.proofs.DoingsStarved.{unanswered_so, wants_value}
use Rattle.xc_station.proofs.DoingsWords.{nothing_left}
use Rattle.xc_station.proofs.Unanswered.{given_undone, last_backed, nothing_undone, taken_before}
use Rattle.xc_station.proofs.calls.do_host_call.Goals as goal
use Rattle.xc_station.proofs.calls.do_host_call.Goals.{then-noted, else-noted}

pub returns-in_err-keep-clause-acted : goal.returns-in_err-keep-clause-acted
returns-in_err-keep-clause-acted g c =
    let model = g.H.Host.model in
    let old = acting c.args.host.now c.args.buffers.now.kept c.args.words.now c.args.tx.now in
    unanswered_so model c.args.call.now old _ c.from_residual.result c.from_residual.ensures.0
    (subst (λ (t : TxView). LeavesOff model c.args.call.now old (record old { tx = t })) (sym (ap in_no_block c.in_err-keep.ensures.tx))
    (nothing_left model c.args.call.now old))

pub returns-then-is_err-clause-noted : goal.returns-then-is_err-clause-noted
returns-then-is_err-clause-noted g c =
    let model = g.H.Host.model in
    let call = c.args.call.now in
    let reply = c.in_ok-reply.reply in
    let old = acting c.args.host.now c.args.buffers.now.kept c.args.words.now c.args.tx.now in
    let done = acting c.act.new.host c.act.new.buffers.kept c.args.words.now c.act.new.tx in
    let did : HasDoneAsPlain model call old done reply =
    subst (λ (t : TxView). HasDoneAsPlain model call (record old { tx = t }) done reply) (ap in_no_block c.keep.ensures.tx) c.in_ok-reply.ensures.acted in
    let held = ap (λ (t : TxView). length t.taken) c.keep.ensures.tx in
    let counts = c.in_ok-reply.ensures.noted in
    elim c.if-noted.branch [
      | then-noted w ↦
          let more = w.if-noted.true in
          let back = taken_before model call old done reply did c.requires.may.sided
          (omega (arith, held, counts, more, c.noted.ensures.value, c.noted-noted.ensures.value))
          w.give_last.new.taken.items (λ notes last is. (w.give_last.ensures.given notes last is).0) in
          let gave = w.give_last.ensures.noted in
          let kept = ap (λ (b : Lent). b.noted) w.buffers-is in
          let taken = ap (λ (t : Tx). length t.taken.items) w.tx-is ∙ ap length back.0 in
          let one = back.1 in
          omega (arith, held, counts, gave, kept, taken, one)
      | else-noted w ↦
          let kept = ap (λ (b : Lent). b.noted) w.buffers-is in
          let taken = ap (λ (t : Tx). length t.taken.items) w.tx-is in
          omega (arith, held, counts, kept, taken)
    ]

pub returns-then-is_err-clause-acted : goal.returns-then-is_err-clause-acted
returns-then-is_err-clause-acted g c =
    let model = g.H.Host.model in
    let call = c.args.call.now in
    let reply = c.in_ok-reply.reply in
    let old = acting c.args.host.now c.args.buffers.now.kept c.args.words.now c.args.tx.now in
    let done = acting c.act.new.host c.act.new.buffers.kept c.args.words.now c.act.new.tx in
    let behind = acting c.act.new.host c.if-noted.buffers.kept c.args.words.now c.if-noted.tx in
    let acted = c.in_ok-reply.ensures.acted in
    let did : HasDoneAsPlain model call old done reply = subst
    (λ (t : TxView). HasDoneAsPlain model call (record old { tx = t }) done reply) (ap in_no_block c.keep.ensures.tx) acted in
    let was = c.keep.new.self.me.value in
    let stood = c.state_before-before.ensures
    ∙ ap (λ (me : Private). let b : Before = record { place = place_before call me.places; made = me.made; stored = me.stored } in b)
    c.deref.ensures in
    let after = subst (IsMeAfter c.keep.new.self.number call reply was) (sym c.deref_mut.ensures.value) acted.after in
    let back : c.put_back.new.me ≡ c.args.tx.now.me.value =
    c.put_back.ensures c.keep.new.self.number was after stood ∙ ap (λ (t : TxView). t.me) c.keep.ensures.tx in
    let brings = wants_value c.answer.result _ (sym c.if-is_err.ensures.value) c.answer.ensures.lasting in
    let held = ap (λ (t : TxView). length t.taken) c.keep.ensures.tx in
    let counts = c.in_ok-reply.ensures.noted in
    elim c.if-noted.branch [
      | then-noted w ↦ given_undone model call old done reply did c.requires.may.sided c.requires.lent c.noted-noted.ensures.kept.fit behind
          (let more = w.if-noted.true in omega (arith, held, counts, more, c.noted.ensures.value, c.noted-noted.ensures.value))
          (λ notes last is. let gave = w.give_last.ensures.given notes last is in
          (ap (λ (t : Tx). t.taken.items) w.tx-is ∙ gave.0, λ v. ap (λ (b : Lent). given_back v b.kept) w.buffers-is ∙ gave.1 v))
          (ap (acting c.act.new.host behind.kept c.args.words.now) w.tx-is
          ∙ (λ i. record done {
            kept = behind.kept;
            tx = record done.tx { me = back i; taken = sym (ap (λ (t : Tx). t.taken.items) w.tx-is) i };
          })) brings
      | else-noted w ↦ nothing_undone model call old done reply did c.requires.may.sided c.requires.lent c.noted-noted.ensures.kept.fit behind
          (let more = w.if-noted.false in omega (arith, held, counts, more, c.noted.ensures.value, c.noted-noted.ensures.value)) c.requires.plain.1
          ((λ i. acting c.act.new.host (w.buffers-is i).kept c.args.words.now (w.tx-is i)) ∙ (λ i. record done { tx = record done.tx { me = back i } })) brings
    ]

pub returns-then-is_err-clause-backs : goal.returns-then-is_err-clause-backs
returns-then-is_err-clause-backs g c = λ tells.
    let model = g.H.Host.model in
    let call = c.args.call.now in
    let reply = c.in_ok-reply.reply in
    let old = acting c.args.host.now c.args.buffers.now.kept c.args.words.now c.args.tx.now in
    let done = acting c.act.new.host c.act.new.buffers.kept c.args.words.now c.act.new.tx in
    let did : HasDoneAsPlain model call old done reply =
    subst (λ (t : TxView). HasDoneAsPlain model call (record old { tx = t }) done reply) (ap in_no_block c.keep.ensures.tx) c.in_ok-reply.ensures.acted in
    let held = ap (λ (t : TxView). length t.taken) c.keep.ensures.tx in
    let counts = c.in_ok-reply.ensures.noted in
    let stays : StaysBacked (model.contents c.args.host.now) c.args.buffers.now.kept c.act.new.buffers.kept = c.in_ok-reply.ensures.backs tells in
    elim c.if-noted.branch [
      | then-noted w ↦ last_backed model call old done reply did c.requires.may.sided c.if-noted.buffers.kept tells
          (let more = w.if-noted.true in omega (arith, held, counts, more, c.noted.ensures.value, c.noted-noted.ensures.value))
          (λ notes last is item at. w.give_last.ensures.among notes last is item (subst (λ (b : Lent). Contains b.kept item) w.buffers-is at)) stays
      | else-noted w ↦ subst (λ (b : Lent). StaysBacked (model.contents c.args.host.now) c.args.buffers.now.kept b.kept) (sym w.buffers-is) stays
    ]

pub returns-clause-acted : goal.returns-clause-acted
returns-clause-acted g c =
    let model = g.H.Host.model in
    subst (λ (t : TxView). HasActedAsPlain model c.args.call.now
    (record (acting c.args.host.now c.args.buffers.now.kept c.args.words.now c.args.tx.now) { tx = t })
    (acting c.act.new.host c.act.new.buffers.kept c.args.words.now c.act.new.tx) (Ok c.in_ok-reply.reply)) (ap in_no_block c.keep.ensures.tx)
    c.in_ok-reply.ensures.acted

pub answer-requires-clause-asked : goal.answer-requires-clause-asked
answer-requires-clause-asked g c own = subst (λ (a : Ask). IsTrue (is_call_asked a)) (sym (c.requires.asked own)) refl
