use Rattle.std.proofs.Common.{refl, ap}
use Rattle.xc_data.specs.declared.call.Call.TheVariants.{XPair}
use Rattle.xc_world.specs.Act.Names.{next_num}
use Rattle.xc_deferred.proofs.Laws.{uses_fronted}
use Rattle.xc_calls.proofs.Laws.{refused_call, passed_call, told_grow, by_much, before_fronted}
use Rattle.xc_host.specs.Fronted.{before, fronted}
use Rattle.xc_socket.specs.Making.{pair_made_record}
use Rattle.xc_socket.proofs.Made.{all_made, pair_made_acts, pair_made_me, pair_made_kind, pair_made_recorded, pair_made_reply, room_for_pair, too_few}
use Rattle.xc_socket.proofs.making.x_pair.Goals as goal

pub returns-then-me-ge-MOST_MADE-clause-call : goal.returns-then-me-ge-MOST_MADE-clause-call
returns-then-me-ge-MOST_MADE-clause-call g c =
    let me = c.args.me.now in
    λ items none. refused_call (fronted g.H.Host.model) _
    (record { host = before c.args.host.now items; number = c.args.tx; me = me; undo = c.args.undo.now }) _
    (all_made me c.if-me-ge-MOST_MADE.true) (λ w n. refl)

pub returns-in_default-clause-call : goal.returns-in_default-clause-call
returns-in_default-clause-call g c =
    let me = c.args.me.now in
    λ items none. refused_call (fronted g.H.Host.model) _
    (record { host = before c.args.host.now items; number = c.args.tx; me = me; undo = c.args.undo.now }) _
    (too_few me c.if-me-ge-MOST_MADE.false c.in_default.ensures.few) (λ w n. refl)

pub returns-clause-call : goal.returns-clause-call
returns-clause-call g c =
    let model = g.H.Host.model in
    let me = c.args.me.now in
    let at = c.in-Some.at in
    let vacant = c.in-Some.ensures.vacant in
    let free = room_for_pair me c.if-me-ge-MOST_MADE.false c.in-Some.ensures.two in
    let next = c.make_at.ensures in
    let making = next.making in
    let result = c.make_at.result in
    λ items none. passed_call (fronted model) XPair
    (record { host = before c.args.host.now items; number = c.args.tx; me = me; undo = c.args.undo.now })
    (record { host = before c.make_at.new.host items; number = c.args.tx; me = c.make_at.new.me; undo = c.make_at.new.undo }) result
    (ap by_much free)
    (record {
      reply = pair_made_reply at result making.made;
      uses = uses_fronted model items c.args.host.now c.make_at.new.host next.uses;
      after = pair_made_me c.args.tx me at vacant c.make_at.new.me result making.made next.me;
      acts = λ t. pair_made_acts c.args.tx me at vacant (model.contents c.args.host.now) (model.contents c.make_at.new.host) items c.make_at.new.me result free
          (none t) next.me (making.told t);
      err = next.err;
      cause = making.cause;
    })
    (told_grow (fronted model) XPair (pair_made_record (next_num me c.args.tx)) _ _ result c.requires.none (pair_made_kind me c.args.tx)
    (λ r w. pair_made_recorded me c.args.tx r) making.records)
    (before_fronted model items c.args.host.now c.make_at.new.host c.args.undo.now c.make_at.new.undo result making.err)
