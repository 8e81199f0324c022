use Rattle.std.proofs.Common.{refl, ap, sym, ◌∙◌, ◌||◌, true}
use Rattle.std.proofs.lemmas.Bool.{le-leb, lt-leb}
use Rattle.std.specs.Prelude.{is_none}
use Rattle.xc_data.specs.Private.{lowest_vacant}
use Rattle.xc_data.specs.declared.call.Call.TheVariants.{XPipe}
use Rattle.xc_world.specs.Act.Names.{next_num}
use Rattle.xc_world.specs.Checks.{has_made_all}
use Rattle.xc_deferred.proofs.Laws.{uses_fronted}
use Rattle.xc_calls.proofs.Laws.{refused_call, passed_call, told_grow, much_none, by_much, before_fronted}
use Rattle.xc_host.specs.Fronted.{before, fronted}
use Rattle.xc_pipe.specs.Making.{pipe_made_record}
use Rattle.xc_pipe.proofs.Made.{pipe_made_acts, pipe_made_me, pipe_made_kind, pipe_made_recorded, pipe_made_reply}
use Rattle.xc_pipe.proofs.making.x_pipe.Goals as goal

pub returns-then-me-ge-MOST_MADE-clause-call : goal.returns-then-me-ge-MOST_MADE-clause-call
returns-then-me-ge-MOST_MADE-clause-call g c =
    let me = c.args.me.now in
    λ items none. refused_call (fronted g.H.Host.model) _
    (record { host = before c.args.host.now items; number = c.args.tx; me = me; undo = c.args.undo.now }) _
    (ap (λ b. by_much (b || is_none (lowest_vacant me.places))) (le-leb 16 me.made c.if-me-ge-MOST_MADE.true)) (λ w n. refl)

pub returns-in_default-clause-call : goal.returns-in_default-clause-call
returns-in_default-clause-call g c =
    let me = c.args.me.now in
    λ items none. refused_call (fronted g.H.Host.model) _
    (record { host = before c.args.host.now items; number = c.args.tx; me = me; undo = c.args.undo.now }) _
    (ap (λ o. by_much (has_made_all me || is_none o)) (sym c.vacant.ensures.value ∙ c.in_default.is)
    ∙ ap (λ b. by_much (b || true)) (lt-leb 16 me.made c.if-me-ge-MOST_MADE.false)) (λ w n. refl)

pub returns-clause-call : goal.returns-clause-call
returns-clause-call g c =
    let model = g.H.Host.model in
    let me = c.args.me.now in
    let few = c.if-me-ge-MOST_MADE.false in
    let vacant = sym c.vacant.ensures.value ∙ c.in-Some.is in
    let next = c.make_at.ensures in
    let making = next.making in
    let result = c.make_at.result in
    λ items none. passed_call (fronted model) XPipe
    (record { host = before c.args.host.now items; number = c.args.tx; me = me; undo = c.args.undo.now })
    (record { host = before c.make_at.new.host items; number = c.args.tx; me = c.make_at.new.me; undo = c.make_at.new.undo }) result
    (ap by_much (much_none (has_made_all me) (lowest_vacant me.places) c.in-Some.h (lt-leb 16 me.made few) vacant))
    (record {
      reply = pipe_made_reply c.in-Some.h result making.made;
      uses = uses_fronted model items c.args.host.now c.make_at.new.host next.uses;
      after = pipe_made_me c.args.tx me c.make_at.new.me c.in-Some.h result vacant making.made next.me;
      acts = λ t. pipe_made_acts (model.contents c.args.host.now) (model.contents c.make_at.new.host) items c.args.tx me c.make_at.new.me c.in-Some.h result few
          vacant (none t) next.me (making.told t);
      err = next.err;
      cause = making.cause;
    })
    (told_grow (fronted model) XPipe (pipe_made_record (next_num me c.args.tx)) _ _ result c.requires.none (pipe_made_kind me c.args.tx)
    (λ r w. pipe_made_recorded me c.args.tx r) making.records)
    (before_fronted model items c.args.host.now c.make_at.new.host c.args.undo.now c.make_at.new.undo result making.err)
