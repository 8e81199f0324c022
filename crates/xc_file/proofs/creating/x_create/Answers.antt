use Rattle.std.proofs.Common.{refl, ap, sym, ◌∙◌, ◌||◌, true}
use Rattle.std.proofs.lemmas.Bool.{le-leb, lt-leb}
use Rattle.std.specs.Prelude.{is_none}
use Rattle.xc_data.specs.Private.{lowest_vacant}
use Rattle.xc_data.specs.declared.call.Call.TheVariants.{XCreate}
use Rattle.xc_world.specs.Checks.{has_made_all}
use Rattle.xc_world.specs.Trail.{create_record}
use Rattle.xc_world.proofs.Laws.{create_of}
use Rattle.xc_calls.proofs.Laws.{refused_call, passed_call, told_grow, by_much, much_none}
use Rattle.xc_file.proofs.NameCalls.{created_acts, create_me}
use Rattle.xc_file.proofs.creating.x_create.Goals as goal

pub returns-then-me-ge-MOST_MADE-clause-call : goal.returns-then-me-ge-MOST_MADE-clause-call
returns-then-me-ge-MOST_MADE-clause-call g c =
    let me = c.args.me.now in
    refused_call g.H.Host.model _ (record { host = c.args.host.now; number = c.args.tx; me = me; undo = c.args.undo.now }) _
    (ap (λ b. by_much (b || is_none (lowest_vacant me.places))) (le-leb 16 me.made c.if-me-ge-MOST_MADE.true)) (λ w n. refl)

pub returns-in_default-clause-call : goal.returns-in_default-clause-call
returns-in_default-clause-call g c =
    let me = c.args.me.now in
    refused_call g.H.Host.model _ (record { host = c.args.host.now; number = c.args.tx; me = me; undo = c.args.undo.now }) _
    (ap (λ o. by_much (has_made_all me || is_none o)) (sym c.vacant.ensures.value ∙ c.in_default.is)
    ∙ ap (λ b. by_much (b || true)) (lt-leb 16 me.made c.if-me-ge-MOST_MADE.false)) (λ w n. refl)

pub returns-clause-call : goal.returns-clause-call
returns-clause-call g c =
    let model = g.H.Host.model in
    let me = c.args.me.now in
    let name = c.args.name.now in
    let few = c.if-me-ge-MOST_MADE.false in
    let vacant = sym c.vacant.ensures.value ∙ c.in-Some.is in
    let next = c.create_at.ensures in
    let create = next.create in
    let result = c.create_at.result in
    passed_call model (XCreate name) (record { host = c.args.host.now; number = c.args.tx; me = me; undo = c.args.undo.now })
    (record { host = c.create_at.new.host; number = c.args.tx; me = c.create_at.new.me; undo = c.create_at.new.undo }) result
    (ap by_much (much_none (has_made_all me) (lowest_vacant me.places) c.in-Some.h (lt-leb 16 me.made few) vacant))
    (record {
      reply = create.reply;
      uses = next.uses;
      after = create_me c.args.tx me c.create_at.new.me name c.in-Some.h result vacant create.made next.me;
      acts = λ t. created_acts (model.contents c.args.host.now) (model.contents c.create_at.new.host) c.args.tx me c.create_at.new.me name c.in-Some.h
          result few vacant create.made next.me (create.told t);
      err = next.err;
      cause = create.cause;
    })
    (told_grow model (XCreate name) (create_record me c.args.tx name) _ _ result c.requires.none (create_of me c.args.tx name) (λ r w. refl) create.records)
    create.err
