use Rattle.std.proofs.Common.{length, take, ap, sym, subst, ◌∙◌}
use Rattle.std.specs.Prelude.{nat_eq}
use Rattle.std.specs.Cmp.Lexicographic.{pointwise}
use Rattle.xc_data.specs.declared.entry.KeptItem.TheVariants.{Bytes}
use Rattle.xc_world.specs.World.{pipe_of, with_pipe}
use Rattle.xc_machine.specs.Taking.{Takes}
use Rattle.xc_machine.proofs.MachineTaking.{takes_front_bytes, bytes_there, no_pipe, other_front}
use Rattle.xc_machine.proofs.world.World.take_bytes.Goals as goal

pub returns-then-not-has_pipe-clause-taken : goal.returns-then-not-has_pipe-clause-taken
returns-then-not-has_pipe-clause-taken c = no_pipe c.args.self.now c.args.pipe c.args.bytes.now (sym c.has_pipe.ensures ∙ c.if-not-has_pipe.true)

pub returns-in_default-clause-taken : goal.returns-in_default-clause-taken
returns-in_default-clause-taken c =
    let bytes = c.args.bytes.now in
    other_front c.args.self.now c.args.pipe bytes
    (ap (λ held. pointwise nat_eq (take (length bytes) held) bytes) (sym c.held.ensures) ∙ c.in_default.ensures.cases)

pub returns-clause-taken : goal.returns-clause-taken
returns-clause-taken c =
    let w = c.args.self.now in
    let pipe = c.args.pipe in
    let bytes = c.args.bytes.now in
    let rest = c.in-Some.rest.now in
    subst (Takes (Bytes pipe bytes) w)
    (ap (λ held. with_pipe w pipe (record (pipe_of w pipe) { held = held })) (sym c.in_ok-rest.ensures) ∙ sym c.in_ok-set_held.ensures.ok)
    (takes_front_bytes w pipe bytes rest (sym c.has_pipe.ensures ∙ c.if-not-has_pipe.false)
    (sym c.held.ensures ∙ bytes_there bytes rest c.held.result.now c.in-Some.ensures.cases.0 c.in-Some.ensures.cases.1))
