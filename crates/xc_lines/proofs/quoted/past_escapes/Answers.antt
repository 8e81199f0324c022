use Rattle.std.proofs.Common.{◌≡◌, ◌-◌, ◌∷◌, ◌∙◌, ap, length, take, drop, get_or, arith, rules}
use Rattle.xc_tokens.specs.Quoted.{literal_of, then_rest}
use Rattle.xc_tokens.proofs.Laws.{read_on, first_and_rest}
use Rattle.xc_lines.proofs.quoted.past_escapes.Goals as goal

pub loop-rest-preserved : goal.loop-rest-preserved
loop-rest-preserved c =
    let read : then_rest c.in-Some.byte (literal_of c.in-Some.next.now)
    ≡ literal_of (get_or c.loop-rest.rest.now 0 0 ∷ take (length c.loop-rest.rest.now - 1) (drop 1 c.loop-rest.rest.now)) =
    search rules in
    let piece : then_rest c.in-Some.byte (literal_of c.in-Some.next.now) ≡ literal_of c.loop-rest.rest.now =
    read ∙ ap literal_of (first_and_rest c.loop-rest.rest.now (omega (arith, c.in-len1-up.len_at_least))) in
    search (
      rules,
      read_on c.loop-rest.meant.items c.in-Some.byte c.loop-rest.rest.now c.in-Some.next.now (literal_of c.args.bytes.now) c.loop-rest.invariant.same piece,
    )
