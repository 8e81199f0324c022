use Rattle.std.proofs.Common.{◌≡◌, ◌+◌, ◌-◌, ◌++◌, ℕ, length, replicate, take, vec_len, ap, ◌∙◌, rules}
use Rattle.xc_tokens.proofs.LiteralLemmas.{filled_up}
use Rattle.xc_tokens.proofs.literals.add_byte.Goals as goal

pub returns : goal.returns
returns c =
    let bytes = c.args.bytes.now in
    let whole : vec_len bytes ≡ length bytes.items = search rules in
    let filled = λ (n : ℕ). take (n + c.args.times) bytes.items ++ replicate (n + c.args.times - vec_len bytes) c.args.byte in
    c.in_ok-resize.ensures.items ∙ ap filled c.len.ensures ∙ filled_up bytes.items c.args.times (vec_len bytes) c.args.byte whole
