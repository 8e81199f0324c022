use Rattle.std.proofs.Common.{◌≡◌, ◌+◌, suc, drop, sym, ◌∙◌, arith, rules}
use Rattle.xc_tokens.specs.Tokens.{run_len}
use Rattle.xc_tokens.proofs.PlainBytes.{is_quoted, plain_byte, run_byte}
use Rattle.xc_tokens.proofs.token.unquoted_run.Goals as goal

pub loop-n-preserved : goal.loop-n-preserved
loop-n-preserved c =
    let longer : run_len (drop c.loop-n.n c.args.bytes.now) ≡ suc (run_len (drop (c.loop-n.n + 1) c.args.bytes.now)) =
    run_byte c.loop-n.n c.args.bytes.now c.loop-n-test.true (search rules) in
    let same : is_quoted (drop c.loop-n.n c.args.bytes.now) ≡ is_quoted (drop (c.loop-n.n + 1) c.args.bytes.now) =
    plain_byte c.loop-n.n c.args.bytes.now c.loop-n-test.true (search rules) (search rules) in
    record { within = search rules; same = omega (arith, longer, c.loop-n.invariant.same); quote = sym same ∙ c.loop-n.invariant.quote }
