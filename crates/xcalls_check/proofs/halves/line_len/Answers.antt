use Rattle.std.proofs.Common.{◌≡◌, ◌+◌, ◌∙◌, sym, ap, length, true, add-one, arith, rules}
use Rattle.std.proofs.lemmas.List.{drop_all}
use Rattle.xcalls_check.specs.Halves.{script_len_from}
use Rattle.xcalls_check.proofs.LineEnds.{last_line, past_line, unmarked}
use Rattle.xcalls_check.proofs.halves.line_len.Goals as goal

pub returns-clause-past : goal.returns-clause-past
returns-clause-past c =
    let bytes = c.args.bytes.now in
    let n = c.front_len-n.result in
    rw add-one (past_line bytes n c.front_len-n.ensures.value (search rules)) ∙ sym (unmarked bytes c.requires)

pub returns-then-n-bytes-clause-past : goal.returns-then-n-bytes-clause-past
returns-then-n-bytes-clause-past c =
    let bytes = c.args.bytes.now in
    let n = c.front_len-n.result in
    let all : n ≡ length bytes = search rules in
    let same = last_line bytes (sym all ∙ c.front_len-n.ensures.value) in
    let own = unmarked bytes c.requires in
    ap (λ l. n + script_len_from true l) (drop_all n bytes (omega (arith, all))) ∙ omega (arith, all, same, own)
