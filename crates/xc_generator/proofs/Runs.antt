-- Draws one after another, and texts printed one after another.
use Rattle.std.proofs.Common.{◌≡◌, refl, sym, ap, ap₂, ◌∙◌, ◌++◌, ◌+◌, ◌-◌, ◌*◌, ◌/◌, ◌%◌, ◌^◌, ◌<◌, ◌≤◌}
use Rattle.std.proofs.Common.{ℕ, zero, suc, List, [], append_assoc, append-nil, arith}
use Rattle.std.specs.Prelude.{codes}
use Rattle.std.specs.Fmt.{decimal}
use Rattle.xc_generator.specs.Draws.{next, state, drawn}
use Rattle.xc_generator.specs.Generated.{texts, transfer, transfer_lines, transaction, generated_job_lines}
use Rattle.xc_generator.specs.declared.transfer.Transfer.{Transfer}

-- what is left of texts begins with the first one
pub texts_begin : (text : ℕ → List ℕ) (first k n : ℕ) → k < n
    → texts text first (n - k) ≡ text first ++ texts text (first + 1) (n - (k + 1))
unfolding texts
texts_begin text first k n below =
    let one_more : n - k ≡ suc (n - (k + 1)) = omega arith in
    ap (texts text first) one_more

-- nothing is left after the last one
pub texts_end : (text : ℕ → List ℕ) (first k n : ℕ) → n ≤ k → texts text first (n - k) ≡ []
unfolding texts
texts_end text first k n at =
    let none : n - k ≡ 0 = omega arith in
    ap (texts text first) none

-- before any draw
pub state_begins : (seed : ℕ) → state seed 0 ≡ seed
unfolding state
state_begins seed = refl

-- draws after draws
pub state_after : (seed m n : ℕ) → state (state seed m) n ≡ state seed (m + n)
unfolding state
state_after seed m zero =
    let none : m ≡ m + 0 = omega arith in
    ap (state seed) none
state_after seed m (suc n) =
    let one_more : suc (m + n) ≡ m + suc n = omega arith in
    ap next (state_after seed m n) ∙ ap (state seed) one_more

-- a draw after draws
drawn_after : (seed m n at : ℕ) → m + n ≡ at → drawn (state seed m) n ≡ drawn seed at
drawn_after seed m n at total = ap (λ s. s / 2 ^ 33) (state_after seed m n ∙ ap (state seed) total)

-- a transfer after transfers
transfer_after : (seed m k : ℕ) → transfer (state seed (3 * m)) k ≡ transfer seed (m + k)
transfer_after seed m k =
    let after = state seed (3 * m) in
    let first : drawn after (3 * k + 1) ≡ drawn seed (3 * (m + k) + 1) = drawn_after seed (3 * m) (3 * k + 1) _ (omega arith) in
    let second : drawn after (3 * k + 2) ≡ drawn seed (3 * (m + k) + 2) = drawn_after seed (3 * m) (3 * k + 2) _ (omega arith) in
    let third : drawn after (3 * k + 3) ≡ drawn seed (3 * (m + k) + 3) = drawn_after seed (3 * m) (3 * k + 3) _ (omega arith) in
    ap₂ (λ a b. of a b (drawn after (3 * k + 3))) first second
    ∙ ap (of (drawn seed (3 * (m + k) + 1)) (drawn seed (3 * (m + k) + 2))) third
  where
    of : ℕ → ℕ → ℕ → Transfer
    of a b c = record { from = a % 64; to = b % 64; amount = c % 10 + 1 }

-- a transaction after transactions
transaction_after : (seed m k : ℕ) → transaction (state seed (3 * m)) k ≡ transaction seed (m + k)
transaction_after seed m k = ap transfer_lines (transfer_after seed m k)

-- transactions after transactions
transactions_after : (seed m k n : ℕ) → texts (transaction (state seed (3 * m))) k n ≡ texts (transaction seed) (m + k) n
unfolding texts
transactions_after seed m k zero = refl
transactions_after seed m k (suc n) =
    let one_more : m + (k + 1) ≡ m + k + 1 = omega arith in
    ap₂ (λ a b. a ++ b) (transaction_after seed m k)
    (transactions_after seed m (k + 1) n ∙ ap (λ from. texts (transaction seed) from n) one_more)

-- after k transfers the next one is the first of those that follow
pub next_transaction : (seed now k : ℕ) → now ≡ state seed (3 * k) → transaction now 0 ≡ transaction seed k
next_transaction seed now k is =
    let same : k + 0 ≡ k = omega arith in
    ap (λ s. transaction s 0) is ∙ transaction_after seed k 0 ∙ ap (transaction seed) same

-- three more draws
pub next_state : (seed now new k : ℕ) → now ≡ state seed (3 * k) → new ≡ state now 3 → new ≡ state seed (3 * (k + 1))
next_state seed now new k is more =
    let three_more : 3 * k + 3 ≡ 3 * (k + 1) = omega arith in
    more ∙ ap (λ s. state s 3) is ∙ state_after seed (3 * k) 3 ∙ ap (state seed) three_more

-- after k jobs the lines of the next one
pub next_job : (seed now k : ℕ) → now ≡ state seed (75 * k)
    → codes "job g" ++ decimal (k + 1) ++ codes "\n" ++ texts (transaction now) 0 25 ++ codes "end\n" ≡ generated_job_lines seed (k + 1)
next_job seed now k is =
    let draws : 75 * k ≡ 3 * (25 * k) = omega arith in
    let from : 25 * k + 0 ≡ 25 * (k + 1 - 1) = omega arith in
    ap (λ bs. codes "job g" ++ decimal (k + 1) ++ codes "\n" ++ bs ++ codes "end\n")
    (ap (λ s. texts (transaction s) 0 25) (is ∙ ap (state seed) draws) ∙ transactions_after seed (25 * k) 0 25
    ∙ ap (λ at. texts (transaction seed) at 25) from)

-- 75 more draws
pub next_job_state : (seed now new k : ℕ) → now ≡ state seed (75 * k) → new ≡ state now (3 * 25) → new ≡ state seed (75 * (k + 1))
next_job_state seed now new k is more =
    let job_more : 75 * k + 75 ≡ 75 * (k + 1) = omega arith in
    more ∙ ap (λ s. state s 75) is ∙ state_after seed (75 * k) 75 ∙ ap (state seed) job_more

-- a text was printed, and what is left is less by it
pub text_printed : (text : ℕ → List ℕ) (first k n : ℕ) (out new all : List ℕ) → k < n → new ≡ out ++ text first
    → out ++ texts text first (n - k) ≡ all → new ++ texts text (first + 1) (n - (k + 1)) ≡ all
text_printed text first k n out new all below printed before =
    ap (λ bs. bs ++ texts text (first + 1) (n - (k + 1))) printed
    ∙ append_assoc out (text first) (texts text (first + 1) (n - (k + 1)))
    ∙ ap (λ bs. out ++ bs) (sym (texts_begin text first k n below)) ∙ before

-- all texts were printed
pub texts_printed : (text : ℕ → List ℕ) (first k n : ℕ) (out all : List ℕ) → n ≤ k → out ++ texts text first (n - k) ≡ all → out ≡ all
texts_printed text first k n out all at before =
    sym (append-nil out) ∙ ap (λ bs. out ++ bs) (sym (texts_end text first k n at)) ∙ before
