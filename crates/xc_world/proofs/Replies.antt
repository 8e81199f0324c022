-- What may be replied of a call that the checks let pass.
use Rattle.std.proofs.Common.{◌≡◌, ℕ, ◌≤◌, ◌==◌, ◌||◌, true, false, not, List, length, refl, ap, arith}
use Rattle.std.proofs.lemmas.Bool.{and_from, le-leb, ne_eqb, or_right}
use Rattle.std.specs.Prelude.{nat_le}
use Rattle.xc_data.specs.declared.call.Call.{Call}
use Rattle.xc_data.specs.declared.call.Call.TheVariants as call
use Rattle.xc_data.specs.declared.call.Reply.{Reply}
use Rattle.xc_data.specs.declared.call.Reply.TheVariants as reply
use Rattle.xc_world.specs.Checks.{is_check_reply}
use Rattle.xc_world.specs.Replies.{may_bring, may_reply}

-- none of it is a check's reply
pub no_check_reply : (c : Call) (r : Reply) → may_reply c r ≡ true → is_check_reply c r ≡ false
no_check_reply (call.XWriteSeq h bytes) reply.TooBig may = refl
no_check_reply (call.XSeek h to) reply.TooBig may = refl
no_check_reply call.Back (reply.Undone faults) may = refl
no_check_reply _ (reply.Undone faults) may = cc
no_check_reply _ reply.BadHandle may = cc
no_check_reply _ reply.TooBig may = cc
no_check_reply _ reply.TooMuch may = cc
no_check_reply _ _ may = refl

-- a number that isn't 0
pub not_zero : (n : ℕ) → 1 ≤ n → not (n == 0) ≡ true
not_zero n some = ap not (ne_eqb n 0 (λ e. omega (arith, e, some)))

-- some bytes, and not more than are asked for
pub brings_some : (n : ℕ) (bytes : List ℕ) → 1 ≤ length bytes → length bytes ≤ n → may_bring n bytes ≡ true
brings_some n bytes some most =
    and_from (nat_le (length bytes) n) (n == 0 || not (length bytes == 0)) (le-leb (length bytes) n most)
    (or_right (n == 0) (not (length bytes == 0)) (not_zero (length bytes) some))
