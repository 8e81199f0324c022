-- The lines of clients, one after another.
use Rattle.std.proofs.Common.{◌≡◌, ◌++◌, ◌+◌, ℕ, add-one, refl, sym, subst}
use Rattle.xc_live_c.specs.Opened.{client_line, client_lines}

-- one client more is one line more
pub one_more_line : (n : ℕ) → client_lines (n + 1) ≡ client_lines n ++ client_line (n + 1)
one_more_line n = subst (λ m. client_lines m ≡ client_lines n ++ client_line m) (sym (add-one n)) refl
