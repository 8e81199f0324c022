-- Calls whose parts took their places while they were made.
use Rattle.std.proofs.Common.{◌≡◌, arith, Result, Ok, Err, ap, ◌∙◌, refl, sym}
use Rattle.xc_text.specs.declared.script.CallForm.TheVariants as form
use Rattle.xc_text.specs.declared.line.ScriptLine.TheVariants as line
use Rattle.xc_text.specs.declared.script.Statement.TheVariants as statement
use Rattle.xc_text.specs.Named as named
use Rattle.xc_text.specs.Places.{Placed, one_placed, placed_form, placed_term, placed_expression}
use Rattle.xc_text.specs.Said.{Names, Said}
use Rattle.xc_text.specs.Stated.{Term, Expression, CallForm}
use Rattle.xc_text.specs.Steps.{after_line, call_stated, stated, stated_as, stated_by}
use Rattle.xc_tokens.specs.declared.why.Stop.{Stop}
use Rattle.xc_tokens.specs.declared.why.Stop.TheVariants as stop
use Rattle.xc_tokens.specs.declared.why.Why.{Why}
use Rattle.xc_tokens.specs.Answers.{Stops, and_then, seen}

-- such a call is stated as it was made
pub parts_kept : {A B : Type 0} (s : Said) (make : A → named.NamedCallForm) (f : B → CallForm) (place : A → Placed B) (parts : Result A Why) (n : Names)
    (made : B) → ((p : A) → placed_form s.names (make p) ≡ one_placed f (place p)) → Ok (n, made) ≡ seen place parts →
    call_stated s (seen make parts) ≡ stated_as s (n, statement.Call (f made))
parts_kept s make f place (Ok p) n made forms is =
    let same : (n, made) ≡ place p = cc in
    ap (λ q. stated_as s (one_placed (λ g. statement.Call g) q)) (forms p ∙ ap (one_placed f) (sym same))
parts_kept s make f place (Err e) n made forms is = cc

-- what stops its parts stops the call
pub parts_stop : {A B : Type 0} (s : Said) (make : A → named.NamedCallForm) (place : A → Placed B) (parts : Result A Why) (stops : Stop) →
    Stops stops (seen place parts) → Stops stops (call_stated s (seen make parts))
parts_stop s make place (Ok p) (stop.Refused e) bad = cc
parts_stop s make place (Err d) (stop.Refused e) bad = grind (arith, bad)
parts_stop s make place parts stop.NoMemory bad = tt

-- a store, whose word takes its place first
pub store_kept : (s : Said) (at : named.NamedTerm) (value : named.NamedExpression) (n m : Names) (a : Term) (v : Expression) →
    n ≡ (placed_term s.names at).0 → a ≡ (placed_term s.names at).1 → m ≡ (placed_expression n value).0 → v ≡ (placed_expression n value).1 →
    stated s (statement.Call (form.Store at value)) ≡ stated_as s (m, statement.Call (form.Store a v))
store_kept s at value n m a v names placed names' placed' = rw (names', placed', names, placed) refl

-- a line of a transaction that is a statement adds it
pub statement_says : (s : Said) (said : Result named.NamedStatement Why) →
    and_then (seen line.Statement said) (λ says. after_line s says) ≡ stated_by s said
statement_says s (Ok statement) = refl
statement_says s (Err e) = refl
