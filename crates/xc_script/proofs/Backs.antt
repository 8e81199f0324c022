-- A transaction that goes on behind a block, and one that goes on behind a call.
use Rattle.std.proofs.Common.{◌≡◌, ◌<◌, arith, ℕ, zero, suc, Bool, true, false, List, [], ◌∷◌, length, drop, Option, Some, refl, ap, sym, ◌∙◌, subst}
use Rattle.std.specs.Prelude.{IsTrue, slice_index_or, unwrap_or, not, if◌then◌else◌}
use Rattle.std.proofs.lemmas.Bool.{cond_both}
use Rattle.xc_data.specs.declared.call.Reply.{Reply}
use Rattle.xc_text.specs.declared.script.Script.{Script}
use Rattle.xc_text.specs.Stated.{Statement}
use Rattle.xc_script.specs.declared.ask.Ask.{Ask}
use Rattle.xc_script.specs.declared.ask.Ask.TheVariants as ask
use Rattle.xc_script.specs.Values.{Values, Variables}
use Rattle.xc_script.specs.Walks.{Walk, is_silent, set_by, past_silent, none_silent_first, stored_after, carried_by}
use Rattle.xc_script.specs.Asking.{ask_of, asks}
use Rattle.xc_script.specs.Answers.{bound, target_of, refuses, answered, behind_ask}
use Rattle.xc_script.specs.Ask.{next_body}
use Rattle.xc_script.specs.Blocks.{behind_keep, back_to}
use Rattle.xc_script.specs.Position.{Position, job_of, statements_left, walk_of, IsPastSilent, IsAskedCall, is_call_asked}
use Rattle.xc_script.proofs.Settling.{statements_remain}

-- silent statements store nothing
pub stored_stays : (variables : Variables) (stored : ℕ) (refused : Bool) (left : List Statement)
    → (past_silent variables stored refused left).stored ≡ stored
stored_stays variables stored refused [] = refl
stored_stays variables stored refused (s ∷ rest) =
    cond_both (is_silent variables refused s) _ _ (λ (w : Walk). w.stored ≡ stored)
    (λ _. stored_stays (set_by variables s) stored refused rest) (λ _. refl)

-- variables that hold this
abbrev pub with_values : Variables → Values → Variables
with_values variables values = record variables { values = values }

-- behind the keep, with the values of the save, it is where a back leads
pub back_at : (script : Script) (old new : Position) (body : List Statement) (values : Values)
    → next_body script (job_of old) ≡ Some body → next_body script (job_of new) ≡ Some body
    → IsPastSilent script old → old.saved ≡ Some values → new.variables ≡ with_values old.variables values
    → new.stored ≡ old.stored → new.refused ≡ false → drop new.at body ≡ behind_keep (drop old.at body)
    → walk_of script new ≡ back_to (walk_of script old) old.saved
back_at script old new body values was now settled saved holds stored refused behind =
    let walk : Walk = walk_of script old in
    let values_is : new.variables ≡ with_values walk.variables values = holds ∙ ap (λ v. with_values v values) settled.variables in
    let stored_is : new.stored ≡ walk.stored = stored ∙ sym (stored_stays old.variables old.stored old.refused (statements_left script old)) in
    let left_old : statements_left script old ≡ drop old.at body = ap (λ (o : Option (List Statement)). drop old.at (unwrap_or o [])) was in
    let left_new : statements_left script new ≡ drop new.at body = ap (λ (o : Option (List Statement)). drop new.at (unwrap_or o [])) now in
    let left_is : statements_left script new ≡ behind_keep walk.left = left_new ∙ behind ∙ ap behind_keep (sym left_old ∙ settled.left) in
    ap (λ v. past_silent v new.stored new.refused (statements_left script new)) values_is
    ∙ ap (λ s. past_silent (with_values walk.variables values) s new.refused (statements_left script new)) stored_is
    ∙ ap (λ r. past_silent (with_values walk.variables values) walk.stored r (statements_left script new)) refused
    ∙ ap (λ l. past_silent (with_values walk.variables values) walk.stored false l) left_is
    ∙ ap (back_to walk) (sym saved)

-- what is left from a place on is the statement there and those behind it
pub drop_there : {A : Type 0} (xs : List A) (at : ℕ) (x : A) → at < length xs → x ≡ slice_index_or xs at x → drop at xs ≡ x ∷ drop (suc at) xs
drop_there [] at x lt is = absurd (omega (arith, lt))
drop_there (y ∷ xs) zero x lt is = ap (λ z. z ∷ xs) (sym is)
drop_there (y ∷ xs) (suc at) x lt is = drop_there xs at x (omega (arith, lt)) is

-- a call that is asked is answered by its statement
behind_call : (walk : Walk) (s : Statement) (rest : List Statement) (a : Ask) (reply : Reply) → IsTrue (is_call_asked a)
    → past_silent (bound walk.variables (target_of s) reply) (stored_after walk.stored (carried_by a) reply) (refuses reply) rest ≡ behind_ask walk
    (s ∷ rest) a reply
behind_call walk s rest (ask.Call call) reply calls = refl
behind_call walk s rest ask.Commit reply calls = absurd (let no : false ≡ true = calls in cc)
behind_call walk s rest ask.Abort reply calls = absurd (let no : false ≡ true = calls in cc)
behind_call walk s rest ask.End reply calls = absurd (let no : false ≡ true = calls in cc)

here : (variables : Variables) (stored : ℕ) (refused : Bool) (s : Statement) (rest : List Statement) (b : Bool)
    → is_silent variables refused s ≡ b → not b ≡ true
    → past_silent variables stored refused (s ∷ rest) ≡ record { variables = variables; stored = stored; refused = refused; left = s ∷ rest }
here variables stored refused s rest false e loud =
    ap (λ silent. if silent then past_silent
    (set_by variables s) stored refused rest else record { variables = variables; stored = stored; refused = refused; left = s ∷ rest }) e
here variables stored refused s rest true e loud = absurd (let no : false ≡ true = loud in cc)

-- a transaction is answered where it is
pub answered_here : (variables : Variables) (stored : ℕ) (refused : Bool) (s : Statement) (rest : List Statement) (reply : Reply)
    → none_silent_first variables refused (s ∷ rest) ≡ true → IsTrue (is_call_asked (ask_of variables stored s))
    → past_silent (bound variables (target_of s) reply) (stored_after stored (carried_by (ask_of variables stored s)) reply) (refuses reply) rest
    ≡ answered (past_silent variables stored refused (s ∷ rest)) reply
answered_here variables stored refused s rest reply loud calls =
    let walk : Walk = record { variables = variables; stored = stored; refused = refused; left = s ∷ rest } in
    behind_call walk s rest (ask_of variables stored s) reply calls
    ∙ ap (λ w. answered w reply) (sym (here variables stored refused s rest (is_silent variables refused s) refl loud))

-- behind the call that is asked, with what its reply brings, it is where an answer leads
pub answer_at : (script : Script) (old new : Position) (body : List Statement) (s : Statement) (reply : Reply)
    → next_body script (job_of old) ≡ Some body → next_body script (job_of new) ≡ Some body
    → IsPastSilent script old → IsAskedCall script old → old.at < length body → s ≡ slice_index_or body old.at s → new.at ≡ suc old.at
    → new.variables ≡ bound old.variables (target_of s) reply
    → new.stored ≡ stored_after old.stored (carried_by (ask_of old.variables old.stored s)) reply → new.refused ≡ refuses reply
    → walk_of script new ≡ answered (walk_of script old) reply
answer_at script old new body s reply was now settled asked within there at holds stored refused =
    let rest : List Statement = drop (suc old.at) body in
    let left_old : statements_left script old ≡ s ∷ rest
    = ap (λ (o : Option (List Statement)). drop old.at (unwrap_or o [])) was ∙ drop_there body old.at s within there in
    let left_new : statements_left script new ≡ rest
    = ap (λ (o : Option (List Statement)). drop new.at (unwrap_or o [])) now ∙ ap (λ n. drop n body) at in
    let loud : none_silent_first old.variables old.refused (s ∷ rest) ≡ true
    = subst (λ l. none_silent_first old.variables old.refused l ≡ true) left_old
    (statements_remain old.variables old.stored old.refused (statements_left script old) settled.left) in
    let walk_is : walk_of script old ≡ past_silent old.variables old.stored old.refused (s ∷ rest)
    = ap (λ l. past_silent old.variables old.stored old.refused l) left_old in
    let calls : IsTrue (is_call_asked (ask_of old.variables old.stored s))
    = subst (λ w. IsTrue (is_call_asked (asks w))) (walk_is
    ∙ here old.variables old.stored old.refused s rest (is_silent old.variables old.refused s) refl loud) asked in
    ap (λ v. past_silent v new.stored new.refused (statements_left script new)) holds
    ∙ ap (λ n. past_silent (bound old.variables (target_of s) reply) n new.refused (statements_left script new)) stored
    ∙ ap (λ r. past_silent (bound old.variables (target_of s) reply) (stored_after old.stored (carried_by (ask_of old.variables old.stored s)) reply) r
    (statements_left script new)) refused
    ∙ ap (λ l. past_silent (bound old.variables (target_of s) reply) (stored_after old.stored (carried_by (ask_of old.variables old.stored s)) reply)
    (refuses reply) l) left_new
    ∙ answered_here old.variables old.stored old.refused s rest reply loud calls
    ∙ ap (λ w. answered w reply) (sym walk_is)
