-- Where clients ask, a walk stays where it is.
use Rattle.std.proofs.Common.{◌≡◌, ◌<◌, ℕ, Bool, true, false, List, [], length, drop, Option, Some, refl, ap, sym, ◌∙◌, subst, arith}
use Rattle.std.proofs.lemmas.List.{drop_all}
use Rattle.std.specs.Prelude.{slice_get, unwrap_or, if◌then◌else◌}
use Rattle.xc_data.specs.declared.call.Reply.{Reply}
use Rattle.xc_text.specs.declared.script.Script.{Script}
use Rattle.xc_text.specs.Stated.{Statement}
use Rattle.xc_script.specs.Answers.{answered}
use Rattle.xc_script.specs.Ask.{Job, next_body, transactions_at}
use Rattle.xc_script.specs.Position.{Position, IsPastSilent, job_of, statements_left, walk_of}
use Rattle.xc_script.specs.Walks.{past_silent}

-- a transaction is left, of which nothing is said
pub live_body : (script : Script) (job : Job) → script.clients ≡ true → next_body script job ≡ Some []
live_body script job live = ap (λ (b : Bool). if b then Some [] else slice_get (transactions_at script job.block) job.next) live

-- so no statement is left
pub live_left : (script : Script) (place : Position) → script.clients ≡ true → statements_left script place ≡ []
live_left script place live =
    ap (λ (o : Option (List Statement)). drop place.at (unwrap_or o [])) (live_body script (job_of place) live) ∙ drop_all place.at [] (omega arith)

-- and no reply leads on
pub live_stays : (script : Script) (place : Position) (reply : Reply) → script.clients ≡ true
    → walk_of script place ≡ answered (walk_of script place) reply
live_stays script place reply live =
    subst (λ (l : List Statement). past_silent place.variables place.stored place.refused l
    ≡ answered (past_silent place.variables place.stored place.refused l) reply) (sym (live_left script place live)) refl

-- it is where its walk is
pub live_settled : (script : Script) (place : Position) → script.clients ≡ true → IsPastSilent script place
live_settled script place live =
    let none = live_left script place live in
    record {
      variables = sym (ap (λ (l : List Statement). (past_silent place.variables place.stored place.refused l).variables) none);
      left = none ∙ sym (ap (λ (l : List Statement). (past_silent place.variables place.stored place.refused l).left) none);
    }

-- asked by blocks, the next transaction is the one of that number in its block
pub scripted_body : (script : Script) (job : Job) → script.clients ≡ false
    → next_body script job ≡ slice_get (transactions_at script job.block) job.next
scripted_body script job own = ap (λ (b : Bool). if b then Some [] else slice_get (transactions_at script job.block) job.next) own

-- a transaction with a statement is asked by its block
pub body_of_block : (script : Script) (job : Job) (body : List Statement) (at : ℕ) → next_body script job ≡ Some body → at < length body
    → script.clients ≡ false
body_of_block script job body at is within = go script.clients (slice_get (transactions_at script job.block) job.next) is
  where
    go : (b : Bool) (o : Option (List Statement)) → (if b then Some [] else o) ≡ Some body → b ≡ false
    go false o e = refl
    go true o e = let none : [] ≡ body = cc e in let len = ap length none in absurd (omega (arith, len, within))
