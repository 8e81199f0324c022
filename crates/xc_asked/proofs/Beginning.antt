-- A transaction at its begin.
use Rattle.std.proofs.Common.{◌≡◌, ℕ, zero, suc, ◌≤◌, Bool, true, false, List, [], ◌∷◌, Option, refl, ap, sym, ◌∙◌, subst, if◌then◌else◌}
use Rattle.std.specs.Bool.{Decides}
use Rattle.std.specs.Prelude.{IsSome, OnOk, Result, Ok, Err, is_some, slice_get, unwrap_or}
use Rattle.std.specs.declared.option.Option.TheVariants.{None, Some}
use Rattle.xc_data.specs.declared.call.Reply.{Reply}
use Rattle.xc_data.specs.declared.entry.Entry.{Entry}
use Rattle.xc_text.specs.declared.script.Script.{Script}
use Rattle.xc_text.specs.Scripts.{IsScript}
use Rattle.xc_text.specs.Stated.{Statement}
use Rattle.xc_script.specs.declared.ask.Ask.{Ask}
use Rattle.xc_script.specs.declared.ask.Ask.TheVariants as ask
use Rattle.xc_script.specs.Ask.{Job, next_body, transactions_at}
use Rattle.xc_script.specs.Asking.{asks}
use Rattle.xc_script.specs.Blocks.{BlockWalk, IsInner, after_ask, all_replied, block_from, replied}
use Rattle.xc_script.specs.Position.{Position, at_begin, job_of}
use Rattle.xc_script.specs.Values.{Variables}
use Rattle.xc_script.specs.Walks.{past_silent}
use Rattle.xc_script.proofs.Laws.{begins_inner}
use Rattle.xc_model.specs.Asked.{AsksEach, IsAskedBy, ScriptJob, asked_after, last_asked}
use Rattle.xc_model.specs.Live.{IsScripted, has_clients}
use Rattle.xc_asked.specs.declared.script_job.Followed.{Followed}
use Rattle.xc_asked.specs.Walking.{AreFew, client_end, last_told, told_of, walk_there}

-- ---- where a transaction begins
-- whatever is kept for an abort
begin_walk : (script : Script) (place : Position) (kept : Variables) → place ≡ at_begin (job_of place)
    → walk_there script (record place { begun = kept }) ≡ block_from script (job_of place)
begin_walk script place kept is = ap (λ (p : Position). walk_there script (record p { begun = kept })) is

-- it is in no block
pub begin_inner : (script : Script) (place new : Position) (kept : Variables) → IsScript script → place ≡ at_begin (job_of place)
    → new ≡ record place { begun = kept } → IsInner (walk_there script new)
begin_inner script place new kept read is begun =
    subst IsInner (sym (ap (walk_there script) begun ∙ begin_walk script place kept is)) (begins_inner script (job_of place) read)

-- a place that is the start of some job is that of its own
pub begin_there : (place : Position) (job : Job) → place ≡ at_begin job → place ≡ at_begin (job_of place)
begin_there place job is = is ∙ ap (λ (p : Position). at_begin (job_of p)) (sym is)

-- ---- a job with no transaction left
stays : (b : BlockWalk) (replies : List Reply) → asks b.walk ≡ ask.Commit → all_replied b replies ≡ b
stays b [] is = refl
stays b (reply ∷ replies) is =
    let same : replied b reply ≡ b = ap (λ (a : Ask). after_ask b a reply) is in
    ap (λ (now : BlockWalk). all_replied now replies) same ∙ stays b replies is

none_of : (o : Option (List Statement)) → is_some o ≡ false → unwrap_or o [] ≡ []
none_of None is = refl
none_of (Some body) is = absurd (let no : true ≡ false = is in cc)

-- a commit is asked
pub asked_at_end : (script : Script) (job : Job) (replies : List Reply) → is_some (next_body script job) ≡ false
    → ask.Commit ≡ asked_after script job replies
asked_at_end script job replies is =
    let commit : asks (block_from script job).walk ≡ ask.Commit =
    ap (λ (body : List Statement). asks (past_silent job.variables 0 false body)) (none_of (next_body script job) is) in
    sym (ap (λ (b : BlockWalk). asks b.walk) (stays (block_from script job) replies commit) ∙ commit)

-- ---- what is decided of an entry
-- of a script whose blocks ask it is asked just where its calls are
pub asked_by_block : (script : Script) (job : Job) (e : Entry) (f : Followed) → IsScripted script → IsSome (next_body script job)
    → f.last ≡ asked_after script job e.replies → Decides f.is_asked (AsksEach (block_from script job) e.calls e.replies)
    → Decides f.is_asked (IsAskedBy script job f.last e)
asked_by_block script job e f own left last asked = (
  λ yes. record { left = left; scripted = λ _. record { calls = asked.0 yes; after = last } },
  λ is. asked.1 (is.scripted own).calls,
)

-- where clients ask it always is
pub asked_by_client : (script : Script) (job : Job) (last : Ask) (e : Entry) → has_clients script ≡ true → IsSome (next_body script job)
    → IsAskedBy script job last e
asked_by_client script job last e clients left =
    record { left = left; scripted = λ own. let both : true ≡ false = sym clients ∙ own in cc both }

-- what was asked last, where clients ask
pub told_by_client : (script : Script) (o : Option ScriptJob) (e : Entry) → has_clients script ≡ true → client_end e.outcome ≡ last_told script o e
told_by_client script o e clients = subst (λ b. client_end e.outcome ≡ told_of b script o e) (sym clients) refl

-- what was asked last, where a script does
pub told_by_block : (script : Script) (o : Option ScriptJob) (e : Entry) → IsScripted script → last_asked script o e.replies ≡ last_told script o e
told_by_block script o e own = subst (λ b. last_asked script o e.replies ≡ told_of b script o e) (sym own) refl

-- where no transaction is left a script asks
scripted_end : (script : Script) (job : Job) → is_some (next_body script job) ≡ false → IsScripted script
scripted_end script job none = go (has_clients script) refl
  where
    go : (b : Bool) → has_clients script ≡ b → b ≡ false
    go false is = refl
    go true is =
        let some : is_some (next_body script job) ≡ true =
        ap (λ (b : Bool). is_some (if b then Some [] else slice_get (transactions_at script job.block) job.next)) is in
        cc (some, none)

-- and a commit is told
pub told_at_end : (script : Script) (j : ScriptJob) (e : Entry) → is_some (next_body script j.job) ≡ false → ask.Commit ≡ last_told script (Some j) e
told_at_end script j e none = asked_at_end script j.job e.replies none ∙ told_by_block script (Some j) e (scripted_end script j.job none)

-- ---- how far jobs have come
pub few_at : (count : ℕ) (jobs : List ScriptJob) (at : ℕ) (j : ScriptJob) → AreFew count jobs → slice_get jobs at ≡ Some j → j.job.next ≤ count
few_at count [] at j few is = absurd (let none : None ≡ Some j = is in cc)
few_at count (x ∷ jobs) zero j few is = let same : x ≡ j = cc is in subst (λ (y : ScriptJob). y.job.next ≤ count) same few.0
few_at count (x ∷ jobs) (suc at) j few is = few_at count jobs at j few.1 is

-- ---- results
pub from_ok : {A E : Type 0} (r : Result A E) (x : A) (P : Type 0) → r ≡ Ok x → OnOk r P → P
from_ok (Ok y) x P is holds = holds
from_ok (Err e) x P is holds = absurd (let no : Err e ≡ Ok x = is in cc)
