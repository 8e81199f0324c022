-- A block is open just where the statements that are left are in one: a back and a keep are asked only there, and a save elsewhere.
use Rattle.std.proofs.Common.{◌≡◌, ℕ, zero, suc, Bool, true, false, List, [], ◌∷◌, Option, Some, None, IfSome, refl, sym, subst}
use Rattle.std.specs.Prelude.{◌&&◌, not, is_some, slice_get, unwrap_or, if◌then◌else◌}
use Rattle.std.specs.List.{AllByRecursion}
use Rattle.std.proofs.lemmas.Bool.{cond_both}
use Rattle.std.proofs.lemmas.List.Elements.{recursion_from_All}
use Rattle.xc_data.specs.declared.call.Call.{Call}
use Rattle.xc_data.specs.declared.call.Call.TheVariants as call
use Rattle.xc_data.specs.declared.call.Reply.{Reply}
use Rattle.xc_text.specs.declared.script.Block.{Block}
use Rattle.xc_text.specs.declared.script.Script.{Script}
use Rattle.xc_text.specs.declared.script.CallForm.TheVariants as form
use Rattle.xc_text.specs.declared.script.Statement.TheVariants as statement
use Rattle.xc_text.specs.Inner.{are_inner}
use Rattle.xc_text.specs.Scripts.{IsBlock, IsScript}
use Rattle.xc_text.specs.Stated.{Statement}
use Rattle.xc_script.specs.declared.ask.Ask.{Ask}
use Rattle.xc_script.specs.declared.ask.Ask.TheVariants as ask
use Rattle.xc_script.specs.Values.{Values, Variables}
use Rattle.xc_script.specs.Walks.{Walk, is_silent, set_by, past_silent}
use Rattle.xc_script.specs.Asking.{asks}
use Rattle.xc_script.specs.Answers.{answered, behind_ask}
use Rattle.xc_script.specs.Ask.{Job, transactions_of, transactions_at, next_body}
use Rattle.xc_script.specs.Blocks.{BlockWalk, IsInner, behind_keep, block_after_call, after_ask, fits_block, ask_fits, replied, all_replied, block_from}

false_true : {A : Type 0} → false ≡ true → A
false_true e = absurd (let no : false ≡ true = e in cc)

and_right : (a b : Bool) → (a && b) ≡ true → b ≡ true
and_right true b e = e
and_right false b e = false_true e

and_left : (a b : Bool) → (a && b) ≡ true → a ≡ true
and_left true b e = refl
and_left false b e = false_true e

-- a silent statement opens and closes none
silent_inner : (variables : Variables) (refused within : Bool) (s : Statement) (rest : List Statement) → is_silent variables refused s ≡ true
    → are_inner within (s ∷ rest) ≡ true → are_inner within rest ≡ true
silent_inner variables refused within (statement.Call f) rest silent is = false_true silent
silent_inner variables refused within (statement.Let into e) rest silent is = is
silent_inner variables refused within statement.Abort rest silent is = is
silent_inner variables refused within (statement.AbortIf left test right) rest silent is = is
silent_inner variables refused within statement.Require rest silent is = is
silent_inner variables refused within (statement.BackIf left test right) rest silent is = and_right within (are_inner within rest) is

past_inner : (within : Bool) (variables : Variables) (stored : ℕ) (refused : Bool) (left : List Statement)
    → are_inner within left ≡ true → are_inner within (past_silent variables stored refused left).left ≡ true
past_inner within variables stored refused [] is = is
past_inner within variables stored refused (s ∷ rest) is =
    cond_both (is_silent variables refused s) _ _ (λ (w : Walk). are_inner within w.left ≡ true)
    (λ silent. past_inner within (set_by variables s) stored refused rest (silent_inner variables refused within s rest silent is)) (λ _. is)

-- behind the keep no block is open
keep_inner : (left : List Statement) → are_inner true left ≡ true → are_inner false (behind_keep left) ≡ true
keep_inner [] is = refl
keep_inner (statement.Call (form.Load x y) ∷ rest) is = keep_inner rest is
keep_inner (statement.Call (form.Store x y) ∷ rest) is = keep_inner rest is
keep_inner (statement.Call (form.XOpen x y) ∷ rest) is = keep_inner rest is
keep_inner (statement.Call (form.XCreate x y) ∷ rest) is = keep_inner rest is
keep_inner (statement.Call (form.XRename x y) ∷ rest) is = keep_inner rest is
keep_inner (statement.Call (form.XRead x y z) ∷ rest) is = keep_inner rest is
keep_inner (statement.Call (form.XWriteOvr x y) ∷ rest) is = keep_inner rest is
keep_inner (statement.Call (form.XWriteSeq x y) ∷ rest) is = keep_inner rest is
keep_inner (statement.Call (form.XSeek x y) ∷ rest) is = keep_inner rest is
keep_inner (statement.Call (form.XLen x y) ∷ rest) is = keep_inner rest is
keep_inner (statement.Call (form.XClose x) ∷ rest) is = keep_inner rest is
keep_inner (statement.Call (form.XUnlink x y) ∷ rest) is = keep_inner rest is
keep_inner (statement.Call (form.XSync x y) ∷ rest) is = keep_inner rest is
keep_inner (statement.Call (form.XPipe x) ∷ rest) is = keep_inner rest is
keep_inner (statement.Call (form.XReadPipe x y z) ∷ rest) is = keep_inner rest is
keep_inner (statement.Call (form.XWritePipe x y z) ∷ rest) is = keep_inner rest is
keep_inner (statement.Call (form.XShutdown x y) ∷ rest) is = keep_inner rest is
keep_inner (statement.Call (form.XPair x) ∷ rest) is = keep_inner rest is
keep_inner (statement.Call (form.XRecvmsg x y) ∷ rest) is = keep_inner rest is
keep_inner (statement.Call (form.XSendmsg x y z) ∷ rest) is = keep_inner rest is
keep_inner (statement.Call (form.XThreadCreate x y) ∷ rest) is = keep_inner rest is
keep_inner (statement.Call form.Save ∷ rest) is = false_true is
keep_inner (statement.Call form.Keep ∷ rest) is = is
keep_inner (statement.Call form.Back ∷ rest) is = keep_inner rest is
keep_inner (statement.Let into e ∷ rest) is = keep_inner rest is
keep_inner (statement.Abort ∷ rest) is = keep_inner rest is
keep_inner (statement.AbortIf left test right ∷ rest) is = keep_inner rest is
keep_inner (statement.Require ∷ rest) is = keep_inner rest is
keep_inner (statement.BackIf left test right ∷ rest) is = keep_inner rest is

-- behind a statement that neither opens nor closes a block
answered_inner : (within : Bool) (walk : Walk) (s : Statement) (rest : List Statement) (a : Ask) (reply : Reply)
    → are_inner within rest ≡ true → are_inner within walk.left ≡ true → are_inner within (behind_ask walk (s ∷ rest) a reply).left ≡ true
answered_inner within walk s rest (ask.Call call) reply behind is = past_inner within _ _ _ rest behind
answered_inner within walk s rest ask.Commit reply behind is = is
answered_inner within walk s rest ask.Abort reply behind is = is
answered_inner within walk s rest ask.End reply behind is = is

-- a call with bytes, or the transaction's own abort
over_inner : (b : BlockWalk) (over : Bool) (c : Call) (reply : Reply)
    → block_after_call b c reply ≡ record { walk = answered b.walk reply; saved = b.saved }
    → are_inner (is_some b.saved) (answered b.walk reply).left ≡ true → IsInner b → IsInner (after_ask b (if over then ask.Abort else ask.Call c) reply)
over_inner b true c reply same behind is = is
over_inner b false c reply same behind is = subst IsInner (sym same) behind

-- after a back
gone_inner : (variables : Variables) (stored : ℕ) (refused : Bool) (saved : Option Values) (s : Statement) (rest : List Statement)
    → behind_keep (s ∷ rest) ≡ behind_keep rest → (is_some saved && are_inner (is_some saved) rest) ≡ true → (reply : Reply)
    → IsInner (block_after_call
    (record { walk = record { variables = variables; stored = stored; refused = refused; left = s ∷ rest }; saved = saved }) call.Back reply)
gone_inner variables stored refused None s rest skips is reply = false_true is
gone_inner variables stored refused (Some values) s rest skips is reply =
    past_inner false _ _ _ (behind_keep (s ∷ rest)) (subst (λ l. are_inner false l ≡ true) (sym skips) (keep_inner rest is))

stepped : (variables : Variables) (stored : ℕ) (refused : Bool) (left : List Statement) (saved : Option Values) (reply : Reply)
    → are_inner (is_some saved) left ≡ true
    → IsInner (replied (record { walk = record { variables = variables; stored = stored; refused = refused; left = left }; saved = saved }) reply)
stepped variables stored refused [] saved reply is = is
stepped variables stored refused (statement.Call (form.Load x y) ∷ rest) saved reply is = past_inner (is_some saved) _ _ _ rest is
stepped variables stored refused (statement.Call (form.Store x y) ∷ rest) saved reply is = past_inner (is_some saved) _ _ _ rest is
stepped variables stored refused (statement.Call (form.XOpen x y) ∷ rest) saved reply is = past_inner (is_some saved) _ _ _ rest is
stepped variables stored refused (statement.Call (form.XCreate x y) ∷ rest) saved reply is = past_inner (is_some saved) _ _ _ rest is
stepped variables stored refused (statement.Call (form.XRename x y) ∷ rest) saved reply is = past_inner (is_some saved) _ _ _ rest is
stepped variables stored refused (statement.Call (form.XRead x y z) ∷ rest) saved reply is = past_inner (is_some saved) _ _ _ rest is
stepped variables stored refused (statement.Call (form.XWriteOvr x y) ∷ rest) saved reply is =
    let walk : Walk = record { variables = variables; stored = stored; refused = refused; left = statement.Call (form.XWriteOvr x y) ∷ rest } in
    over_inner (record { walk = walk; saved = saved }) _ _ reply refl
    (answered_inner (is_some saved) walk (statement.Call (form.XWriteOvr x y)) rest (asks walk) reply is is) is
stepped variables stored refused (statement.Call (form.XWriteSeq x y) ∷ rest) saved reply is =
    let walk : Walk = record { variables = variables; stored = stored; refused = refused; left = statement.Call (form.XWriteSeq x y) ∷ rest } in
    over_inner (record { walk = walk; saved = saved }) _ _ reply refl
    (answered_inner (is_some saved) walk (statement.Call (form.XWriteSeq x y)) rest (asks walk) reply is is) is
stepped variables stored refused (statement.Call (form.XSeek x y) ∷ rest) saved reply is = past_inner (is_some saved) _ _ _ rest is
stepped variables stored refused (statement.Call (form.XLen x y) ∷ rest) saved reply is = past_inner (is_some saved) _ _ _ rest is
stepped variables stored refused (statement.Call (form.XClose x) ∷ rest) saved reply is = past_inner (is_some saved) _ _ _ rest is
stepped variables stored refused (statement.Call (form.XUnlink x y) ∷ rest) saved reply is = past_inner (is_some saved) _ _ _ rest is
stepped variables stored refused (statement.Call (form.XSync x y) ∷ rest) saved reply is = past_inner (is_some saved) _ _ _ rest is
stepped variables stored refused (statement.Call (form.XPipe x) ∷ rest) saved reply is = past_inner (is_some saved) _ _ _ rest is
stepped variables stored refused (statement.Call (form.XReadPipe x y z) ∷ rest) saved reply is = past_inner (is_some saved) _ _ _ rest is
stepped variables stored refused (statement.Call (form.XWritePipe x y z) ∷ rest) saved reply is =
    let walk : Walk = record { variables = variables; stored = stored; refused = refused; left = statement.Call (form.XWritePipe x y z) ∷ rest } in
    over_inner (record { walk = walk; saved = saved }) _ _ reply refl
    (answered_inner (is_some saved) walk (statement.Call (form.XWritePipe x y z)) rest (asks walk) reply is is) is
stepped variables stored refused (statement.Call (form.XShutdown x y) ∷ rest) saved reply is = past_inner (is_some saved) _ _ _ rest is
stepped variables stored refused (statement.Call (form.XPair x) ∷ rest) saved reply is = past_inner (is_some saved) _ _ _ rest is
stepped variables stored refused (statement.Call (form.XRecvmsg x y) ∷ rest) saved reply is = past_inner (is_some saved) _ _ _ rest is
stepped variables stored refused (statement.Call (form.XSendmsg x y z) ∷ rest) saved reply is =
    let walk : Walk = record { variables = variables; stored = stored; refused = refused; left = statement.Call (form.XSendmsg x y z) ∷ rest } in
    over_inner (record { walk = walk; saved = saved }) _ _ reply refl
    (answered_inner (is_some saved) walk (statement.Call (form.XSendmsg x y z)) rest (asks walk) reply is is) is
stepped variables stored refused (statement.Call (form.XThreadCreate x y) ∷ rest) saved reply is = past_inner (is_some saved) _ _ _ rest is
stepped variables stored refused (statement.Call form.Save ∷ rest) saved reply is =
    past_inner true _ _ _ rest (and_right (not (is_some saved)) (are_inner true rest) is)
stepped variables stored refused (statement.Call form.Keep ∷ rest) saved reply is =
    past_inner false _ _ _ rest (and_right (is_some saved) (are_inner false rest) is)
stepped variables stored refused (statement.Call form.Back ∷ rest) saved reply is =
    gone_inner variables stored refused saved (statement.Call form.Back) rest refl is reply
stepped variables stored refused (statement.Let into e ∷ rest) saved reply is = is
stepped variables stored refused (statement.Abort ∷ rest) saved reply is = is
stepped variables stored refused (statement.AbortIf left test right ∷ rest) saved reply is = is
stepped variables stored refused (statement.Require ∷ rest) saved reply is = is
stepped variables stored refused (statement.BackIf left test right ∷ rest) saved reply is =
    gone_inner variables stored refused saved (statement.BackIf left test right) rest refl is reply

-- after any replies
pub all_inner : (b : BlockWalk) (replies : List Reply) → IsInner b → IsInner (all_replied b replies)
all_inner b [] is = is
all_inner b (reply ∷ replies) is = all_inner (replied b reply) replies (stepped b.walk.variables b.walk.stored b.walk.refused b.walk.left b.saved reply is)

get_all : {A : Type 0} (P : A → Type 0) (xs : List A) (i : ℕ) → AllByRecursion P xs → IfSome (slice_get xs i) P
get_all P [] i all = tt
get_all P (x ∷ xs) zero all = all.0
get_all P (x ∷ xs) (suc i) all = get_all P xs i all.1

by_body : (o : Option (List Statement)) → IfSome o (λ body. are_inner false body ≡ true) → are_inner false (unwrap_or o []) ≡ true
by_body None is = refl
by_body (Some body) is = is

by_block : (o : Option Block) (next : ℕ) → IfSome o IsBlock → are_inner false (unwrap_or (slice_get (transactions_of o) next) []) ≡ true
by_block None next is = refl
by_block (Some b) next is = by_body (slice_get b.transactions next)
    (get_all (λ body. are_inner false body ≡ true) b.transactions next (recursion_from_All _ _ is.inner))

by_asker : (clients : Bool) (o : Option (List Statement)) → are_inner false (unwrap_or o []) ≡ true
    → are_inner false (unwrap_or (if clients then Some [] else o) []) ≡ true
by_asker true o is = refl
by_asker false o is = is

-- at the begin of a transaction of a script that was read
pub begins_inner : (script : Script) (job : Job) → IsScript script → IsInner (block_from script job)
begins_inner script job is =
    past_inner false _ _ _ (unwrap_or (next_body script job) [])
    (by_asker script.clients (slice_get (transactions_at script job.block) job.next)
    (by_block (slice_get script.blocks job.block) job.next (get_all IsBlock script.blocks job.block (recursion_from_All _ _ is.each_block))))

over_fits : (within over : Bool) (c : Call) → fits_block within c ≡ true → ask_fits within (if over then ask.Abort else ask.Call c) ≡ true
over_fits within true c fits = refl
over_fits within false c fits = fits

-- what is asked fits the block that is open
pub asks_inner : (within : Bool) (variables : Variables) (stored : ℕ) (refused : Bool) (left : List Statement) → are_inner within left ≡ true
    → ask_fits within (asks (record { variables = variables; stored = stored; refused = refused; left = left })) ≡ true
asks_inner within variables stored refused [] is = refl
asks_inner within variables stored refused (statement.Call (form.Load x y) ∷ rest) is = refl
asks_inner within variables stored refused (statement.Call (form.Store x y) ∷ rest) is = refl
asks_inner within variables stored refused (statement.Call (form.XOpen x y) ∷ rest) is = refl
asks_inner within variables stored refused (statement.Call (form.XCreate x y) ∷ rest) is = refl
asks_inner within variables stored refused (statement.Call (form.XRename x y) ∷ rest) is = refl
asks_inner within variables stored refused (statement.Call (form.XRead x y z) ∷ rest) is = refl
asks_inner within variables stored refused (statement.Call (form.XWriteOvr x y) ∷ rest) is = over_fits within _ _ refl
asks_inner within variables stored refused (statement.Call (form.XWriteSeq x y) ∷ rest) is = over_fits within _ _ refl
asks_inner within variables stored refused (statement.Call (form.XSeek x y) ∷ rest) is = refl
asks_inner within variables stored refused (statement.Call (form.XLen x y) ∷ rest) is = refl
asks_inner within variables stored refused (statement.Call (form.XClose x) ∷ rest) is = refl
asks_inner within variables stored refused (statement.Call (form.XUnlink x y) ∷ rest) is = refl
asks_inner within variables stored refused (statement.Call (form.XSync x y) ∷ rest) is = refl
asks_inner within variables stored refused (statement.Call (form.XPipe x) ∷ rest) is = refl
asks_inner within variables stored refused (statement.Call (form.XReadPipe x y z) ∷ rest) is = refl
asks_inner within variables stored refused (statement.Call (form.XWritePipe x y z) ∷ rest) is = over_fits within _ _ refl
asks_inner within variables stored refused (statement.Call (form.XShutdown x y) ∷ rest) is = refl
asks_inner within variables stored refused (statement.Call (form.XPair x) ∷ rest) is = refl
asks_inner within variables stored refused (statement.Call (form.XRecvmsg x y) ∷ rest) is = refl
asks_inner within variables stored refused (statement.Call (form.XSendmsg x y z) ∷ rest) is = over_fits within _ _ refl
asks_inner within variables stored refused (statement.Call (form.XThreadCreate x y) ∷ rest) is = refl
asks_inner within variables stored refused (statement.Call form.Save ∷ rest) is = and_left (not within) (are_inner true rest) is
asks_inner within variables stored refused (statement.Call form.Keep ∷ rest) is = and_left within (are_inner false rest) is
asks_inner within variables stored refused (statement.Call form.Back ∷ rest) is = and_left within (are_inner within rest) is
asks_inner within variables stored refused (statement.Let into v ∷ rest) is = refl
asks_inner within variables stored refused (statement.Abort ∷ rest) is = refl
asks_inner within variables stored refused (statement.AbortIf left test right ∷ rest) is = refl
asks_inner within variables stored refused (statement.Require ∷ rest) is = refl
asks_inner within variables stored refused (statement.BackIf left test right ∷ rest) is = and_left within (are_inner within rest) is
