-- The calls of a transaction that met no fault are those that are asked on the plain machine.
use Rattle.std.proofs.Common.{◌≡◌, ℕ, ◌+◌, ◌≤◌, Bool, true, false, List, [], ◌∷◌, ◌++◌, length, zero, suc, cond, refl, ap, sym, ◌∙◌, subst, arith}
use Rattle.std.proofs.Common.{Option, None, Some, append_assoc}
use Rattle.std.specs.Prelude.{map, count_by, sum_by, IsTrue, if◌then◌else◌}
use Rattle.std.proofs.lemmas.List.{append-nil}
use Rattle.std.proofs.lemmas.List.Sums.{sum_by-cons}
use Rattle.std.proofs.lemmas.Bool.{and_parts, cond_both}
use Rattle.xc_data.specs.Faults.{reply_faults}
use Rattle.xc_data.specs.declared.call.Answer.TheVariants as answer
use Rattle.xc_data.specs.declared.call.CallWithAnswer.{CallWithAnswer}
use Rattle.xc_data.specs.declared.call.Call.{Call}
use Rattle.xc_data.specs.declared.call.Call.TheVariants as call
use Rattle.xc_data.specs.declared.call.Reply.{Reply}
use Rattle.xc_data.specs.declared.call.Reply.TheVariants as reply
use Rattle.xc_data.specs.declared.private.Private.{Private}
use Rattle.xc_script.specs.Values.{Values, Variables}
use Rattle.xc_script.specs.Walks.{Walk, is_silent, set_by, past_silent, stored_after}
use Rattle.xc_script.specs.Asking.{asks_of, asks}
use Rattle.xc_script.specs.Answers.{behind_ask, bound, target_of, refuses}
use Rattle.xc_script.specs.Blocks.{BlockWalk, is_keep, behind_keep, block_after_call, after_ask, replied, all_replied}
use Rattle.xc_script.specs.declared.ask.Ask.{Ask}
use Rattle.xc_script.specs.declared.ask.Ask.TheVariants as ask
use Rattle.xc_model.specs.Asked.{AsksEach}
use Rattle.xc_text.specs.Stated.{Statement}
use Rattle.xc_world.specs.Act.{act}
use Rattle.xc_data.specs.Calls.{bytes_of}
use Rattle.xc_world.specs.Fits.{fits, is_back, answer_of}
use Rattle.xc_world.specs.Run.{BlockState, step, stepped, marked, block_step, runs_on, fits_on, asked_of}
use Rattle.xc_world.specs.World.{World}
use Rattle.xc_world.proofs.Laws.{marked_replies}
use Rattle.xc_serial.specs.Plain.{Replied, without_fault, made, calls_from}

-- ---- no faults
-- where none passes the first doesn't, and none of the others
pub no_count : {A : Type 0} (p : A → Bool) (x : A) (xs : List A) → count_by p (x ∷ xs) ≡ 0 → (p x ≡ false) × (count_by p xs ≡ 0)
no_count p x xs none = parts (p x) (sym (sum_by-cons (λ y. cond (p y) 1 0) x xs) ∙ none)
  where
    parts : (b : Bool) → cond b 1 0 + count_by p xs ≡ 0 → (b ≡ false) × (count_by p xs ≡ 0)
    parts true h = absurd (omega arith)
    parts false h = (refl, omega arith)

-- where all add up to nothing the first is nothing, and so are the others
pub no_sum : {A : Type 0} (f : A → ℕ) (x : A) (xs : List A) → sum_by f (x ∷ xs) ≡ 0 → (f x ≡ 0) × (sum_by f xs ≡ 0)
no_sum f x xs none = let h = sym (sum_by-cons f x xs) ∙ none in (omega arith, omega arith)

back_without_fault : (w : World) (me : Private) (tx : ℕ) (c : Call) (faults : ℕ) → faults ≡ 0 → is_back c ≡ true
    → act w me tx c (answer.Undone faults) ≡ act w me tx c answer.Fine
back_without_fault w me tx call.Back faults none back = ap (λ n. act w me tx call.Back (answer.Undone n)) none
back_without_fault w me tx _ faults none back = cc

-- a call whose reply tells of no fault met none
fine_act : (w : World) (me : Private) (tx : ℕ) (c : Call) (r : Reply) → reply_faults r ≡ 0 → IsTrue (fits w me tx c (answer_of r))
    → act w me tx c (answer_of r) ≡ act w me tx c answer.Fine
fine_act w me tx c (reply.Fault n) none fit = cc
fine_act w me tx c (reply.Undone faults) none fit = back_without_fault w me tx c faults none fit
fine_act w me tx c _ none fit = refl

-- ---- what a transaction asks
-- whether a call is asked
abbrev pub asks_call : Ask → Bool
asks_call (ask.Call call) = true
asks_call _ = false

shorter : (t : Bool) (a b : Walk) (n : ℕ) → length a.left ≤ n → length b.left ≤ n → length (if t then a else b).left ≤ n
shorter true a b n first second = first
shorter false a b n first second = second

settled_short : (v : Variables) (stored : ℕ) (refused : Bool) (left : List Statement) → length (past_silent v stored refused left).left ≤ length left
settled_short v stored refused [] = omega arith
settled_short v stored refused (s ∷ rest) =
    let later = settled_short (set_by v s) stored refused rest in
    shorter (is_silent v refused s) (past_silent (set_by v s) stored refused rest)
    (record { variables = v; stored = stored; refused = refused; left = s ∷ rest }) (length (s ∷ rest)) (omega arith) (omega arith)

left_falls : (walk : Walk) (left : List Statement) (c : Call) (r : Reply) (n : ℕ) → asks_of walk.variables walk.stored left ≡ ask.Call c
    → length left ≤ suc n → length (behind_ask walk left (asks_of walk.variables walk.stored left) r).left ≤ n
left_falls walk [] c r n e le = cc
left_falls walk (s ∷ rest) c r n e le =
    let short =
    settled_short (bound walk.variables (target_of s) r) (stored_after walk.stored (length (bytes_of c)) r) (refuses r) rest in
    subst (λ a. length (behind_ask walk (s ∷ rest) a r).left ≤ n) (sym e) (omega arith)

none_asked : (v : Variables) (stored : ℕ) (left : List Statement) (c : Call) → asks_of v stored left ≡ ask.Call c → length left ≤ 0 → ⊥
none_asked v stored [] c e le = cc
none_asked v stored (s ∷ rest) c e le = omega arith

none_made : (tx : ℕ) (s : BlockState) (more : BlockState → Reply → List Replied) (a : Ask) → asks_call a ≡ false → made tx s more a ≡ []
none_made tx s more (ask.Call c) e = cc
none_made tx s more _ e = refl

-- ---- inner blocks
-- behind a keep fewer statements are left
keep_short : (left : List Statement) → length (behind_keep left) ≤ length left
keep_short [] = omega arith
keep_short (s ∷ rest) =
    let later = keep_short rest in
    cond_both (is_keep s) rest (behind_keep rest) (λ l. length l ≤ suc (length rest)) (λ _. omega arith) (λ _. omega arith)

-- and fewer than where a call is asked
keep_falls : (walk : Walk) (left : List Statement) (c : Call) (n : ℕ) → asks_of walk.variables walk.stored left ≡ ask.Call c
    → length left ≤ suc n → length (behind_keep left) ≤ n
keep_falls walk [] c n e le = cc
keep_falls walk (s ∷ rest) c n e le =
    let later = keep_short rest in
    cond_both (is_keep s) rest (behind_keep rest) (λ l. length l ≤ n) (λ _. omega arith) (λ _. omega arith)

-- where a back is asked in no block it is asked again and again
asks_again : (walk : Walk) (replies : List Reply) → asks walk ≡ ask.Call call.Back
    → all_replied (record { walk = walk; saved = None }) replies ≡ record { walk = walk; saved = None }
asks_again walk [] e = refl
asks_again walk (r ∷ replies) e =
    ap (λ a. all_replied (after_ask (record { walk = walk; saved = None }) a r) replies) e ∙ asks_again walk replies e

-- behind each call fewer statements are left, where at last none is asked
made_falls : (walk : Walk) (saved : Option Values) (c : Call) (r : Reply) (replies : List Reply) (n : ℕ) → asks walk ≡ ask.Call c
    → length walk.left ≤ suc n
    → asks_call (asks (all_replied (block_after_call (record { walk = walk; saved = saved }) c r) replies).walk) ≡ false
    → length (block_after_call (record { walk = walk; saved = saved }) c r).walk.left ≤ n
made_falls walk saved call.Save r replies n e le end = left_falls walk walk.left call.Save r n e le
made_falls walk saved call.Keep r replies n e le end = left_falls walk walk.left call.Keep r n e le
made_falls walk None call.Back r replies n e le end =
    let again : asks_call (asks walk) ≡ false = sym (ap (λ (b : BlockWalk). asks_call (asks b.walk)) (asks_again walk replies e)) ∙ end in
    let no : true ≡ false = sym (ap asks_call e) ∙ again in
    cc
made_falls walk (Some values) call.Back r replies n e le end =
    let short = settled_short (record walk.variables { values = values }) walk.stored false (behind_keep walk.left) in
    let behind = keep_falls walk walk.left call.Back n e le in
    omega arith
made_falls walk saved c r replies n e le end = left_falls walk walk.left c r n e le

-- ---- calls with their replies
-- the replies of these calls, each made where the ones before it led
abbrev pub replies_from : ℕ → BlockState → List CallWithAnswer → List Reply
replies_from tx s [] = []
replies_from tx s (c ∷ asked) = (act s.now.world s.now.me tx c.call c.answer).reply ∷ replies_from tx (block_step tx s c) asked

-- the replies of a body that goes on are those so far and these
pub replies_behind : (tx : ℕ) (s : BlockState) (asked : List CallWithAnswer)
    → (runs_on tx s asked).now.replies ≡ s.now.replies ++ replies_from tx s asked
replies_behind tx s [] = sym (append-nil s.now.replies)
replies_behind tx s (c ∷ asked) =
    let reply = (act s.now.world s.now.me tx c.call c.answer).reply in
    let later = replies_from tx (block_step tx s c) asked in
    replies_behind tx (block_step tx s c) asked ∙ ap (λ rs. rs ++ later) (marked_replies c.call s.saved (step tx s.now c))
    ∙ append_assoc s.now.replies (reply ∷ []) later

-- calls with their replies
abbrev pub pairs : List Call → List Reply → List Replied
pairs [] replies = []
pairs (c ∷ calls) [] = []
pairs (c ∷ calls) (r ∷ replies) = (c, r) ∷ pairs calls replies

-- the first of a list, and those behind it
abbrev pub head_of : {A : Type 0} (d : A) → List A → A
head_of d [] = d
head_of d (x ∷ xs) = x

-- and without it
abbrev pub rest_of : {A : Type 0} → List A → List A
rest_of [] = []
rest_of (x ∷ xs) = xs

-- the calls that a body made are those that are asked on the plain machine, with their replies
pub same_calls : (n tx : ℕ) (s : BlockState) (b : BlockWalk) (calls : List Call) (replies : List Reply) → length b.walk.left ≤ n
    → AsksEach b calls replies → replies_from tx s (asked_of calls replies) ≡ replies → IsTrue (fits_on tx s (asked_of calls replies))
    → sum_by reply_faults replies ≡ 0 → asks_call (asks (all_replied b replies).walk) ≡ false → calls_from n tx s b ≡ pairs calls replies
same_calls zero tx s b [] replies le asked same fit none end = refl
same_calls zero tx s b (c ∷ calls) [] le asked same fit none end = absurd asked
same_calls zero tx s b (c ∷ calls) (r ∷ replies) le asked same fit none end =
    absurd (none_asked b.walk.variables b.walk.stored b.walk.left c asked.0 le)
same_calls (suc n) tx s b [] replies le asked same fit none end =
    none_made tx s (λ (after : BlockState) (reply : Reply). calls_from n tx after (replied b reply)) (asks b.walk)
    (sym (ap (λ rs. asks_call (asks (all_replied b rs).walk)) asked) ∙ end)
same_calls (suc n) tx s b (c ∷ calls) [] le asked same fit none end = absurd asked
same_calls (suc n) tx s b (c ∷ calls) (r ∷ replies) le asked same fit none end =
    let w = s.now.world in
    let me = s.now.me in
    let faults = no_sum reply_faults r replies none in
    let one : CallWithAnswer = record { call = c; answer = answer_of r } in
    let fits_each = and_parts (fits w me tx c (answer_of r)) (fits_on tx (block_step tx s one) (asked_of calls replies)) fit in
    let fine = fine_act w me tx c r faults.0 fits_each.0 in
    let given : (act w me tx c answer.Fine).reply ≡ r = sym (ap (λ x. x.reply) fine) ∙ ap (head_of r) same in
    let after : block_step tx s one ≡ block_step tx s (without_fault c) = ap (λ x. marked c s.saved (stepped tx s.now c x)) fine in
    let behind : replied b r ≡ block_after_call b c r = ap (λ a. after_ask b a r) asked.0 in
    let falls : length (replied b r).walk.left ≤ n =
    subst (λ (x : BlockWalk). length x.walk.left ≤ n) (sym behind)
    (made_falls b.walk b.saved c r replies n asked.0 le (subst (λ x. asks_call (asks (all_replied x replies).walk) ≡ false) behind end)) in
    let later : calls_from n tx (block_step tx s (without_fault c)) (replied b r) ≡ pairs calls replies =
    same_calls n tx (block_step tx s (without_fault c)) (replied b r) calls replies falls asked.1
    (subst (λ x. replies_from tx x (asked_of calls replies) ≡ replies) after (ap rest_of same))
    (subst (λ x. IsTrue (fits_on tx x (asked_of calls replies))) after fits_each.1) faults.1 end in
    ap (made tx s (λ (x : BlockState) (reply : Reply). calls_from n tx x (replied b reply))) asked.0
    ∙ ap (λ x. (c, x) ∷ calls_from n tx (block_step tx s (without_fault c)) (replied b x)) given ∙ ap (λ l. (c, r) ∷ l) later

-- the calls of these pairs are the calls
pub calls_of_pairs : (b : BlockWalk) (calls : List Call) (replies : List Reply) → AsksEach b calls replies
    → map (λ (c : Replied). c.0) (pairs calls replies) ≡ calls
calls_of_pairs b [] replies asked = refl
calls_of_pairs b (c ∷ calls) [] asked = absurd asked
calls_of_pairs b (c ∷ calls) (r ∷ replies) asked = ap (λ l. c ∷ l) (calls_of_pairs (replied b r) calls replies asked.1)

-- and the replies are these
pub replies_of_pairs : (b : BlockWalk) (calls : List Call) (replies : List Reply) → AsksEach b calls replies
    → map (λ (c : Replied). c.1) (pairs calls replies) ≡ replies
replies_of_pairs b [] replies asked = sym asked
replies_of_pairs b (c ∷ calls) [] asked = absurd asked
replies_of_pairs b (c ∷ calls) (r ∷ replies) asked = ap (λ l. r ∷ l) (replies_of_pairs (replied b r) calls replies asked.1)
