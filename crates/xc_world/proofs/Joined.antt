-- A body that goes on is what came before with the later body after it.
use Rattle.std.proofs.Common.{◌≡◌, ℕ, ◌+◌, ◌<◌, ◌&&◌, Bool, true, false, get_or, take, List, [], ◌∷◌, ◌++◌, length, ap, sym, ◌∙◌, refl, append_assoc}
use Rattle.std.proofs.lemmas.List.{append-nil, take_more}
use Rattle.std.proofs.lemmas.List.Sums.{fold-append, fold_push}
use Rattle.xc_data.specs.declared.call.Reply.{Reply}
use Rattle.xc_data.specs.declared.call.LateCall.{LateCall}
use Rattle.xc_data.specs.declared.undo.Undo.{Undo}
use Rattle.xc_data.specs.declared.private.Private.{Private}
use Rattle.xc_world.specs.World.{World}
use Rattle.xc_world.specs.Act.{act}
use Rattle.xc_data.specs.declared.claim.Claim.{Claim}
use Rattle.xc_data.specs.declared.call.CallWithAnswer.{CallWithAnswer}
use Rattle.xc_data.specs.declared.entry.KeptItem.{KeptItem}
use Rattle.xc_world.specs.Fits.{fits}
use Rattle.xc_world.specs.Run.{BodyResult, BlockState, begins, step, after_calls, plain_body, plain_fits, block_step, runs_on, opens, body_state, fits_on}
use Rattle.xc_world.specs.Run.{body_fits}
use Rattle.xc_world.specs.Joined.{behind}

-- bodies of the same parts are the same
pub same_ran : (w : World) (me : Private) (a b : List Reply) (c d : List LateCall) (e f : List Undo) (g h : List KeptItem) (k l : List Claim) → a ≡ b → c ≡ d
    → e ≡ f → g ≡ h → k ≡ l
    → (let x : BodyResult = record { world = w; me = me; replies = a; late = c; trail = e; taken = g; touched = k } in
    let y : BodyResult = record { world = w; me = me; replies = b; late = d; trail = f; taken = h; touched = l } in x ≡ y)
same_ran w me a b c d e f g h k l p q r s t = λ i. record { world = w; me = me; replies = p i; late = q i; trail = r i; taken = s i; touched = t i }

behind_nothing : (r : BodyResult) → r ≡ behind r (begins r.world r.me)
behind_nothing r =
    same_ran r.world r.me _ _ _ _ _ _ _ _ _ _ (sym (append-nil r.replies)) (sym (append-nil r.late)) (sym (append-nil r.trail)) (sym (append-nil r.taken))
    (sym (append-nil r.touched))

step_behind : (tx : ℕ) (r : BodyResult) (c : CallWithAnswer) (b : BodyResult) → behind (step tx r c) b ≡ behind r (behind (step tx (begins r.world r.me) c) b)
step_behind tx r c b =
    same_ran b.world b.me _ _ _ _ _ _ _ _ _ _ (append_assoc r.replies _ b.replies) (append_assoc r.late _ b.late) (append_assoc r.trail _ b.trail)
    (append_assoc r.taken _ b.taken) (append_assoc r.touched _ b.touched)

-- a body that goes on has the later body after it
pub goes_on_behind : (tx : ℕ) (r : BodyResult) (asked : List CallWithAnswer) → after_calls tx r asked ≡ behind r (plain_body r.world r.me tx asked)
goes_on_behind tx r [] = behind_nothing r
goes_on_behind tx r (c ∷ asked) =
    let one = step tx (begins r.world r.me) c in
    goes_on_behind tx (step tx r c) asked ∙ step_behind tx r c (plain_body one.world one.me tx asked) ∙ ap (behind r) (sym (goes_on_behind tx one asked))

-- a body is its first call with the rest after it
pub plain_first : (w : World) (me : Private) (tx : ℕ) (c : CallWithAnswer) (asked : List CallWithAnswer)
    → plain_body w me tx (c ∷ asked) ≡ behind (step tx (begins w me) c)
    (plain_body (act w me tx c.call c.answer).world (act w me tx c.call c.answer).me tx asked)
plain_first w me tx c asked = goes_on_behind tx (step tx (begins w me) c) asked

-- a body in two parts
pub plain_append : (w : World) (me : Private) (tx : ℕ) (front rest : List CallWithAnswer)
    → plain_body w me tx (front ++ rest) ≡ behind (plain_body w me tx front) (plain_body (plain_body w me tx front).world (plain_body w me tx front).me tx rest)
plain_append w me tx front rest = fold-append (step tx) (begins w me) front rest ∙ goes_on_behind tx (plain_body w me tx front) rest

-- a body with one call more is a step more
pub plain_last : (w : World) (me : Private) (tx : ℕ) (asked : List CallWithAnswer) (c : CallWithAnswer)
    → plain_body w me tx (asked ++ c ∷ []) ≡ step tx (plain_body w me tx asked) c
plain_last w me tx asked c = fold_push (step tx) (begins w me) asked c

-- ---- one call more of a body that is run
pub plain_more : (w : World) (me : Private) (tx : ℕ) (asked : List CallWithAnswer) (i : ℕ) (c : CallWithAnswer) → i < length asked → c ≡ get_or asked i c
    → plain_body w me tx (take (i + 1) asked) ≡ step tx (plain_body w me tx (take i asked)) c
plain_more w me tx asked i c lt e =
    ap (plain_body w me tx) (take_more asked i c lt ∙ ap (λ x. take i asked ++ x ∷ []) (sym e)) ∙ plain_last w me tx (take i asked) c

-- ---- what fits a body in two parts
and_assoc : (a b c : Bool) → (a && (b && c)) ≡ ((a && b) && c)
and_assoc true b c = refl
and_assoc false b c = refl

and_true : (a : Bool) → (a && true) ≡ a
and_true true = refl
and_true false = refl

-- what fits the first part, and what fits the other where that ended
pub plain_fits_append : (w : World) (me : Private) (tx : ℕ) (front rest : List CallWithAnswer)
    → plain_fits w me tx (front ++ rest) ≡ (plain_fits w me tx front && plain_fits (plain_body w me tx front).world (plain_body w me tx front).me tx rest)
plain_fits_append w me tx [] rest = refl
plain_fits_append w me tx (c ∷ front) rest =
    let s = act w me tx c.call c.answer in
    ap (λ x. fits w me tx c.call c.answer && x) (plain_fits_append s.world s.me tx front rest)
    ∙ and_assoc (fits w me tx c.call c.answer) (plain_fits s.world s.me tx front) _
    ∙ ap (λ (r : BodyResult). plain_fits w me tx (c ∷ front) && plain_fits r.world r.me tx rest) (sym (plain_first w me tx c front))

-- what fits a body with one call more
pub plain_fits_last : (w : World) (me : Private) (tx : ℕ) (asked : List CallWithAnswer) (c : CallWithAnswer)
    → plain_fits w me tx (asked ++ c ∷ []) ≡
    (plain_fits w me tx asked && fits (plain_body w me tx asked).world (plain_body w me tx asked).me tx c.call c.answer)
plain_fits_last w me tx asked c =
    plain_fits_append w me tx asked (c ∷ [])
    ∙ ap (λ x. plain_fits w me tx asked && x) (and_true (fits (plain_body w me tx asked).world (plain_body w me tx asked).me tx c.call c.answer))

-- ---- a body with inner blocks, of one call more
pub body_last : (w : World) (me : Private) (tx : ℕ) (asked : List CallWithAnswer) (c : CallWithAnswer)
    → body_state w me tx (asked ++ c ∷ []) ≡ block_step tx (body_state w me tx asked) c
body_last w me tx asked c = fold_push (block_step tx) (opens w me) asked c

-- what fits in two parts
pub fits_on_append : (tx : ℕ) (b : BlockState) (front rest : List CallWithAnswer)
    → fits_on tx b (front ++ rest) ≡ (fits_on tx b front && fits_on tx (runs_on tx b front) rest)
fits_on_append tx b [] rest = refl
fits_on_append tx b (c ∷ front) rest =
    ap (λ x. fits b.now.world b.now.me tx c.call c.answer && x) (fits_on_append tx (block_step tx b c) front rest)
    ∙ and_assoc (fits b.now.world b.now.me tx c.call c.answer) (fits_on tx (block_step tx b c) front) _

-- and with one call more
pub body_fits_last : (w : World) (me : Private) (tx : ℕ) (asked : List CallWithAnswer) (c : CallWithAnswer)
    → body_fits w me tx (asked ++ c ∷ [])
    ≡ (body_fits w me tx asked && fits (body_state w me tx asked).now.world (body_state w me tx asked).now.me tx c.call c.answer)
body_fits_last w me tx asked c =
    let r = (body_state w me tx asked).now in
    fits_on_append tx (opens w me) asked (c ∷ [])
    ∙ ap (λ x. body_fits w me tx asked && x) (and_true (fits r.world r.me tx c.call c.answer))
