-- A body with what it took given back.
use Rattle.std.proofs.Common.{◌≡◌, ℕ, Bool, true, false, is_some, unwrap_or, List, [], ◌∷◌, ◌++◌, zero, suc, length, take, drop, ap}
use Rattle.std.proofs.Common.{ap₂, sym, ◌∙◌, subst, refl, arith}
use Rattle.std.specs.Prelude.{All, IsTrue, ◌==◌, if◌then◌else◌}
use Rattle.std.specs.FinMap as map
use Rattle.std.proofs.Math.Dec.{eqb-suc-zero}
use Rattle.std.proofs.lemmas.List.{append-nil, take-append-drop}
use Rattle.std.proofs.lemmas.List.Elements.{All-nil, All-cons, All-append, All-weaker}
use Rattle.xc_data.specs.declared.object.Num.{Num}
use Rattle.xc_data.specs.declared.call.Call.{Call}
use Rattle.xc_data.specs.declared.call.Call.TheVariants as call
use Rattle.xc_data.specs.declared.call.Answer.{Answer}
use Rattle.xc_data.specs.declared.call.Answer.TheVariants as answer
use Rattle.xc_data.specs.declared.call.Reply.{Reply}
use Rattle.xc_data.specs.declared.call.Reply.TheVariants as reply
use Rattle.xc_data.specs.declared.private.Place.{Place}
use Rattle.xc_data.specs.declared.private.Place.TheVariants as place
use Rattle.xc_data.specs.declared.private.Private.{Private}
use Rattle.xc_data.specs.Private.{place_of}
use Rattle.xc_maps.proofs.Laws.{get-insert_same, insert-get_same, insert-insert_same, num_total, num_exact}
use Rattle.xc_world.specs.World.{World, Pipe, Pair, pipe_of, pair_of, empty_pipe, empty_pair, with_pipe, with_pair, waiting, with_waiting}
use Rattle.xc_world.specs.Act.{act, done}
use Rattle.xc_world.specs.Act.Step.{Stepped, step_to}
use Rattle.xc_world.specs.Act.Pipes.{empty_or_end, took, read_pipe_at, received, receive_at}
use Rattle.xc_world.specs.Fits.{fits}
use Rattle.xc_world.specs.Sound.{IsSound, IsKnown}
use Rattle.xc_world.specs.Trail.{recorded}
use Rattle.xc_world.specs.Ends.{with_remains}
use Rattle.xc_world.specs.Effects.{whole, takes_data}
use Rattle.xc_world.proofs.SoundParts.{chosen_so, there_put}
use Rattle.xc_world.proofs.Sound.{act_sound}
use Rattle.xc_world.proofs.UndoingBody.{act-cases}
use Rattle.xc_world.proofs.EffectsParts.{with_words, remains-words, remains-append, whole-append}
use Rattle.xc_world.proofs.EffectsCalls.{act-leads}
use Rattle.xc_data.specs.declared.call.CallWithAnswer.{CallWithAnswer}
use Rattle.xc_data.specs.declared.entry.KeptItem.{KeptItem}
use Rattle.xc_data.specs.declared.entry.KeptItem.TheVariants.{Bytes, Message}
use Rattle.xc_world.specs.Run.{BodyResult, begins, bytes_taken, message_taken, taken_by, gives, given_back, step, after_calls, gone_back, opens, body_state}
use Rattle.xc_world.specs.Run.{body}
use Rattle.xc_world.specs.Run.{body_fits}
use Rattle.xc_world.proofs.Blocks.{FitEach, Fits, Kept, BlockHolds, fit_all, runs_keep}
use Rattle.xc_world.proofs.EffectsBody.{back_sound}
use Rattle.xc_world.proofs.TakenApart.{HasItsObject, stands_on, pipe_there, pair_there, AllApart, given_with_words, given_remains}
use Rattle.xc_world.proofs.TakenApart.{given_append, recorded_apart}

-- ---- one call
-- what a call took, given back, leads to the world before it
pub record TakesBack (w : World) (me : Private) (c : Call) (s : Stepped) : Type 0 where
  pub back : given_back s.world (taken_by c me s.reply) ≡ w
  pub there : All (HasItsObject s.world) (taken_by c me s.reply)
  pub words : s.world.words ≡ w.words

takes_nothing : (w : World) (me : Private) (c : Call) (r : Reply) (you : Private) → taken_by c me r ≡ [] → TakesBack w me c (step_to w you r)
takes_nothing w me c r you e = record { back = ap (given_back w) e; there = subst (All (HasItsObject w)) (sym e) (All-nil (HasItsObject w)); words = refl }

-- put back where it was taken from
pipe_back : (w : World) (num : Num) (p : Pipe) (bytes : List ℕ) → is_some (map.get w.pipes num) ≡ true → record p { held = bytes ++ p.held } ≡ pipe_of w num
    → gives (with_pipe w num p) (Bytes num bytes) ≡ w
pipe_back w num p bytes there e =
    let f : Pipe → Pipe = λ q. record q { held = bytes ++ q.held } in
    let now : pipe_of (with_pipe w num p) num ≡ p = ap (λ o. unwrap_or o empty_pipe) (get-insert_same num_total num_exact w.pipes num p) in
    ap (λ q. with_pipe (with_pipe w num p) num (f q)) now ∙ ap (with_pipe (with_pipe w num p) num) e
    ∙ ap (λ m. record w { pipes = m })
    (insert-insert_same num_total num_exact w.pipes num p (pipe_of w num)
    ∙ insert-get_same num_total num_exact w.pipes num (pipe_of w num) (pipe_there w num there))

some_taken : (n : ℕ) (held : List ℕ) → (n == 0) ≡ false → (length held == 0) ≡ false → (length (take n held) == 0) ≡ false
some_taken zero held some more = cc
some_taken (suc n) [] some more = cc
some_taken (suc n) (x ∷ held) some more = eqb-suc-zero (length (take n held))

took_back : (w : World) (me : Private) (h n : ℕ) (num : Num) → (n == 0) ≡ false → (length (pipe_of w num).held == 0) ≡ false
    → is_some (map.get w.pipes num) ≡ true
    → (taken : List KeptItem) → taken ≡ Bytes num (take n (pipe_of w num).held) ∷ []
    → (given_back (took w me num n).world taken ≡ w) × All (HasItsObject (took w me num n).world) taken
took_back w me h n num some more there taken e =
    let p = pipe_of w num in
    let bytes = take n p.held in
    let after = (took w me num n).world in
    let rest : Pipe = record p { held = drop n p.held } in
    let whole_again : record rest { held = bytes ++ drop n p.held } ≡ p = ap (λ l. record p { held = l }) (take-append-drop n p.held) in (
      ap (given_back after) e ∙ pipe_back w num rest bytes there whole_again,
      subst (All (HasItsObject after)) (sym e) (All-cons (HasItsObject after) (Bytes num bytes) [] (there_put w.pipes num rest) (All-nil (HasItsObject after))),
    )

read_pipe_back : (w : World) (me : Private) (h n : ℕ) (p : Place) → p ≡ place_of me.places h → IsKnown w p
    → TakesBack w me (call.XReadPipe h n) (read_pipe_at w me n p)
read_pipe_back w me h n (place.Pipe num) is known =
    let c = call.XReadPipe h n in
    let empty : bytes_taken (place_of me.places h) [] ≡ [] = ap (λ q. bytes_taken q []) (sym is) in
    chosen_so (TakesBack w me c) (n == 0) _ _ (λ _. takes_nothing w me c (reply.Got []) me empty) (λ some.
    chosen_so (TakesBack w me c) (length (pipe_of w num).held == 0) _ _
    (λ _. takes_nothing w me c (empty_or_end (pipe_of w num)) me (none_of_nothing (pipe_of w num).shut)) (λ more.
    let bytes = take n (pipe_of w num).held in
    let e : bytes_taken (place_of me.places h) bytes ≡ Bytes num bytes ∷ [] =
    ap (λ q. bytes_taken q bytes) (sym is) ∙ ap (λ b. if b then [] else Bytes num bytes ∷ []) (some_taken n (pipe_of w num).held some more) in
    let both = took_back w me h n num some more known (bytes_taken (place_of me.places h) bytes) e in
    record { back = both.0; there = both.1; words = refl }))
  where
    none_of_nothing : (b : Bool) → taken_by (call.XReadPipe h n) me (if b then reply.End else reply.Empty) ≡ []
    none_of_nothing true = refl
    none_of_nothing false = refl
read_pipe_back w me h n place.Vacant is known = takes_nothing w me (call.XReadPipe h n) reply.BadHandle me refl
read_pipe_back w me h n (place.File num at) is known = takes_nothing w me (call.XReadPipe h n) reply.BadHandle me refl
read_pipe_back w me h n (place.Pair num side) is known = takes_nothing w me (call.XReadPipe h n) reply.BadHandle me refl

-- a message in front of the rest again
abbrev of_side : Bool → Pair → List (List ℕ)
of_side b p = if b then p.first else p.second

abbrev with_side : Bool → Pair → List (List ℕ) → Pair
with_side b p messages = if b then record p { first = messages } else record p { second = messages }

side_back : (b : Bool) (p : Pair) (message : List ℕ) (messages : List (List ℕ)) → of_side b p ≡ message ∷ messages
    → with_side b (with_side b p messages) (message ∷ of_side b (with_side b p messages)) ≡ p
side_back true p message messages e = ap (λ l. record p { first = l }) (sym e)
side_back false p message messages e = ap (λ l. record p { second = l }) (sym e)

received_back : (w : World) (me : Private) (h : ℕ) (num : Num) (side : ℕ) (messages : List (List ℕ)) → place.Pair num side ≡ place_of me.places h
    → is_some (map.get w.pairs num) ≡ true
    → waiting (pair_of w num) side ≡ messages → TakesBack w me (call.XRecvmsg h) (received w me num side messages)
received_back w me h num side [] is there e = takes_nothing w me (call.XRecvmsg h) _ me (none (pair_of w num).shut)
  where
    none : (b : Bool) → taken_by (call.XRecvmsg h) me (if b then reply.End else reply.Empty) ≡ []
    none true = refl
    none false = refl
received_back w me h num side (message ∷ messages) is there e =
    let p = pair_of w num in
    let rest = with_waiting p side messages in
    let after = with_pair w num rest in
    let f : Pair → Pair = λ q. with_waiting q side (message ∷ waiting q side) in
    let taken : message_taken (place_of me.places h) message ≡ Message num side message ∷ [] = ap (λ q. message_taken q message) (sym is) in
    let now : pair_of after num ≡ rest = ap (λ o. unwrap_or o empty_pair) (get-insert_same num_total num_exact w.pairs num rest) in
    let again : f rest ≡ p = side_back (side == 0) p message messages e in
    let back : gives after (Message num side message) ≡ w =
    ap (λ q. with_pair after num (f q)) now ∙ ap (with_pair after num) again
    ∙ ap (λ m. record w { pairs = m })
    (insert-insert_same num_total num_exact w.pairs num rest p ∙ insert-get_same num_total num_exact w.pairs num p (pair_there w num there)) in
    record {
      back = ap (given_back after) taken ∙ back;
      there =
          subst (All (HasItsObject after)) (sym taken)
          (All-cons (HasItsObject after) (Message num side message) [] (there_put w.pairs num rest) (All-nil (HasItsObject after)));
      words = refl;
    }

receive_back : (w : World) (me : Private) (h : ℕ) (p : Place) → p ≡ place_of me.places h → IsKnown w p → TakesBack w me (call.XRecvmsg h) (receive_at w me p)
receive_back w me h (place.Pair num side) is known = received_back w me h num side (waiting (pair_of w num) side) is known.0 refl
receive_back w me h place.Vacant is known = takes_nothing w me (call.XRecvmsg h) reply.BadHandle me refl
receive_back w me h (place.File num at) is known = takes_nothing w me (call.XRecvmsg h) reply.BadHandle me refl
receive_back w me h (place.Pipe num) is known = takes_nothing w me (call.XRecvmsg h) reply.BadHandle me refl

-- a call that takes, with any answer, where the object of its handle is there
abbrev pub KnowsHandle : World → Private → Call → Type 0
KnowsHandle w me (call.XReadPipe h n) = IsKnown w (place_of me.places h)
KnowsHandle w me (call.XRecvmsg h) = IsKnown w (place_of me.places h)
KnowsHandle w me c = Unit {0}

sound_knows : (w : World) (me : Private) (tx : ℕ) (c : Call) → IsSound w me tx → KnowsHandle w me c
sound_knows w me tx (call.XReadPipe h n) sound = sound.handles h
sound_knows w me tx (call.XRecvmsg h) sound = sound.handles h
sound_knows w me tx _ sound = tt

pipe_answered : (w : World) (me : Private) (tx h n : ℕ) (a : Answer) → IsKnown w (place_of me.places h)
    → TakesBack w me (call.XReadPipe h n) (done w me tx (call.XReadPipe h n) a)
pipe_answered w me tx h n answer.Fine known = read_pipe_back w me h n (place_of me.places h) refl known
pipe_answered w me tx h n (answer.Fault k) known = takes_nothing w me (call.XReadPipe h n) (reply.Fault k) me refl
pipe_answered w me tx h n (answer.Undone k) known = takes_nothing w me (call.XReadPipe h n) (reply.Undone k) me refl

pair_answered : (w : World) (me : Private) (tx h : ℕ) (a : Answer) → IsKnown w (place_of me.places h)
    → TakesBack w me (call.XRecvmsg h) (done w me tx (call.XRecvmsg h) a)
pair_answered w me tx h answer.Fine known = receive_back w me h (place_of me.places h) refl known
pair_answered w me tx h (answer.Fault k) known = takes_nothing w me (call.XRecvmsg h) (reply.Fault k) me refl
pair_answered w me tx h (answer.Undone k) known = takes_nothing w me (call.XRecvmsg h) (reply.Undone k) me refl

answered : (w : World) (me : Private) (tx : ℕ) (c : Call) (a : Answer) → takes_data c ≡ true → KnowsHandle w me c → TakesBack w me c (done w me tx c a)
answered w me tx (call.XReadPipe h n) a takes known = pipe_answered w me tx h n a known
answered w me tx (call.XRecvmsg h) a takes known = pair_answered w me tx h a known
answered w me tx c a takes known = cc

no_data : (c : Call) (me : Private) (r : Reply) → takes_data c ≡ false → taken_by c me r ≡ []
no_data (call.XReadPipe h n) me r quiet = cc
no_data (call.XRecvmsg h) me r quiet = cc
no_data c me r quiet = refl

no_record : (w : World) (me : Private) (tx : ℕ) (c : Call) (r : Reply) → takes_data c ≡ true → recorded w me tx c r ≡ []
no_record w me tx (call.XReadPipe h n) r takes = refl
no_record w me tx (call.XRecvmsg h) r takes = refl
no_record w me tx c r takes = cc

-- a refusal brings nothing
abbrev pub BringsNone : Call → Private → Type 0
BringsNone c me =
    (taken_by c me reply.BadHandle ≡ []) × (taken_by c me reply.TooBig ≡ []) × (taken_by c me reply.TooMuch ≡ []) × (taken_by c me reply.BadWord ≡ [])

brings_none : (c : Call) (me : Private) → BringsNone c me
brings_none (call.XReadPipe h n) me = (refl, refl, refl, refl)
brings_none (call.XRecvmsg h) me = (refl, refl, refl, refl)
brings_none c me = (refl, refl, refl, refl)

-- so what it took, given back, leads to the world before it
pub act_takes : (w : World) (me : Private) (tx : ℕ) (c : Call) (a : Answer) → takes_data c ≡ true → KnowsHandle w me c → TakesBack w me c (act w me tx c a)
act_takes w me tx c a takes known =
    let none = brings_none c me in
    act-cases w me tx c a (TakesBack w me c) (takes_nothing w me c reply.BadHandle me none.0) (takes_nothing w me c reply.TooBig me none.1)
    (takes_nothing w me c reply.TooMuch me none.2) (takes_nothing w me c reply.BadWord me none.3)
    (let d = answered w me tx c a takes known in record { back = d.back; there = d.there; words = d.words })

-- ---- a body
pub record ReturnsTaken (w : World) (tx : ℕ) (r : BodyResult) : Type 0 where
  pub sound : IsSound r.world r.me tx
  pub there : All (HasItsObject r.world) r.taken
  pub back : given_back r.world r.taken ≡ with_words (with_remains w (whole r.trail)) r.world.words

-- what was taken stands on, and what a call takes stands
stand_on : (tx : ℕ) (r : BodyResult) (c : CallWithAnswer) → IsTrue (fits r.world r.me tx c.call c.answer) → IsSound r.world r.me tx
    → All (HasItsObject r.world) r.taken
    → All (HasItsObject (act r.world r.me tx c.call c.answer).world) r.taken
stand_on tx r c fit sound there =
    All-weaker (HasItsObject r.world) (HasItsObject (act r.world r.me tx c.call c.answer).world)
    (λ t so. stands_on r.world r.me tx c.call c.answer t fit sound so) r.taken there

taking_returns : (w : World) (tx : ℕ) (r : BodyResult) (c : CallWithAnswer) → takes_data c.call ≡ true → IsTrue (fits r.world r.me tx c.call c.answer)
    → ReturnsTaken w tx r
    → ReturnsTaken w tx (step tx r c)
taking_returns w tx r c takes fit so =
    let s = act r.world r.me tx c.call c.answer in
    let took = act_takes r.world r.me tx c.call c.answer takes (sound_knows r.world r.me tx c.call so.sound) in
    let new = taken_by c.call r.me s.reply in
    let same_trail : r.trail ≡ r.trail ++ recorded r.world r.me tx c.call s.reply =
    sym (ap (λ us. r.trail ++ us) (no_record r.world r.me tx c.call s.reply takes) ∙ append-nil r.trail) in
    record {
      sound = act_sound r.world r.me tx c.call c.answer fit so.sound;
      there = All-append (HasItsObject s.world) r.taken new (stand_on tx r c fit so.sound so.there) took.there;
      back =
          given_append s.world r.taken new ∙ ap (λ x. given_back x r.taken) took.back ∙ so.back
          ∙ ap₂ (λ us ws. with_words (with_remains w (whole us)) ws) same_trail (sym took.words);
    }

quiet_returns : (w : World) (tx : ℕ) (r : BodyResult) (c : CallWithAnswer) → takes_data c.call ≡ false → IsTrue (fits r.world r.me tx c.call c.answer)
    → ReturnsTaken w tx r
    → ReturnsTaken w tx (step tx r c)
quiet_returns w tx r c quiet fit so =
    let s = act r.world r.me tx c.call c.answer in
    let us = recorded r.world r.me tx c.call s.reply in
    let ws = s.world.words in
    let begin = with_remains w (whole r.trail) in
    let none = no_data c.call r.me s.reply quiet in
    let same_taken : r.taken ++ taken_by c.call r.me s.reply ≡ r.taken = ap (λ ts. r.taken ++ ts) none ∙ append-nil r.taken in
    let apart : All (AllApart us) r.taken =
    All-weaker (HasItsObject r.world) (AllApart us)
    (λ t there. recorded_apart r.world r.me tx c.call s.reply t (so.sound.new r.me.made (omega arith)) there) r.taken so.there in
    record {
      sound = act_sound r.world r.me tx c.call c.answer fit so.sound;
      there = subst (All (HasItsObject s.world)) (sym same_taken) (stand_on tx r c fit so.sound so.there);
      back =
          ap (given_back s.world) same_taken
          ∙ ap (λ x. given_back x r.taken) (act-leads r.world r.me tx c.call c.answer quiet)
          ∙ given_with_words (with_remains r.world (whole us)) ws r.taken
          ∙ ap (λ x. with_words x ws) (given_remains r.world us r.taken apart)
          ∙ ap (λ x. with_words (with_remains x (whole us)) ws) so.back
          ∙ ap (λ x. with_words x ws) (remains-words begin r.world.words (whole us))
          ∙ ap (λ x. with_words x ws) (sym (ap (with_remains w) (whole-append r.trail us) ∙ remains-append w (whole r.trail) (whole us)));
    }

step_returns : (w : World) (tx : ℕ) (r : BodyResult) (c : CallWithAnswer) → IsTrue (fits r.world r.me tx c.call c.answer) → ReturnsTaken w tx r
    → ReturnsTaken w tx (step tx r c)
step_returns w tx r c fit so = by_kind (takes_data c.call) refl
  where
    by_kind : (b : Bool) → takes_data c.call ≡ b → ReturnsTaken w tx (step tx r c)
    by_kind true e = taking_returns w tx r c e fit so
    by_kind false e = quiet_returns w tx r c e fit so

-- a block that went back
back_returns : (w : World) (tx : ℕ) (s : BodyResult) (calls : List CallWithAnswer) → FitEach tx (Fits tx) s calls → ReturnsTaken w tx s
    → ReturnsTaken w tx (after_calls tx s calls) → ReturnsTaken w tx (gone_back s (after_calls tx s calls))
back_returns w tx s calls fit was is = record { sound = back_sound tx s calls fit was.sound is.sound; there = was.there; back = was.back }

-- what was taken and recorded is kept by all calls
pub kept_returns : (w : World) (tx : ℕ) → Kept tx (Fits tx) (ReturnsTaken w tx)
kept_returns w tx = record { plain = step_returns w tx; back = back_returns w tx }

-- a begin
pub begins_returns : (w : World) (me : Private) (tx : ℕ) → IsSound w me tx → ReturnsTaken w tx (begins w me)
begins_returns w me tx sound = record { sound = sound; there = All-nil (HasItsObject w); back = refl }

-- a body, and its open block's save
pub state_returns : (w : World) (me : Private) (tx : ℕ) (asked : List CallWithAnswer) → IsSound w me tx → IsTrue (body_fits w me tx asked)
    → BlockHolds tx (Fits tx) (ReturnsTaken w tx) (body_state w me tx asked)
state_returns w me tx asked sound fit =
    runs_keep tx (Fits tx) (ReturnsTaken w tx) (kept_returns w tx) (opens w me) asked (fit_all tx (opens w me) asked fit)
    (record { now = begins_returns w me tx sound; saved = tt })

-- but for the words, what a body took, given back, leaves the world with the effects of its records
pub body_returns : (w : World) (me : Private) (tx : ℕ) (asked : List CallWithAnswer) → IsSound w me tx → IsTrue (body_fits w me tx asked)
    → given_back (body w me tx asked).world (body w me tx asked).taken
    ≡ record (with_remains w (whole (body w me tx asked).trail)) { words = (body w me tx asked).world.words }
body_returns w me tx asked sound fit = (state_returns w me tx asked sound fit).now.back
