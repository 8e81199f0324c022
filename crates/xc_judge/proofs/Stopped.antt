-- A call that the host stopped, or that memory stopped: it left one record at most.
use Rattle.std.proofs.Common.{inl, inr, ◌≡◌, ℕ, ◌==◌, ◌≤◌, true, List, [], length, refl, ap, sym, subst}
use Rattle.std.proofs.Common.{arith}
use Rattle.xc_data.specs.declared.call.Answer.TheVariants as answer
use Rattle.xc_data.specs.declared.call.Call.{Call}
use Rattle.xc_data.specs.declared.call.Reply.{Reply}
use Rattle.xc_data.specs.declared.call.Reply.TheVariants as reply
use Rattle.xc_data.specs.declared.entry.Cause.{Cause}
use Rattle.xc_data.specs.declared.entry.Cause.TheVariants as cause
use Rattle.xc_data.specs.declared.private.Place.{Place}
use Rattle.xc_data.specs.declared.private.Place.TheVariants as place
use Rattle.xc_data.specs.declared.private.Private.{Private}
use Rattle.xc_data.specs.declared.undo.Undo.{Undo}
use Rattle.xc_script.specs.declared.ask.Ask.{Ask}
use Rattle.xc_script.specs.declared.ask.Ask.TheVariants as ask
use Rattle.xc_world.specs.Act.{act}
use Rattle.xc_world.specs.Act.Files.{overwrite_short, append_short}
use Rattle.xc_world.specs.Act.Step.{Stepped}
use Rattle.xc_world.specs.Run.{BodyResult, begins}
use Rattle.xc_world.specs.Trail.{recorded}
use Rattle.xc_world.specs.World.{World}
use Rattle.xc_world.proofs.Laws.{chosen_so, act-cases, refusal-none, undone-none}
use Rattle.xc_model.specs.EntryEnds.{AreLeft, AreLeftBy}
use Rattle.xc_judge.specs.Ran.{is_memory_cause}
use Rattle.xc_judge.proofs.Recording.{each_recorded}

-- where the host fails after so many bytes it says so
pub overwrite_fault : (w : World) (me : Private) (h : ℕ) (p : Place) (bytes : List ℕ) (n : ℕ) → (overwrite_short w me (h, p) bytes n).reply ≡ reply.Fault n
overwrite_fault w me h (place.File num at) bytes n =
    chosen_so (λ (s : Stepped). s.reply ≡ reply.Fault n) (n == 0) _ _ (λ _. refl) (λ _. refl)
overwrite_fault w me h _ bytes n = refl

-- and so it does of an append
pub append_fault : (w : World) (me : Private) (h : ℕ) (p : Place) (bytes : List ℕ) (n : ℕ) → (append_short w me (h, p) bytes n).reply ≡ reply.Fault n
append_fault w me h (place.File num at) bytes n =
    chosen_so (λ (s : Stepped). s.reply ≡ reply.Fault n) (n == 0) _ _ (λ _. refl) (λ _. refl)
append_fault w me h _ bytes n = refl

-- a way back leaves no record
pub undone_leaves_none : (w : World) (me : Private) (tx : ℕ) (c : Call) (n : ℕ) → recorded w me tx c (act w me tx c (answer.Undone n)).reply ≡ []
undone_leaves_none w me tx c n =
    let none = refusal-none w me tx c in
    act-cases w me tx c (answer.Undone n) (λ (s : Stepped). recorded w me tx c s.reply ≡ []) none.bad_handle none.too_big none.too_much none.bad_word
    (undone-none w me tx c n)

-- ---- a call leaves one record at most
-- any call
recorded_few : (w : World) (me : Private) (tx : ℕ) (c : Call) (r : Reply) → length (recorded w me tx c r) ≤ 1
recorded_few w me tx c r =
    each_recorded (λ (us : List Undo). length us ≤ 1) w me tx c r (record {
      none = omega arith;
      overwrite = λ write file at before after n. omega arith;
      append = λ write file from after n. omega arith;
      create = λ name. omega arith;
      rename = λ from to. omega arith;
      pipe = omega arith;
      pair = omega arith;
    })

-- so one that was stopped left one at most
pub left_few : (w : World) (me : Private) (tx : ℕ) (c : Call) (us : List Undo) → AreLeftBy (begins w me) tx c us → length us ≤ 1
left_few w me tx c us (inl none) = let e = ap length none in omega (arith, e)
left_few w me tx c us (inr (a, fit, left)) =
    let few = recorded_few w me tx c (act w me tx c a).reply in
    let e = ap length left in
    omega (arith, few, e)

-- ---- what is left after a body
pub starved_by_memory : (why : Cause) → is_memory_cause why ≡ true → why ≡ cause.NoMemory
starved_by_memory cause.NoMemory e = refl
starved_by_memory _ e = cc e

-- what may be left by a body that begins where this one ended may be left by it
pub left_alike : (b : BodyResult) (w : World) (me : Private) (tx : ℕ) (last : Ask) (us : List Undo) → w ≡ b.world → me ≡ b.me
    → AreLeft (begins w me) tx last us → AreLeft b tx last us
left_alike b w me tx (ask.Call c) us world mine left =
    subst (λ z. AreLeftBy (begins z b.me) tx c us) world (subst (λ q. AreLeftBy (begins w q) tx c us) mine left)
left_alike b w me tx ask.Commit us world mine left = left
left_alike b w me tx ask.Abort us world mine left = left
left_alike b w me tx ask.End us world mine left = left

-- and the other way round
pub alike_left : (b : BodyResult) (w : World) (me : Private) (tx : ℕ) (last : Ask) (us : List Undo) → w ≡ b.world → me ≡ b.me
    → AreLeft b tx last us → AreLeft (begins w me) tx last us
alike_left b w me tx (ask.Call c) us world mine left =
    subst (λ z. AreLeftBy (begins z me) tx c us) (sym world) (subst (λ q. AreLeftBy (begins b.world q) tx c us) (sym mine) left)
alike_left b w me tx ask.Commit us world mine left = left
alike_left b w me tx ask.Abort us world mine left = left
alike_left b w me tx ask.End us world mine left = left
