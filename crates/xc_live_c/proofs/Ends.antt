-- What the end of a desk comes to, by whether there is a text already.
use Rattle.std.proofs.Common.{◌≡◌, ◌⊎◌, ◌∙◌, ℕ, ℤ, pos, true, false, length, Option, None, Some, Result, Ok, Err, IfOk, is_some, inl, inr, refl, sym, subst}
use Rattle.xc_data.specs.Step.{Step}
use Rattle.xc_data.specs.declared.memory.NoMemory.{NoMemory}
use Rattle.xc_memhost.specs.State.{MemState}
use Rattle.xc_station.specs.declared.run_result.End.{End}
use Rattle.xc_live.specs.Closing.{NobodyIsActive, SomebodyIsActive}
use Rattle.xc_live_c.specs.declared.clients.Clients.{Clients}
use Rattle.xc_live_c.specs.declared.run_text.RunText.{RunText}
use Rattle.xc_live_c.specs.Finished.{EndsInC, HasFinished, IsEndOfDesk, IsFinishedInC, IsHeldUp, IsTextOfRun, IsTextTold, StaysSo, finished_by, last_text}

-- the text is there already
pub twice : (c : Clients) (at : Step EndsInC) (code : ℤ) → at.old.desk ≡ Some c → is_some at.old.text ≡ true → code ≡ pos 9
    → StaysSo at → IsFinishedInC at code
twice c at code here there told same = subst (λ d. finished_by d at.old.text at code) (sym here) (by_text at.old.text there)
  where
    by_text : (text : Option RunText) → is_some text ≡ true → finished_by (Some c) text at code
    by_text None e = cc e
    by_text (Some text) e = (told, same)

-- there is none yet
by_none : (c : Clients) (at : Step EndsInC) (code : ℤ) → IsHeldUp c at code ⊎ HasFinished c at code → (text : Option RunText)
    → is_some text ≡ false → finished_by (Some c) text at code
by_none c at code h None e = h
by_none c at code h (Some text) e = cc e

-- what isn't there is none
no_text : (text : Option RunText) → is_some text ≡ false → text ≡ None
no_text None e = refl
no_text (Some text) e = cc e

-- somebody has a transaction
pub held_up : (c : Clients) (at : Step EndsInC) (code : ℤ) → at.old.desk ≡ Some c → is_some at.old.text ≡ false → SomebodyIsActive c.desk
    → StaysSo at → code ≡ pos 6 → IsFinishedInC at code
held_up c at code here lacks somebody same told =
    subst (λ d. finished_by d at.old.text at code) (sym here)
    (by_none c at code (inl (record { somebody = somebody; same = same; told = told })) at.old.text lacks)

-- nobody has one, and there is the text
pub ended : (c : Clients) (text : RunText) (at : Step EndsInC) (code : ℤ) → at.old.desk ≡ Some c → is_some at.old.text ≡ false
    → NobodyIsActive c.desk → at.new.desk ≡ None → at.new.text ≡ Some text → IsTextOfRun c text → code ≡ pos 0
    → at.new.size ≡ length text.bytes → IsFinishedInC at code
ended c text at code here lacks nobody closed there run told size =
    let sizes : Step ℕ = record { old = at.old.size; new = at.new.size } in
    subst (λ d. finished_by d at.old.text at code) (sym here)
    (by_none c at code (inr (record {
      nobody = nobody;
      closed = closed;
      told = subst (λ t. IsTextTold c t sizes code) (sym there) (told, run, size);
    })) at.old.text lacks)

-- nobody has one, and there is no memory for the text
pub textless : (c : Clients) (at : Step EndsInC) (code : ℤ) → at.old.desk ≡ Some c → is_some at.old.text ≡ false
    → NobodyIsActive c.desk → at.new.desk ≡ None → at.new.text ≡ at.old.text → code ≡ pos 14 → at.new.size ≡ at.old.size
    → IsFinishedInC at code
textless c at code here lacks nobody closed same told size =
    let sizes : Step ℕ = record { old = at.old.size; new = at.new.size } in
    subst (λ d. finished_by d at.old.text at code) (sym here)
    (by_none c at code (inr (record {
      nobody = nobody;
      closed = closed;
      told = subst (λ t. IsTextTold c t sizes code) (sym (same ∙ no_text at.old.text lacks)) (told, size);
    })) at.old.text lacks)

-- the text of an end is a text of the run, where there was memory for it
pub text_of_end : (c : Clients) (end : End MemState) (told : Result RunText NoMemory) → IsEndOfDesk c.desk end
    → IfOk told (λ text. text.bytes ≡ last_text c.counted end) → IfOk told (λ text. IsTextOfRun c text)
text_of_end c end (Ok text) so bytes = (end, so, bytes)
text_of_end c end (Err why) so bytes = tt

-- the same text of the same desk
pub same_run : (c other : Clients) (text kept : RunText) → other ≡ c → kept ≡ text → IsTextOfRun other text → IsTextOfRun c kept
same_run c other text kept same is told = subst (λ t. IsTextOfRun c t) (sym is) (subst (λ d. IsTextOfRun d text) same told)
