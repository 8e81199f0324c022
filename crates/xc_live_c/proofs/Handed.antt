-- What is handed out of a desk for C, by whether there is a text already.
use Rattle.std.proofs.Common.{◌≡◌, ◌⊎◌, ℤ, pos, true, false, length, Option, None, Some, is_some, inl, inr, sym, subst}
use Rattle.xc_data.specs.Step.{Step}
use Rattle.xc_live_c.specs.declared.clients.Clients.{Clients}
use Rattle.xc_live_c.specs.declared.run_text.RunText.{RunText}
use Rattle.xc_live_c.specs.Finished.{EndsInC, StaysSo}
use Rattle.xc_live_c.specs.Handing.{HasHandedOut, IsHandedOutInC, IsHandedOver, handed_by}

-- the text is there already
pub handed_twice : (c : Clients) (at : Step EndsInC) (code : ℤ) → at.old.desk ≡ Some c → is_some at.old.text ≡ true → code ≡ pos 9
    → StaysSo at → IsHandedOutInC at code
handed_twice c at code here there told same = subst (λ d. handed_by d at.old.text at code) (sym here) (by_kept at.old.text there)
  where
    by_kept : (text : Option RunText) → is_some text ≡ true → handed_by (Some c) text at code
    by_kept None e = cc e
    by_kept (Some text) e = (told, same)

-- there is none yet
by_lack : (c : Clients) (at : Step EndsInC) (code : ℤ) → ((code ≡ pos 14) × StaysSo at) ⊎ ((code ≡ pos 0) × IsHandedOver c at)
    → (text : Option RunText) → is_some text ≡ false → handed_by (Some c) text at code
by_lack c at code h None e = h
by_lack c at code h (Some text) e = cc e

-- there is no memory, and nothing changes
pub not_handed : (c : Clients) (at : Step EndsInC) (code : ℤ) → at.old.desk ≡ Some c → is_some at.old.text ≡ false → code ≡ pos 14
    → StaysSo at → IsHandedOutInC at code
not_handed c at code here lacks told same =
    subst (λ d. handed_by d at.old.text at code) (sym here) (by_lack c at code (inl (told, same)) at.old.text lacks)

-- there is the text
pub handed_over : (c after : Clients) (text : RunText) (at : Step EndsInC) (code : ℤ) → at.old.desk ≡ Some c → is_some at.old.text ≡ false
    → at.new.desk ≡ Some after → at.new.text ≡ Some text → at.new.size ≡ length text.bytes → HasHandedOut c after text → code ≡ pos 0
    → IsHandedOutInC at code
handed_over c after text at code here lacks there kept size handed told =
    let over : IsHandedOver c at = record { after = after; there = there; text = text; kept = kept; size = size; handed = handed } in
    subst (λ d. handed_by d at.old.text at code) (sym here) (by_lack c at code (inr (told, over)) at.old.text lacks)

-- the same of the same desks
pub handed_same : (was before is after : Clients) (text : RunText) → was ≡ before → is ≡ after → HasHandedOut was is text
    → HasHandedOut before after text
handed_same was before is after text same kept handed =
    subst (λ d. HasHandedOut before d text) kept (subst (λ d. HasHandedOut d is text) same handed)
