-- Several passes as one, and several tasks one after another.
use Rattle.std.proofs.Common.{◌≡◌, ◌⊎◌, inl, inr, ◌++◌, [], ◌<◌, ℕ, ◌+◌, Bool, true, false, List, length, take, drop, get_or, set, nat_lt, if◌then◌else◌}
use Rattle.std.proofs.Common.{refl, sym, ap, ◌∙◌, subst, arith, append_assoc}
use Rattle.std.proofs.lemmas.List.{append-nil, drop-drop, drop-set-lt, get_or-drop, length-append, length-drop, take_more_set}
use Rattle.std.proofs.lemmas.List.Elements.{all_zip_more}
use Rattle.std.proofs.lemmas.Bool.{ltb-true}
use Rattle.std.specs.List.{AllZip}
use Rattle.std.specs.declared.option.Option.{Option}
use Rattle.std.specs.declared.option.Option.TheVariants.{None, Some}
use Rattle.xc_data.specs.declared.entry.Entry.{Entry}
use Rattle.xc_data.specs.declared.entry.Event.{Event}
use Rattle.xc_data.specs.declared.entry.Event.TheVariants.{Picked}
use Rattle.xc_runner.specs.Tries.{HasTried}
use Rattle.xc_runner.specs.declared.tries.Tried.{Tried}
use Rattle.xc_runner.specs.declared.tries.Tried.TheVariants.{Answered, Held}
use Rattle.xc_station.specs.Passes.{StationPass}
use Rattle.xc_turnstile.specs.Views.{BeginsWith, longer}
use Rattle.xc_poll.specs.Askings.{HasAsked, asked_from}
use Rattle.xc_poll.specs.Crews.{BeginsWithEvents}

module _ (a b : List Entry) where
  begins_by : (t : Bool) → nat_lt (length a) (length b) ≡ t → BeginsWith a b ⊎ BeginsWith b a → BeginsWith (if t then b else a) a
  begins_by true e (inr h) = h
  begins_by true e (inl h) = absurd (omega (arith, ltb-true (length a) (length b) e, ap length h.1 ∙ length-append b h.0))
  begins_by false e h = ([], sym (append-nil a))

  -- the longer of two histories, of which one begins with the other, begins with the first
  pub longer_begins : BeginsWith a b ⊎ BeginsWith b a → BeginsWith (longer a b) a
  longer_begins h = begins_by (nat_lt (length a) (length b)) refl h

-- a front of a front is a front
pub events_further : (a b c : List Event) → BeginsWithEvents b a → BeginsWithEvents c b → BeginsWithEvents c a
events_further a b c p q = (p.0 ++ q.0, q.1 ∙ ap (λ (es : List Event). es ++ q.0) p.1 ∙ append_assoc a p.0 q.0)

-- an asking
pub asked_so : (old new : StationPass) (tried : Tried (Option ℕ)) → HasTried (λ job. Picked job) old new tried → HasAsked old new (asked_from tried)
asked_so old new (Answered None) h = h
asked_so old new (Answered (Some job)) h = h
asked_so old new (Held word) h = h

-- ---- one task more: those before place i were polled, and the others are as they were
module _ {A : Type 0} (old items : List A) (i : ℕ) (lt : i < length items) (rest : drop i items ≡ drop i old) where
  pub rest_step : (t' : A) → drop (i + 1) (set items i t') ≡ drop (i + 1) old
  rest_step t' = drop-set-lt (i + 1) items i t' (omega arith) ∙ (sym (drop-drop 1 i items) ∙ (ap (drop 1) rest ∙ drop-drop 1 i old))

  same_there : (t : A) → get_or items i t ≡ get_or old i t
  same_there t =
      let at : i + 0 ≡ i = omega arith in
      subst (λ k. get_or items k t ≡ get_or old k t) at
      (sym (get_or-drop i items 0 t) ∙ (ap (λ (xs : List A). get_or xs 0 t) rest ∙ get_or-drop i old 0 t))

  pub zip_step : (R : A → A → Type 0) (t t' : A) → t ≡ get_or items i t → AllZip R (take i old) (take i items) → R t t'
      → AllZip R (take (i + 1) old) (take (i + 1) (set items i t'))
  zip_step R t t' is h r =
      let long : i < length old = omega (arith, lt, ap length rest, length-drop i items, length-drop i old) in
      subst (AllZip R (take (i + 1) old)) (sym (take_more_set items i t' lt))
      (all_zip_more R old (take i items) i t t' long (is ∙ same_there t) h r)
