-- Memory is wanting for the variable that takes a call's reply: what the call took goes back to the front.
use Rattle.std.proofs.Common.{◌≡◌, ◌⊎◌, inl, inr, ◌≤◌, ◌<◌, ◌+◌, Bool, true, false, List, [], ◌∷◌, ◌++◌, length, refl, ap, sym, ◌∙◌, subst, IsTrue, arith}
use Rattle.std.proofs.lemmas.List.{append-nil, length-append}
use Rattle.std.proofs.lemmas.List.Elements.{All-head}
use Rattle.std.specs.Prelude.{All, Contains}
use Rattle.std.specs.declared.option.Option.TheVariants.{None}
use Rattle.xc_buffers.specs.Items.{is_fit}
use Rattle.xc_data.specs.declared.call.Call.{Call}
use Rattle.xc_data.specs.declared.call.Call.TheVariants as call
use Rattle.xc_data.specs.Private.{IsSided}
use Rattle.xc_data.specs.declared.private.Private.{Private}
use Rattle.xc_data.specs.declared.call.Reply.{Reply}
use Rattle.xc_data.specs.declared.entry.KeptItem.{KeptItem}
use Rattle.xc_host.specs.Model.{HostModel}
use Rattle.xc_script.specs.Answers.{value_in}
use Rattle.xc_model.specs.Moment.{TxView}
use Rattle.xc_world.specs.Effects.{takes_data}
use Rattle.xc_world.specs.Fits.{is_back}
use Rattle.xc_world.specs.Run.{given_back, gives, taken_by}
use Rattle.xc_world.specs.World.{World}
use Rattle.xc_station.specs.Acting.{Acting, HasDoneAsPlain, IsLentFor, IsSidedFor, LeavesOff}
use Rattle.xc_station.specs.Lent.{IsBacked, StaysBacked}
use Rattle.xc_station.proofs.Doings.{none_taken}
use Rattle.xc_station.proofs.DoingsStarved.{taking_undone, unanswered}
use Rattle.xc_station.proofs.Giving.{given_last}
use Rattle.xc_station.proofs.Takings.{one_taken}
use Rattle.xc_turns.proofs.Laws.{sided_at}

-- a call takes data, or it doesn't
taking_or_not : (b : Bool) → (b ≡ false) ⊎ (b ≡ true)
taking_or_not false = inl refl
taking_or_not true = inr refl

-- each handle's side is one of the two, so that of a call is
pub sided_for : (me : Private) (c : Call) → All IsSided me.places → IsSidedFor me c
sided_for me (call.XRecvmsg h) sided = sided_at me.places h sided
sided_for me (call.XSendmsg h bytes slot) sided = sided_at me.places h sided
sided_for me _ sided = tt

-- a list of one at most that makes another longer is of one
one_of : (items : List KeptItem) → length items ≤ 1 → 1 ≤ length items → (item : KeptItem) × (items ≡ item ∷ [])
one_of [] most least = absurd (omega (arith, least))
one_of (item ∷ []) most least = (item, refl)
one_of (item ∷ other ∷ rest) most least = absurd (omega (arith, most))

none_of : (items : List KeptItem) → length items ≤ 0 → items ≡ []
none_of [] none = refl
none_of (item ∷ items) none = absurd (omega (arith, none))

module _ {H : Type 0} (model : HostModel H) (c : Call) (old new : Acting H) (reply : Reply) (d : HasDoneAsPlain model c old new reply)
    (sided : All IsSided old.tx.me.places) where
  abbrev took : List KeptItem
  took = taken_by c old.tx.me reply

  noted_behind : new.tx.taken ≡ old.tx.taken ++ took
  noted_behind = ap (λ (t : TxView). t.taken) d.tx

  -- where there is more than before, the last is what it took
  last_taken : length old.tx.taken < length new.tx.taken → (item : KeptItem) × (took ≡ item ∷ [])
  last_taken longer =
      let all = ap length noted_behind ∙ length-append old.tx.taken took in
      one_of took (one_taken c old.tx.me reply) (omega (arith, all, longer))

  -- where there isn't, it took nothing
  nothing_taken : length new.tx.taken ≤ length old.tx.taken → took ≡ []
  nothing_taken shorter =
      let all = ap length noted_behind ∙ length-append old.tx.taken took in
      none_of took (omega (arith, all, shorter))

  -- without its last it is what it was
  pub taken_before : length old.tx.taken < length new.tx.taken → (items : List KeptItem)
      → ((notes : List KeptItem) (last : KeptItem) → new.tx.taken ≡ notes ++ last ∷ [] → items ≡ notes)
      → (items ≡ old.tx.taken) × (length new.tx.taken ≡ length old.tx.taken + 1)
  taken_before longer items gave =
      let last = last_taken longer in
      let all = noted_behind ∙ ap (λ taken. old.tx.taken ++ taken) last.1 in
      (gave old.tx.taken last.0 all, ap length all ∙ length-append old.tx.taken (last.0 ∷ []))

  -- the last note went back to the front
  pub given_undone : (lent : IsTrue model.tells → IsLentFor old.tx.me old.tx.number c (model.contents old.host) old.kept)
      → All (λ t. is_fit t ≡ true) old.kept
      → (behind : Acting H) → length old.tx.taken < length new.tx.taken
      → ((notes : List KeptItem) (last : KeptItem) → new.tx.taken ≡ notes ++ last ∷ [] → (behind.tx.taken ≡ notes)
      × ((w : World) → given_back w behind.kept ≡ gives (given_back w new.kept) last))
      → behind ≡ record new { kept = behind.kept; tx = record new.tx { me = old.tx.me; taken = behind.tx.taken } }
      → (value_in reply ≡ None → ⊥) → LeavesOff model c old behind
  given_undone lent fit behind longer gave is brings =
      let last = last_taken longer in
      let back = gave old.tx.taken last.0 (noted_behind ∙ ap (λ items. old.tx.taken ++ items) last.1) in
      elim (taking_or_not (takes_data c)) [
        | inl untaken ↦ absurd (let none = ap length (sym last.1 ∙ none_taken c old.tx.me reply untaken) in omega (arith, none))
        | inr takes ↦ taking_undone model c old new behind behind.kept reply takes d lent (sided_for old.tx.me c sided)
            fit (λ w. back.1 w ∙ ap (given_back (given_back w new.kept)) (sym last.1))
            (λ none. absurd (let item = ap length (sym last.1 ∙ none) in omega (arith, item)))
            (is ∙ ap (λ items. record new { kept = behind.kept; tx = record new.tx { me = old.tx.me; taken = items } }) back.0) brings
      ]

  -- there was nothing to give
  pub nothing_undone : (lent : IsTrue model.tells → IsLentFor old.tx.me old.tx.number c (model.contents old.host) old.kept)
      → All (λ t. is_fit t ≡ true) old.kept
      → (behind : Acting H) → length new.tx.taken ≤ length old.tx.taken → is_back c ≡ false
      → behind ≡ record new { tx = record new.tx { me = old.tx.me } } → (value_in reply ≡ None → ⊥) → LeavesOff model c old behind
  nothing_undone lent fit behind shorter ahead is brings =
      let none = nothing_taken shorter in
      let still : new.tx.taken ≡ old.tx.taken = noted_behind ∙ ap (λ items. old.tx.taken ++ items) none ∙ append-nil old.tx.taken in
      elim (taking_or_not (takes_data c)) [
        | inl untaken ↦ unanswered model c old new behind reply d untaken ahead is brings
        | inr takes ↦ taking_undone model c old new behind new.kept reply takes d lent (sided_for old.tx.me c sided)
            fit (λ w. ap (given_back (given_back w new.kept)) (sym none)) (λ _. refl)
            (is ∙ ap (λ items. record new { tx = record new.tx { me = old.tx.me; taken = items } }) still) brings
      ]

  -- what is kept then is backed as before
  pub last_backed : (kept : List KeptItem) → IsTrue model.tells → length old.tx.taken < length new.tx.taken
      → ((notes : List KeptItem) (last : KeptItem) → new.tx.taken ≡ notes ++ last ∷ []
      → (item : KeptItem) → Contains kept item → (item ≡ last) ⊎ Contains new.kept item)
      → StaysBacked (model.contents old.host) old.kept new.kept → StaysBacked (model.contents old.host) old.kept kept
  last_backed kept tells longer among stays backed =
      let P = IsBacked (model.contents old.host) in
      let last = last_taken longer in
      given_last P last.0 new.kept kept (among old.tx.taken last.0 (noted_behind ∙ ap (λ items. old.tx.taken ++ items) last.1))
      (All-head P last.0 [] (subst (All P) last.1 (d.backed tells))) (stays backed)
