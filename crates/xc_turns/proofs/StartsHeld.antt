-- Whoever keeps a call that starts a job holds the jobs exclusively, and nobody else keeps one.
use Rattle.std.proofs.Common.{◌≡◌, ◌≢◌, ℕ, ◌||◌, Bool, true, false, List, [], ◌∷◌, ◌++◌, refl, ap, sym, ◌∙◌, subst}
use Rattle.std.specs.Prelude.{Contains}
use Rattle.std.specs.List.{list_any}
use Rattle.std.proofs.lemmas.List.Folds.{list_any-append}
use Rattle.std.proofs.lemmas.Map.Views.{Contains-from_any}
use Rattle.xc_data.specs.declared.call.Call.{Call}
use Rattle.xc_data.specs.declared.call.Call.TheVariants as call
use Rattle.xc_data.specs.declared.call.Reply.{Reply}
use Rattle.xc_data.specs.declared.call.Reply.TheVariants as reply
use Rattle.xc_data.specs.declared.claim.Claim.{Claim}
use Rattle.xc_data.specs.declared.claim.Mode.TheVariants.{Exclusive}
use Rattle.xc_data.specs.declared.object.Object.{Object}
use Rattle.xc_data.specs.declared.object.Object.TheVariants as object
use Rattle.xc_data.specs.declared.private.Place.{Place}
use Rattle.xc_data.specs.declared.private.Place.TheVariants as place
use Rattle.xc_data.specs.declared.private.Private.{Private}
use Rattle.xc_data.specs.Calls.{late_call, sync_of, write_pipe_of, shutdown_of, send_of}
use Rattle.xc_data.specs.Claims.{claim, compatible, holding, owned}
use Rattle.xc_data.specs.Private.{place_of}
use Rattle.xc_world.specs.Late.{kept_call}
use Rattle.xc_world.specs.Modes.{claims_of}
use Rattle.xc_world.proofs.Laws.{found}
use Rattle.xc_data.proofs.Laws.{same_object}
use Rattle.xc_model.specs.Holding.{AreApart}
use Rattle.xc_model.specs.Movers.{IsActiveAt}
use Rattle.xc_model.specs.Moment.{TxView, JobView}
use Rattle.xc_model.specs.Started.{is_start, keeps_start}
use Rattle.xc_turns.proofs.WordClaims.{alone_first, owned_one, owned_still, owner_of}

-- where it keeps a start, it owns the jobs
abbrev pub HoldsStart : TxView → Type 0
HoldsStart tx = keeps_start tx ≡ true → Contains (owned tx.held) object.Jobs

-- each active one does
abbrev pub HoldStarts : List JobView → Type 0
HoldStarts jobs = (j : ℕ) (tx : TxView) → IsActiveAt jobs j tx → HoldsStart tx

-- ---- claims
-- what was owned still is with more claims
pub owns_further : (held claims : List Claim) (o : Object) → Contains (owned held) o → Contains (owned (holding held claims)) o
owns_further held claims o at = Contains-from_any same_object o (owned (holding held claims)) (owned_still held claims o (found (owned held) o at))

-- and what is claimed exclusively
owns_new : (held : List Claim) (o : Object) → Contains (owned (holding held (claim Exclusive o ∷ []))) o
owns_new held o =
    Contains-from_any same_object o (owned (holding held (claim Exclusive o ∷ []))) (owned_one held (claim Exclusive o) refl)

-- ---- the call that starts a job
not_true : (b : Bool) → b ≡ false → b ≡ true → ⊥
not_true true none is = cc none
not_true false none is = cc is

sync_none : (p : Place) → list_any is_start (sync_of p) ≡ false
sync_none place.Vacant = refl
sync_none (place.File num at) = refl
sync_none (place.Pipe num) = refl
sync_none (place.Pair num side) = refl

write_none : (p : Place) (bytes : List ℕ) → list_any is_start (write_pipe_of p bytes) ≡ false
write_none place.Vacant bytes = refl
write_none (place.File num at) bytes = refl
write_none (place.Pipe num) bytes = refl
write_none (place.Pair num side) bytes = refl

shutdown_none : (p : Place) → list_any is_start (shutdown_of p) ≡ false
shutdown_none place.Vacant = refl
shutdown_none (place.File num at) = refl
shutdown_none (place.Pipe num) = refl
shutdown_none (place.Pair num side) = refl

send_none : (p : Place) (bytes : List ℕ) → list_any is_start (send_of p bytes) ≡ false
send_none place.Vacant bytes = refl
send_none (place.File num at) bytes = refl
send_none (place.Pipe num) bytes = refl
send_none (place.Pair num side) bytes = refl

late_claims : (c : Call) (me : Private) (words : ℕ) (held : List Claim) → list_any is_start (late_call c me) ≡ true
    → Contains (owned (holding held (claims_of c me words))) object.Jobs
late_claims (call.XThreadCreate block slot) me words held is = owns_new held object.Jobs
late_claims (call.XSync h slot) me words held is = absurd (not_true _ (sync_none (place_of me.places h)) is)
late_claims (call.XWritePipe h bytes slot) me words held is = absurd (not_true _ (write_none (place_of me.places h) bytes) is)
late_claims (call.XShutdown h slot) me words held is = absurd (not_true _ (shutdown_none (place_of me.places h)) is)
late_claims (call.XSendmsg h bytes slot) me words held is = absurd (not_true _ (send_none (place_of me.places h) bytes) is)
late_claims _ me words held is = cc is

kept_claims : (c : Call) (me : Private) (r : Reply) (words : ℕ) (held : List Claim) → list_any is_start (kept_call c me r) ≡ true
    → Contains (owned (holding held (claims_of c me words))) object.Jobs
kept_claims c me reply.Late words held is = late_claims c me words held is
kept_claims c me _ words held is = cc is

-- so after a call whoever keeps a start owns the jobs
pub noted_holds : (tx : TxView) (c : Call) (r : Reply) (words : ℕ) → HoldsStart tx → list_any is_start (tx.late ++ kept_call c tx.me r) ≡ true
    → Contains (owned (holding tx.held (claims_of c tx.me words))) object.Jobs
noted_holds tx c r words holds is = by_test (keeps_start tx) refl
  where
    by_test : (b : Bool) → keeps_start tx ≡ b → Contains (owned (holding tx.held (claims_of c tx.me words))) object.Jobs
    by_test true e = owns_further tx.held (claims_of c tx.me words) object.Jobs (holds e)
    by_test false e =
        kept_claims c tx.me r words tx.held
        (sym (ap (λ b. b || list_any is_start (kept_call c tx.me r)) e) ∙ sym (list_any-append is_start tx.late (kept_call c tx.me r)) ∙ is)

-- ---- nobody else
-- two active ones don't own one object
pub one_owner : (jobs : List JobView) (i j : ℕ) (t u : TxView) (o : Object) → AreApart jobs → i ≢ j → IsActiveAt jobs i t → IsActiveAt jobs j u
    → Contains (owned t.held) o → Contains (owned u.held) o → ⊥
one_owner jobs i j t u o apart ne a b has other =
    let c = owner_of t.held o (found (owned t.held) o has) in
    let d = owner_of u.held o (found (owned u.held) o other) in
    let both = apart.together i j t u ne a b c.0 d.0 c.1 d.1 (c.2 ∙ sym d.2) in
    alone_first d.0.mode (subst (λ m. compatible m d.0.mode ≡ true) c.3 both)

-- so where one owns the jobs no other keeps a start
pub others_keep_none : (jobs : List JobView) (at : ℕ) (tx : TxView) → AreApart jobs → HoldStarts jobs → IsActiveAt jobs at tx
    → Contains (owned tx.held) object.Jobs → (j : ℕ) (u : TxView) → j ≢ at → IsActiveAt jobs j u → keeps_start u ≡ false
others_keep_none jobs at tx apart hold a owns j u ne b = by_test (keeps_start u) refl
  where
    by_test : (t : Bool) → keeps_start u ≡ t → keeps_start u ≡ false
    by_test false e = e
    by_test true e = absurd (one_owner jobs j at u tx object.Jobs apart ne b a (hold j u b e) owns)
