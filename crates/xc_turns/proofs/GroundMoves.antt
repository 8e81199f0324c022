-- A turn in which no transaction waits or enters keeps each conflict and each revocation grounded.
use Rattle.std.proofs.Common.{◌≡◌, ◌≢◌, inl, inr, ℕ, ◌+◌, ◌≤◌, Bool, List, ◌∷◌, ◌++◌, length, get_or, refl, ap, sym, ◌∙◌, subst}
use Rattle.std.proofs.Common.{arith}
use Rattle.std.specs.Prelude.{Contains, Option, slice_get, slice_set, if◌then◌else◌}
use Rattle.std.specs.declared.option.Option.TheVariants.{None, Some}
use Rattle.std.proofs.lemmas.List.Elements.{Contains-append_right}
use borrow.Author.Tests.{eq-eqb, ne_eqb}
use mathlib.Core.Logic.{dite}
use native.Mathlib.Decide.{ℕ_discrete}
use Rattle.xc_data.specs.declared.private.Private.{Private}
use Rattle.xc_world.specs.Modes.{claims_of}
use Rattle.xc_data.specs.declared.claim.Claim.{Claim}
use Rattle.xc_data.specs.declared.object.Object.{Object}
use Rattle.xc_data.specs.declared.entry.Cause.{Cause}
use Rattle.xc_data.specs.declared.entry.Cause.TheVariants as cause
use Rattle.xc_data.specs.declared.call.Call.{Call}
use Rattle.xc_data.specs.declared.call.Call.TheVariants as call
use Rattle.xc_script.specs.declared.ask.Ask.{Ask}
use Rattle.xc_script.specs.declared.ask.Ask.TheVariants as ask
use Rattle.std.proofs.Common.{[]}
use Rattle.xc_data.specs.declared.entry.Mark.{Mark}
use Rattle.xc_model.specs.Setting.{Setting}
use Rattle.xc_model.specs.Moment.{TxView, JobView, Moment, active_of, unmarked}
use Rattle.xc_model.specs.Movers.{IsActiveAt, asked_at, mover}
use Rattle.xc_model.specs.Rivals.{IsFirstRival, IsRival}
use Rattle.xc_model.specs.PlainSteps.{claims_at}
use Rattle.xc_model.specs.Grounds.{Part, Other, HoldsObject, Ground, IsGrounded, AreGrounded, scene_of}
use Rattle.xc_model.specs.Joint.{entry_parts}
use Rattle.xc_model.specs.Stories.{StoriesHold, active_begin, active_part, active_parts, part_under_way}
use Rattle.xc_model.specs.Stories.{cause_of_phase, wanted_by, reading}
use Rattle.xc_turns.proofs.Lists.{contains_first, not_both}
use Rattle.xc_data.proofs.Laws.{get_set_same, get_set_other}
use Rattle.xc_turns.proofs.Progressing.{parts_length}
use Rattle.xc_turns.proofs.StoryBegins.{active_begun}
use Rattle.xc_turns.proofs.HeldClaims.{AreCovered, covered_same, covered_all, claims_covered, covered_parts, covered_front, covered_back}
use Rattle.xc_turns.proofs.GroundSteps.{Follows, follows_itself, ground_as, grounds_go_on}
use Rattle.xc_turns.proofs.GivenNumbers.{given_by_now}
use Rattle.xc_turns.proofs.GroundReads.{part_read, part_elsewhere}
use Rattle.xc_turns.proofs.KindsOfTurns.{AsksOn, HoldsOn, IsNoConflict, MeetsRival, CauseOn, same, free, meets, cause_on}
use Rattle.xc_turns.proofs.TurnKinds.{undoing_is}
use Rattle.xc_turns.proofs.KindsOfTurns.{Rests, Begins, Moves}

-- ---- marks
pub unmarked_other : (marks : ℕ → Option Mark) (number n : ℕ) → (n ≡ number → ⊥) → unmarked marks number n ≡ marks n
unmarked_other marks number n ne = ap (λ (b : Bool). if b then None else marks n) (ne_eqb n number ne)

unmarked_itself : (marks : ℕ → Option Mark) (number : ℕ) → unmarked marks number number ≡ None
unmarked_itself marks number = ap (λ (b : Bool). if b then None else marks number) (eq-eqb number number refl)

-- ---- a turn of the job in this place
module _ (s : Setting) (at : ℕ) (old new : Moment) (job : JobView) (stands : slice_get old.jobs at ≡ Some job)
    (told : StoriesHold s (length old.words) old.marks old.journal old.jobs) where
  abbrev words : ℕ
  words = length old.words

  -- an active one began by now
  pub by_now : (j : ℕ) (tx : TxView) → IsActiveAt old.jobs j tx → tx.began ≤ length old.journal
  by_now j tx a = told.begins.by_now (active_begin tx) (active_begun old.journal old.jobs j tx a)

  -- ---- what its conflict is judged by
  abbrev log : List Part
  log = entry_parts s told.lasts old.journal

  abbrev before : List (Option Part)
  before = active_parts (reading s words old.marks) 1 old.jobs

  abbrev behind_of : (ℕ → Option Mark) → JobView → List (Option Part)
  behind_of marks behind = active_parts (reading s words marks) 1 (slice_set old.jobs at behind)

  -- the part of its transaction, where it stands
  abbrev part_here : (ℕ → Option Mark) → JobView → TxView → Part
  part_here marks there tx = part_under_way (reading s words marks) (at + 1) there tx

  pub here_before : (o : Option TxView) → active_of job ≡ o → get_or before at None ≡ active_part (reading s words old.marks) (at + 1) job o
  here_before o e = part_read s words old.marks old.jobs at job o stands e

  pub here_after : (marks : ℕ → Option Mark) (behind : JobView) (o : Option TxView) → active_of behind ≡ o
      → get_or (behind_of marks behind) at None ≡ active_part (reading s words marks) (at + 1) behind o
  here_after marks behind o e =
      part_read s words marks (slice_set old.jobs at behind) at behind o (get_set_same old.jobs at job behind stands) e

  pub is_part : (parts : List (Option Part)) (a b : Part) → get_or parts at None ≡ Some a → get_or parts at None ≡ Some b → a ≡ b
  is_part parts a b e got = let both : Some a ≡ Some b = sym e ∙ got in cc

  -- the marks of the others stay
  abbrev MarksElsewhere : (ℕ → Option Mark) → Type 0
  MarksElsewhere marks = (j : ℕ) (tx : TxView) → j ≢ at → IsActiveAt old.jobs j tx → marks tx.number ≡ old.marks tx.number

  -- ---- no transaction enters
  pub go_at : (marks : ℕ → Option Mark) (behind : JobView) → MarksElsewhere marks
      → ((a : Part) → get_or before at None ≡ Some a → (b : Part) × Follows s.tells a b × (get_or (behind_of marks behind) at None ≡ Some b))
      → ((b : Part) → get_or (behind_of marks behind) at None ≡ Some b → IsGrounded (scene_of s.tells log before) (length log) b b.cause)
      → AreGrounded (scene_of s.tells log (behind_of marks behind))
  go_at marks behind others own new = grounds_go_on s.tells log before (behind_of marks behind) (record { kept = kept; fresh = fresh }) told.grounded
    where
      elsewhere : (j : ℕ) → j ≢ at → get_or (behind_of marks behind) j None ≡ get_or before j None
      elsewhere j away =
          part_elsewhere s words old.marks marks old.jobs (slice_set old.jobs at behind) j (get_set_other old.jobs at j behind away)
          (λ tx active. others j tx away active)

      kept : (j : ℕ) (a : Part) → get_or before j None ≡ Some a
          → (b : Part) × Follows s.tells a b × (get_or (behind_of marks behind) j None ≡ Some b)
      kept j a got = dite (ℕ_discrete j at)
          (λ (here : j ≡ at).
          let next = own a (ap (λ (k : ℕ). get_or before k None) (sym here) ∙ got) in
          (next.0, next.1, ap (λ (k : ℕ). get_or (behind_of marks behind) k None) here ∙ next.2))
          (λ (away : j ≢ at). (a, follows_itself s.tells a, elsewhere j away ∙ got))

      fresh : (j : ℕ) (b : Part) → get_or (behind_of marks behind) j None ≡ Some b → IsGrounded (scene_of s.tells log before) (length log) b b.cause
      fresh j b got = dite (ℕ_discrete j at)
          (λ (here : j ≡ at). new b (ap (λ (k : ℕ). get_or (behind_of marks behind) k None) (sym here) ∙ got))
          (λ (away : j ≢ at). told.grounded.actives j b (sym (elsewhere j away) ∙ got))

  pub rests_grounded : (k : Rests at old job new) → AreGrounded (scene_of s.tells log (behind_of old.marks k.behind))
  rests_grounded k =
      go_at old.marks k.behind (λ j tx away active. refl) (λ a got. absurd (not_both (get_or before at None) a (here_before None k.before) got))
      (λ b got. absurd (not_both (get_or (behind_of old.marks k.behind) at None) b (here_after old.marks k.behind None k.after) got))

  -- a new one is not marked, and has no number of another
  pub begins_grounded : (k : Begins at old job new) → AreGrounded (scene_of s.tells log (behind_of (unmarked old.marks k.tx.number) k.behind))
  begins_grounded k =
      go_at marks k.behind others (λ a got. absurd (not_both (get_or before at None) a (here_before None k.before) got)) fresh
    where
      marks : ℕ → Option Mark
      marks = unmarked old.marks k.tx.number

      others : MarksElsewhere marks
      others j tx away active =
          let few = given_by_now s words old.marks old.journal old.jobs told j tx active in
          let low = few.1 in
          let number = k.number in
          unmarked_other old.marks k.tx.number tx.number (λ e. omega arith)

      fresh : (b : Part) → get_or (behind_of marks k.behind) at None ≡ Some b → IsGrounded (scene_of s.tells log before) (length log) b b.cause
      fresh b got =
          let none : cause_of_phase (marks k.tx.number) k.tx.phase ≡ None =
          ap (λ m. cause_of_phase m k.tx.phase) (unmarked_itself old.marks k.tx.number) ∙ ap (cause_of_phase None) k.running in
          subst (λ (x : Part). IsGrounded (scene_of s.tells log before) (length log) x x.cause)
          (is_part (behind_of marks k.behind) (part_here marks k.behind k.tx) b (here_after marks k.behind (Some k.tx) k.after) got)
          (subst (IsGrounded (scene_of s.tells log before) (length log) (part_here marks k.behind k.tx)) (sym none) tt)

  -- ---- an active one goes on
  -- what it wants depends on its private state and on what it is asked alone
  wanted_on : (behind : JobView) (was tx : TxView) → tx.me ≡ was.me → asked_at s behind ≡ asked_at s job
      → wanted_by words tx (asked_at s behind) ≡ wanted_by words was (asked_at s job)
  wanted_on behind was tx me still = by_me (asked_at s behind) ∙ ap (wanted_by words was) still
    where
      by_me : (a : Ask) → wanted_by words tx a ≡ wanted_by words was a
      by_me (ask.Call call) = ap (λ (m : Private). claims_of call m words) me
      by_me ask.Commit = refl
      by_me ask.Abort = refl
      by_me ask.End = refl

  no_conflict : (e : Part) (why : Option Cause) → IsNoConflict why → IsGrounded (scene_of s.tells log before) (length log) e why
  no_conflict e (Some (cause.Conflict object holder from)) none = absurd none
  no_conflict e (Some (cause.Revoked object by from)) none = absurd none
  no_conflict e _ none = tt

  -- the one that it meets is another
  rival_named : (j number : ℕ) (rival : TxView) → IsActiveAt old.jobs j rival → rival.number ≡ number → j ≢ at
      → Other (scene_of s.tells log before) number (length old.journal) (at + 1)
  rival_named j number rival active numbered other =
      let there = active in
      record {
        who = part_under_way (reading s words old.marks) (j + 1) there.0 rival;
        present = inr (j, part_read s words old.marks old.jobs j there.0 (Some rival) there.1 there.2);
        numbered = numbered;
        other = λ (e : j + 1 ≡ at + 1). other (omega arith);
        began = by_now j rival active;
      }

  -- and holds the object
  unfoldable pub rival_holds : (c : Claim) (object : Object) (holder : ℕ) → c.object ≡ object → (r : IsRival old.jobs at c holder)
      → HoldsObject r.rival.held object
  rival_holds c object holder names r =
      let holds = r.holds in
      record { claim = holds.0; names = holds.2.0 ∙ names; among = holds.1 }

  -- what it is asked next claims the object
  pub asked_wants : (behind : JobView) (was tx : TxView) → tx.me ≡ was.me → asked_at s behind ≡ asked_at s job → (call : Call)
      → asked_at s job ≡ ask.Call call → wanted_by words tx (asked_at s behind) ≡ claims_at old was call
  asked_wants behind was tx me still call asked = wanted_on behind was tx me still ∙ ap (wanted_by words was) asked

  -- a back claims nothing
  back_wants : (was : TxView) → asked_at s job ≡ ask.Call call.Back → wanted_by words was (asked_at s job) ≡ []
  back_wants was backs = ap (wanted_by words was) backs

  -- the claim that meets is one of those
  pub met_listed : (claims : List Claim) (object : Object) (holder : ℕ) → (met : IsFirstRival old.jobs at claims object holder) → Contains claims met.met
  met_listed claims object holder met =
      subst (λ (cs : List Claim). Contains cs met.met) (sym met.split)
      (Contains-append_right met.front (met.met ∷ met.rest) met.met (contains_first met.met met.rest))

  -- so the conflict is grounded
  met_grounded : (behind : JobView) (was tx : TxView) → active_of job ≡ Some was → tx.began ≡ was.began
      → (m : MeetsRival (mover s at old job) behind was tx)
      → Ground (scene_of s.tells log before) (length log) (part_here old.marks behind tx)
      (record { object = m.object; number = m.holder; at = length old.journal })
  unfolding rival_named rival_holds
  met_grounded behind was tx active began m =
      let met = m.met in
      let rival = met.rival in
      let holds = rival.holds in
      let early = by_now at was (job, stands, active) in
      let count = parts_length s told.lasts old.journal told.entries in
      let claimed = sym (asked_wants behind was tx m.me m.still m.call m.asked) in
      record {
        before = omega arith;
        within = omega arith;
        named = rival_named rival.place m.holder rival.rival rival.active rival.numbered rival.other;
        holds = rival_holds met.met m.object m.holder met.names rival;
        clash = λ t. (
          met.met,
          subst (λ (cs : List Claim). Contains cs met.met) claimed (met_listed (claims_at old was m.call) m.object m.holder met),
          holds.2,
        );
      }

  -- its cause is the old one, none that names another, or this
  why_grounded : (behind : JobView) (was tx : TxView) → active_of job ≡ Some was → tx.rank ≡ was.rank → tx.began ≡ was.began
      → AreCovered was.held tx.held → CauseOn (mover s at old job) behind was tx
      → IsGrounded (scene_of s.tells log before) (length log) (part_here old.marks behind tx) (cause_on old tx)
  why_grounded behind was tx active rank began held (same k) =
      subst (IsGrounded (scene_of s.tells log before) (length log) (part_here old.marks behind tx)) (sym k.cause)
      (ground_as s.tells log before (part_here old.marks job was) (part_here old.marks behind tx) (cause_on old was)
      (record { job = refl; rank = rank; began = began; held = held; wanted = λ t. wanted_on behind was tx k.me k.still })
      (told.grounded.actives at (part_here old.marks job was) (here_before (Some was) active)))
  why_grounded behind was tx active rank began held (free none) = no_conflict (part_here old.marks behind tx) (cause_on old tx) none
  why_grounded behind was tx active rank began held (meets m) =
      subst (IsGrounded (scene_of s.tells log before) (length log) (part_here old.marks behind tx))
      (sym (ap (cause_of_phase (old.marks tx.number)) m.phase ∙ undoing_is (old.marks tx.number) _)) (met_grounded behind was tx active began m)

  covered_on : (was held : List Claim) → HoldsOn old.jobs at was held → AreCovered was held
  covered_on was held (inl e) = covered_same was held e
  covered_on was held (inr more) = subst (AreCovered was) (sym more.2) (covered_all was more.0)

  -- what it holds or wants it goes on to hold or want
  reach_on : (behind : JobView) (was tx : TxView) → AreCovered was.held tx.held → AsksOn (mover s at old job) behind was tx
      → AreCovered ((part_here old.marks job was).held ++ (part_here old.marks job was).wanted)
      ((part_here old.marks behind tx).held ++ (part_here old.marks behind tx).wanted)
  reach_on behind was tx held (inl still) =
      let a = part_here old.marks job was in
      let b = part_here old.marks behind tx in
      covered_parts a.held a.wanted (b.held ++ b.wanted) (covered_front a.held b.held b.wanted held)
      (covered_back a.wanted b.held b.wanted (covered_same a.wanted b.wanted (wanted_on behind was tx still.0 still.1)))
  reach_on behind was tx held (inr (inr backs)) =
      let a = part_here old.marks job was in
      let b = part_here old.marks behind tx in
      covered_parts a.held a.wanted (b.held ++ b.wanted) (covered_front a.held b.held b.wanted held)
      (subst (λ (cs : List Claim). AreCovered cs (b.held ++ b.wanted)) (sym (back_wants was backs))
      (record { each = λ c at. absurd (omega (arith, at.1)) }))
  reach_on behind was tx held (inr (inl done)) =
      let a = part_here old.marks job was in
      let b = part_here old.marks behind tx in
      let claims = claims_at old was done.call in
      let claimed : AreCovered claims b.held = subst (AreCovered claims) (sym done.held) (claims_covered was.held claims) in
      covered_parts a.held a.wanted (b.held ++ b.wanted) (covered_front a.held b.held b.wanted held)
      (covered_front a.wanted b.held b.wanted
      (subst (λ (cs : List Claim). AreCovered cs b.held) (sym (asked_wants job was was refl refl done.call done.asked)) claimed))

  pub moves_grounded : (k : Moves s at old job new) → AreGrounded (scene_of s.tells log (behind_of old.marks k.behind))
  moves_grounded k = go_at old.marks k.behind (λ j tx away active. refl) own fresh
    where
      held : AreCovered k.was.held k.tx.held
      held = covered_on k.was.held k.tx.held k.held

      follows : Follows s.tells (part_here old.marks job k.was) (part_here old.marks k.behind k.tx)
      follows = record {
        number = k.number;
        job = refl;
        rank = k.rank;
        began = k.began;
        held = held;
        reach = λ t. reach_on k.behind k.was k.tx held k.wants;
      }

      own : (a : Part) → get_or before at None ≡ Some a
          → (b : Part) × Follows s.tells a b × (get_or (behind_of old.marks k.behind) at None ≡ Some b)
      own a got = (
        part_here old.marks k.behind k.tx,
        subst (λ (x : Part). Follows s.tells x (part_here old.marks k.behind k.tx))
            (is_part before (part_here old.marks job k.was) a (here_before (Some k.was) k.before) got) follows,
        here_after old.marks k.behind (Some k.tx) k.after,
      )

      fresh : (b : Part) → get_or (behind_of old.marks k.behind) at None ≡ Some b → IsGrounded (scene_of s.tells log before) (length log) b b.cause
      fresh b got =
          subst (λ (x : Part). IsGrounded (scene_of s.tells log before) (length log) x x.cause)
          (is_part (behind_of old.marks k.behind) (part_here old.marks k.behind k.tx) b (here_after old.marks k.behind (Some k.tx) k.after) got)
          (why_grounded k.behind k.was k.tx k.before k.rank k.began held k.why)
