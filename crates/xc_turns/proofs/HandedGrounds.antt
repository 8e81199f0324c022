-- What a client hands in keeps each conflict and each revocation grounded: its transaction wanted nothing before, so none of them
-- rests on that, and what it wants from then on takes nothing from the others.
use Rattle.std.proofs.Common.{◌≡◌, ℕ, ◌+◌, List, ◌++◌, length, get_or, refl, ap, sym, subst, arith}
use Rattle.std.specs.Prelude.{Option, slice_get, slice_set}
use Rattle.std.specs.declared.option.Option.TheVariants.{None, Some}
use Rattle.xc_data.specs.declared.claim.Claim.{Claim}
use Rattle.xc_data.specs.declared.entry.Mark.{Mark}
use Rattle.xc_script.specs.declared.ask.Ask.{Ask}
use Rattle.xc_script.specs.declared.ask.Ask.TheVariants as ask
use Rattle.xc_model.specs.declared.phase.Phase.{Phase}
use Rattle.xc_model.specs.declared.phase.Phase.TheVariants.{Running}
use Rattle.xc_model.specs.Grounds.{AreGrounded, Blame, IsGrounded, Part, Revocation, Scene, scene_of}
use Rattle.xc_model.specs.HandedIn.{MayHand, handing}
use Rattle.xc_model.specs.Joint.{entry_parts}
use Rattle.xc_model.specs.Moment.{TxView, JobView, Doing, Idle, Active, Starved, Ended, Moment, active_in, active_of}
use Rattle.xc_model.specs.Movers.{asked_at}
use Rattle.xc_model.specs.Setting.{Setting}
use Rattle.xc_model.specs.Stories.{StoriesHold, active_parts, cause_of_phase, part_under_way, reading, wanted_by}
use Rattle.xc_model.proofs.Laws.{handed_runs}
use Rattle.xc_turns.proofs.GroundMoves.{go_at, here_after, here_before, is_part}
use Rattle.xc_turns.proofs.GroundSteps.{Follows}
use Rattle.xc_turns.proofs.HeldClaims.{AreCovered, covered_front, covered_parts, covered_same}
use Rattle.xc_turns.proofs.Lists.{not_both}

-- whatever the revoked one wants, it is revoked
revoked_still : (scene : Scene) (place : ℕ) (e : Part) (wanted : List Claim) (blame : Blame) → Revocation scene place e blame
    → Revocation scene place (record e { wanted = wanted }) blame
revoked_still scene place e wanted blame r =
    record { before = r.before; within = r.within; named = r.named; older = r.older; holds = r.holds; clash = r.clash }

-- so where one runs its mark is grounded
runs_grounded : (scene : Scene) (place : ℕ) (e : Part) (wanted : List Claim) (mark : Option Mark) → IsGrounded scene place e (cause_of_phase mark Running)
    → IsGrounded scene place (record e { wanted = wanted }) (cause_of_phase mark Running)
runs_grounded scene place e wanted None g = tt
runs_grounded scene place e wanted (Some m) g = revoked_still scene place e wanted (record { object = m.object; number = m.by; at = m.at }) g

module _ (s : Setting) (at : ℕ) (old new : Moment) (job : JobView) (asked : Ask) (stands : slice_get old.jobs at ≡ Some job)
    (told : StoriesHold s (length old.words) old.marks old.journal old.jobs) where
  abbrev words : ℕ
  words = length old.words

  abbrev log : List Part
  log = entry_parts s told.lasts old.journal

  abbrev before : List (Option Part)
  before = active_parts (reading s words old.marks) 1 old.jobs

  abbrev next : JobView
  next = handing job asked

  abbrev behind : List (Option Part)
  behind = active_parts (reading s words old.marks) 1 (slice_set old.jobs at next)

  -- what is judged of its transaction, before or behind
  abbrev part_in : JobView → TxView → Part
  part_in there tx = part_under_way (reading s words old.marks) (at + 1) there tx

  -- it has none
  none_judged : active_of job ≡ None → AreGrounded (scene_of s.tells log behind)
  none_judged none =
      go_at s at old new job stands told old.marks next (λ j tx away active. refl)
      (λ a got. absurd (not_both (get_or before at None) a (here_before s at old new job stands told None none) got))
      (λ b got. absurd (not_both (get_or behind at None) b (here_after s at old new job stands told old.marks next None none) got))

  -- it has one that runs, of which nothing was asked
  module _ (tx : TxView) (active : active_of job ≡ Some tx) (runs : tx.phase ≡ Running) (nothing : asked_at s job ≡ ask.End) where
    abbrev wanted : List Claim
    wanted = wanted_by words tx (asked_at s next)

    was_part : get_or before at None ≡ Some (part_in job tx)
    was_part = here_before s at old new job stands told (Some tx) active

    now_part : get_or behind at None ≡ Some (part_in next tx)
    now_part = here_after s at old new job stands told old.marks next (Some tx) active

    -- what it holds and wanted it goes on to hold and want
    reaches : AreCovered (tx.held ++ wanted_by words tx (asked_at s job)) (tx.held ++ wanted)
    reaches =
        covered_parts tx.held (wanted_by words tx (asked_at s job)) (tx.held ++ wanted)
        (covered_front tx.held tx.held wanted (covered_same tx.held tx.held refl))
        (subst (λ (a : Ask). AreCovered (wanted_by words tx a) (tx.held ++ wanted)) (sym nothing)
        (record { each = λ c among. absurd (omega (arith, among.1)) }))

    follows : Follows s.tells (part_in job tx) (part_in next tx)
    follows = record {
      number = refl;
      job = refl;
      rank = refl;
      began = refl;
      held = covered_same tx.held tx.held refl;
      reach = λ t. reaches;
    }

    caused : IsGrounded (scene_of s.tells log before) (length log) (part_in next tx) (cause_of_phase (old.marks tx.number) tx.phase)
    caused =
        subst (λ (p : Phase). IsGrounded (scene_of s.tells log before) (length log) (part_in next tx) (cause_of_phase (old.marks tx.number) p)) (sym runs)
        (runs_grounded (scene_of s.tells log before) (length log) (part_in job tx) wanted (old.marks tx.number)
        (subst (λ (p : Phase). IsGrounded (scene_of s.tells log before) (length log) (part_in job tx) (cause_of_phase (old.marks tx.number) p)) runs
        (told.grounded.actives at (part_in job tx) was_part)))

    one_judged : AreGrounded (scene_of s.tells log behind)
    one_judged =
        go_at s at old new job stands told old.marks next (λ j tx away active. refl)
        (λ a got. (
          part_in next tx,
          subst (λ (x : Part). Follows s.tells x (part_in next tx)) (is_part s at old new job stands told before (part_in job tx) a was_part got) follows,
          now_part,
        ))
        (λ b got.
        subst (λ (x : Part). IsGrounded (scene_of s.tells log before) (length log) x x.cause)
        (is_part s at old new job stands told behind (part_in next tx) b now_part got) caused)

  -- whatever it does
  by_doing : (d : Doing) → job.doing ≡ d → MayHand d asked → asked_at s job ≡ ask.End → AreGrounded (scene_of s.tells log behind)
  by_doing Idle is may nothing = none_judged (ap active_in is)
  by_doing (Active tx) is may nothing = one_judged tx (ap active_in is) (handed_runs (Active tx) asked tx may refl) nothing
  by_doing Starved is may nothing = none_judged (ap active_in is)
  by_doing (Ended end) is may nothing = none_judged (ap active_in is)

  -- all stays grounded
  pub handed_grounded : MayHand job.doing asked → asked_at s job ≡ ask.End → AreGrounded (scene_of s.tells log behind)
  handed_grounded may nothing = by_doing job.doing refl may nothing
