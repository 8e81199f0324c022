-- A turn in which a transaction waits and marks another keeps each conflict and each revocation grounded.
use Rattle.std.proofs.Common.{◌≡◌, ◌≢◌, ◌⊎◌, inl, inr, ℕ, ◌+◌, Bool, List, length, get_or, refl, ap, sym, ◌∙◌, subst}
use Rattle.std.proofs.Common.{arith}
use Rattle.std.specs.Prelude.{Contains, Option, slice_get, slice_set, if◌then◌else◌}
use Rattle.std.specs.declared.option.Option.TheVariants.{None, Some}
use Rattle.std.proofs.lemmas.List.Elements.{Contains-append_right}
use borrow.Author.Tests.{eq-eqb, ne_eqb}
use mathlib.Core.Logic.{dite}
use native.Mathlib.Decide.{ℕ_discrete}
use Rattle.xc_data.specs.declared.claim.Claim.{Claim}
use Rattle.xc_data.specs.declared.entry.Mark.{Mark}
use Rattle.xc_script.specs.declared.ask.Ask.{Ask}
use Rattle.xc_model.specs.declared.phase.Phase.{Phase}
use Rattle.xc_model.specs.declared.phase.Phase.TheVariants.{Running, Committing, Undoing, Backing}
use Rattle.xc_model.specs.Setting.{Setting}
use Rattle.xc_model.specs.Moment.{TxView, JobView, Moment, revoked}
use Rattle.xc_model.specs.Movers.{IsActiveAt}
use Rattle.xc_model.specs.PlainSteps.{claims_at}
use Rattle.xc_model.specs.RunningRows.{mark_behind, marks_with}
use Rattle.xc_model.specs.Grounds.{Part, IsGrounded, AreGrounded, scene_of}
use Rattle.xc_model.specs.Joint.{entry_parts}
use Rattle.xc_model.specs.Stories.{StoriesHold, active_parts, part_under_way}
use Rattle.xc_model.specs.Stories.{cause_of_phase, reading, wanted_by}
use Rattle.xc_turns.proofs.Progressing.{parts_length}
use Rattle.xc_turns.proofs.HeldClaims.{covered_same}
use Rattle.xc_turns.proofs.GroundSteps.{Follows, ground_as, grounds_go_on}
use Rattle.xc_turns.proofs.GivenNumbers.{given_once}
use Rattle.xc_turns.proofs.Jobs.{active_same, active_was, alike_before}
use Rattle.xc_data.proofs.Laws.{get_set_same, get_set_other}
use Rattle.xc_turns.proofs.GroundReads.{part_read, part_there}
use Rattle.xc_turns.proofs.KindsOfTurns.{cause_on}
use Rattle.xc_turns.proofs.KindsOfTurns.{Stays}
use Rattle.xc_turns.proofs.GroundMoves.{by_now, here_before, rival_holds, asked_wants, met_listed}

marked_other : (marks : ℕ → Option Mark) (tx : TxView) (new : Mark) (n : ℕ) → (n ≡ tx.number → ⊥) → marks_with marks tx new n ≡ marks n
marked_other marks tx new n ne = ap (λ (b : Bool). if b then mark_behind tx.phase (marks n) new else marks n) (ne_eqb n tx.number ne)

marked_itself : (marks : ℕ → Option Mark) (tx : TxView) (new : Mark) (n : ℕ) → n ≡ tx.number → marks_with marks tx new n ≡ mark_behind tx.phase (marks n) new
marked_itself marks tx new n e = ap (λ (b : Bool). if b then mark_behind tx.phase (marks n) new else marks n) (eq-eqb n tx.number e)

-- a mark stays, or a running transaction takes the new one
mark_cases : (p : Phase) (kept : Option Mark) (new : Mark)
    → (mark_behind p kept new ≡ kept) ⊎ ((cause_of_phase (Some new) p ≡ Some (revoked new)) × (mark_behind p kept new ≡ Some new))
mark_cases Running None new = inr (refl, refl)
mark_cases Running (Some m) new = inl refl
mark_cases Committing kept new = inl refl
mark_cases (Undoing c) kept new = inl refl
mark_cases Backing None new = inr (refl, refl)
mark_cases Backing (Some m) new = inl refl

-- ---- one waits, and another is marked
module _ (s : Setting) (at : ℕ) (old new : Moment) (job : JobView) (stands : slice_get old.jobs at ≡ Some job)
    (told : StoriesHold s (length old.words) old.marks old.journal old.jobs) where
  abbrev words : ℕ
  words = length old.words

  abbrev log : List Part
  log = entry_parts s told.lasts old.journal

  abbrev before : List (Option Part)
  before = active_parts (reading s words old.marks) 1 old.jobs

  abbrev behind_of : (ℕ → Option Mark) → JobView → List (Option Part)
  behind_of marks behind = active_parts (reading s words marks) 1 (slice_set old.jobs at behind)

  module _ (k : Stays s at old job new) where
    abbrev rival : TxView
    rival = k.waits.met.rival.rival

    abbrev its_mark : Mark
    its_mark = record { object = k.object; by = k.tx.number; at = length old.journal }

    abbrev marks_behind : ℕ → Option Mark
    marks_behind = marks_with old.marks rival its_mark

    -- all transactions are as before
    active_still : (j : ℕ) (tx : TxView) → IsActiveAt (slice_set old.jobs at k.behind) j tx → IsActiveAt old.jobs j tx
    active_still = alike_before old.jobs at job k.behind stands (k.after ∙ sym k.before)

    abbrev part_at : (ℕ → Option Mark) → ℕ → JobView → TxView → Part
    part_at marks j there tx = part_under_way (reading s words marks) (j + 1) there tx

    old_part : (j : ℕ) (tx : TxView) → (a : IsActiveAt old.jobs j tx) → get_or before j None ≡ Some (part_at old.marks j a.0 tx)
    old_part j tx a = part_read s words old.marks old.jobs j a.0 (Some tx) a.1 a.2

    -- the job in this place stands before the same as before
    part_still : (j : ℕ) (tx : TxView) → part_at marks_behind j k.behind tx ≡ part_at marks_behind j job tx
    part_still j tx = ap (λ (a : Ask). record (part_at marks_behind j job tx) { wanted = wanted_by words tx a }) k.still

    new_part : (j : ℕ) (tx : TxView) → (a : IsActiveAt old.jobs j tx)
        → get_or (behind_of marks_behind k.behind) j None ≡ Some (part_at marks_behind j a.0 tx)
    new_part j tx a = dite (ℕ_discrete j at)
        (λ (here : j ≡ at).
        let was = active_was old.jobs at job stands tx (subst (λ n. IsActiveAt old.jobs n tx) here a) in
        let is_job : Some a.0 ≡ Some job = sym a.1 ∙ ap (slice_get old.jobs) here ∙ stands in
        let one : a.0 ≡ job = cc in
        let next : slice_get (slice_set old.jobs at k.behind) j ≡ Some k.behind =
        ap (slice_get (slice_set old.jobs at k.behind)) here ∙ get_set_same old.jobs at job k.behind stands in
        part_read s words marks_behind (slice_set old.jobs at k.behind) j k.behind (Some tx) next (k.after ∙ sym k.before ∙ was)
        ∙ ap Some (part_still j tx ∙ ap (λ (x : JobView). part_at marks_behind j x tx) (sym one)))
        (λ (away : j ≢ at).
        part_read s words marks_behind (slice_set old.jobs at k.behind) j a.0 (Some tx) (get_set_other old.jobs at j k.behind away ∙ a.1) a.2)

    -- the one that is marked
    rival_grounded : (there : JobView) → IsGrounded (scene_of s.tells log before) (length log)
        (part_at marks_behind k.waits.met.rival.place there rival) (Some (revoked its_mark))
    unfolding rival_holds
    rival_grounded there =
        let met = k.waits.met in
        let r = met.rival in
        let holds = r.holds in
        let early = by_now s at old new job stands told r.place rival r.active in
        let count = parts_length s told.lasts old.journal told.entries in
        let own = part_at old.marks at job k.tx in
        let claims = claims_at old k.tx k.waits.call in
        let wants = asked_wants s at old new job stands told job k.tx k.tx refl refl k.waits.call k.waits.asked in
        let listed : Contains own.wanted met.met =
        subst (λ (cs : List Claim). Contains cs met.met) (sym wants) (met_listed s at old new job stands told claims k.object k.holder met) in
        let other = r.other in
        record {
          before = omega arith;
          within = omega arith;
          named = record {
            who = own;
            present = inr (at, here_before s at old new job stands told (Some k.tx) k.before);
            numbered = refl;
            other = λ (e : at + 1 ≡ r.place + 1). other (let h : r.place ≡ at = omega arith in h);
            began = by_now s at old new job stands told at k.tx (job, stands, k.before);
          };
          older = k.waits.younger;
          holds = rival_holds s at old new job stands told met.met k.object k.holder met.names r;
          clash = λ t. (met.met, Contains-append_right own.held own.wanted met.met listed, holds.2);
        }

    marked_grounded : (j : ℕ) (there : JobView) (tx : TxView) → j ≡ k.waits.met.rival.place → tx ≡ rival
        → IsGrounded (scene_of s.tells log before) (length log) (part_at marks_behind j there tx) (Some (revoked its_mark))
    marked_grounded j there tx one is =
        subst (λ (x : TxView). IsGrounded (scene_of s.tells log before) (length log) (part_at marks_behind j there x) (Some (revoked its_mark))) (sym is)
        (subst (λ (n : ℕ). IsGrounded (scene_of s.tells log before) (length log) (part_at marks_behind n there rival) (Some (revoked its_mark)))
        (sym one) (rival_grounded there))

    -- all others are as before
    unmarked_grounded : (j : ℕ) (tx : TxView) → (active : IsActiveAt old.jobs j tx) → marks_behind tx.number ≡ old.marks tx.number
        → IsGrounded (scene_of s.tells log before) (length log) (part_at marks_behind j active.0 tx) (cause_of_phase (marks_behind tx.number) tx.phase)
    unmarked_grounded j tx active kept_mark =
        let there = active.0 in
        subst (λ m. IsGrounded (scene_of s.tells log before) (length log) (part_at marks_behind j there tx) (cause_of_phase m tx.phase)) (sym kept_mark)
        (ground_as s.tells log before (part_at old.marks j there tx) (part_at marks_behind j there tx) (cause_on old tx)
        (record { job = refl; rank = refl; began = refl; held = covered_same tx.held tx.held refl; wanted = λ t. refl })
        (told.grounded.actives j (part_at old.marks j there tx) (old_part j tx active)))

    pub stays_grounded : AreGrounded (scene_of s.tells log (behind_of marks_behind k.behind))
    stays_grounded = grounds_go_on s.tells log before (behind_of marks_behind k.behind) (record { kept = kept; fresh = fresh }) told.grounded
      where
        kept : (j : ℕ) (a : Part) → get_or before j None ≡ Some a
            → (b : Part) × Follows s.tells a b × (get_or (behind_of marks_behind k.behind) j None ≡ Some b)
        kept j a got =
            let (tx, (active, is)) = part_there s words old.marks old.jobs j a got in (
              part_at marks_behind j active.0 tx,
              subst (λ (x : Part). Follows s.tells x (part_at marks_behind j active.0 tx)) is
                  (record {
                    number = refl;
                    job = refl;
                    rank = refl;
                    began = refl;
                    held = covered_same tx.held tx.held refl;
                    reach = λ t. covered_same _ _ refl;
                  }),
              new_part j tx active,
            )

        by_number : (j : ℕ) (tx : TxView) → (active : IsActiveAt old.jobs j tx)
            → IsGrounded (scene_of s.tells log before) (length log) (part_at marks_behind j active.0 tx) (cause_of_phase (marks_behind tx.number) tx.phase)
        by_number j tx active = dite (ℕ_discrete tx.number rival.number)
            (λ (here : tx.number ≡ rival.number).
            let is = marked_itself old.marks rival its_mark tx.number here in
            elim (mark_cases rival.phase (old.marks tx.number) its_mark) [
              | inl kept_mark ↦ unmarked_grounded j tx active (is ∙ kept_mark)
              | inr new_mark ↦
                  let r = k.waits.met.rival in
                  let one : j ≡ r.place = given_once s words old.marks old.journal old.jobs told j r.place tx rival active r.active here in
                  let its : tx ≡ rival = active_same old.jobs r.place tx rival (subst (λ n. IsActiveAt old.jobs n tx) one active) r.active in
                  let why : cause_of_phase (marks_behind tx.number) tx.phase ≡ Some (revoked its_mark) =
                  ap (λ m. cause_of_phase m tx.phase) (is ∙ new_mark.1) ∙ ap (λ (x : TxView). cause_of_phase (Some its_mark) x.phase) its ∙ new_mark.0 in
                  subst (IsGrounded (scene_of s.tells log before) (length log) (part_at marks_behind j active.0 tx)) (sym why)
                  (marked_grounded j active.0 tx one its)
            ])
            (λ (away : tx.number ≢ rival.number). unmarked_grounded j tx active (marked_other old.marks rival its_mark tx.number away))

        fresh : (j : ℕ) (b : Part) → get_or (behind_of marks_behind k.behind) j None ≡ Some b → IsGrounded (scene_of s.tells log before) (length log) b b.cause
        fresh j b got =
            let (tx, (active, is)) = part_there s words marks_behind (slice_set old.jobs at k.behind) j b got in
            let was = active_still j tx active in
            let same : Some (part_at marks_behind j was.0 tx) ≡ Some b = sym (new_part j tx was) ∙ got in
            let whole : part_at marks_behind j was.0 tx ≡ b = cc in
            subst (λ (x : Part). IsGrounded (scene_of s.tells log before) (length log) x x.cause) whole (by_number j tx was)
