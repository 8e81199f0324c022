-- A turn in which an entry comes keeps each conflict and each revocation grounded.
use Rattle.std.proofs.Common.{◌≡◌, ◌≢◌, ◌⊎◌, inl, inr, ℕ, ◌+◌, ◌<◌, ◌≤◌, List, [], ◌∷◌, ◌++◌, length, get_or, refl, ap, sym, ◌∙◌, subst}
use Rattle.std.proofs.Common.{arith, length-set}
use Rattle.std.specs.Prelude.{IsTrue, Option, slice_get, slice_set}
use Rattle.std.specs.declared.option.Option.TheVariants.{None, Some}
use Rattle.std.proofs.lemmas.Option.{slice_get_cases}
use Rattle.xc_data.specs.declared.claim.Claim.{Claim}
use Rattle.xc_data.specs.declared.entry.Entry.{Entry}
use Rattle.xc_data.specs.declared.entry.Mark.{Mark}
use Rattle.xc_script.specs.declared.ask.Ask.{Ask}
use Rattle.xc_model.specs.Setting.{Setting}
use Rattle.xc_model.specs.Moment.{TxView, JobView, Moment, unmarked}
use Rattle.xc_model.specs.Movers.{IsActiveAt, asked_at}
use Rattle.xc_model.specs.Entering.{entry_of}
use Rattle.xc_model.specs.Grounds.{Part, AreGrounded, scene_of}
use Rattle.xc_model.specs.Progress.{Progress, progress_of}
use Rattle.xc_model.specs.Joint.{part_of, entry_parts}
use Rattle.xc_model.specs.Played.{IsPlayedSoFar, ran_behind}
use Rattle.xc_model.specs.Stories.{StoriesHold, active_parts, part_under_way}
use Rattle.xc_model.specs.Stories.{Reading, wanted_by, reading, scene_at}
use Rattle.xc_turns.proofs.Lists.{get_front, get_inside}
use Rattle.xc_data.proofs.Laws.{get_set_same, get_set_other}
use Rattle.xc_turns.proofs.Progressing.{parts_more}
use Rattle.xc_turns.proofs.HeldClaims.{covered_same}
use Rattle.xc_turns.proofs.GroundSteps.{grounds_enter}
use Rattle.xc_turns.proofs.GivenNumbers.{given_once}
use Rattle.xc_turns.proofs.Jobs.{active_before}
use Rattle.xc_turns.proofs.GroundReads.{part_read, part_there, part_elsewhere, wanted_same}
use Rattle.xc_turns.proofs.Grown.{grown_active}
use Rattle.xc_turns.proofs.KindsOfTurns.{EntersJournal}
use Rattle.xc_turns.proofs.GroundMoves.{here_before, unmarked_other}

-- all conflicts and revocations of these entries and jobs are grounded
abbrev pub AreAllGrounded : Reading → List Ask → List Entry → List JobView → Type 0
AreAllGrounded r lasts journal jobs = AreGrounded (scene_at r lasts journal jobs)

none_or : (o : Option Part) → ((a : Part) → o ≡ Some a → ⊥) → o ≡ None
none_or None none = refl
none_or (Some a) none = absurd (none a refl)

-- ---- an active one enters
module _ (s : Setting) (at : ℕ) (old new : Moment) (job : JobView) (stands : slice_get old.jobs at ≡ Some job)
    (told : StoriesHold s (length old.words) old.marks old.journal old.jobs) where
  abbrev words : ℕ
  words = length old.words

  abbrev led : Progress
  led = progress_of s.script old.journal

  -- what its job was asked last
  abbrev last : Ask
  last = asked_at s job

  abbrev log : List Part
  log = entry_parts s told.lasts old.journal

  abbrev before : List (Option Part)
  before = active_parts (reading s words old.marks) 1 old.jobs

  abbrev part_here : (ℕ → Option Mark) → TxView → Part
  part_here marks tx = part_under_way (reading s words marks) (at + 1) job tx

  module _ (k : EntersJournal at old job new)
      (played : IsTrue s.tells → (tx : TxView) → (is : IsActiveAt old.jobs at tx) → IsPlayedSoFar (asked_at s is.0) words led at tx) where
    abbrev entry : Entry
    entry = entry_of k.tx at k.outcome

    abbrev jobs_on : List JobView
    jobs_on = slice_set old.jobs at k.behind ++ k.more

    abbrev behind_entry : List (Option Part)
    behind_entry = active_parts (reading s words (unmarked old.marks k.tx.number)) 1 jobs_on

    gone : get_or behind_entry at None ≡ None
    gone =
        part_read s words (unmarked old.marks k.tx.number) jobs_on at k.behind None
        (get_front (slice_set old.jobs at k.behind) k.more at k.behind (get_set_same old.jobs at job k.behind stands)) k.after

    was_active : (j : ℕ) (tx : TxView) → j ≢ at → IsActiveAt jobs_on j tx → IsActiveAt old.jobs j tx
    was_active j tx away active = active_before old.jobs at j k.behind tx away (grown_active (slice_set old.jobs at k.behind) k.more k.idle j tx active)

    elsewhere : (j : ℕ) → j ≢ at → get_or behind_entry j None ≡ get_or before j None
    elsewhere j away = by_cases (slice_get_cases old.jobs j).1
      where
        by_cases : ((x : JobView) × (j < length old.jobs) × (slice_get old.jobs j ≡ Some x) × (get_or old.jobs j x ≡ x))
            ⊎ ((length old.jobs ≤ j) × (slice_get old.jobs j ≡ None))
            → get_or behind_entry j None ≡ get_or before j None
        by_cases (inl there) =
            let low = there.1 in
            let many = length-set old.jobs at k.behind in
            part_elsewhere s words old.marks (unmarked old.marks k.tx.number) old.jobs jobs_on j
            (get_inside (slice_set old.jobs at k.behind) k.more j (omega (arith, low, many)) ∙ get_set_other old.jobs at j k.behind away)
            (λ tx active. unmarked_other old.marks k.tx.number tx.number
            (λ e. away (given_once s words old.marks old.journal old.jobs told j at tx k.tx active (job, stands, k.before) e)))
        by_cases (inr past) =
            none_or (get_or behind_entry j None)
            (λ a got. let (tx, (active, is)) = part_there s words (unmarked old.marks k.tx.number) jobs_on j a got in
            not_there tx (was_active j tx away active))
            ∙ sym (none_or (get_or before j None)
            (λ a got. let (tx, (active, is)) = part_there s words old.marks old.jobs j a got in not_there tx active))
          where
            not_there : (tx : TxView) → IsActiveAt old.jobs j tx → ⊥
            not_there tx (x, there, has) = let none = past.1 in cc (none, there)

    -- where the host tells, the entry wants what the transaction did
    entry_wants : IsTrue s.tells → (part_of led last entry).wanted ≡ wanted_by words k.tx last
    entry_wants t =
        let so_far = played t k.tx (job, stands, k.before) in
        wanted_same (ran_behind led at k.tx) words k.tx last so_far.me so_far.count

    entry_grounded : AreGrounded (scene_of s.tells (log ++ part_of led last entry ∷ []) behind_entry)
    entry_grounded =
        grounds_enter s.tells log before behind_entry at (part_here old.marks k.tx) (part_of led last entry)
        (record {
          before = here_before s at old new job stands told (Some k.tx) k.before;
          after = gone;
          others = elsewhere;
          follows = record {
            number = refl;
            job = refl;
            rank = refl;
            began = refl;
            held = covered_same k.tx.held k.tx.held refl;
            reach = λ t. covered_same _ _ (ap (λ (cs : List Claim). k.tx.held ++ cs) (entry_wants t));
          };
          judged = record { job = refl; rank = refl; began = refl; held = covered_same k.tx.held k.tx.held refl; wanted = entry_wants };
          cause = k.why;
        })
        told.grounded

    pub enters_grounded : AreAllGrounded (reading s words (unmarked old.marks k.tx.number)) (told.lasts ++ last ∷ []) (old.journal ++ entry ∷ []) jobs_on
    enters_grounded =
        subst (λ (ps : List Part). AreGrounded (scene_of s.tells ps behind_entry)) (sym (parts_more s told.lasts old.journal last entry told.entries))
        entry_grounded
