-- At a start nobody is active, and all is the plain machine's.
use Rattle.std.proofs.Common.{◌≡◌, ℕ, ◌+◌, List, [], ◌∷◌, length, get_or, zero, suc, refl, ap, sym, ◌∙◌, subst, arith, Some, None}
use Rattle.std.specs.Prelude.{map, replicate, slice_get}
use Rattle.xc_data.specs.Limits.{KeepsLimits}
use Rattle.xc_data.specs.declared.call.CallWithAnswer.{CallWithAnswer}
use Rattle.xc_data.specs.declared.object.Num.{Num}
use Rattle.xc_data.specs.declared.script.Opened.{Opened}
use Rattle.xc_data.specs.declared.script.Opened.TheVariants as line
use Rattle.xc_data.specs.declared.script.Outline.{Outline}
use Rattle.xc_host.specs.Contents.{Contents, contents_of, world_of, no_contents, opened}
use Rattle.xc_text.specs.declared.script.Script.{Script}
use Rattle.xc_world.specs.World.{World}
use Rattle.xc_world.specs.Opening.{bare_world, opening, with_opened, with_all_opened, opening_handles, line_num}
use Rattle.xc_world.proofs.Laws.{opening_sound}
use Rattle.xc_model.specs.Setting.{Setting}
use Rattle.xc_model.specs.Progress.{opening_progress, progress_of}
use Rattle.xc_model.specs.Consistent.{IsSet}
use Rattle.xc_model.specs.Opened.{IsOpening, opened_job}
use Rattle.xc_model.specs.Moment.{JobView, Moment, active_of, actives}
use Rattle.xc_flight.specs.State.{IsIdleSound}
use Rattle.xc_flight.proofs.Laws.{starts}
use Rattle.xc_refines.specs.InFlight.{AreInFlight, flown_jobs}
use Rattle.xc_refines.proofs.TurnParts.{Flying, flight_in, world_in, airfield}
use Rattle.xc_refines.proofs.TurnRows.{flies_so}

-- ---- what is opened
-- it depends on the contents alone
opened_alike : (w : World) (num : Num) (o : Opened) → contents_of (with_opened w num o) ≡ contents_of (with_opened (world_of (contents_of w)) num o)
opened_alike w num (line.File name bytes) = refl
opened_alike w num (line.Pipe bytes) = refl
opened_alike w num line.Pair = refl

all_alike : (w v : World) (k : ℕ) (objects : List Opened)
    → contents_of w ≡ contents_of v → contents_of (with_all_opened w k objects) ≡ contents_of (with_all_opened v k objects)
all_alike w v k [] same = same
all_alike w v k (o ∷ objects) same =
    all_alike (with_opened w (line_num k) o) (with_opened v (line_num k) o) (k + 1) objects
    (opened_alike w (line_num k) o ∙ ap (λ (c : Contents). contents_of (with_opened (world_of c) (line_num k) o)) same ∙ sym (opened_alike v (line_num k) o))

opening_contents : (script : Outline) → contents_of (opening script) ≡ opened script.prologue.objects
opening_contents script = all_alike (bare_world script) (world_of no_contents) 0 script.prologue.objects refl

-- no line changes a word or a job
abbrev SameStart : World → World → Type 0
SameStart w v = (v.words ≡ w.words) × (v.started ≡ w.started) × (v.blocks ≡ w.blocks)

one_base : (w : World) (num : Num) (o : Opened) → SameStart w (with_opened w num o)
one_base w num (line.File name bytes) = (refl, refl, refl)
one_base w num (line.Pipe bytes) = (refl, refl, refl)
one_base w num line.Pair = (refl, refl, refl)

all_base : (w : World) (k : ℕ) (objects : List Opened) → SameStart w (with_all_opened w k objects)
all_base w k [] = (refl, refl, refl)
all_base w k (o ∷ objects) =
    let one = one_base w (line_num k) o in
    let more = all_base (with_opened w (line_num k) o) (k + 1) objects in
    (more.0 ∙ one.0, more.1 ∙ one.1, more.2 ∙ one.2)

opening_base : (script : Outline) → SameStart (bare_world script) (opening script)
opening_base script = all_base (bare_world script) 0 script.prologue.objects

-- the world that a script opens with, from its words and its contents
opening_now : (script : Outline) → world_in (opening script) script.words (opened script.prologue.objects) script.jobs ≡ opening script
opening_now script =
    let w = opening script in
    ap (λ cs. world_in w script.words cs script.jobs) (sym (opening_contents script))
    ∙ (λ i. world_in w (sym (opening_base script).0 i) (contents_of w) (sym (opening_base script).1 i))

-- ---- the jobs
module _ (script : Script) where
  -- they are idle, and have the prologue's handles
  pub record IsFresh (job : JobView) : Type 0 where
    pub none : active_of job ≡ None
    pub handles : job.me.places ≡ opening_handles script.outline

  each_fresh : (names : List (List ℕ)) (at : ℕ) (job : JobView) → slice_get (map (opened_job script) names) at ≡ Some job → IsFresh job
  each_fresh [] at job e = cc e
  each_fresh (name ∷ names) zero job e =
      let is : opened_job script name ≡ job = cc e in
      subst IsFresh is (record { none = refl; handles = refl })
  each_fresh (name ∷ names) (suc at) job e = each_fresh names at job e

  none_active : (names : List (List ℕ)) → actives (map (opened_job script) names) ≡ []
  none_active [] = refl
  none_active (name ∷ names) = none_active names

  none_flies : (unnoted : ℕ → List CallWithAnswer) (names : List (List ℕ)) (at : ℕ) → get_or (flown_jobs unnoted (map (opened_job script) names)) at None ≡ None
  none_flies unnoted [] at = refl
  none_flies unnoted (name ∷ names) zero = refl
  none_flies unnoted (name ∷ names) (suc at) = none_flies (λ i. unnoted (suc i)) names at

  their_handles : (names : List (List ℕ)) → replicate (length names) (opening_handles script.outline) ≡ map (λ (job : JobView). job.me.places)
      (map (opened_job script) names)
  their_handles [] = refl
  their_handles (name ∷ names) = ap (λ hs. opening_handles script.outline ∷ hs) (their_handles names)

  their_blocks : (names : List (List ℕ)) → names ≡ map (λ (job : JobView). job.block) (map (opened_job script) names)
  their_blocks [] = refl
  their_blocks (name ∷ names) = ap (λ ns. name ∷ ns) (their_blocks names)

-- ---- the start
opening_flies : (s : Setting) → KeepsLimits s.script.outline
    → Flying s (opening_progress s.script) (airfield s.script.outline.words (opened s.script.outline.prologue.objects) s.script.outline.jobs
    (map (opened_job s.script) s.script.outline.jobs) 1)
opening_flies s limits =
    let script = s.script in
    let names = script.outline.jobs in
    let w = opening script.outline in
    let unnoted : ℕ → List CallWithAnswer = λ at. [] in
    let idle = none_flies script unnoted names in
    let sound : IsIdleSound w 1 (opening_handles script.outline) = λ m le. opening_sound script.outline limits m (omega (arith, le)) in
    record {
      unnoted = unnoted;
      was_asked = λ at job tx there active. tt;
      flies = starts (flight_in w (world_in w script.outline.words (opened script.outline.prologue.objects) script.outline.jobs) unnoted
          (map (opened_job script) names) 1) idle
          (opening_now script.outline) (λ m k le. (sound m le).new k (omega arith));
      sound = λ j t e. absurd (cc (idle j, e));
      idle = λ at job there none. subst (IsIdleSound w 1) (sym (each_fresh script names at job there).handles) sound;
      handles = their_handles script names;
      live = (opening_base script.outline).1 ∙ their_blocks script names;
      blocks = (opening_base script.outline).2;
      holds = λ at job tx there active. (let none = (each_fresh script names at job there).none in absurd (cc (none, active)));
    }

-- a start flies
pub start_flies : (s : Setting) (now : Moment) → IsSet s → KeepsLimits s.script.outline → IsOpening s.script now
    → now.contents ≡ opened s.script.outline.prologue.objects → AreInFlight s now
start_flies s now set limits o held =
    let many : length (actives now.jobs) ≡ 0 = ap (λ js. length (actives js)) o.jobs ∙ ap length (none_active s.script s.script.outline.jobs) in
    let entries : length now.journal ≡ 0 = ap length o.journal in
    flies_so s now (opening_progress s.script) s.script.outline.words (opened s.script.outline.prologue.objects) s.script.outline.jobs
    (map (opened_job s.script) s.script.outline.jobs) 1
    (ap (progress_of s.script) o.journal) o.words held o.started o.jobs (omega (arith, many, entries)) (opening_flies s limits)
