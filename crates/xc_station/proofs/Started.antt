-- A station before its first turn.
use Rattle.std.proofs.lemmas.List.Elements.{All-head, All-nil, All-tail}
use Rattle.std.proofs.lemmas.List.Sums.{sum_by-cons}
use Rattle.std.proofs.Common.{◌≡◌, ℕ, ◌≤◌, List, [], ◌∷◌, length, map, All, refl, ap, sym, ◌∙◌, subst, arith, IsTrue}
use Rattle.std.proofs.lemmas.List.{length-map}
use Rattle.std.specs.Prelude.{slice_get, zero, suc}
use Rattle.std.specs.declared.option.Option.TheVariants.{None, Some}
use Rattle.xc_data.specs.Limits.{KeepsLimits}
use Rattle.xc_data.specs.declared.object.Object.{Object}
use Rattle.xc_data.specs.declared.entry.JobLine.{JobLine}
use Rattle.xc_data.specs.declared.entry.KeptItem.{KeptItem}
use Rattle.xc_host.specs.Contents.{Contents, opened}
use Rattle.xc_roomy.specs.Room.{Roomy}
use Rattle.xc_text.specs.declared.script.Script.{Script}
use Rattle.xc_text.specs.Scripts.{IsScript}
use Rattle.xc_text.proofs.Laws.{blocks_count}
use Rattle.xc_sentinel.specs.Seating.{seat_in}
use Rattle.xc_locks.specs.Table.{held_mode}
use Rattle.xc_model.specs.Setting.{Setting}
use Rattle.xc_model.specs.Moment.{TxView, JobView, Moment, active_of, actives}
use Rattle.xc_model.specs.Opened.{IsOpening, opened_job}
use Rattle.xc_model.specs.Consistent.{IsSet, IsConsistent}
use Rattle.xc_turns.proofs.Laws.{start_kept}
use Rattle.xc_refines.proofs.Laws.{start_flies}
use Rattle.xc_station.specs.declared.calls.Shared.{Shared}
use Rattle.xc_station.specs.declared.job.Job.{Job}
use Rattle.xc_station.specs.Jobs.{HasChildren, child_view, job_view, job_views, started_in}
use Rattle.xc_station.specs.Lent.{AreBacked, IsBacked, notes_in_all, notes_of}
use Rattle.xc_station.specs.Moments.{seated_as}
use Rattle.xc_station.specs.Stations.{IsSteady, HasRooms}

-- no job is active at its begin
none_begun : (script : Script) (blocks : List (List ℕ)) → actives (map (opened_job script) blocks) ≡ []
none_begun script [] = refl
none_begun script (b ∷ blocks) = none_begun script blocks

none_there : (script : Script) (blocks : List (List ℕ)) (j : ℕ) (tx : TxView) (job : JobView) → slice_get (map (opened_job script) blocks) j ≡ Some job
    → active_of job ≡ Some tx → ⊥
none_there script [] j tx job at is = cc
none_there script (b ∷ blocks) zero tx job at is =
    let there : opened_job script b ≡ job = cc in
    let no : None ≡ Some tx = ap active_of there ∙ is in
    cc
none_there script (b ∷ blocks) (suc j) tx job at is = none_there script blocks j tx job at is

-- nothing waits with them
pub each_opened : (script : Script) (blocks : List (List ℕ)) (jobs : List Job) → job_views jobs ≡ map (opened_job script) blocks
    → All (λ (job : Job). job.children.items ≡ []) jobs → (at : ℕ) (job : Job) → slice_get jobs at ≡ Some job → HasChildren script job
each_opened script blocks [] are none at job is = cc is
each_opened script [] (x ∷ jobs) are none at job is = cc are
each_opened script (b ∷ blocks) (x ∷ jobs) are none zero job is =
    let first : job_view x ≡ opened_job script b = cc are in
    let one : x ≡ job = cc is in
    subst (HasChildren script) one
    (ap (map child_view) (All-head (λ (j : Job). j.children.items ≡ []) x jobs none)
    ∙ sym (ap (λ (j : JobView). started_in script (job_view x) j.doing) first))
each_opened script (b ∷ blocks) (x ∷ jobs) are none (suc at) job is =
    let rest : job_views jobs ≡ map (opened_job script) blocks = cc are in
    each_opened script blocks jobs rest (All-tail (λ (j : Job). j.children.items ≡ []) x jobs none) at job is

-- what is true of it
pub steady_at_start : (s : Setting) (faults : ℕ) (now : Moment) → IsSet s → KeepsLimits s.script.outline → IsOpening s.script now → now.faults ≡ faults
    → (IsTrue s.tells → now.contents ≡ opened s.script.outline.prologue.objects) → IsSteady s faults now
steady_at_start s faults now set limits opening counted told =
    let blocks = limits.blocks in
    let few : length s.script.outline.jobs ≤ 1000 = omega (arith, blocks) in record {
      set = set;
      kept = subst (λ n. IsConsistent s n now) counted (start_kept s now few opening);
      flying = λ tells. start_flies s now set limits opening (told tells);
    }

-- nothing is taken at its begin
none_noted : (script : Script) (blocks : List (List ℕ)) → notes_in_all (map (opened_job script) blocks) ≡ 0
none_noted script [] = refl
none_noted script (b ∷ blocks) =
    let more = none_noted script blocks in
    let first = sum_by-cons notes_of (opened_job script b) (map (opened_job script) blocks) in
    omega (arith, first, more)

-- and its rooms
pub roomy : {H : Type 0} (script : Script) (shared : Shared H) (spare : ℕ) (now : Moment) (lines : Roomy JobLine) → IsScript script → IsOpening script now
    → ((n : ℕ) (o : Object) → held_mode shared.sentinels.claims n o ≡ None) → ((n : ℕ) → seat_in shared.sentinels.seats n ≡ None)
    → lines.items ≡ [] → shared.buffers.noted ≡ 0 → HasRooms shared 0 spare now lines
roomy script shared spare now lines read opening empty nobody none unlent =
    let blocks = script.outline.jobs in
    let few : length blocks ≤ 1000 = omega (arith, read.few_blocks, blocks_count script read.named) in
    record {
      claims = λ o. record {
        held = λ j tx active. absurd (none_there script blocks j tx active.0 (ap (λ jobs. slice_get jobs j) (sym opening.jobs) ∙ active.1) active.2);
        known = λ n mode holds. absurd (let no : None ≡ Some mode = sym (empty n o) ∙ holds in let bad : ⊥ = cc in bad);
      };
      seats = record {
        held = λ j tx active. absurd (none_there script blocks j tx active.0 (ap (λ jobs. slice_get jobs j) (sym opening.jobs) ∙ active.1) active.2);
        known = λ n x holds. absurd (let no : None ≡ Some x = sym (ap seated_as (nobody n)) ∙ holds in let bad : ⊥ = cc in bad);
      };
      noted = ap notes_in_all opening.jobs ∙ none_noted script blocks ∙ sym unlent;
      few = subst (λ (n : ℕ). n ≤ 1000) (sym (ap length opening.jobs ∙ length-map blocks (opened_job script))) few;
      count = ap (λ jobs. length (actives jobs)) opening.jobs ∙ ap length (none_begun script blocks);
      room = omega arith;
      none = none;
    }

-- and nothing is kept, or taken
pub backed_at_start : (script : Script) (c : Contents) (kept : List KeptItem) (jobs : List JobView) → jobs ≡ map (opened_job script) script.outline.jobs
    → kept ≡ [] → AreBacked c kept jobs
backed_at_start script c kept jobs opened none =
    record {
      kept = subst (All (IsBacked c)) (sym none) (All-nil (IsBacked c));
      taken = λ j tx active. absurd (none_there script script.outline.jobs j tx active.0 (ap (λ js. slice_get js j) (sym opened) ∙ active.1) active.2);
    }
