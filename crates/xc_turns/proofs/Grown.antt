-- More jobs, which have no transactions yet, after those of a station.
use Rattle.std.proofs.Common.{◌≡◌, ℕ, zero, suc, List, [], ◌∷◌, ◌++◌, map, refl, ap, sym, ◌∙◌, append-nil}
use Rattle.std.specs.declared.option.Option.TheVariants.{None}
use Rattle.std.proofs.lemmas.List.Elements.{filter_map-append}
use Rattle.xc_text.specs.declared.script.Script.{Script}
use Rattle.xc_model.specs.Moment.{TxView, JobView, active_of, actives}
use Rattle.xc_model.specs.Holding.{AreApart}
use Rattle.xc_model.specs.Words.{WordsAgree}
use Rattle.xc_model.specs.Movers.{IsActiveAt}
use Rattle.xc_model.specs.Entering.{started_job}
use Rattle.xc_turns.proofs.Jobs.{none_active}
use Rattle.xc_turns.proofs.Lists.{not_both}

-- none has an active transaction
abbrev pub AreIdle : List JobView → Type 0
AreIdle [] = Unit {0}
AreIdle (job ∷ more) = (active_of job ≡ None) × AreIdle more

-- jobs that were started
pub started_idle : (script : Script) (starter : JobView) (blocks : List (List ℕ)) → AreIdle (map (started_job script starter) blocks)
started_idle script starter [] = tt
started_idle script starter (block ∷ blocks) = (refl, started_idle script starter blocks)

-- in no place
pub idle_none : (more : List JobView) → AreIdle more → (j : ℕ) (tx : TxView) → IsActiveAt more j tx → ⊥
idle_none [] idle j tx (job, there, has) = cc
idle_none (x ∷ more) idle zero tx (job, there, has) =
    let same : x ≡ job = cc in
    not_both (active_of job) tx (ap active_of (sym same) ∙ idle.0) has
idle_none (x ∷ more) idle (suc j) tx (job, there, has) = idle_none more idle.1 j tx (job, there, has)

-- so all that are active were
pub grown_active : (jobs more : List JobView) → AreIdle more → (j : ℕ) (tx : TxView) → IsActiveAt (jobs ++ more) j tx → IsActiveAt jobs j tx
grown_active [] more idle j tx active = absurd (idle_none more idle j tx active)
grown_active (x ∷ jobs) more idle zero tx active = active
grown_active (x ∷ jobs) more idle (suc j) tx (job, there, has) =
    let was = grown_active jobs more idle j tx (job, there, has) in (was.0, was.1, was.2)

-- and still are
pub grown_still : (jobs more : List JobView) (j : ℕ) (tx : TxView) → IsActiveAt jobs j tx → IsActiveAt (jobs ++ more) j tx
grown_still [] more j tx (job, there, has) = cc
grown_still (x ∷ jobs) more zero tx active = active
grown_still (x ∷ jobs) more (suc j) tx (job, there, has) =
    let is = grown_still jobs more j tx (job, there, has) in (is.0, is.1, is.2)

-- the same ones are
pub grown_actives : (jobs more : List JobView) → AreIdle more → actives (jobs ++ more) ≡ actives jobs
grown_actives jobs more idle =
    filter_map-append active_of jobs more ∙ ap (λ ts. actives jobs ++ ts) (none_active more (idle_none more idle)) ∙ append-nil (actives jobs)

-- ---- what is true of the active ones stays
pub apart_grown : (jobs more : List JobView) → AreIdle more → AreApart jobs → AreApart (jobs ++ more)
apart_grown jobs more idle apart =
    record {
      together = λ i j t u ne a b. apart.together i j t u ne (grown_active jobs more idle i t a) (grown_active jobs more idle j u b);
      once = λ i t a. apart.once i t (grown_active jobs more idle i t a);
    }

-- and of the words
pub spoken_grown : (before words : List ℕ) (jobs more : List JobView) → AreIdle more → WordsAgree before words jobs → WordsAgree before words (jobs ++ more)
spoken_grown before words jobs more idle h =
    record {
      count = h.count;
      each = λ j tx a. h.each j tx (grown_active jobs more idle j tx a);
      written = λ word j tx lt w. h.written word j tx lt (record { active = grown_active jobs more idle j tx w.active; phase = w.phase; owns = w.owns });
      others = λ word lt none. h.others word lt
          (λ j tx w. none j tx (record { active = grown_still jobs more j tx w.active; phase = w.phase; owns = w.owns }));
    }
