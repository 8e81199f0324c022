-- Conflicts and revocations of which it isn't known which call met the holder: they don't depend on what was asked last.
use Rattle.std.proofs.Common.{◌≡◌, ◌∙◌, inl, inr, ℕ, ◌<◌, ◌≤◌, Bool, true, false, List, [], ◌∷◌, map, Option, None, Some, refl, ap, sym, subst}
use Rattle.std.specs.Prelude.{slice_get}
use Rattle.xc_data.specs.declared.entry.Cause.{Cause}
use Rattle.xc_data.specs.declared.entry.Cause.TheVariants as cause
use Rattle.xc_data.specs.declared.entry.Entry.{Entry}
use Rattle.xc_data.specs.declared.script.Outline.{Outline}
use Rattle.xc_data.proofs.Laws.{get_map}
use Rattle.xc_grounds.proofs.Laws.{of_image}
use Rattle.xc_model.specs.Asked.{ScriptJob, after_jobs}
use Rattle.xc_model.specs.Course.{Course, after_course, opening_course}
use Rattle.xc_model.specs.Grounds.{AreGrounded, Blame, Ground, HoldsObject, IsGrounded, IsPresent, Other, Part, Revocation, scene_of}
use Rattle.xc_model.specs.Machine.{AreMachineTrue, IsTrueOfMachine, Terms, machine_part, machine_parts}
use Rattle.xc_script.specs.declared.ask.Ask.{Ask}
use Rattle.xc_text.specs.declared.script.Script.{Script}
use Rattle.xc_check.specs.Fronts.{told_from}
use Rattle.xc_check.specs.TrueTexts.{IsTrueButForMet}

-- ---- what is known is forgotten
module _ (tells : Bool) (log : List Part) where
  loosened : (place : ℕ) (e : Part) (why : Option Cause) → IsGrounded (scene_of tells log []) place e why → IsGrounded (scene_of false log []) place e why
  loosened place e None h = tt
  loosened place e (Some cause.Asked) h = tt
  loosened place e (Some cause.NoMemory) h = tt
  loosened place e (Some (cause.Stuck failed)) h = tt
  loosened place e (Some (cause.Conflict object holder at)) h =
      let o = h.named in
      record {
        before = h.before;
        within = h.within;
        named = record { who = o.who; present = o.present; numbered = o.numbered; other = o.other; began = o.began };
        holds = h.holds;
        clash = λ known. (let wrong : false ≡ true = known in cc wrong);
      }
  loosened place e (Some (cause.Revoked object by at)) h =
      let o = h.named in
      record {
        before = h.before;
        within = h.within;
        named = record { who = o.who; present = o.present; numbered = o.numbered; other = o.other; began = o.began };
        older = h.older;
        holds = h.holds;
        clash = λ known. (let wrong : false ≡ true = known in cc wrong);
      }

  pub grounded_loosened : AreGrounded (scene_of tells log []) → AreGrounded (scene_of false log [])
  grounded_loosened h = record { entries = λ i e there. loosened i e e.cause (h.entries i e there); actives = λ j e there. cc there }

-- what is true of the machine is so but for which call met a holder
pub true_but_for_met : (t : Terms) (outline : Outline) (lasts : List Ask) (journal : List Entry) → IsTrueOfMachine t outline lasts journal
    → IsTrueButForMet t outline lasts journal
true_but_for_met t outline lasts journal h =
    record {
      entries = h.entries;
      numbers = h.numbers;
      begins = h.begins;
      grounded = grounded_loosened t.tells (machine_parts (opening_course outline) lasts journal) h.grounded;
    }

-- ---- what was asked last is forgotten
-- what a conflict is judged by, without that
abbrev unwanted : Part → Part
unwanted p = record p { wanted = [] }

module _ (log other : List Part) (alike : map unwanted log ≡ map unwanted other) where
  -- what stands in the one stands in the other
  found : (i : ℕ) (e : Part) → slice_get log i ≡ Some e → (f : Part) × (slice_get other i ≡ Some f) × (unwanted f ≡ unwanted e)
  found i e there =
      of_image unwanted other i (unwanted e) (ap (λ xs. slice_get xs i) (sym alike) ∙ get_map unwanted log i e there)

  moved_present : (at : ℕ) (who : Part) → IsPresent (scene_of false log []) at who
      → (f : Part) × IsPresent (scene_of false other []) at f × (unwanted f ≡ unwanted who)
  moved_present at who (inl (p, stands, later)) = let f = found p who stands in (f.0, inl (p, f.1, later), f.2)
  moved_present at who (inr (j, none)) = cc none

  -- the holder that is named
  record IsMoved (number at job : ℕ) (o : Other (scene_of false log []) number at job) : Type 0 where
    to : Other (scene_of false other []) number at job
    same : unwanted to.who ≡ unwanted o.who

  moved_other : (number at job : ℕ) (o : Other (scene_of false log []) number at job) → IsMoved number at job o
  moved_other number at job o =
      let f = moved_present at o.who o.present in
      record {
        to = record {
          who = f.0;
          present = f.1;
          numbered = ap (λ (p : Part). p.number) f.2 ∙ o.numbered;
          other = λ is. o.other (ap (λ (p : Part). p.job) (sym f.2) ∙ is);
          began = subst (λ (p : Part). p.began ≤ at) (sym f.2) o.began;
        };
        same = f.2;
      }

  -- one that is grounded by the one is so by the other
  moved : (place : ℕ) (e : Part) (why : Option Cause) → IsGrounded (scene_of false log []) place e why
      → IsGrounded (scene_of false other []) place (unwanted e) why
  moved place e None h = tt
  moved place e (Some cause.Asked) h = tt
  moved place e (Some cause.NoMemory) h = tt
  moved place e (Some (cause.Stuck failed)) h = tt
  moved place e (Some (cause.Conflict object holder at)) h =
      let m = moved_other holder at e.job h.named in
      record {
        before = h.before;
        within = h.within;
        named = m.to;
        holds = subst (λ (p : Part). HoldsObject p.held object) (sym m.same) h.holds;
        clash = λ known. (let wrong : false ≡ true = known in cc wrong);
      }
  moved place e (Some (cause.Revoked object by at)) h =
      let m = moved_other by at e.job h.named in
      record {
        before = h.before;
        within = h.within;
        named = m.to;
        older = subst (λ (p : Part). p.rank < e.rank) (sym m.same) h.older;
        holds = h.holds;
        clash = λ known. (let wrong : false ≡ true = known in cc wrong);
      }

  -- and by what it was asked last nothing changes
  wanted_again : (place : ℕ) (e : Part) (why : Option Cause) → IsGrounded (scene_of false other []) place (unwanted e) why
      → IsGrounded (scene_of false other []) place e why
  wanted_again place e None h = tt
  wanted_again place e (Some cause.Asked) h = tt
  wanted_again place e (Some cause.NoMemory) h = tt
  wanted_again place e (Some (cause.Stuck failed)) h = tt
  wanted_again place e (Some (cause.Conflict object holder at)) h =
      record {
        before = h.before;
        within = h.within;
        named = h.named;
        holds = h.holds;
        clash = λ known. (let wrong : false ≡ true = known in cc wrong);
      }
  wanted_again place e (Some (cause.Revoked object by at)) h =
      record {
        before = h.before;
        within = h.within;
        named = h.named;
        older = h.older;
        holds = h.holds;
        clash = λ known. (let wrong : false ≡ true = known in cc wrong);
      }

  grounded_there : (i : ℕ) (f : Part) (e : Part) → unwanted e ≡ unwanted f → IsGrounded (scene_of false log []) i e e.cause
      → IsGrounded (scene_of false other []) i f f.cause
  grounded_there i f e same h =
      wanted_again i f f.cause
      (subst (λ (p : Part). IsGrounded (scene_of false other []) i p p.cause) same (moved i e e.cause h))

-- lists that differ in nothing else are grounded alike
grounded_alike : (log other : List Part) → map unwanted log ≡ map unwanted other → AreGrounded (scene_of false log [])
    → AreGrounded (scene_of false other [])
grounded_alike log other alike h =
    record {
      entries = λ i f there.
          let e = found other log (sym alike) i f there in
          grounded_there log other alike i f e.0 e.2 (h.entries i e.0 e.1);
      actives = λ j e there. cc there;
    }

-- what conflicts are judged by differs in nothing else
parts_alike_but : (t : Terms) (script : Script) (c : Course) (jobs : List ScriptJob) (lasts : List Ask) (journal : List Entry)
    → AreMachineTrue t c lasts journal
    → map unwanted (machine_parts c lasts journal) ≡ map unwanted (machine_parts c (told_from script jobs journal) journal)
parts_alike_but t script c jobs lasts [] h = refl
parts_alike_but t script c jobs [] (e ∷ journal) h = absurd h
parts_alike_but t script c jobs (last ∷ lasts) (e ∷ journal) h =
    ap (λ (ps : List Part). unwanted (machine_part c.state last e) ∷ ps)
    (parts_alike_but t script (after_course c e) (after_jobs script jobs e) lasts journal h.1)

-- so what is grounded with what was asked last is so with what is told
pub grounded_told : (t : Terms) (script : Script) (c : Course) (jobs : List ScriptJob) (lasts : List Ask) (journal : List Entry)
    → AreMachineTrue t c lasts journal → AreGrounded (scene_of false (machine_parts c lasts journal) [])
    → AreGrounded (scene_of false (machine_parts c (told_from script jobs journal) journal) [])
grounded_told t script c jobs lasts journal h =
    grounded_alike (machine_parts c lasts journal) (machine_parts c (told_from script jobs journal) journal)
    (parts_alike_but t script c jobs lasts journal h)
