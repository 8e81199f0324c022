-- A job's place as it goes on from reply to reply.
use mathlib.Core.Logic.{inl, inr}
use Rattle.std.specs.Prelude.{◌≡◌, ℕ, ◌⊎◌, IsTrue, Bool, true, false, List, [], ◌∷◌, drop, unwrap_or, refl, Option}
use Rattle.std.specs.declared.option.Option.TheVariants.{None, Some}
use Rattle.std.specs.Coded.{Coded, code_by, coded×, coded⊎, coded_ℕ, coded_bool, coded_list, coded_option}
use Rattle.xc_maps.specs.Keys.{coded_name}
use Rattle.xc_script.specs.JobSlots.{Slots, coded_slots, no_slots}
use Rattle.xc_text.specs.declared.script.Script.{Script}
use Rattle.xc_text.specs.Stated.{Statement}
use Rattle.xc_script.specs.declared.answer.Target.{Target}
use Rattle.xc_script.specs.declared.answer.Target.TheVariants as target
use Rattle.xc_script.specs.declared.ask.Ask.{Ask}
use Rattle.xc_script.specs.declared.ask.Ask.TheVariants as ask
use Rattle.xc_script.specs.declared.value.Value.{Value}
use Rattle.xc_script.specs.declared.value.Value.TheVariants as value
use Rattle.xc_script.specs.Values.{Variables, Values}
use Rattle.xc_script.specs.Walks.{Walk, past_silent}
use Rattle.xc_script.specs.Ask.{Job, next_body}
use Rattle.xc_script.specs.Asking.{asks}
use Rattle.xc_script.specs.Answers.{target_of}

-- the block, the transaction and the statement in it; what the transaction has stored, and whether its last
-- call was refused; the variables there, those at the transaction's begin, and what they held at the save that is open
pub record Position : Type 0 where
  pub block : ℕ
  pub next : ℕ
  pub at : ℕ
  pub stored : ℕ
  pub refused : Bool
  pub variables : Variables
  pub begun : Variables
  pub saved : Option Values

-- ---- codes of values and of places
abbrev pub value_parts : Value → ℕ ⊎ (List ℕ ⊎ ℕ)
value_parts (value.Number n) = inl n
value_parts (value.Bytes bytes) = inr (inl bytes)
value_parts (value.Handle h) = inr (inr h)

-- the value of these parts
abbrev pub of_parts : ℕ ⊎ (List ℕ ⊎ ℕ) → Value
of_parts (inl n) = value.Number n
of_parts (inr (inl bytes)) = value.Bytes bytes
of_parts (inr (inr h)) = value.Handle h

-- a value is that of its parts
abbrev pub same_parts : (v : Value) → of_parts (value_parts v) ≡ v
same_parts (value.Number n) = refl
same_parts (value.Bytes bytes) = refl
same_parts (value.Handle h) = refl

-- a value's code, that of its parts
abbrev pub coded_value : Coded Value
coded_value = code_by (ℕ ⊎ (List ℕ ⊎ ℕ)) (coded⊎ coded_ℕ (coded⊎ coded_name coded_ℕ)) value_parts of_parts same_parts

-- the variables' code, that of their values and their slots
abbrev pub coded_variables : Coded Variables
coded_variables =
    code_by (Values × Slots) (coded× (coded_list (coded_option coded_value)) coded_slots)
    (λ v. (v.values, v.slots)) (λ p. record { values = p.0; slots = p.1 }) (λ _. refl)

-- a place's code, that of its fields as a tuple
abbrev pub coded_position : Coded Position
coded_position =
    code_by (ℕ × (ℕ × (ℕ × (ℕ × (Bool × (Variables × (Variables × Option Values)))))))
    (coded× coded_ℕ (coded× coded_ℕ (coded× coded_ℕ (coded× coded_ℕ (coded× coded_bool (coded× coded_variables
    (coded× coded_variables (coded_option (coded_list (coded_option coded_value))))))))))
    (λ p. (p.block, (p.next, (p.at, (p.stored, (p.refused, (p.variables, (p.begun, p.saved))))))))
    (λ p. record {
      block = p.0;
      next = p.1.0;
      at = p.1.1.0;
      stored = p.1.1.1.0;
      refused = p.1.1.1.1.0;
      variables = p.1.1.1.1.1.0;
      begun = p.1.1.1.1.1.1.0;
      saved = p.1.1.1.1.1.1.1;
    })
    (λ _. refl)

-- ---- what stands at a place
-- the job that stands there, were its transaction to begin there
abbrev pub job_of : Position → Job
job_of place = record { block = place.block; next = place.next; variables = place.variables }

-- the statements of its transaction from the place on
abbrev pub statements_left : Script → Position → List Statement
statements_left script place = drop place.at (unwrap_or (next_body script (job_of place)) [])

-- the transaction on its way there
abbrev pub walk_of : Script → Position → Walk
walk_of script place = past_silent place.variables place.stored place.refused (statements_left script place)

-- the place is where its walk is: no silent statement comes first
pub record IsPastSilent (script : Script) (place : Position) : Type 0 where
  pub variables : place.variables ≡ (walk_of script place).variables
  pub left : statements_left script place ≡ (walk_of script place).left

-- nothing is kept for an abort
abbrev pub nothing_kept : Variables
nothing_kept = record { values = []; slots = no_slots }

-- the variables at the begin, where what they held is kept; their slots are those of now, since only a commit changes them
abbrev pub kept_values : Option Values → Slots → Variables
kept_values None slots = nothing_kept
kept_values (Some values) slots = record { values = values; slots = slots }

-- a job before its next transaction: none has begun
abbrev pub at_begin : Job → Position
at_begin job =
    record {
      block = job.block;
      next = job.next;
      at = 0;
      stored = 0;
      refused = false;
      variables = job.variables;
      begun = nothing_kept;
      saved = None;
    }

-- the transaction asks a call
abbrev pub is_call_asked : Ask → Bool
is_call_asked (ask.Call call) = true
is_call_asked ask.Commit = false
is_call_asked ask.Abort = false
is_call_asked ask.End = false

-- a call is asked at this place
abbrev pub IsAskedCall : Script → Position → Type 0
IsAskedCall script place = IsTrue (is_call_asked (asks (walk_of script place)))

-- the variables that take the reply to what is asked, where some do
abbrev pub first_target : List Statement → Target
first_target [] = target.Nowhere
first_target (s ∷ rest) = target_of s

-- the variables that take the reply at this place, where some do
abbrev pub target_at : Script → Position → Target
target_at script place = first_target (walk_of script place).left
