-- What stands beside a step: data that is given back to objects which it doesn't speak of.
use Rattle.std.specs.Prelude.{ℕ, ◌++◌, Bool, List, All, Contains}
use Rattle.xc_data.specs.declared.object.Object.{Object}
use Rattle.xc_data.specs.declared.call.Call.{Call}
use Rattle.xc_data.specs.Calls.{traits}
use Rattle.xc_data.specs.declared.private.Private.{Private}
use Rattle.xc_data.specs.declared.entry.KeptItem.{KeptItem}
use Rattle.xc_world.specs.Act.Step.{Stepped, step_to}
use Rattle.xc_world.specs.Late.{Ended, ends}
use Rattle.xc_world.specs.Touch.{touch, made_by}
use Rattle.xc_world.specs.Run.{item_object, given_back}

-- none of these items is of one of these objects
abbrev pub AreElsewhere : List Object → List KeptItem → Type 0
AreElsewhere objects items = All (λ item. Contains objects (item_object item) → ⊥) items

-- the objects that a call speaks of, over so many words: what it touches, and what it makes
abbrev pub spoken_of : Call → Private → ℕ → ℕ → List Object
spoken_of call me tx words = touch call me words ++ made_by call me tx

-- a step, with these items given back in its world
abbrev pub with_given : Stepped → List KeptItem → Stepped
with_given s items = step_to (given_back s.world items) s.me s.reply

-- a late call's end, with these items given back in its world
abbrev pub end_with_given : Ended → List KeptItem → Ended
end_with_given e items = ends (given_back e.world items) e.end

-- a call on pipes or on pairs
abbrev pub is_on_data : Call → Bool
is_on_data call = (traits call).is_on_data
