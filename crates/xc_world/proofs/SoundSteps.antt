-- What keeps a private state sound, and what a call leaves.
use Rattle.std.proofs.Common.{◌≡◌, ◌⊎◌, inl, inr, ℕ, ◌+◌, ◌≤◌, ◌<◌, Bool, true, List, [], ◌∷◌, length, zero, suc, ap, sym, subst, refl, arith}
use Rattle.std.specs.Prelude.{slice_set}
use Rattle.xc_data.specs.declared.object.Num.{Num}
use Rattle.xc_data.specs.declared.call.Reply.{Reply}
use Rattle.xc_data.specs.declared.call.Reply.TheVariants as reply
use Rattle.xc_data.specs.declared.private.Place.{Place}
use Rattle.xc_data.specs.declared.private.Private.{Private}
use Rattle.xc_data.specs.Private.{place_of, with_place}
use Rattle.xc_world.specs.World.{World}
use Rattle.xc_world.specs.Sound.{IsFit, IsKnown, IsSound}
use Rattle.xc_world.specs.Act.Step.{Stepped, step_to, storing}
use Rattle.xc_world.specs.Act.Names.{next_num, making}
use Rattle.xc_world.proofs.SoundParts.{Keeps, Adds, fit_keeps_itself, keeps_all}

-- ---- a private state that became another
-- what stands at a handle after one place is set
pub place_of-set : (places : List Place) (h k : ℕ) (p : Place)
    → (place_of (slice_set places h p) k ≡ p) ⊎ (place_of (slice_set places h p) k ≡ place_of places k)
place_of-set [] h k p = inr refl
place_of-set (q ∷ places) zero zero p = inl refl
place_of-set (q ∷ places) zero (suc k) p = inr refl
place_of-set (q ∷ places) (suc h) zero p = inr refl
place_of-set (q ∷ places) (suc h) (suc k) p = place_of-set places h k p

-- a known place is set at a handle
pub with_place_sound : (w : World) (me : Private) (tx h : ℕ) (p : Place) → IsKnown w p → IsSound w me tx → IsSound w (with_place me h p) tx
with_place_sound w me tx h p known s =
    record {
      world = s.world;
      made = s.made;
      stored = s.stored;
      new = s.new;
      handles = λ k. elim (place_of-set me.places h k p) [
        | inl is ↦ subst (IsKnown w) (sym is) known
        | inr is ↦ subst (IsKnown w) (sym is) (s.handles k)
      ];
    }

-- bytes are stored within the limit
pub storing_sound : (w : World) (me : Private) (tx n : ℕ) → me.stored + n ≤ 16384 → IsSound w me tx → IsSound w (storing me n) tx
storing_sound w me tx n le s = record { world = s.world; made = s.made; stored = le; new = s.new; handles = s.handles }

-- the world becomes one that keeps its objects and what is free
pub kept_sound : {there : Bool} (w v : World) (me : Private) (tx : ℕ) → Keeps there w v → there ≡ true → IsSound w me tx → IsSound v me tx
kept_sound w v me tx keeps there s =
    record {
      world = keeps.fit;
      made = s.made;
      stored = s.stored;
      new = λ k le. keeps.free there (record { tx = tx; k = k }) (s.new k le);
      handles = λ h. keeps.known (place_of me.places h) (s.handles h);
    }

-- the next object is made
pub made_sound : (w v : World) (me : Private) (tx : ℕ) → Adds w v (next_num me tx) → me.made < 16 → IsSound w me tx → IsSound v (making me) tx
made_sound w v me tx adds le s =
    record {
      world = adds.fit;
      made = omega arith;
      stored = s.stored;
      new =
          λ k more. adds.free (record { tx = tx; k = k }) (λ e. let same : k ≡ me.made = ap (λ (n : Num). n.k) e in absurd (omega arith))
          (s.new k (omega arith));
      handles = λ h. adds.known (place_of me.places h) (s.handles h);
    }

-- ---- what a call leaves: all sound, nothing stored yet, at most so many bytes in the reply
abbrev pub got_length : Reply → ℕ
got_length (reply.Got bytes) = length bytes
got_length _ = 0

-- a step leaves all sound, takes at most the next number, stores nothing yet and replies at most n bytes
pub record StepsWell (w : World) (tx : ℕ) (me : Private) (n : ℕ) (s : Stepped) : Type 0 where
  pub sound : IsSound s.world s.me tx
  pub grows : Adds w s.world (next_num me tx)
  pub stored : s.me.stored ≡ me.stored
  pub got : got_length s.reply ≤ n

-- a fit world that stays adds nothing
pub adds_nothing : (w : World) (num : Num) → IsFit w → Adds w w num
adds_nothing w num fit = keeps_all w w num (fit_keeps_itself true w fit) refl

-- a call that changes nothing steps well
pub quiet : (w : World) (me : Private) (tx n : ℕ) (r : Reply) → got_length r ≤ n → IsSound w me tx → StepsWell w tx me n (step_to w me r)
quiet w me tx n r le s = record { sound = s; grows = adds_nothing w (next_num me tx) s.world; stored = refl; got = le }
