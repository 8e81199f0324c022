-- The replies of an entry, by its body that is run again.
use Rattle.std.proofs.Common.{◌≡◌, ℕ, ◌≤◌, Bool, length, List, refl, ap, sym, ◌∙◌, subst}
use Rattle.std.specs.Bool.{Decides}
use Rattle.std.specs.Prelude.{All}
use Rattle.xc_data.specs.declared.call.LateCall.{LateCall}
use Rattle.xc_data.specs.declared.call.LateEnd.{LateEnd}
use Rattle.xc_script.specs.Blocks.{kept_calls}
use Rattle.xc_data.specs.Claims.{held_of}
use Rattle.xc_data.specs.declared.call.Call.{Call}
use Rattle.xc_data.specs.declared.call.Reply.{Reply}
use Rattle.xc_data.specs.declared.entry.Entry.{Entry}
use Rattle.xc_data.specs.declared.private.Place.{Place}
use Rattle.xc_data.specs.declared.private.Private.{Private}
use Rattle.xc_world.specs.Run.{BodyResult, asked_of, body}
use Rattle.xc_world.specs.Sound.{IsReady, IsSound}
use Rattle.xc_world.specs.World.{State, World}
use Rattle.xc_machine.specs.Replay.{AreEnded, AreReplayed}
use Rattle.xc_judge.specs.declared.basis.Basis.{Basis}
use Rattle.xc_model.specs.Course.{Course, Standing}
use Rattle.xc_model.specs.Machine.{HasLateEnds, HasReplies}
use Rattle.xc_model.specs.Progress.{body_of, private_of}
use Rattle.xc_model.specs.Recorded.{AreFewFaults, no_records}
use Rattle.xc_judge.specs.Judged.{telling_terms}
use Rattle.xc_judge.specs.Ran.{IsRan}
use Rattle.xc_judge.specs.declared.ran.Ran.{Ran}
use Rattle.xc_judge.proofs.Committing.{commit_from_lates, ended_from, course_of, played_from, replayed_from}
use Rattle.xc_judge.proofs.PlainReplies.{replies_in_time, word_replies}

module _ (basis : Basis) (w : World) (hs : List (List Place)) (js : List Standing) (n : ℕ) (e : Entry) where
  -- the entry's private state at its begin
  abbrev pub begun_private : Private
  begun_private = private_of (record { world = w; handles = hs }) e.job

  -- a body that is replayed with few faults has the replies that it says
  pub has_replies : AreReplayed w begun_private e.tx e.calls e.replies → AreFewFaults basis.rules.undo_tries no_records e.calls e.replies
      → HasReplies (telling_terms basis) (course_of w hs js n) e
  has_replies all few =
      record {
        words = word_replies w begun_private e.tx e.calls e.replies all;
        in_time = replies_in_time w begun_private e.tx e.calls e.replies all;
        faults = few;
        played = λ _. played_from (record { world = w; handles = hs }) e all;
      }

  -- and the other way round
  pub replayed_so : HasReplies (telling_terms basis) (course_of w hs js n) e → AreReplayed w begun_private e.tx e.calls e.replies
  replayed_so has = replayed_from (record { world = w; handles = hs }) e (has.played refl)

module _ (s : State) (e : Entry) where
  -- what the code has of the entry
  pub record Same (w : World) (me : Private) (calls : List Call) (replies : List Reply) : Type 0 where
    pub world : w ≡ s.world
    pub begins : me ≡ private_of s e.job
    pub calls_are : calls ≡ e.calls
    pub replies_are : replies ≡ e.replies

module _ (s : State) (e : Entry) (w : World) (me : Private) (calls : List Call) (replies : List Reply) (so : Same s e w me calls replies) where
  -- replayed as the code has it, and as the entry says
  pub replayed_there : AreReplayed w me e.tx calls replies → AreReplayed s.world (private_of s e.job) e.tx e.calls e.replies
  replayed_there all =
      subst (λ z. AreReplayed z (private_of s e.job) e.tx e.calls e.replies) so.world
      (subst (λ z. AreReplayed w z e.tx e.calls e.replies) so.begins
      (subst (λ z. AreReplayed w me e.tx z e.replies) so.calls_are (subst (λ z. AreReplayed w me e.tx calls z) so.replies_are all)))

  -- and the other way round
  pub replayed_here : AreReplayed s.world (private_of s e.job) e.tx e.calls e.replies → AreReplayed w me e.tx calls replies
  replayed_here all =
      subst (λ z. AreReplayed z me e.tx calls replies) (sym so.world)
      (subst (λ z. AreReplayed s.world z e.tx calls replies) (sym so.begins)
      (subst (λ z. AreReplayed s.world (private_of s e.job) e.tx z replies) (sym so.calls_are)
      (subst (λ z. AreReplayed s.world (private_of s e.job) e.tx e.calls z) (sym so.replies_are) all)))

  -- the body that was run again is the entry's
  pub same_body : body w me e.tx (asked_of calls replies) ≡ body_of s e
  same_body = λ i. body (so.world i) (so.begins i) e.tx (asked_of (so.calls_are i) (so.replies_are i))

  -- so what it left and gave is what the entry's did
  pub is_ran : (ran : Ran) → ran.world ≡ (body w me e.tx (asked_of calls replies)).world → ran.me.value ≡ (body w me e.tx (asked_of calls replies)).me
      → ran.traced.replied.late ≡ (body w me e.tx (asked_of calls replies)).late
      → ran.traced.replied.held.items ≡ held_of (body w me e.tx (asked_of calls replies)).touched
      → ran.traced.trail ≡ (body w me e.tx (asked_of calls replies)).trail → IsSound ran.world ran.me.value e.tx
      → All (IsReady ran.world) ran.traced.replied.late → length ran.world.words ≤ 4096 → IsRan ran (body_of s e) e.tx
  is_ran ran world mine late held trail sound ready few =
      record {
        world_is = world ∙ ap (λ (r : BodyResult). r.world) same_body;
        me_is = mine ∙ ap (λ (r : BodyResult). r.me) same_body;
        late = late ∙ ap (λ (r : BodyResult). r.late) same_body;
        held = held ∙ ap (λ (r : BodyResult). held_of r.touched) same_body;
        trail = trail ∙ ap (λ (r : BodyResult). r.trail) same_body;
        sound = sound;
        ready = ready;
        few = few;
      }

-- few faults of the code's calls are few of the entry's
pub few_there : (tries : ℕ) (calls there : List Call) (replies others : List Reply) → calls ≡ there → replies ≡ others
    → AreFewFaults tries no_records calls replies → AreFewFaults tries no_records there others
few_there tries calls there replies others p q few =
    subst (λ z. AreFewFaults tries no_records z others) p (subst (λ z. AreFewFaults tries no_records calls z) q few)

-- ---- late ends
-- where late calls end as recorded, with an end for each kept call, they are those of a commit
pub ends_decide : (basis : Basis) (c : Course) (e : Entry) (late : List LateEnd) (ran : Ran) (v : World) (made : List LateCall) (b : Bool)
    → IsRan ran (body_of c.state e) e.tx → length late ≡ length (kept_calls e.calls e.replies) → v ≡ ran.world → made ≡ ran.traced.replied.late
    → Decides b (AreEnded v made late) → Decides b (HasLateEnds (telling_terms basis) c e late)
ends_decide basis c e late ran v made b so count world made_is decides =
    let left = world ∙ so.world_is in
    let lates = made_is ∙ so.late in (
      λ test. record {
        count = count;
        played = λ _. commit_from_lates c.state e late
            (subst (λ z. AreEnded z (body_of c.state e).late late) left (subst (λ z. AreEnded v z late) lates (decides.0 test)));
      },
      λ has. decides.1
          (subst (λ z. AreEnded z made late) (sym left)
          (subst (λ z. AreEnded (body_of c.state e).world z late) (sym lates) (ended_from c.state e late (has.played refl)))),
    )
