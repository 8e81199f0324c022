-- Calls that read a pipe, as their contract has them.
use Rattle.std.proofs.Common.{◌≡◌, ℕ, ◌≤◌, ◌==◌, ◌&&◌, Bool, true, false, not, None, Ok, Err, IsTrue, length, refl, ap, sym, ◌∙◌, subst}
use Rattle.std.proofs.Common.{arith, if◌then◌else◌}
use Rattle.std.proofs.lemmas.Bool.{and_from, eq-eqb, le-leb}
use Rattle.std.specs.Prelude.{IfOk, OnErr, Result, nat_le}
use Rattle.xc_data.specs.Counts.{CountsFault}
use Rattle.xc_data.specs.Private.{place_of}
use Rattle.xc_data.specs.declared.call.Answer.{Answer}
use Rattle.xc_data.specs.declared.call.Answer.TheVariants as answer
use Rattle.xc_data.specs.declared.call.Call.TheVariants.{XReadPipe}
use Rattle.xc_data.specs.declared.call.Reply.{Reply}
use Rattle.xc_data.specs.declared.call.Reply.TheVariants as reply
use Rattle.xc_data.specs.declared.memory.NoMemory.{NoMemory}
use Rattle.xc_data.specs.declared.object.Num.{Num}
use Rattle.xc_data.specs.declared.private.Place.TheVariants as place
use Rattle.xc_data.specs.declared.private.Private.{Private}
use Rattle.xc_world.specs.Act.{act}
use Rattle.xc_world.specs.Act.Step.{bytes_counted, step_to, storing, storing_reply}
use Rattle.xc_world.specs.Checks.{refusal_of}
use Rattle.xc_world.specs.Replies.{may_reply}
use Rattle.xc_world.specs.World.{World}
use Rattle.xc_world.proofs.Laws.{brings_some, not_zero}
use Rattle.xc_compensate.specs.Records.{Records}
use Rattle.xc_deferred.proofs.Laws.{world_with}
use Rattle.xc_host.specs.Contents.{with_contents}
use Rattle.xc_host.specs.Fronted.{before, fronted}
use Rattle.xc_host.specs.Model.{HostModel}
use Rattle.xc_host.specs.Uses.{Uses}
use Rattle.xc_calls.specs.Calls.{ActsAsPlain, IsMePassed, replies_fault}
use Rattle.xc_calls.specs.Passing.{Passes}
use Rattle.xc_calls.proofs.Laws.{call_view_at, passed_checks, ReadState, logical, sides, uses_both}
use Rattle.xc_pipe.specs.Reading.{IsReadReply, ReadsPipe, ReadsPipeBy}
use Rattle.xc_calls.specs.Sides.{Sides, world_at}
use Rattle.xc_pipe.proofs.ReadSteps.{pipe_fault_step, pipe_got_step, pipe_none_step}

module _ (h n : ℕ) (pipe : Num) (me : Private) (number : ℕ) (at : place_of me.places h ≡ place.Pipe pipe) (free : refusal_of (XReadPipe h n) me ≡ None)
    (some : 1 ≤ n) (old new : Sides) where
  -- from worlds with both to worlds with what is logically there
  lifted : (a : Answer) (next : Private) (r : Reply)
      → ((w : World) → act (world_at w old) me number (XReadPipe h n) a ≡ step_to (world_at w new) next r) → (w : World)
      → act (with_contents w (logical old)) me number (XReadPipe h n) a ≡ step_to (with_contents w (logical new)) next r
  lifted a next r step w =
      ap (λ x. act x me number (XReadPipe h n) a) (world_with w old.contents old.items) ∙ step w
      ∙ ap (λ x. step_to x next r) (sym (world_with w new.contents new.items))

  -- a read is the plain machine's
  pub read_acts : (r : Reply) → IsReadReply n r → ReadsPipe pipe n (record { old = old; new = new }) r
      → ActsAsPlain (XReadPipe h n) (call_view_at (logical old) number me) (call_view_at (logical new) number (storing_reply r me)) r
  read_acts (reply.Got bytes) (more, most) finds = record {
    step = lifted answer.Fine (storing me (length bytes)) (reply.Got bytes) (pipe_got_step h n pipe me number at free some old new bytes more most finds);
    fits = λ w. refl;
  }
  read_acts reply.Empty is (leads, empty, shut) = record {
    step = lifted answer.Fine me reply.Empty
        (pipe_none_step h n pipe me number at free some old new reply.Empty false leads empty shut
        (λ x mark. ap (λ (b : Bool). bytes_counted (XReadPipe h n) (step_to x me (if b then reply.End else reply.Empty))) mark));
    fits = λ w. refl;
  }
  read_acts reply.End is (leads, empty, shut) = record {
    step = lifted answer.Fine me reply.End
        (pipe_none_step h n pipe me number at free some old new reply.End true leads empty shut
        (λ x mark. ap (λ (b : Bool). bytes_counted (XReadPipe h n) (step_to x me (if b then reply.End else reply.Empty))) mark));
    fits = λ w. refl;
  }
  read_acts (reply.Fault k) zero leads =
      subst (λ m. ActsAsPlain (XReadPipe h n) (call_view_at (logical old) number me) (call_view_at (logical new) number me) (reply.Fault m)) (sym zero)
      (record {
        step = lifted (answer.Fault 0) me (reply.Fault 0) (pipe_fault_step h n pipe me number at free some old new leads);
        fits = λ w. ap (λ b. not b && nat_le 1 n) (passed_checks me (XReadPipe h n) (length w.words) free) ∙ le-leb 1 n some;
      })
  read_acts _ is never = absurd never

-- its reply is one that may come
passed_reply : (h n : ℕ) (r : Reply) → 1 ≤ n → IsReadReply n r → may_reply (XReadPipe h n) r ≡ true
passed_reply h n (reply.Got bytes) some is = brings_some n bytes is.0 is.1
passed_reply h n reply.Empty some is = not_zero n some
passed_reply h n reply.End some is = not_zero n some
passed_reply h n (reply.Fault k) some is = and_from (not (n == 0)) (k == 0) (not_zero n some) (eq-eqb k 0 is)
passed_reply h n _ some never = absurd never

me_passed : (h n number : ℕ) (me : Private) (r : Reply) → IsReadReply n r → IsMePassed number (XReadPipe h n) me (storing_reply r me) r
me_passed h n number me (reply.Got bytes) is = record { places = refl; made = refl; stored = omega arith }
me_passed h n number me reply.Empty is = record { places = refl; made = refl; stored = omega arith }
me_passed h n number me reply.End is = record { places = refl; made = refl; stored = omega arith }
me_passed h n number me (reply.Fault k) is = record { places = refl; made = refl; stored = omega arith }
me_passed h n number me _ never = absurd never

module _ {H : Type 0} (model : HostModel H) (old new : ReadState H) where
  -- a read of some bytes that the checks let pass
  pub read_passed : (h n : ℕ) (pipe : Num) (number : ℕ) (undo : Records) (result : Result Reply NoMemory) → place_of old.me.places h ≡ place.Pipe pipe
      → refusal_of (XReadPipe h n) old.me ≡ None → 1 ≤ n → IfOk result (IsReadReply n) → IfOk result (λ r. new.me ≡ storing_reply r old.me)
      → OnErr result (new.me ≡ old.me)
      → (IsTrue model.tells → IfOk result (ReadsPipe pipe n (record { old = sides model old; new = sides model new })))
      → Uses model (record { old = old.host; new = new.host }) (ReadsPipeBy n result)
      → CountsFault (replies_fault result) (model.fault_count old.host) (model.fault_count new.host)
      → Passes (fronted model) (XReadPipe h n) (record {
        old = record { host = before old.host old.items; number = number; me = old.me; undo = undo };
        new = record { host = before new.host new.items; number = number; me = new.me; undo = undo };
      }) result
  read_passed h n pipe number undo (Ok r) at free some is me err reads uses cause = record {
    reply = passed_reply h n r some is;
    uses = uses_both model old new uses;
    after = subst (λ m. IsMePassed number (XReadPipe h n) old.me m r) (sym me) (me_passed h n number old.me r is);
    acts = λ t. subst (λ m. ActsAsPlain (XReadPipe h n) (call_view_at (logical (sides model old)) number old.me)
        (call_view_at (logical (sides model new)) number m) r) (sym me)
        (read_acts h n pipe old.me number at free some (sides model old) (sides model new) r is (reads t));
    err = tt;
    cause = cause;
  }
  read_passed h n pipe number undo (Err e) at free some is me err reads uses cause = record {
    reply = tt;
    uses = uses_both model old new uses;
    after = tt;
    acts = λ t. tt;
    err = err;
    cause = cause;
  }
