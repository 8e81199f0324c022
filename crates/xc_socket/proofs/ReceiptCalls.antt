-- Receipts, as their contract has them.
use Rattle.std.proofs.Common.{◌≡◌, ℕ, ◌&&◌, true, false, not, None, Ok, IsTrue, length, refl, ap, sym, ◌∙◌, subst, arith}
use Rattle.std.proofs.lemmas.Bool.{eq-eqb, le-leb}
use Rattle.xc_data.specs.Counts.{CountsFault}
use Rattle.xc_data.specs.Private.{place_of}
use Rattle.xc_data.specs.declared.call.Answer.{Answer}
use Rattle.xc_data.specs.declared.call.Answer.TheVariants as answer
use Rattle.xc_data.specs.declared.call.Call.TheVariants.{XRecvmsg}
use Rattle.xc_data.specs.declared.call.Reply.{Reply}
use Rattle.xc_data.specs.declared.call.Reply.TheVariants as reply
use Rattle.xc_data.specs.declared.object.Num.{Num}
use Rattle.xc_data.specs.declared.private.Place.TheVariants as place
use Rattle.xc_data.specs.declared.private.Private.{Private}
use Rattle.xc_world.specs.Act.{act}
use Rattle.xc_world.specs.Act.Step.{step_to, storing, storing_reply}
use Rattle.xc_world.specs.Checks.{refusal_of}
use Rattle.xc_world.specs.Replies.{may_reply}
use Rattle.xc_world.specs.World.{World}
use Rattle.xc_compensate.specs.Records.{Records}
use Rattle.xc_deferred.proofs.Laws.{world_with}
use Rattle.xc_host.specs.Contents.{with_contents}
use Rattle.xc_host.specs.Fronted.{before, fronted}
use Rattle.xc_host.specs.Model.{HostModel}
use Rattle.xc_host.specs.Uses.{Uses}
use Rattle.xc_calls.specs.Calls.{ActsAsPlain, IsMePassed, replies_fault}
use Rattle.xc_calls.specs.Passing.{Passes}
use Rattle.xc_calls.proofs.Laws.{call_view_at, passed_checks, ReadState, logical, sides, uses_both}
use Rattle.xc_calls.specs.Sides.{Sides, world_at}
use Rattle.xc_socket.specs.Receiving.{IsReceiptReply, Receives, ReceivesBy}
use Rattle.xc_socket.proofs.ReceiptSteps.{pair_fault_step, pair_got_step, pair_none_step}

module _ (h : ℕ) (pair : Num) (side : ℕ) (me : Private) (number : ℕ) (at : place_of me.places h ≡ place.Pair pair side)
    (free : refusal_of (XRecvmsg h) me ≡ None) (old new : Sides) where
  -- from worlds with both to worlds with what is logically there
  lifted : (a : Answer) (next : Private) (r : Reply)
      → ((w : World) → act (world_at w old) me number (XRecvmsg h) a ≡ step_to (world_at w new) next r) → (w : World)
      → act (with_contents w (logical old)) me number (XRecvmsg h) a ≡ step_to (with_contents w (logical new)) next r
  lifted a next r step w =
      ap (λ x. act x me number (XRecvmsg h) a) (world_with w old.contents old.items) ∙ step w
      ∙ ap (λ x. step_to x next r) (sym (world_with w new.contents new.items))

  -- a receipt is the plain machine's
  pub receipt_acts : (r : Reply) → IsReceiptReply r → Receives pair side (record { old = old; new = new }) r
      → ActsAsPlain (XRecvmsg h) (call_view_at (logical old) number me) (call_view_at (logical new) number (storing_reply r me)) r
  receipt_acts (reply.Got message) is leaves = record {
    step = lifted answer.Fine (storing me (length message)) (reply.Got message) (pair_got_step h pair side me number at free old new message leaves);
    fits = λ w. refl;
  }
  receipt_acts reply.Empty is (same, none) = record {
    step = lifted answer.Fine me reply.Empty (pair_none_step h pair side me number at free old new reply.Empty false same none (λ x. refl));
    fits = λ w. refl;
  }
  receipt_acts reply.End is (same, none) = record {
    step = lifted answer.Fine me reply.End (pair_none_step h pair side me number at free old new reply.End true same none (λ x. refl));
    fits = λ w. refl;
  }
  receipt_acts (reply.Fault k) zero same =
      subst (λ m. ActsAsPlain (XRecvmsg h) (call_view_at (logical old) number me) (call_view_at (logical new) number me) (reply.Fault m)) (sym zero)
      (record {
        step = lifted (answer.Fault 0) me (reply.Fault 0) (pair_fault_step h pair side me number at free old new same);
        fits = λ w. ap (λ b. not b && true) (passed_checks me (XRecvmsg h) (length w.words) free);
      })
  receipt_acts _ is never = absurd never

-- its reply is one that may come
passed_reply : (h : ℕ) (r : Reply) → IsReceiptReply r → may_reply (XRecvmsg h) r ≡ true
passed_reply h (reply.Got message) is = le-leb (length message) 1024 is
passed_reply h reply.Empty is = refl
passed_reply h reply.End is = refl
passed_reply h (reply.Fault k) is = eq-eqb k 0 is
passed_reply h _ never = absurd never

me_passed : (h number : ℕ) (me : Private) (r : Reply) → IsReceiptReply r → IsMePassed number (XRecvmsg h) me (storing_reply r me) r
me_passed h number me (reply.Got message) is = record { places = refl; made = refl; stored = omega arith }
me_passed h number me reply.Empty is = record { places = refl; made = refl; stored = omega arith }
me_passed h number me reply.End is = record { places = refl; made = refl; stored = omega arith }
me_passed h number me (reply.Fault k) is = record { places = refl; made = refl; stored = omega arith }
me_passed h number me _ never = absurd never

module _ {H : Type 0} (model : HostModel H) (old new : ReadState H) where
  -- a receipt that the checks let pass
  pub receipt_passed : (h : ℕ) (pair : Num) (side number : ℕ) (undo : Records) (r : Reply) → place_of old.me.places h ≡ place.Pair pair side
      → refusal_of (XRecvmsg h) old.me ≡ None → IsReceiptReply r → new.me ≡ storing_reply r old.me
      → (IsTrue model.tells → Receives pair side (record { old = sides model old; new = sides model new }) r)
      → Uses model (record { old = old.host; new = new.host }) (ReceivesBy (Ok r))
      → CountsFault (replies_fault (Ok r)) (model.fault_count old.host) (model.fault_count new.host)
      → Passes (fronted model) (XRecvmsg h) (record {
        old = record { host = before old.host old.items; number = number; me = old.me; undo = undo };
        new = record { host = before new.host new.items; number = number; me = new.me; undo = undo };
      }) (Ok r)
  receipt_passed h pair side number undo r at free is me receives uses cause = record {
    reply = passed_reply h r is;
    uses = uses_both model old new uses;
    after = subst (λ m. IsMePassed number (XRecvmsg h) old.me m r) (sym me) (me_passed h number old.me r is);
    acts = λ t. subst (λ m. ActsAsPlain (XRecvmsg h) (call_view_at (logical (sides model old)) number old.me)
        (call_view_at (logical (sides model new)) number m) r) (sym me)
        (receipt_acts h pair side old.me number at free (sides model old) (sides model new) r is (receives t));
    err = tt;
    cause = cause;
  }
