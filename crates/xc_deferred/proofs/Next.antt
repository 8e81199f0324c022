-- The first late call that has no end yet, and how it ends.
use Rattle.std.proofs.Common.{◌≡◌, ℕ, zero, suc, Some, List, [], ◌∷◌, ◌++◌, length, drop, ap, sym, ◌∙◌, subst}
use Rattle.std.specs.List.{slice_get}
use Rattle.xc_data.specs.Calls.{thread_in}
use Rattle.xc_data.specs.declared.call.LateCall.{LateCall}
use Rattle.xc_data.specs.declared.call.LateEnd.{LateEnd}
use Rattle.xc_host.specs.Model.{HostModel}
use Rattle.xc_deferred.specs.Does.{EndsNext}
use Rattle.xc_deferred.specs.Ended.{EndsAt}
use Rattle.xc_deferred.specs.Queue.{Queue, late_calls_left, next_thread}

abbrev late_queue : List LateCall → List LateEnd → Queue
late_queue calls ends = record { calls = calls; ends = ends }

drop_at : (calls : List LateCall) (n : ℕ) (call : LateCall) → slice_get calls n ≡ Some call → drop n calls ≡ call ∷ drop (suc n) calls
drop_at [] n call there = cc
drop_at (c ∷ cs) zero call there = cc
drop_at (c ∷ cs) (suc n) call there = drop_at cs n call there

-- the first call that is left stands in the place after the ends
pub queue_left_at : (q : Queue) (calls : List LateCall) (ends : List LateEnd) (n : ℕ) (call : LateCall) → late_queue calls ends ≡ q → n ≡ length ends
    → slice_get calls n ≡ Some call → late_calls_left q ≡ call ∷ drop (suc n) calls
queue_left_at q calls ends n call view size there = sym (ap late_calls_left view) ∙ ap (λ k. drop k calls) (sym size) ∙ drop_at calls n call there

-- it starts the next job, where it starts one
pub next_at : (q : Queue) (calls : List LateCall) (ends : List LateEnd) (n : ℕ) (call : LateCall) → late_queue calls ends ≡ q → n ≡ length ends
    → slice_get calls n ≡ Some call → next_thread (late_calls_left q) ≡ thread_in call
next_at q calls ends n call view size there = ap next_thread (queue_left_at q calls ends n call view size there)

-- the first call that is left was done, and its end stands after the others
pub ends_next : {H : Type 0} (model : HostModel H) (was is : H) (q : Queue) (calls : List LateCall) (ends now : List LateEnd) (n : ℕ) (done : LateCall)
    (end : LateEnd) → late_queue calls ends ≡ q → n ≡ length ends → slice_get calls n ≡ Some done → now ≡ ends ++ end ∷ []
    → EndsAt model done (record { old = was; new = is }) end
    → (call : LateCall) (others : List LateCall) → late_calls_left q ≡ call ∷ others
    → EndsNext model call (record { host = was; late = q }) (record { host = is; late = late_queue calls now })
ends_next model was is q calls ends now n done end view size there noted ended call others first =
    let next : late_calls_left q ≡ done ∷ drop (suc n) calls = queue_left_at q calls ends n done view size there in
    let same : done ≡ call = cc in
    let at = subst (λ c. EndsAt model c (record { old = was; new = is }) end) same ended in
    record {
      end = end;
      noted = ap (late_queue calls) noted ∙ ap (λ (p : Queue). record p { ends = p.ends ++ end ∷ [] }) view;
      cause = at.cause;
      uses = at.uses;
      does = at.does;
    }
