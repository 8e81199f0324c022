-- A seek at an open file, over any host: it is done, or goes too far. It calls no host and leaves no record.
use Rattle.std.proofs.Common.{◌≡◌, ℕ, ◌<◌, ◌≤◌, [], Ok, IsTrue, refl, ap, sym, ◌∙◌, arith, if◌then◌else◌}
use Rattle.std.proofs.lemmas.Bool.{le-ltb, lt-ltb}
use Rattle.std.specs.Prelude.{not}
use Rattle.xc_data.specs.declared.call.Call.TheVariants.{XSeek}
use Rattle.xc_data.specs.declared.call.Answer.TheVariants.{Fine}
use Rattle.xc_data.specs.declared.call.Reply.TheVariants.{BadHandle, Done, TooBig}
use Rattle.xc_data.specs.declared.object.Num.{Num}
use Rattle.xc_data.specs.declared.private.Place.{Place}
use Rattle.xc_data.specs.declared.private.Place.TheVariants.{File}
use Rattle.xc_data.specs.declared.private.Private.{Private}
use Rattle.xc_data.specs.Private.{place_of, with_place}
use Rattle.xc_world.specs.World.{World}
use Rattle.xc_world.specs.Act.{act}
use Rattle.xc_world.specs.Act.Files.{seek_at}
use Rattle.xc_world.specs.Act.Step.{Stepped, bytes_counted, step_to}
use Rattle.xc_world.specs.After.{at_position, with_at}
use Rattle.xc_world.specs.Checks.{is_file}
use Rattle.xc_host.specs.Contents.{with_contents}
use Rattle.xc_host.specs.Model.{HostModel}
use Rattle.xc_host.proofs.Laws.{unused}
use Rattle.xc_calls.specs.Calls.{CallState, IsHostCall}
use Rattle.xc_calls.proofs.Laws.{none_grow, replied_call}
use Rattle.xc_file.proofs.Refusals.{by_kind}

-- the plain machine's seek to a position, by what stands at the handle
abbrev sought : World → Private → ℕ → ℕ → Place → Stepped
sought w me h to p = if not (is_file p) then step_to w me BadHandle else bytes_counted (XSeek h to) (seek_at w me h to p)

-- past 65536 it leaves all as it is
acts_far : (w : World) (me : Private) (tx h to : ℕ) (num : Num) (at : ℕ) → place_of me.places h ≡ File num at → 65536 < to
    → act w me tx (XSeek h to) Fine ≡ step_to w me TooBig
acts_far w me tx h to num at there far =
    ap (sought w me h to) there
    ∙ ap (λ b. bytes_counted (XSeek h to) (if b then step_to w me TooBig else step_to w (with_place me h (File num to)) Done)) (lt-ltb 65536 to far)

-- else it sets the position
acts_near : (w : World) (me : Private) (tx h to : ℕ) (num : Num) (at : ℕ) → place_of me.places h ≡ File num at → to ≤ 65536
    → act w me tx (XSeek h to) Fine ≡ step_to w (with_place me h (File num to)) Done
acts_near w me tx h to num at there near =
    ap (sought w me h to) there
    ∙ ap (λ b. bytes_counted (XSeek h to) (if b then step_to w me TooBig else step_to w (with_place me h (File num to)) Done)) (le-ltb 65536 to near)

-- a seek that goes too far for its host; of one that tells that is past 65536
pub far_seek : {H : Type 0} (model : HostModel H) (s : CallState H) (h to : ℕ) (num : Num) (at : ℕ) → place_of s.me.places h ≡ File num at
    → (IsTrue model.tells → 65536 < to) → IsHostCall model (XSeek h to) s s (Ok TooBig)
far_seek model s h to num at there far =
    replied_call model (XSeek h to) s s TooBig (ap (λ p. by_kind (is_file p)) there)
    (record {
      reply = refl;
      uses = record { made = []; named = refl; used = unused model s.host };
      after = record { places = refl; made = refl; stored = omega arith };
      acts = λ t. record {
        step = λ w. acts_far (with_contents w (model.contents s.host)) s.me s.number h to num at there (far t);
        fits = λ w. refl;
      };
      err = tt;
      cause = refl;
    })
    (none_grow model (XSeek h to) s s (Ok TooBig) refl (λ r. refl) (λ r w. refl))

-- a seek that its host lets go so far; one that tells does to 65536
pub near_seek : {H : Type 0} (model : HostModel H) (s : CallState H) (next : Private) (h to : ℕ) (num : Num) (at : ℕ)
    → place_of s.me.places h ≡ File num at → next ≡ with_place s.me h (File num to) → (IsTrue model.tells → to ≤ 65536)
    → IsHostCall model (XSeek h to) s (record s { me = next }) (Ok Done)
near_seek {H = H} model s next h to num at there is near =
    let new : CallState H = record s { me = next } in
    replied_call model (XSeek h to) s new Done (ap (λ p. by_kind (is_file p)) there)
    (record {
      reply = refl;
      uses = record { made = []; named = refl; used = unused model s.host };
      after = record {
        places = ap (λ (m : Private). m.places) is ∙ ap (λ p. with_at s.me.places h (at_position p to)) (sym there);
        made = ap (λ (m : Private). m.made) is;
        stored = omega (arith, ap (λ (m : Private). m.stored) is);
      };
      acts = λ t. record {
        step = λ w. acts_near (with_contents w (model.contents s.host)) s.me s.number h to num at there (near t)
            ∙ ap (λ m. step_to (with_contents w (model.contents s.host)) m Done) (sym is);
        fits = λ w. refl;
      };
      err = tt;
      cause = refl;
    })
    (none_grow model (XSeek h to) s new (Ok Done) refl (λ r. refl) (λ r w. refl))
