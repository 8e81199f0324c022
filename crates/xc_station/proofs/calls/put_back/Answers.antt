use Rattle.std.proofs.Common.{◌≡◌, Some, None, ap, sym, ◌∙◌}
use Rattle.xc_data.specs.declared.private.Private.{Private}
use Rattle.xc_station.specs.declared.calls.Before.{Before}
use Rattle.xc_station.proofs.PutBack.{put_back_is}
use Rattle.xc_station.proofs.calls.put_back.Goals.{in-Some, in_default}
use Rattle.xc_station.proofs.calls.put_back.Goals as goal

pub returns : goal.returns
returns c tx was after same =
    let call = c.args.call.now in
    let reply = c.args.reply.now in
    let me = c.args.me.now in
    let stood = ap (λ (b : Before). b.place) same in
    let places : c.match-changed_at.me.places ≡ was.places = elim c.match-changed_at.branch [
      | in-Some w ↦ put_back_is tx call reply was me (Some w.in-Some.h) c.args.before.now.place c.match-changed_at.me.places after c.requires
          (sym w.in-Some.is ∙ c.changed_at.ensures) stood (ap (λ (m : Private). m.places) w.me-is ∙ w.put_place.ensures)
      | in_default w ↦ put_back_is tx call reply was me None c.args.before.now.place c.match-changed_at.me.places after c.requires
          (sym w.in_default.is ∙ c.changed_at.ensures) stood (ap (λ (m : Private). m.places) w.me-is)
    ] in
    λ i. record { places = places i; made = ap (λ (b : Before). b.made) same i; stored = ap (λ (b : Before). b.stored) same i }
