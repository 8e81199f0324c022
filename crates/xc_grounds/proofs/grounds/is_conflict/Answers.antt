use Rattle.xc_grounds.proofs.Naming.{conflict_decided, no_conflict}
use Rattle.xc_grounds.proofs.grounds.is_conflict.Goals as goal

pub returns-in-Some : goal.returns-in-Some
returns-in-Some c =
    conflict_decided c.args.known c.args.parts.now c.args.places.now.by_number.items c.requires c.args.place c.args.number c.args.at c.args.part.now
    c.in-Some.who.now c.args.object.now c.is_holder.result c.in-Some.ensures c.is_holder.ensures

pub returns-in-None : goal.returns-in-None
returns-in-None c = (
  λ e. cc e,
  λ holds.
      absurd (no_conflict c.args.known c.args.parts.now c.args.place c.args.number c.args.at c.args.part.now c.args.object.now c.in-None.ensures holds),
)
