use Rattle.xc_grounds.proofs.Naming.{revocation_decided, no_revocation}
use Rattle.xc_grounds.proofs.grounds.is_revocation.Goals as goal

pub returns-in-Some : goal.returns-in-Some
returns-in-Some c =
    revocation_decided c.args.known c.args.parts.now c.args.places.now.by_number.items c.requires c.args.place c.args.number c.args.at c.args.part.now
    c.in-Some.who.now c.args.object.now c.is_older.result c.in-Some.ensures c.is_older.ensures

pub returns-in-None : goal.returns-in-None
returns-in-None c = (
  λ e. cc e,
  λ holds.
      absurd (no_revocation c.args.known c.args.parts.now c.args.place c.args.number c.args.at c.args.part.now c.args.object.now c.in-None.ensures holds),
)
