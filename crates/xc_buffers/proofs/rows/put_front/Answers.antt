use Rattle.xc_buffers.proofs.Takes.{put_there, put_kept}
use Rattle.xc_buffers.proofs.rows.put_front.Goals as goal

pub returns-clause-put : goal.returns-clause-put
returns-clause-put c =
    put_there c.args.items.now.items c.deref.result.now c.insert.new.self.items c.place_of-at.result c.args.item c.of.result c.deref.ensures.value c.of.ensures
    c.place_of-at.ensures.place c.in-Ok.ensures.items c.requires.fit c.requires.kept

pub returns-clause-kept : goal.returns-clause-kept
returns-clause-kept c =
    put_kept c.args.items.now.items c.deref.result.now c.insert.new.self.items c.place_of-at.result c.args.item c.of.result c.deref.ensures.value c.of.ensures
    c.place_of-at.ensures.place c.in-Ok.ensures.items c.requires.fit c.requires.kept
