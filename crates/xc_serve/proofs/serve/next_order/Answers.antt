use Rattle.std.proofs.Common.{[], ◌∷◌, ◌++◌, inl, refl, subst, take, length-take, arith}
use Rattle.xc_links.specs.Lines.{IsWireLine}
use Rattle.xc_serve.proofs.serve.next_order.Goals as goal

pub returns-in-Whole-clause-asked : goal.returns-in-Whole-clause-asked
returns-in-Whole-clause-asked g c =
    let told = g.L.Duplex.told in
    let buffer = c.read_line.new.buffer in
    let n = c.in-Whole.size in
    let l = subst (IsWireLine (told c.args.link.now) (told c.read_line.new.link) buffer) c.in-Whole.is c.in_ok-size.ensures.line in (
      take n buffer ++ 10 ∷ [],
      inl (record {
        line = take n buffer;
        is = refl;
        short = omega (arith, l.0, length-take n buffer);
        within = l.1;
        means = c.order_of.ensures;
      }),
      l.2,
    )
