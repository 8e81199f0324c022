use Rattle.std.proofs.Common.{refl, [], ◌∷◌}
use Rattle.xc_live.proofs.going.go.Goals as goal

pub loop-init : goal.loop-init
loop-init g c = record { way = λ tx asked asks. ([], refl, asks) }

pub push-requires-clause-asks : goal.push-requires-clause-asks
push-requires-clause-asks g c =
    let asks = c.requires.asks in
    let way = c.loop.invariant.way asks.0 asks.1 asks.2 in (asks.0, asks.1, way.2)

pub loop-preserved : goal.loop-preserved
loop-preserved g c =
    record {
      way = λ tx asked asks.
          let was = c.loop.invariant.way tx asked asks in
          let more = c.push.ensures.yielded c.loop-test.true tx asked was.2 in
          (more.0 ∷ was.0, (c.loop.station, was.1, more.1), more.2);
    }

pub returns : goal.returns
returns g c tx asked asks =
    let was = c.loop.invariant.way tx asked asks in
    let moved = c.push.ensures.moved c.loop-test.false tx asked was.2 in
    (was.0, c.loop.station, was.1, moved.0, moved.1)
