use Rattle.std.proofs.Common.{Some, ap, sym, ◌∙◌, refl}
use Rattle.xc_script.specs.declared.ask.Ask.TheVariants as ask
use Rattle.xc_live.proofs.Made.{begun_first, call_answered, call_asked, call_calm, call_made, call_no_commit, call_no_end, call_some, hands_asks}
use Rattle.xc_live.proofs.going.make.Goals as goal

pub go-requires-clause-asks : goal.go-requires-clause-asks
go-requires-clause-asks g c =
    let al = c.requires.allowed in (
      al.0,
      ask.Call c.args.call,
      hands_asks g.H.Host.model c.args.client al.0 c.args.station.now c.requires.desk al.1 (ask.Call c.args.call) (call_no_end c.args.call)
          c.hand_in.new.self c.hand_in.ensures.same c.hand_in.ensures.handed,
    )

pub settle-requires-clause-asked : goal.settle-requires-clause-asked
settle-requires-clause-asked g c =
    let al = c.requires.allowed in
    let asks = hands_asks g.H.Host.model c.args.client al.0 c.args.station.now c.requires.desk al.1 (ask.Call c.args.call) (call_no_end c.args.call)
    c.hand_in.new.self c.hand_in.ensures.same c.hand_in.ensures.handed in
    let went = c.go.ensures al.0 (ask.Call c.args.call) asks in
    (al.0, ask.Call c.args.call, went.4)

pub roll_back-requires-clause-asked : goal.roll_back-requires-clause-asked
roll_back-requires-clause-asked g c =
    let model = g.H.Host.model in
    let al = c.requires.allowed in
    let asks = hands_asks model c.args.client al.0 c.args.station.now c.requires.desk al.1 (ask.Call c.args.call) (call_no_end c.args.call)
    c.hand_in.new.self c.hand_in.ensures.same c.hand_in.ensures.handed in (
      al.0,
      ask.Call c.args.call,
      call_asked model c.args.client c.args.call al.0 c.args.station.now c.hand_in.new.self c.go.new.station c.settle.new.station al.1 al.2
          (record { same = c.hand_in.ensures.same; handed = c.hand_in.ensures.handed }) asks c.go.ensures c.settle.ensures.settled,
    )

pub unreachable-requires : goal.unreachable-requires
unreachable-requires g c =
    let model = g.H.Host.model in
    let al = c.requires.allowed in
    let asks = hands_asks model c.args.client al.0 c.args.station.now c.requires.desk al.1 (ask.Call c.args.call) (call_no_end c.args.call)
    c.hand_in.new.self c.hand_in.ensures.same c.hand_in.ensures.handed in
    call_no_commit model c.args.client c.args.call al.0 c.args.station.now c.hand_in.new.self c.go.new.station c.settle.new.station al.1 al.2
    (record { same = c.hand_in.ensures.same; handed = c.hand_in.ensures.handed }) asks c.go.ensures c.settle.ensures.settled
    (begun_first model c.args.client al.0 c.args.station.now c.requires.desk al.1)
    (sym c.phase.ensures ∙ c.in-Some-Committing.is ∙ ap Some c.in-Some-Committing.field-0-is)

pub unreachable-requires-in-None : goal.unreachable-requires-in-None
unreachable-requires-in-None g c =
    let model = g.H.Host.model in
    let al = c.requires.allowed in
    let asks = hands_asks model c.args.client al.0 c.args.station.now c.requires.desk al.1 (ask.Call c.args.call) (call_no_end c.args.call)
    c.hand_in.new.self c.hand_in.ensures.same c.hand_in.ensures.handed in
    call_some model c.args.client c.args.call al.0 c.args.station.now c.hand_in.new.self c.go.new.station c.settle.new.station al.1 al.2
    (record { same = c.hand_in.ensures.same; handed = c.hand_in.ensures.handed }) asks c.go.ensures c.settle.ensures.settled
    (begun_first model c.args.client al.0 c.args.station.now c.requires.desk al.1) (sym c.phase.ensures ∙ c.in-None.is)

pub returns-in-Some-Undoing-clause-called : goal.returns-in-Some-Undoing-clause-called
returns-in-Some-Undoing-clause-called g c =
    let model = g.H.Host.model in
    let al = c.requires.allowed in
    let asks = hands_asks model c.args.client al.0 c.args.station.now c.requires.desk al.1 (ask.Call c.args.call) (call_no_end c.args.call)
    c.hand_in.new.self c.hand_in.ensures.same c.hand_in.ensures.handed in
    let left = c.roll_back.ensures.left in (
      call_made model c.args.client c.args.call al.0 c.args.station.now c.hand_in.new.self c.go.new.station c.settle.new.station al.1 al.2
          (record { same = c.hand_in.ensures.same; handed = c.hand_in.ensures.handed }) asks c.go.ensures c.settle.ensures.settled
          left.turns c.roll_back.new.station left.takes,
      c.settle.new.station.journal,
      left.entered,
    )

pub returns-in-Some-Running-clause-calm : goal.returns-in-Some-Running-clause-calm
returns-in-Some-Running-clause-calm g c =
    let model = g.H.Host.model in
    let al = c.requires.allowed in
    let asks = hands_asks model c.args.client al.0 c.args.station.now c.requires.desk al.1 (ask.Call c.args.call) (call_no_end c.args.call)
    c.hand_in.new.self c.hand_in.ensures.same c.hand_in.ensures.handed in
    call_calm model c.args.client c.args.call al.0 c.args.station.now c.hand_in.new.self c.go.new.station c.settle.new.station al.1 al.2
    (record { same = c.hand_in.ensures.same; handed = c.hand_in.ensures.handed }) asks c.go.ensures c.settle.ensures.settled
    (begun_first model c.args.client al.0 c.args.station.now c.requires.desk al.1)
    (sym c.phase.ensures ∙ c.in-Some-Running.is ∙ ap Some c.in-Some-Running.field-0-is)

pub returns-in-Some-Running-clause-called : goal.returns-in-Some-Running-clause-called
returns-in-Some-Running-clause-called g c =
    let model = g.H.Host.model in
    let al = c.requires.allowed in
    let asks = hands_asks model c.args.client al.0 c.args.station.now c.requires.desk al.1 (ask.Call c.args.call) (call_no_end c.args.call)
    c.hand_in.new.self c.hand_in.ensures.same c.hand_in.ensures.handed in (
      call_made model c.args.client c.args.call al.0 c.args.station.now c.hand_in.new.self c.go.new.station c.settle.new.station al.1 al.2
          (record { same = c.hand_in.ensures.same; handed = c.hand_in.ensures.handed }) asks c.go.ensures c.settle.ensures.settled 0
          c.settle.new.station refl,
      call_answered model c.args.client c.args.call al.0 c.args.station.now c.hand_in.new.self c.go.new.station c.settle.new.station al.1 al.2
          (record { same = c.hand_in.ensures.same; handed = c.hand_in.ensures.handed }) asks c.go.ensures c.settle.ensures.settled
          (begun_first model c.args.client al.0 c.args.station.now c.requires.desk al.1)
          (sym c.phase.ensures ∙ c.in-Some-Running.is ∙ ap Some c.in-Some-Running.field-0-is),
    )
