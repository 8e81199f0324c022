use Rattle.std.proofs.Common.{◌≡◌, drop}
use Rattle.xc_script.specs.Ask.{with_handles}
use Rattle.xc_script.proofs.values.Values.hold.Given as goal

-- the handles that are left make the values what all make them
abbrev pub invariant-loop-h : goal.invariant-loop-h
invariant-loop-h l = with_handles (drop l.h l.places) l.h l.self ≡ with_handles l.places 0 l.fn.self
