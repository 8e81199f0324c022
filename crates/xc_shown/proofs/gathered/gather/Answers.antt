use Rattle.std.proofs.Common.{◌≡◌, length, vec_len, arith}
use Rattle.xc_shown.proofs.Gathering.{reads_on, none_popped, all_read}
use Rattle.xc_shown.proofs.gathered.gather.Goals as goal

pub loop-line-preserved : goal.loop-line-preserved
loop-line-preserved c =
    reads_on c.loop-line.rest.items c.pop.new.self.items c.in-Some.line c.loop-line.gathered c.add.new.self _ c.in-Some.ensures.items c.in_ok-add.ensures
    c.loop-line.invariant

pub returns : goal.returns
returns c =
    let empty : vec_len c.loop-line.rest ≡ 0 =
    none_popped c.pop.result (vec_len c.loop-line.rest) (vec_len c.pop.new.self) _ c.in_default.not-Some c.pop.ensures.cases in
    let none : length c.loop-line.rest.items ≡ 0 = omega arith in
    all_read c.loop-line.rest.items c.loop-line.gathered _ none c.loop-line.invariant
