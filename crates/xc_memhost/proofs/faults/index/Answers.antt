use Rattle.std.proofs.Common.{[], ap, ◌∙◌, arith}
use Rattle.std.proofs.lemmas.Option.{unwrap_or-slice_get}
use Rattle.xc_data.specs.Kinds.{kind_place}
use Rattle.xc_memhost.specs.Faults.{any_within}
use Rattle.xc_host.proofs.Laws.{place_bound}
use Rattle.xc_memhost.proofs.Listed.{of_place}
use Rattle.xc_memhost.proofs.faults.index.Goals as goal

pub returns : goal.returns
returns c = λ kind n.
    ap (any_within n) (unwrap_or-slice_get c.loop-place.listed.items (kind_place kind) [])
    ∙ c.loop-place.invariant.listed (kind_place kind) (omega (arith, place_bound kind)) n ∙ of_place kind n c.args.lines.now
