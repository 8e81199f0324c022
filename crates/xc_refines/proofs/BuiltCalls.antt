-- Calls that take no data: their records tell all that they do at the host.
use Rattle.std.proofs.Common.{◌≡◌, false, ℕ, [], refl, ap, ◌∙◌}
use Rattle.xc_data.specs.declared.call.Answer.{Answer}
use Rattle.xc_data.specs.declared.call.Call.{Call}
use Rattle.xc_data.specs.declared.call.Call.TheVariants as call
use Rattle.xc_data.specs.declared.call.Reply.{Reply}
use Rattle.xc_data.specs.declared.private.Private.{Private}
use Rattle.xc_host.specs.Contents.{contents_of}
use Rattle.xc_world.specs.World.{World}
use Rattle.xc_world.specs.Act.{act}
use Rattle.xc_world.specs.Effects.{takes_data, whole}
use Rattle.xc_world.specs.Ends.{with_remains}
use Rattle.xc_world.specs.Run.{taken_by}
use Rattle.xc_world.specs.Trail.{recorded}
use Rattle.xc_world.proofs.Laws.{act-leads}

-- nothing is to be given back of them
pub untaken : (c : Call) (me : Private) (r : Reply) → takes_data c ≡ false → taken_by c me r ≡ []
untaken (call.XReadPipe h n) me r is = cc is
untaken (call.XRecvmsg h) me r is = cc is
untaken _ me r is = refl

-- one that leaves no record changes nothing at the host
pub unrecorded : (w : World) (me : Private) (tx : ℕ) (c : Call) (a : Answer) → takes_data c ≡ false → recorded w me tx c (act w me tx c a).reply ≡ []
    → contents_of (act w me tx c a).world ≡ contents_of w
unrecorded w me tx c a is none = ap contents_of (act-leads w me tx c a is) ∙ ap (λ us. contents_of (with_remains w (whole us))) none
