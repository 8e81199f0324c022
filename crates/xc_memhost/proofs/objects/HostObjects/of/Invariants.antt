use Rattle.std.proofs.Common.{◌≡◌, drop}
use Rattle.xc_world.specs.Opening.{with_all_opened}
use Rattle.xc_host.specs.Contents.{opened, world_of, contents_of}
use Rattle.xc_memhost.proofs.objects.HostObjects.of.Given as goal

-- the objects so far, and then the lines that are left
abbrev pub invariant-loop-line : goal.invariant-loop-line
invariant-loop-line l = contents_of (with_all_opened (world_of l.made) l.line (drop l.line l.objects)) ≡ opened l.objects
