use Rattle.std.proofs.Common.{refl}
use Rattle.xc_text.proofs.FilesByName.{no_names_files}
use Rattle.xc_text.proofs.objects.Objects.new.Goals as goal

pub invariant_of-result : goal.invariant_of-result
invariant_of-result c = rw (c.new-2.ensures, c.new.ensures) (no_names_files, refl, refl)
