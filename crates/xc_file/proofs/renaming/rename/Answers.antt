use Rattle.std.proofs.Common.{[], ◌∷◌, inl, inr, refl}
use Rattle.xc_data.specs.declared.script.HostCallKind.TheVariants.{Lookup}
use Rattle.xc_host.proofs.Laws.{used_then}
use Rattle.xc_file.proofs.FileUses.{uses_rename}
use Rattle.xc_file.proofs.renaming.rename.Goals as goal

pub returns-in-Ok-None-lookup-clause-uses : goal.returns-in-Ok-None-lookup-clause-uses
returns-in-Ok-None-lookup-clause-uses g c =
    uses_rename g.H.Host.model c.args.from.now c.args.to.now c.args.host.now c.lookup.new.self c.lookup-2.new.self c.rename_recorded.new.host
    c.rename_recorded.result c.lookup.ensures.answered.used c.lookup-2.ensures.answered.used c.rename_recorded.ensures.uses

pub returns-in-Err-Fault-lookup-clause-uses : goal.returns-in-Err-Fault-lookup-clause-uses
returns-in-Err-Fault-lookup-clause-uses g c = record {
  made = Lookup ∷ Lookup ∷ [];
  named = inr (inl refl);
  used = used_then g.H.Host.model (Lookup ∷ []) (Lookup ∷ []) c.args.host.now c.lookup.new.self c.lookup-2.new.self
      c.lookup.ensures.answered.used c.lookup-2.ensures.answered.used;
}

pub returns-in-Err-NoMemory-lookup-clause-uses : goal.returns-in-Err-NoMemory-lookup-clause-uses
returns-in-Err-NoMemory-lookup-clause-uses g c = record {
  made = Lookup ∷ Lookup ∷ [];
  named = inr refl;
  used = used_then g.H.Host.model (Lookup ∷ []) (Lookup ∷ []) c.args.host.now c.lookup.new.self c.lookup-2.new.self
      c.lookup.ensures.answered.used c.lookup-2.ensures.answered.used;
}
