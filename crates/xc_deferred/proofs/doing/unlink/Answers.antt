use Rattle.std.proofs.Common.{[], ◌∷◌, inr, refl, rules}
use Rattle.xc_data.specs.declared.script.HostCallKind.TheVariants.{Lookup, Unlink}
use Rattle.xc_host.proofs.Laws.{used_then}
use Rattle.xc_deferred.proofs.doing.unlink.Goals as goal

pub returns-in-Err-clause-ends : goal.returns-in-Err-clause-ends
returns-in-Err-clause-ends g c = record {
  cause = search rules;
  uses = record {
    made = Lookup ∷ Unlink ∷ [];
    named = inr refl;
    used = used_then g.H.Host.model (Lookup ∷ []) (Unlink ∷ []) c.args.host.now c.lookup.new.self c.unlink.new.self
        c.lookup.ensures.answered.used c.unlink.ensures.answered.used;
  };
  does = search rules;
}
