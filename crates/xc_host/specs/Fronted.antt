-- A host with kept items in front of what it holds, as contracts see it.
use Rattle.std.specs.Prelude.{List}
use Rattle.xc_data.specs.declared.entry.KeptItem.{KeptItem}
use Rattle.xc_host.specs.Kept.{with_kept}
use Rattle.xc_host.specs.Model.{HostModel}

-- a host, and what is kept in front of it
pub record Fronted (H : Type 0) : Type 0 where
  pub host : H
  pub items : List KeptItem

-- it is called and fails as the host, and where that tells it holds what is kept too
abbrev pub fronted : {H : Type 0} → HostModel H → HostModel (Fronted H)
fronted model = record {
  tells = model.tells;
  takes_scripts = model.takes_scripts;
  contents = λ f. with_kept (model.contents f.host) f.items;
  fault_count = λ f. model.fault_count f.host;
  calls = λ f. model.calls f.host;
  plan = λ f. model.plan f.host;
}

-- a host with these items in front
abbrev pub before : {H : Type 0} → H → List KeptItem → Fronted H
before host items = record { host = host; items = items }
