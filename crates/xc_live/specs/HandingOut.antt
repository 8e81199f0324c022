-- The entries of a desk's journal, handed out.
use Rattle.std.specs.Prelude.{◌≡◌, ◌++◌, List, length, take}
use Rattle.xc_data.specs.Step.{Step}
use Rattle.xc_data.specs.declared.entry.Entry.{Entry}
use Rattle.xc_station.specs.Stations.{StationView, entries_held}

-- the entries that were handed out so far
abbrev pub entries_gone : {H : Type 0} → StationView H → List Entry
entries_gone desk = take desk.gone desk.journal

-- all that wait are handed out, and nothing else changes; behind those that were handed out before they are the journal
pub record AreHandedOut {H : Type 0} (entries : List Entry) (desk : Step (StationView H)) : Type 0 where
  pub held : entries ≡ entries_held desk.old
  pub same : desk.new ≡ record desk.old { gone = length desk.old.journal }
  pub behind : entries_gone desk.old ++ entries ≡ desk.old.journal
