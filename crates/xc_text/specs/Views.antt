-- What indexes of the code are in the grammar.
use Rattle.std.specs.Prelude.{◌≡◌, ℕ, List, is_some}
use Rattle.std.specs.FinMap as map
use Rattle.std.specs.List.{list_any}
use Rattle.xc_data.specs.declared.script.Opened.{Opened}
use Rattle.xc_maps.specs.Keys.{name_cmp}
use Rattle.xc_text.specs.Steps.{is_among, is_file_of}

-- an index of files: a name is there where some object is the file of that name
abbrev pub NamesFiles : map.FinMap name_cmp (Unit {0}) → List Opened → Type 0
NamesFiles names objects = (name : List ℕ) → is_some (map.get names name) ≡ list_any (is_file_of name) objects

-- an index of names
abbrev pub Indexes : map.FinMap name_cmp (Unit {0}) → List (List ℕ) → Type 0
Indexes index names = (name : List ℕ) → is_some (map.get index name) ≡ is_among name names
