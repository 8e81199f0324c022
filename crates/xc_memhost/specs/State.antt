-- What a host in memory keeps.
use Rattle.std.specs.Prelude.{ℕ, true, List, [], Option, refl}
use Rattle.std.specs.declared.option.Option.TheVariants.{None}
use Rattle.std.specs.Coded.{Coded, code_by, coded×, coded_ℕ, coded_list, coded_option}
use Rattle.std.specs.FinMap as map
use Rattle.xc_data.specs.declared.object.Num.{Num}
use Rattle.xc_data.specs.declared.script.FaultLine.{FaultLine}
use Rattle.xc_data.specs.declared.script.Prologue.{Prologue}
use Rattle.xc_data.specs.contracts.script.FaultLine as fault_line
use Rattle.xc_maps.specs.Keys.{name_cmp, num_cmp, coded_name, coded_num}
use Rattle.xc_world.specs.World.{Pipe, Pair, coded_pipe, coded_pair}
use Rattle.xc_host.specs.Contents.{Contents, no_contents, opened}
use Rattle.xc_host.specs.Counting.{no_calls, calls_of}
use Rattle.xc_host.specs.Model.{HostModel}

-- the contents, the lines that say which calls fail, the most bytes of one call, how many calls there
-- were of each kind, and how many of them failed
pub record MemState : Type 0 where
  pub contents : Contents
  pub lines : List FaultLine
  pub grain : Option ℕ
  pub calls : List ℕ
  pub fault_count : ℕ

-- holds nothing, and nothing fails
abbrev pub empty_state : MemState
empty_state = record { contents = no_contents; lines = []; grain = None; calls = no_calls; fault_count = 0 }

-- opened with a prologue, after so many faults
abbrev pub opened_state : Prologue → ℕ → MemState
opened_state prologue n = record
    { contents = opened prologue.objects; lines = prologue.faults; grain = prologue.grain; calls = no_calls; fault_count = n }

-- what contracts see of it
abbrev pub mem_host_model : HostModel MemState
mem_host_model = record {
  tells = true;
  takes_scripts = true;
  contents = λ s. s.contents;
  fault_count = λ s. s.fault_count;
  calls = λ s. calls_of s.calls;
  plan = λ s. record { faults = s.lines; grain = s.grain };
}

-- ---- how a proof stores a state
-- contents
abbrev pub coded_contents : Coded Contents
coded_contents =
    code_by
    (map.FinMap name_cmp Num × (map.FinMap num_cmp (List ℕ) × (map.FinMap num_cmp Pipe × map.FinMap num_cmp Pair)))
    (coded× (map.code coded_name coded_num)
    (coded× (map.code coded_num coded_name) (coded× (map.code coded_num coded_pipe) (map.code coded_num coded_pair))))
    (λ c. (c.names, (c.files, (c.pipes, c.pairs))))
    (λ p. record { names = p.0; files = p.1.0; pipes = p.1.1.0; pairs = p.1.1.1 })
    (λ _. refl)

-- a line of faults
abbrev pub coded_line : Coded FaultLine
coded_line = fault_line.the_row.coded

-- a whole state
abbrev pub coded_state : Coded MemState
coded_state =
    code_by
    (Contents × (List FaultLine × (Option ℕ × (List ℕ × ℕ))))
    (coded× coded_contents (coded× (coded_list coded_line) (coded× (coded_option coded_ℕ) (coded× coded_name coded_ℕ))))
    (λ s. (s.contents, (s.lines, (s.grain, (s.calls, s.fault_count)))))
    (λ p. record { contents = p.0; lines = p.1.0; grain = p.1.1.0; calls = p.1.1.1.0; fault_count = p.1.1.1.1 })
    (λ _. refl)
