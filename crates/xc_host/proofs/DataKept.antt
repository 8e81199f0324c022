-- Calls of a host that keep each pipe and each pair.
use Rattle.std.proofs.Common.{◌≡◌, ℕ, Bool, true, false, cond, Some, List, [], ◌∷◌, refl, ap, ◌∙◌}
use Rattle.std.specs.Prelude.{is_some}
use Rattle.std.specs.FinMap as map
use Rattle.std.specs.Ordering.{eq_by_cmp}
use Rattle.xc_maps.proofs.Laws.{num_total}
use Rattle.xc_maps.specs.Keys.{num_cmp}
use Rattle.xc_data.specs.declared.object.Num.{Num}
use Rattle.xc_data.specs.declared.object.Object.{Object}
use Rattle.xc_data.specs.declared.object.Object.TheVariants as object
use Rattle.xc_host.specs.Contents.{Contents}
use Rattle.xc_host.specs.Kept.{KeepsData}
use Rattle.xc_host.specs.Pairs.{sent_from}
use Rattle.xc_host.specs.Pipes.{put_front, put_into, shut_in, taken_from, with_new_pipe}

-- what is there is there after a change of nothing
pub data_keeps_itself : (c : Contents) → KeepsData c c
data_keeps_itself c = record { pipes = λ num is. is; pairs = λ num is. is }

-- and after two changes that keep all
pub keeps_then : (c d e : Contents) → KeepsData c d → KeepsData d e → KeepsData c e
keeps_then c d e first second = record { pipes = λ num is. second.pipes num (first.pipes num is); pairs = λ num is. second.pairs num (first.pairs num is) }

-- what is there in a map is there where something is put into it
still_there : {X : Type 0} (m : map.FinMap num_cmp X) (at num : Num) (x : X) → is_some (map.get m num) ≡ true → is_some (map.get (map.insert m at x) num) ≡ true
still_there {X = X} m at num x is = ap is_some (map.get-insert num_total m at x num) ∙ by_test (eq_by_cmp num_cmp num at)
  where
    by_test : (b : Bool) → is_some (cond b (Some x) (map.get m num)) ≡ true
    by_test true = refl
    by_test false = is

-- bytes that are put
pub keeps_put : (c : Contents) (at : Num) (bytes : List ℕ) → KeepsData c (put_into c at bytes)
keeps_put c at bytes = record { pipes = λ num is. still_there c.pipes at num _ is; pairs = λ num is. is }

-- none, or some
pub keeps_front : (c : Contents) (at : Num) (bytes : List ℕ) → KeepsData c (put_front c at bytes)
keeps_front c at [] = data_keeps_itself c
keeps_front c at (b ∷ bs) = keeps_put c at (b ∷ bs)

-- bytes that are taken
pub keeps_taken : (c : Contents) (at : Num) (n : ℕ) → KeepsData c (taken_from c at n)
keeps_taken c at n = record { pipes = λ num is. still_there c.pipes at num _ is; pairs = λ num is. is }

-- a new pipe
pub keeps_new : (c : Contents) (at : Num) → KeepsData c (with_new_pipe c at)
keeps_new c at = record { pipes = λ num is. still_there c.pipes at num _ is; pairs = λ num is. is }

-- a message that is sent
pub keeps_sent : (c : Contents) (at : Num) (side : ℕ) (bytes : List ℕ) → KeepsData c (sent_from c at side bytes)
keeps_sent c at side bytes = record { pipes = λ num is. is; pairs = λ num is. still_there c.pairs at num _ is }

-- a pipe or a pair that is shut
pub keeps_shut : (c : Contents) (o : Object) → KeepsData c (shut_in c o)
keeps_shut c (object.Pipe at) = record { pipes = λ num is. still_there c.pipes at num _ is; pairs = λ num is. is }
keeps_shut c (object.Pair at) = record { pipes = λ num is. is; pairs = λ num is. still_there c.pairs at num _ is }
keeps_shut c (object.Word n) = data_keeps_itself c
keeps_shut c (object.Name name) = data_keeps_itself c
keeps_shut c (object.File num) = data_keeps_itself c
keeps_shut c object.Jobs = data_keeps_itself c
