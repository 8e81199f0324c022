-- What calls and late calls do to small worlds, computed.
use Rattle.std.proofs.Common.{◌≡◌, ℕ, true, false, Some, List, [], ◌∷◌, ◌++◌, length, refl}
use Rattle.std.specs.Prelude.{codes}
use Rattle.std.specs.FinMap as map
use Rattle.std.specs.Cmp.Lexicographic.{nat_list_cmp_total}
use Rattle.std.proofs.lemmas.Map.Lookups.{exact_bytes}
use Rattle.xc_data.specs.declared.object.Num.{Num}
use Rattle.xc_data.specs.declared.call.Call.TheVariants as call
use Rattle.xc_data.specs.declared.call.Answer.TheVariants as answer
use Rattle.xc_data.specs.declared.call.Reply.TheVariants as reply
use Rattle.xc_data.specs.declared.call.LateCall.TheVariants as late_call
use Rattle.xc_data.specs.declared.call.LateAnswer.TheVariants as late_answer
use Rattle.xc_data.specs.declared.call.LateEnd.TheVariants as end
use Rattle.xc_data.specs.declared.private.Place.{Place}
use Rattle.xc_data.specs.declared.private.Place.TheVariants as place
use Rattle.xc_data.specs.declared.private.Private.{Private}
use Rattle.xc_maps.specs.Keys.{num_cmp, name_cmp}
use Rattle.xc_maps.proofs.Laws.{get-insert_same, num_total, num_exact}
use Rattle.xc_world.specs.World.{World, Pipe, Pair, with_file, with_pipe, with_pair}
use Rattle.xc_world.specs.Act.{act}
use Rattle.xc_world.specs.Act.Step.{step_to}
use Rattle.xc_world.specs.Late.{late, ends}

abbrev first_num : Num
first_num = record { tx = 0; k = 0 }

-- a world of one word and two blocks
abbrev one_word_world : World
one_word_world =
    record {
      words = 7 ∷ [];
      names = map.empty;
      files = map.empty;
      pipes = map.empty;
      pairs = map.empty;
      started = [];
      blocks = codes "main" ∷ codes "child" ∷ [];
    }

-- with a file that has a name
abbrev with_hello : World
with_hello = record one_word_world { names = map.insert map.empty (codes "a") first_num; files = map.insert map.empty first_num (codes "hello") }

abbrev with_pipe_of : Pipe → World
with_pipe_of pipe = record one_word_world { pipes = map.insert map.empty first_num pipe }

abbrev with_pair_of : Pair → World
with_pair_of pair = record one_word_world { pairs = map.insert map.empty first_num pair }

-- one handle, and another vacant place
abbrev one_handle : Place → Private
one_handle p = record { places = p ∷ place.Vacant ∷ []; made = 0; stored = 0 }

hello_there : map.get (map.insert {R = num_cmp} map.empty first_num (codes "hello")) first_num ≡ Some (codes "hello")
hello_there = get-insert_same num_total num_exact map.empty first_num (codes "hello")

name_there : map.get (map.insert {R = name_cmp} map.empty (codes "a") first_num) (codes "a") ≡ Some first_num
name_there = get-insert_same nat_list_cmp_total exact_bytes map.empty (codes "a") first_num

pipe_there : (pipe : Pipe) → map.get (map.insert {R = num_cmp} map.empty first_num pipe) first_num ≡ Some pipe
pipe_there pipe = get-insert_same num_total num_exact map.empty first_num pipe

pair_there : (pair : Pair) → map.get (map.insert {R = num_cmp} map.empty first_num pair) first_num ≡ Some pair
pair_there pair = get-insert_same num_total num_exact map.empty first_num pair

-- an overwrite from the second byte on, and its two bytes are stored
pub overwrites_the_middle :
    act with_hello (one_handle (place.File first_num 1)) 1 (call.XWriteOvr 0 (codes "EL")) answer.Fine
    ≡ step_to (with_file with_hello first_num (codes "hELlo")) (record (one_handle (place.File first_num 3)) { stored = 2 }) reply.Done
overwrites_the_middle = rw hello_there refl

-- an overwrite that fails after one byte did that byte
pub overwrites_one_byte :
    act with_hello (one_handle (place.File first_num 1)) 1 (call.XWriteOvr 0 (codes "EL")) (answer.Fault 1)
    ≡ step_to (with_file with_hello first_num (codes "hEllo")) (record (one_handle (place.File first_num 2)) { stored = 2 }) (reply.Fault 1)
overwrites_one_byte = rw hello_there refl

-- an overwrite past the end changes nothing
pub overwrites_nothing_past_the_end :
    act with_hello (one_handle (place.File first_num 4)) 1 (call.XWriteOvr 0 (codes "EL")) answer.Fine
    ≡ step_to with_hello (record (one_handle (place.File first_num 4)) { stored = 2 }) reply.PastEnd
overwrites_nothing_past_the_end = rw hello_there refl

-- an append from the middle moves the position to the new end
pub appends_behind_the_end :
    act with_hello (one_handle (place.File first_num 1)) 1 (call.XWriteSeq 0 (codes "!")) answer.Fine
    ≡ step_to (with_file with_hello first_num (codes "hello!")) (record (one_handle (place.File first_num 6)) { stored = 1 }) reply.Done
appends_behind_the_end = rw hello_there refl

-- a read at the end
pub reads_the_end :
    act with_hello (one_handle (place.File first_num 5)) 1 (call.XRead 0 9) answer.Fine ≡ step_to with_hello (one_handle (place.File first_num 5)) reply.End
reads_the_end = rw hello_there refl

-- a rename of a name onto itself
pub renames_onto_itself :
    act with_hello (one_handle place.Vacant) 1 (call.XRename (codes "a") (codes "a")) answer.Fine ≡ step_to with_hello (one_handle place.Vacant) reply.Exists
renames_onto_itself = rw name_there refl

-- an unlink takes the name and leaves the file
pub unlinks_the_name :
    late with_hello (late_call.Unlink (codes "a")) late_answer.Fine
    ≡ ends (record with_hello { names = map.remove with_hello.names (codes "a") }) end.Done
unlinks_the_name = rw name_there refl

-- two bytes go to a pipe that has room for one
pub puts_what_fits : (held : List ℕ) → length held ≡ 4095
    → late (with_pipe_of (record { held = held; shut = false })) (late_call.WritePipe first_num (codes "ab")) late_answer.Fine
    ≡ ends (with_pipe (with_pipe_of (record { held = held; shut = false })) first_num (record { held = held ++ codes "a"; shut = false })) (end.Full 1)
puts_what_fits held e = rw (pipe_there (record { held = held; shut = false }), e) refl

-- a message after the shutdown
pub sends_nothing_when_shut :
    late (with_pair_of (record { first = []; second = []; shut = true })) (late_call.Send first_num 0 (codes "hi")) late_answer.Fine
    ≡ ends (with_pair_of (record { first = []; second = []; shut = true })) end.Shut
sends_nothing_when_shut = rw (pair_there (record { first = []; second = []; shut = true })) refl

-- a message from side 0 waits for side 1
pub sends_to_the_other_side :
    late (with_pair_of (record { first = []; second = []; shut = false })) (late_call.Send first_num 0 (codes "hi")) late_answer.Fine
    ≡ ends (with_pair (with_pair_of (record { first = []; second = []; shut = false })) first_num
    (record { first = []; second = codes "hi" ∷ []; shut = false })) end.Done
sends_to_the_other_side = rw (pair_there (record { first = []; second = []; shut = false })) refl

-- a block that the script doesn't have
pub starts_no_stranger : late one_word_world (late_call.Thread (codes "none")) late_answer.Fine ≡ ends one_word_world end.NoScript
starts_no_stranger = refl
