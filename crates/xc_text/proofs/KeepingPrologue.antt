-- A prologue line keeps what is sound.
use Rattle.std.proofs.Common.{◌≡◌, ℕ, ◌+◌, ◌<◌, ◌≤◌, List, [], ◌∷◌, ◌++◌, length, Option, None, Some, IfSome, cond}
use Rattle.std.proofs.Common.{subst, append_assoc, arith, nat_lt, nat_le, ◌||◌, ◌&&◌}
use Rattle.std.specs.Prelude.{All, count_by, is_some}
use Rattle.std.specs.List.{list_any}
use Rattle.std.proofs.lemmas.Bool.{cond_both, ltb-true, ltb-false, leb-false, leb-true, and_parts, or_parts}
use Rattle.std.proofs.lemmas.List.{length-append, length-replicate, length-set}
use Rattle.std.proofs.lemmas.List.Elements.{All-push}
use Rattle.std.proofs.lemmas.List.Sums.{sum_by_push}
use Rattle.xc_data.specs.declared.script.HostCallKind.{HostCallKind}
use Rattle.xc_data.specs.declared.script.Opened.{Opened}
use Rattle.xc_data.specs.declared.script.Opened.TheVariants.{File, Pipe, Pair}
use Rattle.xc_data.specs.Limits.{IsOpenedFit, is_pipe_line, is_pair_line}
use Rattle.xc_text.specs.Kinds.{kind}
use Rattle.xc_text.specs.Said.{Names, Said}
use Rattle.xc_text.specs.Scripts.{AreCalls}
use Rattle.xc_text.specs.Steps.{are_few, is_file_of, sized_by, valued_by, file_added, faulted, grain_stated}
use Rattle.xc_text.specs.Steps.{has_room_for_pipe, piped_at, piped, has_room_for_pair, paired_at, paired}
use Rattle.xc_text.specs.Steps.{filed}
use Rattle.xc_text.specs.Places.{Placed, variable, placed_two}
use Rattle.xc_text.proofs.Growing.{KeepsVariables, has_place, variable_grows, have_places, variables_grow}
use Rattle.xc_text.proofs.Sound.{IsReaderSound, KeepsSound}

-- a line of `words` keeps it
pub sized-keeps : (r : Said) (n : ℕ) → IsReaderSound r → KeepsSound (sized_by r n)
sized-keeps r n k =
    cond_both (nat_lt n 1 || nat_lt 4096 n) _ _ KeepsSound (λ _. tt) (λ fits.
    cond_both (r.sized || r.valued) _ _ KeepsSound (λ _. tt) (λ _.
    let parts = or_parts _ _ fits in
    record {
      words = record { some = rw length-replicate (ltb-false _ _ parts.0); few = rw length-replicate (ltb-false _ _ parts.1) };
      opening = k.opening;
      begun = k.begun;
      under_way = k.under_way;
      each_block = k.each_block;
      names = k.names;
      handles = k.handles;
    }))

-- a line of `word` keeps it
pub valued-keeps : (r : Said) (at value : ℕ) → IsReaderSound r → KeepsSound (valued_by r at value)
valued-keeps r at value k =
    cond_both (nat_le (length r.words) at) _ _ KeepsSound (λ _. tt) (λ _.
    record {
      words = record { some = rw length-set k.words.some; few = rw length-set k.words.few };
      opening = k.opening;
      begun = k.begun;
      under_way = k.under_way;
      each_block = k.each_block;
      names = k.names;
      handles = k.handles;
    })

pipes_of : (objects : List Opened) (o : Opened) → count_by is_pipe_line (objects ++ o ∷ []) ≡ count_by is_pipe_line objects + cond (is_pipe_line o) 1 0
pipes_of objects o = sum_by_push (λ x. cond (is_pipe_line x) 1 0) objects o

pairs_of : (objects : List Opened) (o : Opened) → count_by is_pair_line (objects ++ o ∷ []) ≡ count_by is_pair_line objects + cond (is_pair_line o) 1 0
pairs_of objects o = sum_by_push (λ x. cond (is_pair_line x) 1 0) objects o

added-keeps : (r : Said) (file : List ℕ) (bytes : Option (List ℕ)) → IfSome bytes (λ bs. length bs ≤ 65536) → IsReaderSound r
    → KeepsSound (file_added r file bytes)
added-keeps r file None few k = tt
added-keeps r file (Some bytes) few k =
    cond_both (nat_le 4096 (length r.objects)) _ _ KeepsSound (λ _. tt) (λ room.
    record {
      words = k.words;
      opening = record {
        objects = record {
          few = rw length-append (omega (arith, leb-false _ _ room));
          fit = All-push IsOpenedFit r.objects (File file bytes) k.opening.objects.fit few;
          pipes = omega (arith, k.opening.objects.pipes, pipes_of r.objects (File file bytes));
          pairs = omega (arith, k.opening.objects.pairs, pairs_of r.objects (File file bytes));
        };
        faults = k.opening.faults;
        grain = k.opening.grain;
      };
      begun = k.begun;
      under_way = k.under_way;
      each_block = k.each_block;
      names = k.names;
      handles = record {
        count = omega (arith, k.handles.count, pipes_of r.objects (File file bytes), pairs_of r.objects (File file bytes));
        each = k.handles.each;
      };
    })

-- a line of `file` keeps it
pub filed-keeps : (r : Said) (file : List ℕ) (bytes : Option (List ℕ)) → IfSome bytes (λ bs. length bs ≤ 65536) → IsReaderSound r
    → KeepsSound (filed r file bytes)
filed-keeps r file bytes few k =
    cond_both (list_any (is_file_of file) r.objects) _ _ KeepsSound (λ _. tt) (λ _. added-keeps r file bytes few k)

-- places of variables stay such
pub kept_within : (old new : Names) (places : List ℕ) → KeepsVariables old new → All (λ v. v < length old.variables) places
    → All (λ v. v < length new.variables) places
kept_within old new places grows all = λ i d lt. omega (arith, all i d lt, grows)

piped_at-keeps : (r : Said) (bytes : List ℕ) (p : Placed ℕ) → length bytes ≤ 4096 → p.1 < length p.0.variables → KeepsVariables r.names p.0 → IsReaderSound r
    → KeepsSound (piped_at r bytes p)
piped_at-keeps r bytes p few within grows k =
    cond_both (has_room_for_pipe r.objects && are_few p.0) _ _ KeepsSound (λ room.
    let parts = and_parts (has_room_for_pipe r.objects) (are_few p.0) room in
    let objects = and_parts (nat_lt (length r.objects) 4096) (nat_lt (count_by is_pipe_line r.objects) 64) parts.0 in
    let names = and_parts (nat_le (length p.0.variables) 256) (nat_le (length p.0.slots) 256) parts.1 in
    record {
      words = k.words;
      opening = record {
        objects = record {
          few = rw length-append (omega (arith, ltb-true _ _ objects.0));
          fit = All-push IsOpenedFit r.objects (Pipe bytes) k.opening.objects.fit few;
          pipes = omega (arith, ltb-true _ _ objects.1, pipes_of r.objects (Pipe bytes));
          pairs = omega (arith, k.opening.objects.pairs, pairs_of r.objects (Pipe bytes));
        };
        faults = k.opening.faults;
        grain = k.opening.grain;
      };
      begun = k.begun;
      under_way = k.under_way;
      each_block = k.each_block;
      names = record { variables = leb-true _ _ names.0; slots = leb-true _ _ names.1 };
      handles = record {
        count = rw length-append (omega (arith, k.handles.count, pipes_of r.objects (Pipe bytes), pairs_of r.objects (Pipe bytes)));
        each = All-push (λ v. v < length p.0.variables) r.handles p.1 (kept_within r.names p.0 r.handles grows k.handles.each) within;
      };
    }) (λ _. tt)

-- a line of `pipe` keeps it
pub piped-keeps : (r : Said) (handle : List ℕ) (bytes : Option (List ℕ)) → IfSome bytes (λ bs. length bs ≤ 4096) → IsReaderSound r
    → KeepsSound (piped r handle bytes)
piped-keeps r handle None few k = tt
piped-keeps r handle (Some bytes) few k =
    piped_at-keeps r bytes (variable r.names handle) few (has_place r.names handle) (variable_grows r.names handle) k

-- places of variables, and two more of them
All-push_two : (P : ℕ → Type 0) (places : List ℕ) (a b : ℕ) → All P places → P a → P b → All P (places ++ a ∷ b ∷ [])
All-push_two P places a b all first second =
    subst (All P) (append_assoc places (a ∷ []) (b ∷ [])) (All-push P (places ++ a ∷ []) b (All-push P places a all first) second)

paired_at-keeps : (r : Said) (p : Placed (ℕ × ℕ)) → (p.1.0 < length p.0.variables) × (p.1.1 < length p.0.variables) → KeepsVariables r.names p.0
    → IsReaderSound r → KeepsSound (paired_at r p)
paired_at-keeps r p within grows k =
    cond_both (has_room_for_pair r.objects && are_few p.0) _ _ KeepsSound (λ room.
    let parts = and_parts (has_room_for_pair r.objects) (are_few p.0) room in
    let objects = and_parts (nat_lt (length r.objects) 4096) (nat_lt (count_by is_pair_line r.objects) 32) parts.0 in
    let names = and_parts (nat_le (length p.0.variables) 256) (nat_le (length p.0.slots) 256) parts.1 in
    let places = kept_within r.names p.0 r.handles grows k.handles.each in
    record {
      words = k.words;
      opening = record {
        objects = record {
          few = rw length-append (omega (arith, ltb-true _ _ objects.0));
          fit = All-push IsOpenedFit r.objects Pair k.opening.objects.fit tt;
          pipes = omega (arith, k.opening.objects.pipes, pipes_of r.objects Pair);
          pairs = omega (arith, ltb-true _ _ objects.1, pairs_of r.objects Pair);
        };
        faults = k.opening.faults;
        grain = k.opening.grain;
      };
      begun = k.begun;
      under_way = k.under_way;
      each_block = k.each_block;
      names = record { variables = leb-true _ _ names.0; slots = leb-true _ _ names.1 };
      handles = record {
        count = rw length-append (omega (arith, k.handles.count, pipes_of r.objects Pair, pairs_of r.objects Pair));
        each = All-push_two (λ v. v < length p.0.variables) r.handles p.1.0 p.1.1 places within.0 within.1;
      };
    }) (λ _. tt)

-- a line of `pair` keeps it
pub paired-keeps : (r : Said) (first second : List ℕ) → IsReaderSound r → KeepsSound (paired r first second)
paired-keeps r first second k =
    paired_at-keeps r (placed_two r.names first second) (have_places r.names first second) (variables_grow r.names first second) k

-- a line of `fault` keeps it
pub faulted-keeps : (r : Said) (kind : HostCallKind) (first last : ℕ) → IsReaderSound r → KeepsSound (faulted r kind first last)
faulted-keeps r kind first last k =
    cond_both (nat_lt first 1 || nat_lt last first) _ _ KeepsSound (λ _. tt) (λ counted.
    let parts = or_parts _ _ counted in
    record {
      words = k.words;
      opening = record {
        objects = k.opening.objects;
        faults = All-push AreCalls r.faults _ k.opening.faults (ltb-false _ _ parts.0, ltb-false _ _ parts.1);
        grain = k.opening.grain;
      };
      begun = k.begun;
      under_way = k.under_way;
      each_block = k.each_block;
      names = k.names;
      handles = k.handles;
    })

-- a line of `grain` keeps it
pub grained-keeps : (r : Said) (n : ℕ) → IsReaderSound r → KeepsSound (grain_stated r n)
grained-keeps r n k =
    cond_both (nat_lt n 1 || nat_lt 65536 n) _ _ KeepsSound (λ _. tt) (λ fits.
    cond_both (is_some r.grain) _ _ KeepsSound (λ _. tt) (λ _.
    let parts = or_parts _ _ fits in
    record {
      words = k.words;
      opening = record {
        objects = k.opening.objects;
        faults = k.opening.faults;
        grain = (ltb-false _ _ parts.0, ltb-false _ _ parts.1);
      };
      begun = k.begun;
      under_way = k.under_way;
      each_block = k.each_block;
      names = k.names;
      handles = k.handles;
    }))
