-- Handles, numbers of objects and objects that were printed are read again.
use Rattle.std.proofs.Common.{◌≡◌, ℕ, ◌^◌, ◌<◌, List, [], ◌∷◌, ◌++◌, Some, refl, ap, ◌∙◌, append_assoc, inl, inr, arith}
use Rattle.std.specs.Prelude.{◌==◌, codes, if◌then◌else◌}
use Rattle.std.specs.List.{prefix_len}
use Rattle.std.specs.Fmt.{decimal}
use Rattle.std.proofs.lemmas.Bool.{cases_eq, ne_eqb}
use Rattle.xc_data.specs.declared.object.Num.{Num}
use Rattle.xc_data.specs.declared.object.Object.{Object}
use Rattle.xc_data.specs.declared.object.Object.TheVariants.{Word, Name, File, Pipe, Pair, Jobs}
use Rattle.xc_data.specs.Spelling.{is_name_byte}
use Rattle.xc_tokens.specs.Numbers.{is_digit}
use Rattle.xc_print.specs.Objects.{handle_text, num_text, object_text}
use Rattle.xc_lines.specs.Ranges.{IsNumInRange, IsObjectInRange}
use Rattle.xc_lines.specs.Parts.{handle_from, handle_at, num_at, any_object_at, word_object_at, name_object_at, file_object_at, pipe_object_at}
use Rattle.xc_lines.specs.Parts.{pair_object_at, jobs_object_at}
use Rattle.xc_lines.proofs.Spelled.{small_again, tiny_again, not_past, name_again}

-- nothing behind a value goes on with a number or a name
pub record EndsField (rest : List ℕ) : Type 0 where
  pub digits : prefix_len is_digit rest ≡ 0
  pub names : prefix_len is_name_byte rest ≡ 0

-- a handle behind its `h`
abbrev pub bare_text : ℕ → List ℕ
bare_text h = if h == 65535 then codes "-" else decimal h

-- a handle is read again behind its `h`
pub bare_again : (h : ℕ) (rest : List ℕ) → h < 2 ^ 16 → prefix_len is_digit rest ≡ 0 → handle_from (bare_text h ++ rest) ≡ Some (h, rest)
unfolding handle_from
bare_again h rest small stop =
    elim (cases_eq h 65535) [
      | inl same ↦ rw same refl
      | inr other ↦ rw (ne_eqb h 65535 other, not_past 45 [] h rest (omega arith) refl, tiny_again h rest small stop) refl
    ]

-- what stands behind a handle's `h`
pub handle_is : (h : ℕ) (rest : List ℕ) → handle_text h ++ rest ≡ 104 ∷ (bare_text h ++ rest)
handle_is h rest =
    elim (cases_eq h 65535) [
      | inl same ↦ rw same refl
      | inr other ↦ rw (ne_eqb h 65535 other) refl
    ]

-- a handle is read again
pub handle_again : (h : ℕ) (rest : List ℕ) → h < 2 ^ 16 → prefix_len is_digit rest ≡ 0 → handle_at (handle_text h ++ rest) ≡ Some (h, rest)
unfolding handle_at
handle_again h rest small stop = ap handle_at (handle_is h rest) ∙ bare_again h rest small stop

-- the number of a file, pipe or pair is read again
pub num_again : (num : Num) (rest : List ℕ) → IsNumInRange num → prefix_len is_digit rest ≡ 0 → num_at (num_text num ++ rest) ≡ Some (num, rest)
unfolding num_at
num_again num rest within stop =
    let apart : num_text num ++ rest ≡ decimal num.tx ++ 46 ∷ (decimal num.k ++ rest) = simp append_assoc in
    ap num_at apart ∙ rw (small_again num.tx (46 ∷ (decimal num.k ++ rest)) within.tx refl, tiny_again num.k rest within.k stop) refl

-- an object is read again, before what ends its name or number
pub object_again : (object : Object) (rest : List ℕ) → IsObjectInRange object → EndsField rest
    → any_object_at (object_text object ++ rest) ≡ Some (object, rest)
unfolding any_object_at word_object_at name_object_at file_object_at pipe_object_at pair_object_at jobs_object_at
object_again (Word at) rest within stop = rw (small_again at rest within stop.digits) refl
object_again (Name name) rest within stop = rw (name_again name rest within stop.names) refl
object_again (File num) rest within stop = rw (num_again num rest within stop.digits) refl
object_again (Pipe num) rest within stop = rw (num_again num rest within stop.digits) refl
object_again (Pair num) rest within stop = rw (num_again num rest within stop.digits) refl
object_again Jobs rest within stop = refl
