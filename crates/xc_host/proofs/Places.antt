-- The kinds of calls by their places, and counts of them.
use Rattle.std.proofs.Common.{◌≡◌, ◌≢◌, ℕ, ◌+◌, ◌<◌, ◌==◌, Bool, true, false, cond, List, [], ◌∷◌, length, get_or, set}
use Rattle.std.proofs.Common.{refl, ap, sym, ◌∙◌, subst, arith, rules}
use Rattle.std.proofs.lemmas.Bool.{eq-eqb, eqb-true}
use Rattle.std.proofs.lemmas.List.{length-set, get_or-set_other}
use Rattle.std.proofs.lemmas.Grind.{get_or-set_at}
use Rattle.xc_data.specs.Counts.{counted, RisesBy}
use Rattle.xc_data.specs.Kinds.{is_kind, kind_place}
use Rattle.xc_data.specs.declared.script.HostCallKind.{HostCallKind}
use Rattle.xc_data.specs.declared.script.HostCallKind.TheVariants as kind
use Rattle.xc_host.specs.Cause.{times, IsCalled}
use Rattle.xc_host.specs.Counting.{calls_of, next_call_number, with_call}

-- the kinds by their places
abbrev kinds : List HostCallKind
kinds =
    kind.Lookup ∷ kind.Create ∷ kind.Len ∷ kind.ReadAt ∷ kind.WriteAt ∷ kind.Append ∷ kind.Rename ∷ kind.Unlink ∷ kind.Sync ∷ kind.NewPipe
    ∷ kind.PipeState ∷ kind.Take ∷ kind.Put ∷ kind.NewPair ∷ kind.PairState ∷ kind.Recv ∷ kind.Send ∷ kind.Shut ∷ kind.Restore ∷ kind.Cut
    ∷ kind.Uncreate ∷ kind.NameBack ∷ kind.DropPipe ∷ kind.DropPair ∷ kind.Any ∷ []

at_place : (a : HostCallKind) → get_or kinds (kind_place a) kind.Any ≡ a
at_place kind.Any = refl
at_place _ = refl

exact : (a b : HostCallKind) → is_kind a b ≡ true → a ≡ b
exact a b e = search (rules)

itself : (a : HostCallKind) → is_kind a a ≡ true
itself kind.Any = refl
itself _ = refl

same_place_at : (a b : HostCallKind) (s p : Bool) → is_kind a b ≡ s → (kind_place a == kind_place b) ≡ p → s ≡ p
same_place_at a b true p e q = sym (ap (λ x. kind_place x == kind_place b) (exact a b e) ∙ eq-eqb (kind_place b) (kind_place b) refl) ∙ q
same_place_at a b false false e q = refl
same_place_at a b false true e q =
    let one : a ≡ b = sym (at_place a) ∙ ap (λ n. get_or kinds n kind.Any) (eqb-true _ _ q) ∙ at_place b in
    sym e ∙ ap (is_kind a) (sym one) ∙ itself a

-- two kinds are one where they have one place
pub same_place : (a b : HostCallKind) → is_kind a b ≡ (kind_place a == kind_place b)
same_place a b = same_place_at a b _ _ refl refl

-- a kind's place is one of 25
pub place_bound : (a : HostCallKind) → kind_place a < 25
place_bound kind.Any = omega arith
place_bound _ = omega arith

-- ---- one call more
-- a count at a kind's place, where another's rises
counts_at : (counts : List ℕ) (made k : HostCallKind) (same : Bool) → is_kind k made ≡ same → length counts ≡ 25
    → RisesBy (0 + cond same 1 0) (calls_of counts k) (calls_of (set counts (kind_place made) (next_call_number made counts)) k)
counts_at counts made k true is len =
    let one : kind_place k ≡ kind_place made = ap kind_place (exact k made is) in
    get_or-set_at counts (kind_place made) (kind_place k) (next_call_number made counts) 0 one (omega (arith, place_bound made, len))
    ∙ ap (λ i. counted (get_or counts i 0)) (sym one)
counts_at counts made k false is len =
    get_or-set_other counts (kind_place made) (kind_place k) (next_call_number made counts) 0
    (λ one. let yes : is_kind k made ≡ true = same_place k made ∙ eq-eqb (kind_place k) (kind_place made) one in absurd (cc))

-- where all are counted, the count of a kind with another place stays
counts_other : (counts : List ℕ) (made k : HostCallKind) (n : ℕ) → kind_place k ≢ 24 → length counts ≡ 25
    → RisesBy (0 + cond (is_kind k made) 1 0) (calls_of counts k)
    (calls_of (set (set counts (kind_place made) (next_call_number made counts)) 24 n) k)
counts_other counts made k n apart len =
    subst (RisesBy (0 + cond (is_kind k made) 1 0) (calls_of counts k))
    (sym (get_or-set_other (set counts (kind_place made) (next_call_number made counts)) 24 (kind_place k) n 0 apart))
    (counts_at counts made k _ refl len)

-- a call is counted for its kind and for `Any`, and for no other
pub counts_one : (counts : List ℕ) (made k : HostCallKind) → length counts ≡ 25
    → RisesBy (times k (made ∷ [])) (calls_of counts k) (calls_of (with_call made counts) k)
counts_one counts made kind.Any len =
    let own = set counts (kind_place made) (next_call_number made counts) in
    get_or-set_at own 24 24 (next_call_number kind.Any counts) 0 refl (omega (arith, len, length-set counts (kind_place made) (next_call_number made counts)))
counts_one counts made k len = counts_other counts made k (next_call_number kind.Any counts) (λ e. omega (arith, e)) len

-- the same of the counts after it
pub is_called : (before after : List ℕ) (made : HostCallKind) → after ≡ with_call made before → length before ≡ 25
    → IsCalled (made ∷ []) (calls_of before) (calls_of after)
is_called before after made is len =
    subst (λ counts. IsCalled (made ∷ []) (calls_of before) (calls_of counts)) (sym is) (λ k. counts_one before made k len)
