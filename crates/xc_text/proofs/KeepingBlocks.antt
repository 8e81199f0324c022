-- A line of a block, and one between blocks, keeps what is sound.
use Rattle.std.proofs.Common.{◌≡◌, ℕ, ◌+◌, ◌<◌, ◌≤◌, Bool, true, false, List, ◌++◌, length, Result, IfOk, IfSome}
use Rattle.std.proofs.Common.{refl, subst, arith, nat_le, ◌&&◌}
use Rattle.std.specs.Prelude.{IsPermutation}
use Rattle.std.proofs.lemmas.Bool.{cond_both, leb-false, leb-true, and_parts}
use Rattle.std.proofs.lemmas.List.{length-append, map-append}
use Rattle.std.proofs.lemmas.List.Elements.{All-nil, All-push}
use Rattle.xc_text.specs.Stated.{Statement}
use Rattle.xc_text.specs.declared.line.ScriptLine.{ScriptLine}
use Rattle.xc_text.specs.declared.line.ScriptLine.TheVariants as line
use Rattle.xc_text.specs.declared.line.Section.{Section}
use Rattle.xc_text.specs.declared.line.Section.TheVariants.{Prologue, Between, Block, Transaction}
use Rattle.xc_tokens.specs.declared.why.Why.{Why}
use Rattle.xc_text.specs.Inner.{is_open, may_stand}
use Rattle.xc_text.specs.Kinds.{kind}
use Rattle.xc_text.specs.Named as named
use Rattle.xc_text.specs.Said.{Names, Said}
use Rattle.xc_text.specs.Sections.{block_in, transaction_in, is_outside}
use Rattle.xc_text.specs.Scripts.{names_of, IsBlock}
use Rattle.xc_text.specs.Steps.{are_few, has_few_calls, is_among}
use Rattle.xc_text.specs.Steps.{may_begin, started, bodied, transaction_begun, stated_as, committed, ended_block, after_line}
use Rattle.xc_text.specs.Places.{Placed, placed_statement}
use Rattle.xc_tokens.specs.Words.{name}
use Rattle.xc_text.proofs.Growing.{KeepsVariables, placed_grows}
use Rattle.xc_text.proofs.Indexing.{job_among, body_among, distinct_job, distinct_body}
use Rattle.xc_text.proofs.Results.{seen_keeps}
use Rattle.xc_text.proofs.Standing.{stand-push, inner_where_closed}
use Rattle.xc_text.proofs.Sound.{CountFits, IsBody, HasInner, AreUnderWay, all_names, IsReaderSound, KeepsSound, count_fits_at, names_at}
use Rattle.xc_text.proofs.KeepingPrologue.{sized-keeps, valued-keeps, filed-keeps, kept_within, piped-keeps, paired-keeps}
use Rattle.xc_text.proofs.KeepingPrologue.{faulted-keeps, grained-keeps}

stated-keeps : (s : Said) (p : Placed Statement) → KeepsVariables s.names p.0 → may_stand (is_open s.body) p.1 ≡ true → IsReaderSound s
    → KeepsSound (stated_as s p)
stated-keeps s p grows may k =
    cond_both (has_few_calls s.body p.1 && are_few p.0) _ _ KeepsSound (λ few.
    record {
      words = k.words;
      opening = k.opening;
      begun = k.begun;
      under_way = record {
        count = k.under_way.count;
        calls = k.under_way.calls;
        inner = k.under_way.inner;
        body = leb-true _ _ (and_parts _ _ few).0;
        stand = stand-push false s.body p.1 k.under_way.stand may;
      };
      each_block = k.each_block;
      names = record {
        variables = leb-true _ _ (and_parts _ _ (and_parts _ _ few).1).0;
        slots = leb-true _ _ (and_parts _ _ (and_parts _ _ few).1).1;
      };
      handles = record { count = k.handles.count; each = kept_within s.names p.0 s.handles grows k.handles.each };
    }) (λ _. tt)

begun-keeps : (r : Said) (p : Section) → r.section ≡ p → IsReaderSound r → KeepsSound (transaction_begun r (block_in p))
begun-keeps r Prologue e k = tt
begun-keeps r Between e k = tt
begun-keeps r (Transaction name) e k = tt
begun-keeps r (Block name) e k =
    cond_both (nat_le 1000 (length r.transactions)) _ _ KeepsSound (λ _. tt) (λ room.
    record {
      words = k.words;
      opening = k.opening;
      begun = record { named = names_at r (Block name) e k; few = k.begun.few; distinct = k.begun.distinct };
      under_way = record {
        count = leb-false _ _ room;
        calls = k.under_way.calls;
        inner = k.under_way.inner;
        body = k.under_way.body;
        stand = k.under_way.stand;
      };
      each_block = k.each_block;
      names = k.names;
      handles = k.handles;
    })

committed-keeps : (r : Said) (p : Section) → r.section ≡ p → is_open r.body ≡ false → IsReaderSound r → KeepsSound (committed r (transaction_in p))
committed-keeps r Prologue e closed k = tt
committed-keeps r Between e closed k = tt
committed-keeps r (Block name) e closed k = tt
committed-keeps r (Transaction name) e closed k =
    record {
      words = k.words;
      opening = k.opening;
      begun = record { named = names_at r (Transaction name) e k; few = k.begun.few; distinct = k.begun.distinct };
      under_way = record {
        count = rw length-append (omega (arith, count_fits_at r (Transaction name) e k));
        calls = All-push IsBody r.transactions r.body k.under_way.calls k.under_way.body;
        inner = All-push HasInner r.transactions r.body k.under_way.inner (inner_where_closed false r.body k.under_way.stand closed);
        body = omega arith;
        stand = refl;
      };
      each_block = k.each_block;
      names = k.names;
      handles = k.handles;
    }

ended-keeps : (r : Said) (p : Section) → r.section ≡ p → IsReaderSound r → KeepsSound (ended_block r (block_in p))
ended-keeps r Prologue e k = tt
ended-keeps r Between e k = tt
ended-keeps r (Transaction name) e k = tt
ended-keeps r (Block name) e k =
    record {
      words = k.words;
      opening = k.opening;
      begun = record { named = rw map-append (names_at r (Block name) e k); few = k.begun.few; distinct = k.begun.distinct };
      under_way = record {
        count = refl;
        calls = All-nil IsBody;
        inner = All-nil HasInner;
        body = k.under_way.body;
        stand = k.under_way.stand;
      };
      each_block = All-push IsBlock r.blocks _ k.each_block (record {
        transactions = count_fits_at r (Block name) e k;
        calls = k.under_way.calls;
        inner = k.under_way.inner;
      });
      names = k.names;
      handles = k.handles;
    }

-- a statement that may stand where an inner block is open or not
abbrev pub IsFitStatement : Bool → named.NamedStatement → Type 0
IsFitStatement within s = (names : Names) → may_stand within (placed_statement names s).1 ≡ true

-- a line that may stand in a section, and where an inner block is open or not: a block begins outside of the others, a
-- file and a pipe aren't too long, a statement may stand there, and a transaction ends outside of inner blocks
abbrev pub IsFitLine : Section → Bool → ScriptLine → Type 0
IsFitLine p within (line.Job block) = is_outside p ≡ true
IsFitLine p within (line.Body block) = is_outside p ≡ true
IsFitLine p within (line.File file bytes) = IfSome bytes (λ bs. length bs ≤ 65536)
IsFitLine p within (line.Pipe handle bytes) = IfSome bytes (λ bs. length bs ≤ 4096)
IsFitLine p within (line.Statement s) = IsFitStatement within s
IsFitLine p within line.Commit = within ≡ false
IsFitLine p within _ = Unit {0}

none_under_way : (p : Section) (n : ℕ) → is_outside p ≡ true → CountFits p n → n ≡ 0
none_under_way Prologue n outside c = c
none_under_way Between n outside c = c
none_under_way (Block name) n outside c = cc
none_under_way (Transaction name) n outside c = cc

-- outside of blocks all names are those of the blocks that have ended
ended_names : (p : Section) (names : List (List ℕ)) → is_outside p ≡ true → all_names p names ≡ names
ended_names Prologue names outside = refl
ended_names Between names outside = refl
ended_names (Block name) names outside = cc
ended_names (Transaction name) names outside = cc

-- outside a block the names are those of the blocks so far
pub outside_names : (r : Said) → is_outside r.section ≡ true → IsReaderSound r → IsPermutation (r.jobs ++ r.bodies) (names_of r.blocks)
outside_names r outside k = subst (IsPermutation (r.jobs ++ r.bodies)) (ended_names r.section (names_of r.blocks) outside) k.begun.named

-- no block has the name, and there may be one more
abbrev IsNew : Said → List ℕ → Type 0
IsNew r name = (is_among name (r.jobs ++ r.bodies) ≡ false) × (length r.jobs + length r.bodies < 1000)

new_block : (r : Said) (name : List ℕ) → IfOk (may_begin r name) (λ _. IsNew r name)
new_block r name =
    cond_both (is_among name (r.jobs ++ r.bodies)) _ _ (λ (a : Result (Unit {0}) Why). IfOk a (λ _. IsNew r name)) (λ _. tt) (λ new.
    cond_both (nat_le 1000 (length r.jobs + length r.bodies)) _ _ (λ (a : Result (Unit {0}) Why). IfOk a (λ _. IsNew r name)) (λ _. tt)
    (λ room. (new, leb-false _ _ room)))

-- a block that begins has nothing under way
block_opens : (r : Said) (name : List ℕ) → is_outside r.section ≡ true → IsReaderSound r → AreUnderWay (Block name) r.transactions r.body
block_opens r name outside k =
    record {
      count = omega (arith, none_under_way r.section (length r.transactions) outside k.under_way.count);
      calls = k.under_way.calls;
      inner = k.under_way.inner;
      body = k.under_way.body;
      stand = k.under_way.stand;
    }

started-keeps : (r : Said) (name : List ℕ) → is_outside r.section ≡ true → IsReaderSound r → KeepsSound (started r name)
started-keeps r name outside k =
    seen_keeps (λ _. IsNew r name) IsReaderSound _ (may_begin r name) (new_block r name) (λ _ new.
    record {
      words = k.words;
      opening = k.opening;
      begun = record {
        named = job_among r.jobs r.bodies (names_of r.blocks) name (outside_names r outside k);
        few = rw length-append (omega (arith, new.1));
        distinct = distinct_job r.jobs r.bodies name new.0 k.begun.distinct;
      };
      under_way = block_opens r name outside k;
      each_block = k.each_block;
      names = k.names;
      handles = k.handles;
    })

bodied-keeps : (r : Said) (name : List ℕ) → is_outside r.section ≡ true → IsReaderSound r → KeepsSound (bodied r name)
bodied-keeps r name outside k =
    seen_keeps (λ _. IsNew r name) IsReaderSound _ (may_begin r name) (new_block r name) (λ _ new.
    record {
      words = k.words;
      opening = k.opening;
      begun = record {
        named = body_among r.jobs r.bodies (names_of r.blocks) name (outside_names r outside k);
        few = rw length-append (omega (arith, new.1));
        distinct = distinct_body r.jobs r.bodies name new.0 k.begun.distinct;
      };
      under_way = block_opens r name outside k;
      each_block = k.each_block;
      names = k.names;
      handles = k.handles;
    })

-- each line that fits its place keeps it
pub after-keeps : (r : Said) (says : ScriptLine) → IsFitLine r.section (is_open r.body) says → IsReaderSound r → KeepsSound (after_line r says)
after-keeps r (line.Words n) first k = sized-keeps r n k
after-keeps r (line.Word at value) first k = valued-keeps r at value k
after-keeps r (line.File file bytes) first k = filed-keeps r file bytes first k
after-keeps r (line.Pipe handle bytes) first k = piped-keeps r handle bytes first k
after-keeps r (line.Pair v w) first k = paired-keeps r v w k
after-keeps r (line.Fault kind from to) first k = faulted-keeps r kind from to k
after-keeps r (line.Grain n) first k = grained-keeps r n k
after-keeps r (line.Job name) first k = started-keeps r name first k
after-keeps r (line.Body name) first k = bodied-keeps r name first k
after-keeps r line.Begin first k = begun-keeps r r.section refl k
after-keeps r (line.Statement s) first k = stated-keeps r (placed_statement r.names s) (placed_grows r.names s) (first r.names) k
after-keeps r line.Commit first k = committed-keeps r r.section refl first k
after-keeps r line.End first k = ended-keeps r r.section refl k
