-- A told script that is read without a fault is run, and what a run that is done has written.
use Rattle.std.proofs.Common.{◌≡◌, ◌≢◌, ℕ, ◌<◌, ◌≤◌, List, [], ◌∷◌, ◌++◌, length, take, zero, suc, refl, ap, sym, ◌∙◌, subst, arith, ◌⊎◌, inl, inr}
use Rattle.std.specs.Prelude.{Option, Result, Ok, Err}
use Rattle.std.specs.declared.option.Option.TheVariants.{None, Some}
use Rattle.std.specs.Prelude.{Bool, true, false, ◌||◌, ◌&&◌, IfErr, IfSome, IsTrue}
use Rattle.std.specs.List.{list_any}
use Rattle.std.specs.Option.{option_map}
use Rattle.std.specs.Io.KnownBytes.{Consumes, IsAtEnd}
use Rattle.xc_data.specs.Step.{Step}
use Rattle.xc_data.specs.declared.entry.JobEnd.{JobEnd}
use Rattle.xc_data.specs.declared.entry.JobEnd.TheVariants as job_end
use Rattle.xc_data.specs.declared.entry.JobLine.{JobLine}
use Rattle.xc_edge.specs.Streams.{AppendsWhole}
use Rattle.xc_edge.specs.View.{StreamView}
use Rattle.xc_host.specs.Model.{HostModel}
use Rattle.xc_model.specs.Ending.{IsEnd, AreEnds, is_done_end, all_done, is_memory, is_starved, some_late_starved}
use Rattle.xc_model.specs.Progress.{Following, progress_of}
use Rattle.xc_model.specs.Setting.{Setting, setting}
use Rattle.xc_model.specs.declared.rules.Rules.{Rules}
use Rattle.xc_station.specs.declared.run_result.End.{End}
use Rattle.xc_text.specs.Scripts.{parse_of}
use Rattle.xc_text.specs.declared.script.Script.{Script}
use Rattle.xc_tokens.specs.declared.why.Why.{Why}
use Rattle.xc_outcome.specs.declared.choice.Choice.{Choice}
use Rattle.xc_outcome.specs.declared.finish.Status.{Status}
use Rattle.xc_outcome.specs.declared.finish.Status.TheVariants as status
use Rattle.xc_outcome.specs.declared.preparing.NotRun.{NotRun}
use Rattle.xc_outcome.specs.Outcomes.{IsOfBytes}
use Rattle.xc_outcome.specs.Runs.{AreScript, IsEndOver, IsInput, IsRefusal, IsSerialRun, IsUnscripted, end_text, input_of, is_refused_by, starves}
use Rattle.xc_outcome.specs.Said.{IsCaused, IsDone, IsDoneWith, IsDueWithEnd, IsSaidPlainly, IsWritten, gives_up, is_given_up}

take_all : (n : ℕ) (bytes : List ℕ) → length bytes ≤ n → take n bytes ≡ bytes
take_all zero [] le = refl
take_all (suc n) [] le = refl
take_all zero (b ∷ bytes) le = absurd (omega arith)
take_all (suc n) (b ∷ bytes) le = ap (λ bs. b ∷ bs) (take_all n bytes (omega arith))

take_front : (bytes rest : List ℕ) → take (length bytes) (bytes ++ rest) ≡ bytes
take_front [] [] = refl
take_front [] (b ∷ rest) = refl
take_front (b ∷ bytes) rest = ap (λ bs. b ∷ bs) (take_front bytes rest)

append_nothing : (xs : List ℕ) → xs ++ [] ≡ xs
append_nothing [] = refl
append_nothing (x ∷ xs) = ap (λ ys. x ∷ ys) (append_nothing xs)

less_or_equal : (m n : ℕ) → m ≤ n → (m < n) ⊎ (m ≡ n)
less_or_equal zero zero le = inr refl
less_or_equal zero (suc n) le = inl (omega arith)
less_or_equal (suc m) zero le = absurd (omega arith)
less_or_equal (suc m) (suc n) le = elim (less_or_equal m n (omega arith)) [ inl lt ↦ inl (omega arith) | inr eq ↦ inr (ap suc eq) ]

came_at : (limit : ℕ) (told rest bytes : List ℕ) → told ≡ bytes ++ rest → length bytes ≤ limit → (length bytes < limit → rest ≡ []) → take limit told ≡ bytes
came_at limit told rest bytes e le end = elim (less_or_equal (length bytes) limit le) [
  | inl lt ↦ let whole : told ≡ bytes = e ∙ ap (λ rs. bytes ++ rs) (end lt) ∙ append_nothing bytes in ap (take limit) whole ∙ take_all limit bytes le
  | inr eq ↦ ap (take limit) e ∙ ap (λ n. take n (bytes ++ rest)) (sym eq) ∙ take_front bytes rest
]

-- the bytes that came are the told ones, up to the limit
came_told : (limit : ℕ) (left after : Option (List ℕ)) (bytes : List ℕ) → Consumes left after bytes → length bytes ≤ limit
    → (length bytes < limit → IsAtEnd after) → IfSome left (λ told. take limit told ≡ bytes)
came_told limit None after bytes taken bound end = tt
came_told limit (Some told) None bytes taken bound end = absurd taken
came_told limit (Some told) (Some rest) bytes taken bound end = came_at limit told rest bytes taken bound end

-- the bytes that are run are those that are known beforehand
input_told : (seed : Option ℕ) (source : Step StreamView) (bytes : List ℕ) → IsInput seed source bytes
    → IfSome (input_of seed source.old.bytes) (λ known. known ≡ bytes)
input_told None source bytes came =
    as_taken source.old.bytes (came_told 1048577 source.old.bytes source.new.bytes bytes came.taken came.bound came.end)
  where
    as_taken : (o : Option (List ℕ)) → IfSome o (λ told. take 1048577 told ≡ bytes) → IfSome (option_map (take 1048577) o) (λ known. known ≡ bytes)
    as_taken None same = tt
    as_taken (Some told) same = same
input_told (Some seed) source bytes input = sym input.1

-- the bytes are a script that the host follows
abbrev AreFollowed : Bool → List ℕ → Type 0
AreFollowed takes bytes = (script : Script) × (parse_of bytes ≡ Ok script) × (is_refused_by takes script ≡ false)

are_followed : (takes : Bool) (known : Option (List ℕ)) (bytes : List ℕ) → AreScript takes known → IfSome known (λ k. k ≡ bytes)
    → AreFollowed takes bytes
are_followed takes None bytes script same = absurd script
are_followed takes (Some known) bytes (script, read, followed) same = (script, ap parse_of (sym same) ∙ read, followed)

input_followed : (takes : Bool) (seed : Option ℕ) (source : Step StreamView) (bytes : List ℕ) → AreScript takes (input_of seed source.old.bytes)
    → IsInput seed source bytes → AreFollowed takes bytes
input_followed takes seed source bytes script input =
    are_followed takes (input_of seed source.old.bytes) bytes script (input_told seed source bytes input)

ok_is_err : (r : Result Script (ℕ × Why)) (s : Script) (e : ℕ × Why) → r ≡ Ok s → r ≡ Err e → ⊥
ok_is_err (Ok t) s e ok is = cc
ok_is_err (Err f) s e ok is = cc

never_refused : (takes : Bool) (seed : Option ℕ) (source : Step StreamView) (line : ℕ) (why : Why)
    → AreScript takes (input_of seed source.old.bytes) → IsRefusal seed source line why → ⊥
never_refused takes seed source line why script (bytes, input, e) =
    let followed = input_followed takes seed source bytes script input in ok_is_err (parse_of bytes) followed.0 (line, why) followed.1 e

ok_both : (r : Result Script (ℕ × Why)) (s t : Script) → r ≡ Ok s → r ≡ Ok t → s ≡ t
ok_both (Ok u) s t p q = let both : Ok s ≡ Ok t = sym p ∙ q in cc
ok_both (Err f) s t p q = cc

never_unscripted : (takes : Bool) (seed : Option ℕ) (source : Step StreamView) → AreScript takes (input_of seed source.old.bytes)
    → IsUnscripted takes seed source → ⊥
never_unscripted takes seed source script (bytes, other, input, e, refused) =
    let followed = input_followed takes seed source bytes script input in
    let same : followed.0 ≡ other = ok_both (parse_of bytes) followed.0 other followed.1 e in
    let no : true ≡ false = sym refused ∙ ap (is_refused_by takes) (sym same) ∙ followed.2 in
    cc

-- the status of bytes that were run has its cause
caused_by_bytes : (chosen : Choice) (takes : Bool) (source : Step StreamView) (s : Status) → IsOfBytes s
    → ((line : ℕ) (why : Why) → s ≡ status.Refused line why → IsRefusal chosen.seed source line why)
    → (s ≡ status.NotScripted → IsUnscripted takes chosen.seed source) → IsCaused (Some chosen) takes source s
caused_by_bytes chosen takes source s answer refused unscripted = record {
  usage = λ e. absurd (no_usage s answer e);
  refused_words = λ none. cc;
  refused = refused;
  unscripted = unscripted;
  read_fault = λ e. absurd (no_fault s answer e);
  complete = λ _ _ script. done_of s answer refused unscripted script;
} where
  no_usage : (s : Status) → IsOfBytes s → s ≡ status.Usage → ⊥
  no_usage s answer e = subst IsOfBytes e answer

  no_fault : (s : Status) → IsOfBytes s → s ≡ status.ReadFault → ⊥
  no_fault s answer e = subst IsOfBytes e answer

  done_of : (s : Status) → IsOfBytes s → ((line : ℕ) (why : Why) → s ≡ status.Refused line why → IsRefusal chosen.seed source line why)
      → (s ≡ status.NotScripted → IsUnscripted takes chosen.seed source) → AreScript takes (input_of chosen.seed source.old.bytes) → IsDone s
  done_of status.Done answer refused unscripted script = tt
  done_of status.Left answer refused unscripted script = tt
  done_of status.GaveUp answer refused unscripted script = tt
  done_of status.NoMemory answer refused unscripted script = tt
  done_of (status.Refused line why) answer refused unscripted script = absurd (never_refused takes chosen.seed source line why script (refused line why refl))
  done_of status.NotScripted answer refused unscripted script = absurd (never_unscripted takes chosen.seed source script (unscripted refl))
  done_of status.Usage answer refused unscripted script = absurd answer
  done_of status.ReadFault answer refused unscripted script = absurd answer
  done_of status.WriteFault answer refused unscripted script = absurd answer

-- so has that of bytes that were not run
pub caused_where_not_run : {A H : Type 0} (chosen : Choice) (takes : Bool) (source : Step StreamView) (bytes : List ℕ)
    (r : Result A (NotRun H)) → IsInput chosen.seed source bytes → IfErr r (λ n. IsOfBytes n.status)
    → IfErr r (λ n. (line : ℕ) (why : Why) → n.status ≡ status.Refused line why → parse_of bytes ≡ Err (line, why))
    → IfErr r (λ n. n.status ≡ status.NotScripted
    → (script : Script) × (parse_of bytes ≡ Ok script) × (is_refused_by takes script ≡ true))
    → IfErr r (λ n. IsCaused (Some chosen) takes source n.status)
caused_where_not_run chosen takes source bytes (Ok started) input of refused unscripted = tt
caused_where_not_run chosen takes source bytes (Err n) input of refused unscripted =
    caused_by_bytes chosen takes source n.status of (λ line why e. (bytes, input, refused line why e))
    (λ e. let told = unscripted e in (bytes, told.0, input, told.1, told.2))

-- the status of a run that was chosen has its cause
pub caused_by_run : (choice : Option Choice) (chosen : Choice) (takes : Bool) (source : Step StreamView) (s : Status) → choice ≡ Some chosen
    → IsDone s → IsCaused choice takes source s
caused_by_run choice chosen takes source s chose done = record {
  usage = λ e. absurd (subst IsDone e done);
  refused_words = λ none. let no : Some chosen ≡ None = sym chose ∙ none in cc;
  refused = λ line why e. absurd (subst IsDone e done);
  unscripted = λ e. absurd (subst IsDone e done);
  read_fault = λ e. absurd (subst IsDone e done);
  complete = λ _ _ _. done;
}

-- ---- a run that is done
or_false : (a b : Bool) → a || b ≡ false → (a ≡ false) × (b ≡ false)
or_false true b h = let no : true ≡ false = h in cc
or_false false b h = (refl, h)

done_end : (s : Setting) (entries : ℕ) (f : Following) (end : JobEnd) → IsEnd s entries f end → is_memory end ≡ false → is_given_up end ≡ false
    → is_done_end end ≡ true
done_end s entries f job_end.Done h e d = refl
done_end s entries f (job_end.GaveUp c) h e d = cc
done_end s entries f job_end.JournalFull h e d = cc
done_end s entries f job_end.NoMemory h e d = cc

-- where no job starved and none gave up, each ended by its last transaction
all_done_of : (s : Setting) (entries : ℕ) (jobs : List Following) (lines : List JobLine) → AreEnds s entries jobs lines
    → list_any is_starved lines ≡ false → list_any gives_up lines ≡ false → all_done lines ≡ true
all_done_of s entries [] lines h e d = ap all_done h
all_done_of s entries (f ∷ jobs) [] h e d = absurd h
all_done_of s entries (f ∷ jobs) (line ∷ lines) h e d =
    let parts = or_false (is_starved line) (list_any is_starved lines) e in
    let left = or_false (gives_up line) (list_any gives_up lines) d in
    ap (λ b. b && all_done lines) (done_end s entries f line.end h.0.end parts.0 left.0) ∙ all_done_of s entries jobs lines h.1 parts.1 left.1

-- no job of an end starved where nothing wanted memory
all_fed : {H : Type 0} (end : End H) → starves end ≡ false → list_any is_starved end.jobs ≡ false
all_fed end fed = (or_false (list_any is_starved end.jobs) (some_late_starved end.journal.items) fed).0

-- a run whose whole text is due, without a job that starved or gave up, is done
pub done_with : {H : Type 0} (model : HostModel H) (rules : Rules) (host : H) (seed : Option ℕ) (s : Status) (end : End H) (due : List ℕ)
    → IsDueWithEnd seed s end due → IsEndOver model rules host end → IsDoneWith s (Some end)
done_with model rules host seed status.Done end due h over =
    let whole = over.whole in
    let s = setting end.opening.script rules model.tells in
    whole.complete over.asked
    (all_done_of s (length end.journal.items) (progress_of end.opening.script end.journal.items).jobs end.jobs whole.ends
    (all_fed end h.1) h.3)
done_with model rules host seed status.Left end due h over = λ none.
    let whole = over.whole in
    let s = setting end.opening.script rules model.tells in
    whole.complete over.asked
    (all_done_of s (length end.journal.items) (progress_of end.opening.script end.journal.items).jobs end.jobs whole.ends
    (all_fed end h.1) none)
done_with model rules host seed status.GaveUp end due h over = tt
done_with model rules host seed status.NoMemory end due h over = tt
done_with model rules host seed (status.Refused line why) end due h over = absurd h
done_with model rules host seed status.Usage end due h over = absurd h
done_with model rules host seed status.ReadFault end due h over = absurd h
done_with model rules host seed status.WriteFault end due h over = absurd h
done_with model rules host seed status.NotScripted end due h over = absurd h

-- where the whole text is due its lines but those on kept data are the script's alone
plain_due : {H : Type 0} (model : HostModel H) (end : End H) (due : List ℕ) (before after : StreamView) → due ≡ end_text end
    → starves end ≡ false → IsSerialRun model end → AppendsWhole before after due → IsTrue model.tells → IsSaidPlainly before after end
plain_due model end due before after text fed ran wrote tells = λ faults.
    (subst (AppendsWhole before after) text wrote, ran.plain tells faults fed)

-- where the sink did not fail, all was written, and the status is the one that was meant
written_whole : (meant ends : Status) (due : List ℕ) (old new : StreamView) → IsWritten meant ends due old new
    → ends ≢ status.WriteFault → (ends ≡ meant) × AppendsWhole old new due
written_whole meant ends due old new (inl whole) unfailed = whole
written_whole meant ends due old new (inr part) unfailed = absurd (unfailed part.0)

-- what a run whose jobs ran one after another has written is the text of its script alone, but where memory ran out
plainly : {H : Type 0} (model : HostModel H) (s : Status) (end : End H) (due : List ℕ) (before after : StreamView)
    → IsDueWithEnd None s end due → IsSerialRun model end → AppendsWhole before after due → IsTrue model.tells → s ≢ status.NoMemory
    → IsSaidPlainly before after end
plainly model status.Done end due before after h ran wrote tells fed = plain_due model end due before after h.0 h.1 ran wrote tells
plainly model status.Left end due before after h ran wrote tells fed = plain_due model end due before after h.0 h.1 ran wrote tells
plainly model status.GaveUp end due before after h ran wrote tells fed = plain_due model end due before after h.0 h.1 ran wrote tells
plainly model status.NoMemory end due before after h ran wrote tells fed = absurd (fed refl)
plainly model (status.Refused line why) end due before after h ran wrote tells fed = absurd h
plainly model status.Usage end due before after h ran wrote tells fed = absurd h
plainly model status.ReadFault end due before after h ran wrote tells fed = absurd h
plainly model status.WriteFault end due before after h ran wrote tells fed = absurd h
plainly model status.NotScripted end due before after h ran wrote tells fed = absurd h

-- so it is where neither memory nor the sink was wanting
pub said_plainly : {H : Type 0} (model : HostModel H) (meant ends : Status) (end : End H) (due : List ℕ) (old new : StreamView)
    → IsWritten meant ends due old new → IsDueWithEnd None meant end due → IsSerialRun model end → IsTrue model.tells
    → ends ≢ status.NoMemory → ends ≢ status.WriteFault → IsSaidPlainly old new end
said_plainly model meant ends end due old new written is ran tells fed unfailed =
    let wrote = written_whole meant ends due old new written unfailed in
    plainly model meant end due old new is ran wrote.1 tells (λ starved. fed (wrote.0 ∙ starved))
