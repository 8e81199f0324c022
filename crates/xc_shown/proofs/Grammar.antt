-- Lines that stand each in its place are those of entries, and a tail.
use Rattle.std.proofs.Common.{◌≡◌, ℕ, ◌+◌, ◌-◌, ◌^◌, ◌<◌, Bool, true, false, List, [], ◌∷◌, ◌++◌, length, Option, Some, None}
use Rattle.std.proofs.Common.{refl, sym, ap, subst, ◌∙◌, append_assoc, arith}
use Rattle.std.proofs.lemmas.List.{length-append}
use Rattle.std.specs.List.{AllByRecursion}
use Rattle.std.specs.Prelude.{◌==◌, ◌&&◌, is_none, nat_lt, unwrap_or, if◌then◌else◌}
use Rattle.std.proofs.lemmas.Bool.Decides.{nat_tests}
use Rattle.xc_data.specs.declared.call.Call.{Call}
use Rattle.xc_data.specs.declared.call.LateEnd.{LateEnd}
use Rattle.xc_data.specs.declared.call.Reply.{Reply}
use Rattle.xc_data.specs.declared.claim.Claim.{Claim}
use Rattle.xc_data.specs.declared.entry.Cause.{Cause}
use Rattle.xc_data.specs.declared.entry.Outcome.TheVariants.{Committed, Aborted}
use Rattle.xc_data.specs.declared.undo.UndoEnd.{UndoEnd}
use Rattle.xc_lines.specs.declared.shown.EffectShown.{EffectShown}
use Rattle.xc_lines.specs.declared.shown.UndoKind.{UndoKind}
use Rattle.xc_sheet.specs.Ends.{lines_of_calls, lines_of_lates, line_of_held}
use Rattle.xc_sheet.specs.Lines.{line_text}
use Rattle.xc_sheet.specs.Places.{closing, words_from, jobs_from, entry_from, held_from, lates_from, effect_line_from, undos_from, undone_from, commit_from}
use Rattle.xc_sheet.specs.Places.{abort_from, behind_line, behind_lines}
use Rattle.xc_sheet.specs.declared.lines.Line.{Line}
use Rattle.xc_sheet.specs.declared.lines.Line.TheVariants as line
use Rattle.xc_sheet.specs.declared.places.LinePlace.{LinePlace}
use Rattle.xc_sheet.specs.declared.places.LinePlace.TheVariants as place
use Rattle.xc_shown.specs.Shown.{bare, lines_of_records, lines_of_standing, shown_lines, is_of_entry, IsReplied, IsPlain}
use Rattle.xc_shown.specs.declared.shown.Shown.{Shown}

-- ---- what lines are, by the place from which on they stand
-- the lines of an entry tell all that this shows
pub record IsToldWhole (shown : Shown) : Type 0 where
  pub without : bare shown.entry ≡ shown.entry
  pub each : IsReplied shown.entry
  pub plain : IsPlain shown.entry.outcome shown

-- lines behind the entries
abbrev pub AreTail : List Line → Type 0
AreTail lines = AllByRecursion (λ (l : Line). is_of_entry l ≡ false) lines

-- those of entries, and a tail
pub record AtEntry (lines : List Line) : Type 0 where
  pub entries : List Shown
  pub tail : List Line
  pub whole : AllByRecursion IsToldWhole entries
  pub behind : AreTail tail
  pub are : lines ≡ shown_lines entries ++ tail

-- before them that of held objects
record AtHeld (lines : List Line) : Type 0 where
  claims : List Claim
  rest : List Line
  next : AtEntry rest
  are : lines ≡ line_of_held claims ++ rest

-- before that those of effects
record AtEffects (lines : List Line) : Type 0 where
  effects : List EffectShown
  rest : List Line
  next : AtHeld rest
  are : lines ≡ lines_of_standing effects ++ rest

-- before those the lines of so many records
record AtRecords (left : ℕ) (lines : List Line) : Type 0 where
  records : List (UndoKind × UndoEnd)
  count : length records ≡ left
  rest : List Line
  next : AtEffects rest
  are : lines ≡ lines_of_records 1 records ++ rest

-- the ends of late calls, the first of which has this number, and what follows in a commit
record AtLates (number : ℕ) (lines : List Line) : Type 0 where
  ends : List LateEnd
  rest : List Line
  next : AtHeld rest
  are : lines ≡ lines_of_lates number ends ++ rest

-- a commit behind its first line
record AtCommit (lines : List Line) : Type 0 where
  calls : List Call
  replies : List Reply
  each : length calls ≡ length replies
  rest : List Line
  next : AtLates 1 rest
  are : lines ≡ lines_of_calls calls replies ++ rest

-- an abort behind its first line
record AtAbort (lines : List Line) : Type 0 where
  calls : List Call
  replies : List Reply
  each : length calls ≡ length replies
  left : ℕ
  rest : List Line
  next : AtRecords left rest
  are : lines ≡ lines_of_calls calls replies ++ rest

-- what lines are from a place on
abbrev At : LinePlace → List Line → Type 0
At place.Between lines = AtEntry lines
At place.Commits lines = AtCommit lines
At place.Aborts lines = AtAbort lines
At (place.Lates next) lines = AtLates next lines
At (place.Undos left) lines = AtRecords left lines
At place.Remaining lines = AtEffects lines
At place.Jobs lines = AreTail lines
At place.Words lines = AreTail lines
At place.Kept lines = AreTail lines
At place.Ended lines = AreTail lines

-- the same behind a line, if it may stand there
abbrev On : Option LinePlace → List Line → Type 0
On None lines = ⊥
On (Some p) lines = At p lines

-- a line that isn't empty
abbrev pub HasText : Line → Type 0
HasText l = 0 < length (line_text l)

-- ---- a line more, behind the entries
-- the kept data, or the totals
closing_in : (l : Line) (lines : List Line) → On (closing l) lines → AreTail (l ∷ lines)
closing_in (line.Kept item) lines h = (refl, h)
closing_in (line.Total committed aborted faults remains) lines h = (refl, h)
closing_in l lines h = absurd h

-- a word, or what stands behind the words
words_in : (l : Line) (lines : List Line) → On (words_from l) lines → AreTail (l ∷ lines)
words_in (line.Word at value) lines h = (refl, h)
words_in l lines h = closing_in l lines h

-- a job, or what stands behind the jobs
jobs_in : (l : Line) (lines : List Line) → On (jobs_from l) lines → AreTail (l ∷ lines)
jobs_in (line.Job number block end) lines h = (refl, h)
jobs_in l lines h = words_in l lines h

-- ---- the first line of an entry
-- parts of lines, grouped otherwise
regroup : (h : Line) (a b c es t : List Line) → ((h ∷ (a ++ (b ++ c))) ++ es) ++ t ≡ h ∷ (a ++ (b ++ (c ++ (es ++ t))))
regroup h a b c es t = simp append_assoc

-- parts of lines, one behind the other
joined : (h : Line) (lines a r b s c u es t : List Line) → lines ≡ a ++ r → r ≡ b ++ s → s ≡ c ++ u → u ≡ es ++ t
    → h ∷ lines ≡ ((h ∷ (a ++ (b ++ c))) ++ es) ++ t
joined h lines a r b s c u es t first second third fourth =
    ap (λ ls. h ∷ ls) (first ∙ ap (λ ls. a ++ ls) (second ∙ ap (λ ls. b ++ ls) (third ∙ ap (λ ls. c ++ ls) fourth))) ∙ sym (regroup h a b c es t)

-- two parts, as one
both : (r d s e u : List Line) → r ≡ d ++ s → s ≡ e ++ u → r ≡ (d ++ e) ++ u
both r d s e u first second = first ∙ ap (λ ls. d ++ ls) second ∙ sym (append_assoc d e u)

-- a commit's, in front of the rest of its lines
committed : (tx job rank began : ℕ) (lines : List Line) → AtCommit lines
    → AtEntry (line.Head (record { tx = tx; job = job; rank = rank; began = began; cause = None }) ∷ lines)
committed tx job rank began lines c =
    let l = c.next in
    let h = l.next in
    let e = h.next in
    let shown : Shown =
    record {
      entry = record {
        tx = tx;
        job = job;
        rank = rank;
        began = began;
        calls = c.calls;
        replies = c.replies;
        held = h.claims;
        outcome = Committed l.ends;
      };
      records = [];
      effects = [];
    } in
    record {
      entries = shown ∷ e.entries;
      tail = e.tail;
      whole = (record { without = refl; each = c.each; plain = (refl, refl) }, e.whole);
      behind = e.behind;
      are = joined (line.Head (record { tx = tx; job = job; rank = rank; began = began; cause = None })) lines (lines_of_calls c.calls c.replies) c.rest
          (lines_of_lates 1 l.ends) l.rest (line_of_held h.claims) h.rest (shown_lines e.entries) e.tail c.are l.are h.are e.are;
    }

-- an abort's, in front of the rest of its lines
aborted : (tx job rank began : ℕ) (cause : Cause) (lines : List Line) → AtAbort lines
    → AtEntry (line.Head (record { tx = tx; job = job; rank = rank; began = began; cause = Some cause }) ∷ lines)
aborted tx job rank began cause lines c =
    let r = c.next in
    let s = r.next in
    let h = s.next in
    let e = h.next in
    let shown : Shown =
    record {
      entry = record {
        tx = tx;
        job = job;
        rank = rank;
        began = began;
        calls = c.calls;
        replies = c.replies;
        held = h.claims;
        outcome = Aborted (record { cause = cause; records = [] });
      };
      records = r.records;
      effects = s.effects;
    } in
    record {
      entries = shown ∷ e.entries;
      tail = e.tail;
      whole = (record { without = refl; each = c.each; plain = tt }, e.whole);
      behind = e.behind;
      are = joined (line.Head (record { tx = tx; job = job; rank = rank; began = began; cause = Some cause })) lines (lines_of_calls c.calls c.replies) c.rest
          (lines_of_records 1 r.records ++ lines_of_standing s.effects) s.rest (line_of_held h.claims) h.rest (shown_lines e.entries) e.tail c.are
          (both c.rest (lines_of_records 1 r.records) r.rest (lines_of_standing s.effects) s.rest r.are s.are) h.are e.are;
    }

-- that of an entry, by its cause
head_in : (tx job rank began : ℕ) (cause : Option Cause) (lines : List Line) → On (Some (if is_none cause then place.Commits else place.Aborts)) lines
    → AtEntry (line.Head (record { tx = tx; job = job; rank = rank; began = began; cause = cause }) ∷ lines)
head_in tx job rank began None lines h = committed tx job rank began lines h
head_in tx job rank began (Some cause) lines h = aborted tx job rank began cause lines h

-- no entry, but a tail
only_tail : (lines : List Line) → AreTail lines → AtEntry lines
only_tail lines all = record { entries = []; tail = lines; whole = tt; behind = all; are = refl }

-- the first line of an entry, or a tail
entry_in : (l : Line) (lines : List Line) → On (entry_from l) lines → AtEntry (l ∷ lines)
entry_in (line.Head head) lines h = head_in head.tx head.job head.rank head.began head.cause lines h
entry_in l lines h = only_tail (l ∷ lines) (jobs_in l lines h)

-- ---- a line more of an entry
-- that of held objects, or what stands behind an entry
held_in : (l : Line) (lines : List Line) → HasText l → On (held_from l) lines → AtHeld (l ∷ lines)
held_in (line.Held []) lines some h = absurd (omega (arith, some))
held_in (line.Held (claim ∷ claims)) lines some h = record { claims = claim ∷ claims; rest = lines; next = h; are = refl }
held_in l lines some h = record { claims = []; rest = l ∷ lines; next = entry_in l lines h; are = refl }

-- that of an effect, or what stands behind the effects
effect_in : (l : Line) (lines : List Line) → HasText l → On (effect_line_from l) lines → AtEffects (l ∷ lines)
effect_in (line.Remains effect) lines some h =
    record { effects = effect ∷ h.effects; rest = h.rest; next = h.next; are = ap (λ ls. line.Remains effect ∷ ls) h.are }
effect_in l lines some h = record { effects = []; rest = l ∷ lines; next = held_in l lines some h; are = refl }

-- that of the late call of this number
late_in : (n number : ℕ) (end : LateEnd) (lines : List Line) (b : Bool) → (number == n && nat_lt number (2 ^ 32)) ≡ b
    → On (if b then Some (place.Lates (n + 1)) else None) lines → AtLates n (line.Late number end ∷ lines)
late_in n number end lines false e h = absurd h
late_in n number end lines true e h =
    let same : number ≡ n = grind (arith, nat_tests) in
    record {
      ends = end ∷ h.ends;
      rest = h.rest;
      next = h.next;
      are = ap (λ m. line.Late m end ∷ lines) same ∙ ap (λ ls. line.Late n end ∷ ls) h.are;
    }

-- the same, or what stands behind the late calls
lates_in : (n : ℕ) (l : Line) (lines : List Line) → HasText l → On (lates_from n l) lines → AtLates n (l ∷ lines)
lates_in n (line.Late number end) lines some h = late_in n number end lines (number == n && nat_lt number (2 ^ 32)) refl h
lates_in n l lines some h = record { ends = []; rest = l ∷ lines; next = held_in l lines some h; are = refl }

-- the newest record has the number of the records
newest : (n : ℕ) (records : List (UndoKind × UndoEnd)) (kind : UndoKind) (end : UndoEnd)
    → lines_of_records n (records ++ (kind, end) ∷ []) ≡ line.Undo (n + length records) kind end ∷ lines_of_records n records
newest n [] kind end = let same : n ≡ n + 0 = omega arith in ap (λ m. line.Undo m kind end ∷ []) same
newest n ((older, older_end) ∷ records) kind end =
    let same : n + 1 + length records ≡ n + length ((older, older_end) ∷ records) = omega arith in
    ap (λ ls. ls ++ line.Undo n older older_end ∷ []) (newest (n + 1) records kind end)
    ∙ ap (λ m. line.Undo m kind end ∷ (lines_of_records (n + 1) records ++ line.Undo n older older_end ∷ [])) same

-- one more record, the newest
undo_more : (left : ℕ) (kind : UndoKind) (end : UndoEnd) (lines : List Line) → 0 < left → AtRecords (left - 1) lines
    → AtRecords left (line.Undo left kind end ∷ lines)
undo_more left kind end lines some h =
    let number : 1 + length h.records ≡ left = omega (arith, h.count, some) in
    let counts : length (h.records ++ (kind, end) ∷ []) ≡ length h.records + 1 = length-append h.records ((kind, end) ∷ []) in
    record {
      records = h.records ++ (kind, end) ∷ [];
      count = omega (arith, counts, number);
      rest = h.rest;
      next = h.next;
      are = ap (λ ls. line.Undo left kind end ∷ ls) h.are
          ∙ sym (ap (λ ls. ls ++ h.rest)
          (newest 1 h.records kind end ∙ ap (λ m. line.Undo m kind end ∷ lines_of_records 1 h.records) number));
    }

-- the same, where the line has its number
undo_in : (left number : ℕ) (kind : UndoKind) (end : UndoEnd) (lines : List Line) (b : Bool) → (number == left) ≡ b → 0 < left
    → On (if b then Some (place.Undos (left - 1)) else None) lines → AtRecords left (line.Undo number kind end ∷ lines)
undo_in left number kind end lines false e some h = absurd h
undo_in left number kind end lines true e some h =
    let same : left ≡ number = grind (arith, nat_tests) in
    subst (λ m. AtRecords left (line.Undo m kind end ∷ lines)) same (undo_more left kind end lines some h)

-- the same, where a record is left
undos_in : (left : ℕ) (l : Line) (lines : List Line) → 0 < left → On (undos_from left l) lines → AtRecords left (l ∷ lines)
undos_in left (line.Undo number kind end) lines more h = undo_in left number kind end lines (number == left) refl more h
undos_in left l lines more h = absurd h

-- no record is left
no_records : (l : Line) (lines : List Line) → AtEffects (l ∷ lines) → AtRecords 0 (l ∷ lines)
no_records l lines h = record { records = []; count = refl; rest = l ∷ lines; next = h; are = refl }

-- a record is left, or none
undone_by : (left : ℕ) (l : Line) (lines : List Line) (b : Bool) → (left == 0) ≡ b → HasText l → On (if b then effect_line_from l else undos_from left l) lines
    → AtRecords left (l ∷ lines)
undone_by left l lines true e some h =
    let none : 0 ≡ left = grind (arith, nat_tests) in
    subst (λ n. AtRecords n (l ∷ lines)) none (no_records l lines (effect_in l lines some h))
undone_by left l lines false e some h = let more : 0 < left = grind (arith, nat_tests) in undos_in left l lines more h

-- that of a record, or what stands behind the records
undone_in : (left : ℕ) (l : Line) (lines : List Line) → HasText l → On (undone_from left l) lines → AtRecords left (l ∷ lines)
undone_in left l lines some h = undone_by left l lines (left == 0) refl some h

-- a call of a commit, or what stands behind its calls
commit_in : (l : Line) (lines : List Line) → HasText l → On (commit_from l) lines → AtCommit (l ∷ lines)
commit_in (line.Call call reply) lines some h =
    record {
      calls = call ∷ h.calls;
      replies = reply ∷ h.replies;
      each = omega (arith, h.each);
      rest = h.rest;
      next = h.next;
      are = ap (λ ls. line.Call call reply ∷ ls) h.are;
    }
commit_in l lines some h = record { calls = []; replies = []; each = refl; rest = l ∷ lines; next = lates_in 1 l lines some h; are = refl }

-- the newest record of an abort
first_undo : (number : ℕ) (kind : UndoKind) (end : UndoEnd) (lines : List Line) (b : Bool) → (number == 0) ≡ b
    → On (if b then None else Some (place.Undos (number - 1))) lines → AtAbort (line.Undo number kind end ∷ lines)
first_undo number kind end lines true e h = absurd h
first_undo number kind end lines false e h =
    let more : 0 < number = grind (arith, nat_tests) in
    record {
      calls = [];
      replies = [];
      each = refl;
      left = number;
      rest = line.Undo number kind end ∷ lines;
      next = undo_more number kind end lines more h;
      are = refl;
    }

-- a call of an abort, or what stands behind its calls
abort_in : (l : Line) (lines : List Line) → HasText l → On (abort_from l) lines → AtAbort (l ∷ lines)
abort_in (line.Call call reply) lines some h =
    record {
      calls = call ∷ h.calls;
      replies = reply ∷ h.replies;
      each = omega (arith, h.each);
      left = h.left;
      rest = h.rest;
      next = h.next;
      are = ap (λ ls. line.Call call reply ∷ ls) h.are;
    }
abort_in (line.Undo number kind end) lines some h = first_undo number kind end lines (number == 0) refl h
abort_in l lines some h =
    record {
      calls = [];
      replies = [];
      each = refl;
      left = 0;
      rest = l ∷ lines;
      next = no_records l lines (record { effects = []; rest = l ∷ lines; next = held_in l lines some h; are = refl });
      are = refl;
    }

-- ---- all lines
-- a line in its place, in front of what the others are
step : (p : LinePlace) (l : Line) (lines : List Line) → HasText l → On (behind_line p l) lines → At p (l ∷ lines)
step place.Between l lines some h = entry_in l lines h
step place.Commits l lines some h = commit_in l lines some h
step place.Aborts l lines some h = abort_in l lines some h
step (place.Lates next) l lines some h = lates_in next l lines some h
step (place.Undos left) l lines some h = undone_in left l lines some h
step place.Remaining l lines some h = effect_in l lines some h
step place.Jobs l lines some h = jobs_in l lines h
step place.Words l lines some h = words_in l lines h
step place.Kept l lines some h = closing_in l lines h
step place.Ended l lines some h = absurd h

-- all lines from a place on
placed : (o : Option LinePlace) (lines : List Line) → AllByRecursion HasText lines → behind_lines o lines ≡ Some place.Ended → On o lines
unfolding behind_lines
placed None lines some e = absurd cc
placed (Some p) [] some e =
    let ended : place.Ended ≡ p = sym (ap (λ (o : Option LinePlace). unwrap_or o p) e) in
    subst (λ q. At q []) ended tt
placed (Some p) (l ∷ lines) some e = step p l lines some.0 (placed (behind_line p l) lines some.1 e)

-- lines that stand each in its place up to the end, none of them empty, are those of entries and a tail
pub are_of_entries : (lines : List Line) → AllByRecursion HasText lines → behind_lines (Some place.Between) lines ≡ Some place.Ended → AtEntry lines
are_of_entries lines some e = placed (Some place.Between) lines some e
