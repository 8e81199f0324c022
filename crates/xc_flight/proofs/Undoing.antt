-- A turn back, lack of memory after a call, a compensation, and the entry of an abort.
use Rattle.std.proofs.Common.{◌≡◌, ◌≢◌, ℕ, ⊎_elim, List, [], ◌∷◌, ◌++◌, length, Some, append_assoc, ap, sym, ◌∙◌, subst, refl, Bool, true, false, ◌||◌}
use Rattle.std.specs.Prelude.{All, Contains, map}
use Rattle.std.proofs.lemmas.List.{append-nil}
use Rattle.std.proofs.lemmas.List.Elements.{All-nil, All-cons, All-head, All-tail, All-weaker, All-contains, All-contains_itself}
use Rattle.xc_data.specs.declared.object.Num.{Num}
use Rattle.xc_data.specs.declared.object.Object.{Object}
use Rattle.xc_data.specs.declared.object.Object.TheVariants as object
use Rattle.xc_data.specs.declared.call.CallWithAnswer.{CallWithAnswer}
use Rattle.xc_data.specs.declared.entry.KeptItem.{KeptItem}
use Rattle.xc_data.specs.declared.entry.KeptItem.TheVariants.{Bytes, Message}
use Rattle.xc_data.specs.declared.undo.Undo.{Undo}
use Rattle.xc_data.specs.declared.undo.Undo.TheVariants as undo
use Rattle.xc_data.specs.declared.undo.UndoEnd.{UndoEnd}
use Rattle.xc_data.specs.Remaining.{objects_of}
use Rattle.xc_world.specs.World.{World}
use Rattle.xc_world.specs.Run.{given_back, item_object, BodyResult, step}
use Rattle.xc_world.specs.Ends.{Ending, remains, with_remains}
use Rattle.xc_world.specs.Effects.{whole, undone_to}
use Rattle.xc_world.specs.Sound.{IsSound}
use Rattle.xc_world.specs.Laws.{AgreeAt, GoAlike}
use Rattle.xc_world.specs.Own.{IsNumbered, AgreeOn}
use Rattle.xc_world.proofs.Laws.{agree_back, agree_on, decide, keeps_itself, undone_to_alike, marked_now, given_alike, given_away, given_words, given_blocks}
use Rattle.xc_data.specs.Claims.{is_object}
use Rattle.xc_data.proofs.Laws.{same_object, itself}
use Rattle.xc_flight.specs.Active.{Tx, Running, Undoing, Own, Has, Covers}
use Rattle.xc_flight.specs.Flight.{ran, effects, left, returned, IsPhase, Inside, stood, noted, is_source, IsSourced}
use Rattle.xc_flight.specs.State.{FlightState, IsActive, InFlight, turned, entered}
use Rattle.xc_flight.specs.Turns.{in_phase, MayDo, wanting_memory, after_call, with_undone}
use Rattle.xc_flight.proofs.Basics.{owns_has}
use Rattle.xc_flight.proofs.Frames.{trail_own, left_keeps, all_front}
use Rattle.xc_flight.proofs.Rows.{flight_goes_on, end_keeps}
use Rattle.xc_flight.proofs.Calling.{is_running, running_left, after_keeps, fits_then, step_trail, step_taken, step_covers, step_stands}
use Rattle.xc_flight.proofs.Taking.{Coined, trail_coined, returns_left, taken_own, taken_elsewhere}

-- ---- the objects from which it took
-- what is so of the object of each item is so of the one that an item was taken from
pub a_source : (items : List KeptItem) (o : Object) (Q : Object → Type 0) → is_source items o ≡ true → All (λ k. Q (item_object k)) items → Q o
a_source [] o Q is all = cc
a_source (k ∷ items) o Q is all =
    by_test (is_object (item_object k) o) refl
    (λ rest. a_source items o Q rest (All-tail (λ (x : KeptItem). Q (item_object x)) k items all))
  where
    later : (b : Bool) → b ≡ false → (b || is_source items o) ≡ true → is_source items o ≡ true
    later true e f = cc
    later false e f = f

    by_test : (b : Bool) → is_object (item_object k) o ≡ b → (is_source items o ≡ true → Q o) → Q o
    by_test true e rest = subst Q (same_object (item_object k) o e) (All-head (λ (x : KeptItem). Q (item_object x)) k items all)
    by_test false e rest = rest (later (is_object (item_object k) o) e is)

-- what no item was taken from isn't one
pub no_source : (items : List KeptItem) (o : Object) → is_source items o ≡ false → All (λ k. item_object k ≢ o) items
no_source [] o none = All-nil (λ (k : KeptItem). item_object k ≢ o)
no_source (k ∷ items) o none =
    let parts = neither (is_object (item_object k) o) (is_source items o) none in
    All-cons (λ (x : KeptItem). item_object x ≢ o) k items
    (λ e. let yes : is_object (item_object k) o ≡ true = subst (λ x. is_object (item_object k) x ≡ true) e (itself (item_object k)) in cc (yes, parts.0))
    (no_source items o parts.1)
  where
    neither : (b c : Bool) → (b || c) ≡ false → (b ≡ false) × (c ≡ false)
    neither true c e = cc
    neither false c e = (refl, e)

not_a_source : (items : List KeptItem) (o : Object) → is_source items o ≡ true → All (λ k. item_object k ≢ o) items → ⊥
not_a_source items o is away = a_source items o (λ p. p ≢ o) is away refl

-- ---- a transaction that turns back
-- none of its records has an end yet: all stand whole
all_whole : (t : Tx) (trail : List Undo) → trail ≡ t.pending ++ map (λ r. r.0) t.ended → t.ended ≡ [] → whole trail ≡ effects t
all_whole t trail e none =
    ap whole (e ∙ ap (λ es. t.pending ++ map (λ (r : Ending). r.0) es) none ∙ append-nil t.pending)
    ∙ sym (ap (λ es. whole t.pending ++ remains es) none ∙ append-nil (whole t.pending))

-- where the station has what its body left, it has, with what was taken given back, what its records tell
turn : (w now : World) (t : Tx) → Inside w t → IsSound w t.began t.number → t.ended ≡ [] → AgreeOn (Own t) now (record (ran w t).world { words = w.words })
    → AgreeOn (Own t) (given_back now t.taken) (with_remains w (effects t))
turn w now t i sound none there o e =
    subst (λ ts. AgreeAt (given_back now ts) (with_remains w (effects t)) o) i.taken
    (subst (λ x. AgreeAt (given_back now (ran w t).taken) x o) (returns_left w t i sound ∙ ap (with_remains w) (all_whole t (ran w t).trail i.trail none))
    (given_alike now (record (ran w t).world { words = w.words }) (ran w t).taken o (there o e)))

-- a turn back keeps all
pub turns_back : (s : FlightState) (job : ℕ) (t : Tx) → InFlight s → IsActive s job t → t.phase ≡ Running → IsSound s.state t.began t.number
    → InFlight (turned s job (Some (in_phase t Undoing)) s.now)
turns_back s job t h active phase sound =
    let i = (h.flights job t active).inside in
    let p = is_running s job t h active phase in
    let i' : Inside s.state (in_phase t Undoing) =
    record {
      new = i.new;
      fits = i.fits;
      replies = i.replies;
      me = i.me;
      late = i.late;
      trail = i.trail;
      taken = i.taken;
      covers = i.covers;
      phase = p.no_late_ends;
      saved = i.saved;
    } in
    flight_goes_on s job t (in_phase t Undoing) s.now h active refl refl (keeps_itself (Own t) s.now) (record {
      inside = i';
      owns = turn s.state s.now (in_phase t Undoing) i' sound p.none (λ o e. running_left s job t h active phase o (owns_has t o e));
      sources = λ o e. running_left s job t h active phase o (owns_has t o e.0);
    })

-- the call did its part, and then memory ran out
pub wants : (s : FlightState) (job : ℕ) (t : Tx) (c : CallWithAnswer) → InFlight s → IsActive s job t → t.phase ≡ Running → MayDo s.now t c
    → IsSound s.state t.began t.number
    → InFlight (turned s job (Some (wanting_memory s.now t c)) (after_call s.now t c))
wants s job t c h active phase k sound =
    let i = (h.flights job t active).inside in
    let p = is_running s job t h active phase in
    let t' = wanting_memory s.now t c in
    let is : ran s.state t' ≡ step t.number (noted s.state t) c =
    marked_now c.call (stood s.state t).saved (step t.number (noted s.state t) c) k.ahead in
    let i' : Inside s.state t' = record {
      new = i.new;
      fits = fits_then s job t c h active phase k;
      replies = i.replies;
      me = i.me;
      late = i.late;
      trail = ap (λ (r : BodyResult). r.trail) is ∙ step_trail s job t c h active phase k;
      taken = ap (λ (r : BodyResult). r.taken) is ∙ step_taken s job t c h active phase k;
      covers = subst (λ (r : BodyResult). Covers t.held r.touched) (sym is) (step_covers s job t c h active phase k);
      phase = p.no_late_ends;
      saved = i.saved;
    } in
    let stands : AgreeOn (Has t) (after_call s.now t c) (record (ran s.state t').world { words = s.state.words }) =
    λ o e. subst (λ (r : BodyResult). AgreeAt (after_call s.now t c) (record r.world { words = s.state.words }) o) (sym is)
    (step_stands s job t c h active phase k o e) in
    flight_goes_on s job t t' (after_call s.now t c) h active refl refl (after_keeps s job t c h active phase k) (record {
      inside = i';
      owns = turn s.state (after_call s.now t c) t' i' sound p.none (λ o e. stands o (owns_has t o e));
      sources = λ o e. stands o (owns_has t o e.0);
    })

-- ---- a compensation
-- the objects of a record are none from which the transaction took
one_away : (k : KeptItem) (o : Object) → item_object k ≢ o → All (λ p. item_object k ≢ p) (o ∷ [])
one_away k o ne = All-cons (λ p. item_object k ≢ p) o [] ne (All-nil (λ p. item_object k ≢ p))

not_a_file : (k : KeptItem) (file : Num) → item_object k ≢ object.File file
not_a_file (Bytes num bytes) file e = cc e
not_a_file (Message num side bytes) file e = cc e

not_a_name : (k : KeptItem) (name : List ℕ) → item_object k ≢ object.Name name
not_a_name (Bytes num bytes) name e = cc e
not_a_name (Message num side bytes) name e = cc e

not_the_pipe : (n : ℕ) (k : KeptItem) (pipe : Num) → pipe.tx ≡ n → (IsNumbered n (item_object k) → ⊥) → item_object k ≢ object.Pipe pipe
not_the_pipe n k pipe own elsewhere e = elsewhere (subst (IsNumbered n) (sym e) own)

not_the_pair : (n : ℕ) (k : KeptItem) (pair : Num) → pair.tx ≡ n → (IsNumbered n (item_object k) → ⊥) → item_object k ≢ object.Pair pair
not_the_pair n k pair own elsewhere e = elsewhere (subst (IsNumbered n) (sym e) own)

-- no record speaks of what was taken
pub all_away : (n : ℕ) (u : Undo) (k : KeptItem) → Coined n u → (IsNumbered n (item_object k) → ⊥) → All (λ p. item_object k ≢ p) (objects_of u)
all_away n (undo.Overwrite file at before after m) k coined elsewhere = one_away k (object.File file) (not_a_file k file)
all_away n (undo.Append file from after m) k coined elsewhere = one_away k (object.File file) (not_a_file k file)
all_away n (undo.Create name file) k coined elsewhere =
    All-cons (λ p. item_object k ≢ p) (object.Name name) (object.File file ∷ []) (not_a_name k name) (one_away k (object.File file) (not_a_file k file))
all_away n (undo.Rename from to) k coined elsewhere =
    All-cons (λ p. item_object k ≢ p) (object.Name from) (object.Name to ∷ []) (not_a_name k from) (one_away k (object.Name to) (not_a_name k to))
all_away n (undo.NewPipe pipe) k coined elsewhere = one_away k (object.Pipe pipe) (not_the_pipe n k pipe coined elsewhere)
all_away n (undo.NewPair pair) k coined elsewhere = one_away k (object.Pair pair) (not_the_pair n k pair coined elsewhere)

last_of : {X : Type 0} (P : X → Type 0) (older : List X) (u : X) → All P (older ++ u ∷ []) → P u
last_of P [] u all = All-head P u [] all
last_of P (x ∷ older) u all = last_of P older u (All-tail P x (older ++ u ∷ []) all)

module _ (s : FlightState) (job : ℕ) (t : Tx) (older : List Undo) (u : Undo) (end : UndoEnd)
    (h : InFlight s) (active : IsActive s job t) (phase : t.phase ≡ Undoing) (sound : IsSound s.state t.began t.number)
    (newest : t.pending ≡ older ++ u ∷ []) where
  inside : Inside s.state t
  inside = (h.flights job t active).inside

  owns : AgreeOn (Own t) (given_back s.now t.taken) (with_remains s.state (effects t))
  owns = subst (λ p. AgreeOn (Own t) (returned s.now t p) (left s.state t p)) phase (h.flights job t active).owns

  -- what is true of all its records is true of this one
  pub of_record : (P : Undo → Type 0) → All P (ran s.state t).trail → P u
  of_record P all = last_of P older u (subst (All P) newest (all_front P t.pending (map (λ (r : Ending). r.0) t.ended) (subst (All P) inside.trail all)))

  -- it owns what it speaks of
  pub record_own : All (Own t) (objects_of u)
  record_own = of_record (λ v. All (Own t) (objects_of v)) (trail_own s.state t inside.covers)

  -- and took nothing from there
  pub not_taken : (o : Object) → Contains (objects_of u) o → All (λ k. item_object k ≢ o) t.taken
  not_taken o at =
      All-weaker (λ k. IsNumbered t.number (item_object k) → ⊥) (λ k. item_object k ≢ o)
      (λ k elsewhere. All-contains (λ p. item_object k ≢ p) (objects_of u) o (all_away t.number u k
      (of_record (Coined t.number) (trail_coined s.state t)) elsewhere) at)
      t.taken (subst (All (λ k. IsNumbered t.number (item_object k) → ⊥)) inside.taken (taken_elsewhere s.state t inside sound))

  -- what it speaks of is there as its records tell: none of it was taken
  pub there_as_told : (o : Object) → Contains (objects_of u) o → AgreeAt s.now (with_remains s.state (effects t)) o
  there_as_told o at =
      agree_on s.now (given_back s.now t.taken) (with_remains s.state (effects t)) o (given_away s.now t.taken o (not_taken o at))
      (owns o (All-contains (Own t) (objects_of u) o record_own at))

  both : GoAlike (objects_of u) s.now (with_remains s.state (effects t)) (undone_to s.now u end) (undone_to (with_remains s.state (effects t)) u end)
  both =
      undone_to_alike s.now (with_remains s.state (effects t)) u end
      (All-weaker (Contains (objects_of u)) (AgreeAt s.now (with_remains s.state (effects t))) there_as_told (objects_of u)
      (All-contains_itself (objects_of u)))

  undone_there : AgreeOn (Own t) (given_back (undone_to s.now u end) t.taken) (undone_to (with_remains s.state (effects t)) u end)
  undone_there o e =
      let ts = t.taken in
      let r = with_remains s.state (effects t) in
      let now' = undone_to s.now u end in
      let r' = undone_to r u end in
      ⊎_elim (λ (at : Contains (objects_of u) o). agree_on (given_back now' ts) now' r' o
      (agree_back now' (given_back now' ts) o (given_away now' ts o (not_taken o at))) (All-contains (AgreeAt now' r') (objects_of u) o both.agree at))
      (λ (lacks : Contains (objects_of u) o → ⊥).
      agree_on (given_back now' ts) (given_back s.now ts) r' o (given_alike now' s.now ts o (agree_back s.now now' o (both.left.others o lacks)))
      (agree_on (given_back s.now ts) r r' o (owns o e) (both.right.others o lacks)))
      (decide (objects_of u) o)

  -- a compensation keeps all
  pub undoes : undone_to (with_remains s.state (effects t)) u end ≡ with_remains s.state (effects (with_undone t older u end))
      → InFlight (turned s job (Some (with_undone t older u end)) (undone_to s.now u end))
  undoes law =
      let i = inside in
      let now' = undone_to s.now u end in
      let t' = with_undone t older u end in
      flight_goes_on s job t t' now' h active refl refl
      (record {
        others = λ o lacks. both.left.others o (λ at. lacks (All-contains (Own t)
            (objects_of u) o record_own at));
        count = both.left.count;
        blocks = both.left.blocks;
      }) (record {
        inside = record {
          new = i.new;
          fits = i.fits;
          replies = i.replies;
          me = i.me;
          late = i.late;
          trail = i.trail ∙ ap (λ us. us ++ map (λ (r : Ending). r.0) t.ended) newest ∙ append_assoc older (u ∷ []) (map (λ (r : Ending). r.0) t.ended);
          taken = i.taken;
          covers = i.covers;
          phase = subst (IsPhase s.state t') (sym phase) (subst (IsPhase s.state t) phase i.phase);
          saved = i.saved;
        };
        owns = subst (λ p. AgreeOn (Own t) (returned now' t' p) (left s.state t' p)) (sym phase)
            (subst (λ x. AgreeOn (Own t) (given_back now' t.taken) x) law undone_there);
        sources = subst (IsSourced s.state now' t') (sym phase) (λ o e.
            agree_on now' s.now (left s.state t Running) o
            (agree_back s.now now' o (both.left.others o (λ at. not_a_source t.taken o e.1 (not_taken o at))))
            (subst (IsSourced s.state s.now t) phase (h.flights job t active).sources o e));
      })

-- ---- an aborted transaction, each of whose records has its end, gives back what it took and enters
pub abort_enters : (s : FlightState) (job : ℕ) (t : Tx) → InFlight s → IsActive s job t → t.phase ≡ Undoing → IsSound s.state t.began t.number → t.pending ≡ []
    → InFlight (entered s job (with_remains s.state (remains t.ended)) (given_back s.now t.taken))
abort_enters s job t h active phase sound none =
    let f = h.flights job t active in
    let ts = t.taken in
    let now' = given_back s.now ts in
    let same : effects t ≡ remains t.ended = ap (λ us. whole us ++ remains t.ended) none in
    subst (λ es. InFlight (entered s job (with_remains s.state es) now')) same
    (end_keeps s job t (with_remains s.state (effects t)) now' h active (left_keeps s.state t f.inside Undoing) (record {
      others = λ o lacks. given_away s.now ts o (All-weaker (λ k. Own t (item_object k)) (λ k. item_object k ≢ o)
          (λ k own e. lacks (subst (Own t) e own)) ts (subst (All (λ k. Own t (item_object k))) f.inside.taken (taken_own s.state t f.inside sound)));
      count = ap length (given_words s.now ts);
      blocks = given_blocks s.now ts;
    }) (subst (λ p. AgreeOn (Own t) (returned s.now t p) (left s.state t p)) phase f.owns))
