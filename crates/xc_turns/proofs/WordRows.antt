-- The words of a station at each kind of turn.
use Rattle.std.proofs.Common.{◌≡◌, ◌≢◌, ℕ, ◌<◌, inl, inr, ⊎_elim, Bool, true, false, Some, None, List, length, refl, ap, sym, ◌∙◌, subst}
use Rattle.std.specs.Prelude.{Contains, slice_get, slice_set, slice_index}
use Rattle.std.specs.List.{list_any}
use mathlib.Core.Logic.{dite}
use native.Mathlib.Decide.{ℕ_discrete}
use Rattle.xc_data.specs.Claims.{owned}
use Rattle.xc_data.specs.declared.call.LateEnd.{LateEnd}
use Rattle.xc_data.specs.declared.object.Object.TheVariants as object
use Rattle.xc_txmem.specs.Overlay.{overlaid, AreWithin}
use Rattle.xc_world.specs.Own.{Owns}
use Rattle.xc_world.proofs.Laws.{decide}
use Rattle.xc_model.specs.declared.phase.Phase.TheVariants.{Running, Committing}
use Rattle.xc_model.specs.WordCalls.{words_behind}
use Rattle.xc_model.specs.Moment.{TxView, JobView, active_of}
use Rattle.xc_model.specs.Movers.{IsActiveAt}
use Rattle.xc_model.specs.Holding.{AreApart}
use Rattle.xc_model.specs.Words.{stores_to, TxWordsAgree, IsWriter, WordsAgree}
use Rattle.xc_turns.proofs.WordStates.{behind_alike, behind_count, behind_other, replies_alike}
use Rattle.xc_turns.proofs.WordClaims.{owner_is_alone, owner_sees}
use Rattle.xc_turns.proofs.Jobs.{active_was, active_is, active_here, active_before, active_after}
use Rattle.xc_turns.proofs.WordTx.{no_writer, running_waits, phased_spoken, ended_spoken}

-- the job has no committing transaction
abbrev pub IsQuiet : JobView → Type 0
IsQuiet job = (t : TxView) → active_of job ≡ Some t → t.phase ≡ Committing → ⊥

-- its active one, if there is one, has spoken like this
abbrev pub Speaks : List ℕ → JobView → Type 0
Speaks before job = (t : TxView) → active_of job ≡ Some t → TxWordsAgree before t

module _ (before words : List ℕ) (jobs : List JobView) (at : ℕ) (job : JobView) (stands : slice_get jobs at ≡ Some job) (h : WordsAgree before words jobs) where
  -- a place is this one or another
  here_or : (P : ℕ → Type 0) (j : ℕ) → P at → (j ≢ at → P j) → P j
  here_or P j here other = dite (ℕ_discrete j at) (λ (e : j ≡ at). subst P (sym e) here) other

  -- a turn that begins and ends no commit
  pub quiet_turn : (job' : JobView) → IsQuiet job → IsQuiet job' → Speaks before job' → WordsAgree before words (slice_set jobs at job')
  quiet_turn job' was is speaks =
      let js = slice_set jobs at job' in
      record {
        count = h.count;
        each = λ j. here_or (λ k. (t : TxView) → IsActiveAt js k t → TxWordsAgree before t) j (λ t a. speaks t (active_is jobs at job stands job' t a))
            (λ ne t a. h.each j t (active_before jobs at j job' t ne a));
        written = λ word j. here_or (λ k. (t : TxView) → word < length before → IsWriter js k t word
            → slice_index words word ≡ slice_index (words_behind before t.calls) word) j
            (λ t lt w. absurd (is t (active_is jobs at job stands job' t w.active) w.phase))
            (λ ne t lt w. h.written word j t lt (record { active = active_before jobs at j job' t ne w.active; phase = w.phase; owns = w.owns }));
        others = λ word lt none. h.others word lt (λ j. here_or (λ k. (t : TxView) → IsWriter jobs k t word → ⊥) j
            (λ t w. was t (active_was jobs at job stands t w.active) w.phase)
            (λ ne t w. none j t (record { active = active_after jobs at j job' t ne w.active; phase = w.phase; owns = w.owns })));
      }

  module _ (tx : TxView) (active : active_of job ≡ Some tx) (apart : AreApart jobs) where
    -- it has spoken
    spoken : TxWordsAgree before tx
    spoken = h.each at tx (job, stands, active)

    -- an active one elsewhere sees nothing that it owns
    owned_alone : (j : ℕ) (t : TxView) (word : ℕ) → j ≢ at → IsActiveAt jobs j t → Owns tx.number tx.held (object.Word word)
        → Owns t.number t.held (object.Word word) → ⊥
    owned_alone j t word ne a owns also =
        owner_is_alone jobs at j tx t word apart (λ e. ne (sym e)) (job, stands, active) a owns (owner_sees t.number t.held word also)

    -- a word that it doesn't own its calls leave
    left_alone : (ws : List ℕ) (word : ℕ) → word < length before → (Owns tx.number tx.held (object.Word word) → ⊥)
        → slice_index (words_behind ws tx.calls) word ≡ slice_index ws word
    left_alone ws word lt lacks = by_test (list_any (stores_to word) tx.calls) refl
      where
        by_test : (b : Bool) → list_any (stores_to word) tx.calls ≡ b → slice_index (words_behind ws tx.calls) word ≡ slice_index ws word
        by_test true is = absurd (lacks (spoken.holds.stores word lt is))
        by_test false is = behind_other ws tx.calls word is

    -- ---- it goes over to its commit
    module _ (runs : tx.phase ≡ Running) (job' : JobView) (active' : active_of job' ≡ Some (record tx { phase = Committing })) where
      -- the words with its stores are those after its calls
      laid : overlaid words tx.writes ≡ words_behind words tx.calls
      laid = (spoken.stores (running_waits tx.phase runs) words h.count).0

      -- no other writes a word that it owns
      none_writes : (word j : ℕ) (t : TxView) → Owns tx.number tx.held (object.Word word) → IsWriter jobs j t word → ⊥
      none_writes word j t owns w =
          dite (ℕ_discrete j at) (λ (e : j ≡ at). no_writer before words jobs at job tx stands active runs h t word (subst (λ k. IsWriter jobs k t word) e w))
          (λ (ne : j ≢ at). owned_alone j t word ne w.active owns w.owns)

      written_here : (t : TxView) (word : ℕ) → word < length before → IsWriter (slice_set jobs at job') at t word
          → slice_index (words_behind words tx.calls) word ≡ slice_index (words_behind before t.calls) word
      written_here t word lt w =
          let is = active_is jobs at job stands job' t w.active in
          let same : record tx { phase = Committing } ≡ t = cc (active', is) in
          let owns : Owns tx.number tx.held (object.Word word) = subst (λ (u : TxView). Owns u.number u.held (object.Word word)) (sym same) w.owns in
          behind_alike words before tx.calls word h.count (h.others word lt (λ j u v. none_writes word j u owns v))
          ∙ ap (λ (u : TxView). slice_index (words_behind before u.calls) word) same

      written_there : (j : ℕ) (t : TxView) (word : ℕ) → j ≢ at → word < length before → IsWriter (slice_set jobs at job') j t word
          → slice_index (words_behind words tx.calls) word ≡ slice_index (words_behind before t.calls) word
      written_there j t word ne lt w =
          let a = active_before jobs at j job' t ne w.active in
          left_alone words word lt (λ owns. owned_alone j t word ne a owns w.owns)
          ∙ h.written word j t lt (record { active = a; phase = w.phase; owns = w.owns })

      left_words : (word : ℕ) → word < length before → ((j : ℕ) (t : TxView) → IsWriter (slice_set jobs at job') j t word → ⊥)
          → slice_index (words_behind words tx.calls) word ≡ slice_index before word
      left_words word lt none =
          left_alone words word lt
          (λ owns. none at (record tx { phase = Committing }) (record { active = active_here jobs at job stands job' _ active'; phase = refl; owns = owns }))
          ∙ h.others word lt (λ j. here_or (λ k. (t : TxView) → IsWriter jobs k t word → ⊥) j
          (λ t w. no_writer before words jobs at job tx stands active runs h t word w)
          (λ ne t w. none j t (record { active = active_after jobs at j job' t ne w.active; phase = w.phase; owns = w.owns })))

      -- its stores are written
      pub commits_turn : WordsAgree before (overlaid words tx.writes) (slice_set jobs at job')
      commits_turn = subst (λ ws. WordsAgree before ws (slice_set jobs at job')) (sym laid) (record {
        count = behind_count words tx.calls ∙ h.count;
        each = λ j. here_or (λ k. (t : TxView) → IsActiveAt (slice_set jobs at job') k t → TxWordsAgree before t) j
            (λ t a. let is = active_is jobs at job stands job' t a in
            let same : record tx { phase = Committing } ≡ t = cc (active', is) in
            subst (TxWordsAgree before) same (phased_spoken before tx Committing tx.undo (λ waits. absurd waits) spoken))
            (λ ne t a. h.each j t (active_before jobs at j job' t ne a));
        written = λ word j. here_or (λ k. (t : TxView) → word < length before → IsWriter (slice_set jobs at job') k t word
            → slice_index (words_behind words tx.calls) word ≡ slice_index (words_behind before t.calls) word) j
            (λ t lt w. written_here t word lt w) (λ ne t lt w. written_there j t word ne lt w);
        others = left_words;
      })

    -- ---- one of its late calls is done
    module _ (ends : List LateEnd) (job' : JobView) (active' : active_of job' ≡ Some (record tx { ends = ends })) where
      -- the one in its place is it
      it_is : (t : TxView) → IsActiveAt (slice_set jobs at job') at t → record tx { ends = ends } ≡ t
      it_is t a = let is = active_is jobs at job stands job' t a in cc (active', is)

      -- it writes what it wrote
      writer_was : (t : TxView) (word : ℕ) → IsWriter (slice_set jobs at job') at t word → IsWriter jobs at tx word
      writer_was t word w =
          let same = it_is t w.active in
          record {
            active = (job, stands, active);
            phase = ap (λ (u : TxView). u.phase) same ∙ w.phase;
            owns = subst (λ (u : TxView). Owns u.number u.held (object.Word word)) (sym same) w.owns;
          }

      writer_is : (t : TxView) (word : ℕ) → IsWriter jobs at t word → IsWriter (slice_set jobs at job') at (record tx { ends = ends }) word
      writer_is t word w =
          let was = active_was jobs at job stands t w.active in
          let same : t ≡ tx = cc (active, was) in
          record {
            active = active_here jobs at job stands job' (record tx { ends = ends }) active';
            phase = ap (λ (u : TxView). u.phase) (sym same) ∙ w.phase;
            owns = subst (λ (u : TxView). Owns u.number u.held (object.Word word)) same w.owns;
          }

      -- the words stay
      pub late_turn : WordsAgree before words (slice_set jobs at job')
      late_turn = record {
        count = h.count;
        each = λ j. here_or (λ k. (t : TxView) → IsActiveAt (slice_set jobs at job') k t → TxWordsAgree before t) j
            (λ t a. subst (TxWordsAgree before) (it_is t a) (ended_spoken before tx ends spoken)) (λ ne t a. h.each j t (active_before jobs at j job' t ne a));
        written = λ word j. here_or (λ k. (t : TxView) → word < length before → IsWriter (slice_set jobs at job') k t word
            → slice_index words word ≡ slice_index (words_behind before t.calls) word) j
            (λ t lt w. h.written word at tx lt (writer_was t word w)
            ∙ ap (λ (u : TxView). slice_index (words_behind before u.calls) word) (it_is t w.active))
            (λ ne t lt w. h.written word j t lt (record { active = active_before jobs at j job' t ne w.active; phase = w.phase; owns = w.owns }));
        others = λ word lt none. h.others word lt (λ j. here_or (λ k. (t : TxView) → IsWriter jobs k t word → ⊥) j
            (λ t w. none at (record tx { ends = ends }) (writer_is t word w))
            (λ ne t w. none j t (record { active = active_after jobs at j job' t ne w.active; phase = w.phase; owns = w.owns })));
      }

    -- ---- it enters
    module _ (phase : tx.phase ≡ Committing) (job' : JobView) (none : active_of job' ≡ None) where
      -- there is no active one any more
      gone : (t : TxView) → IsActiveAt (slice_set jobs at job') at t → ⊥
      gone t a = let is = active_is jobs at job stands job' t a in cc (none, is)

      counted : length (words_behind before tx.calls) ≡ length before
      counted = behind_count before tx.calls

      -- a word in range of the words that it leaves
      ranged : (word : ℕ) → word < length (words_behind before tx.calls) → word < length before
      ranged word lt = subst (λ n. word < n) counted lt

      others_spoken : (j : ℕ) (t : TxView) → j ≢ at → IsActiveAt jobs j t → TxWordsAgree (words_behind before tx.calls) t
      others_spoken j t ne a =
          let sp = h.each j t a in
          record {
            replies = replies_alike before (words_behind before tx.calls) t.calls t.replies (sym counted)
                (λ word lt any. sym (left_alone before word lt
                (λ owns. owner_is_alone jobs at j tx t word apart (λ e. ne (sym e)) (job, stands, active) a owns (sp.holds.reads word lt any)))) sp.replies;
            holds = record {
              reads = λ word lt any. sp.holds.reads word (ranged word lt) any;
              stores = λ word lt any. sp.holds.stores word (ranged word lt) any;
            };
            stores = λ runs ws n. sp.stores runs ws (n ∙ counted);
            within = subst (λ n. AreWithin n t.writes) (sym counted) sp.within;
          }

      written_before : (word j : ℕ) (t : TxView) → j ≢ at → word < length before → IsWriter (slice_set jobs at job') j t word
          → slice_index words word ≡ slice_index (words_behind (words_behind before tx.calls) t.calls) word
      written_before word j t ne lt w =
          let a = active_before jobs at j job' t ne w.active in
          h.written word j t lt (record { active = a; phase = w.phase; owns = w.owns })
          ∙ behind_alike before (words_behind before tx.calls) t.calls word (sym counted)
          (sym (left_alone before word lt (λ owns. owned_alone j t word ne a owns w.owns)))

      left_before : (word : ℕ) → word < length before → ((j : ℕ) (t : TxView) → IsWriter (slice_set jobs at job') j t word → ⊥)
          → slice_index words word ≡ slice_index (words_behind before tx.calls) word
      left_before word lt free = ⊎_elim
          (λ (at' : Contains (owned tx.held) (object.Word word)).
          h.written word at tx lt (record { active = (job, stands, active); phase = phase; owns = inl at' }))
          (λ (lacks : Contains (owned tx.held) (object.Word word) → ⊥).
          h.others word lt (λ j. here_or (λ k. (t : TxView) → IsWriter jobs k t word → ⊥) j
          (λ t w. let was = active_was jobs at job stands t w.active in let same : t ≡ tx = cc (active, was) in
          lacks_it lacks (subst (λ (u : TxView). Owns u.number u.held (object.Word word)) same w.owns))
          (λ ne t w. free j t (record { active = active_after jobs at j job' t ne w.active; phase = w.phase; owns = w.owns })))
          ∙ sym (left_alone before word lt (lacks_it lacks))) (decide (owned tx.held) (object.Word word))
        where
          lacks_it : (Contains (owned tx.held) (object.Word word) → ⊥) → Owns tx.number tx.held (object.Word word) → ⊥
          lacks_it lacks (inl at') = lacks at'
          lacks_it lacks (inr numbered) = numbered

      -- the journal leaves its words
      pub enters_turn : WordsAgree (words_behind before tx.calls) words (slice_set jobs at job')
      enters_turn = record {
        count = h.count ∙ sym counted;
        each = λ j. here_or (λ k. (t : TxView) → IsActiveAt (slice_set jobs at job') k t → TxWordsAgree (words_behind before tx.calls) t) j
            (λ t a. absurd (gone t a)) (λ ne t a. others_spoken j t ne (active_before jobs at j job' t ne a));
        written = λ word j. here_or (λ k. (t : TxView) → word < length (words_behind before tx.calls) → IsWriter (slice_set jobs at job') k t word
            → slice_index words word ≡ slice_index (words_behind (words_behind before tx.calls) t.calls) word) j
            (λ t lt w. absurd (gone t w.active)) (λ ne t lt w. written_before word j t ne (ranged word lt) w);
        others = λ word lt free. left_before word (ranged word lt) free;
      }
