-- What a row leaves of a journal in order, and jobs that found it full.
use Rattle.std.proofs.Common.{◌≡◌, ℕ, ◌+◌, ◌<◌, ◌≤◌, inl, inr, List, [], ◌∷◌, ◌++◌, length, map, zero, suc}
use Rattle.std.proofs.Common.{refl, ap, sym, ◌∙◌, subst, arith, true, false}
use Rattle.std.proofs.lemmas.List.Elements.{All-nil, All-cons, All-append}
use Rattle.std.proofs.lemmas.Option.{get_or_from_slice_get, slice_get_within}
use Rattle.std.specs.Prelude.{slice_get, slice_set, nat_eq, Bool, Option, All, if◌then◌else◌}
use Rattle.std.specs.declared.option.Option.TheVariants.{None, Some}
use mathlib.Core.Logic.{dite}
use native.Mathlib.Decide.{ℕ_discrete}
use Rattle.xc_data.specs.declared.entry.KeptItem.{KeptItem}
use Rattle.xc_data.specs.declared.entry.Entry.{Entry}
use Rattle.xc_data.specs.declared.entry.JobEnd.TheVariants as job_end
use Rattle.xc_host.specs.Contents.{Contents}
use Rattle.xc_data.specs.declared.entry.Mark.{Mark}
use Rattle.xc_model.specs.Serial.{AreSerial, JobsRise, IsSerial, is_alone}
use Rattle.xc_model.specs.Moment.{TxView, JobView, Doing, Idle, Active, Ended, Moment, active_in, active_of, jobs_joined}
use Rattle.xc_model.specs.Moment.{entering, unmarked}
use Rattle.xc_model.specs.Movers.{IsActiveAt}
use Rattle.xc_model.specs.Alone.{AreAlone, IsFullAt, MeetsNobody}
use Rattle.xc_turns.proofs.Lists.{get_cases}
use Rattle.xc_data.proofs.Laws.{get_set_other, get_set_same}
use Rattle.xc_turns.proofs.Grown.{AreIdle, grown_active}
use Rattle.xc_turns.proofs.Jobs.{active_is, active_before}

-- ---- a journal with one entry more
order_more : (n : ℕ) (journal : List Entry) (e : Entry) → AreSerial n journal → e.tx ≡ n + length journal + 1 → e.began ≡ n + length journal
    → is_alone e.outcome ≡ true → AreSerial n (journal ++ e ∷ [])
order_more n [] e order number began alone =
    (let h : e.tx ≡ n + 1 = number ∙ ap (λ k. k + 1) (let z : n + 0 ≡ n = omega arith in z) in h, began ∙ (let z : n + 0 ≡ n = omega arith in z), alone, tt)
order_more n (first ∷ journal) e order number began alone =
    let shift : n + suc (length journal) ≡ n + 1 + length journal = omega arith in
    (order.0, order.1, order.2, order_more (n + 1) journal e order.3 (number ∙ ap (λ k. k + 1) shift) (began ∙ shift) alone)

rise_more : (journal : List Entry) (e : Entry) (most : ℕ) → JobsRise journal → All (λ (x : Entry). x.job ≤ most) journal → e.job ≡ most
    → JobsRise (journal ++ e ∷ [])
rise_more journal e most rise before last i j a b ea eb less =
    elim (get_cases journal e i a ea) [
      | inl first ↦ elim (get_cases journal e j b eb) [
        | inl second ↦ rise i j a b first second less
        | inr second ↦
            let P : Entry → Type 0 = λ x. x.job ≤ most in
            let low : a.job ≤ most = subst P (get_or_from_slice_get journal i a a first) (before i a (slice_get_within journal i a first)) in
            let top : b.job ≡ most = ap (λ (x : Entry). x.job) (sym second.1) ∙ last in
            omega arith
      ]
      | inr first ↦ elim (get_cases journal e j b eb) [
        | inl second ↦ absurd (let within = slice_get_within journal j b second in omega arith)
        | inr second ↦ absurd (omega arith)
      ]
    ]

-- ---- what a row leaves
-- this is the next transaction
abbrev IsNextTx : ℕ → TxView → Type 0
IsNextTx entered tx = (tx.number ≡ entered + 1) × (tx.began ≡ entered) × MeetsNobody tx.phase × (entered < 10000)

-- no transaction is marked
abbrev HasNoMarks : Moment → Type 0
HasNoMarks now = (n : ℕ) → now.marks n ≡ None

-- nor is one after a turn that marks none
pub none_marked : (old new : Moment) → new.marks ≡ old.marks → HasNoMarks old → HasNoMarks new
none_marked old new same none n = ap (λ (marks : ℕ → Option Mark). marks n) same ∙ none n

-- without marks one that goes leaves none
pub none_left : (marks : ℕ → Option Mark) (number : ℕ) → ((n : ℕ) → marks n ≡ None) → (n : ℕ) → unmarked marks number n ≡ None
none_left marks number none n = by_test (nat_eq n number)
  where
    by_test : (b : Bool) → (if b then None else marks n) ≡ None
    by_test true = refl
    by_test false = none n

-- a job's active transaction is the next
pub active_is_next : (at : ℕ) (old : Moment) (job : JobView) (tx : TxView) → slice_get old.jobs at ≡ Some job → job.doing ≡ Active tx → AreAlone old at
    → IsNextTx (length old.journal) tx
active_is_next at old job tx stands is alone = alone.mine tx (job, stands, ap active_in is)

others_stay : (at : ℕ) (old new : Moment) (was is : JobView) → new.jobs ≡ slice_set old.jobs at is → AreAlone old at → (j : ℕ) (tx : TxView)
    → IsActiveAt new.jobs j tx → j ≡ at
others_stay at old new was is same alone j tx active =
    dite (ℕ_discrete j at) (λ e. e) (λ ne. alone.others j tx (active_before old.jobs at j is tx ne (subst (λ js. IsActiveAt js j tx) same active)))

own_is : (at : ℕ) (old new : Moment) (was is : JobView) (tx : TxView) → slice_get old.jobs at ≡ Some was → new.jobs ≡ slice_set old.jobs at is
    → IsActiveAt new.jobs at tx → active_of is ≡ Some tx
own_is at old new was is tx stands same active = active_is old.jobs at was stands is tx (subst (λ js. IsActiveAt js at tx) same active)

-- ---- jobs that found the journal full
-- where this one did, the journal is so
abbrev pub MayBeFull : List Entry → ℕ → JobView → Type 0
MayBeFull journal at job = job.doing ≡ Ended job_end.JournalFull → IsFullAt journal at

-- the same of each
abbrev pub AreFull : List Entry → List JobView → Type 0
AreFull journal jobs = (j : ℕ) (job : JobView) → slice_get jobs j ≡ Some job → MayBeFull journal j job

-- with another job in one place
full_set : (journal : List Entry) (jobs : List JobView) (at : ℕ) (was is : JobView) → slice_get jobs at ≡ Some was → MayBeFull journal at is
    → AreFull journal jobs → AreFull journal (slice_set jobs at is)
full_set journal jobs at was is stands own full j job there =
    dite (ℕ_discrete j at)
    (λ e.
    let here : slice_get (slice_set jobs at is) at ≡ Some job = ap (slice_get (slice_set jobs at is)) (sym e) ∙ there in
    let set = get_set_same jobs at was is stands in
    let same : is ≡ job = cc (here, set) in
    subst (λ k. MayBeFull journal k job) (sym e) (subst (MayBeFull journal at) same own))
    (λ ne. full j job (sym (get_set_other jobs at j is ne) ∙ there))

-- one that goes on didn't
pub goes_unfull : (journal : List Entry) (at : ℕ) (job : JobView) (d : Doing) → job.doing ≡ d → (d ≡ Ended job_end.JournalFull → ⊥) → MayBeFull journal at job
goes_unfull journal at job d is none full = absurd (none (sym is ∙ full))

-- nor did any where there is room
none_full : (journal longer : List Entry) (jobs : List JobView) → length journal < 10000 → AreFull journal jobs → AreFull longer jobs
none_full journal longer jobs room full j job there is = let most = (full j job there is).full in absurd (omega arith)

-- nor one that has just begun its block
pub idle_unfull : {A : Type 0} (journal : List Entry) (f : A → JobView) → ((x : A) → (f x).doing ≡ Idle) → (xs : List A) (j k : ℕ) (job : JobView)
    → slice_get (map f xs) j ≡ Some job → MayBeFull journal k job
idle_unfull journal f idle [] j k job there = cc
idle_unfull journal f idle (x ∷ xs) zero k job there =
    let same : f x ≡ job = cc in subst (MayBeFull journal k) same (goes_unfull journal k (f x) Idle (idle x) (λ e. cc))
idle_unfull journal f idle (x ∷ xs) (suc j) k job there = idle_unfull journal f idle xs j k job there

-- of jobs and others after
of_joined : (P : ℕ → JobView → Type 0) (jobs more : List JobView) → ((j : ℕ) (job : JobView) → slice_get jobs j ≡ Some job → P j job)
    → ((j i : ℕ) (job : JobView) → slice_get more j ≡ Some job → P i job) → (j : ℕ) (job : JobView) → slice_get (jobs ++ more) j ≡ Some job → P j job
of_joined P [] more front back j job there = back j j job there
of_joined P (x ∷ jobs) more front back zero job there = front zero job there
of_joined P (x ∷ jobs) more front back (suc j) job there =
    of_joined (λ n. P (suc n)) jobs more (λ i. front (suc i)) (λ k i. back k (suc i)) j job there

-- the job stands otherwise, and nothing enters
stays_so : (at : ℕ) (old new : Moment) (was is : JobView) → slice_get old.jobs at ≡ Some was → new.jobs ≡ slice_set old.jobs at is
    → new.journal ≡ old.journal → HasNoMarks new → ((tx : TxView) → active_of is ≡ Some tx → IsNextTx (length old.journal) tx)
    → MayBeFull old.journal at is → AreAlone old at → AreAlone new at
stays_so at old new was is stands jobs journal marks next own alone =
    record {
      serial = subst (λ j. IsSerial j) (sym journal) alone.serial;
      before = subst (λ j. All (λ (e : Entry). e.job ≤ at + 1) j) (sym journal) alone.before;
      others = others_stay at old new was is jobs alone;
      mine = λ tx active. subst (λ (j : List Entry). IsNextTx (length j) tx) (sym journal) (next tx (own_is at old new was is tx stands jobs active));
      unmarked = marks;
      full = subst (λ js. AreFull new.journal js) (sym jobs) (subst (λ j. AreFull j (slice_set old.jobs at is)) (sym journal)
          (full_set old.journal old.jobs at was is stands own alone.full));
    }

-- its transaction is this one
pub alone_goes_on : (at : ℕ) (old new : Moment) (was is : JobView) (tx : TxView) → slice_get old.jobs at ≡ Some was → new.jobs ≡ slice_set old.jobs at is
    → new.journal ≡ old.journal → HasNoMarks new → is.doing ≡ Active tx → IsNextTx (length old.journal) tx → AreAlone old at → AreAlone new at
alone_goes_on at old new was is tx stands jobs journal marks has next alone =
    stays_so at old new was is stands jobs journal marks
    (λ other e. let same : tx ≡ other = let h = ap active_in has in cc in subst (IsNextTx (length old.journal)) same next)
    (goes_unfull old.journal at is (Active tx) has (λ e. cc)) alone

-- it has none
pub rests : (at : ℕ) (old new : Moment) (was is : JobView) → slice_get old.jobs at ≡ Some was → new.jobs ≡ slice_set old.jobs at is
    → new.journal ≡ old.journal → HasNoMarks new → active_of is ≡ None → MayBeFull old.journal at is → AreAlone old at → AreAlone new at
rests at old new was is stands jobs journal marks none own alone =
    stays_so at old new was is stands jobs journal marks (λ other e. absurd (let h : ◌≡◌ {A = Option TxView} None (Some other) = sym none ∙ e in cc))
    own alone

-- its transaction enters
pub enters_alone : (at : ℕ) (old new : Moment) (was is : JobView) (e : Entry) (contents : Contents) (kept : List KeptItem)
    → slice_get old.jobs at ≡ Some was → new ≡ record (entering old at is e) { contents = contents; kept = kept } → active_of is ≡ None
    → (e.tx ≡ length old.journal + 1) × (e.began ≡ length old.journal) × (is_alone e.outcome ≡ true) × (e.job ≡ at + 1) → length old.journal < 10000
    → (is.doing ≡ Ended job_end.JournalFull → ⊥) → AreAlone old at → AreAlone new at
enters_alone at old new was is e contents kept stands same none fits room goes alone =
    let jobs : new.jobs ≡ slice_set old.jobs at is = ap (λ (n : Moment). n.jobs) same in
    let journal : new.journal ≡ old.journal ++ e ∷ [] = ap (λ (n : Moment). n.journal) same in
    let P : Entry → Type 0 = λ x. x.job ≤ at + 1 in
    let zero_first : length old.journal ≡ 0 + length old.journal = omega arith in
    let serial : IsSerial (old.journal ++ e ∷ []) = record {
      order = order_more 0 old.journal e alone.serial.order (fits.0 ∙ ap (λ n. n + 1) zero_first) (fits.1 ∙ zero_first) fits.2;
      jobs = rise_more old.journal e (at + 1) alone.serial.jobs alone.before fits.3;
    } in
    let before : All P (old.journal ++ e ∷ []) =
    All-append P old.journal (e ∷ []) alone.before (All-cons P e [] (omega (arith, fits.3)) (All-nil P)) in
    record {
      serial = subst (λ j. IsSerial j) (sym journal) serial;
      before = subst (λ j. All P j) (sym journal) before;
      others = others_stay at old new was is jobs alone;
      mine = λ tx active. absurd (let h : ◌≡◌ {A = Option TxView} None (Some tx) = sym none ∙ own_is at old new was is tx stands jobs active in cc);
      unmarked = λ n. ap (λ (now : Moment). now.marks n) same ∙ none_left old.marks e.tx alone.unmarked n;
      full = subst (λ js. AreFull new.journal js) (sym jobs)
          (full_set new.journal old.jobs at was is stands (λ full. absurd (goes full)) (none_full old.journal new.journal old.jobs room alone.full));
    }

-- jobs without transactions come after
pub alone_joined : (at : ℕ) (now : Moment) (more : List JobView) → AreIdle more
    → ((j i : ℕ) (job : JobView) → slice_get more j ≡ Some job → MayBeFull now.journal i job) → AreAlone now at → AreAlone (jobs_joined now more) at
alone_joined at now more idle unfull alone =
    record {
      serial = alone.serial;
      before = alone.before;
      others = λ j tx active. alone.others j tx (grown_active now.jobs more idle j tx active);
      mine = λ tx active. alone.mine tx (grown_active now.jobs more idle at tx active);
      unmarked = alone.unmarked;
      full = of_joined (MayBeFull now.journal) now.jobs more alone.full unfull;
    }
