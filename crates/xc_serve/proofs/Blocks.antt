-- The blocks of the jobs that a journal tells: they stay where it grows.
use Rattle.std.proofs.Common.{◌≡◌, ◌≢◌, ℕ, suc, ◌+◌, ◌-◌, ◌==◌, ◌<◌, ◌≤◌, Bool, true, false, List, [], ◌∷◌, ◌++◌, length, map, refl, sym, ap, ◌∙◌, subst}
use Rattle.std.proofs.Common.{arith, append_assoc, if◌then◌else◌, slice_set, zero}
use Rattle.std.specs.Prelude.{slice_get, IsSomeAnd, Option}
use Rattle.std.specs.declared.option.Option.TheVariants.{None, Some}
use Rattle.std.specs.List.{fold}
use Rattle.std.proofs.lemmas.List.{append-nil, map-append}
use Rattle.std.proofs.lemmas.List.Sums.{fold-append}
use Rattle.std.proofs.lemmas.Bool.{eqb-false}
use Rattle.std.proofs.lemmas.Option.{slice_get_within}
use Rattle.xc_data.proofs.Laws.{map_set_same}
use Rattle.xc_data.specs.Step.{Step}
use Rattle.xc_data.specs.declared.entry.Cause.{Cause}
use Rattle.xc_data.specs.declared.entry.Cause.TheVariants as cause
use Rattle.xc_data.specs.declared.entry.Entry.{Entry}
use Rattle.xc_data.specs.declared.entry.Outcome.{Outcome}
use Rattle.xc_data.specs.declared.entry.Outcome.TheVariants.{Committed, Aborted}
use Rattle.xc_data.specs.declared.entry.Turn.{Turn}
use Rattle.xc_data.specs.declared.entry.Turn.TheVariants as turn
use Rattle.xc_host.specs.Model.{HostModel}
use Rattle.xc_model.specs.Progress.{Following, Progress, after_entry, after_following, after_outcome, committed_job, following_abort, following_of}
use Rattle.xc_model.specs.Progress.{opening_progress, started_blocks, started_following, untried}
use Rattle.xc_script.specs.Blocks.{kept_calls}
use Rattle.xc_text.specs.declared.script.Script.{Script}
use Rattle.xc_turns.proofs.Laws.{get_front}
use Rattle.xc_model.specs.declared.origin.Origin.{Origin}
use Rattle.xc_station.specs.Passes.{PassView}
use Rattle.xc_turnstile.specs.Views.{BeginsWith}
use Rattle.xc_station.specs.Events.{IsTurnTried}
use Rattle.xc_station.specs.declared.job.Job.{Job}
use Rattle.xc_station.specs.declared.run_result.Opening.{Opening}
use Rattle.xc_station.specs.Names.{IsNameOf, block_name_at, told_blocks}
use Rattle.xc_station.specs.Stations.{StationView, live_at, lives}
use Rattle.xc_serve.specs.Answers.{IsOwnBlock, IsOwnIn, block_or_none}

-- the block of a started job
abbrev block : Following → List ℕ
block f = f.block

-- those of all
abbrev blocks_told : Progress → List (List ℕ)
blocks_told p = map block p.jobs

-- more come behind them
abbrev Goes : List (List ℕ) → List (List ℕ) → Type 0
Goes xs ys = (more : List (List ℕ)) × (ys ≡ xs ++ more)

-- a job that is set has the block of the one before, and others are started
one_set : (fs : List Following) (i : ℕ) (f g : Following) (more : List Following) → slice_get fs i ≡ Some f → g.block ≡ f.block
    → Goes (map block fs) (map block (slice_set fs i g ++ more))
one_set fs i f g more there same =
    (map block more, map-append block (slice_set fs i g) more ∙ ap (λ (bs : List (List ℕ)). bs ++ map block more) (map_set_same block fs i g f there same))

-- an abort leaves the block
abort_block : (entered : ℕ) (f : Following) (e : Entry) (c : Cause) → (following_abort entered f e c).block ≡ f.block
abort_block entered f e cause.Asked = refl
abort_block entered f e (cause.Stuck failed) = refl
abort_block entered f e cause.NoMemory = refl
abort_block entered f e (cause.Conflict object holder at) = refl
abort_block entered f e (cause.Revoked object by at) = refl

-- by how the entry ended
by_outcome : (script : Script) (p : Progress) (f : Following) (e : Entry) (o : Outcome) → slice_get p.jobs (e.job - 1) ≡ Some f
    → Goes (blocks_told p) (blocks_told (after_outcome script p f e o))
by_outcome script p f e (Committed late) there =
    let job = committed_job script f.job e.calls e.replies late in
    one_set p.jobs (e.job - 1) f (untried f.block job (p.entered + 1))
    (map (started_following script job (p.entered + 1)) (started_blocks (kept_calls e.calls e.replies) late)) there refl
by_outcome script p f e (Aborted report) there = (
  [],
  map_set_same block p.jobs (e.job - 1) (following_abort p.entered f e report.cause) f there (abort_block p.entered f e report.cause)
      ∙ sym (append-nil (blocks_told p)),
)

-- by whether its job is started
by_following : (script : Script) (p : Progress) (e : Entry) (o : Option Following) → following_of p e ≡ o
    → Goes (blocks_told p) (blocks_told (after_following script p e o))
by_following script p e None there = ([], sym (append-nil (blocks_told p)))
by_following script p e (Some f) there = by_outcome script p f e e.outcome there

-- what entries add stands behind
all_go : (script : Script) (p : Progress) (journal : List Entry) → Goes (blocks_told p) (blocks_told (fold (after_entry script) p journal))
all_go script p [] = ([], sym (append-nil (blocks_told p)))
all_go script p (e ∷ journal) =
    let one : Goes (blocks_told p) (blocks_told (after_entry script p e)) = by_following script p e (following_of p e) refl in
    let rest : Goes (blocks_told (after_entry script p e)) (blocks_told (fold (after_entry script) (after_entry script p e) journal)) =
    all_go script (after_entry script p e) journal in
    (one.0 ++ rest.0, rest.1 ∙ (ap (λ (bs : List (List ℕ)). bs ++ rest.0) one.1 ∙ append_assoc (blocks_told p) one.0 rest.0))

-- a chosen value stays
chosen : (t : Bool) (x y : Option (List ℕ)) (b : List ℕ) → (x ≡ Some b → y ≡ Some b) → (if t then None else x) ≡ Some b → (if t then None else y) ≡ Some b
chosen true x y b on h = h
chosen false x y b on h = on h

-- a name stays where the journal grows
pub names_stay : (script : Script) (xs ys : List Entry) → BeginsWith ys xs → (job : ℕ) (b : List ℕ) → block_name_at (told_blocks script xs) job ≡ Some b
    → block_name_at (told_blocks script ys) job ≡ Some b
names_stay script xs ys h job b is =
    let more = all_go script (fold (after_entry script) (opening_progress script) xs) h.0 in
    let same : told_blocks script ys ≡ told_blocks script xs ++ more.0 =
    ap (told_blocks script) h.1 ∙ (ap blocks_told (fold-append (after_entry script) (opening_progress script) xs h.0) ∙ more.1) in
    subst (λ (bs : List (List ℕ)). block_name_at bs job ≡ Some b) (sym same)
    (chosen (job == 0) (slice_get (told_blocks script xs) (job - 1)) (slice_get (told_blocks script xs ++ more.0) (job - 1)) b
    (λ e. get_front (told_blocks script xs) more.0 (job - 1) b e) is)

-- so does the job's own
pub own_stays : (script : Script) (xs ys : List Entry) → BeginsWith ys xs → (job : ℕ) (b : List ℕ) (last : Option Turn) → IsOwnBlock script xs job b last
    → IsOwnBlock script ys job b last
own_stays script xs ys h job b None own = tt
own_stays script xs ys h job b (Some turn.Went) own = tt
own_stays script xs ys h job b (Some (turn.Busy object holder)) own = tt
own_stays script xs ys h job b (Some turn.NoMemory) own = tt
own_stays script xs ys h job b (Some (turn.Ended end)) own = names_stay script xs ys h job b own

-- also as a pass knows it
own_by : (o : Option Origin) (xs ys : List Entry) → BeginsWith ys xs → (job : ℕ) (b : List ℕ) (last : Option Turn)
    → IsSomeAnd o (λ (from : Origin). IsOwnBlock from.script xs job b last) → IsSomeAnd o (λ (from : Origin). IsOwnBlock from.script ys job b last)
own_by None xs ys h job b last own = own
own_by (Some from) xs ys h job b last own = own_stays from.script xs ys h job b last own

-- of a pass that goes on
pub own_longer : (v w : PassView) → w.origin ≡ v.origin → BeginsWith w.seen v.seen → (job : ℕ) (b : List ℕ) (last : Option Turn) → IsOwnIn v job b last
    → IsOwnIn w job b last
own_longer v w same h job b last own =
    subst (λ (o : Option Origin). IsSomeAnd o (λ (from : Origin). IsOwnBlock from.script w.seen job b last)) (sym same)
    (own_by v.origin v.seen w.seen h job b last own)

-- a pass that knows a station's journal and origin knows the job's own
pub own_known : (v : PassView) (from : Origin) (journal : List Entry) → v.origin ≡ Some from → v.seen ≡ journal → (job : ℕ) (b : List ℕ) (last : Option Turn)
    → IsOwnBlock from.script journal job b last → IsOwnIn v job b last
own_known v from journal origin seen job b last own =
    subst (λ (o : Option Origin). IsSomeAnd o (λ (f : Origin). IsOwnBlock f.script v.seen job b last)) (sym origin)
    (subst (λ (es : List Entry). IsOwnBlock from.script es job b last) (sym seen) own)

-- ---- a job that is live
-- a number that isn't 0
above_zero : (n : ℕ) → n ≢ 0 → 1 ≤ n
above_zero zero ne = absurd (ne refl)
above_zero (suc n) ne = omega arith

-- there is a job that is live
lives_there : (o : Option Job) → lives o ≡ true → (job : Job) × (o ≡ Some job)
lives_there None live = let bad : ⊥ = cc in absurd bad
lives_there (Some job) live = (job, refl)

-- by whether the number is 0
live_by : (t : Bool) (o : Option Job) → (if t then false else lives o) ≡ true → (t ≡ false) × ((job : Job) × (o ≡ Some job))
live_by true o live = let bad : ⊥ = cc in absurd bad
live_by false o live = (refl, lives_there o live)

-- its number is one of a job
live_within : (jobs : List Job) (number : ℕ) → live_at jobs number ≡ true → (1 ≤ number) × (number ≤ length jobs)
live_within jobs number live =
    let (not_zero, (job, there)) = live_by (number == 0) (slice_get jobs (number - 1)) live in
    let some : 1 ≤ number = above_zero number (eqb-false number 0 not_zero) in
    let inside : number - 1 < length jobs = slice_get_within jobs (number - 1) job there in
    (some, omega (arith, some, inside))

-- a job that took a turn was live
tried_live : {H : Type 0} (model : HostModel H) (job : ℕ) (station : Step (StationView H)) (a : Turn) (t : Bool) (live : Bool) → live ≡ t
    → IsTurnTried model job station t (Some a) → live ≡ true
tried_live model job station a true live is tried = is
tried_live model job station a false live is tried = absurd tried

-- the name of a job before a turn is the job's own behind it
pub own_told : {H : Type 0} (model : HostModel H) (job : ℕ) (station : Step (StationView H)) (name : Option (List ℕ)) (answer : Option Turn)
    → IsTurnTried model job station (live_at station.old.jobs job) answer → station.new.opening ≡ station.old.opening
    → BeginsWith station.new.journal station.old.journal
    → (1 ≤ job → job ≤ length station.old.jobs → IsNameOf station.old.opening.script station.old.journal job name)
    → IsOwnBlock station.new.opening.script station.new.journal job (block_or_none name) answer
own_told model job station name None tried same front named = tt
own_told model job station name (Some turn.Went) tried same front named = tt
own_told model job station name (Some (turn.Busy object holder)) tried same front named = tt
own_told model job station name (Some turn.NoMemory) tried same front named = tt
own_told model job station name (Some (turn.Ended end)) tried same front named =
    let was = station.old in
    let (some, few) = live_within was.jobs job (tried_live model job station (turn.Ended end) (live_at was.jobs job) (live_at was.jobs job) refl tried) in
    let known = named some few in
    let later : block_name_at (told_blocks was.opening.script station.new.journal) job ≡ Some known.block =
    names_stay was.opening.script was.journal station.new.journal front job known.block known.told in
    let is : Some known.block ≡ Some (block_or_none name) = ap (λ (b : List ℕ). Some b) (sym (ap block_or_none known.is)) in
    subst (λ (o : Opening). block_name_at (told_blocks o.script station.new.journal) job ≡ Some (block_or_none name)) (sym same) (later ∙ is)
