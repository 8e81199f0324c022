-- How a run with sessions ends, by how its own run ended.
use Rattle.std.proofs.Common.{◌≡◌, ◌≢◌, ℕ, ◌≤◌, ◌⊎◌, inl, inr, Bool, true, false, nat_lt, List, [], refl, sym, ap, ◌∙◌, subst, arith}
use Rattle.std.specs.Prelude.{IsSome, is_some, if◌then◌else◌, Option}
use Rattle.std.specs.declared.option.Option.TheVariants.{None, Some}
use Rattle.std.proofs.lemmas.Bool.{ltb-true}
use Rattle.xc_data.specs.Counts.{counted}
use Rattle.xc_data.specs.Step.{Step}
use Rattle.xc_data.specs.declared.entry.Entry.{Entry}
use Rattle.xc_links.specs.Links.{LinksView}
use Rattle.xc_links.specs.Wires.{Wire}
use Rattle.xc_meet.specs.Members.{AreAll}
use Rattle.xc_meet.specs.declared.session.Session.{Session}
use Rattle.xc_outcome.specs.declared.finish.Finish.{Finish}
use Rattle.xc_outcome.specs.declared.finish.Status.{Status}
use Rattle.xc_outcome.specs.declared.finish.Status.TheVariants as status
use Rattle.xc_roomy.specs.Room.{Roomy}
use Rattle.xc_station.specs.declared.run_result.End.{End}
use Rattle.xc_sessions.specs.declared.chosen.ServeChosen.{ServeChosen}
use Rattle.xc_sessions.specs.declared.serve.ServeStatus.TheVariants.{Ran, AcceptFault}
use Rattle.xc_sessions.specs.Headline.{IsShort, IsStatusOf, status_of, wanted_of}
use Rattle.xc_sessions.specs.Options.{serve_settings_of}
use Rattle.xc_sessions.specs.Parts.{AreWorked, sessions_in}

-- ---- its status
module _ {H M : Type 0} (finish : Finish H) (links : Step (LinksView M)) (ended : IsSome finish.end) where
  -- where the sink did not fail
  written : (ran : Status) (has failed : Bool) → ran ≡ finish.status → (ran ≢ status.WriteFault)
      → (failed ≡ true → counted links.old.faults ≤ links.new.faults)
      → IsStatusOf finish links (if failed then AcceptFault else if has then Ran ran else Ran status.NoMemory)
  written ran has true same whole rose = record { ended = ended; written = λ w. whole (same ∙ w); rose = rose refl }
  written ran true false same whole rose = inl same
  written ran false false same whole rose = inr (ended, (λ w. whole (same ∙ w)), refl)

  -- of each
  by_status : (ran : Status) (has failed : Bool) → ran ≡ finish.status → (failed ≡ true → counted links.old.faults ≤ links.new.faults)
      → IsStatusOf finish links (status_of ran has failed)
  by_status status.WriteFault has failed same rose = inl same
  by_status status.Done has failed same rose = written status.Done has failed same (λ e. cc e) rose
  by_status (status.Refused line why) has failed same rose = written (status.Refused line why) has failed same (λ e. cc e) rose
  by_status status.Usage has failed same rose = written status.Usage has failed same (λ e. cc e) rose
  by_status status.ReadFault has failed same rose = written status.ReadFault has failed same (λ e. cc e) rose
  by_status status.NoMemory has failed same rose = written status.NoMemory has failed same (λ e. cc e) rose
  by_status status.Left has failed same rose = written status.Left has failed same (λ e. cc e) rose
  by_status status.GaveUp has failed same rose = written status.GaveUp has failed same (λ e. cc e) rose
  by_status status.NotScripted has failed same rose = written status.NotScripted has failed same (λ e. cc e) rose

  -- by the counts before and after
  pub status_by_counts : (has : Bool) (before after : ℕ) → before ≡ links.old.faults → after ≡ links.new.faults
      → IsStatusOf finish links (status_of finish.status has (nat_lt before after))
  status_by_counts has before after old new =
      by_status finish.status has (nat_lt before after) refl (λ e. omega (arith, ltb-true before after e, old, new))

-- ---- its sessions
-- without any, memory was wanting, or the sink failed
short : (ran : Status) → IsShort (status_of ran false false)
short status.WriteFault = tt
short status.Done = tt
short (status.Refused line why) = tt
short status.Usage = tt
short status.ReadFault = tt
short status.NoMemory = tt
short status.Left = tt
short status.GaveUp = tt
short status.NotScripted = tt

-- no number is below itself
not_below : (n : ℕ) (t : Bool) → nat_lt n n ≡ t → t ≡ false
not_below n true e = absurd (omega (arith, ltb-true n n e))
not_below n false e = refl

module _ {H M : Type 0} (told : M → Wire) (links : Step (LinksView M)) (journal : List Entry) (end : End H) (ran : Status) (before after : ℕ)
    (old : before ≡ links.old.faults) (new : after ≡ links.new.faults) (same : end.journal.items ≡ journal) where
  -- as many as were wanted, or none
  worked : (wanted : ℕ) (sessions : Option (Roomy (Session M))) → AreWorked told wanted links journal sessions
      → AreAll told end.journal.items links wanted (sessions_in sessions)
      ⊎ (IsShort (status_of ran (is_some sessions) (nat_lt before after)) × (sessions_in sessions ≡ []) × (links.new ≡ links.old))
  worked wanted (Some sessions) are = inl (subst (λ log. AreAll told log links wanted sessions.items) (sym same) are)
  worked wanted None kept =
      let even : before ≡ after = old ∙ sym (ap (λ (v : LinksView M). v.faults) kept) ∙ sym new in
      let none : nat_lt before after ≡ false =
      subst (λ n. nat_lt n after ≡ false) (sym even) (not_below after (nat_lt after after) refl) in
      inr (subst (λ failed. IsShort (status_of ran false failed)) (sym none) (short ran), refl, kept)

  -- by the words
  pub sessions_so : (words : List (List ℕ)) (chosen : ServeChosen) (sessions : Option (Roomy (Session M)))
      → serve_settings_of words ≡ Some chosen → AreWorked told chosen.sessions links journal sessions
      → AreAll told end.journal.items links (wanted_of (serve_settings_of words)) (sessions_in sessions)
      ⊎ (IsShort (status_of ran (is_some sessions) (nat_lt before after)) × (sessions_in sessions ≡ []) × (links.new ≡ links.old))
  sessions_so words chosen sessions chose are =
      subst (λ o. AreAll told end.journal.items links (wanted_of o) (sessions_in sessions)
      ⊎ (IsShort (status_of ran (is_some sessions) (nat_lt before after)) × (sessions_in sessions ≡ []) × (links.new ≡ links.old))) (sym chose)
      (worked chosen.sessions sessions are)
