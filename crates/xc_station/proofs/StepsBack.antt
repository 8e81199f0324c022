-- A step of a job whose transaction's block goes back, from what the code has of it.
use Rattle.std.proofs.Common.{◌≡◌, ◌⊎◌, inl, inr, ℕ, ◌+◌, ◌^◌, ◌<◌, ◌≤◌, true, List, [], ◌∷◌, ◌++◌, Option, None, Some, length, map, refl, ap, sym}
use Rattle.std.proofs.Common.{◌∙◌, subst, arith}
use Rattle.std.specs.Prelude.{All, Contains, drop, sum_by, take}
use Rattle.std.proofs.lemmas.Bool.{le-ltb, lt-ltb}
use Rattle.std.proofs.lemmas.List.{length-append, length-map, length-take-le, take-append-drop}
use Rattle.std.proofs.lemmas.Nat.{mul-le}
use Rattle.xc_compensate.specs.Records.{IsTried}
use Rattle.xc_data.specs.Faults.{undo_faults}
use Rattle.xc_data.specs.Remaining.{objects_of}
use Rattle.xc_data.specs.Step.{Step}
use Rattle.xc_data.specs.declared.entry.KeptItem.{KeptItem}
use Rattle.xc_data.specs.declared.undo.Undo.{Undo}
use Rattle.xc_host.specs.Model.{HostModel}
use Rattle.xc_script.specs.Blocks.{back_to}
use Rattle.xc_script.specs.Position.{Position, walk_of}
use Rattle.xc_text.specs.declared.script.Script.{Script}
use Rattle.xc_world.specs.Beside.{AreElsewhere}
use Rattle.xc_world.specs.Ends.{AreLegal, Ending, is_undone}
use Rattle.xc_world.specs.Run.{given_back}
use Rattle.xc_world.specs.World.{World}
use Rattle.xc_model.specs.BackingRows.{backed, phase_after}
use Rattle.xc_model.specs.declared.phase.Phase.TheVariants.{Backing}
use Rattle.xc_model.specs.declared.rules.Rules.{Rules}
use Rattle.xc_model.specs.Moment.{Active, Moment, TxView}
use Rattle.xc_model.specs.Live.{IsScripted}
use Rattle.xc_model.specs.Movers.{IsSameBegin, answered_with, mover, with_tx}
use Rattle.xc_model.specs.Setting.{setting}
use Rattle.xc_model.specs.Stories.{IsAboveSave}
use Rattle.xc_station.specs.Backs.{CanGoBack, CanStepBack, HasSave, IsSaveOf}
use Rattle.xc_station.specs.Jobs.{begun_of, doing_of, job_view, saved_in, saved_view, trail_of, tx_view}
use Rattle.xc_station.specs.Moments.{Front, IsAt, front_of, moved}
use Rattle.xc_station.specs.Returning.{IsOpenRow, Returns}
use Rattle.xc_station.specs.declared.calls.Shared.{Shared}
use Rattle.xc_station.specs.declared.job.Job.{Job}
use Rattle.xc_station.specs.declared.tx.Saved.{Saved}
use Rattle.xc_station.specs.declared.tx.Tx.{Tx}
use Rattle.xc_station.proofs.Closed.{active_again, active_with_job, its_active, moves_handed, moves_on}
use Rattle.xc_station.proofs.RowsBack.{ended_row, tried_row}
use Rattle.xc_station.proofs.WaysBack.{few_faults, given_part, left_among}

module _ {H : Type 0} (model : HostModel H) (script : Script) (rules : Rules) (shared : Shared H) (job : Job)
    (can : CanStepBack script model shared rules.undo_tries (job_view job)) (backs : CanGoBack rules.undo_tries job.tx) where
  -- the transaction that lies in it goes back
  same : tx_view job.tx ≡ can.tx
  same = its_active job can.tx can.doing

  pub backing : job.tx.phase ≡ Backing
  backing = ap (λ (t : TxView). t.phase) same ∙ can.backing

  doing : doing_of job ≡ Active (tx_view job.tx)
  doing = active_with_job job can.tx can.doing

  -- all of its block is undone so far, with faults that can be counted
  pub few : sum_by undo_faults job.tx.undo.ended < 2 ^ 32
  few =
      let tries = rules.undo_tries in
      let legal = subst (λ (t : TxView). AreLegal tries (length t.undo.pending + 1) t.undo.ended) (sym same) can.legal in
      let undone = subst (λ (t : TxView). All (λ (e : Ending). is_undone e.1 ≡ true) t.undo.ended) (sym same) can.undone in
      let sum = few_faults tries (length job.tx.undo.pending + 1) job.tx.undo.ended legal undone in
      let all = (backs.room backing).faults in
      let part = mul-le (length job.tx.undo.ended) tries (length job.tx.undo.pending + length job.tx.undo.ended) tries (omega arith) (omega arith) in
      omega (arith, sum, all, part)

  -- ---- its save
  kept_from : (o : Option Saved) → job.tx.saved ≡ o → (kept : Saved) × (job.tx.saved ≡ Some kept)
  kept_from None e =
      absurd (subst (λ o. IsAboveSave o can.tx.undo.pending) (sym (ap (λ (t : TxView). t.saved) same) ∙ ap (saved_in job.tx) e) can.within)
  kept_from (Some kept) e = (kept, e)

  -- it is there
  pub its_save : (kept : Saved) × (job.tx.saved ≡ Some kept)
  its_save = kept_from job.tx.saved refl

  module _ (kept : Saved) (is : job.tx.saved ≡ Some kept) where
    has : IsSaveOf job.tx kept
    has = subst (HasSave job.tx) is backs.save

    in_block : (tx_view job.tx).saved ≡ Some (saved_view job.tx kept)
    in_block = ap (saved_in job.tx) is

    -- as many records as it says
    trail_count : length (take kept.records (trail_of job.tx)) ≡ kept.records
    trail_count =
        let parts = length-append job.tx.undo.pending (map (λ (e : Ending). e.0) job.tx.undo.ended) in
        let ends = length-map job.tx.undo.ended (λ (e : Ending). e.0) in
        let within = has.records in
        length-take-le kept.records (trail_of job.tx) (omega (arith, parts, ends, within))

    -- they have no end yet
    pub above : kept.records ≤ length job.tx.undo.pending
    above =
        let within : length (take kept.records (trail_of job.tx)) ≤ length job.tx.undo.pending =
        subst (λ o. IsAboveSave o job.tx.undo.pending) in_block
        (subst (λ (t : TxView). IsAboveSave t.saved t.undo.pending) (sym same) can.within) in
        omega (arith, within, trail_count)

    -- ---- its newest record was tried
    module _ (host : H) (tx : Tx) (begun : begun_of tx ≡ begun_of job.tx) (more : kept.records < length job.tx.undo.pending)
        (t : IsTried model rules.undo_tries (record { host = shared.host; undo = job.tx.undo }) (record { host = host; undo = tx.undo }))
        (view : tx_view tx ≡ record (tx_view job.tx) { phase = phase_after (length t.older + 1) t.end; undo = tx.undo }) where
      pub tried_open : (now : Moment) (at : ℕ) → IsAt model shared now at (job_view job)
          → IsOpenRow (mover (setting script rules model.tells) at now (job_view job))
          (moved model (record shared { host = host }) (job_view (record job { tx = tx })) now at)
      tried_open now at here =
          tried_row model (setting script rules model.tells) shared now at (job_view job) (tx_view job.tx) here doing (saved_view job.tx kept) in_block
          (record shared { host = host }) (job_view (record job { tx = tx })) refl refl (λ tells. tells) tx.undo t
          (lt-ltb _ _ (omega (arith, trail_count, more)))
          (sym (moves_on job can.tx job.place tx can.doing begun) ∙ ap (with_tx (job_view job) job.place) view)
          (λ tells. subst (λ (x : TxView). (older : List Undo) (u : Undo) → x.undo.pending ≡ older ++ u ∷ [] → AreElsewhere (objects_of u) shared.buffers.kept)
          (sym same) (can.away tells) t.older t.tried t.was)
          refl

      pub tried_returns : (was : TxView) → doing_of job ≡ Active was
          → (behind : TxView) × (doing_of (record job { tx = tx }) ≡ Active behind)
          × Returns model (record { old = front_of shared; new = front_of (record shared { host = host }) }) (record { old = was; new = behind })
      tried_returns was does =
          let front : Step (Front H) = record { old = front_of shared; new = front_of (record shared { host = host }) } in
          let taken : (tx_view tx).taken ≡ (tx_view job.tx).taken = ap (λ (x : TxView). x.taken) view in (
            tx_view tx,
            active_again job.tx tx job.activity was does,
            subst (λ (x : TxView). Returns model front (record { old = x; new = tx_view tx })) (its_active job was does) (record {
              noted = ap (λ (items : List KeptItem). shared.buffers.noted + length items) (sym taken);
              number = ap (λ (x : TxView). x.number) view;
              rank = ap (λ (x : TxView). x.rank) view;
              held = ap (λ (x : TxView). x.held) view;
              taken = λ item there. subst (λ items. Contains items item) taken there;
              by_turn = inl (record {
                older = t.older;
                tried = t.tried;
                end = t.end;
                newest = t.was;
                effect = t.effect;
                lent = refl;
                taken = taken;
              });
            }),
          )

    -- ---- its way back ended
    module _ (shared' : Shared H) (place : Position) (tx : Tx) (begun : begun_of tx ≡ begun_of job.tx)
        (none : length job.tx.undo.pending ≤ kept.records) (view : tx_view tx ≡ backed (tx_view job.tx) (saved_view job.tx kept))
        (words : shared'.words ≡ shared.words) (sentinels : shared'.sentinels ≡ shared.sentinels) (host : shared'.host ≡ shared.host) where
      pub ended_open : (now : Moment) (at : ℕ) → IsSameBegin job.place place → walk_of script place ≡ back_to (walk_of script job.place) job.place.saved
          → place.saved ≡ None → (IsScripted script → job.place.at < place.at)
          → ((w : World) → given_back w shared'.buffers.kept ≡ given_back (given_back w shared.buffers.kept) (drop kept.taken job.tx.taken.items))
          → ((item : KeptItem) → Contains shared'.buffers.kept item
          → Contains (drop kept.taken job.tx.taken.items) item ⊎ Contains shared.buffers.kept item)
          → IsAt model shared now at (job_view job)
          → IsOpenRow (mover (setting script rules model.tells) at now (job_view job))
          (moved model shared' (job_view (record job { handed = None; place = place; tx = tx })) now at)
      ended_open now at begin walk closed nearer given among here =
          let count : length (take kept.taken job.tx.taken.items) ≡ kept.taken = length-take-le kept.taken job.tx.taken.items has.taken in
          ended_row model (setting script rules model.tells) shared now at (job_view job) (tx_view job.tx) here doing (saved_view job.tx kept) in_block
          shared' (job_view (record job { handed = None; place = place; tx = tx })) words sentinels place (drop kept.late job.tx.late.calls)
          (le-ltb _ _ (omega (arith, trail_count, none))) begin walk closed nearer can.asked
          (sym (take-append-drop kept.late job.tx.late.calls))
          (sym (moves_handed job can.tx None place tx can.doing begun) ∙ ap (answered_with (job_view job) place) view)
          (subst (λ n. (w : World) → given_back w shared'.buffers.kept ≡ given_back (given_back w shared.buffers.kept) (drop n job.tx.taken.items)) (sym count)
          given)
          (subst (λ n. (item : KeptItem) → Contains shared'.buffers.kept item → Contains (drop n job.tx.taken.items) item ⊎ Contains shared.buffers.kept item)
          (sym count) among) host

      pub ended_returns : (was : TxView) → doing_of job ≡ Active was
          → shared'.buffers.noted + length job.tx.taken.items ≡ shared.buffers.noted + length tx.taken.items
          → ((item : KeptItem) → Contains shared'.buffers.kept item
          → Contains (drop kept.taken job.tx.taken.items) item ⊎ Contains shared.buffers.kept item)
          → (behind : TxView) × (doing_of (record job { handed = None; place = place; tx = tx }) ≡ Active behind)
          × Returns model (record { old = front_of shared; new = front_of shared' }) (record { old = was; new = behind })
      ended_returns was does noted among =
          let front : Step (Front H) = record { old = front_of shared; new = front_of shared' } in (
            tx_view tx,
            active_again job.tx tx job.activity was does,
            subst (λ (x : TxView). Returns model front (record { old = x; new = tx_view tx })) (its_active job was does) (record {
              noted = noted;
              number = ap (λ (x : TxView). x.number) view;
              rank = ap (λ (x : TxView). x.rank) view;
              held = ap (λ (x : TxView). x.held) view;
              taken = λ item there.
                  left_among kept.taken job.tx.taken.items item (subst (λ items. Contains items item) (ap (λ (x : TxView). x.taken) view) there);
              by_turn = inr (record { host = host; among = given_part kept.taken job.tx.taken.items _ _ among });
            }),
          )
