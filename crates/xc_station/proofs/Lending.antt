-- What a turn of a running transaction does to what was taken.
use Rattle.std.proofs.Common.{◌≡◌, ◌+◌, ◌++◌, IsTrue, length, ap, sym, subst, arith}
use Rattle.std.specs.Prelude.{All, Err}
use Rattle.std.proofs.lemmas.List.Elements.{All-append}
use Rattle.xc_data.specs.Step.{Step}
use Rattle.xc_data.specs.declared.call.Call.{Call}
use Rattle.xc_data.specs.declared.call.Reply.{Reply}
use Rattle.xc_data.specs.declared.entry.Turn.{Turn}
use Rattle.xc_data.specs.declared.entry.Turn.TheVariants as turn
use Rattle.xc_host.specs.Kept.{KeepsData}
use Rattle.xc_host.specs.Model.{HostModel}
use Rattle.xc_sentinel.specs.declared.sentinels.Sentinels.{Sentinels}
use Rattle.xc_sentinel.specs.Asking.{Claiming}
use Rattle.xc_model.specs.Moment.{TxView}
use Rattle.xc_world.specs.Run.{taken_by}
use Rattle.xc_station.specs.declared.tx.Tx.{Tx}
use Rattle.xc_station.specs.Acting.{Acting, HasDoneAsPlain, LeavesOff}
use Rattle.xc_station.specs.Jobs.{tx_view}
use Rattle.xc_station.specs.Lent.{IsBacked, Lent}
use Rattle.xc_station.specs.Moments.{Front, HasClaimed, Lends}
use Rattle.xc_host.proofs.Laws.{data_keeps_itself}

-- the host and what is kept is as before, and so is what the transaction took
pub lends_still : {H : Type 0} (model : HostModel H) (front : Step (Front H)) (tx : Step TxView) → front.new ≡ front.old → tx.new.taken ≡ tx.old.taken
    → Lends model front tx
lends_still {H = H} model front tx same taken =
    let lent = ap (λ (f : Front H). f.lent) same in
    let host = ap (λ (f : Front H). f.host) same in
    let noted = ap (λ (l : Lent). l.noted) lent in
    let many = ap length taken in
    record {
      noted = omega (arith, noted, many);
      kept = λ tells backed. subst (All (IsBacked (model.contents front.old.host))) (sym (ap (λ (l : Lent). l.kept) lent)) backed;
      taken = λ tells kept backed. subst (All (IsBacked (model.contents front.old.host))) (sym taken) backed;
      keeps = λ tells. subst (λ h. KeepsData (model.contents front.old.host) (model.contents h)) (sym host) (data_keeps_itself (model.contents front.old.host));
    }

-- a claim that isn't granted takes nothing
pub unclaimed_takes : (sentinels : Step Sentinels) (tx : Step Tx) (c : Claiming) (answer : Turn) → HasClaimed sentinels tx c (Err answer)
    → (tx_view tx.new).taken ≡ (tx_view tx.old).taken
unclaimed_takes sentinels tx c (turn.Busy object holder) is = ap (λ (t : TxView). t.taken) is.still
unclaimed_takes sentinels tx c turn.Went is = ap (λ (t : TxView). t.taken) is.undoes
unclaimed_takes sentinels tx c turn.NoMemory is = ap (λ (t : TxView). t.taken) is.undoes
unclaimed_takes sentinels tx c (turn.Ended end) is = absurd is

module _ {H : Type 0} (model : HostModel H) (call : Call) (old new : Acting H) (lent lent' : Lent) (kept : old.kept ≡ lent.kept) where
  -- a call that was done: what it took is noted
  pub lends_done : (reply : Reply) → HasDoneAsPlain model call old new reply → lent'.noted + length old.tx.taken ≡ lent.noted + length new.tx.taken
      → (IsTrue model.tells → All (IsBacked (model.contents old.host)) lent.kept → All (IsBacked (model.contents old.host)) lent'.kept)
      → Lends model (record { old = record { host = old.host; lent = lent }; new = record { host = new.host; lent = lent' } })
      (record { old = old.tx; new = new.tx })
  lends_done reply d noted stays =
      let taken : new.tx.taken ≡ old.tx.taken ++ taken_by call old.tx.me reply = ap (λ (t : TxView). t.taken) d.tx in
      record {
        noted = noted;
        kept = stays;
        taken = λ tells kept backed. subst (All (IsBacked (model.contents old.host))) (sym taken)
            (All-append (IsBacked (model.contents old.host)) old.tx.taken (taken_by call old.tx.me reply) backed (d.backed tells));
        keeps = d.keeps;
      }

  -- one that wanted memory took nothing
  pub lends_left : LeavesOff model call old new → lent'.noted + length old.tx.taken ≡ lent.noted + length new.tx.taken
      → (IsTrue model.tells → All (IsBacked (model.contents old.host)) lent.kept → All (IsBacked (model.contents old.host)) lent'.kept)
      → Lends model (record { old = record { host = old.host; lent = lent }; new = record { host = new.host; lent = lent' } })
      (record { old = old.tx; new = new.tx })
  lends_left l noted stays =
      let still = ap (λ (t : TxView). t.taken) l.tx in
      record {
        noted = noted;
        kept = stays;
        taken = λ tells kept backed. subst (All (IsBacked (model.contents old.host))) (sym still) backed;
        keeps = l.keeps;
      }

-- between transactions that took the same
pub lends_from : {H : Type 0} (model : HostModel H) (front : Step (Front H)) (tx : Step TxView) (was is : TxView) → was.taken ≡ tx.old.taken
    → is.taken ≡ tx.new.taken → Lends model front tx → Lends model front (record { old = was; new = is })
lends_from model front tx was is before behind l =
    let a = ap length before in
    let b = ap length behind in
    let noted = l.noted in
    record {
      noted = omega (arith, a, b, noted);
      kept = l.kept;
      taken = λ tells kept backed. subst (All (IsBacked (model.contents front.old.host))) (sym behind)
          (l.taken tells kept (subst (All (IsBacked (model.contents front.old.host))) before backed));
      keeps = l.keeps;
    }
