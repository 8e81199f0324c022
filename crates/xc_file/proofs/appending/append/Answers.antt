use Rattle.std.proofs.Common.{◌≡◌, Err, refl, ap, sym, ◌∙◌, subst, length}
use Rattle.std.specs.Prelude.{OnOk}
use Rattle.xc_data.specs.declared.call.Call.TheVariants.{XWriteSeq}
use Rattle.xc_host.specs.Uses.{Uses, CallsFor}
use Rattle.xc_host.specs.declared.errors.HostErr.TheVariants.{Fault, NoMemory}
use Rattle.xc_file.specs.Appending.{AppendsUntil}
use Rattle.xc_file.proofs.FileUses.{append_starves, appends_all, appends_front}
use Rattle.xc_file.proofs.appending.append.Goals.{in-Ok, in-Err-end+in-Fault}
use Rattle.xc_file.proofs.appending.append.Goals as goal

pub returns-in-NoMemory-clause-uses : goal.returns-in-NoMemory-clause-uses
returns-in-NoMemory-clause-uses g c =
    let model = g.H.Host.model in
    let did = c.append_recorded-appended in
    let ended : did.result.end ≡ Err NoMemory = c.in-Err-end.is ∙ ap Err c.in-NoMemory.is in
    append_starves model c.args.file.h (length c.args.bytes.now) did.result.done c.args.bytes.now c.args.host.now c.end_of.new.host did.new.host refl
    c.end_of.ensures.used
    (subst (λ e. Uses model (record { old = c.end_of.new.host; new = did.new.host }) (AppendsUntil (length c.args.bytes.now) did.result.done e))
    ended did.ensures.appended.uses)

pub returns-clause-uses : goal.returns-clause-uses
returns-clause-uses g c =
    let model = g.H.Host.model in
    let did = c.append_recorded-appended in
    let bytes = c.args.bytes.now in
    elim c.match-appended.branch [
      | in-Ok w ↦
          subst (λ r. Uses model (record { old = c.args.host.now; new = did.new.host }) (CallsFor (XWriteSeq c.args.file.h bytes) r)) (sym w.reply-is)
          (appends_all model c.args.file.h did.result.done bytes c.args.host.now c.end_of.new.host did.new.host c.requires.some
          (subst (λ e. OnOk e (did.result.done ≡ length bytes)) w.in-Ok.is did.ensures.appended.whole) c.end_of.ensures.used
          (subst (λ e. Uses model (record { old = c.end_of.new.host; new = did.new.host }) (AppendsUntil (length bytes) did.result.done e))
          w.in-Ok.is did.ensures.appended.uses))
      | in-Err-end+in-Fault w ↦
          let ended : did.result.end ≡ Err Fault = w.in-Err-end.is ∙ ap Err w.in-Fault.is in
          subst (λ r. Uses model (record { old = c.args.host.now; new = did.new.host }) (CallsFor (XWriteSeq c.args.file.h bytes) r)) (sym w.reply-is)
          (appends_front model c.args.file.h did.result.done bytes c.args.host.now c.end_of.new.host did.new.host c.requires.some c.end_of.ensures.used
          (subst (λ e. Uses model (record { old = c.end_of.new.host; new = did.new.host }) (AppendsUntil (length bytes) did.result.done e))
          ended did.ensures.appended.uses))
    ]
