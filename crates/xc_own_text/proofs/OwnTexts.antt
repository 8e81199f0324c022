-- The text of a run is that of a true end.
use Rattle.std.proofs.Common.{◌≡◌, ◌∙◌, ◌<◌, ◌^◌, ℕ, List, Ok, length, refl, ap, sym, subst, arith}
use Rattle.std.specs.List.{AllByRecursion}
use Rattle.std.specs.Prelude.{IsTrue}
use Rattle.xc_data.specs.declared.entry.Entry.{Entry}
use Rattle.xc_check.specs.TrueTexts.{IsTrueAsPrinted, IsTrueBy, IsTrueText, telling}
use Rattle.xc_host.specs.Model.{HostModel}
use Rattle.xc_model.specs.Live.{IsScripted}
use Rattle.xc_model.specs.Setting.{setting}
use Rattle.xc_model.specs.declared.rules.Rules.{Rules}
use Rattle.xc_outcome.specs.Runs.{IsEndOver, end_text}
use Rattle.xc_station.specs.declared.run_result.End.{End}
use Rattle.xc_text.proofs.Laws.{in_limits, parsed, parsed_blocks}
use Rattle.xc_text.specs.Scripts.{parse_of}
use Rattle.xc_own_text.proofs.Counts.{each_answered, as_many_words}
use Rattle.xc_text.specs.declared.script.Script.{Script}

-- the script that bytes are read as is one
one_script : (bytes : List ℕ) (a b : Script) → parse_of bytes ≡ Ok a → parse_of bytes ≡ Ok b → a ≡ b
one_script bytes a b is other =
    let same : Ok a ≡ Ok b = sym is ∙ other in
    cc

-- its setting is one that tells
tells_so : (script read : Script) (rules : Rules) (tells : _) → script ≡ read → IsTrue tells → setting script rules tells ≡ telling read rules
tells_so script read rules tells same told = ap (λ (s : Script). setting s rules tells) same ∙ ap (setting read rules) told

module _ {H : Type 0} (model : HostModel H) (rules : Rules) (host : H) (end : End H) (told : IsTrue model.tells) (over : IsEndOver model rules host end) where
  -- its end is true as it is printed
  true_as_printed : IsScripted end.opening.script
      → IsTrueAsPrinted (setting end.opening.script rules model.tells) end.journal.items end.jobs end.words end.kept
  true_as_printed own =
      let state = over.whole.state told in
      record {
        is_true = subst (λ b. IsTrueBy b (setting end.opening.script rules model.tells) end.journal.items) (sym own) over.whole.journal;
        words_are = state.words;
        ends = over.whole.ends;
        front = record { order = over.kept; contents = model.contents end.host; front = state.host };
      }

  -- of the script that its bytes are read as
  pub own_end : (bytes : List ℕ) (read : Script) → parse_of bytes ≡ Ok end.opening.script → parse_of bytes ≡ Ok read
      → IsTrueAsPrinted (telling read rules) end.journal.items end.jobs end.words end.kept
  own_end bytes read is other =
      subst (λ s. IsTrueAsPrinted s end.journal.items end.jobs end.words end.kept)
      (tells_so end.opening.script read rules model.tells (one_script bytes end.opening.script read is other) told)
      (true_as_printed (parsed_blocks bytes end.opening.script is))

  pub own_text : (bytes : List ℕ) (read : Script) → parse_of bytes ≡ Ok end.opening.script → parse_of bytes ≡ Ok read
      → IsTrueText (telling read rules) (end_text end)
  own_text bytes read is other =
      record {
        journal = end.journal.items;
        jobs = end.jobs;
        words = end.words;
        kept = end.kept;
        is_true = own_end bytes read is other;
        printed = refl;
      }

  -- ---- what its ranges rest on
  pub own_words : (bytes : List ℕ) → parse_of bytes ≡ Ok end.opening.script → length end.words < 2 ^ 32
  own_words bytes is =
      omega (
        arith,
        ap length over.whole.words,
        as_many_words end.opening.script end.journal.items,
        (in_limits end.opening.script (parsed bytes end.opening.script is)).words,
      )

  pub own_replies : AllByRecursion (λ (e : Entry). length e.replies ≡ length e.calls) end.journal.items
  own_replies = each_answered _ _ over.whole.journal.lasts end.journal.items over.whole.journal.machine.entries
