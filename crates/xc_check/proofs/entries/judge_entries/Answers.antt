use Rattle.std.proofs.Common.{◌≡◌, ◌∙◌, ◌&&◌, ◌+◌, [], ◌∷◌, ◌++◌, length, reverse, refl, sym, ap, subst, arith}
use Rattle.std.specs.Prelude.{MatchResult}
use Rattle.std.proofs.lemmas.List.{length-append, reverse-reverse}
use Rattle.xc_grounds.specs.Numbered.{AreNumbered}
use Rattle.xc_model.specs.Live.{has_clients}
use Rattle.xc_shown.specs.Shown.{bare}
use Rattle.xc_shown.specs.declared.shown.Shown.{Shown}
use Rattle.xc_check.specs.Fronts.{begins_shown}
use Rattle.xc_check.specs.Judging.{IsJudged}
use Rattle.xc_check.specs.Refusals.{IsRefusedIn}
use Rattle.xc_check.specs.TrueTexts.{telling}
use Rattle.xc_check.specs.Untold.{looks_at_last}
use Rattle.xc_check.proofs.Stepping.{all_behind, next_of_reverse, numbered_to_one, passed_on}
use Rattle.xc_check.proofs.entries.judge_entries.Goals as goal

-- src/entries.rt
pub loop-shown-init : goal.loop-shown-init
loop-shown-init c = (
  [],
  sym (ap reverse c.reverse.ensures.items ∙ reverse-reverse c.args.entries.items),
  refl,
  λ count numbered. c.in_ok-judging.ensures c.args.rules.now count,
)

pub judge-requires-clause-bare : goal.judge-requires-clause-bare
judge-requires-clause-bare c =
    let h = c.loop-shown.invariant in
    let parts = next_of_reverse c.args.entries.items h.0 c.loop-shown.left.items c.pop.new.self.items c.in-Some.shown h.1 c.in-Some.ensures.items in
    all_behind (λ (shown : Shown). bare shown.entry ≡ shown.entry) c.args.entries.items h.0 (reverse c.pop.new.self.items) c.in-Some.shown parts c.requires.bare

pub judge-requires-clause-judged : goal.judge-requires-clause-judged
judge-requires-clause-judged c =
    let h = c.loop-shown.invariant in
    let n = c.requires.numbered in
    let parts = next_of_reverse c.args.entries.items h.0 c.loop-shown.left.items c.pop.new.self.items c.in-Some.shown h.1 c.in-Some.ensures.items in
    let size : length c.args.entries.items ≡ length h.0 + length (c.in-Some.shown ∷ reverse c.pop.new.self.items) =
    ap length parts ∙ length-append h.0 (c.in-Some.shown ∷ reverse c.pop.new.self.items) in
    let few = c.requires.few in (
      n.0,
      h.0,
      h.3 n.0 n.1,
      numbered_to_one n.0 h.0 c.in-Some.shown (reverse c.pop.new.self.items) (subst (λ xs. AreNumbered n.0 (begins_shown xs)) parts n.1),
      omega (arith, size, few),
    )

pub returns-in-Err : goal.returns-in-Err
returns-in-Err c count numbered =
    let h = c.loop-shown.invariant in
    let parts = next_of_reverse c.args.entries.items h.0 c.loop-shown.left.items c.pop.new.self.items c.in-Some.shown h.1 c.in-Some.ensures.items in
    let s = telling c.args.script.now c.args.rules.now in
    let to_one = numbered_to_one count h.0 c.in-Some.shown (reverse c.pop.new.self.items) (subst (λ xs. AreNumbered count (begins_shown xs)) parts numbered) in
    record {
      refused = record {
        before = h.0;
        shown = c.in-Some.shown;
        behind = reverse c.pop.new.self.items;
        parts = parts;
        at = h.2;
        refused = subst (λ r. MatchResult r (IsJudged s count (h.0 ++ c.in-Some.shown ∷ [])) (IsRefusedIn s count h.0 c.in-Some.shown)) c.in-Err.is
            (c.in_ok-next.ensures count h.0 (h.3 count numbered) to_one);
      };
      untold = c.is_left_open.ensures
          ∙ ap (λ lacked. has_clients c.args.script.now && (lacked && looks_at_last c.in-Err.reason)) c.lacked_memory-lacked.ensures;
    }

pub loop-shown-preserved : goal.loop-shown-preserved
loop-shown-preserved c =
    let h = c.loop-shown.invariant in
    let s = telling c.args.script.now c.args.rules.now in
    let behind = reverse c.pop.new.self.items in
    let parts = next_of_reverse c.args.entries.items h.0 c.loop-shown.left.items c.pop.new.self.items c.in-Some.shown h.1 c.in-Some.ensures.items in
    let size : length (h.0 ++ c.in-Some.shown ∷ []) ≡ length h.0 + 1 = length-append h.0 (c.in-Some.shown ∷ []) in
    let at = h.2 in (
      h.0 ++ c.in-Some.shown ∷ [],
      parts ∙ passed_on h.0 behind c.in-Some.shown,
      omega (arith, size, at),
      λ count numbered.
          subst (λ r. MatchResult r (IsJudged s count (h.0 ++ c.in-Some.shown ∷ [])) (IsRefusedIn s count h.0 c.in-Some.shown)) c.in-Ok.is
          (c.in_ok-next.ensures count h.0 (h.3 count numbered)
          (numbered_to_one count h.0 c.in-Some.shown behind (subst (λ xs. AreNumbered count (begins_shown xs)) parts numbered))),
    )
