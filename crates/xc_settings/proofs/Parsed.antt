-- A parse of the command that succeeds has only numbers in their options' bounds.
use Rattle.std.proofs.Common.{◌≡◌, ℕ, ◌<◌, ◌&&◌, zero, suc, Bool, true, false, not, List, [], ◌∷◌, length, map, option_map, Bor, Option, None, Some}
use Rattle.std.proofs.Common.{refl, ap, sym, ◌∙◌, subst, inl, inr, arith, codes, slice_index_or}
use Rattle.std.specs.List.{All}
use Rattle.std.specs.Prelude.{IfSome, slice_get}
use Rattle.std.specs.Str.{bytes_eq}
use Rattle.std.proofs.lemmas.Bool.{cases_lt}
use Rattle.std.proofs.lemmas.Bool.Decides.{Decides-eqb}
use Rattle.std.proofs.lemmas.List.Elements.{All-nil, All-cons}
use Rattle.std.proofs.lemmas.Slice.Eq.{bytes_eq-Decides}
use Rattle.clap.specs.Built.{IsAuto, IsParsedFrom, NamesNoGroup}
use Rattle.clap.specs.Facts.{EntryPasses, PassesArg, ValuesPass, args_of, groups_of, parser_of_value}
use Rattle.clap.specs.Matches.{first_value, found_of, matched_of}
use Rattle.clap.specs.Simple.{App, app_of}
use Rattle.clap.specs.Values.{Accepts, IsUnsignedIn}
use Rattle.clap.specs.Walk.{Rule, Text, is_empty, is_simple_arg, rule_of}
use Rattle.clap.specs.declared.builder.arg.Arg.{Arg}
use Rattle.clap.specs.declared.builder.command.Command.{Command}
use Rattle.clap.specs.declared.builder.command.Command.TheViews.{out-Command}
use Rattle.clap.specs.declared.builder.value_parser.ValueParser.{ValueParser}
use Rattle.clap.specs.declared.builder.value_parser.ValueParser.TheVariants.{Unsigned}
use Rattle.clap.specs.declared.parser.matches.ArgMatches.{ArgMatches}
use Rattle.clap.specs.declared.parser.matches.Found.{Found}
use Rattle.clap.specs.declared.parser.matches.MatchedArg.{MatchedArg}
use Rattle.clap.proofs.CallerLemmas.{entry_by_id}
use Rattle.xc_settings.specs.Options.{command, workers_rule, schedule_rule, attempts_rule, patience_rule, undo_tries_rule, seed_rule}
use Rattle.xc_settings.specs.Matches.{HasNumbers}

and_first : (a b : Bool) → a && b ≡ true → a ≡ true
and_first true b both = refl
and_first false b both = both

and_second : (a b : Bool) → a && b ≡ true → b ≡ true
and_second true b both = both
and_second false b both = absurd (cc)

none_of : {X : Type 0} (xs : List X) → is_empty xs ≡ true → xs ≡ []
none_of [] e = refl
none_of (x ∷ xs) e =
    let no : length (x ∷ xs) ≡ 0 = (Decides-eqb (length (x ∷ xs)) 0).0 e in
    absurd (omega (arith, no))

not_true : (b : Bool) → not b ≡ true → b ≡ false
not_true true e = absurd (cc)
not_true false e = refl

-- what holds of each rule holds of each argument
each_argument : (P : Rule → Type 0) (args : List Arg) → All P (map rule_of args) → (k : ℕ) (d : Arg) → k < length args
    → P (rule_of (slice_index_or args k d))
each_argument P [] all k d lt = absurd (omega arith)
each_argument P (a ∷ args) all zero d lt = all zero (rule_of a) (omega arith)
each_argument P (a ∷ args) all (suc k) d lt = each_argument P args (λ i r low. all (suc i) r (omega arith)) k d (omega arith)

-- an option of this id takes numbers from `least` up to `most`
abbrev TakesBetween : Text → ℕ → ℕ → Rule → Type 0
TakesBetween id least most rule = bytes_eq rule.id id ≡ true → rule.parser ≡ Some (Unsigned least most)

-- an id that isn't that of a flag which a command adds
record IsOwn (id : Text) : Type 0 where
  help : bytes_eq (codes "help") id ≡ false
  version : bytes_eq (codes "version") id ≡ false
  named : id ≡ [] → ⊥

never_auto : (id : Text) (a : Arg) → IsOwn id → bytes_eq a.id.now id ≡ true → IsAuto a → ⊥
never_auto id a own same (inl help) =
    let no : true ≡ false = sym same ∙ ap (λ t. bytes_eq t id) help ∙ own.help in
    cc no
never_auto id a own same (inr version) =
    let no : true ≡ false = sym same ∙ ap (λ t. bytes_eq t id) version ∙ own.version in
    cc no

-- the built command's arguments of this id take such numbers too
built_takes : (c : Command) (m : ArgMatches) (p : IsParsedFrom c m) (id : Text) (least most : ℕ) → IsOwn id
    → All (TakesBetween id least most) (map rule_of (args_of c)) → (j : ℕ) (x : Arg) → j < length (args_of p.built)
    → slice_index_or (args_of p.built) j x ≡ x → bytes_eq x.id.now id ≡ true → x.value_parser ≡ Some (Unsigned least most)
built_takes c m p id least most own rules j x lt at same = elim (cases_lt j (length (args_of c))) [
  | inl under ↦
      let kept = (p.from.kept j x under).1 in
      let old = slice_index_or (args_of c) j x in
      let id_kept : old.id.now ≡ x.id.now = sym (ap (λ i. i.now) kept.id) ∙ ap (λ a. a.id.now) at in
      let old_same : bytes_eq old.id.now id ≡ true = ap (λ t. bytes_eq t id) id_kept ∙ same in
      sym (ap (λ a. a.value_parser) at) ∙ kept.parser (Unsigned least most) (each_argument (TakesBetween id least most) (args_of c) rules j x under old_same)
  | inr over ↦ absurd (never_auto id x own same (subst IsAuto at (p.from.extra j x over lt)))
]

-- so a value that such an argument passed is such a number
passed_number : (c : Command) (m : ArgMatches) (p : IsParsedFrom c m) (id : Text) (least most : ℕ) → IsOwn id
    → All (TakesBetween id least most) (map rule_of (args_of c)) → (v : Text) → PassesArg p.built id v → IsUnsignedIn least most v
passed_number c m p id least most own rules v passes =
    let x = passes.1 in
    let parser = built_takes c m p id least most own rules passes.0 x passes.2 passes.3 passes.4.0 in
    subst (λ (q : ValueParser). Accepts x.ignore_case q v) (ap parser_of_value parser) passes.4.1

first_of_values : (Q : Text → Type 0) (values : List (Bor Text)) → All (λ v. Q v.now) values → IfSome (option_map (λ s. s.now) (slice_get values 0)) Q
first_of_values Q [] all = tt
first_of_values Q (v ∷ values) all = all 0 v (omega arith)

-- the values of an id's entry passed an argument of that id, where the command has no groups
entry_passes : (c : Command) (f : Found) (id : Text) (x : MatchedArg) → ValuesPass c f → groups_of c ≡ [] → (id ≡ [] → ⊥) → matched_of f id ≡ Some x
    → All (λ v. PassesArg c id v.now) x.vals.items
entry_passes c f id x values none named found =
    let got = entry_by_id (EntryPasses c) f.entries.items id x values found in
    let entry = got.0 in
    let key : entry.0.now ≡ id = (bytes_eq-Decides entry.0.now id).0 got.2 in
    elim got.3.0 [
      | inl group ↦ elim (got.3.3 group) [
        | inl empty ↦ absurd (named (sym key ∙ empty))
        | inr some ↦
            let no : 0 < 0 = rw none at some in
            absurd (omega arith)
      ]
      | inr passes ↦
          subst (λ (a : MatchedArg). All (λ v. PassesArg c id v.now) a.vals.items) got.1
          (subst (λ (t : Text). All (λ v. PassesArg c t v.now) entry.1.vals.items) key passes)
    ]

-- a first value is one of an entry's
at_entry : (f : Found) (id : Text) (Q : Text → Type 0) (o : Option MatchedArg) → matched_of f id ≡ o
    → ((x : MatchedArg) → matched_of f id ≡ Some x → All (λ v. Q v.now) x.vals.items) → IfSome (first_value f id) Q
at_entry f id Q None e each = rw e tt
at_entry f id Q (Some x) e each = rw e (first_of_values Q x.vals.items (each x e))

-- the command's own facts, which its rules and its shape have
abbrev own_rules : List Rule
own_rules = workers_rule ∷ schedule_rule ∷ attempts_rule ∷ patience_rule ∷ undo_tries_rule ∷ seed_rule ∷ []

each_own : (P : Rule → Type 0) → P workers_rule → P schedule_rule → P attempts_rule → P patience_rule → P undo_tries_rule → P seed_rule → All P own_rules
each_own P w s a p u n =
    All-cons P workers_rule (schedule_rule ∷ attempts_rule ∷ patience_rule ∷ undo_tries_rule ∷ seed_rule ∷ []) w
    (All-cons P schedule_rule (attempts_rule ∷ patience_rule ∷ undo_tries_rule ∷ seed_rule ∷ []) s
    (All-cons P attempts_rule (patience_rule ∷ undo_tries_rule ∷ seed_rule ∷ []) a
    (All-cons P patience_rule (undo_tries_rule ∷ seed_rule ∷ []) p
    (All-cons P undo_tries_rule (seed_rule ∷ []) u (All-cons P seed_rule [] n (All-nil P))))))

here : (P : Rule → Type 0) (c : Command) → app_of c ≡ command → All P own_rules → All P (map rule_of (args_of c))
here P c is all = subst (All P) (sym (ap (λ (a : App). a.top.rules) is)) all

no_group : (a : Arg) → is_simple_arg a ≡ true → a.groups.items ≡ []
no_group a simple = none_of a.groups.items (and_first _ _ (and_second _ _ (and_second _ _ simple)))

names_none : (c : Command) → app_of c ≡ command → NamesNoGroup c
names_none c is k d lt =
    let simple = here (λ r. r.is_simple ≡ true) c is (each_own (λ r. r.is_simple ≡ true) refl refl refl refl refl refl) in
    no_group (slice_index_or (args_of c) k d) (each_argument (λ r. r.is_simple ≡ true) (args_of c) simple k d lt)

no_groups : (c : Command) → app_of c ≡ command → groups_of c ≡ []
no_groups c is = none_of (groups_of c) (and_first _ _ (ap (λ (a : App). a.top.is_plain) is))

no_globals : (c : Command) → app_of c ≡ command → (out-Command c).has_globals ≡ false
no_globals c is = not_true _ (and_first _ _ (and_second _ _ (and_second _ _ (ap (λ (a : App). a.top.is_plain) is))))

-- an option's number is in its bounds
number_of_option : (c : Command) (m : ArgMatches) (p : IsParsedFrom c m) (id : Text) (least most : ℕ) → app_of c ≡ command → IsOwn id
    → All (TakesBetween id least most) own_rules → IfSome (first_value (found_of m) id) (IsUnsignedIn least most)
number_of_option c m p id least most is own rules =
    let none : groups_of p.built ≡ [] = (p.from.same_groups (names_none c is)).1 ∙ no_groups c is in
    let parsed = p.parsed (p.from.globals ∙ no_globals c is) in
    at_entry (found_of m) id (IsUnsignedIn least most) (matched_of (found_of m) id) refl (λ x found k d lt.
    passed_number c m p id least most own (here (TakesBetween id least most) c is rules) _
    (entry_passes p.built (found_of m) id x parsed.values none own.named found k d lt))

-- each number of a parse is in its option's bounds
pub has_numbers : (c : Command) (m : ArgMatches) → app_of c ≡ command → IsParsedFrom c m → HasNumbers (found_of m)
has_numbers c m is p = record {
  workers = number_of_option c m p (codes "workers") 1 64 is (record { help = refl; version = refl; named = λ e. cc })
      (each_own (TakesBetween (codes "workers") 1 64) (λ _. refl) (λ e. cc) (λ e. cc) (λ e. cc) (λ e. cc) (λ e. cc));
  attempts = number_of_option c m p (codes "attempts") 1 1000 is (record { help = refl; version = refl; named = λ e. cc })
      (each_own (TakesBetween (codes "attempts") 1 1000) (λ e. cc) (λ e. cc) (λ _. refl) (λ e. cc) (λ e. cc) (λ e. cc));
  patience = number_of_option c m p (codes "patience") 0 1000000 is (record { help = refl; version = refl; named = λ e. cc })
      (each_own (TakesBetween (codes "patience") 0 1000000) (λ e. cc) (λ e. cc) (λ e. cc) (λ _. refl) (λ e. cc) (λ e. cc));
  undo_tries = number_of_option c m p (codes "undo-tries") 1 16 is (record { help = refl; version = refl; named = λ e. cc })
      (each_own (TakesBetween (codes "undo-tries") 1 16) (λ e. cc) (λ e. cc) (λ e. cc) (λ e. cc) (λ _. refl) (λ e. cc));
  seed = number_of_option c m p (codes "seed") 0 18446744073709551615 is (record { help = refl; version = refl; named = λ e. cc })
      (each_own (TakesBetween (codes "seed") 0 18446744073709551615) (λ e. cc) (λ e. cc) (λ e. cc) (λ e. cc) (λ e. cc) (λ _. refl));
}
