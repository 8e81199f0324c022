-- One more session in front of the others.
use Rattle.std.proofs.Common.{reverse, ◌≡◌, ℕ, ◌+◌, ◌≤◌, ◌⊎◌, inl, inr, ⊎_elim, Bool, true, false}
use Rattle.std.proofs.Common.{List, [], ◌∷◌, ◌++◌, length, refl, sym, ap, ◌∙◌, subst, arith, nat_lt}
use Rattle.std.proofs.Common.{if◌then◌else◌}
use Rattle.std.specs.Prelude.{◌↔◌, Option}
use Rattle.std.specs.declared.option.Option.TheVariants.{None, Some}
use Rattle.std.specs.List.{AllZip}
use Rattle.std.proofs.lemmas.Bool.{ltb-true, ltb-false}
use Rattle.std.proofs.lemmas.List.{append-nil, length-append, reverse-append, reverse-reverse}
use Rattle.xc_data.specs.Counts.{counted}
use Rattle.xc_data.specs.Step.{Step}
use Rattle.xc_data.specs.declared.entry.Entry.{Entry}
use Rattle.xc_links.specs.Wires.{Wire}
use Rattle.xc_links.specs.Links.{LinksView, GivesLink}
use Rattle.xc_meet.specs.declared.session.Session.{Session}
use Rattle.xc_meet.specs.Members.{AreAll, AreFirst, HaveEntry, IsSitting, LeavesSessions, Sitting, links_of}
use Rattle.xc_meet.specs.Parts.{IsParted}
use Rattle.xc_roomy.specs.Room.{Roomy}
use Rattle.xc_serve.specs.Sessions.{IsSession}
use Rattle.xc_station.specs.Passes.{PassView, StationPass}
use Rattle.xc_turnstile.specs.Views.{BeginsWith, HasPlace, views_met, longer}
use Rattle.xc_turnstile.proofs.Laws.{starts_self, starts_trans}

module _ (a b : List Entry) where
  -- by which is the longer
  first_by : (t : Bool) → nat_lt (length a) (length b) ≡ t → BeginsWith a b ⊎ BeginsWith b a → BeginsWith (if t then b else a) a
  first_by true e (inr h) = h
  first_by true e (inl h) = absurd (omega (arith, ltb-true (length a) (length b) e, ap length h.1 ∙ length-append b h.0))
  first_by false e h = ([], sym (append-nil a))

  -- the longer of two histories begins with the one
  pub longer_first : BeginsWith a b ⊎ BeginsWith b a → BeginsWith (longer a b) a
  longer_first h = first_by (nat_lt (length a) (length b)) refl h

  -- no shorter one
  same_of : (more : List Entry) → b ≡ a ++ more → length more ≡ 0 → BeginsWith a b
  same_of [] e z = ([], sym (e ∙ append-nil a) ∙ sym (append-nil b))
  same_of (x ∷ xs) e z = absurd (omega (arith, z))

  -- by which is the longer
  second_by : (t : Bool) → nat_lt (length a) (length b) ≡ t → BeginsWith a b ⊎ BeginsWith b a → BeginsWith (if t then b else a) b
  second_by true e h = ([], sym (append-nil b))
  second_by false e (inl h) = h
  second_by false e (inr h) = same_of h.0 h.1 (omega (arith, ltb-false (length a) (length b) e, ap length h.1 ∙ length-append a h.0))

  -- and with the other
  pub longer_second : BeginsWith a b ⊎ BeginsWith b a → BeginsWith (longer a b) b
  longer_second h = second_by (nat_lt (length a) (length b)) refl h

-- before and after
abbrev step_of : {A : Type 0} → A → A → Step A
step_of a b = record { old = a; new = b }

-- a count that rose in a part rose in the whole
failed_later : (x y z : ℕ) → x ≤ y → counted y ≤ z → counted x ≤ z
failed_later x y z p q = omega (arith, p, q)

module _ {L : Type 0} (told : L → Wire) where
  -- sessions stay right where the journal grows
  pub sittings_later : (log more : List Entry) → BeginsWith more log → (xs : List (Sitting L)) (ss : List (Session L)) → AllZip (IsSitting told log) xs ss
      → AllZip (IsSitting told more) xs ss
  sittings_later log more b [] [] h = tt
  sittings_later log more b [] (s ∷ ss) h = absurd h
  sittings_later log more b (x ∷ xs) [] h = absurd h
  sittings_later log more b (x ∷ xs) (s ∷ ss) h =
      (record { served = h.0.served; fresh = h.0.fresh; seen = starts_trans more log x.last.view.seen b h.0.seen }, sittings_later log more b xs ss h.1)

  -- what was given is the first of those that were to come
  first_given : (a b : Option (List L)) (link : L) (accepted : List L) → GivesLink a b link → AreFirst b accepted → AreFirst a (link ∷ accepted)
  first_given None b link accepted g f = tt
  first_given (Some links) None link accepted g f = absurd g
  first_given (Some links) (Some rest) link accepted g f = (f.0, g ∙ ap (λ (l : List L). link ∷ l) f.1)

  -- none of them
  no_first : (a : Option (List L)) → AreFirst a []
  no_first None = tt
  no_first (Some links) = (links, refl)

  -- none was accepted
  pub none_accepted : (pass : StationPass) (before after : LinksView L) (list : Roomy (Session L)) (count : ℕ) → list.items ≡ [] → before.faults ≤ after.faults
      → (0 ≡ count) ⊎ (counted before.faults ≤ after.faults) → LeavesSessions told (step_of pass pass) (step_of before after) (step_of list list) count
  none_accepted pass before after list count none rose all =
      record {
        together = record { table = refl; shares = refl; origin = refl; seen = starts_self pass.view.seen };
        sessions = [];
        backwards = none;
        spare = omega arith;
        are = record { sittings = []; each = tt; accepted = no_first before.left; apart = tt };
        held = λ k h. absurd h;
        few = omega arith;
        later = rose;
        all = all;
      }

  module _ (old rest own met served new : StationPass) (before mid after : LinksView L) (list done last : Roomy (Session L)) (left count : ℕ) (x : L)
      (s : Session L) where
    -- one was accepted and served, and so were others behind it
    pub one_accepted : IsParted old rest own → GivesLink before.left mid.left x → before.faults ≤ mid.faults → IsSession own served (told x) (told s.link) s.end
        → LeavesSessions told (step_of rest met) (step_of mid after) (step_of list done) left
        → new.table ≡ met.table → new.view ≡ views_met met.view served.view
        → BeginsWith met.view.seen served.view.seen ⊎ BeginsWith served.view.seen met.view.seen
        → ((k : ℕ) → HasPlace k met.view.mine → HasPlace k served.view.mine → ⊥)
        → ((k : ℕ) → HasPlace k new.view.mine ↔ (HasPlace k met.view.mine ⊎ HasPlace k served.view.mine))
        → last.items ≡ done.items ++ s ∷ [] → last.spare + 1 ≡ done.spare → count ≡ left + 1
        → LeavesSessions told (step_of old new) (step_of before after) (step_of list last) count
    one_accepted parted gives rose session others at is either apart places items spare counts =
        let with_met : BeginsWith new.view.seen met.view.seen =
        subst (λ (v : PassView). BeginsWith v.seen met.view.seen) (sym is) (longer_first met.view.seen served.view.seen either) in
        let with_own : BeginsWith new.view.seen served.view.seen =
        subst (λ (v : PassView). BeginsWith v.seen served.view.seen) (sym is) (longer_second met.view.seen served.view.seen either) in
        let sittings = others.are.sittings in
        record {
          together =
              record {
                table = at ∙ (others.together.table ∙ parted.tables.0);
                shares = omega (arith, ap (λ (v : PassView). v.shares) is, others.together.shares, session.gains.goes.shares, parted.shares);
                origin = ap (λ (v : PassView). v.origin) is ∙ (others.together.origin ∙ parted.origins.0);
                seen = starts_trans new.view.seen met.view.seen old.view.seen with_met
                    (starts_trans met.view.seen rest.view.seen old.view.seen others.together.seen parted.seen);
              };
          sessions = s ∷ others.sessions;
          backwards = items ∙ (ap (λ (l : List (Session L)). l ++ s ∷ []) others.backwards ∙ sym (reverse-append (s ∷ []) others.sessions));
          spare = omega (arith, spare, others.spare);
          are =
              record {
                sittings = record { link = x; first = own; last = served } ∷ sittings;
                each = (
                  record { served = session; fresh = parted.fresh; seen = with_own },
                  sittings_later met.view.seen new.view.seen with_met sittings others.sessions others.are.each,
                );
                accepted = first_given before.left mid.left x (links_of sittings) gives others.are.accepted;
                apart = ((λ k h hs. apart k (others.held k hs) h), others.are.apart);
              };
          held = λ k h. (places k).1 (⊎_elim (λ (a : HasPlace k served.view.mine). inr a) (λ (b : HaveEntry k sittings). inl (others.held k b)) h);
          few = omega (arith, others.few, counts);
          later = omega (arith, rose, others.later);
          all = ⊎_elim (λ (e : length others.sessions ≡ left). inl (omega (arith, e, counts)))
              (λ (f : counted mid.faults ≤ after.faults). inr (failed_later before.faults mid.faults after.faults rose f)) others.all;
        }

  -- the sessions of a run, from the list that is turned round, with the journal at the end
  pub all_served : (old new : StationPass) (before after : LinksView L) (list done : Roomy (Session L)) (count : ℕ)
      (journal : List Entry) (turned : List (Session L))
      → LeavesSessions told (step_of old new) (step_of before after) (step_of list done) count → BeginsWith journal new.view.seen → turned ≡ reverse done.items
      → AreAll told journal (step_of before after) count turned
  all_served old new before after list done count journal turned h front is =
      let same : turned ≡ h.sessions = is ∙ (ap (λ (l : List (Session L)). reverse l) h.backwards ∙ reverse-reverse h.sessions) in
      subst (λ (l : List (Session L)). AreAll told journal (step_of before after) count l) (sym same)
      (record {
        are = record {
          sittings = h.are.sittings;
          each = sittings_later new.view.seen journal front h.are.sittings h.sessions h.are.each;
          accepted = h.are.accepted;
          apart = h.are.apart;
        };
        all = h.all;
        few = h.few;
        later = h.later;
      })
