-- The table of claims against what the jobs' active transactions hold.
use Rattle.std.proofs.Common.{◌≡◌, ◌≢◌, ℕ, List, refl, ap, sym, ◌∙◌, subst}
use Rattle.std.proofs.lemmas.List.Elements.{All-weaker}
use Rattle.std.specs.Prelude.{All}
use Rattle.std.specs.declared.option.Option.TheVariants.{Some}
use Rattle.xc_data.specs.Claims.{claim, compatible}
use Rattle.xc_data.specs.declared.claim.Claim.{Claim}
use Rattle.xc_data.specs.declared.claim.Mode.{Mode}
use Rattle.xc_data.specs.declared.claim.Mode.TheVariants.{Shared, Exclusive}
use Rattle.xc_data.specs.declared.object.Object.{Object}
use Rattle.xc_locks.specs.Table.{Table, mode_in, held_mode}
use Rattle.xc_locks.specs.Met.{Meets, IsMet, IsNotMet}
use Rattle.xc_locks.specs.Met as met
use Rattle.xc_locks.proofs.Laws.{member, once_member}
use Rattle.xc_model.specs.Moment.{TxView, JobView, active_of}
use Rattle.xc_model.specs.Movers.{IsActiveAt}
use Rattle.xc_model.specs.Rivals.{HoldsAgainst, HasNoRival, IsRival, IsFirstRival}
use Rattle.xc_model.specs.Holding.{AreApart}
use Rattle.xc_station.specs.Moments.{IsTable, AreSingle}

-- ---- one place
one_active : (jobs : List JobView) (at : ℕ) (t u : TxView) → IsActiveAt jobs at t → IsActiveAt jobs at u → t ≡ u
one_active jobs at t u a b =
    let both : Some a.0 ≡ Some b.0 = sym a.1 ∙ b.1 in
    let job : a.0 ≡ b.0 = cc in
    let tx : Some t ≡ Some u = sym a.2 ∙ ap active_of job ∙ b.2 in
    cc

either_way : (m n : Mode) → compatible m n ≡ compatible n m
either_way Shared Shared = refl
either_way Shared Exclusive = refl
either_way Exclusive Shared = refl
either_way Exclusive Exclusive = refl

-- ---- who is met is a rival
module _ (jobs : List JobView) (at : ℕ) (tx : TxView) (table : Table) (all : IsTable table jobs) (lone : AreSingle jobs) (off : AreApart jobs)
    (here : IsActiveAt jobs at tx) where
  against_meets : (c : Claim) (j : ℕ) (u : TxView) → j ≢ at → IsActiveAt jobs j u → HoldsAgainst u c → Meets table c tx.number u.number
  against_meets c j u ne active against =
      record {
        other = λ e. ne (lone j at u tx active here e);
        held_as = against.0.mode;
        holds = (all c.object).held j u active ∙ ap (mode_in u.held) (sym against.2.0)
            ∙ once_member u.held against.0 (off.once j u active) against.1;
        clash = (refl, against.2.1);
      }

  -- who isn't met has no rival
  pub not_met : (c : Claim) → IsNotMet table tx.number c → HasNoRival jobs at c
  not_met c lacks j u ne active against = lacks u.number (against_meets c j u ne active against)

  -- the same of claims
  pub none_met : (claims : List Claim) → All (IsNotMet table tx.number) claims → All (HasNoRival jobs at) claims
  none_met claims free = All-weaker (IsNotMet table tx.number) (HasNoRival jobs at) not_met claims free

  mine_not_met : (c : Claim) (n : ℕ) (u : TxView) → Meets table c tx.number n → IsActiveAt jobs at u → u.number ≡ n → ⊥
  mine_not_met c n u meets active numbered =
      meets.other (sym numbered ∙ ap (λ (t : TxView). t.number) (one_active jobs at u tx active here))

  -- the smallest that is met is the rival with the smallest number
  pub is_rival : (c : Claim) (n : ℕ) → IsMet table c tx.number n → IsRival jobs at c n
  is_rival c n m =
      let o = c.object in
      let k = (all o).known n m.meets.held_as m.meets.holds in
      let mode : mode_in k.1.held o ≡ Some m.meets.held_as =
      sym ((all o).held k.0 k.1 k.2) ∙ ap (λ x. held_mode table x o) k.3 ∙ m.meets.holds in
      record {
        place = k.0;
        other = λ e. mine_not_met c n k.1 m.meets (subst (λ j. IsActiveAt jobs j k.1) e k.2) k.3;
        rival = k.1;
        active = k.2;
        holds = (claim m.meets.held_as o, member k.1.held o m.meets.held_as mode, (refl, m.meets.clash.1));
        numbered = k.3;
        smallest = λ j u ne active against. m.smallest u.number (against_meets c j u ne active against);
      }

  -- and so the first met claim of the table is that of the jobs
  pub first_rival : (claims : List Claim) (object : Object) (holder : ℕ) → met.IsFirstMet table claims tx.number object holder
      → IsFirstRival jobs at claims object holder
  first_rival claims object holder m =
      record {
        front = m.before;
        met = m.claim;
        rest = m.after;
        split = m.parts;
        free = none_met m.before m.free;
        names = m.object_is;
        rival = is_rival m.claim holder m.met;
      }
