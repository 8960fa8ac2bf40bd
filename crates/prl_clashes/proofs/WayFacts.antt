-- Steps, ways and clashes from their parts.
use Rattle.prl_base.proofs.Standard.{◌≡◌, ◌≢◌, ◌∙◌, ◌&&◌, ℕ, ℤ, true, false, List, ◌∷◌, Some, ap, eqb, int_eq, slice_get, subst, Decides-and, Decides-eqb, Decides-int_eq}
use Rattle.prl_base.specs.Ratios.{Fraction}
use Rattle.prl_ast.specs.declared.declarations.Rate.{Rate}
use Rattle.prl_flow.specs.declared.standings.Timing.{Timing}
use Rattle.prl_flow.specs.Programs.{FlatProgram}
use Rattle.prl_flow.specs.declared.programs.App.{App}
use Rattle.prl_flow.specs.declared.programs.Flow.{Flow}
use Rattle.prl_flow.specs.declared.programs.Def.TheVariants as definitions
use Rattle.prl_clashes.specs.declared.clashes.Clash.{Clash}
use Rattle.prl_clashes.specs.declared.ways.Hop.{Hop}
use Rattle.prl_clashes.specs.ClockWays.{GivesAlong, HasArgumentAt, IsAlongFrom, IsClash, IsStep, IsToldAt, IsWay}
use Rattle.prl_clashes.specs.Links.{HasAt, HasLink, IsOver, IsRateTiming}

pub ahead_is : (p : FlatProgram) (from to : ℕ) (clock next link : Timing) → HasLink p to from link → IsOver link clock next → IsStep p from false to clock next
ahead_is p from to clock next link has over = (link, has, over)

pub behind_is : (p : FlatProgram) (from to : ℕ) (clock next link : Timing) → HasLink p from to link → IsOver link next clock → IsStep p from true to clock next
behind_is p from to clock next link has over = (link, has, over)

pub along_more : (p : FlatProgram) (from to : ℕ) (clock next last : Timing) (hop : Hop) (hops : List Hop) → IsStep p from hop.back hop.flow clock next
    → GivesAlong p hop.flow next hops to last → GivesAlong p from clock (hop ∷ hops) to last
along_more p from to clock next last hop hops step rest = (next, step, rest)

pub from_is : (p : FlatProgram) (first to : ℕ) (hops : List Hop) (clock last : Timing) (flow : Flow) (rate : Rate) → slice_get p.flows first ≡ Some flow
    → flow.rate ≡ Some rate → IsRateTiming rate clock → GivesAlong p first clock hops to last → IsAlongFrom p first hops to last
from_is p first to hops clock last flow rate found rated timed along = record {
  flow = flow;
  found = found;
  rate = rate;
  rated = rated;
  clock = clock;
  timed = timed;
  along = along;
}

pub argument_is : (p : FlatProgram) (i at k out : ℕ) (flow : Flow) (app : App) → slice_get p.flows i ≡ Some flow → flow.def ≡ definitions.Apply k out
    → slice_get p.apps k ≡ Some app → HasAt app.args at → HasArgumentAt p i at
argument_is p i at k out flow app found applied there has = record {
  flow = flow;
  found = found;
  k = k;
  out = out;
  applied = applied;
  app = app;
  there = there;
  has = has;
}

pub clash_is : (p : FlatProgram) (at : ℕ) (clash : Clash) → IsToldAt p clash.flow at → IsWay p clash.flow clash.one → IsWay p clash.flow clash.other
    → clash.one.clock ≢ clash.other.clock → IsClash p at clash
clash_is p at clash told one other differ = record { told = told; one = one; other = other; differ = differ }

pub under_is : (link found again timing : Timing) → IsOver link found again → again ≡ timing → IsOver link found timing
under_is link found again timing is same = subst (λ (t : Timing). IsOver link found t) same is

pub same_timing : (t w : Timing) → (int_eq t.period.num w.period.num && eqb t.period.den w.period.den) && (int_eq t.start.num w.start.num && eqb t.start.den w.start.den) ≡ true → t ≡ w
same_timing t w e =
    let period = Decides-and _ _ (Decides-int_eq t.period.num w.period.num) (Decides-eqb t.period.den w.period.den) in
    let start = Decides-and _ _ (Decides-int_eq t.start.num w.start.num) (Decides-eqb t.start.den w.start.den) in
    let parts = (Decides-and _ _ period start).0 e in
    let periods = same_fraction t.period w.period parts.0.0 parts.0.1 in
    let starts = same_fraction t.start w.start parts.1.0 parts.1.1 in
    ap (λ (f : Fraction). record { period = f; start = t.start }) periods ∙ ap (λ (f : Fraction). record { period = w.period; start = f }) starts
  where
    same_fraction : (a b : Fraction) → a.num ≡ b.num → a.den ≡ b.den → a ≡ b
    same_fraction a b num den = ap (λ (n : ℤ). record { num = n; den = a.den }) num ∙ ap (λ (n : ℕ). record { num = b.num; den = n }) den
