-- Clocks along ways from declared rates, and two of them that do not fit.
use Rattle.std.specs.Prelude.{◌≡◌, ◌≢◌, ℕ, Bool, true, false, List, [], ◌∷◌, Some, slice_get}
use Rattle.prl_ast.specs.declared.declarations.Rate.{Rate}
use Rattle.prl_flow.specs.declared.standings.Timing.{Timing}
use Rattle.prl_flow.specs.declared.programs.App.{App}
use Rattle.prl_flow.specs.declared.programs.Def.TheVariants as definitions
use Rattle.prl_flow.specs.declared.programs.Flow.{Flow}
use Rattle.prl_flow.specs.Programs.{FlatProgram}
use Rattle.prl_clashes.specs.declared.clashes.Clash.{Clash}
use Rattle.prl_clashes.specs.declared.ways.Hop.{Hop}
use Rattle.prl_clashes.specs.declared.ways.Way.{Way}
use Rattle.prl_clashes.specs.Links.{HasAt, HasLink, IsOver, IsRateTiming}

-- From a flow with one clock to a flow with another: that one is defined over the first, or the first over that one.
abbrev pub IsStep : FlatProgram → ℕ → Bool → ℕ → Timing → Timing → Type 0
IsStep p from false to clock next = (link : Timing) × HasLink p to from link × IsOver link clock next
IsStep p from true to clock next = (link : Timing) × HasLink p from to link × IsOver link next clock

-- the flows after the first, one after another, lead from the first with its clock to the last with this one
abbrev pub GivesAlong : FlatProgram → ℕ → Timing → List Hop → ℕ → Timing → Type 0
GivesAlong p from clock [] to last = (from ≡ to) × (clock ≡ last)
GivesAlong p from clock (hop ∷ hops) to last =
    (next : Timing) × IsStep p from hop.back hop.flow clock next × GivesAlong p hop.flow next hops to last

-- The first flow has a declared rate, and from it the flows after it give the one at the end this clock.
pub record IsAlongFrom (p : FlatProgram) (first : ℕ) (hops : List Hop) (to : ℕ) (last : Timing) : Type 0 where
  pub flow : Flow
  pub found : slice_get p.flows first ≡ Some flow
  pub rate : Rate
  pub rated : flow.rate ≡ Some rate
  pub clock : Timing
  pub timed : IsRateTiming rate clock
  pub along : GivesAlong p first clock hops to last

-- the way gives the flow at its end its clock
abbrev pub IsWay : FlatProgram → ℕ → Way → Type 0
IsWay p to way = IsAlongFrom p way.first way.rest to way.clock

-- an argument of the application that the flow is an output of stands at this byte
pub record HasArgumentAt (p : FlatProgram) (i at : ℕ) : Type 0 where
  pub flow : Flow
  pub found : slice_get p.flows i ≡ Some flow
  pub k : ℕ
  pub out : ℕ
  pub applied : flow.def ≡ definitions.Apply k out
  pub app : App
  pub there : slice_get p.apps k ≡ Some app
  pub has : HasAt app.args at

-- the flow stands at this byte
pub record StandsAt (p : FlatProgram) (i at : ℕ) : Type 0 where
  pub flow : Flow
  pub found : slice_get p.flows i ≡ Some flow
  pub is : flow.at.at ≡ at

pub data IsToldAt (p : FlatProgram) (i at : ℕ) : Type 0 where
  itself : StandsAt p i at → IsToldAt p i at
  argument : HasArgumentAt p i at → IsToldAt p i at

-- two ways give a flow that is told at this byte two clocks
pub record IsClash (p : FlatProgram) (at : ℕ) (clash : Clash) : Type 0 where
  pub told : IsToldAt p clash.flow at
  pub one : IsWay p clash.flow clash.one
  pub other : IsWay p clash.flow clash.other
  pub differ : clash.one.clock ≢ clash.other.clock
