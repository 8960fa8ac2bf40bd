-- How far the constraints of a flat program are taken.
use Rattle.std.specs.Prelude.{◌≡◌, ◌++◌, ◌∷◌, ℕ, List, [], length}
use Rattle.prl_flow.specs.Programs.{FlatProgram}
use Rattle.prl_clock.specs.Constraints.{Placed}
use Rattle.prl_clock.specs.Outcomes.{IsFine, clock_limit}
use Rattle.prl_clock.specs.code.Standings.{IsRefused, IsSolved}
use Rattle.prl_clock.specs.declared.calculus.ClockFault.{ClockFault}
use Rattle.prl_clock.specs.declared.calculus.ClockFault.TheVariants as faults
use Rattle.prl_flow.specs.declared.standings.Standing.{Standing}
use Rattle.prl_clock.specs.declared.steps.Refusal.{Refusal}
use Rattle.prl_clock.specs.declared.steps.Refusal.TheVariants as refusals

-- the constraints are met, none of them passed the limit, and this is where the flows stand
pub record IsReached (p : FlatProgram) (cs : List Placed) (st : List Standing) : Type 0 where
  pub len : length st ≡ length p.flows
  pub fine : IsFine cs
  pub solved : IsSolved cs st

-- a refusal at a place of the source text, as a fault
abbrev pub told : Refusal → ℕ → ClockFault
told refusals.Mismatch at = faults.Mismatch at
told refusals.Limit at = faults.Limit clock_limit
told refusals.Memory at = faults.Memory

-- after the first constraints, one of these further ones is refused
pub record IsStopped (cs ds : List Placed) (e : ClockFault) : Type 0 where
  pub done : List Placed
  pub placed : Placed
  pub rest : List Placed
  pub split : ds ≡ done ++ placed ∷ rest
  pub fine : IsFine (cs ++ done)
  pub refusal : Refusal
  pub refused : IsRefused ((cs ++ done) ++ placed ∷ []) refusal
  pub is : e ≡ told refusal placed.at

-- the constraints are refused, or memory ran out
abbrev pub IsStop : List Placed → List Placed → ClockFault → Type 0
IsStop cs ds faults.Memory = Unit {0}
IsStop cs ds (faults.Mismatch at) = IsStopped cs ds (faults.Mismatch at)
IsStop cs ds (faults.Limit limit) = IsStopped cs ds (faults.Limit limit)
IsStop cs ds (faults.Free label) = IsStopped cs ds (faults.Free label)
IsStop cs ds (faults.NotWhole label period start) = IsStopped cs ds (faults.NotWhole label period start)
