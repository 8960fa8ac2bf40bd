-- The only clocks of a flat program.
use Rattle.std.specs.Prelude.{◌≡◌, ℕ, List}
use Rattle.prl_base.specs.declared.operators.Clock.{Clock}
use Rattle.prl_body.specs.declared.bodies.CheckedBody.{CheckedBody}
use Rattle.prl_flow.specs.Programs.{FlatProgram}
use Rattle.prl_flow.specs.Rows.{Rows}
use Rattle.prl_flow.specs.Solutions.{AreClocks}
use Rattle.prl_flow.specs.States.{IsSolution, State}
use Rattle.prl_causal.specs.Conditions.{clocks_in}

-- these clocks meet the program's rules, and every solution has them, for all bodies, rows and dates
pub record AreOnlyClocks (p : FlatProgram) (clocks : List Clock) : Type 0 where
  pub agree : AreClocks p clocks
  pub only : (bodies : List CheckedBody) (rows : Rows) (until : ℕ) (s : State) → IsSolution p bodies rows until s → clocks_in s ≡ clocks
