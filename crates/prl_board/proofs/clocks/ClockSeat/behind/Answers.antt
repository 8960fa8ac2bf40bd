use Rattle.std.proofs.Common.{arith, ℕ, subst}
use mathlib.Core.Logic.{dite}
use native.Mathlib.Decide.{ℕ_discrete}
use Rattle.prl_board.specs.ClockSeats.{IsUnseen}
use Rattle.prl_board.proofs.clocks.ClockSeat.behind.Goals as goal

pub loop-i-preserved : goal.loop-i-preserved
loop-i-preserved c = λ r is j m u.
    dite (ℕ_discrete j c.loop-i.i)
    (λ same. absurd (c.in_default.ensures r is m (subst (λ (z : ℕ). IsUnseen c.args.board.now.known r z m) same u)))
    (λ other. omega (arith, c.loop-i.invariant r is j m u, other))
