use Rattle.std.proofs.Common.{◌≡◌, ℕ, subst, arith}
use Rattle.prl_rule.specs.Known.{run_of}
use Rattle.prl_table.specs.Noted.{AreNoted}
use Rattle.prl_table.specs.code.Driving.{acts_at}
use Rattle.prl_table.proofs.driving.run_table.Goals as goal

pub returns-clause-after : goal.returns-clause-after
returns-clause-after g c =
    let end : c.loop-now.now ≡ c.args.horizon.end = (let t = c.loop-now-test.false in let e = c.loop-now.auto.now-end in omega (arith, t, e)) in
    subst (λ (x : ℕ). AreNoted (run_of c.args.board.now.known) (acts_at c.args.board.now.known c.args.table.now) x 0 c.loop-now.driver.noted) end c.loop-now.invariant.before
