use Rattle.std.proofs.Common.{◌≡◌, ◌+◌, ℕ, ap, sym, subst, arith}
use Rattle.prl_plan.specs.declared.horizons.Horizon.{Horizon}
use Rattle.prl_rule.specs.Known.{run_of}
use Rattle.prl_table.specs.Noted.{AreNoted}
use Rattle.prl_table.specs.code.Driving.{acts_at, IsDriven}
use Rattle.prl_table.proofs.Noting.{noted_tick}
use Rattle.prl_table.proofs.driving.do_tick.Goals as goal

pub go_on-requires-clause-now : goal.go_on-requires-clause-now
go_on-requires-clause-now g c = (let n = c.requires.now in let h = ap (λ (x : Horizon). x.end) c.requires.horizon.0 in omega (arith, n, h))

pub go_on-requires-clause-driven : goal.go_on-requires-clause-driven
go_on-requires-clause-driven g c =
    let end : c.loop-i.i ≡ (run_of c.args.board.now.known).tasks = (let t = c.loop-i-test.false in let e = c.loop-i.auto.i-end in let n = c.tasks-i-end.ensures in omega (arith, t, e, n)) in
    subst (IsDriven c.args.board.now.known c.args.table.now c.loop-i.driver.lone c.loop-i.next.items c.args.now) end c.loop-i.invariant.driven

pub returns-clause-after : goal.returns-clause-after
returns-clause-after g c =
    let end : c.loop-i.i ≡ (run_of c.args.board.now.known).tasks = (let t = c.loop-i-test.false in let e = c.loop-i.auto.i-end in let n = c.tasks-i-end.ensures in omega (arith, t, e, n)) in
    subst (AreNoted (run_of c.args.board.now.known) (acts_at c.args.board.now.known c.args.table.now) (c.args.now + 1) 0) (sym c.go_on.ensures.same)
    (noted_tick (run_of c.args.board.now.known) (acts_at c.args.board.now.known c.args.table.now) c.loop-i.driver.noted c.args.now
    (subst (λ (x : ℕ). AreNoted (run_of c.args.board.now.known) (acts_at c.args.board.now.known c.args.table.now) c.args.now x c.loop-i.driver.noted) end c.loop-i.invariant.before))
