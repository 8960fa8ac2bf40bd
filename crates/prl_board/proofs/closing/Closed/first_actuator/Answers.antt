use Rattle.std.proofs.Common.{arith, ◌≡◌, ℕ, sym, ap, subst, ◌∙◌, vec_items}
use mathlib.Core.Logic.{dite}
use native.Mathlib.Decide.{ℕ_discrete}
use Rattle.prl_base.specs.declared.numbers.TaskNo.{TaskNo}
use Rattle.prl_plan.specs.Jobs.{task_at}
use Rattle.prl_rule.specs.declared.views.View.{View}
use Rattle.prl_board.specs.Closings.{ClosedView, IsNoActuator}
use Rattle.prl_board.proofs.Actuators.{first_drives}
use Rattle.prl_board.proofs.Lists.{read_there}
use Rattle.prl_board.proofs.ClosedBoards.{left_of}
use Rattle.prl_board.proofs.closing.Closed.first_actuator.Goals as goal

pub returns-then-has_output : goal.returns-then-has_output
returns-then-has_output c = λ k known.
    let left = left_of c.self.invariant.2 (ap (λ (d : ClosedView). d.constants) c.self.view_is ∙ known) in
    let test = c.loop-i-test.true in let end = c.len-i-end.ensures in let ok = c.self.inside.seats.ok in
    let there = read_there (vec_items c.self.inside.seats) c.loop-i.i c.index.result.now (omega (arith, test, end, ok)) c.index.ensures in
    let task : c.index.result.now.task.0 ≡ c.loop-i.i = ap (λ (t : TaskNo). t.0) (left.closed.each c.loop-i.i c.index.result.now there).0 in
    let is = c.if-has_output.ensures.yes k (ap (λ (v : View). v.constants) (left.lent c.loop-i.i c.index.result.now there)) in
    first_drives k (left.plan) c.loop-i.i is.0 (omega (arith, test, end, ok, left.closed.tasks)) (λ j below. c.loop-i.invariant k j known below)
    (ap (λ (n : ℕ). (task_at k.plan.graph n).kind) (sym task) ∙ is.1)

pub loop-i-preserved : goal.loop-i-preserved
loop-i-preserved c = λ k j known below.
    let left = left_of c.self.invariant.2 (ap (λ (d : ClosedView). d.constants) c.self.view_is ∙ known) in
    let test = c.loop-i-test.true in let end = c.len-i-end.ensures in let ok = c.self.inside.seats.ok in
    let there = read_there (vec_items c.self.inside.seats) c.loop-i.i c.index.result.now (omega (arith, test, end, ok)) c.index.ensures in
    let task : c.index.result.now.task.0 ≡ c.loop-i.i = ap (λ (t : TaskNo). t.0) (left.closed.each c.loop-i.i c.index.result.now there).0 in
    dite (ℕ_discrete j c.loop-i.i)
    (λ here. subst (IsNoActuator k) (task ∙ sym here) (c.if-has_output.ensures.no k (ap (λ (v : View). v.constants) (left.lent c.loop-i.i c.index.result.now there))))
    (λ ne. c.loop-i.invariant k j known (omega (arith, below, ne)))

pub unreachable-requires : goal.unreachable-requires
unreachable-requires c =
    let left = left_of c.self.invariant.2 (ap (λ (d : ClosedView). d.constants) c.self.view_is ∙ c.requires.3) in
    let test = c.loop-i-test.false in let end = c.len-i-end.ensures in let ok = c.self.inside.seats.ok in
    c.loop-i.invariant c.requires.0 c.requires.1 c.requires.3 (omega (arith, test, end, ok, left.closed.tasks, c.requires.4.task)) c.requires.2 c.requires.4.kind
