use Rattle.std.proofs.Common.{◌≡◌, ◌+◌, ◌<◌, ℕ, Option, length, set, sym, ◌∙◌, ap, subst, arith}
use Rattle.prl_plan.specs.Vocabulary.{IsHorizon, PlanView}
use Rattle.prl_rule.specs.Known.{run_of}
use Rattle.prl_table.specs.code.Driving.{acts_at, next_act, IsDriven}
use Rattle.prl_table.proofs.Driven.{next_of_board, noted_now}
use Rattle.prl_table.proofs.driving.note.Goals as goal

pub next_act-requires-clause-plan : goal.next_act-requires-clause-plan
next_act-requires-clause-plan g c = c.requires.board.plan ∙ sym c.requires.plan

pub next_act-requires-clause-horizon : goal.next_act-requires-clause-horizon
next_act-requires-clause-horizon g c =
    subst (IsHorizon c.args.plan.now) (sym c.requires.horizon.0) (subst (λ (p : PlanView). IsHorizon p c.args.board.now.known.horizon) (sym c.requires.plan) c.requires.horizon.1)

pub next_act-requires-clause-task : goal.next_act-requires-clause-task
next_act-requires-clause-task g c =
    (let t = c.requires.task in let n = c.requires.done.stands.tasks in let p = ap (λ (q : PlanView). length q.graph.tasks) c.requires.plan in omega (arith, t, n, p))

pub returns-clause-tasks : goal.returns-clause-tasks
returns-clause-tasks g c = ap length c.look-ended.ensures.call.seats

pub returns-clause-driven : goal.returns-clause-driven
returns-clause-driven g c =
    let now_is : c.next_act.result ≡ next_act (run_of c.args.board.now.known) (acts_at c.args.board.now.known c.args.table.now) c.args.task.0 c.look-ended.result =
    c.next_act.ensures ∙ next_of_board c.args.board.now.known c.args.table.now c.args.plan.now c.args.horizon c.requires.plan c.requires.horizon.0 c.args.task.0 c.look-ended.result in
    let inside : c.args.task.0 < length c.args.next.now.items =
    (let t = c.requires.task in let n = c.requires.done.stands.tasks in let w = c.requires.noted in omega (arith, t, n, w)) in
    subst (λ (first : Option ℕ). IsDriven c.args.board.now.known c.args.table.now c.look-ended.new.self.lone (set c.args.next.now.items c.args.task.0 first) c.args.now (c.args.task.0 + 1)) (sym now_is)
    (noted_now c.args.board.now.known c.args.table.now c.requires.board c.keeps_facts.ensures (c.run_of_two_lists.ensures.state (run_of c.args.board.now.known)) c.args.driver.now.lone
    c.look-ended.new.self.lone c.args.next.now.items c.args.now c.args.task.0 c.look-ended.result c.requires.task inside c.requires.done c.look-ended.ensures.call c.look-ended.ensures.told
    c.look-ended.ensures.exact)
