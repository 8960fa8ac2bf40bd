use Rattle.prl_base.proofs.Standard.{◌≡◌, ℕ, sym, ◌∙◌, ap, subst, arith, pos}
use Rattle.prl_plan.specs.Vocabulary.{edge_at, IsSmallOperand, preceding}
use Rattle.prl_plan.specs.declared.walks.Operand.{Operand}
use Rattle.prl_plan.specs.declared.walks.Operand.TheVariants as operands
use Rattle.prl_tables.proofs.orders.preceding.Goals as goal

same_from : (m n : ℕ) → ◌≡◌ {A = Operand} (operands.From m) (operands.From n) → m ≡ n
same_from m n e = cc

pub operand-requires-clause-small : goal.operand-requires-clause-small
operand-requires-clause-small c =
    let read = c.order_laws.ensures.reads c.args.plan.now c.graph.ensures.plan c.args.edge.0 c.args.from.0 c.later_job.result c.requires.edge c.requires.from c.later_job.ensures.late in
    let early = c.later_job.ensures.early in
    subst IsSmallOperand (sym read.1) (omega (arith, c.look_ups_fit.ensures.operand c.args.plan.now c.graph.ensures.plan c.args.edge.0 c.later_job.result read.0 c.requires.edge read.1, early))

pub unreachable-requires : goal.unreachable-requires
unreachable-requires c =
    let read = c.order_laws.ensures.reads c.args.plan.now c.graph.ensures.plan c.args.edge.0 c.args.from.0 c.later_job.result c.requires.edge c.requires.from c.later_job.ensures.late in
    (let e = sym c.in-Const.is ∙ c.operand.ensures ∙ read.1 in cc)

pub returns-clause-precedes : goal.returns-clause-precedes
returns-clause-precedes c =
    let read = c.order_laws.ensures.reads c.args.plan.now c.graph.ensures.plan c.args.edge.0 c.args.from.0 c.later_job.result c.requires.edge c.requires.from c.later_job.ensures.late in
    let same : read.0 ≡ c.in-From.m = same_from read.0 c.in-From.m (sym read.1 ∙ sym c.operand.ensures ∙ c.in-From.is) in
    ap (λ (n : ℕ). preceding (edge_at c.args.plan.now.graph c.args.edge.0).ops (pos n)) (sym c.later_job.ensures.job) ∙ read.2 ∙ ap pos same

pub returns-clause-time : goal.returns-clause-time
returns-clause-time c =
    let read = c.order_laws.ensures.reads c.args.plan.now c.graph.ensures.plan c.args.edge.0 c.args.from.0 c.later_job.result c.requires.edge c.requires.from c.later_job.ensures.late in
    let same : read.0 ≡ c.in-From.m = same_from read.0 c.in-From.m (sym read.1 ∙ sym c.operand.ensures ∙ c.in-From.is) in
    let time = c.order_laws.ensures.time c.args.plan.now c.graph.ensures.plan c.args.edge.0 c.args.from.0 c.later_job.result c.in-From.m c.requires.edge c.requires.from (read.2 ∙ ap pos same) in
    omega (arith, time, c.later_job.ensures.early)
