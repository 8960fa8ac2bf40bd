use Rattle.std.proofs.Common.{rules, ℕ, length, sym, ap, subst, arith, inl, inr}
use Rattle.prl_plan.specs.declared.graphs.TaskGraph.{TaskGraph}
use Rattle.prl_tables.specs.Vocabulary.{IsFault, KeepsOrder}
use Rattle.prl_tables.proofs.orders.check_order.Goals as goal

pub returns-in_err-check_edge-clause-cause : goal.returns-in_err-check_edge-clause-cause
returns-in_err-check_edge-clause-cause c =
    let cause = c.in_err-check_edge.ensures.cause in
    let first = cause.2 in
    let graph = ap (λ (g : TaskGraph). length g.edges) c.graph.ensures.graph in
    let at : IsFault c.args.plan.now c.args.entries.now c.in_err-check_edge.field-0.0 =
    subst (IsFault c.args.plan.now c.args.entries.now) (sym cause.1) (
      c.requires.pieces,
      c.requires.whole,
      c.requires.apart,
      record {
        edge = omega (arith, c.loop-e-test.true, c.len-e-end.ensures, graph);
        class = first.class;
        disorder = first.disorder;
        before = λ f d f_in d_in earlier. elim earlier [
          | inl less ↦ c.loop-e.invariant f d less d_in
          | inr here ↦
              subst (λ (x : ℕ). KeepsOrder c.args.plan.now c.args.entries.now x d) (sym here.0) (first.before d here.1)
        ];
      },
    ) in
    search rules
