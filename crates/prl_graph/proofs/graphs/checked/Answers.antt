use Rattle.prl_base.proofs.Standard.{subst, List, err_from_is_err_and}
use Rattle.prl_base.specs.declared.operators.Clock.{Clock}
use Rattle.prl_graph.specs.Vocabulary.{IsHyperperiod}
use Rattle.prl_graph.proofs.TaskFacts.{small_periods}
use Rattle.prl_graph.proofs.graphs.checked.Goals as goal

pub returns-in_err-check_places : goal.returns-in_err-check_places
returns-in_err-check_places c =
    let p = err_from_is_err_and c.from_residual.result c.from_residual.ensures.1 in
    rw (p.1, p.2) (c.in_err-check_places.ensures.fault c.args.clocks.now.of)

pub returns-in_err-check_counts : goal.returns-in_err-check_counts
returns-in_err-check_counts c =
    let p = err_from_is_err_and c.from_residual-in_err-check_counts.result c.from_residual-in_err-check_counts.ensures.1 in
    rw (p.1, p.2) (c.in_err-check_counts.ensures.fault c.args.clocks.now.of (record { allowed = c.in_ok-check_places.ensures.allowed; within = c.in_ok-check_ranges.ensures.within }))

pub hyperperiod-requires : goal.hyperperiod-requires
hyperperiod-requires c = small_periods c.args.flat.now c.args.clocks.now.of c.as_slice.result.now c.requires.clocks c.requires.small c.as_slice.ensures

pub returns-in-Ok : goal.returns-in-Ok
returns-in-Ok c = record {
  dues = record { allowed = c.in_ok-check_places.ensures.allowed; within = c.in_ok-check_ranges.ensures.within };
  few_tasks = c.in_ok-check_counts.ensures.few_tasks;
  few_edges = c.in_ok-check_counts.ensures.few_edges;
  hyper_is = subst (λ (l : List Clock). IsHyperperiod l c.in-Ok.hyper) c.as_slice.ensures c.in-Ok.ensures.0;
  few_ticks = c.in-Ok.ensures.1;
}
