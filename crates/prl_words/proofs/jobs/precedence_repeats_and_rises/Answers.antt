use Rattle.std.proofs.lemmas.Option.{slice_get-get_or}
use Rattle.prl_plan.specs.Vocabulary.{task_at, edge_at, no_edge}
use Rattle.prl_plan.proofs.Periods.{preceding_shift}
use Rattle.prl_plan.proofs.RoundPeriods.{edge_takes}
use Rattle.prl_plan.proofs.ReaderLaws.{preceding_rises}
use Rattle.prl_words.proofs.jobs.precedence_repeats_and_rises.Goals as goal

pub returns : goal.returns
returns k = record {
  repeats = λ graph well e i c d inside comes consumer producer n.
      (let fact = well.edges e (edge_at graph e) (slice_get-get_or graph.edges e no_edge inside) in
      preceding_shift (edge_at graph e).ty graph.hyper (edge_at graph e).ops fact.operators (task_at graph i).clock (task_at graph (edge_at graph e).to.0).clock
      (edge_takes graph (edge_at graph e) fact i comes) c d consumer producer n);
  rises = λ graph well e inside a b order.
      (let fact = well.edges e (edge_at graph e) (slice_get-get_or graph.edges e no_edge inside) in
      preceding_rises (edge_at graph e).ty (edge_at graph e).ops fact.operators a b order);
}
