use Rattle.prl_spans.proofs.Runs.{spans_are}
use Rattle.prl_spans.proofs.Ticks.{job_has_span}
use Rattle.prl_spans.proofs.laws.edf_run_has_spans.Goals as goal

pub returns-clause-some : goal.returns-clause-some
returns-clause-some g = λ c cost units run are edf met i n job. job_has_span c cost units run are edf.timed met i n job

pub returns-clause-are : goal.returns-clause-are
returns-clause-are g = λ c facts cost units run are edf met begin end spans. spans_are c facts units run edf met begin end spans
