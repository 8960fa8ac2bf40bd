use Rattle.prl_spans.proofs.laws.acts_within_run_are_gated.Goals as goal

pub returns : goal.returns
returns g = λ c facts cost units run are edf met begin end spans list all.
    g.acts_within_spans_are_gated.ensures.gated c facts begin end (g.edf_run_has_spans.ensures.are c facts cost units run are edf met begin end spans) list all
