use Rattle.prl_graph.proofs.JobValues.{job_values_are}
use Rattle.prl_graph.proofs.Whole.{made_whole}
use Rattle.prl_graph.proofs.graphs.graph.Goals as goal

pub returns : goal.returns
returns c =
    let p = c.args.flat.now in
    let clocks = c.args.clocks.now.of in
    let made = c.in_ok-made.made in
    let both = made_whole p clocks c.flows-flows.ensures.well_formed c.requires.clocks c.requires.small made.1 c.in_ok-made.ensures.checked c.requires.causal made.0.items c.in_ok-edges.edges.items
    c.in_ok-made.ensures.tasks c.in_ok-edges.ensures c.in_ok-made.ensures.few in
    rw (c.new.ensures, c.new-2.ensures) (record {
      graph = both.0;
      well_formed = both.1;
      values = λ bodies rows until flows have typed solves.
          job_values_are p clocks bodies rows until flows c.flows-flows.ensures.well_formed c.requires.clocks c.requires.small solves
          (record { tasks = made.0.items; edges = c.in_ok-edges.edges.items; hyper = made.1 }) both.0 both.1 have typed;
    })
