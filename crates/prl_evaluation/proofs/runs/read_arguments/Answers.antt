use Rattle.prl_base.proofs.Standard.{add-one, refl, slice_index_or, ◌∙◌, slice_get-get_or}
use Rattle.prl_flow.specs.declared.programs.Arg.{Arg}
use Rattle.prl_causal.specs.Tables.{table_of}
use Rattle.prl_evaluation.proofs.Filled.{take_set_one}
use Rattle.prl_evaluation.proofs.runs.read_arguments.Goals as goal

abbrev none : Arg
none = record { flow = record { 0 = 0 }; at = record { at = 0; len = 0 } }

pub value_in-requires : goal.value_in-requires
value_in-requires c =
    let there = c.requires.there c.loop-k.k (slice_index_or c.args.args.now c.loop-k.k none) (slice_get-get_or c.args.args.now c.loop-k.k none c.loop-k-test.true) in
    record { flow = there.0; instance = there.1 }

pub loop-k-preserved : goal.loop-k-preserved
loop-k-preserved c =
    rw (add-one, c.value_in.ensures)
    (take_set_one (λ (a : Arg). table_of c.args.flows.now a.flow.0 c.args.n) c.args.args.now c.loop-k.k (slice_index_or c.args.args.now c.loop-k.k none) none c.loop-k.inputs
    c.loop-k-test.true (c.loop-k.auto.inputs ∙ c.requires.number) refl c.loop-k.invariant)
