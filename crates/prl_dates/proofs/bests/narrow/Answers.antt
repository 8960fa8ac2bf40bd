use Rattle.prl_base.proofs.Standard.{◌+◌, ◌*◌, w64, to_z, arith, slice_index, to_z_pos}
use Rattle.prl_dates.proofs.Settles.{narrow_is, read_small}
use Rattle.prl_dates.proofs.Indices.{index_below}
use Rattle.prl_dates.proofs.LaneSteps.{few_jobs}
use Rattle.prl_dates.proofs.bests.narrow.Goals as goal

pub overflow_add-released : goal.overflow_add-released
overflow_add-released c =
    let small = read_small c.args.graph.now c.requires.well c.args.task.0 c.args.n c.requires.task c.requires.job _ c.as_slice.ensures c.index-as_slice-task.result c.index-as_slice-task.is in
    record { fits = omega arith }

pub bounds-bests-index : goal.bounds-bests-index
bounds-bests-index c =
    omega (arith, index_below c.args.graph.now c.args.task.0 c.args.n c.requires.task c.requires.job, c.jobs_before.ensures.jobs, c.requires.long)

pub overflow_add-result : goal.overflow_add-result
overflow_add-result c =
    let small = read_small c.args.graph.now c.requires.well c.args.task.0 c.args.n c.requires.task c.requires.job _ c.as_slice.ensures c.index-as_slice-task.result c.index-as_slice-task.is in
    let w = c.requires.within (c.jobs_before.result + c.args.n) in
    record { fits = omega arith }

pub overflow_cast-result-2 : goal.overflow_cast-result-2
overflow_cast-result-2 c =
    let small = read_small c.args.graph.now c.requires.well c.args.task.0 c.args.n c.requires.task c.requires.job _ c.as_slice.ensures c.index-as_slice-task.result c.index-as_slice-task.is in
    let w = c.requires.within (c.jobs_before.result + c.args.n) in
    record { sfits = omega arith }

pub overflow_add-result-2 : goal.overflow_add-result-2
overflow_add-result-2 c =
    let small = read_small c.args.graph.now c.requires.well c.args.task.0 c.args.n c.requires.task c.requires.job _ c.as_slice.ensures c.index-as_slice-task.result c.index-as_slice-task.is in
    record { fits = omega arith }

pub overflow_cast-result-3 : goal.overflow_cast-result-3
overflow_cast-result-3 c =
    let small = read_small c.args.graph.now c.requires.well c.args.task.0 c.args.n c.requires.task c.requires.job _ c.as_slice.ensures c.index-as_slice-task.result c.index-as_slice-task.is in
    record { sfits = omega arith }

pub returns : goal.returns
returns c =
    let graph = c.args.graph.now in
    let t = c.index-as_slice-task.result in
    let small = read_small c.args.graph.now c.requires.well c.args.task.0 c.args.n c.requires.task c.requires.job _ c.as_slice.ensures c.index-as_slice-task.result c.index-as_slice-task.is in
    let few = few_jobs graph c.requires.well c.args.task.0 c.args.n c.requires.task c.requires.job in
    narrow_is graph c.args.bests.now c.args.task c.args.n t small.is c.requires.job (c.jobs_before.result + c.args.n)
    (let j = c.jobs_before.ensures.jobs in omega (arith, j)) (to_z w64 c.args.n) (to_z_pos w64 c.args.n (omega (arith, few)))
    (to_z w64 (t.clock.start + c.args.n * t.clock.period + slice_index c.args.bests.now (c.jobs_before.result + c.args.n)))
    (to_z_pos w64 (t.clock.start + c.args.n * t.clock.period + slice_index c.args.bests.now (c.jobs_before.result + c.args.n)) (omega arith))
    (to_z w64 (t.clock.start + c.args.n * t.clock.period + t.due))
    (to_z_pos w64 (t.clock.start + c.args.n * t.clock.period + t.due) (omega arith))

pub overflow_mul-released : goal.overflow_mul-released
overflow_mul-released c =
    let small = read_small c.args.graph.now c.requires.well c.args.task.0 c.args.n c.requires.task c.requires.job _ c.as_slice.ensures c.index-as_slice-task.result c.index-as_slice-task.is in
    record { fits = omega arith }

pub overflow_add-index : goal.overflow_add-index
overflow_add-index c = record {
  fits = omega (arith, index_below c.args.graph.now c.args.task.0 c.args.n c.requires.task c.requires.job, c.jobs_before.ensures.jobs, c.requires.well.few_jobs);
}
