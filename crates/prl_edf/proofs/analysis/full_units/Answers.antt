use Rattle.prl_base.proofs.Standard.{◌≡◌, ◌∙◌, ℕ, List, [], length, map, replicate, vec_items, refl, ap, arith, length-map, map_push}
use Rattle.prl_plan.specs.Vocabulary.{constants_of, job_count, task_at}
use Rattle.prl_plan.specs.declared.graphs.TaskGraph.{TaskGraph}
use Rattle.prl_overlaps.specs.Demand.{wcets_of}
use Rattle.prl_overlaps.proofs.Starts.{wcet_bounds}
use Rattle.prl_edf.proofs.FullUnits.{full_lists}
use Rattle.prl_edf.proofs.Grown.{grown_length, each_grown}
use Rattle.prl_edf.proofs.analysis.full_units.Goals as goal

pub returns : goal.returns
returns c =
    let same : length c.graph.result.now.tasks ≡ length c.args.plan.now.graph.tasks = ap (λ (x : TaskGraph). length x.tasks) c.graph.ensures.graph in
    let all : c.loop-i.i ≡ length c.args.plan.now.graph.tasks = omega (arith, c.loop-i-test.false, c.loop-i.auto.i-end, c.len-i-end.ensures, same) in
    full_lists (constants_of c.args.plan.now c.args.horizon) (wcets_of c.args.plan.now) (map vec_items c.loop-i.lists.items) (λ i. (task_at c.args.plan.now.graph i).wcet)
    (simp length-map (omega (arith, c.loop-i.invariant.long, all)))
    (λ i n. refl)
    (λ i task. (wcet_bounds c.args.plan.now c.plan_is_one.ensures i task).0)
    (λ i task. c.loop-i.invariant.each i (omega (arith, task, all)))

pub loop-i-preserved : goal.loop-i-preserved
loop-i-preserved c =
    let until : ℕ = c.args.horizon.until in
    let graph : TaskGraph = c.args.plan.now.graph in
    let i : ℕ = c.loop-i.i in
    let items = c.in_ok-push.ensures.items in
    let before = c.loop-i.invariant in
    let made : c.in_ok-vec.field-0.items ≡ replicate (job_count (task_at graph i) until) (task_at graph i).wcet = c.in_ok-vec.ensures.items_if_clones_equal (λ y h. h)
    ∙ ap (λ (n : ℕ). replicate n c.wcet_of-wcet.result) c.jobs_of-jobs.ensures ∙ ap (λ (x : ℕ). replicate (job_count (task_at graph i) until) x) c.wcet_of-wcet.ensures.wcet in
    record {
      long = grown_length c.loop-i.lists.items c.push.new.self.items c.in_ok-vec.field-0 i items before.long;
      each = each_grown (map vec_items c.loop-i.lists.items) (map vec_items c.push.new.self.items) c.in_ok-vec.field-0.items i
          (ap (map vec_items) items ∙ map_push vec_items c.loop-i.lists.items c.in_ok-vec.field-0) (length-map c.loop-i.lists.items vec_items ∙ before.long)
          (λ j (list : List ℕ). list ≡ replicate (job_count (task_at graph j) until) (task_at graph j).wcet) [] before.each made;
    }
