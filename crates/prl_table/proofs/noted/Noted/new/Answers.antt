use Rattle.prl_base.proofs.Standard.{rules, ◌≡◌, ◌∙◌, ℕ, List, Option, [], length, map, vec_items, ap, arith, length-map, length-replicate, map_push}
use Rattle.prl_plan.specs.Vocabulary.{job_count, task_at}
use Rattle.prl_plan.specs.declared.graphs.TaskGraph.{TaskGraph}
use Rattle.prl_table.proofs.Grown.{grown_length, each_grown}
use Rattle.prl_table.proofs.noted.Noted.new.Goals as goal

pub returns : goal.returns
returns c =
    let same : length c.graph.result.now.tasks ≡ length c.args.plan.now.graph.tasks = ap (λ (x : TaskGraph). length x.tasks) c.graph.ensures.graph in
    let all : c.loop-i.i ≡ length c.args.plan.now.graph.tasks = omega (arith, c.loop-i-test.false, c.loop-i.auto.i-end, c.len-i-end.ensures, same) in
    record {
      tasks = simp length-map (omega (arith, c.loop-i.invariant.long, all));
      jobs = λ i task. c.loop-i.invariant.each i (omega (arith, task, all));
    }

pub loop-i-preserved : goal.loop-i-preserved
loop-i-preserved c =
    let until : ℕ = c.args.horizon.until in
    let graph : TaskGraph = c.args.plan.now.graph in
    let i : ℕ = c.loop-i.i in
    let items = c.in_ok-push.ensures.items in
    let before = c.loop-i.invariant in
    let made : length c.in_ok-vec.field-0.items ≡ job_count (task_at graph i) until = ap (λ (xs : List (Option ℕ)). length xs) (c.in_ok-vec.ensures.items_if_clones_equal (λ y h. search (rules, h)))
    ∙ simp length-replicate c.jobs_of-jobs.ensures in
    record {
      long = grown_length c.loop-i.ticks.items c.push.new.self.items c.in_ok-vec.field-0 i items before.long;
      each = each_grown (map vec_items c.loop-i.ticks.items) (map vec_items c.push.new.self.items) c.in_ok-vec.field-0.items i
          (ap (map vec_items) items ∙ map_push vec_items c.loop-i.ticks.items c.in_ok-vec.field-0) (length-map c.loop-i.ticks.items vec_items ∙ before.long)
          (λ j (list : List (Option ℕ)). length list ≡ job_count (task_at graph j) until) [] before.each made;
    }
