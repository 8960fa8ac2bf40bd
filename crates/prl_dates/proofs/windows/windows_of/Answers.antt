use Rattle.std.proofs.Common.{◌≡◌, List, length, take, sym, ap, subst, ◌∙◌, arith}
use Rattle.prl_plan.specs.Repeats.{IsLeastRepeat}
use Rattle.prl_plan.specs.declared.tables.Window.{Window}
use Rattle.prl_dates.specs.code.Windows.{AreWindowsOf}
use Rattle.prl_dates.proofs.DateTables.{cut_made}
use Rattle.prl_dates.proofs.Indices.{index_below, some_jobs}
use Rattle.prl_dates.proofs.windows.windows_of.Goals as goal

pub shortest_repeat-step-requires-clause-some : goal.shortest_repeat-step-requires-clause-some
shortest_repeat-step-requires-clause-some c =
    let v = ap (λ (xs : List Window). length xs) c.as_slice.ensures.value in
    omega (arith, v, c.loop-p.invariant.long, c.jobs_of-jobs.ensures.jobs, some_jobs c.args.graph.now c.requires.well c.args.i.0 c.requires.task)

pub returns : goal.returns
returns c =
    let graph = c.args.graph.now in
    let list = c.loop-p.list.items in
    let cut : IsLeastRepeat list c.shortest_repeat-step.result = subst (λ (xs : List Window). IsLeastRepeat xs c.shortest_repeat-step.result) c.as_slice.ensures.value c.shortest_repeat-step.ensures in
    let items : c.new.result ≡ take c.shortest_repeat-step.result list = c.new.ensures ∙ c.truncate.ensures.items in
    subst (λ (xs : List Window). AreWindowsOf graph c.args.bests.now c.args.tails.now c.args.i.0 xs) (sym items)
    (cut_made graph c.requires.well c.args.bests.now c.args.tails.now c.args.i.0 c.requires.task list (omega (arith, c.loop-p.invariant.long, c.jobs_of-jobs.ensures.jobs))
    (λ p inside. c.loop-p.invariant.each p (omega (arith, inside, c.jobs_of-jobs.ensures.jobs))) c.shortest_repeat-step.result cut)

pub bounds-bests-index : goal.bounds-bests-index
bounds-bests-index c =
    omega (arith, index_below c.args.graph.now c.args.i.0 c.loop-p.p c.requires.task (omega (arith, c.jobs_of-jobs.ensures.jobs)), c.jobs_before-first.ensures.jobs, c.requires.bests)

pub bounds-tails-index : goal.bounds-tails-index
bounds-tails-index c =
    omega (arith, index_below c.args.graph.now c.args.i.0 c.loop-p.p c.requires.task (omega (arith, c.jobs_of-jobs.ensures.jobs)), c.jobs_before-first.ensures.jobs, c.requires.tails)
