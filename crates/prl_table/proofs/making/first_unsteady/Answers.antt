use Rattle.prl_base.proofs.Standard.{◌≡◌, ◌+◌, ℕ, Option, None, get_or, inl, inr, sym, ◌∙◌, ap, subst, arith, cases_lt, slice_get-get_or}
use Rattle.prl_base.specs.declared.numbers.TaskNo.{TaskNo}
use Rattle.prl_plan.specs.declared.graphs.TaskGraph.{TaskGraph}
use Rattle.prl_table.specs.Made.{later}
use Rattle.prl_table.proofs.MadeCode.{task_there}
use Rattle.prl_table.proofs.making.first_unsteady.Goals as goal

abbrev no_tick : Option (TaskNo × ℕ)
no_tick = None

pub is_later-requires : goal.is_later-requires
is_later-requires c =
    task_there c.args.plan.now c.args.ticks.now c.loop-t.t no_tick c.requires.jobs
    (let t = c.loop-t-test.true in let h = ap (λ (g : TaskGraph). g.hyper) c.graph.ensures.graph in let l = c.requires.length in let s = c.requires.start in omega (arith, t, h, l, s))

pub returns-then-not-is_later-clause-some : goal.returns-then-not-is_later-clause-some
returns-then-not-is_later-clause-some c = λ run has.
    let t = c.loop-t-test.true in let low = c.loop-t.auto.t in let h = ap (λ (g : TaskGraph). g.hyper) c.graph.ensures.graph in let l = c.requires.length in let s = c.requires.start in
    let first = has c.loop-t.t (get_or c.args.ticks.now c.loop-t.t no_tick) (slice_get-get_or c.args.ticks.now c.loop-t.t no_tick (omega (arith, t, h, l, s))) in
    let second = has (c.loop-t.t + c.graph.result.now.hyper) (get_or c.args.ticks.now (c.loop-t.t + c.graph.result.now.hyper) no_tick)
    (slice_get-get_or c.args.ticks.now (c.loop-t.t + c.graph.result.now.hyper) no_tick (omega (arith, t, h, l, s))) in
    record {
      from = omega (arith, low, s);
      to = omega (arith, t, h, s);
      differ = λ same. c.if-not-is_later.ensures.no (ap (later c.args.plan.now) first ∙ same ∙ ap (λ (x : ℕ). run (c.loop-t.t + x)) (sym h) ∙ sym second);
      before = c.loop-t.invariant run has;
    }

pub loop-t-preserved : goal.loop-t-preserved
loop-t-preserved c = λ run has u from below.
    let t = c.loop-t-test.true in let h = ap (λ (g : TaskGraph). g.hyper) c.graph.ensures.graph in let l = c.requires.length in let s = c.requires.start in
    let first = has c.loop-t.t (get_or c.args.ticks.now c.loop-t.t no_tick) (slice_get-get_or c.args.ticks.now c.loop-t.t no_tick (omega (arith, t, h, l, s))) in
    let second = has (c.loop-t.t + c.graph.result.now.hyper) (get_or c.args.ticks.now (c.loop-t.t + c.graph.result.now.hyper) no_tick)
    (slice_get-get_or c.args.ticks.now (c.loop-t.t + c.graph.result.now.hyper) no_tick (omega (arith, t, h, l, s))) in
    elim (cases_lt u c.loop-t.t) [
      | inl earlier ↦ c.loop-t.invariant run has u from earlier
      | inr not_earlier ↦
          (let same : c.loop-t.t ≡ u = omega (arith, below, not_earlier) in
          subst (λ (x : ℕ). later c.args.plan.now (run x) ≡ run (x + c.args.plan.now.graph.hyper)) same
          (ap (later c.args.plan.now) (sym first) ∙ c.if-not-is_later.ensures.yes ∙ second ∙ ap (λ (x : ℕ). run (c.loop-t.t + x)) h))
    ]
