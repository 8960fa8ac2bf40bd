use Rattle.prl_base.proofs.Standard.{◌≡◌, ◌+◌, ◌<◌, ℕ, suc, List, Option, None, length, get_or, sym, ◌∙◌, ap, subst, arith, slice_get-get_or}
use Rattle.prl_base.specs.declared.numbers.TaskNo.{TaskNo}
use Rattle.prl_plan.specs.declared.graphs.TaskGraph.{TaskGraph}
use Rattle.prl_overlaps.specs.declared.entries.Entry.{Entry}
use Rattle.prl_table.specs.Vocabulary.{cut_from, cut_to, last_of, with_tick, job_in, HaveAtMost}
use Rattle.prl_table.proofs.Cuts.{few_more}
use Rattle.prl_table.proofs.making.cut.Goals as goal

abbrev no_tick : Option (TaskNo × ℕ)
no_tick = None

pub add_tick-requires-clause-this : goal.add_tick-requires-clause-this
add_tick-requires-clause-this c =
    (let inside : c.args.start + c.loop-n.n < length c.args.ticks.now =
    (let t = c.loop-n-test.true in let h = ap (λ (g : TaskGraph). g.hyper) c.graph.ensures.graph in let l = c.requires.length in let s = c.requires.start in omega (arith, t, h, l, s)) in
    c.requires.jobs (c.args.start + c.loop-n.n) (get_or c.args.ticks.now (c.args.start + c.loop-n.n) no_tick) (slice_get-get_or c.args.ticks.now (c.args.start + c.loop-n.n) no_tick inside))

pub loop-n-preserved : goal.loop-n-preserved
loop-n-preserved c =
    let inside : c.args.start + c.loop-n.n < length c.args.ticks.now =
    (let t = c.loop-n-test.true in let h = ap (λ (g : TaskGraph). g.hyper) c.graph.ensures.graph in let l = c.requires.length in let s = c.requires.start in omega (arith, t, h, l, s)) in
    let at = slice_get-get_or c.args.ticks.now (c.args.start + c.loop-n.n) no_tick inside in
    let one : suc c.loop-n.n ≡ c.loop-n.n + 1 = omega arith in
    record {
      entries = λ run has.
          c.in_ok-add_tick.ensures
          ∙ ap (λ (es : List Entry). with_tick c.args.plan.now es (c.args.start + c.loop-n.n) (job_in c.loop-n.last) (job_in (get_or c.args.ticks.now (c.args.start + c.loop-n.n) no_tick)))
          (c.loop-n.invariant.entries run has)
          ∙ ap (λ (s : ℕ). with_tick c.args.plan.now (cut_to c.args.plan.now run (cut_from c.args.plan.now) c.loop-n.n) (s + c.loop-n.n) (job_in c.loop-n.last)
          (job_in (get_or c.args.ticks.now (c.args.start + c.loop-n.n) no_tick))) c.requires.start
          ∙ ap (λ (o : Option (ℕ × ℕ)). with_tick c.args.plan.now (cut_to c.args.plan.now run (cut_from c.args.plan.now) c.loop-n.n) (cut_from c.args.plan.now + c.loop-n.n) o
          (job_in (get_or c.args.ticks.now (c.args.start + c.loop-n.n) no_tick))) (c.loop-n.invariant.last run has)
          ∙ ap (λ (o : Option (ℕ × ℕ)). with_tick c.args.plan.now (cut_to c.args.plan.now run (cut_from c.args.plan.now) c.loop-n.n) (cut_from c.args.plan.now + c.loop-n.n)
          (last_of run (cut_from c.args.plan.now) c.loop-n.n) o)
          (has (c.args.start + c.loop-n.n) (get_or c.args.ticks.now (c.args.start + c.loop-n.n) no_tick) at ∙ ap (λ (s : ℕ). run (s + c.loop-n.n)) c.requires.start)
          ∙ ap (λ (n : ℕ). cut_to c.args.plan.now run (cut_from c.args.plan.now) n) one;
      few = subst (HaveAtMost (c.loop-n.n + 1)) (sym c.in_ok-add_tick.ensures)
          (few_more c.args.plan.now c.loop-n.entries.items (c.args.start + c.loop-n.n) (job_in c.loop-n.last) (job_in (get_or c.args.ticks.now (c.args.start + c.loop-n.n) no_tick)) c.loop-n.n
          c.loop-n.invariant.few);
      last = λ run has.
          has (c.args.start + c.loop-n.n) (get_or c.args.ticks.now (c.args.start + c.loop-n.n) no_tick) at ∙ ap (λ (s : ℕ). run (s + c.loop-n.n)) c.requires.start
          ∙ ap (λ (n : ℕ). last_of run (cut_from c.args.plan.now) n) one;
    }

pub returns : goal.returns
returns c = λ run has.
    (let end : c.loop-n.n ≡ c.args.plan.now.graph.hyper =
    (let t = c.loop-n-test.false in let e = c.loop-n.auto.n-end in let h = ap (λ (g : TaskGraph). g.hyper) c.graph.ensures.graph in omega (arith, t, e, h)) in
    c.loop-n.invariant.entries run has ∙ ap (λ (n : ℕ). cut_to c.args.plan.now run (cut_from c.args.plan.now) n) end)
