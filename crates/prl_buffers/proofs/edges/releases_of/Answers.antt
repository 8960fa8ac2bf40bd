use Rattle.prl_base.proofs.Standard.{rules, ◌≡◌, ◌+◌, ◌-◌, ◌*◌, ◌^◌, ◌++◌, ℕ, [], ◌∷◌, inl, inr, length, min, sum, take, sym, ◌∙◌, ap, arith, cases_lt, length_push, get_or_push, get_or_append_left}
use Rattle.prl_base.proofs.Standard.{sum_by_more}
use Rattle.prl_base.specs.declared.operators.Clock.{Clock}
use Rattle.prl_plan.specs.Jobs.{task_at}
use Rattle.prl_plan.specs.declared.tables.Window.{Window}
use Rattle.prl_buffers.specs.code.Edges.{release_in}
use Rattle.prl_buffers.proofs.edges.releases_of.Goals as goal

pub loop-gap-preserved : goal.loop-gap-preserved
loop-gap-preserved c =
    let x : ℕ = c.loop-gap.gap-index in
    let inv = c.loop-gap.invariant in
    let items : c.push.new.self.items ≡ c.loop-gap.releases.items ++ c.saturating_add.result ∷ [] = search rules in
    let long = inv.long in
    let pushed = length_push c.loop-gap.releases.items c.saturating_add.result in
    let more = sum_by_more (λ (y : ℕ). y) c.args.gaps.now c.loop-gap.gap-index 0 c.loop-gap-test.true in
    let number = inv.number in
    let date : c.clock_of-clock.result.start + c.loop-gap.m * c.clock_of-clock.result.period + c.window.result.lead
    ≡ release_in c.args.graph.now c.args.dates.now c.args.i.0 (c.args.first + sum (take c.loop-gap.gap-index c.args.gaps.now)) =
    ap (λ (k : Clock). k.start + c.loop-gap.m * k.period + c.window.result.lead) c.clock_of-clock.ensures
    ∙ ap (λ (v : Window). (task_at c.args.graph.now c.args.i.0).clock.start + c.loop-gap.m * (task_at c.args.graph.now c.args.i.0).clock.period + v.lead) c.window.ensures
    ∙ ap (λ (m : ℕ). release_in c.args.graph.now c.args.dates.now c.args.i.0 m) number in
    record {
      number = omega (arith, number, more);
      long = ap length items ∙ pushed ∙ ap (λ (n : ℕ). n + 1) long;
      each = λ y below.
          rw items
          (elim (cases_lt y c.loop-gap.gap-index) [
            | inl old ↦ get_or_append_left c.loop-gap.releases.items (c.saturating_add.result ∷ []) 0 y (omega (arith, old, long)) ∙ inv.each y old
            | inr here ↦
                (let same : y ≡ c.loop-gap.gap-index = omega (arith, below, here) in
                get_or_push c.loop-gap.releases.items c.saturating_add.result 0 y (long ∙ sym same) ∙ c.saturating_add.ensures
                ∙ ap (λ (d : ℕ). min d (2 ^ 64 - 1)) date ∙ ap (λ (k : ℕ). min (release_in c.args.graph.now c.args.dates.now c.args.i.0 (c.args.first + sum (take k c.args.gaps.now))) (2 ^ 64 - 1)) (sym same))
          ]);
    }
