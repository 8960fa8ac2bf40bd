use Rattle.std.proofs.Common.{◌≡◌, ◌<◌, ◌≤◌, arith, subst, length, get_or, set}
use Rattle.prl_graph.specs.code.Marks.{AreLeastDues}
use Rattle.prl_graph.proofs.LeastDues.{bound_within, either_more, none_more}
use Rattle.prl_graph.proofs.Lists.{same_length}
use Rattle.prl_graph.proofs.leasts.least_dues.Goals as goal
use Rattle.prl_graph.proofs.leasts.least_dues.Goals.{in-Some, in-None}

pub lower-requires : goal.lower-requires
lower-requires c =
    let count = c.loop-i.invariant.count in
    let low = bound_within c.args.flat.now c.flows-flows.ensures.well_formed c.loop-i.i c.in-Some.bound.app c.in-Some.bound.due c.in-Some.ensures in
    omega arith

pub loop-i-preserved : goal.loop-i-preserved
loop-i-preserved c =
    let count = c.loop-i.invariant.count in
    elim c.match-binding_due.branch [
      | in-Some w ↦
          let app = w.in-Some.bound.app in
          let due = w.in-Some.bound.due in
          let same = w.from.ensures in
          let low = bound_within c.args.flat.now c.flows-flows.ensures.well_formed c.loop-i.i app due w.in-Some.ensures in
          rw w.dues-is
          (either_more c.args.flat.now c.args.clocks.now.of c.loop-i.dues.items c.loop-i.i app due c.loop-i.invariant w.in-Some.ensures w.lower.new.dues.items (omega arith)
          (subst (λ d. d < get_or c.loop-i.dues.items app 0 → w.lower.new.dues.items ≡ set c.loop-i.dues.items app d) same w.lower.ensures.less)
          (subst (λ d. get_or c.loop-i.dues.items app 0 ≤ d → w.lower.new.dues.items ≡ c.loop-i.dues.items) same w.lower.ensures.more))
      | in-None w ↦ rw w.dues-is (none_more c.args.flat.now c.args.clocks.now.of c.loop-i.dues.items c.loop-i.i c.loop-i.invariant w.in-None.ensures)
    ]

pub returns : goal.returns
returns c =
    let count = same_length c.flows-flows.result.now c.args.flat.now.flows c.flows-flows.ensures.flows in
    let number : c.loop-i.i ≡ length c.args.flat.now.flows = omega arith in
    subst (λ n. AreLeastDues c.args.flat.now c.args.clocks.now.of n c.loop-i.dues.items) number c.loop-i.invariant
