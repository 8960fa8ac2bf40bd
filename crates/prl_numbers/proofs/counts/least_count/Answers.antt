use Rattle.std.proofs.Common.{arith}
use Rattle.prl_numbers.proofs.Rises.{next_least}
use Rattle.prl_numbers.proofs.counts.least_count.Goals.{then-count-needed, else-count-needed}
use Rattle.prl_numbers.proofs.counts.least_count.Goals as goal

pub loop-k-preserved : goal.loop-k-preserved
loop-k-preserved c =
    let s = c.saturating_sub-needed.ensures in
    let b = c.released_before-before.ensures in
    let small = c.loop-k.invariant.small in
    let hyper = c.requires.hyper in
    let date = c.requires.ends c.loop-k.k c.loop-k-test.true in
    let few = b.small in
    let old = c.loop-k.invariant.least in
    elim c.if-count-needed.branch [
      | then-count-needed w ↦
          (let more = w.if-count-needed.true in
          let is = w.count-is in
          record {
            least = next_least c.args.releases.now c.args.hyper c.requires.released c.args.ends.now c.loop-k.k c.loop-k.count c.if-count-needed.count c.released_before-before.result
                old b.count (omega (arith, more, is, s)) (omega (arith, more, is, s)) (λ fewer low reach. omega (arith, is, s, low, reach));
            small = omega (arith, is, s, few, hyper, date);
          })
      | else-count-needed w ↦
          (let less = w.if-count-needed.false in
          let is = w.count-is in
          record {
            least = next_least c.args.releases.now c.args.hyper c.requires.released c.args.ends.now c.loop-k.k c.loop-k.count c.if-count-needed.count c.released_before-before.result
                old b.count (omega (arith, is)) (omega (arith, less, is, s)) (λ fewer low reach. omega (arith, is, low));
            small = omega (arith, is, small);
          })
    ]
