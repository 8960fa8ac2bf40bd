use Rattle.prl_base.proofs.Standard.{◌≡◌, ◌≤◌, All, take, sym, subst, arith, max, take_all, All-more, All-weaker}
use Rattle.prl_sensors.specs.Ends.{EndsBefore}
use Rattle.prl_sensors.proofs.RowDates.{EndsBefore_more}
use Rattle.prl_sensors.proofs.ends.end_of.Goals as goal

pub loop-out-preserved : goal.loop-out-preserved
loop-out-preserved c =
    let outs = c.args.outs.now in
    let i = c.loop-out.out-index in
    let out = c.out-item.result in
    let is_max : c.max-end.result ≡ max c.end_of_one.result c.loop-out.end = c.max-end.ensures in
    let so_far : All (EndsBefore c.max-end.result) (take i outs) =
    All-weaker (EndsBefore c.loop-out.end) (EndsBefore c.max-end.result) (λ o. EndsBefore_more c.loop-out.end c.max-end.result o (omega arith)) (take i outs) c.loop-out.invariant.0 in
    let here = EndsBefore_more c.end_of_one.result c.max-end.result out (omega arith) c.end_of_one.ensures.ends in (
      All-more (EndsBefore c.max-end.result) outs i out c.loop-out-test.true so_far (subst (EndsBefore c.max-end.result) c.out-item.is here),
      λ end all.
          let before : c.loop-out.end ≤ end = c.loop-out.invariant.1 end all in
          let one : c.end_of_one.result ≤ end = c.end_of_one.ensures.least end (subst (EndsBefore end) (sym c.out-item.is) (all i out c.loop-out-test.true)) in
          omega arith,
    )

pub returns-clause-ends : goal.returns-clause-ends
returns-clause-ends c = subst (All (EndsBefore c.loop-out.end)) (take_all c.loop-out.out-index c.args.outs.now c.loop-out-test.false) c.loop-out.invariant.0
