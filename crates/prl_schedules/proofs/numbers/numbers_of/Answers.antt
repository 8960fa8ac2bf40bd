use Rattle.prl_schedules.proofs.Numbering.{number_kept, number_new}
use Rattle.prl_schedules.proofs.numbers.numbers_of.Goals as goal
use Rattle.prl_schedules.proofs.numbers.numbers_of.Goals.{then-not-contains_key+in_ok-insert, else-not-contains_key}

pub loop-k-preserved : goal.loop-k-preserved
loop-k-preserved c =
    elim c.if-not-contains_key.branch [
      | then-not-contains_key+in_ok-insert w ↦
          rw w.table-is (number_new c.loop-k.table w.insert.new.self c.args.tasks.now c.loop-k.k c.index-tasks-k.result c.bytes-bytes.result.now
          c.loop-k-test.true c.index-tasks-k.is c.bytes-bytes.ensures c.loop-k.invariant w.if-not-contains_key.ensures w.in_ok-insert.ensures.updates)
      | else-not-contains_key w ↦
          rw w.table-is (number_kept c.loop-k.table c.args.tasks.now c.loop-k.k c.index-tasks-k.result c.bytes-bytes.result.now
          c.loop-k-test.true c.index-tasks-k.is c.bytes-bytes.ensures c.loop-k.invariant w.if-not-contains_key.ensures)
    ]
