use Rattle.prl_names.proofs.FirstIndices.{step_kept, step_new}
use Rattle.prl_names.proofs.tables.indices.Goals as goal
use Rattle.prl_names.proofs.tables.indices.Goals.{then-not-contains_key+in_ok-insert, else-not-contains_key}

pub loop-k-preserved : goal.loop-k-preserved
loop-k-preserved c =
    elim c.if-not-contains_key.branch [
      | then-not-contains_key+in_ok-insert w ↦
          rw w.table-is (step_new c.loop-k.table w.insert.new.self c.args.mentions.now c.loop-k.k c.index-mentions-k.result c.bytes-bytes.result.now
          c.loop-k-test.true c.index-mentions-k.is c.bytes-bytes.ensures.bytes c.loop-k.invariant w.if-not-contains_key.ensures w.in_ok-insert.ensures.updates)
      | else-not-contains_key w ↦
          rw w.table-is (step_kept c.loop-k.table c.args.mentions.now c.loop-k.k c.index-mentions-k.result c.bytes-bytes.result.now
          c.loop-k-test.true c.index-mentions-k.is c.bytes-bytes.ensures.bytes c.loop-k.invariant w.if-not-contains_key.ensures)
    ]
