use Rattle.std.proofs.Common.{sym, ◌∙◌, true, false}
use Rattle.prl_names.proofs.FirstIndices.{among, step_new}
use Rattle.prl_names.proofs.Repeating.{repeat_here, repeat_later}
use Rattle.prl_names.proofs.repeats.repeat_in.Goals as goal

pub returns-then-contains_key : goal.returns-then-contains_key
returns-then-contains_key c =
    let there =
    among c.loop-k.seen c.args.space.now c.loop-k.k c.index-space-k.result c.bytes-bytes.result.now true c.bytes-bytes.ensures.bytes c.loop-k.invariant.indices c.if-contains_key.ensures in
    sym (repeat_here c.args.space.now c.loop-k.k c.index-space-k.result c.loop-k-test.true c.index-space-k.is there) ∙ c.loop-k.invariant.rest

pub loop-k-preserved : goal.loop-k-preserved
loop-k-preserved c =
    let ms = c.args.space.now in
    let absent =
    among c.loop-k.seen ms c.loop-k.k c.index-space-k.result c.bytes-bytes.result.now false c.bytes-bytes.ensures.bytes c.loop-k.invariant.indices c.if-contains_key.ensures in
    record {
      indices = step_new c.loop-k.seen c.insert.new.self ms c.loop-k.k c.index-space-k.result c.bytes-bytes.result.now c.loop-k-test.true c.index-space-k.is
          c.bytes-bytes.ensures.bytes c.loop-k.invariant.indices c.if-contains_key.ensures c.in_ok-insert.ensures.updates;
      rest = sym (repeat_later ms c.loop-k.k c.index-space-k.result c.loop-k-test.true c.index-space-k.is absent) ∙ c.loop-k.invariant.rest;
    }
