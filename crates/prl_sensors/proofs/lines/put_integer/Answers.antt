use Rattle.std.proofs.Common.{arith, rules}
use Rattle.prl_sensors.proofs.Lengths.{size_length}
use Rattle.prl_sensors.proofs.lines.put_integer.Goals as goal

pub write_digits-start-requires : goal.write_digits-start-requires
write_digits-start-requires c =
    let short = size_length c.unsigned_abs.result c.unsigned_abs.ensures.bound in
    (omega (arith, short, c.requires.0), search rules)

pub returns-then-number-ge0-clause-start : goal.returns-then-number-ge0-clause-start
returns-then-number-ge0-clause-start c =
    let short = size_length c.unsigned_abs.result c.unsigned_abs.ensures.bound in
    (omega (arith, short, c.write_digits-start.ensures.start), omega (arith, c.write_digits-start.ensures.start))

pub put-requires : goal.put-requires
put-requires c =
    let short = size_length c.unsigned_abs.result c.unsigned_abs.ensures.bound in
    (omega (arith, short, c.write_digits-start.ensures.start, c.requires.0), omega (arith, c.write_digits-start.ensures.start, c.requires.1))

pub returns-clause-start : goal.returns-clause-start
returns-clause-start c =
    let short = size_length c.unsigned_abs.result c.unsigned_abs.ensures.bound in
    (omega (arith, short, c.put.ensures.start, c.write_digits-start.ensures.start), omega (arith, c.put.ensures.start, c.write_digits-start.ensures.start))
