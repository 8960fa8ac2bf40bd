use Rattle.std.proofs.Common.{arith, rules}
use Rattle.prl_sensors.proofs.Lengths.{number_length}
use Rattle.prl_sensors.proofs.lines.put_number.Goals as goal

pub write_digits-requires : goal.write_digits-requires
write_digits-requires c =
    let short = number_length c.args.number c.ranges.number.fits in
    (omega (arith, short, c.requires.0), search rules)

pub returns-clause-start : goal.returns-clause-start
returns-clause-start c =
    let short = number_length c.args.number c.ranges.number.fits in
    (omega (arith, short, c.write_digits.ensures.start), omega (arith, c.write_digits.ensures.start))
