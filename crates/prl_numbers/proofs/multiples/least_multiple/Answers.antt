use Rattle.prl_numbers.proofs.LeastMultiples.{divisor_positive, from_dvd, least_multiple_is}
use Rattle.prl_numbers.proofs.multiples.least_multiple.Goals as goal

pub nonzero_div-result : goal.nonzero_div-result
nonzero_div-result c = divisor_positive c.gcd.result c.args.hyper c.requires.hyper (from_dvd c.gcd.result c.args.hyper c.gcd.ensures.0)

pub returns : goal.returns
returns c = least_multiple_is c.args.hyper c.args.period c.gcd.result c.requires.hyper c.requires.period c.gcd.ensures
