use Rattle.prl_base.proofs.Standard.{◌≡◌, w64, to_z, of_z, arith, pos, ◌*ℤ◌, to_z-of_z, to_z_pos}
use Rattle.prl_plan.specs.Jobs.{release_of}
use Rattle.prl_dates.proofs.numbers.release.Goals as goal
use Rattle.prl_dates.proofs.numbers.release.Goals.{Start}

-- the numbers are what they stand for
number : (c : Start) → to_z w64 (of_z w64 c.args.m) ≡ c.args.m
number c = to_z-of_z w64 c.args.m c.ranges.m

period : (c : Start) → to_z w64 c.args.task.now.clock.period ≡ pos c.args.task.now.clock.period
period c = to_z_pos w64 c.args.task.now.clock.period (omega (arith, c.requires.period))

start : (c : Start) → to_z w64 c.args.task.now.clock.start ≡ pos c.args.task.now.clock.start
start c = to_z_pos w64 c.args.task.now.clock.start (omega (arith, c.requires.start))

product : (c : Start) → to_z w64 (of_z w64 (c.args.m *ℤ pos c.args.task.now.clock.period)) ≡ c.args.m *ℤ pos c.args.task.now.clock.period
product c = to_z-of_z w64 (c.args.m *ℤ pos c.args.task.now.clock.period) c.requires.product

pub overflow_mul-result : goal.overflow_mul-result
overflow_mul-result c =
    let d = (goal.at.overflow_mul-result c).Start in
    rw (number d, period d) c.requires.product

pub overflow_add-result : goal.overflow_add-result
overflow_add-result c =
    let d = (goal.at.overflow_add-result c).Start in
    rw (number d, period d, product d, start d) c.requires.fits

pub returns : goal.returns
returns c =
    let d = (goal.at.returns c).Start in
    rw (number d, period d, product d, start d) (to_z-of_z w64 (release_of c.args.task.now c.args.m) c.requires.fits)
