-- The instances of a lane are those whose dates are before the end.
use Rattle.prl_base.proofs.Standard.{ℕ, ◌+◌, ◌*◌, ◌<◌, ◌≤◌, ◌↔◌, arith, div_ceil_times}
use Rattle.prl_gen.specs.Vocabulary.{UNTIL, instances}

earlier : (m count period end : ℕ) → count * period < end + period → m < count → m * period < end
earlier m count period end below h = grind arith

fewer : (m count period end : ℕ) → end ≤ count * period → m * period < end → m < count
fewer m count period end above h = grind arith

pub instances_are_before_the_end : (period instance : ℕ) → 0 < period → (instance < instances period) ↔ (instance * period < UNTIL)
instances_are_before_the_end period instance positive =
    let bounds = div_ceil_times UNTIL period positive in
    (earlier instance (instances period) period UNTIL bounds.1, fewer instance (instances period) period UNTIL bounds.0)
