use Rattle.std.proofs.Common.{◌≡◌, ◌+◌, ◌≤◌, get_or, inl, inr, subst, arith}
use Rattle.prl_plan.specs.Facts.{WritesAt}
use Rattle.prl_plan.proofs.laws.tag_is_of_the_latest_instance.Goals as goal

pub returns : goal.returns
returns c = record {
  empty = λ k s tagged slot none i n place m writes done.
      omega (arith, tagged.written i n place m slot writes done, none);
  written = λ k s tagged slot m holds.
      elim (tagged.origin slot) [
        | inl none ↦ absurd (omega (arith, none, holds))
        | inr from ↦
            (let same : from.instance ≡ m = omega (arith, from.holds, holds) in
            (from.task, from.job, from.place, subst (λ x. WritesAt k from.task from.job from.place x slot) same from.writes, from.done))
      ];
  latest = λ k s tagged slot m holds i n place l writes done.
      omega (arith, tagged.written i n place l slot writes done, holds);
}
