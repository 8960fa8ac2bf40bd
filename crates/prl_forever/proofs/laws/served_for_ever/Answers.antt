use Rattle.prl_forever.proofs.Forever.{serves_for_ever, heavy_overloads, light_only}
use Rattle.prl_forever.proofs.laws.served_for_ever.Goals as goal

pub returns : goal.returns
returns c = record {
  enough = λ plan is light start started h long serves.
      serves_for_ever plan is (λ until i n. c.horizon_jobs_are_counted.ensures plan.graph until i n) light start started h long serves;
  heavy = λ plan is heavy start started h long.
      heavy_overloads plan is (λ until i n. c.horizon_jobs_are_counted.ensures plan.graph until i n) heavy start started h long;
  only = λ plan is serves. light_only plan is (λ until i n. c.horizon_jobs_are_counted.ensures plan.graph until i n) serves;
}
