use Rattle.prl_edf.specs.Pieces.{run_of}
use Rattle.prl_steady.proofs.Endless.{all_met, endless_over}
use Rattle.prl_steady.proofs.Lasts.{times_last}
use Rattle.prl_steady.proofs.laws.times_last.Goals as goal

pub returns : goal.returns
returns c = λ plan is serves h of far timed feasible i inside times are run endless.
    times_last plan is (λ until i n. c.horizon_jobs_are_counted.ensures plan.graph until i n) (c.served_for_ever.ensures.only plan is serves)
    h (c.plans_keep_facts.ensures plan h is of) far (run_of timed.pieces) feasible.plain feasible.met run (endless_over plan run endless)
    (all_met plan is c.plain_run_is_one.ensures.some c.feasibility.ensures.feasible serves (λ until i n. c.horizon_jobs_are_counted.ensures plan.graph until i n)
    run (endless_over plan run endless)) i inside times are
