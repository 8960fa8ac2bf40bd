-- What an actuator's task has read.
use Rattle.prl_base.proofs.Standard.{◌≡◌, ◌<◌, ◌≤◌, ℕ, List, length, take, ◌∙◌, arith, slice_get, length-take-le}
use Rattle.prl_base.specs.declared.values.Value.{Value}
use Rattle.prl_flow.proofs.Lists.{slice_get_take}
use Rattle.prl_values.specs.JobValues.{reads_of_job}
use Rattle.prl_rule.specs.Known.{job_values_of, values_of}
use Rattle.prl_rule.specs.declared.views.Constants.{Constants}
use Rattle.prl_board.specs.Closings.{AreOutputs}

pub column_outputs : (k : Constants) (i job steps : ℕ) (column : List Value) → job ≤ steps → job ≤ length column →
    ((m : ℕ) → m < steps → slice_get column m ≡ slice_get (reads_of_job k.plan.graph (job_values_of k) i m) 0) → AreOutputs k i job (take job column)
unfolding values_of
column_outputs k i job steps column made within told = record {
  count = length-take-le job column within;
  each = λ n below. slice_get_take job column n below ∙ told n (omega (arith, below, made));
}
