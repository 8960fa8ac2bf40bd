use Rattle.prl_base.proofs.Standard.{◌≡◌, List, Some, arith, sym, length_push, get_or_from_slice_get, slice_index_or}
use Rattle.prl_base.specs.Operators.{Origin, constant, instance, origin_of}
use Rattle.prl_base.specs.declared.values.Value.{Value}
use Rattle.prl_flow.specs.Instances.{value_from}
use Rattle.prl_causal.specs.Tables.{nothing, taken}
use Rattle.prl_evaluation.proofs.Begun.{one_more}
use Rattle.prl_evaluation.proofs.columns.operator_values.Goals as goal

is_taken : (xs : List Value) (o : Origin) (x : Value) → value_from xs o ≡ Some x → x ≡ taken (λ m. slice_index_or xs m nothing) o
is_taken xs (instance m) x is = sym (get_or_from_slice_get xs m x nothing is)
is_taken xs (constant c) x is = cc

pub loop-n-preserved : goal.loop-n-preserved
loop-n-preserved c =
    rw c.in_ok-push.ensures.items (
      omega (arith, length_push c.loop-n.values.items c.instance_of_operator.result, c.loop-n.invariant.0),
      one_more (λ m. taken (λ j. slice_index_or c.args.of.now j nothing) (origin_of c.args.op.now m)) nothing c.loop-n.values.items c.instance_of_operator.result c.loop-n.n
          c.loop-n.invariant.0 c.loop-n.invariant.1 (is_taken c.args.of.now (origin_of c.args.op.now c.loop-n.n) c.instance_of_operator.result c.instance_of_operator.ensures),
    )
