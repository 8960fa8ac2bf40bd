use Rattle.prl_base.proofs.Standard.{ℕ, ◌++◌, Some, length, ap, subst, slice_get, slice_index_or, ◌≡◌, arith, pos, slice_get-get_or}
use Rattle.prl_base.specs.Clocks.{date_at}
use Rattle.prl_base.specs.declared.values.Value.{Value}
use Rattle.prl_base.specs.declared.values.Value.TheVariants as values
use Rattle.prl_flow.specs.Actuators.{row_text}
use Rattle.prl_flow.specs.declared.programs.OutFlow.{OutFlow}
use Rattle.prl_sensors.proofs.OneActuator.{all_rows, none_yet, one_more}
use Rattle.prl_sensors.proofs.singles.push_rows_of.Goals as goal

pub loop-n-init : goal.loop-n-init
loop-n-init c = none_yet c.args.out.now c.requires c.args.text.now.items

pub loop-n-preserved : goal.loop-n-preserved
loop-n-preserved c =
    let n : ℕ = c.loop-n.n in
    let v : Value = slice_index_or c.out.inside.values.now n (values.Int (pos 0)) in
    let found : slice_get c.args.out.now.values n ≡ Some v =
    subst (λ (o : OutFlow). slice_get o.values n ≡ Some v) c.out.view_is (slice_get-get_or c.out.inside.values.now n (values.Int (pos 0)) c.loop-n-test.true) in
    one_more c.args.out.now c.requires c.args.text.now.items c.loop-n.text.items c.push_row.new.text.items n v found c.loop-n.invariant
    (subst (λ (o : OutFlow). c.push_row.new.text.items ≡ c.loop-n.text.items ++ row_text (record { name = c.args.out.now.name; instance = n; date = date_at o.clock n; value = v })) c.out.view_is c.in_ok-push_row.ensures)

pub returns : goal.returns
returns c = λ until up_to.
    let same : length c.out.inside.values.now ≡ length c.args.out.now.values = ap (λ (o : OutFlow). length o.values) c.out.view_is in
    let all : length c.args.out.now.values ≡ c.loop-n.n = omega (arith, same, c.loop-n-test.false, c.loop-n.auto.n-end) in
    all_rows c.args.out.now c.requires c.args.text.now.items c.loop-n.text.items c.loop-n.n until all c.loop-n.invariant up_to
