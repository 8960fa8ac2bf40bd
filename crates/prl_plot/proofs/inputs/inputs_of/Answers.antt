use Rattle.prl_base.proofs.Standard.{◌∙◌, ◌++◌, ◌∷◌, [], List, map, ap, sym, arith, map-range_with_len_more}
use Rattle.std.specs.List.{range_with_len}
use Rattle.prl_plot.specs.Inputs.{input_of}
use Rattle.prl_plot.specs.declared.forms.Input.{Input}
use Rattle.prl_plot.proofs.inputs.inputs_of.Goals as goal

pub loop-k-preserved : goal.loop-k-preserved
loop-k-preserved c =
    c.in_ok-push.ensures.items ∙ ap (λ (xs : List Input). xs ++ c.in_ok-input_of.field-0 ∷ []) c.loop-k.invariant
    ∙ ap (λ (x : Input). map (input_of c.args.flat.now c.args.clocks.now.of) (range_with_len 0 c.loop-k.k) ++ x ∷ []) c.in_ok-input_of.ensures
    ∙ sym (map-range_with_len_more (input_of c.args.flat.now c.args.clocks.now.of) 0 c.loop-k.k c.loop-k.k (omega arith))
