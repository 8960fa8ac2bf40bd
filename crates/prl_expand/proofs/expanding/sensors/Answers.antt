use Rattle.prl_base.proofs.Standard.{[], ◌∷◌, ◌++◌, ◌∙◌, ap, map, sym, map-append}
use Rattle.prl_flow.specs.declared.programs.Def.TheVariants as definitions
use Rattle.prl_expand.specs.code.Variables.{def_of}
use Rattle.prl_expand.proofs.Whole.{sensors_more}
use Rattle.prl_expand.proofs.expanding.sensors.Goals as goal

pub loop-k-preserved : goal.loop-k-preserved
loop-k-preserved c =
    ap (map def_of) c.in_ok-push.ensures.items ∙ map-append def_of c.loop-k.defs.items _ ∙ ap (λ xs. xs ++ definitions.Sensor c.loop-k.k ∷ []) c.loop-k.invariant ∙ sym (sensors_more c.loop-k.k)
