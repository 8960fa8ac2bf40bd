use Rattle.prl_base.proofs.Standard.{length, refl, sym, ◌∙◌, ap, subst, with_item, slice_get_read}
use Rattle.prl_values.specs.Vocabulary.{Work, outs_of, CanRun, RunsTo}
use Rattle.prl_values.specs.declared.workers.Work.TheVariants as works
use Rattle.prl_values.proofs.workers.Worker.run.Goals as goal

pub returns-in-Actuator : goal.returns-in-Actuator
returns-in-Actuator c =
    let can : CanRun c.args.sensors.now c.args.bodies.now c.args.job c.args.self.now.operands.items c.args.self.now.outputs.items (works.Actuator c.in-Actuator.column) =
    subst (λ (w : Work). CanRun c.args.sensors.now c.args.bodies.now c.args.job c.args.self.now.operands.items c.args.self.now.outputs.items w) c.in-Actuator.is c.requires.1 in
    record {
      ran = refl;
      taken = refl;
      runs = subst (λ (w : Work). RunsTo c.args.sensors.now c.args.bodies.now c.args.job c.args.self.now.operands.items c.args.self.now.outputs.items w
          (works.Actuator (with_item c.in-Actuator.column c.args.job c.index.result.now))) (sym c.in-Actuator.is) (
            with_item c.in-Actuator.column c.args.job c.index.result.now,
            c.index.result.now,
            slice_get_read c.args.self.now.operands.items (length c.args.self.now.operands.items) 0 c.index.result.now refl can.1 c.index.ensures,
            refl,
            refl,
            c.requires.0 ∙ ap (outs_of c.args.bodies.now) c.in-Actuator.is,
          );
    }
