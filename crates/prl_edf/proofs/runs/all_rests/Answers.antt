use Rattle.prl_base.proofs.Standard.{◌≤◌, Option, None, MatchOption, length, map, vec_items, ap, arith}
use Rattle.prl_plan.specs.Vocabulary.{constants_of, RunConstants}
use Rattle.prl_edf.specs.Vocabulary.{Rest, units_of, IsFresh}
use Rattle.prl_edf.proofs.Grown.{grown_length, each_grown}
use Rattle.prl_edf.proofs.runs.all_rests.Goals as goal

pub loop-i-init : goal.loop-i-init
loop-i-init c = record {
  long = ap length c.new-rests.ensures.items;
  each = λ j below. absurd (omega (arith, below));
}

pub loop-i-preserved : goal.loop-i-preserved
loop-i-preserved c =
    let k : RunConstants = constants_of c.args.plan.now c.args.horizon in
    let items = c.in_ok-push.ensures.items in
    let before = c.loop-i.invariant in
    record {
      long = grown_length c.loop-i.rests.items c.push.new.self.items c.rest_at.result c.loop-i.i items before.long;
      each = each_grown c.loop-i.rests.items c.push.new.self.items c.rest_at.result c.loop-i.i items before.long
          (λ j (rest : Option Rest). MatchOption rest (k.jobs j ≤ 0) (IsFresh k (units_of (map vec_items c.args.units.now)) j 0)) None before.each c.rest_at.ensures;
    }
