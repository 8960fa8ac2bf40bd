use Rattle.std.proofs.Common.{ℕ, map, vec_items, arith}
use Rattle.prl_plan.specs.Vocabulary.{constants_of, RunConstants}
use Rattle.prl_edf.specs.Vocabulary.{run_of, units_of}
use Rattle.prl_edf.proofs.Going.{kept_first}
use Rattle.prl_edf.proofs.Making.{had_well, first_chosen, some_time, works}
use Rattle.prl_edf.proofs.runs.go_on.Goals as goal

pub returns : goal.returns
returns c =
    let k : RunConstants = constants_of c.args.plan.now c.args.horizon in
    let u : ℕ → ℕ → ℕ = units_of (map vec_items c.args.units.now) in
    let facts = c.plan_facts.ensures in
    let first = first_chosen k facts u c.args.pieces.now.items c.args.now c.args.rests.now.items c.requires.making c.args.best c.requires.best c.args.ready c.requires.ready in
    let kept = kept_first k facts u (run_of c.args.pieces.now.items) c.args.now c.args.rests.now.items c.requires.making.going c.args.best c.requires.best c.args.ready first in
    let time = some_time k facts u c.args.pieces.now.items c.args.now c.args.rests.now.items c.requires.making c.args.best c.requires.best c.args.ready c.requires.ready c.requires.early in
    let had = had_well c.args.now c.args.ready.rest.deadline c.args.best.next c.args.ready.rest.units c.min-limit.result c.min-had.result
    c.min-limit.ensures c.min-had.ensures c.requires.early time kept.some in
    record {
      making = works k facts u c.args.pieces.now.items c.args.now c.args.rests.now.items c.requires.making c.args.best c.requires.best c.args.ready c.requires.ready
          c.min-had.result had.some had.in_next had.in_window had.no_more c.give.new.pieces.items c.in_ok-give.ensures.run c.in_ok-give.ensures.longest c.in_ok-give.ensures.after
          c.rest_after.result c.rest_after.ensures;
      later = (let some = had.some in omega (arith, some));
    }
