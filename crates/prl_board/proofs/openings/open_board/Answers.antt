use Rattle.std.proofs.Common.{◌≡◌, sym, ap, subst}
use Rattle.prl_rule.specs.Vocabulary.{known, all_parts}
use Rattle.prl_rule.specs.declared.views.Constants.{Constants}
use Rattle.prl_rule.specs.declared.views.View.{View}
use Rattle.prl_board.specs.Openings.{AreLeft}
use Rattle.prl_board.proofs.Opened.{all_left}
use Rattle.prl_board.proofs.openings.open_board.Goals as goal

pub task_seats-requires-clause-parts : goal.task_seats-requires-clause-parts
task_seats-requires-clause-parts c =
    let own : c.in_ok-board.board.known ≡ known c.args.plan.now c.args.horizon c.args.gate c.args.sensors.now c.args.bodies.now = c.in_ok-board.ensures.0 in
    subst (λ (v : View). AreLeft c.in_ok-board.board.known 0 v) (sym (ap (λ m. m.0) c.in_ok-board.ensures.2))
    (subst (λ (k : Constants). AreLeft k 0 (all_parts (known c.args.plan.now c.args.horizon c.args.gate c.args.sensors.now c.args.bodies.now))) (sym own)
    (all_left (known c.args.plan.now c.args.horizon c.args.gate c.args.sensors.now c.args.bodies.now)))
