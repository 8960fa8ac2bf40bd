use Rattle.std.proofs.Common.{◌∙◌, sym, subst, arith, inr}
use Rattle.prl_rule.specs.Known.{run_of}
use Rattle.prl_rule.specs.declared.views.ClockPart.{ClockPart}
use Rattle.prl_board.specs.Lones.{LoneView}
use Rattle.prl_exec.specs.Standing.{HasSeenDue, StandsIn}
use Rattle.prl_exec.proofs.alone.look_due.Goals as goal

pub returns-then-is_ahead-clause-told : goal.returns-then-is_ahead-clause-told
returns-then-is_ahead-clause-told g c = λ r list stands.
    (r, stands, (λ i seat inside has. inr (c.if-is_ahead.ensures c.args.board.now.known r c.requires.lone.known stands.clock i)))

pub loop-i-preserved : goal.loop-i-preserved
loop-i-preserved g c =
    let steps = c.loop-i.invariant.steps in let one = c.look_at.ensures.steps in
    record {
      lone = c.look_at.ensures.lone;
      seats = c.look_at.ensures.seats ∙ c.loop-i.invariant.seats;
      steps = omega (arith, steps, one);
      told = λ r list stands.
          let so_far = c.loop-i.invariant.told r list stands in
          c.look_at.ensures.told so_far.0 list so_far.1 so_far.2;
    }

pub returns-clause-told : goal.returns-clause-told
returns-clause-told g c = λ r list stands.
    let test = c.loop-i-test.false in let end = c.tasks-i-end.ensures in
    let so_far = c.loop-i.invariant.told r list stands in
    subst (λ (l : LoneView). (q : ClockPart) × StandsIn (run_of c.args.board.now.known) l q list × HasSeenDue c.args.board.now.known l q (run_of c.args.board.now.known).tasks) (sym c.note_due.ensures)
    (so_far.0, so_far.1, (λ i seat inside has. so_far.2 i seat (omega (arith, test, end, inside)) has))
