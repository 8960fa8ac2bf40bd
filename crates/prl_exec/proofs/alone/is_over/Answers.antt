use Rattle.prl_base.proofs.Standard.{arith, slice_get_within}
use Rattle.prl_board.specs.declared.seats.Place.TheVariants as places
use Rattle.prl_exec.proofs.Rounds.{left_over, one_more_over}
use Rattle.prl_exec.proofs.alone.is_over.Goals as goal

pub returns-in-Idle-clause-no : goal.returns-in-Idle-clause-no
returns-in-Idle-clause-no c =
    let test = c.loop-i-test.true in let end = c.tasks-i-end.ensures in let whole = (c.stands.ensures c.args.board.now.known c.requires.known).tasks in
    left_over c.args.lone.now c.loop-i.i places.Idle (omega (arith, test, end, whole)) c.in-Idle.ensures (λ e. cc e)

pub returns-in-Reading-clause-no : goal.returns-in-Reading-clause-no
returns-in-Reading-clause-no c =
    let test = c.loop-i-test.true in let end = c.tasks-i-end.ensures in let whole = (c.stands.ensures c.args.board.now.known c.requires.known).tasks in
    left_over c.args.lone.now c.loop-i.i (places.Reading c.in-Reading.field-0 c.in-Reading.field-1) (omega (arith, test, end, whole)) c.in-Reading.ensures (λ e. cc e)

pub returns-in-Writing-clause-no : goal.returns-in-Writing-clause-no
returns-in-Writing-clause-no c =
    let test = c.loop-i-test.true in let end = c.tasks-i-end.ensures in let whole = (c.stands.ensures c.args.board.now.known c.requires.known).tasks in
    left_over c.args.lone.now c.loop-i.i (places.Writing c.in-Writing.field-0 c.in-Writing.field-1) (omega (arith, test, end, whole)) c.in-Writing.ensures (λ e. cc e)

pub returns-in-Ending-clause-no : goal.returns-in-Ending-clause-no
returns-in-Ending-clause-no c =
    let test = c.loop-i-test.true in let end = c.tasks-i-end.ensures in let whole = (c.stands.ensures c.args.board.now.known c.requires.known).tasks in
    left_over c.args.lone.now c.loop-i.i places.Ending (omega (arith, test, end, whole)) c.in-Ending.ensures (λ e. cc e)

pub loop-i-preserved : goal.loop-i-preserved
loop-i-preserved c = one_more_over c.args.lone.now.seats c.loop-i.i c.loop-i.invariant c.in-Over.ensures

pub returns-clause-yes : goal.returns-clause-yes
returns-clause-yes c = λ i s has.
    let test = c.loop-i-test.false in let end = c.tasks-i-end.ensures in let whole = (c.stands.ensures c.args.board.now.known c.requires.known).tasks in
    let w = slice_get_within c.args.lone.now.seats i s has in
    c.loop-i.invariant i s (omega (arith, test, end, whole, w)) has
