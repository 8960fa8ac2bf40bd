use Rattle.prl_base.proofs.Standard.{◌≡◌, ◌<◌, length, sym, ap, subst, ◌∙◌, vec_items, Some, slice_get}
use Rattle.prl_base.specs.declared.numbers.TaskNo.{TaskNo}
use Rattle.prl_rule.specs.declared.views.View.{View}
use Rattle.prl_board.specs.Vocabulary.{ClosedView, IsMachineOf, IsNodeTask}
use Rattle.prl_seats.specs.JobSeats.{JobSeatView}
use Rattle.prl_board.proofs.Lists.{read_there}
use Rattle.prl_board.proofs.ClosedBoards.{left_of}
use Rattle.prl_board.proofs.closing.Closed.machine.Goals as goal

pub machine-requires : goal.machine-requires
machine-requires c =
    let k = c.requires.node.0 in
    let inside : c.args.task.0 < length (vec_items c.self.inside.seats) = subst (λ (d : ClosedView). c.args.task.0 < length d.seats) (sym c.self.view_is) c.requires.task in
    let there = read_there (vec_items c.self.inside.seats) c.args.task.0 c.index.result.now inside c.index.ensures in
    let left = left_of c.self.invariant.2 (ap (λ (d : ClosedView). d.constants) c.self.view_is ∙ c.requires.node.1) in
    let task : c.index.result.now.task.0 ≡ c.args.task.0 = ap (λ (t : TaskNo). t.0) (left.closed.each c.args.task.0 c.index.result.now there).0 in
    (k, ap (λ (v : View). v.constants) (left.lent c.args.task.0 c.index.result.now there), subst (IsNodeTask k) (sym task) c.requires.node.2)

pub returns : goal.returns
returns c = λ k s known has.
    let inside : c.args.task.0 < length (vec_items c.self.inside.seats) = subst (λ (d : ClosedView). c.args.task.0 < length d.seats) (sym c.self.view_is) c.requires.task in
    let there = read_there (vec_items c.self.inside.seats) c.args.task.0 c.index.result.now inside c.index.ensures in
    let left = left_of c.self.invariant.2 (ap (λ (d : ClosedView). d.constants) c.self.view_is ∙ known) in
    let seat : c.index.result.now ≡ s = (let e : Some c.index.result.now ≡ Some s = sym there ∙ (ap (λ (d : ClosedView). slice_get d.seats c.args.task.0) c.self.view_is ∙ has) in cc e) in
    subst (λ (x : JobSeatView). IsMachineOf k x c.machine.result.now) seat (c.machine.ensures k (ap (λ (v : View). v.constants) (left.lent c.args.task.0 c.index.result.now there)))
