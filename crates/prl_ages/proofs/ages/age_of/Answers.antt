use Rattle.prl_base.proofs.Standard.{◌+◌, ◌*◌, ◌≤◌, ℕ, ap, arith, Fits-of_lt, mul-le-mul_right}
use Rattle.prl_plan.specs.Vocabulary.{task_at}
use Rattle.prl_ages.specs.Ages.{released, due_by}
use Rattle.prl_ages.proofs.Counted.{number_small}
use Rattle.prl_ages.proofs.Falling.{released_rises, due_small}
use Rattle.prl_ages.proofs.ages.age_of.Goals as goal

pub overflow_add-k : goal.overflow_add-k
overflow_add-k c =
    let few = number_small c.args.plan.now.graph c.due_of-due.ensures.plan.graph c.args.a.0 (c.args.k + 1) c.requires.actuator in
    Fits-of_lt (omega (arith, few, c.requires.small, c.jobs_later.ensures.few))

pub released-last-requires-clause-small : goal.released-last-requires-clause-small
released-last-requires-clause-small c =
    omega (arith, c.requires.small, released_rises c.args.plan.now.graph c.due_of-due.ensures.plan.graph c.args.a.0 (c.args.k + c.jobs_later.result) (c.args.k + 1) (omega (arith, c.jobs_later.ensures.few)))

pub overflow_add-result : goal.overflow_add-result
overflow_add-result c =
    let due = due_small c.args.plan.now.graph c.due_of-due.ensures.plan.graph c.args.a.0 c.requires.actuator in
    let last = released_rises c.args.plan.now.graph c.due_of-due.ensures.plan.graph c.args.a.0 (c.args.k + c.jobs_later.result) (c.args.k + 1) (omega (arith, c.jobs_later.ensures.few)) in
    Fits-of_lt (omega (arith, c.due_of-due.ensures.due, due, last, c.released-last.ensures, c.requires.small))

pub overflow_sub-result : goal.overflow_sub-result
overflow_sub-result c =
    let past = released_rises c.args.plan.now.graph c.due_of-due.ensures.plan.graph c.args.a.0 c.args.k (c.args.k + c.jobs_later.result) (omega arith) in
    omega (arith, past, c.released-last.ensures, c.released.ensures, c.requires.early)

pub released-requires-clause-small : goal.released-requires-clause-small
released-requires-clause-small c =
    omega (arith, c.requires.small, c.requires.early, released_rises c.args.plan.now.graph c.due_of-due.ensures.plan.graph c.args.a.0 c.args.k (c.args.k + 1) (omega arith))

pub returns : goal.returns
returns c =
    let later = ap (λ (x : ℕ). due_by c.args.plan.now.graph c.args.a.0 (c.args.k + x)) c.jobs_later.ensures.later in
    omega (arith, later, c.released-last.ensures, c.released.ensures, c.due_of-due.ensures.due)
