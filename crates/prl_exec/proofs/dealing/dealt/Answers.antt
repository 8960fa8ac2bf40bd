use Rattle.std.proofs.Common.{arith}
use Rattle.prl_exec.proofs.dealing.dealt.Goals as goal

pub returns-clause-own : goal.returns-clause-own
returns-clause-own c = λ b seats.
    let held = c.in_ok-own.ensures.held b seats in let tasks = seats.tasks in
    (c.in_ok-hands.ensures.held b held, (λ i inside zero_. c.in_ok-hands.ensures.left i zero_ (c.in_ok-own.ensures.all i (omega (arith, inside, tasks)))))

pub returns-clause-hands : goal.returns-clause-hands
returns-clause-hands c = λ b seats.
    let tasks = seats.tasks in
    c.in_ok-hands.ensures.dealt b (c.in_ok-own.ensures.held b seats) (λ i inside. c.in_ok-own.ensures.all i (omega (arith, inside, tasks)))
