use Rattle.prl_base.proofs.Standard.{arith}
use Rattle.prl_ages.proofs.Counted.{given_by, operand_small, none_settled, read_small, giver_inside, taken_found, taken_room}
use Rattle.prl_ages.proofs.needs.take_edge.Goals as goal

pub last_read-requires-clause-small : goal.last_read-requires-clause-small
last_read-requires-clause-small c =
    operand_small c.args.plan.now.graph c.args.chain.now c.giver_of-giver.ensures.plan.graph c.args.a.0 c.args.k c.args.e.0 c.args.counts.now c.requires.edge c.requires.found c.requires.small

pub raise-requires-clause-task : goal.raise-requires-clause-task
raise-requires-clause-task c =
    let given = given_by c.args.plan.now.graph c.args.chain.now c.args.e.0 c.giver_of-giver.result c.in-Some-giver.task c.in-Some-giver.is c.giver_of-giver.ensures.giver in
    giver_inside c.args.plan.now.graph c.args.chain.now c.giver_of-giver.ensures.plan.graph c.args.a.0 c.args.k c.args.e.0 c.args.counts.now c.requires.edge c.requires.found c.requires.small
    c.in-Some-giver.task given.0

pub raise-requires-clause-small : goal.raise-requires-clause-small
raise-requires-clause-small c =
    omega (
      arith,
      read_small c.args.plan.now.graph c.args.chain.now c.giver_of-giver.ensures.plan.graph c.args.a.0 c.args.k c.args.e.0 c.args.counts.now c.requires.edge c.requires.found c.requires.small
          c.in-Some.j c.in-Some.ensures,
    )

pub returns-in-None-clause-settled : goal.returns-in-None-clause-settled
returns-in-None-clause-settled c = none_settled c.args.plan.now.graph c.args.chain.now c.args.counts.now c.args.e.0 c.in-None.ensures

pub returns-in-Some-giver-clause-found : goal.returns-in-Some-giver-clause-found
returns-in-Some-giver-clause-found c =
    let given = given_by c.args.plan.now.graph c.args.chain.now c.args.e.0 c.giver_of-giver.result c.in-Some-giver.task c.in-Some-giver.is c.giver_of-giver.ensures.giver in
    taken_found c.args.plan.now.graph c.args.chain.now c.giver_of-giver.ensures.plan.graph c.args.a.0 c.args.k c.args.e.0 c.args.counts.now c.requires.edge c.requires.found c.requires.small
    c.in-Some-giver.task given.0 given.1 c.in-Some.j c.in-Some.ensures c.raise.new.counts c.raise.result c.raise.ensures.yes c.raise.ensures.no

pub returns-in-Some-giver-clause-rises : goal.returns-in-Some-giver-clause-rises
returns-in-Some-giver-clause-rises c =
    let given = given_by c.args.plan.now.graph c.args.chain.now c.args.e.0 c.giver_of-giver.result c.in-Some-giver.task c.in-Some-giver.is c.giver_of-giver.ensures.giver in
    taken_room c.args.plan.now.graph c.args.chain.now c.giver_of-giver.ensures.plan.graph c.args.a.0 c.args.k c.args.e.0 c.args.counts.now c.requires.edge c.requires.found c.requires.small
    c.in-Some-giver.task given.0 given.1 c.in-Some.j c.in-Some.ensures c.raise.new.counts c.raise.result c.raise.ensures.yes
