use Rattle.prl_base.proofs.Standard.{ap, arith}
use Rattle.prl_base.specs.declared.numbers.TaskNo.{TaskNo}
use Rattle.prl_ages.proofs.Counted.{consumer_inside, given_by}
use Rattle.prl_ages.proofs.Lagging.{giver_in, passed_lags, passed_falls, passed_at}
use Rattle.prl_ages.proofs.lags.pass_on.Goals as goal

pub bounds : goal.bounds
bounds c =
    let same = ap (λ (t : TaskNo). t.0) c.consumer_of-to.ensures.to in
    omega (arith, same, consumer_inside c.args.plan.now.graph c.consumer_of-to.ensures.plan.graph c.args.e.0 c.requires.edge, c.requires.are.long)

pub fill-requires : goal.fill-requires
fill-requires c =
    let given = given_by c.args.plan.now.graph c.args.chain.now c.args.e.0 c.giver_of-giver.result c.in-Some-giver.task c.in-Some-giver.is c.giver_of-giver.ensures.giver in
    giver_in c.args.plan.now.graph c.args.chain.now c.consumer_of-to.ensures.plan.graph c.args.a.0 c.args.e.0 c.args.lags.now c.requires.edge c.requires.are c.in-Some-giver.task given.0

pub returns-in-Some-giver-clause-are : goal.returns-in-Some-giver-clause-are
returns-in-Some-giver-clause-are c =
    let given = given_by c.args.plan.now.graph c.args.chain.now c.args.e.0 c.giver_of-giver.result c.in-Some-giver.task c.in-Some-giver.is c.giver_of-giver.ensures.giver in
    passed_lags c.args.plan.now.graph c.args.chain.now c.consumer_of-to.ensures.plan.graph c.args.a.0 c.args.e.0 c.args.lags.now c.requires.edge c.requires.are
    c.in-Some-giver.task given.0 given.1 c.in-Some.lag c.turns_of_constants-turns.result
    (passed_at c.args.plan.now.graph c.args.e.0 c.args.lags.now c.consumer_of-to.result c.in-Some.lag c.consumer_of-to.ensures.to c.in-Some.is)
    c.turns_of_constants-turns.ensures.covers c.turns_of_constants-turns.ensures.few c.fill.new.lags c.fill.result c.fill.ensures.yes c.fill.ensures.no

pub returns-in-Some-giver-clause-falls : goal.returns-in-Some-giver-clause-falls
returns-in-Some-giver-clause-falls c =
    let given = given_by c.args.plan.now.graph c.args.chain.now c.args.e.0 c.giver_of-giver.result c.in-Some-giver.task c.in-Some-giver.is c.giver_of-giver.ensures.giver in
    passed_falls c.args.plan.now.graph c.args.chain.now c.consumer_of-to.ensures.plan.graph c.args.a.0 c.args.e.0 c.args.lags.now c.requires.edge c.requires.are
    c.in-Some-giver.task given.0 given.1 c.in-Some.lag c.turns_of_constants-turns.result
    (passed_at c.args.plan.now.graph c.args.e.0 c.args.lags.now c.consumer_of-to.result c.in-Some.lag c.consumer_of-to.ensures.to c.in-Some.is)
    c.turns_of_constants-turns.ensures.covers c.turns_of_constants-turns.ensures.few c.fill.new.lags c.fill.result c.fill.ensures.yes
