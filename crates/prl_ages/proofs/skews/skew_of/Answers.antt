use Rattle.prl_base.proofs.Standard.{◌≡◌, ◌+◌, ◌*◌, ℕ, Option, None, Some, ap, arith, subst}
use Rattle.prl_ages.specs.Reaching.{jobs_of}
use Rattle.prl_ages.specs.code.Farther.{IsGreatestBelow}
use Rattle.prl_ages.specs.declared.skews.Skew.{Skew}
use Rattle.prl_ages.proofs.Falling.{within_small}
use Rattle.prl_ages.proofs.GreatestSkews.{greatest_is, never_meet}
use Rattle.prl_ages.proofs.skews.skew_of.Goals as goal

pub greatest_below-requires-clause-small : goal.greatest_below-requires-clause-small
greatest_below-requires-clause-small c =
    let turns = c.in_ok-jobs.field-0 in
    let per = c.jobs_of.result in
    let split : (c.in_ok-jobs.field-0 + 1) * c.jobs_of.result ≡ c.in_ok-jobs.field-0 * c.jobs_of.result + c.jobs_of.result = omega arith in
    within_small c.args.plan.now.graph c.graph-graph.ensures.plan.graph c.args.a.0 c.requires.actuator turns per ((c.in_ok-jobs.field-0 + 1) * c.jobs_of.result) c.in_ok-jobs.ensures.few c.jobs_of.ensures.jobs
    (omega (arith, split))

pub returns-in-None : goal.returns-in-None
returns-in-None c =
    let graph = c.args.plan.now.graph in
    let turns = c.in_ok-jobs.field-0 in
    let below : IsGreatestBelow c.args.plan.now.graph c.args.s.0 c.args.r.0 c.args.a.0 ((c.in_ok-jobs.field-0 + 1) * jobs_of c.args.plan.now.graph c.args.a.0) None =
    subst (λ (x : ℕ). IsGreatestBelow c.args.plan.now.graph c.args.s.0 c.args.r.0 c.args.a.0 ((c.in_ok-jobs.field-0 + 1) * x) None) c.jobs_of.ensures.jobs
    (subst (λ (x : Option Skew). IsGreatestBelow c.args.plan.now.graph c.args.s.0 c.args.r.0 c.args.a.0 ((c.in_ok-jobs.field-0 + 1) * c.jobs_of.result) x) c.in-None.is c.in_ok-greatest_below.ensures) in
    never_meet graph c.graph-graph.ensures.plan.graph c.args.s.0 c.args.r.0 c.args.a.0 turns c.requires.first c.requires.second c.requires.actuator c.in_ok-jobs.ensures.settled below

pub returns-in-Some : goal.returns-in-Some
returns-in-Some c =
    let graph = c.args.plan.now.graph in
    let turns = c.in_ok-jobs.field-0 in
    let below : IsGreatestBelow c.args.plan.now.graph c.args.s.0 c.args.r.0 c.args.a.0 ((c.in_ok-jobs.field-0 + 1) * jobs_of c.args.plan.now.graph c.args.a.0) (Some c.in-Some.skew) =
    subst (λ (x : ℕ). IsGreatestBelow c.args.plan.now.graph c.args.s.0 c.args.r.0 c.args.a.0 ((c.in_ok-jobs.field-0 + 1) * x) (Some c.in-Some.skew)) c.jobs_of.ensures.jobs
    (subst (λ (x : Option Skew). IsGreatestBelow c.args.plan.now.graph c.args.s.0 c.args.r.0 c.args.a.0 ((c.in_ok-jobs.field-0 + 1) * c.jobs_of.result) x) c.in-Some.is c.in_ok-greatest_below.ensures) in
    greatest_is graph c.graph-graph.ensures.plan.graph c.args.s.0 c.args.r.0 c.args.a.0 turns c.requires.first c.requires.second c.requires.actuator c.in_ok-jobs.ensures.settled c.in-Some.skew below
