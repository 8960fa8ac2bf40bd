use Rattle.std.proofs.Common.{refl, sym, subst}
use Rattle.prl_clock.specs.Vocabulary.{timing_of_rate, IsReducedTiming, Timing}
use Rattle.prl_clock.proofs.Rated.{rate_link, rate_lowest, has_solved, has_refused, consistent, start_past, nonzero_over, over_past, one_past, timed_solved}
use Rattle.prl_clock.proofs.Terms.{if_limit}
use Rattle.prl_clock.proofs.rates.rate_flow.Goals as goal

pub returns-then-has_rate-clause-solved : goal.returns-then-has_rate-clause-solved
returns-then-has_rate-clause-solved c =
    λ cs at solved.
    has_solved cs _ solved c.args.x (timing_of_rate c.args.rate.now) (rate_link c.args.rate.now c.requires.rate) (rate_lowest c.args.rate.now c.requires.rate) at c.at-standing.result (sym c.at-standing.ensures) c.in-Some.known c.in-Some.is (let P : Timing → Type 0 = λ t. IsReducedTiming (timing_of_rate c.args.rate.now) t in subst P c.in-Some.known-is (c.if-has_rate.ensures.yes refl))

pub returns-else-has_rate-clause-refused : goal.returns-else-has_rate-clause-refused
returns-else-has_rate-clause-refused c =
    λ cs at solved.
    has_refused cs _ solved c.args.x (timing_of_rate c.args.rate.now) (rate_link c.args.rate.now c.requires.rate) (rate_lowest c.args.rate.now c.requires.rate) at c.at-standing.result (sym c.at-standing.ensures) c.in-Some.known c.in-Some.is (let P : Timing → Type 0 = λ t. IsReducedTiming (timing_of_rate c.args.rate.now) t → ⊥ in subst P c.in-Some.known-is (c.if-has_rate.ensures.no refl))

pub over-requires : goal.over-requires
over-requires c =
    nonzero_over c.requires.solved.0 _ c.requires.solved.1 c.args.x (timing_of_rate c.args.rate.now) (rate_link c.args.rate.now c.requires.rate) (rate_lowest c.args.rate.now c.requires.rate) 0 c.at-standing.result (sym c.at-standing.ensures) c.in-None.is

pub returns-in_err-clock-in-None-clause-refused : goal.returns-in_err-clock-in-None-clause-refused
returns-in_err-clock-in-None-clause-refused c =
    λ cs at solved.
    if_limit c.from_residual.result _ c.from_residual.ensures.1 (consistent cs _ solved c.args.x (timing_of_rate c.args.rate.now) (rate_link c.args.rate.now c.requires.rate) (rate_lowest c.args.rate.now c.requires.rate) at c.at-standing.result (sym c.at-standing.ensures) c.in-None.is)
    (start_past cs _ solved c.args.x (timing_of_rate c.args.rate.now) (rate_link c.args.rate.now c.requires.rate) (rate_lowest c.args.rate.now c.requires.rate) at c.at-standing.result (sym c.at-standing.ensures) c.in-None.is c.in_err-clock-in-None.ensures.past)

pub returns-in_err-root-in-None-clause-refused : goal.returns-in_err-root-in-None-clause-refused
returns-in_err-root-in-None-clause-refused c =
    λ cs at solved.
    if_limit c.from_residual-in_err-root-in-None.result _ c.from_residual-in_err-root-in-None.ensures.1 (consistent cs _ solved c.args.x (timing_of_rate c.args.rate.now) (rate_link c.args.rate.now c.requires.rate) (rate_lowest c.args.rate.now c.requires.rate) at c.at-standing.result (sym c.at-standing.ensures) c.in-None.is)
    (over_past cs _ solved c.args.x (timing_of_rate c.args.rate.now) (rate_link c.args.rate.now c.requires.rate) (rate_lowest c.args.rate.now c.requires.rate) at c.at-standing.result (sym c.at-standing.ensures) c.in-None.is c.in_ok-clock-in-None.clock c.in_ok-clock-in-None.ensures.timing c.in_err-root-in-None.ensures.past)

pub returns-in_err-time-in-None-clause-refused : goal.returns-in_err-time-in-None-clause-refused
returns-in_err-time-in-None-clause-refused c =
    λ cs at solved.
    if_limit c.from_residual-in_err-time-in-None.result _ c.from_residual-in_err-time-in-None.ensures.1 (consistent cs _ solved c.args.x (timing_of_rate c.args.rate.now) (rate_link c.args.rate.now c.requires.rate) (rate_lowest c.args.rate.now c.requires.rate) at c.at-standing.result (sym c.at-standing.ensures) c.in-None.is)
    (one_past cs _ solved c.args.x (timing_of_rate c.args.rate.now) (rate_link c.args.rate.now c.requires.rate) (rate_lowest c.args.rate.now c.requires.rate) at c.at-standing.result (sym c.at-standing.ensures) c.in-None.is c.in_ok-clock-in-None.clock c.in_ok-clock-in-None.ensures.timing c.in_ok-root-in-None.root c.in_ok-root-in-None.ensures.small c.in_ok-root-in-None.ensures.composed c.in_err-time-in-None.ensures.past)

pub returns-in_ok-time-in-None-clause-solved : goal.returns-in_ok-time-in-None-clause-solved
returns-in_ok-time-in-None-clause-solved c =
    λ cs at solved.
    timed_solved cs _ solved c.args.x (timing_of_rate c.args.rate.now) (rate_link c.args.rate.now c.requires.rate) (rate_lowest c.args.rate.now c.requires.rate) at c.at-standing.result (sym c.at-standing.ensures) c.in-None.is c.in_ok-clock-in-None.clock c.in_ok-clock-in-None.ensures.timing c.in_ok-root-in-None.root c.in_ok-root-in-None.ensures.small c.in_ok-root-in-None.ensures.composed c.time.new.self c.time.ensures.count c.requires.x c.in_ok-time-in-None.ensures.timed
