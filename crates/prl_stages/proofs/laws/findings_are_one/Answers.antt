use Rattle.prl_stages.proofs.laws.findings_are_one.Goals as goal

pub returns : goal.returns
returns c = record {
  parts = record {
    programs = c.each_text_has_one_outcome.ensures.one;
    bodies = c.each_text_has_one_outcome-2.ensures.one;
    one = c.outcome_is_unique.ensures;
    ranges = c.programs_are_in_range.ensures;
    expansions = c.expansions_are_unique.ensures;
    formed = c.flats_are_well_formed.ensures;
    clocks = c.outcomes_are_unique.ensures;
  };
  plans = record {
    one_graph = c.graphs_end_one_way.ensures.one_graph;
    one_fault = c.graphs_end_one_way.ensures.one_fault;
    not_both = c.graphs_end_one_way.ensures.not_both;
    first = c.words_begin_with_constants.ensures.first;
    one_first = c.words_begin_with_constants.ensures.one;
    narrow = c.faults_tell_of_narrow_chains.ensures.fault;
    room = c.faults_tell_of_narrow_chains.ensures.room;
    best = c.room_leaves_no_narrow_chain.ensures.best;
    dates = c.plan_is_unique.ensures.dates;
  };
  runs = record {
    plan = c.plan_is_unique.ensures.plan;
    one_horizon = c.horizons_end_one_way.ensures.one_horizon;
    horizon_or_limit = c.horizons_end_one_way.ensures.not_both;
    one_limit = c.horizons_end_one_way.ensures.one_limit;
    whole_or_fault = c.replays_end_one_way.ensures.not_both;
    one_fault = c.replays_end_one_way.ensures.one_fault;
    one_spread = c.spreads_are_one.ensures;
  };
}
