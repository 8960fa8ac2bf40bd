use Rattle.prl_stages.proofs.laws.whole_lists_are_there.Goals as goal

pub returns : goal.returns
returns c = record {
  orders = c.acyclic_programs_have_orders.ensures;
  used = c.used_imports_have_bodies.ensures;
  facts = c.plans_keep_facts.ensures;
  gated = c.legal_list_is_gated.ensures;
  few = c.gated_list_keeps_halves.ensures.counted;
  counted = c.horizon_jobs_are_counted.ensures;
  spread_facts = c.spread_plans_keep_facts.ensures;
  spread_gated = c.spread_list_is_gated.ensures;
  replayed = c.placed_lists_are_replayed.ensures;
  dispatched = c.plans_are_dispatched.ensures.some;
  legal = c.plans_are_dispatched.ensures.legal;
  complete = c.plans_are_dispatched.ensures.complete;
  typed = c.job_values_are_typed.ensures.edges;
  table_gated = c.unrolled_table_is_gated.ensures.gated;
  table_complete = c.unrolled_table_is_gated.ensures.complete;
}
