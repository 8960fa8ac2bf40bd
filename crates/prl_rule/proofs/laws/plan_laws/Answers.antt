use Rattle.prl_rule.proofs.laws.plan_laws.Goals as goal

pub returns : goal.returns
returns c = record {
  state = c.run_of_two_lists.ensures.state;
  gated = c.run_of_two_lists.ensures.gated;
  free = c.run_of_two_lists.ensures.free;
  tagged = c.free_events_keep_tags.ensures.list;
  written = c.tag_is_of_the_latest_instance.ensures.written;
  left = c.free_list_leaves_tags.ensures;
  kept = c.gated_list_keeps_halves.ensures.kept;
  held = c.gated_list_keeps_halves.ensures.halves;
  replaced = c.replaced_instance_is_over.ensures;
}
