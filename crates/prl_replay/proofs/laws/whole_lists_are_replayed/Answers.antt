use Rattle.prl_plan.specs.Horizons.{alone}
use Rattle.prl_replay.proofs.laws.whole_lists_are_replayed.Goals as goal

pub returns : goal.returns
returns c = λ plan bodies rows horizon is_plan is_horizon have_bodies have_rows list legal complete.
    c.placed_lists_are_replayed.ensures plan (alone plan) bodies rows horizon is_plan is_horizon (c.plans_keep_facts.ensures plan horizon is_plan is_horizon) have_bodies have_rows list legal complete
