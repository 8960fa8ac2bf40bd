use Rattle.std.proofs.Common.{◌∙◌, ap, length, replicate}
use Rattle.prl_causal.proofs.orders.no_marks.Goals as goal

pub returns-clause-placed : goal.returns-clause-placed
returns-clause-placed c = c.in_ok-placed.ensures.items_if_clones_equal (λ y h. h)

pub returns-clause-opened : goal.returns-clause-opened
returns-clause-opened c = c.in_ok-opened.ensures.items_if_clones_equal (λ y h. h)

pub returns-clause-seen : goal.returns-clause-seen
returns-clause-seen c = c.in_ok-seen.ensures.items_if_clones_equal (λ y h. h) ∙ ap (λ n. replicate n 0) (ap length c.apps.ensures.apps)
