-- There are ticks at which the jobs of a run are done by a placing.
use Rattle.prl_base.proofs.Standard.{ℕ, List, [], map, get_or, Option, Some, None, ◌∙◌, ap, arith, range_with_len, get_or-map-range_with_len}
use Rattle.prl_plan.specs.Vocabulary.{RunConstants}
use Rattle.prl_table.specs.Noted.{AreAllNoted}
use Rattle.prl_tables.specs.Vocabulary.{Placing}

module _ (c : RunConstants) (at : Placing) where
  abbrev ticks_of : ℕ → List (Option ℕ)
  ticks_of i = map (λ (n : ℕ). Some (at i n)) (range_with_len 0 (c.jobs i))

  abbrev pub all_ticks : List (List (Option ℕ))
  all_ticks = map ticks_of (range_with_len 0 c.tasks)

  pub all_are_noted : AreAllNoted c at all_ticks
  all_are_noted i n job =
      ap (λ (ticks : List (Option ℕ)). get_or ticks n None) (get_or-map-range_with_len ticks_of 0 c.tasks i i [] job.task (omega arith))
      ∙ get_or-map-range_with_len (λ (m : ℕ). Some (at i m)) 0 (c.jobs i) n n None job.job (omega arith)
