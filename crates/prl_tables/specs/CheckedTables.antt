-- What is seen of a table that was checked.
use Rattle.std.specs.Prelude.{List}
use Rattle.prl_plan.specs.Plans.{PlanView}
use Rattle.prl_overlaps.specs.declared.entries.Entry.{Entry}

-- its plan and its entries
pub record CheckedView : Type 0 where
  pub plan : PlanView
  pub entries : List Entry
