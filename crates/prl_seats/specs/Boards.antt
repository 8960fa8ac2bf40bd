-- What is seen of a board, and of its words at the end.
use Rattle.std.specs.Prelude.{◌≡◌, ◌+◌, ℕ, List, Option, Some, None}
use mathlib.Core.Option.{some}
use lib.ListN.{get_elem?}
use Rattle.atomic_table.specs.Seated.{TableId}
use Rattle.prl_base.specs.declared.numbers.TaskNo.{TaskNo}
use Rattle.prl_plan.specs.declared.events.Event.{Event}
use Rattle.prl_rule.specs.declared.views.Constants.{Constants}
use Rattle.prl_rule.specs.declared.views.View.{View}
use Rattle.prl_rule.specs.Agreement.{Witness}
use Rattle.prl_rule.specs.Known.{run_of, values_of}
use Rattle.prl_rule.specs.Rule.{AgreesWith}

-- what a board is about, and which table it has
pub record BoardView : Type 0 where
  pub known : Constants
  pub table : TableId

-- what a load of the stop word answers: none where it is 0, else the task that it names
abbrev pub NamesTask : ℕ → Option TaskNo → Type 0
NamesTask word (Some task) = word ≡ task.0 + 1
NamesTask word None = word ≡ 0

-- the words at the end agree with the state that a list of events has led to, and so does this view
abbrev pub IsClosing : Constants → View → List ℕ → Type 0
IsClosing k view words = (w : Witness) × (es : List Event) × (views : List View) × (id : ℕ)
    × AgreesWith k (run_of k) (values_of k) w es words views × (get_elem? views id ≡ some view)
