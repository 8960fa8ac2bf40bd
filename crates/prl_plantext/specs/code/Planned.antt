-- Graphs that no plan has.
use Rattle.std.specs.Prelude.{◌≡◌, ℕ, List}
use Rattle.prl_buffers.specs.declared.tables.CellFault.{CellFault}
use Rattle.prl_buffers.specs.declared.tables.CellFault.TheVariants as cell_faults
use Rattle.prl_dates.specs.declared.faults.DateFault.{DateFault}
use Rattle.prl_dates.specs.declared.faults.DateFault.TheVariants as date_faults
use Rattle.prl_plan.specs.Plans.{PlanView, IsPlan}
use Rattle.prl_plan.specs.declared.graphs.TaskGraph.{TaskGraph}
use Rattle.prl_plantext.specs.PlanTexts.{plan_text}
use Rattle.prl_plantext.specs.declared.plans.PlanFault.{PlanFault}
use Rattle.prl_plantext.specs.declared.plans.PlanFault.TheVariants as faults
use Rattle.prl_words.specs.declared.graphs.WordFault.{WordFault}
use Rattle.prl_words.specs.declared.graphs.WordFault.TheVariants as word_faults

-- the graph is that of no plan; want of memory is free
abbrev pub IsGraphFault : TaskGraph → PlanFault → Type 0
IsGraphFault graph faults.NotPlan = (plan : PlanView) → IsPlan plan → plan.graph ≡ graph → ⊥
IsGraphFault graph faults.Memory = Unit {0}

-- the text is not this plan's; want of memory is free
abbrev pub IsOtherText : PlanView → List ℕ → PlanFault → Type 0
IsOtherText plan text faults.NotPlan = plan_text plan ≡ text → ⊥
IsOtherText plan text faults.Memory = Unit {0}

abbrev pub of_words : WordFault → PlanFault
of_words (word_faults.Limit limit) = faults.NotPlan
of_words word_faults.Memory = faults.Memory

abbrev pub of_dates : DateFault → PlanFault
of_dates (date_faults.Narrow task job needs has) = faults.NotPlan
of_dates (date_faults.Loop task job) = faults.NotPlan
of_dates date_faults.Memory = faults.Memory

abbrev pub of_cells : CellFault → PlanFault
of_cells (cell_faults.Limit limit) = faults.NotPlan
of_cells cell_faults.Memory = faults.Memory
