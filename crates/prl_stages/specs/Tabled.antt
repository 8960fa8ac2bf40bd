-- The static cyclic table of a program's plan: the one that is made of it, or that of a text; why there is none; and the text of the made one.
use Rattle.std.specs.Prelude.{◌≡◌, ◌⊎◌, ℕ, List, Option, Some, None, Ok, Err}
use Rattle.prl_plan.specs.declared.graphs.TaskGraph.{TaskGraph}
use Rattle.prl_plan.specs.Jobs.{task_at}
use Rattle.prl_plan.specs.Plans.{PlanView}
use Rattle.prl_tables.specs.declared.reading.TableFault.{TableFault}
use Rattle.prl_tables.specs.declared.reading.TableFault.TheVariants as checking
use Rattle.prl_overlaps.specs.declared.entries.Entry.{Entry}
use Rattle.prl_tables.specs.Checks.{IsFault}
use Rattle.prl_tables.specs.Tables.{IsGood}
use Rattle.prl_tables.specs.TableTexts.{entries_of, text_of as table_text}
use Rattle.prl_table.specs.declared.making.MakeFault.{MakeFault}
use Rattle.prl_table.specs.declared.making.MakeFault.TheVariants as making
use Rattle.prl_table.specs.MakeFaults.{IsMade, IsMakeFault}
use Rattle.prl_stages.specs.declared.faults.InputFile.TheVariants as parts
use Rattle.prl_stages.specs.declared.faults.Fault.{Fault}
use Rattle.prl_stages.specs.declared.faults.Fault.TheVariants as faults
use Rattle.prl_stages.specs.declared.faults.MakeRefusal.{MakeRefusal}
use Rattle.prl_stages.specs.declared.faults.MakeRefusal.TheVariants as bad_making
use Rattle.prl_stages.specs.declared.faults.TableRefusal.{TableRefusal}
use Rattle.prl_stages.specs.declared.faults.TableRefusal.TheVariants as bad_table
use Rattle.prl_stages.specs.Given.{Given, text_of}
use Rattle.prl_stages.specs.Planned.{HasPlan}

-- the table that is made of the plan
pub record HasMadeTable (g : Given) (plan : PlanView) (entries : List Entry) : Type 0 where
  pub has_plan : HasPlan g plan
  pub made : IsMade plan entries

-- a fault of making as a refusal; want of memory is none
abbrev pub make_refusal : MakeFault → Option MakeRefusal
make_refusal (making.TooFar tick) = Some (bad_making.TooFar tick)
make_refusal (making.Limit limit) = Some (bad_making.Limit limit)
make_refusal (making.Overload from to demand) = Some (bad_making.Overload from to demand)
make_refusal (making.Unsteady at first second) = Some (bad_making.Unsteady at)
make_refusal making.Memory = None

abbrev pub RefusesMade : Given → Fault → Type 0
RefusesMade g fault =
    (plan : PlanView) × HasPlan g plan × (cause : MakeFault) × IsMakeFault plan cause × (refusal : MakeRefusal) × (make_refusal cause ≡ Some refusal)
    × (fault ≡ faults.Made refusal)

-- the table that the text tells, a good one of the plan
pub record HasTable (g : Given) (plan : PlanView) (entries : List Entry) : Type 0 where
  pub has_plan : HasPlan g plan
  pub read : entries_of plan.graph.hyper (text_of g parts.Table) ≡ Ok entries
  pub good : IsGood plan entries

-- the text tells no table, or one that is not good
abbrev pub IsTableFault : PlanView → List ℕ → TableFault → Type 0
IsTableFault plan text fault =
    (entries_of plan.graph.hyper text ≡ Err fault) ⊎ ((entries : List Entry) × (entries_of plan.graph.hyper text ≡ Ok entries) × IsFault plan entries fault)

-- a fault of a table as a refusal, which has the name of the task for its number; want of memory is none
abbrev pub table_refusal : TaskGraph → TableFault → Option TableRefusal
table_refusal graph (checking.Syntax line) = Some (bad_table.Syntax line)
table_refusal graph (checking.Piece line) = Some (bad_table.Piece line)
table_refusal graph (checking.Units task job) = Some (bad_table.Units (task_at graph task.0).name job)
table_refusal graph (checking.Clash first second) = Some (bad_table.Clash first second)
table_refusal graph (checking.Order edge job) = Some (bad_table.Order edge job)
table_refusal graph checking.Memory = None

abbrev pub RefusesTable : Given → Fault → Type 0
RefusesTable g fault =
    (plan : PlanView) × HasPlan g plan × (cause : TableFault) × IsTableFault plan (text_of g parts.Table) cause × (refusal : TableRefusal)
    × (table_refusal plan.graph cause ≡ Some refusal) × (fault ≡ faults.Table refusal)

-- the text of the table that is made of the plan, which is a good one
pub record IsTableText (g : Given) (text : List ℕ) : Type 0 where
  pub plan : PlanView
  pub entries : List Entry
  pub made : HasMadeTable g plan entries
  pub good : IsGood plan entries
  pub written : text ≡ table_text plan.graph.hyper entries
