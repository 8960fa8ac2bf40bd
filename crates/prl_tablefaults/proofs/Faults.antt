-- What is told of a table, from its parts.
use Rattle.std.proofs.Common.{◌≡◌, ◌<◌, ◌^◌, ℕ, List, [], Ok, Err, inl, inr, refl}
use Rattle.prl_plan.specs.Plans.{PlanView, edge_at}
use Rattle.prl_plan.specs.Vocabulary.{ComesFrom, IsSmallOperand, operand_of}
use Rattle.prl_plan.specs.declared.walks.Operand.{Operand}
use Rattle.prl_plan.specs.declared.walks.Operand.TheVariants as operands
use Rattle.prl_overlaps.specs.declared.entries.Entry.{Entry}
use Rattle.prl_tables.specs.declared.reading.TableFault.{TableFault}
use Rattle.prl_tables.specs.Checks.{IsFault}
use Rattle.prl_tables.specs.TableTexts.{entries_of}
use Rattle.prl_tablefaults.specs.FaultTexts.{IsCheckedTold, IsOrderTold, IsTableTold, IsToldOf, order_text, unread_text}

pub order_is : (plan : PlanView) (entries : List Entry) (e c i m : ℕ) (text : List ℕ) → ComesFrom (edge_at plan.graph e).from i
    → operand_of (edge_at plan.graph e) c ≡ operands.From m → text ≡ order_text plan entries e c i m → IsOrderTold plan entries e c text
order_is plan entries e c i m text from reads is = record { i = i; m = m; waits = record { from = from; reads = reads }; is = is }

-- an operand that is a constant, or of a number that fits
pub small_operand : (o : Operand) → ((m : ℕ) → o ≡ operands.From m → m < 2 ^ 63) → IsSmallOperand o
small_operand (operands.Const x) fits = tt
small_operand (operands.From m) fits = fits m refl

pub checked_is : (plan : PlanView) (entries : List Entry) (fault : TableFault) (text : List ℕ) → IsFault plan entries fault → IsToldOf plan entries fault text
    → IsCheckedTold plan entries text
checked_is plan entries fault text is_fault told = inr (record { fault = fault; is_fault = is_fault; told = told })

pub not_told : (plan : PlanView) (entries : List Entry) (text : List ℕ) → text ≡ [] → IsCheckedTold plan entries text
not_told plan entries text is = inl is

pub read_is : (plan : PlanView) (table : List ℕ) (entries : List Entry) (text : List ℕ) → entries_of plan.graph.hyper table ≡ Ok entries → IsCheckedTold plan entries text
    → IsTableTold plan table text
read_is plan table entries text read told = rw read told

pub unread_is : (plan : PlanView) (table : List ℕ) (fault : TableFault) (text : List ℕ) → entries_of plan.graph.hyper table ≡ Err fault
    → text ≡ unread_text plan.graph.hyper fault → IsTableTold plan table text
unread_is plan table fault text read is = rw read is
