-- Behaviours of a program, up to a date.
use Rattle.std.specs.Prelude.{ℕ, List}
use Rattle.std.specs.List.{AllByRecursion}
use Rattle.prl_base.specs.declared.values.Value.{Value}
use Rattle.prl_ast.specs.Trees.{ProgramTree}
use Rattle.prl_body.specs.declared.bodies.CheckedBody.{CheckedBody}
use Rattle.prl_flow.specs.Rows.{Rows}
use Rattle.prl_flow.specs.States.{Timed, State, IsTimed, Holds, flow_at, registers_at}
use Rattle.prl_causal.specs.Annotations.{Entered, flows_in, imports_in, mark_entered}
use Rattle.prl_causal.specs.Asked.{program_rules}
use Rattle.prl_causal.specs.Texts.{IsText}

-- A tree of nodes, whose root is main: at each place of a node's text that makes a flow this flow, at each application of
-- an import its registers before each date and after the last, and at each application of a node that node's own tree.
abbrev pub Behaviour : Type 0
Behaviour = Entered Timed (List (List Value)) (Unit {0})

-- the behaviour satisfies the program for these bodies and sensor rows: it is one of its text, its flows are flows up to
-- the date, and all that the text asks holds
pub record Satisfies (p : ProgramTree) (main : ℕ) (bodies : List CheckedBody) (rows : Rows) (until : ℕ) (b : Behaviour) : Type 0 where
  pub text : IsText p main b
  pub timed : AllByRecursion (IsTimed until) (flows_in b)
  pub rules : AllByRecursion (Holds bodies rows until) (program_rules p main b)

-- its flows and registers, in the order in which they are made
abbrev pub state_in : Behaviour → State
state_in b = record { flows = flows_in b; registers = imports_in b }

-- the text with the flows and registers of these numbers at its places
abbrev pub behaviour_of : State → Entered ℕ ℕ ℕ → Behaviour
behaviour_of s e = mark_entered (flow_at s) (registers_at s) (λ k. tt {0}) e
