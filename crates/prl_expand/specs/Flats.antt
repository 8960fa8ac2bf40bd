-- The flat program of an expansion. Each list of flows has the flows with their numbers, in the order in which they are made.
use Rattle.std.specs.Prelude.{ℕ, ◌+◌, List, [], ◌∷◌, ◌++◌, map, reverse, decimal, Option, Some, None, slice_get, slice_index_or, if◌then◌else◌}
use Rattle.std.specs.Str.{bytes_eq}
use Rattle.prl_base.specs.Values.{type_of}
use Rattle.prl_base.specs.declared.numbers.FlowNo.{FlowNo}
use Rattle.prl_base.specs.declared.places.Span.{Span}
use Rattle.prl_base.specs.declared.values.Ty.{Ty}
use Rattle.prl_base.specs.declared.values.Ty.TheVariants as kinds
use Rattle.prl_ast.specs.declared.declarations.Device.{Device}
use Rattle.prl_ast.specs.declared.declarations.Import.{Import}
use Rattle.prl_ast.specs.declared.declarations.Param.{Param}
use Rattle.prl_ast.specs.declared.declarations.Placed.{Placed}
use Rattle.prl_ast.specs.declared.declarations.Port.{Port}
use Rattle.prl_ast.specs.declared.expressions.PlacedOp.{PlacedOp}
use Rattle.prl_ast.specs.Trees.{Tree, tree, Root, const, var, apply, group, Trees, none, more, EquationTree, NodeTree, ProgramTree}
use Rattle.prl_flow.specs.declared.programs.App.{App}
use Rattle.prl_flow.specs.declared.programs.Arg.{Arg}
use Rattle.prl_flow.specs.declared.programs.Def.{Def}
use Rattle.prl_flow.specs.declared.programs.Def.TheVariants as definitions
use Rattle.prl_flow.specs.declared.programs.Flow.{Flow}
use Rattle.prl_flow.specs.Programs.{FlatProgram}
use Rattle.prl_flow.specs.Programs as flats
use Rattle.prl_names.specs.declared.lookups.Callee.{Callee}
use Rattle.prl_names.specs.declared.lookups.Callee.TheVariants as callees
use Rattle.prl_names.specs.Lookups.{callee_of, params_of}
use Rattle.prl_terms.specs.declared.terms.Term.{Term}
use Rattle.prl_terms.specs.declared.terms.Term.TheVariants as terms
use Rattle.prl_types.specs.Flows.{operand, root_flows}
use Rattle.prl_types.specs.Parameters.{first_of}
use Rattle.prl_causal.specs.Annotations.{Entered, entered, Rights, done, next, Part, part, Core, Parts}
use Rattle.prl_causal.specs.Annotations as notes
use Rattle.prl_causal.specs.Asked.{inputs_of, outputs_of, last_of, root_args, root_name, given, root_given, all_given}
use Rattle.prl_causal.specs.Texts.{node_at, node_of}
use Rattle.prl_expand.specs.Expansions.{Expansion}

-- a flow with its number
abbrev pub Numbered : Type 0
Numbered = ℕ × Flow

abbrev pub flow_no : ℕ → FlowNo
flow_no i = record { 0 = i }

abbrev pub copy_of : ℕ → Def
copy_of i = definitions.Copy (flow_no i)

-- the types of a program's variables, in the order of their declaration
abbrev pub Types : Type 0
Types = List Ty

abbrev pub type_at : Types → ℕ → Ty
type_at tys k = slice_index_or tys k kinds.Int

-- the type that a term stands for
abbrev pub resolved : Types → Term → Ty
resolved tys (terms.Known ty) = ty
resolved tys (terms.Parameter k) = type_at tys k

-- the label of a flow without a name: `$` and its number
abbrev pub made_label : ℕ → List ℕ
made_label i = 36 ∷ decimal i

-- of the node that is entered as the k-th: its name, `#`, k and `.`
abbrev pub label_of_node : List ℕ → ℕ → List ℕ
label_of_node name k = name ++ (35 ∷ (decimal k ++ 46 ∷ []))

-- a flow without a name
abbrev pub made_flow : ℕ → Ty → Def → Span → Numbered
made_flow i ty def at = (i, record { label = made_label i; ty = ty; def = def; rate = None; due = None; at = at })

-- the flow of a variable, whose label begins so
abbrev pub variable_flow : List ℕ → ℕ → Param → Ty → Def → Numbered
variable_flow label i q ty def = (i, record { label = label ++ q.name; ty = ty; def = def; rate = q.rate; due = q.due; at = q.at })

-- of these variables, the first of which has the type of this number
abbrev pub variable_flows : List ℕ → Types → ℕ → List Param → List ℕ → List Def → List Numbered
variable_flows label tys k [] is ds = []
variable_flows label tys k (q ∷ qs) [] ds = []
variable_flows label tys k (q ∷ qs) (i ∷ is) [] = []
variable_flows label tys k (q ∷ qs) (i ∷ is) (d ∷ ds) = variable_flow label i q (type_at tys k) d ∷ variable_flows label tys (k + 1) qs is ds

-- the flows that left names are given, one by one
abbrev pub paired : List Placed → List ℕ → List (List ℕ × ℕ)
paired [] gs = []
paired (l ∷ ls) [] = []
paired (l ∷ ls) (g ∷ gs) = (l.name, g) ∷ paired ls gs

abbrev pub equated : NodeTree → List ℕ → List EquationTree → Rights ℕ ℕ ℕ → List (List ℕ × ℕ)
equated n env es done = []
equated n env [] (next q rest) = []
equated n env (e ∷ es) (next q rest) = paired e.lefts (given n env e.right q) ++ equated n env es rest

-- the flow that the name is given; each output and each local is given one
abbrev pub source_of : List (List ℕ × ℕ) → List ℕ → ℕ
source_of [] name = 0
source_of (s ∷ ss) name = if bytes_eq s.0 name then s.1 else source_of ss name

abbrev pub copies : List (List ℕ × ℕ) → List Param → List Def
copies sources qs = map (λ (q : Param). copy_of (source_of sources q.name)) qs

-- operators, the innermost first, over the flow of a list of one
abbrev pub operator_flows : Ty → List PlacedOp → List ℕ → List ℕ → List Numbered
operator_flows ty [] is of = []
operator_flows ty (o ∷ os) [] of = []
operator_flows ty (o ∷ os) (i ∷ is) [] = []
operator_flows ty (o ∷ os) (i ∷ is) (x ∷ xs) = made_flow i ty (definitions.Op o.op (flow_no x)) o.at ∷ operator_flows ty os is (i ∷ [])

-- the outputs of an application, counted from `out`
abbrev pub output_flows : ℕ → ℕ → Span → List Port → List ℕ → List Numbered
output_flows app out at [] is = []
output_flows app out at (q ∷ qs) [] = []
output_flows app out at (q ∷ qs) (i ∷ is) = made_flow i q.ty (definitions.Apply app out) at ∷ output_flows app (out + 1) at qs is

abbrev pub import_at : ProgramTree → Option Callee → Option Import
import_at p None = None
import_at p (Some (callees.Node k)) = None
import_at p (Some (callees.Import k)) = slice_get p.imports k

abbrev pub ports_of : Option Import → List Port
ports_of None = []
ports_of (Some i) = i.outs

abbrev pub wcet_of : Option Import → ℕ
wcet_of None = 0
wcet_of (Some i) = i.wcet

abbrev pub root_place : Root → Span → Span
root_place (const v) place = place
root_place (var name) place = place
root_place (apply name at args) place = at
root_place (group parts) place = place

abbrev pub constant_flows : Root → ℕ → Span → List Numbered
constant_flows (const v) i at = made_flow i (type_of v) (definitions.Const v) at ∷ []
constant_flows (var name) i at = []
constant_flows (apply name place args) i at = []
constant_flows (group parts) i at = []

abbrev mutual
  -- of the node of this number, whose labels begin so, and whose inputs are defined so
  pub entered_flows : ProgramTree → Types → List ℕ → ℕ → List Def → Entered ℕ ℕ ℕ → List Numbered
  entered_flows p tys label k sources (entered ins outs locals rights) =
      variable_flows label tys (first_of p k) (params_of (node_at p k)) ((ins ++ outs) ++ locals)
      (sources ++ copies (equated (node_at p k) ((ins ++ outs) ++ locals) (node_at p k).eqs rights) ((node_at p k).outs ++ (node_at p k).locals))
      ++ right_flows p tys k (node_at p k) ((ins ++ outs) ++ locals) (node_at p k).eqs rights

  pub right_flows : ProgramTree → Types → ℕ → NodeTree → List ℕ → List EquationTree → Rights ℕ ℕ ℕ → List Numbered
  right_flows p tys k n env es done = []
  right_flows p tys k n env [] (next q rest) = []
  right_flows p tys k n env (e ∷ es) (next q rest) = part_flows p tys k n env e.right q ++ right_flows p tys k n env es rest

  pub part_flows : ProgramTree → Types → ℕ → NodeTree → List ℕ → Tree → Part ℕ ℕ ℕ → List Numbered
  part_flows p tys k n env (tree pre root post at) (part pres core posts) =
      root_flows_of p tys k n env root at core
      ++ (operator_flows (resolved tys (operand (root_flows p k root))) post posts (root_given n env root core)
      ++ operator_flows (resolved tys (operand (root_flows p k root))) (reverse pre) (reverse pres) (last_of (root_given n env root core) posts))

  pub root_flows_of : ProgramTree → Types → ℕ → NodeTree → List ℕ → Root → Span → Core ℕ ℕ ℕ → List Numbered
  root_flows_of p tys k n env root at (notes.constant i) = constant_flows root i at
  root_flows_of p tys k n env root at notes.name = []
  root_flows_of p tys k n env root at (notes.import args app outs) =
      all_flows p tys k n env (root_args root) args
      ++ output_flows app 0 (root_place root at) (ports_of (import_at p (callee_of p (root_name root)))) outs
  root_flows_of p tys k n env root at (notes.node args x child) =
      all_flows p tys k n env (root_args root) args
      ++ entered_flows p tys (label_of_node (root_name root) x) (node_of (callee_of p (root_name root)))
      (map copy_of (all_given n env (root_args root) args)) child
  root_flows_of p tys k n env root at (notes.group parts) = all_flows p tys k n env (root_args root) parts

  pub all_flows : ProgramTree → Types → ℕ → NodeTree → List ℕ → Trees → Parts ℕ ℕ ℕ → List Numbered
  all_flows p tys k n env ts notes.none = []
  all_flows p tys k n env none (notes.more q rest) = []
  all_flows p tys k n env (more t ts) (notes.more q rest) = part_flows p tys k n env t q ++ all_flows p tys k n env ts rest

-- an expression's flows as arguments, each where the expression begins
abbrev pub placed : Tree → List ℕ → List Arg
placed (tree pre root post at) is = map (λ i. record { flow = flow_no i; at = at }) is

abbrev pub arguments : NodeTree → List ℕ → Trees → Parts ℕ ℕ ℕ → List Arg
arguments n env ts notes.none = []
arguments n env none (notes.more q rest) = []
arguments n env (more t ts) (notes.more q rest) = placed t (given n env t q) ++ arguments n env ts rest

-- the applications of imports
abbrev mutual
  pub entered_apps : ProgramTree → ℕ → Entered ℕ ℕ ℕ → List App
  entered_apps p k (entered ins outs locals rights) = right_apps p (node_at p k) ((ins ++ outs) ++ locals) (node_at p k).eqs rights

  pub right_apps : ProgramTree → NodeTree → List ℕ → List EquationTree → Rights ℕ ℕ ℕ → List App
  right_apps p n env es done = []
  right_apps p n env [] (next q rest) = []
  right_apps p n env (e ∷ es) (next q rest) = part_apps p n env e.right q ++ right_apps p n env es rest

  pub part_apps : ProgramTree → NodeTree → List ℕ → Tree → Part ℕ ℕ ℕ → List App
  part_apps p n env (tree pre root post at) (part pres core posts) = root_apps p n env root at core

  pub root_apps : ProgramTree → NodeTree → List ℕ → Root → Span → Core ℕ ℕ ℕ → List App
  root_apps p n env root at (notes.constant i) = []
  root_apps p n env root at notes.name = []
  root_apps p n env root at (notes.import args app outs) =
      all_apps p n env (root_args root) args
      ++ record {
        name = root_name root;
        wcet = wcet_of (import_at p (callee_of p (root_name root)));
        args = arguments n env (root_args root) args;
        outs = map flow_no outs;
        at = root_place root at;
      } ∷ []
  root_apps p n env root at (notes.node args x child) =
      all_apps p n env (root_args root) args ++ entered_apps p (node_of (callee_of p (root_name root))) child
  root_apps p n env root at (notes.group parts) = all_apps p n env (root_args root) parts

  pub all_apps : ProgramTree → NodeTree → List ℕ → Trees → Parts ℕ ℕ ℕ → List App
  all_apps p n env ts notes.none = []
  all_apps p n env none (notes.more q rest) = []
  all_apps p n env (more t ts) (notes.more q rest) = part_apps p n env t q ++ all_apps p n env ts rest

-- main's inputs are the sensors', counted from k
abbrev pub sensors_from : ℕ → List ℕ → List Def
sensors_from k [] = []
sensors_from k (i ∷ is) = definitions.Sensor k ∷ sensors_from (k + 1) is

-- the WCET of the device of this name
abbrev pub wcet_named : List Device → List ℕ → ℕ
wcet_named [] name = 0
wcet_named (d ∷ ds) name = if bytes_eq d.name name then d.wcet else wcet_named ds name

-- a device for each variable, of its name
abbrev pub devices_of : List Device → List Param → List flats.Device
devices_of devices qs = map (λ (q : Param). (q.name, wcet_named devices q.name)) qs

abbrev pub all_numbered : ProgramTree → Types → ℕ → Expansion → List Numbered
all_numbered p tys main e = entered_flows p tys [] main (sensors_from 0 (inputs_of e)) e

-- the flat program of an expansion of the main node of this number, where the program's variables have these types
abbrev pub flat_of : ProgramTree → Types → ℕ → Expansion → FlatProgram
flat_of p tys main e = record {
  flows = map (λ (f : Numbered). f.1) (all_numbered p tys main e);
  apps = entered_apps p main e;
  ins = map flow_no (inputs_of e);
  outs = map flow_no (outputs_of e);
  in_devices = devices_of p.sensors (node_at p main).ins;
  out_devices = devices_of p.actuators (node_at p main).outs;
}
