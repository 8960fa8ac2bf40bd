-- What is made of parts of a text, and the types of what expressions give.
use Rattle.std.specs.Prelude.{◌≡◌, ℕ, ◌+◌, ◌++◌, List, [], ◌∷◌, length, map, reverse, slice_get, Option, Some, None}
use Rattle.std.specs.List.{range_with_len}
use Rattle.prl_base.specs.declared.places.Span.{Span}
use Rattle.prl_base.specs.declared.values.Ty.{Ty}
use Rattle.prl_base.specs.declared.values.Ty.TheVariants as kinds
use Rattle.prl_ast.specs.declared.expressions.PlacedOp.{PlacedOp}
use Rattle.prl_ast.specs.declared.declarations.Program.{Program}
use Rattle.prl_ast.specs.Trees.{Tree, Root, Trees, EquationTree, NodeTree, ProgramTree, program_tree}
use Rattle.prl_flow.specs.declared.programs.App.{App}
use Rattle.prl_flow.specs.declared.programs.Arg.{Arg}
use Rattle.prl_names.specs.declared.lookups.Callee.{Callee}
use Rattle.prl_names.specs.Lookups.{params_of}
use Rattle.prl_terms.specs.declared.terms.Term.{Term}
use Rattle.prl_types.specs.Parameters.{first_of}
use Rattle.prl_types.specs.Flows as types
use Rattle.prl_types.specs.Flows.{parameters_from}
use Rattle.prl_causal.specs.Annotations.{Entered, Rights, Part, Core, Parts}
use Rattle.prl_causal.specs.Annotations as notes
use Rattle.prl_causal.specs.Asked.{first_of as first_given, last_of, outputs_of}
use Rattle.prl_causal.specs.Texts.{node_at, node_of}
use Rattle.prl_expand.specs.Flats.{Numbered, Types, copy_of, entered_apps, entered_flows, flow_no, import_at, label_of_node, operator_flows, output_flows, ports_of, resolved, wcet_of}
use Rattle.prl_expand.specs.declared.counts.Next.{Next}
use Rattle.prl_expand.specs.declared.terms.Term as given
use Rattle.prl_expand.specs.code.Within.{IsSound}
use Rattle.prl_expand.specs.code.Numbering.{all_from, called, entered_from, node_from, part_from, rights_from, root_from}

abbrev pub all_resolved : Types → List Term → List Ty
all_resolved tys ts = map (resolved tys) ts

abbrev pub types_of : List given.Term → List Ty
types_of ts = map (λ (t : given.Term). t.ty) ts

abbrev pub types_given : ProgramTree → ℕ → Tree → List Term
types_given p k t = types.flows_of p k t

-- the types of variables of the node, one by one
abbrev pub have_types : ProgramTree → Types → ℕ → ℕ → List Ty
have_types p tys k count = all_resolved tys (parameters_from (first_of p k) count)

-- the names are those of the program, and these are the variables of its node
pub record IsInside (named typed : Program) (tys : Types) (k : ℕ) (env : List given.Term) : Type 0 where
  pub same : named ≡ typed
  pub sound : IsSound (program_tree named)
  pub there : (n : NodeTree) × (slice_get (program_tree named).nodes k ≡ Some n)
  pub count : length env ≡ length (params_of (node_at (program_tree named) k))
  pub types : types_of env ≡ have_types (program_tree named) tys k (length env)

abbrev pub head_of : List ℕ → Option ℕ
head_of [] = None
head_of (i ∷ is) = Some i

abbrev pub first_type : List Ty → Ty
first_type [] = kinds.Int
first_type (ty ∷ tys) = ty

-- operators over these flows, from the next flow on
abbrev pub operated_given : ℕ → List PlacedOp → List PlacedOp → List ℕ → List ℕ
operated_given f pre post of = first_given (reverse (range_with_len (f + length post) (length pre))) (last_of of (range_with_len f (length post)))

abbrev pub operated_types : List PlacedOp → List PlacedOp → List Ty → List Ty
operated_types [] [] tys = tys
operated_types [] (o ∷ post) tys = first_type tys ∷ []
operated_types (o ∷ pre) post tys = first_type tys ∷ []

abbrev pub operated_flows : ℕ → List PlacedOp → List PlacedOp → Ty → List ℕ → List Numbered
operated_flows f pre post ty of =
    operator_flows ty post (range_with_len f (length post)) of
    ++ operator_flows ty (reverse pre) (range_with_len (f + length post) (length pre)) (last_of of (range_with_len f (length post)))

-- parts of the expansion, where nodes are entered this many levels deep
abbrev pub a_part : ProgramTree → ℕ → Tree → Next → Part ℕ ℕ ℕ
a_part p levels t s = part_from p (entered_from p levels) t s

abbrev pub a_core : ProgramTree → ℕ → Root → Next → Core ℕ ℕ ℕ
a_core p levels root s = root_from p (entered_from p levels) root s

abbrev pub all_parts : ProgramTree → ℕ → Trees → Next → Parts ℕ ℕ ℕ
all_parts p levels ts s = all_from p (entered_from p levels) ts s

abbrev pub the_rights : ProgramTree → ℕ → List EquationTree → Next → Rights ℕ ℕ ℕ
the_rights p levels es s = rights_from p (entered_from p levels) es s

abbrev pub a_node : ProgramTree → ℕ → ℕ → Next → Entered ℕ ℕ ℕ
a_node p levels k s = node_from p (entered_from p levels) (node_at p k) s

-- an application without its arguments
abbrev pub a_call : ProgramTree → ℕ → Option Callee → Next → Core ℕ ℕ ℕ
a_call p levels callee s = called p (entered_from p levels) callee s notes.none

abbrev pub called_given : Option Callee → Core ℕ ℕ ℕ → List ℕ
called_given callee (notes.constant i) = []
called_given callee notes.name = []
called_given callee (notes.import args app outs) = outs
called_given callee (notes.node args x child) = outputs_of child
called_given callee (notes.group parts) = []

-- its flows and applications, without those of its arguments
abbrev pub called_flows : ProgramTree → Types → Option Callee → List ℕ → Span → List ℕ → Core ℕ ℕ ℕ → List Numbered
called_flows p tys callee name at of (notes.constant i) = []
called_flows p tys callee name at of notes.name = []
called_flows p tys callee name at of (notes.import args app outs) = output_flows app 0 at (ports_of (import_at p callee)) outs
called_flows p tys callee name at of (notes.node args x child) = entered_flows p tys (label_of_node name x) (node_of callee) (map copy_of of) child
called_flows p tys callee name at of (notes.group parts) = []

abbrev pub called_apps : ProgramTree → Option Callee → List ℕ → Span → List Arg → Core ℕ ℕ ℕ → List App
called_apps p callee name at args (notes.constant i) = []
called_apps p callee name at args notes.name = []
called_apps p callee name at args (notes.import parts app outs) = record { name = name; wcet = wcet_of (import_at p callee); args = args; outs = map flow_no outs; at = at } ∷ []
called_apps p callee name at args (notes.node parts x child) = entered_apps p (node_of callee) child
called_apps p callee name at args (notes.group parts) = []
