-- What the steps through an expression make, one after another.
use Rattle.std.specs.Prelude.{ℕ, ◌+◌, List, [], ◌∷◌, ◌++◌, map, length, reverse, Some, None, Vec}
use Rattle.std.specs.declared.alloc.Global.{Global}
use Rattle.prl_base.specs.Values.{type_of}
use Rattle.prl_base.specs.declared.places.Span.{Span}
use Rattle.prl_base.specs.declared.values.Ty.{Ty}
use Rattle.prl_ast.specs.declared.declarations.Program.{Program}
use Rattle.prl_ast.specs.declared.expressions.PlacedOp.{PlacedOp}
use Rattle.prl_ast.specs.Trees.{Tree, tree, Root, const, var, apply, group, ProgramTree, program_tree}
use Rattle.prl_flow.specs.declared.programs.App.{App}
use Rattle.prl_flow.specs.declared.programs.Arg.{Arg}
use Rattle.prl_names.specs.Lookups.{callee_of}
use Rattle.prl_types.specs.Flows as types
use Rattle.prl_causal.specs.Annotations.{Core}
use Rattle.prl_causal.specs.Annotations as notes
use Rattle.prl_causal.specs.Asked.{at_variable}
use Rattle.prl_causal.specs.Texts.{node_at}
use Rattle.prl_expand.specs.Flats.{Numbered, Types, constant_flows, flow_no}
use Rattle.prl_expand.specs.declared.counts.Next.{Next}
use Rattle.prl_expand.specs.declared.terms.Term.{Term}
use Rattle.prl_expand.specs.code.Acts.{Act}
use Rattle.prl_expand.specs.code.Made.{a_call, all_resolved, called_apps, called_flows, called_given, first_type, operated_flows, operated_given, operated_types, types_of}
use Rattle.prl_expand.specs.code.Numbering.{past_core}
use Rattle.prl_expand.specs.code.Terms.{arg_of, flow_of}

-- where an expression stands: the program and its types, how many levels of nodes may be entered, the node, and the flows of its variables
pub record Site : Type 0 where
  pub program : ProgramTree
  pub types : Types
  pub levels : ℕ
  pub node : ℕ
  pub env : List ℕ

abbrev pub site : Program → Types → ℕ → ℕ → List Term → Site
site p tys levels k env = record { program = program_tree p; types = tys; levels = levels; node = k; env = map flow_of env }

-- what expressions give: their flows as arguments, and the types of these
pub record Given : Type 0 where
  pub args : List Arg
  pub types : List Ty

abbrev pub given_of : List Term → Given
given_of ts = record { args = map arg_of ts; types = types_of ts }

-- lists, the innermost first, which stands last
abbrev pub given_around : List (Vec Term Global) → List Given
given_around lists = map (λ (v : Vec Term Global). given_of v.items) (reverse lists)

abbrev pub nothing : Given
nothing = record { args = []; types = [] }

abbrev pub joined : Given → Given → Given
joined a b = record { args = a.args ++ b.args; types = a.types ++ b.types }

abbrev pub numbers_in : List Arg → List ℕ
numbers_in us = map (λ (u : Arg). u.flow.0) us

-- what is made at the end of an expression, by what its operators are applied to, where its parts are past
abbrev pub end_core : Site → Root → Next → Core ℕ ℕ ℕ
end_core w (const v) s = notes.constant s.flow
end_core w (var name) s = notes.name
end_core w (apply name at args) s = a_call w.program w.levels (callee_of w.program name) s
end_core w (group parts) s = notes.group notes.none

abbrev pub end_next : Site → Root → Next → Next
end_next w root s = past_core s (end_core w root s)

abbrev pub end_given : Site → Root → List ℕ → Next → List ℕ
end_given w (const v) of s = s.flow ∷ []
end_given w (var name) of s = at_variable (node_at w.program w.node) w.env name
end_given w (apply name at args) of s = called_given (callee_of w.program name) (a_call w.program w.levels (callee_of w.program name) s)
end_given w (group parts) of s = of

abbrev pub end_types : Site → Root → List Ty → List Ty
end_types w (const v) of = type_of v ∷ []
end_types w (var name) of = all_resolved w.types (types.root_flows w.program w.node (var name))
end_types w (apply name at args) of = all_resolved w.types (types.outputs_of w.program (callee_of w.program name))
end_types w (group parts) of = of

abbrev pub end_flows : Site → Root → Span → List ℕ → Next → List Numbered
end_flows w (const v) place of s = constant_flows (const v) s.flow place
end_flows w (var name) place of s = []
end_flows w (apply name at args) place of s = called_flows w.program w.types (callee_of w.program name) name at of (a_call w.program w.levels (callee_of w.program name) s)
end_flows w (group parts) place of s = []

abbrev pub end_apps : Site → Root → List Arg → Next → List App
end_apps w (const v) us s = []
end_apps w (var name) us s = []
end_apps w (apply name at args) us s = called_apps w.program (callee_of w.program name) name at us (a_call w.program w.levels (callee_of w.program name) s)
end_apps w (group parts) us s = []

-- and then by the operators
abbrev pub past_operators : List PlacedOp → List PlacedOp → Next → Next
past_operators pre post s = record { flow = (s.flow + length post) + length pre; app = s.app; node = s.node }

abbrev pub ended_next : Site → Tree → Next → Next
ended_next w (tree pre root post at) s = past_operators pre post (end_next w root s)

abbrev pub ended_given : Site → Tree → Given → Next → Given
ended_given w (tree pre root post at) g s = record {
  args = map (λ (i : ℕ). record { flow = flow_no i; at = at }) (operated_given (end_next w root s).flow pre post (end_given w root (numbers_in g.args) s));
  types = operated_types pre post (end_types w root g.types);
}

abbrev pub ended_flows : Site → Tree → Given → Next → List Numbered
ended_flows w (tree pre root post at) g s =
    end_flows w root at (numbers_in g.args) s
    ++ operated_flows (end_next w root s).flow pre post (first_type (end_types w root g.types)) (end_given w root (numbers_in g.args) s)

abbrev pub ended_apps : Site → Tree → Given → Next → List App
ended_apps w (tree pre root post at) g s = end_apps w root g.args s

-- The expressions of the list under way, those of the lists around it, the innermost first, and what was made.
pub record Standing : Type 0 where
  pub list : Given
  pub around : List Given
  pub flows : List Numbered
  pub apps : List App
  pub next : Next

abbrev pub first_list : List Given → Given
first_list [] = nothing
first_list (g ∷ gs) = g

abbrev pub other_lists : List Given → List Given
other_lists [] = []
other_lists (g ∷ gs) = gs

abbrev pub stepped : Site → Act → Standing → Standing
stepped w None st = record { list = nothing; around = st.list ∷ st.around; flows = st.flows; apps = st.apps; next = st.next }
stepped w (Some t) st = record {
  list = joined (first_list st.around) (ended_given w t st.list st.next);
  around = other_lists st.around;
  flows = st.flows ++ ended_flows w t st.list st.next;
  apps = st.apps ++ ended_apps w t st.list st.next;
  next = ended_next w t st.next;
}

abbrev pub after : Site → List Act → Standing → Standing
after w [] st = st
after w (a ∷ rest) st = after w rest (stepped w a st)

-- where nothing is made so far
abbrev pub start : Given → List Given → Next → Standing
start list around s = record { list = list; around = around; flows = []; apps = []; next = s }
