-- What a name of a program stands for.
use Rattle.std.specs.Prelude.{ℕ, ◌+◌, List, [], ◌∷◌, ◌++◌, map, Option, Some, None, if◌then◌else◌, slice_get}
use Rattle.std.specs.Option.{option_map, option_and_then}
use Rattle.std.specs.Str.{bytes_eq}
use Rattle.prl_ast.specs.declared.declarations.Import.{Import}
use Rattle.prl_ast.specs.declared.declarations.Param.{Param}
use Rattle.prl_ast.specs.Trees.{NodeTree, ProgramTree}
use Rattle.prl_names.specs.declared.lookups.Callee.{Callee}
use Rattle.prl_names.specs.declared.lookups.Callee.TheVariants as callees

-- the index of the first of the names that is this one, where they are counted from k
abbrev pub index_from : ℕ → List (List ℕ) → List ℕ → Option ℕ
index_from k [] name = None
index_from k (n ∷ ns) name = if bytes_eq n name then Some k else index_from (k + 1) ns name

abbrev pub index_of : List (List ℕ) → List ℕ → Option ℕ
index_of names name = index_from 0 names name

-- inputs, then outputs, then locals
abbrev pub params_of : NodeTree → List Param
params_of node = (node.ins ++ node.outs) ++ node.locals

abbrev pub param_names : NodeTree → List (List ℕ)
param_names node = map (λ (p : Param). p.name) (params_of node)

-- the index of the parameter of this name
abbrev pub param_of : NodeTree → List ℕ → Option ℕ
param_of node name = index_of (param_names node) name

-- the index of the parameter of this name of the node at an index of the list of nodes
abbrev pub param_at : ProgramTree → ℕ → List ℕ → Option ℕ
param_at p node name = option_and_then (λ n. param_of n name) (slice_get p.nodes node)

abbrev pub node_names : ProgramTree → List (List ℕ)
node_names p = map (λ (n : NodeTree). n.name) p.nodes

abbrev pub import_names : ProgramTree → List (List ℕ)
import_names p = map (λ (i : Import). i.name) p.imports

abbrev pub node_or : Option ℕ → Option ℕ → Option Callee
node_or (Some node) import = Some (callees.Node node)
node_or None import = option_map callees.Import import

-- the node of this name, or where there is none the import
abbrev pub callee_of : ProgramTree → List ℕ → Option Callee
callee_of p name = node_or (index_of (node_names p) name) (index_of (import_names p) name)
