-- The parameters of all nodes of a program, counted in the order of their declaration.
use Rattle.std.specs.Prelude.{ℕ, ◌+◌, List, map, length, take, Option, Some, None}
use Rattle.std.specs.List.{flat_map}
use Rattle.prl_base.specs.declared.values.Ty.TheVariants as types
use Rattle.prl_ast.specs.declared.declarations.Param.{Param}
use Rattle.prl_ast.specs.Trees.{NodeTree, ProgramTree}
use Rattle.prl_names.specs.Lookups.{params_of, param_at}
use Rattle.prl_terms.specs.declared.terms.Term.{Term}
use Rattle.prl_terms.specs.declared.terms.Term.TheVariants as terms

-- a parameter and the name of its node
pub record Owned : Type 0 where
  pub node : List ℕ
  pub param : Param

abbrev pub owned : List ℕ → Param → Owned
owned name q = record { node = name; param = q }

-- inputs, then outputs, then locals
abbrev pub owned_by : NodeTree → List Owned
owned_by n = map (owned n.name) (params_of n)

abbrev pub all_owned : List NodeTree → List Owned
all_owned ns = flat_map owned_by ns

abbrev pub parameters_of : ProgramTree → List Owned
parameters_of p = all_owned p.nodes

abbrev pub count_of : ProgramTree → ℕ
count_of p = length (parameters_of p)

-- the number of the first parameter of the node at an index
abbrev pub first_of : ProgramTree → ℕ → ℕ
first_of p node = length (all_owned (take node p.nodes))

-- the type of a parameter of the node; where there is none, which names that are right exclude, int
abbrev pub parameter_or : ProgramTree → ℕ → Option ℕ → Term
parameter_or p node None = terms.Known types.Int
parameter_or p node (Some k) = terms.Parameter (first_of p node + k)

-- the type of the parameter of this name
abbrev pub named : ProgramTree → ℕ → List ℕ → Term
named p node name = parameter_or p node (param_at p node name)
