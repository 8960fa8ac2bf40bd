-- The flows that names of a node are given, and its variables.
use Rattle.std.specs.Prelude.{ℕ, List, [], ◌∷◌, map}
use Rattle.prl_ast.specs.declared.declarations.Param.{Param}
use Rattle.prl_flow.specs.declared.programs.Def.{Def}
use Rattle.prl_flow.specs.declared.programs.Def.TheVariants as definitions
use Rattle.prl_expand.specs.Flats.{Numbered, copy_of, variable_flow}
use Rattle.prl_expand.specs.declared.terms.Term.{Term}
use Rattle.prl_expand.specs.declared.variables.Pair.{Pair}
use Rattle.prl_expand.specs.declared.variables.Source.{Source}
use Rattle.prl_expand.specs.declared.variables.Source.TheVariants as sources
use Rattle.prl_expand.specs.declared.variables.Variable.{Variable}

-- a name and the flow that it is given
abbrev pub pair_of : Pair → List ℕ × ℕ
pair_of q = (q.name.now, q.flow)

abbrev pub pairs_of : List Pair → List (List ℕ × ℕ)
pairs_of qs = map pair_of qs

abbrev pub param_of : Variable → Param
param_of v = v.param.now

-- the flows of variables, with their numbers and types and with these definitions
abbrev pub variables_made : List ℕ → List Param → List Term → List Def → List Numbered
variables_made label [] ts ds = []
variables_made label (q ∷ qs) [] ds = []
variables_made label (q ∷ qs) (t ∷ ts) [] = []
variables_made label (q ∷ qs) (t ∷ ts) (d ∷ ds) = variable_flow label t.flow q t.ty d ∷ variables_made label qs ts ds

abbrev pub def_of : Source → Def
def_of (sources.Sensor k) = definitions.Sensor k
def_of (sources.Copy i) = copy_of i

abbrev pub copied : Term → Source
copied t = sources.Copy t.flow
