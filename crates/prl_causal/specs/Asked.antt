-- What the text of a program asks of what stands at its places, as a list of rules. A name has its variable's flow, and
-- a group and a list of arguments the flows of their parts in order, since nothing else stands there.
use Rattle.std.specs.Prelude.{ℕ, ◌+◌, List, [], ◌∷◌, ◌++◌, reverse, slice_get, Option, Some, None}
use Rattle.prl_ast.specs.declared.declarations.Param.{Param}
use Rattle.prl_ast.specs.declared.declarations.Placed.{Placed}
use Rattle.prl_ast.specs.declared.expressions.PlacedOp.{PlacedOp}
use Rattle.prl_ast.specs.Trees.{Tree, tree, Root, const, var, apply, group, Trees, none, more, EquationTree, NodeTree, ProgramTree}
use Rattle.prl_flow.specs.Rules.{Rule, constant, operator, applied, same, sensed, rate_rules}
use Rattle.prl_names.specs.Lookups.{callee_of, param_of, params_of}
use Rattle.prl_causal.specs.Annotations.{Entered, entered, Rights, done, next, Part, part, Core, Parts}
use Rattle.prl_causal.specs.Annotations as notes
use Rattle.prl_causal.specs.Texts.{node_at, node_of}

abbrev pub inputs_of : {F R N : Type 0} → Entered F R N → List F
inputs_of (entered ins outs locals rights) = ins

abbrev pub outputs_of : {F R N : Type 0} → Entered F R N → List F
outputs_of (entered ins outs locals rights) = outs

abbrev pub one : {F : Type 0} → Option F → List F
one None = []
one (Some f) = f ∷ []

-- what stands at a variable, among what stands at all variables of its node
abbrev pub at_index : {F : Type 0} → List F → Option ℕ → List F
at_index env None = []
at_index env (Some k) = one (slice_get env k)

abbrev pub at_variable : {F : Type 0} → NodeTree → List F → List ℕ → List F
at_variable n env name = at_index env (param_of n name)

abbrev pub at_lefts : {F : Type 0} → NodeTree → List F → List Placed → List F
at_lefts n env [] = []
at_lefts n env (l ∷ ls) = at_variable n env l.name ++ at_lefts n env ls

-- a constant has one flow
abbrev pub constant_rules : {F R : Type 0} → Root → F → List (Rule F R)
constant_rules (const v) f = constant v f ∷ []
constant_rules (var name) f = []
constant_rules (apply name at args) f = []
constant_rules (group parts) f = []

-- the flows of two lists are the same, one by one
abbrev pub all_same : {F R : Type 0} → List F → List F → List (Rule F R)
all_same [] gs = []
all_same (f ∷ fs) [] = []
all_same (f ∷ fs) (g ∷ gs) = same f g ∷ all_same fs gs

-- operators, the innermost first, over the flow of a list of one
abbrev pub operator_rules : {F R : Type 0} → List PlacedOp → List F → List F → List (Rule F R)
operator_rules [] fs of = []
operator_rules (o ∷ os) [] of = []
operator_rules (o ∷ os) (f ∷ fs) [] = []
operator_rules (o ∷ os) (f ∷ fs) (x ∷ xs) = operator o.op x f ∷ operator_rules os fs (f ∷ [])

-- the flow of the last of these operators, or where there is none what they stand on
abbrev pub last_of : {F : Type 0} → List F → List F → List F
last_of of [] = of
last_of of (f ∷ fs) = last_of (f ∷ []) fs

abbrev pub first_of : {F : Type 0} → List F → List F → List F
first_of [] of = of
first_of (f ∷ fs) of = f ∷ []

abbrev pub root_args : Root → Trees
root_args (const v) = none
root_args (var name) = none
root_args (apply name at args) = args
root_args (group parts) = parts

abbrev pub root_name : Root → List ℕ
root_name (const v) = []
root_name (var name) = name
root_name (apply name at args) = name
root_name (group parts) = []

-- the flows that an expression gives
abbrev mutual
  pub given : {F R N : Type 0} → NodeTree → List F → Tree → Part F R N → List F
  given n env (tree pre root post at) (part pres core posts) = first_of pres (last_of (root_given n env root core) posts)

  pub root_given : {F R N : Type 0} → NodeTree → List F → Root → Core F R N → List F
  root_given n env root (notes.constant f) = f ∷ []
  root_given n env root notes.name = at_variable n env (root_name root)
  root_given n env root (notes.import args r outs) = outs
  root_given n env root (notes.node args x child) = outputs_of child
  root_given n env root (notes.group parts) = all_given n env (root_args root) parts

  pub all_given : {F R N : Type 0} → NodeTree → List F → Trees → Parts F R N → List F
  all_given n env ts notes.none = []
  all_given n env none (notes.more q rest) = []
  all_given n env (more t ts) (notes.more q rest) = given n env t q ++ all_given n env ts rest

-- declared rates
abbrev pub declared_rules : {F R : Type 0} → List Param → List F → List (Rule F R)
declared_rules [] fs = []
declared_rules (q ∷ qs) [] = []
declared_rules (q ∷ qs) (f ∷ fs) = rate_rules q.rate f ++ declared_rules qs fs

abbrev mutual
  -- of the node of this number: its declared rates, and then equation by equation the rules of the right side, and that
  -- each left name has its flow
  pub entered_rules : {F R N : Type 0} → ProgramTree → ℕ → Entered F R N → List (Rule F R)
  entered_rules p k (entered ins outs locals rights) =
      declared_rules (params_of (node_at p k)) ((ins ++ outs) ++ locals)
      ++ rights_rules p (node_at p k) ((ins ++ outs) ++ locals) (node_at p k).eqs rights

  pub rights_rules : {F R N : Type 0} → ProgramTree → NodeTree → List F → List EquationTree → Rights F R N → List (Rule F R)
  rights_rules p n env es done = []
  rights_rules p n env [] (next q rest) = []
  rights_rules p n env (e ∷ es) (next q rest) =
      part_rules p n env e.right q ++ (all_same (at_lefts n env e.lefts) (given n env e.right q) ++ rights_rules p n env es rest)

  pub part_rules : {F R N : Type 0} → ProgramTree → NodeTree → List F → Tree → Part F R N → List (Rule F R)
  part_rules p n env (tree pre root post at) (part pres core posts) =
      root_rules p n env root core
      ++ (operator_rules post posts (root_given n env root core)
      ++ operator_rules (reverse pre) (reverse pres) (last_of (root_given n env root core) posts))

  -- the inputs of a node that is entered are its arguments
  pub root_rules : {F R N : Type 0} → ProgramTree → NodeTree → List F → Root → Core F R N → List (Rule F R)
  root_rules p n env root (notes.constant f) = constant_rules root f
  root_rules p n env root notes.name = []
  root_rules p n env root (notes.import args r outs) =
      all_rules p n env (root_args root) args ++ applied (root_name root) (all_given n env (root_args root) args) outs r ∷ []
  root_rules p n env root (notes.node args x child) =
      all_rules p n env (root_args root) args
      ++ (all_same (inputs_of child) (all_given n env (root_args root) args) ++ entered_rules p (node_of (callee_of p (root_name root))) child)
  root_rules p n env root (notes.group parts) = all_rules p n env (root_args root) parts

  pub all_rules : {F R N : Type 0} → ProgramTree → NodeTree → List F → Trees → Parts F R N → List (Rule F R)
  all_rules p n env ts notes.none = []
  all_rules p n env none (notes.more q rest) = []
  all_rules p n env (more t ts) (notes.more q rest) = part_rules p n env t q ++ all_rules p n env ts rest

-- main's inputs are its sensors', counted from k
abbrev pub sensed_rules : {F R : Type 0} → ℕ → List F → List (Rule F R)
sensed_rules k [] = []
sensed_rules k (f ∷ fs) = sensed k f ∷ sensed_rules (k + 1) fs

-- of the whole program, whose main node has this number
abbrev pub program_rules : {F R N : Type 0} → ProgramTree → ℕ → Entered F R N → List (Rule F R)
program_rules p main e = sensed_rules 0 (inputs_of e) ++ entered_rules p main e
