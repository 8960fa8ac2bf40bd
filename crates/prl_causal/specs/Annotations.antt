-- The text of an entered node with something at each place that makes a flow (`F`), at each application of an import (`R`)
-- and at each node that is entered from it (`N`). Names, groups and calls make no flow, and nothing stands at them.
use Rattle.std.specs.Prelude.{List, [], ◌∷◌, ◌++◌, map, reverse}

mutual
  -- its inputs, outputs and locals, and its right sides in the order of the text
  pub data Entered (F R N : Type 0) : Type 0 where
    entered : List F → List F → List F → Rights F R N → Entered F R N

  pub data Rights (F R N : Type 0) : Type 0 where
    done : Rights F R N
    next : Part F R N → Rights F R N → Rights F R N

  -- prefixes, the outermost first; what they are applied to; postfixes, the innermost first
  pub data Part (F R N : Type 0) : Type 0 where
    part : List F → Core F R N → List F → Part F R N

  pub data Core (F R N : Type 0) : Type 0 where
    constant : F → Core F R N
    name : Core F R N
    -- the arguments, and what stands at the application and at each of its outputs
    import : Parts F R N → R → List F → Core F R N
    node : Parts F R N → N → Entered F R N → Core F R N
    group : Parts F R N → Core F R N

  pub data Parts (F R N : Type 0) : Type 0 where
    none : Parts F R N
    more : Part F R N → Parts F R N → Parts F R N

-- The flows in the order in which they are made: the variables of a node on entering it, and then part by part. An
-- expression's parts come before itself, its postfixes before its prefixes, and of these the innermost first.
abbrev mutual
  pub flows_in : {F R N : Type 0} → Entered F R N → List F
  flows_in (entered ins outs locals rights) = ((ins ++ outs) ++ locals) ++ right_flows rights

  pub right_flows : {F R N : Type 0} → Rights F R N → List F
  right_flows done = []
  right_flows (next q rest) = part_flows q ++ right_flows rest

  pub part_flows : {F R N : Type 0} → Part F R N → List F
  part_flows (part pre core post) = (core_flows core ++ post) ++ reverse pre

  pub core_flows : {F R N : Type 0} → Core F R N → List F
  core_flows (constant f) = f ∷ []
  core_flows name = []
  core_flows (import args r outs) = parts_flows args ++ outs
  core_flows (node args n child) = parts_flows args ++ flows_in child
  core_flows (group parts) = parts_flows parts

  pub parts_flows : {F R N : Type 0} → Parts F R N → List F
  parts_flows none = []
  parts_flows (more q rest) = part_flows q ++ parts_flows rest

-- what stands at the applications of imports, in the same order
abbrev mutual
  pub imports_in : {F R N : Type 0} → Entered F R N → List R
  imports_in (entered ins outs locals rights) = right_imports rights

  pub right_imports : {F R N : Type 0} → Rights F R N → List R
  right_imports done = []
  right_imports (next q rest) = part_imports q ++ right_imports rest

  pub part_imports : {F R N : Type 0} → Part F R N → List R
  part_imports (part pre core post) = core_imports core

  pub core_imports : {F R N : Type 0} → Core F R N → List R
  core_imports (constant f) = []
  core_imports name = []
  core_imports (import args r outs) = parts_imports args ++ r ∷ []
  core_imports (node args n child) = parts_imports args ++ imports_in child
  core_imports (group parts) = parts_imports parts

  pub parts_imports : {F R N : Type 0} → Parts F R N → List R
  parts_imports none = []
  parts_imports (more q rest) = part_imports q ++ parts_imports rest

-- what stands at the nodes that are entered, in the same order: a node is entered after its arguments
abbrev mutual
  pub nodes_in : {F R N : Type 0} → Entered F R N → List N
  nodes_in (entered ins outs locals rights) = right_nodes rights

  pub right_nodes : {F R N : Type 0} → Rights F R N → List N
  right_nodes done = []
  right_nodes (next q rest) = part_nodes q ++ right_nodes rest

  pub part_nodes : {F R N : Type 0} → Part F R N → List N
  part_nodes (part pre core post) = core_nodes core

  pub core_nodes : {F R N : Type 0} → Core F R N → List N
  core_nodes (constant f) = []
  core_nodes name = []
  core_nodes (import args r outs) = parts_nodes args
  core_nodes (node args n child) = parts_nodes args ++ n ∷ nodes_in child
  core_nodes (group parts) = parts_nodes parts

  pub parts_nodes : {F R N : Type 0} → Parts F R N → List N
  parts_nodes none = []
  parts_nodes (more q rest) = part_nodes q ++ parts_nodes rest

-- the same text with other things at its places
abbrev mutual
  pub mark_entered : {F R N G S M : Type 0} → (F → G) → (R → S) → (N → M) → Entered F R N → Entered G S M
  mark_entered f r n (entered ins outs locals rights) = entered (map f ins) (map f outs) (map f locals) (mark_rights f r n rights)

  pub mark_rights : {F R N G S M : Type 0} → (F → G) → (R → S) → (N → M) → Rights F R N → Rights G S M
  mark_rights f r n done = done
  mark_rights f r n (next q rest) = next (mark_part f r n q) (mark_rights f r n rest)

  pub mark_part : {F R N G S M : Type 0} → (F → G) → (R → S) → (N → M) → Part F R N → Part G S M
  mark_part f r n (part pre core post) = part (map f pre) (mark_core f r n core) (map f post)

  pub mark_core : {F R N G S M : Type 0} → (F → G) → (R → S) → (N → M) → Core F R N → Core G S M
  mark_core f r n (constant x) = constant (f x)
  mark_core f r n name = name
  mark_core f r n (import args x outs) = import (mark_parts f r n args) (r x) (map f outs)
  mark_core f r n (node args x child) = node (mark_parts f r n args) (n x) (mark_entered f r n child)
  mark_core f r n (group parts) = group (mark_parts f r n parts)

  pub mark_parts : {F R N G S M : Type 0} → (F → G) → (R → S) → (N → M) → Parts F R N → Parts G S M
  mark_parts f r n none = none
  mark_parts f r n (more q rest) = more (mark_part f r n q) (mark_parts f r n rest)
