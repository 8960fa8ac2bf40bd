-- The expansion as it is made: each thing takes the next number of its kind.
use Rattle.std.specs.Prelude.{ℕ, zero, suc, ◌+◌, List, [], ◌∷◌, length, Option, Some, None, reverse, slice_get}
use Rattle.std.specs.List.{range_with_len}
use Rattle.prl_ast.specs.declared.expressions.PlacedOp.{PlacedOp}
use Rattle.prl_ast.specs.Trees.{Tree, tree, Root, const, var, apply, group, Trees, none, more, EquationTree, NodeTree, ProgramTree}
use Rattle.prl_names.specs.declared.lookups.Callee.{Callee}
use Rattle.prl_names.specs.declared.lookups.Callee.TheVariants as callees
use Rattle.prl_names.specs.Lookups.{callee_of}
use Rattle.prl_causal.specs.Annotations.{Entered, entered, Rights, done, next, Part, part, Core, Parts, part_flows, part_imports, part_nodes, core_flows, core_imports, core_nodes, parts_flows, parts_imports, parts_nodes, right_flows, right_imports, right_nodes, flows_in, imports_in, nodes_in}
use Rattle.prl_causal.specs.Annotations as notes
use Rattle.prl_causal.specs.Texts.{node_at}
use Rattle.prl_expand.specs.Flats.{ports_of}
use Rattle.prl_expand.specs.declared.counts.Next.{Next}

-- the numbers that come next after so many flows, applications and nodes
abbrev pub past : Next → List ℕ → List ℕ → List ℕ → Next
past s fs rs ns = record { flow = s.flow + length fs; app = s.app + length rs; node = s.node + length ns }

abbrev pub past_part : Next → Part ℕ ℕ ℕ → Next
past_part s q = past s (part_flows q) (part_imports q) (part_nodes q)

abbrev pub past_core : Next → Core ℕ ℕ ℕ → Next
past_core s c = past s (core_flows c) (core_imports c) (core_nodes c)

abbrev pub past_parts : Next → Parts ℕ ℕ ℕ → Next
past_parts s qs = past s (parts_flows qs) (parts_imports qs) (parts_nodes qs)

abbrev pub past_rights : Next → Rights ℕ ℕ ℕ → Next
past_rights s qs = past s (right_flows qs) (right_imports qs) (right_nodes qs)

abbrev pub past_entered : Next → Entered ℕ ℕ ℕ → Next
past_entered s e = past s (flows_in e) (imports_in e) (nodes_in e)

-- how a node is entered
abbrev pub Enter : Type 0
Enter = ℕ → Next → Entered ℕ ℕ ℕ

-- operators over what they stand on: the postfixes first, and of the prefixes the innermost
abbrev pub operated : List PlacedOp → List PlacedOp → Next → Core ℕ ℕ ℕ → Part ℕ ℕ ℕ
operated pre post s c =
    part (reverse (range_with_len ((s.flow + length (core_flows c)) + length post) (length pre))) c (range_with_len (s.flow + length (core_flows c)) (length post))

-- an application, after its arguments
abbrev pub called : ProgramTree → Enter → Option Callee → Next → Parts ℕ ℕ ℕ → Core ℕ ℕ ℕ
called p enter None s args = notes.import args s.app []
called p enter (Some (callees.Import j)) s args = notes.import args s.app (range_with_len s.flow (length (ports_of (slice_get p.imports j))))
called p enter (Some (callees.Node j)) s args = notes.node args s.node (enter j (record { flow = s.flow; app = s.app; node = s.node + 1 }))

abbrev mutual
  pub part_from : ProgramTree → Enter → Tree → Next → Part ℕ ℕ ℕ
  part_from p enter (tree pre root post at) s = operated pre post s (root_from p enter root s)

  pub root_from : ProgramTree → Enter → Root → Next → Core ℕ ℕ ℕ
  root_from p enter (const v) s = notes.constant s.flow
  root_from p enter (var name) s = notes.name
  root_from p enter (apply name at args) s = called p enter (callee_of p name) (past_parts s (all_from p enter args s)) (all_from p enter args s)
  root_from p enter (group parts) s = notes.group (all_from p enter parts s)

  pub all_from : ProgramTree → Enter → Trees → Next → Parts ℕ ℕ ℕ
  all_from p enter none s = notes.none
  all_from p enter (more t ts) s = notes.more (part_from p enter t s) (all_from p enter ts (past_part s (part_from p enter t s)))

abbrev pub rights_from : ProgramTree → Enter → List EquationTree → Next → Rights ℕ ℕ ℕ
rights_from p enter [] s = done
rights_from p enter (e ∷ es) s = next (part_from p enter e.right s) (rights_from p enter es (past_part s (part_from p enter e.right s)))

-- so many variables, from the next flow on
abbrev pub variables_from : Next → ℕ → List ℕ
variables_from s count = range_with_len s.flow count

abbrev pub node_from : ProgramTree → Enter → NodeTree → Next → Entered ℕ ℕ ℕ
node_from p enter n s =
    entered (range_with_len s.flow (length n.ins)) (range_with_len (s.flow + length n.ins) (length n.outs)) (range_with_len ((s.flow + length n.ins) + length n.outs) (length n.locals))
    (rights_from p enter n.eqs (record { flow = ((s.flow + length n.ins) + length n.outs) + length n.locals; app = s.app; node = s.node }))

-- a node from which at most so many lead on
abbrev pub entered_from : ProgramTree → ℕ → Enter
entered_from p zero k s = entered [] [] [] done
entered_from p (suc fuel) k s = node_from p (entered_from p fuel) (node_at p k) s
