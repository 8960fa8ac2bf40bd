-- What is known of a program with no fault of names.
use Rattle.std.proofs.Common.{◌≡◌, ◌<◌, ◌+◌, ℕ, zero, suc, Bool, true, false, List, [], ◌∷◌, ◌++◌, length, map, refl, ap, ◌∙◌, subst, Some, None, Option, Result, Ok, Err, arith, IfOk, IsSome}
use Rattle.std.proofs.lemmas.Simd.{map-map}
use Rattle.std.specs.List.{slice_get}
use Rattle.std.specs.Option.{is_some}
use Rattle.prl_base.specs.Reading.{◌>>=◌, GivesBut}
use Rattle.prl_ast.specs.Trees.{Tree, Root, const, var, apply, group, Trees, none, more, EquationTree, NodeTree, ProgramTree}
use Rattle.prl_ast.specs.declared.declarations.Param.{Param}
use Rattle.prl_ast.specs.declared.declarations.Placed.{Placed}
use Rattle.prl_ast.specs.Trees.{tree}
use Rattle.prl_names.specs.Vocabulary.{NameFault, recursive_of, refused, name_of, main_or, last_index, main_of, device_names, without_device, names_of, params_of, param_at, callee_of, placed_param}
use Rattle.prl_names.specs.Vocabulary.{placed_device, placed_import, placed_node, AreApart, IsKnown, IsKnownRoot, AreKnown, AreKnownLefts, AreKnownEquations, AllAreAmong, HasDevices, IsNamed}
use Rattle.prl_names.specs.Vocabulary.{is_among, repeat_of, global_spaces, port_space, flow_space, definition_space, either_name, unless, unknown_in, unknown_root, unknown_trees, unknown_lefts}
use Rattle.prl_names.specs.Vocabulary.{unknown_equations, unknown_from, unknown_of, absent_by, absent_from, left_names, undefined_in, undefined_among, undefined_of}
use Rattle.prl_names.specs.declared.checks.NameFault.TheVariants as faults
use Rattle.prl_names.proofs.Apart.{NoRepeats, no_repeats, repeats_split, space_of, apart}
use Rattle.prl_names.proofs.Counts.{apart_merged}
use Rattle.prl_names.proofs.Marking.{index_below}
use Rattle.prl_names.proofs.Reaching.{acyclic}

neither : (a b : Option (List ℕ)) → either_name a b ≡ None → (a ≡ None) × (b ≡ None)
neither None b h = (refl, h)
neither (Some n) b h = (h, cc)

not_refused : (b : Bool) (n : List ℕ) → unless b n ≡ None → b ≡ true
not_refused true n h = refl
not_refused false n h = cc

there : {A : Type 0} (o : Option A) (n : List ℕ) → unless (is_some o) n ≡ None → IsSome o
there o n h = not_refused (is_some o) n h

mutual
  known : (p : ProgramTree) (node : ℕ) (t : Tree) → unknown_in p node t ≡ None → IsKnown p node t
  known p node (tree pre root post at) h = known_root p node root h

  known_root : (p : ProgramTree) (node : ℕ) (r : Root) → unknown_root p node r ≡ None → IsKnownRoot p node r
  known_root p node (const v) h = tt
  known_root p node (var name) h = there (param_at p node name) name h
  known_root p node (apply name at args) h =
      (let parts = neither (unless (is_some (callee_of p name)) name) (unknown_trees p node args) h in
      (there (callee_of p name) name parts.0, known_trees p node args parts.1))
  known_root p node (group parts) h = known_trees p node parts h

  known_trees : (p : ProgramTree) (node : ℕ) (ts : Trees) → unknown_trees p node ts ≡ None → AreKnown p node ts
  known_trees p node none h = tt
  known_trees p node (more t ts) h =
      (let parts = neither (unknown_in p node t) (unknown_trees p node ts) h in (known p node t parts.0, known_trees p node ts parts.1))

known_lefts : (p : ProgramTree) (node : ℕ) (ls : List Placed) → unknown_lefts p node ls ≡ None → AreKnownLefts p node ls
known_lefts p node [] h = tt
known_lefts p node (l ∷ ls) h =
    let parts = neither (unless (is_some (param_at p node l.name)) l.name) (unknown_lefts p node ls) h in
    (there (param_at p node l.name) l.name parts.0, known_lefts p node ls parts.1)

known_equations : (p : ProgramTree) (node : ℕ) (es : List EquationTree) → unknown_equations p node es ≡ None → AreKnownEquations p node es
known_equations p node [] h = tt
known_equations p node (e ∷ es) h =
    let lefts = neither (unknown_lefts p node e.lefts) (either_name (unknown_in p node e.right) (unknown_equations p node es)) h in
    let right = neither (unknown_in p node e.right) (unknown_equations p node es) lefts.1 in
    (known_lefts p node e.lefts lefts.0, known p node e.right right.0, known_equations p node es right.1)

known_from : (p : ProgramTree) (k i : ℕ) (ns : List NodeTree) (n : NodeTree) → unknown_from p k ns ≡ None → slice_get ns i ≡ Some n → AreKnownEquations p (k + i) n.eqs
known_from p k i [] n h g = cc
known_from p k zero (x ∷ ns) n h g =
    let same : x ≡ n = cc in
    let index : k ≡ k + 0 = omega arith in
    let parts = neither (unknown_equations p k x.eqs) (unknown_from p (k + 1) ns) h in
    let Known : ℕ → Type 0 = λ m. AreKnownEquations p m n.eqs in
    let Of : NodeTree → Type 0 = λ m. AreKnownEquations p k m.eqs in
    subst Known index (subst Of same (known_equations p k x.eqs parts.0))
known_from p k (suc i) (x ∷ ns) n h g =
    let index : (k + 1) + i ≡ k + suc i = omega arith in
    let parts = neither (unknown_equations p k x.eqs) (unknown_from p (k + 1) ns) h in
    let Known : ℕ → Type 0 = λ m. AreKnownEquations p m n.eqs in
    subst Known index (known_from p (k + 1) i ns n parts.1 g)

all_known : (p : ProgramTree) (i : ℕ) (n : NodeTree) → unknown_of p ≡ None → slice_get p.nodes i ≡ Some n → AreKnownEquations p i n.eqs
unfolding unknown_of
all_known p i n h g =
    let index : 0 + i ≡ i = omega arith in
    let Known : ℕ → Type 0 = λ m. AreKnownEquations p m n.eqs in
    subst Known index (known_from p 0 i p.nodes n h g)

all_among : (names : List (List ℕ)) (ps : List Param) → absent_from names ps ≡ None → AllAreAmong names ps
all_among names [] h = tt
all_among names (p ∷ ps) h =
    let parts = neither (unless (is_among names p.name) p.name) (absent_by (is_among names) ps) h in
    (not_refused (is_among names p.name) p.name parts.0, all_among names ps parts.1)

defined_among : (ns : List NodeTree) (i : ℕ) (n : NodeTree) → undefined_among ns ≡ None → slice_get ns i ≡ Some n → AllAreAmong (left_names n) (n.outs ++ n.locals)
defined_among [] i n h g = cc
defined_among (x ∷ ns) zero n h g =
    let same : x ≡ n = cc in
    let parts = neither (undefined_in x) (undefined_among ns) h in
    let Of : NodeTree → Type 0 = λ m. AllAreAmong (left_names m) (m.outs ++ m.locals) in
    subst Of same (all_among (left_names x) (x.outs ++ x.locals) parts.0)
defined_among (x ∷ ns) (suc i) n h g = defined_among ns i n (neither (undefined_in x) (undefined_among ns) h).1 g

all_defined : (p : ProgramTree) (i : ℕ) (n : NodeTree) → undefined_of p ≡ None → slice_get p.nodes i ≡ Some n → AllAreAmong (left_names n) (n.outs ++ n.locals)
unfolding undefined_of
all_defined p i n h g = defined_among p.nodes i n h g

-- the spaces of a program, each without a repeat
record Spaces (p : ProgramTree) : Type 0 where
  globals : NoRepeats (global_spaces p)
  ports : NoRepeats (map port_space p.imports)
  flows : NoRepeats (map flow_space p.nodes)
  definitions : NoRepeats (map definition_space p.nodes)

spaces : (p : ProgramTree) → repeat_of p ≡ None → Spaces p
unfolding repeat_of
spaces p h =
    let all = no_repeats (((global_spaces p ++ map port_space p.imports) ++ map flow_space p.nodes) ++ map definition_space p.nodes) h in
    let first = repeats_split ((global_spaces p ++ map port_space p.imports) ++ map flow_space p.nodes) (map definition_space p.nodes) all in
    let second = repeats_split (global_spaces p ++ map port_space p.imports) (map flow_space p.nodes) first.0 in
    let third = repeats_split (global_spaces p) (map port_space p.imports) second.0 in
    record { globals = third.0; ports = third.1; flows = second.1; definitions = first.1 }

last_below : (n k : ℕ) → last_index n ≡ Some k → k < n
last_below zero k h = cc
last_below (suc n) k h = (let same : n ≡ k = cc in omega arith)

main_below : (p : ProgramTree) (main : Option (List ℕ)) (k : ℕ) → main_of p main ≡ Some k → k < length p.nodes
main_below p (Some name) k h = index_below (λ (n : NodeTree). n.name) p.nodes name k h
main_below p None k h = last_below (length p.nodes) k h

has_devices : (p : ProgramTree) (k : ℕ) (n : NodeTree) → without_device p (slice_get p.nodes k) ≡ None → slice_get p.nodes k ≡ Some n → HasDevices p n
has_devices p k n h g =
    let here = rw g at h in
    let parts = neither (absent_from (device_names p.sensors) n.ins) (absent_from (device_names p.actuators) n.outs) here in
    record { sensors = all_among (device_names p.sensors) n.ins parts.0; actuators = all_among (device_names p.actuators) n.outs parts.1 }

-- a check that is passed
passed : {B : Type 0} (fault : List ℕ → NameFault) (o : Option (List ℕ)) (r : Result B NameFault) (b : B) → (refused fault o >>= λ _. r) ≡ Ok b → (o ≡ None) × (r ≡ Ok b)
passed fault None r b h = (refl, h)
passed fault (Some n) r b h = cc

main_found : {B : Type 0} (o : Option ℕ) (f : ℕ → Result B NameFault) (b : B) → (main_or o >>= f) ≡ Ok b → (k : ℕ) × (o ≡ Some k) × (f k ≡ Ok b)
main_found (Some k) f b h = (k, refl, h)
main_found None f b h = cc

no_name : (o : Option Placed) → name_of o ≡ None → o ≡ None
no_name None h = refl
no_name (Some p) h = cc

-- the rows of a program that is accepted, one after the other
record Rows (p : ProgramTree) (main : Option (List ℕ)) (k : ℕ) : Type 0 where
  once : repeat_of p ≡ None
  known : unknown_of p ≡ None
  defined : undefined_of p ≡ None
  acyclic : recursive_of p ≡ None
  main_is : main_of p main ≡ Some k
  linked : without_device p (slice_get p.nodes k) ≡ None

rows : (p : ProgramTree) (main : Option (List ℕ)) (k : ℕ) → names_of p main ≡ Ok k → Rows p main k
unfolding names_of
rows p main k h =
    let linked = λ (m : ℕ). refused faults.Unknown (without_device p (slice_get p.nodes m)) >>= λ _. Ok m in
    let mained = main_or (main_of p main) >>= linked in
    let cycles = refused faults.Recursive (recursive_of p) >>= λ _. mained in
    let defines = refused faults.Undefined (undefined_of p) >>= λ _. cycles in
    let knows = refused faults.Unknown (unknown_of p) >>= λ _. defines in
    let first = passed faults.Twice (name_of (repeat_of p)) knows k h in
    let second = passed faults.Unknown (unknown_of p) defines k first.1 in
    let third = passed faults.Undefined (undefined_of p) cycles k second.1 in
    let fourth = passed faults.Recursive (recursive_of p) mained k third.1 in
    let fifth = main_found (main_of p main) linked k fourth.1 in
    let sixth = passed faults.Unknown (without_device p (slice_get p.nodes fifth.0)) (Ok fifth.0) k fifth.2 in
    let same : fifth.0 ≡ k = cc in
    record {
      once = no_name (repeat_of p) first.0;
      known = second.0;
      defined = third.0;
      acyclic = fourth.0;
      main_is = fifth.1 ∙ ap (λ m. Some m) same;
      linked = subst (λ m. without_device p (slice_get p.nodes m) ≡ None) same sixth.0;
    }

pub named : (p : ProgramTree) (main : Option (List ℕ)) (k : ℕ) → names_of p main ≡ Ok k → IsNamed p k
named p main k h =
    let r = rows p main k h in
    let s = spaces p r.once in
    let callees = apart_merged (map placed_import p.imports) (map placed_node p.nodes) s.globals.0 in
    record {
      main_below = main_below p main k r.main_is;
      nodes = λ i n g. record {
        params_apart = subst AreApart (map-map (λ (q : Placed). q.name) placed_param (params_of n)) (space_of flow_space p.nodes i n s.flows g);
        definitions_apart = space_of definition_space p.nodes i n s.definitions g;
        defined = all_defined p i n r.defined g;
        known = all_known p i n r.known g;
      };
      devices = λ n g. has_devices p k n r.linked g;
      acyclic = acyclic p r.acyclic;
      nodes_apart = subst AreApart (map-map (λ (q : Placed). q.name) placed_node p.nodes) callees.second;
      imports_apart = subst AreApart (map-map (λ (q : Placed). q.name) placed_import p.imports) callees.first;
      callees_apart = λ i j n g k. callees.both j i n (rw (map-map (λ (q : Placed). q.name) placed_import p.imports) k) (rw (map-map (λ (q : Placed). q.name) placed_node p.nodes) g);
      ports_apart = λ i x g. space_of port_space p.imports i x s.ports g;
      sensors_apart = subst AreApart (map-map (λ (q : Placed). q.name) placed_device p.sensors) (apart (map placed_device p.sensors) s.globals.1.0);
      actuators_apart = subst AreApart (map-map (λ (q : Placed). q.name) placed_device p.actuators) (apart (map placed_device p.actuators) s.globals.1.1.0);
    }

pub named_if_ok : (p : ProgramTree) (main : Option (List ℕ)) (r : Result ℕ NameFault) → GivesBut faults.Memory (λ k. k) r (names_of p main) → IfOk r (IsNamed p)
named_if_ok p main (Ok k) h = named p main k h
named_if_ok p main (Err fault) h = tt
