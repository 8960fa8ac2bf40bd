-- Numbers of parameters.
use Rattle.prl_base.proofs.Standard.{◌≡◌, ◌<◌, ◌≤◌, ◌+◌, ◌++◌, ◌∙◌, ℕ, suc, List, [], ◌∷◌, length, length-append, get_or, map, take, arith, refl, sym, ap, subst, Some, None, Bool, true, false, inl}
use Rattle.prl_base.proofs.Standard.{inr, if◌then◌else◌, slice_get_cases, slice_get_past, length-map, take_more, take_all, get_or_default, append-nil, get_or-map, length-flat_map-take}
use Rattle.prl_base.proofs.Standard.{map-range_with_len_more, length-map-range_with_len, flat_map-append, get_or-append, get_or-append_seam, cases_lt, bytes_eq}
use Rattle.std.specs.List.{slice_get}
use Rattle.prl_ast.specs.Trees.{NodeTree, ProgramTree, node_tree}
use Rattle.prl_ast.specs.declared.declarations.Node.{Node}
use Rattle.prl_ast.specs.declared.declarations.Port.{Port}
use Rattle.prl_names.specs.Lookups.{index_from, params_of, param_names, param_of, param_at}
use Rattle.prl_terms.specs.declared.terms.Term.TheVariants as terms
use Rattle.prl_types.specs.Vocabulary.{Parameter, owned_of, AreListed, AreParameters, AreFirsts, HasParameter, parameters_from, port_types, Owned, owned_by, all_owned, count_of, first_of}
use Rattle.prl_types.specs.Parameters.{owned}

place_within : (j : ℕ) (names : List (List ℕ)) (name : List ℕ) (k : ℕ) → index_from j names name ≡ Some k → k < j + length names
place_within j [] name k e = absurd (cc)
place_within j (n ∷ ns) name k e =
    let rest = place_within (j + 1) ns name k in
    (elim (bytes_eq n name) as (λ (b : Bool). (if b then Some j else index_from (j + 1) ns name) ≡ Some k → k < j + suc (length ns)) [
      | true ↦ λ f. let same : j ≡ k = cc in omega arith
      | false ↦ λ f. let below : k < j + 1 + length ns = rest f in omega arith
    ]) e

pub record IsOfNode (p : ProgramTree) (node k : ℕ) : Type 0 where
  pub tree : NodeTree
  pub inside : node < length p.nodes
  pub is : get_or p.nodes node tree ≡ tree
  pub below : k < length (params_of tree)

pub param_inside : (p : ProgramTree) (node : ℕ) (name : List ℕ) (k : ℕ) → param_at p node name ≡ Some k → IsOfNode p node k
param_inside p node name k e = let cases = (slice_get_cases p.nodes node).1 in elim cases [
  | inl here ↦ record {
    tree = here.0;
    inside = here.1;
    is = here.3;
    below = (let f : param_of here.0 name ≡ Some k = rw here.2 at e in
        let below = place_within 0 (param_names here.0) name k f in
        let lengths : length (param_names here.0) ≡ length (params_of here.0) = length-map (params_of here.0) _ in omega arith);
  }
  | inr past ↦ absurd (let f = rw past.1 at e in cc)
]

pub number_fits : (p : ProgramTree) (node k : ℕ) → IsOfNode p node k → first_of p node + k < count_of p
number_fits p node k h =
    let lengths = length-map (params_of h.tree) (owned h.tree.name) in
    let whole = length-flat_map-take owned_by p.nodes node h.tree h.inside in
    let same = ap (λ (n : NodeTree). length (owned_by n)) h.is in
    let below = h.below in
    omega (arith, whole, same, lengths, below)

pub parameters_more : (first n : ℕ) → parameters_from first (n + 1) ≡ parameters_from first n ++ terms.Parameter (first + n) ∷ []
parameters_more first n = map-range_with_len_more terms.Parameter first n (first + n) refl

-- what the lists of the code are
pub record ListedFirst (p : ProgramTree) (parameters : List Parameter) (firsts : List ℕ) : Type 0 where
  pub total : length parameters ≡ count_of p
  pub firsts_are : (k d : ℕ) → k < length p.nodes → get_or firsts k d ≡ first_of p k

pub listed_first : (p : ProgramTree) (parameters : List Parameter) (firsts : List ℕ) → AreParameters parameters firsts p → ListedFirst p parameters firsts
listed_first p parameters firsts h = record {
  total = sym (length-map parameters owned_of) ∙ ap length h.list ∙ ap (λ ns. length (all_owned ns)) (take_all (length p.nodes) p.nodes (omega arith));
  firsts_are = λ k d lt. get_or_default firsts k d 0 (let e = h.number in omega arith) ∙ h.first k lt;
}

pub node_room : (p : ProgramTree) (node : ℕ) (n : NodeTree) → node < length p.nodes → get_or p.nodes node n ≡ n
    → first_of p node + (length n.ins + length n.outs + length n.locals) ≤ count_of p
node_room p node n lt is =
    let lengths = length-map (params_of n) (owned n.name) in
    let whole = length-flat_map-take owned_by p.nodes node n lt in
    let same = ap (λ (m : NodeTree). length (owned_by m)) is in
    let parts = length-append (n.ins ++ n.outs) n.locals in
    let ports = length-append n.ins n.outs in
    omega (arith, whole, same, lengths, parts, ports)

owned_more : (nodes : List NodeTree) (i : ℕ) (d : NodeTree) → i < length nodes → all_owned (take (i + 1) nodes) ≡ all_owned (take i nodes) ++ owned_by (get_or nodes i d)
owned_more nodes i d lt = ap all_owned (take_more nodes i d lt) ∙ flat_map-append owned_by (take i nodes) (get_or nodes i d ∷ []) ∙ ap (λ (xs : List Owned). all_owned (take i nodes) ++ xs) (append-nil (owned_by (get_or nodes i d)))

first_more : (firsts : List ℕ) (number i : ℕ) (nodes : List NodeTree) → length firsts ≡ i → number ≡ length (all_owned (take i nodes)) → ((k : ℕ) → k < i → get_or firsts k 0 ≡ length (all_owned (take k nodes)))
    → (k : ℕ) → k < i + 1 → get_or (firsts ++ number ∷ []) k 0 ≡ length (all_owned (take k nodes))
first_more firsts number i nodes count is h k lt = elim (cases_lt k i) [
  | inl below ↦ get_or-append firsts (number ∷ []) 0 k (omega arith) ∙ h k below
  | inr past ↦ let e : k ≡ i = omega arith in
      let here : k ≡ length firsts = e ∙ sym count in
      subst (λ (n : ℕ). get_or (firsts ++ number ∷ []) n 0 ≡ number) (sym here) (get_or-append_seam firsts number [] 0) ∙ is ∙ ap (λ (n : ℕ). length (all_owned (take n nodes))) (sym e)
]

pub one_more_listed : (parameters more : List Parameter) (firsts : List ℕ) (nodes : List NodeTree) (i : ℕ) (n d : NodeTree) (number : ℕ) → AreListed parameters firsts nodes i → i < length nodes → get_or nodes i d ≡ n
    → map owned_of more ≡ map owned_of parameters ++ owned_by n → number ≡ length parameters → AreListed more (firsts ++ number ∷ []) nodes (i + 1)
one_more_listed parameters more firsts nodes i n d number h lt is added len = record {
  list = added ∙ ap (λ (xs : List Owned). xs ++ owned_by n) h.list ∙ ap (λ (m : NodeTree). all_owned (take i nodes) ++ owned_by m) (sym is) ∙ sym (owned_more nodes i d lt);
  number = length-append firsts (number ∷ []) ∙ ap (λ k. k + 1) h.number;
  first = first_more firsts number i nodes h.number (len ∙ sym (length-map parameters owned_of) ∙ ap length h.list) h.first;
}

pub tree_read : (nodes read : List Node) (k : ℕ) (n : Node) → read ≡ nodes → k < length read → n ≡ get_or read k n
    → (k < length (map node_tree nodes)) × (get_or (map node_tree nodes) k (node_tree n) ≡ node_tree n)
tree_read nodes read k n e lt is =
    let inside : k < length nodes = subst (λ (ns : List Node). k < length ns) e lt in
    let same : n ≡ get_or nodes k n = subst (λ (ns : List Node). n ≡ get_or ns k n) e is in
    let lengths : length (map node_tree nodes) ≡ length nodes = length-map nodes node_tree in
    (omega arith, get_or-map node_tree nodes k n (node_tree n) inside ∙ ap node_tree (sym same))

pub no_tree : (nodes read : List Node) (k : ℕ) → read ≡ nodes → length read ≤ k → slice_get (map node_tree nodes) k ≡ None
no_tree nodes read k e past =
    let same : length read ≡ length nodes = ap length e in
    let lengths : length (map node_tree nodes) ≡ length nodes = length-map nodes node_tree in
    slice_get_past (map node_tree nodes) k (omega arith)

pub node_fits : (p : ProgramTree) (parameters : List Parameter) (firsts : List ℕ) → AreParameters parameters firsts p → (node first : ℕ) (n : NodeTree) → node < length p.nodes → get_or p.nodes node n ≡ n
    → first ≡ get_or firsts node first → first + length n.ins + length n.outs ≤ length parameters
node_fits p parameters firsts h node first n lt is e =
    let listed = listed_first p parameters firsts h in
    let room = node_room p node n lt is in
    let first_is = listed.firsts_are node first lt in
    let total = listed.total in
    omega (arith, room, first_is, total, e)

pub port_count : (ports : List Port) → length (port_types ports) ≡ length ports
port_count ports = length-map ports _

pub parameter_count : (first count : ℕ) → length (parameters_from first count) ≡ count
parameter_count first count = length-map-range_with_len terms.Parameter first count

pub of_parameter : (p : ProgramTree) (node k : ℕ) → HasParameter p node k → IsOfNode p node k
of_parameter p node k h = let cases = (slice_get_cases p.nodes node).1 in elim cases [
  | inl here ↦ (let f : Some here.0 ≡ Some h.tree = sym here.2 ∙ h.is in let same : here.0 ≡ h.tree = cc in
      record { tree = here.0; inside = here.1; is = here.3; below = subst (λ (n : NodeTree). k < length (params_of n)) (sym same) h.below })
  | inr past ↦ absurd (let f = sym past.1 ∙ h.is in cc)
]

-- the place of a parameter's type
pub record IsPlaced (p : ProgramTree) (firsts : List ℕ) (count node k first : ℕ) : Type 0 where
  pub first_is : first ≡ first_of p node
  pub below : first + k < count

pub placed_type : (p : ProgramTree) (firsts : List ℕ) (count node k first : ℕ) → AreFirsts firsts p → count ≡ count_of p → HasParameter p node k → first ≡ get_or firsts node first → IsPlaced p firsts count node k first
placed_type p firsts count node k first h e has is =
    let inside = of_parameter p node k has in
    let node_inside : node < length p.nodes = inside.inside in
    let number : length firsts ≡ length p.nodes = h.number in
    let first_is = is ∙ get_or_default firsts node first 0 (omega arith) ∙ h.first node node_inside in
    let below = number_fits p node k inside in
    record { first_is = first_is; below = omega (arith, first_is, below, e) }
