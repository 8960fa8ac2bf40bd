-- The tables of the parameters of a list of nodes, and the names of lists of declarations.
use Rattle.prl_base.proofs.Standard.{◌≡◌, ◌<◌, ℕ, ◌+◌, zero, suc, List, [], ◌∷◌, ◌++◌, length, take, map, get_or, refl, sym, ap, ◌∙◌, Bor, take_more, map-append, map-map, BTreeMap, option_and_then}
use Rattle.std.specs.List.{slice_get}
use Rattle.prl_ast.specs.Trees.{NodeTree, node_tree}
use Rattle.prl_ast.specs.declared.declarations.Node.{Node}
use Rattle.prl_ast.specs.declared.declarations.Placed.{Placed}
use Rattle.prl_names.specs.Vocabulary.{Mention, param_of, params_of, param_names, names_in, all_placed, placed_of, placed_param, found, AreIndices, AreParams}

abbrev pub Table : Type 0
Table = BTreeMap (Bor (List ℕ)) ℕ

-- the names of mentions, which stand for the declarations `f` of these
pub names_of_placed : {X : Type 0} (f : X → Placed) (ms : List Mention) (xs : List X) → all_placed ms ≡ map f xs → names_in ms ≡ map (λ x. (f x).name) xs
names_of_placed f ms xs same =
    sym (map-map (λ (p : Placed). p.name) placed_of ms) ∙ ap (map (λ (p : Placed). p.name)) same ∙ map-map (λ (p : Placed). p.name) f xs

pub params_push : (ts : List Table) (ns : List NodeTree) (t : Table) (n : NodeTree) → AreParams ts ns → AreIndices t (param_names n) → AreParams (ts ++ t ∷ []) (ns ++ n ∷ [])
params_push [] [] t n before one = (one, tt)
params_push [] (m ∷ ns) t n before one = absurd before
params_push (u ∷ ts) [] t n before one = absurd before
params_push (u ∷ ts) (m ∷ ns) t n before one = (before.0, params_push ts ns t n before.1 one)

pub params_step : (ts : List Table) (nodes : List Node) (k : ℕ) (x : Node) (t : Table) (ms : List Mention) → k < length nodes → x ≡ get_or nodes k x →
    AreParams ts (map node_tree (take k nodes)) → all_placed ms ≡ map placed_param (params_of (node_tree x)) → AreIndices t (names_in ms) →
    AreParams (ts ++ t ∷ []) (map node_tree (take (k + 1) nodes))
params_step ts nodes k x t ms below item before list indices =
    let names = names_of_placed placed_param ms (params_of (node_tree x)) list in
    let one = rw names at indices in
    rw (take_more nodes k x below, ← item, map-append) (params_push ts (map node_tree (take k nodes)) t (node_tree x) before one)

pub param_found : (ts : List Table) (ns : List NodeTree) (k : ℕ) (q : List ℕ) → AreParams ts ns →
    option_and_then (λ t. found t q) (slice_get ts k) ≡ option_and_then (λ n. param_of n q) (slice_get ns k)
param_found [] [] k q h = refl
param_found [] (n ∷ ns) k q h = absurd h
param_found (t ∷ ts) [] k q h = absurd h
param_found (t ∷ ts) (n ∷ ns) zero q h = h.0 q
param_found (t ∷ ts) (n ∷ ns) (suc k) q h = param_found ts ns k q h.1
