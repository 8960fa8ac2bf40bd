-- Lists of expressions and of equations of which some are made.
use Rattle.std.proofs.Common.{◌≡◌, ◌+◌, ℕ, List, [], ◌∷◌, ◌++◌, map, length, refl, sym, ap, ◌∙◌, subst, arith, append_assoc}
use Rattle.std.proofs.lemmas.List.{map-append, length-append}
use Rattle.prl_ast.specs.Trees.{Tree, tree, EquationTree, NodeTree, ProgramTree}
use Rattle.prl_flow.specs.declared.programs.App.{App}
use Rattle.prl_flow.specs.declared.programs.Arg.{Arg}
use Rattle.prl_flow.specs.declared.programs.Flow.{Flow}
use Rattle.prl_causal.specs.Vocabulary.{Rights, Part, given, node_at}
use Rattle.prl_causal.specs.Annotations as notes
use Rattle.prl_expand.specs.Flats as flats
use Rattle.prl_expand.specs.Vocabulary.{Numbered, Types, equated, flow_no, paired, placed, Next, Made, Adds, IsFew, a_part}
use Rattle.prl_expand.specs.Vocabulary.{the_rights, past, past_part, past_rights, arg_of, flow_of, flows_of, Pair, pairs_of}
use Rattle.prl_expand.specs.declared.terms.Term as given_term

abbrev next_of : ℕ → ℕ → ℕ → Next
next_of f a n = record { flow = f; app = a; node = n }

-- numbers past two lists, one after the other
pub past_both : (s : Next) (fs gs rs us ns ms : List ℕ) → past (past s fs rs ns) gs us ms ≡ past s (fs ++ gs) (rs ++ us) (ns ++ ms)
past_both s fs gs rs us ns ms =
    let a : (s.flow + length fs) + length gs ≡ s.flow + length (fs ++ gs) = omega (arith, length-append fs gs) in
    let b : (s.app + length rs) + length us ≡ s.app + length (rs ++ us) = omega (arith, length-append rs us) in
    let c : (s.node + length ns) + length ms ≡ s.node + length (ns ++ ms) = omega (arith, length-append ns ms) in
    ap (λ x. next_of x ((s.app + length rs) + length us) ((s.node + length ns) + length ms)) a
    ∙ ap (λ x. next_of (s.flow + length (fs ++ gs)) x ((s.node + length ns) + length ms)) b
    ∙ ap (λ x. next_of (s.flow + length (fs ++ gs)) (s.app + length (rs ++ us)) x) c

-- one more piece of a list, and what is left
piece : {A : Type 0} (xs ys zs whole : List A) → xs ++ (ys ++ zs) ≡ whole → (xs ++ ys) ++ zs ≡ whole
piece xs ys zs whole e = append_assoc xs ys zs ∙ e

piece_of_flows : (old new : List Flow) (fs gs : List Numbered) (whole : List Flow) → new ≡ old ++ flows_of fs → old ++ flows_of (fs ++ gs) ≡ whole → new ++ flows_of gs ≡ whole
piece_of_flows old new fs gs whole n e =
    ap (λ xs. xs ++ flows_of gs) n ∙ append_assoc old (flows_of fs) (flows_of gs) ∙ ap (λ xs. old ++ xs) (sym (map-append (λ (f : Numbered). f.1) fs gs)) ∙ e

module _ (p : ProgramTree) (tys : Types) (levels k : ℕ) (env : List ℕ) where
  abbrev node : NodeTree
  node = node_at p k

  abbrev right_flows_left : List EquationTree → Next → List Numbered
  right_flows_left es s = flats.right_flows p tys k node env es (the_rights p levels es s)

  abbrev right_apps_left : List EquationTree → Next → List App
  right_apps_left es s = flats.right_apps p node env es (the_rights p levels es s)

  -- with the rest of the equations it is what all of them make
  pub record RightsLeft (pairs : List Pair) (m m₀ : Made) (es all : List EquationTree) : Type 0 where
    pub names : pairs_of pairs ++ equated node env es (the_rights p levels es m.next) ≡ equated node env all (the_rights p levels all m₀.next)
    pub flows : m.flows.items ++ flows_of (right_flows_left es m.next) ≡ m₀.flows.items ++ flows_of (right_flows_left all m₀.next)
    pub apps : m.apps.items ++ right_apps_left es m.next ≡ m₀.apps.items ++ right_apps_left all m₀.next
    pub numbers : past_rights m.next (the_rights p levels es m.next) ≡ past_rights m₀.next (the_rights p levels all m₀.next)
    pub few : IsFew m.next

  placed_numbers : (t : Tree) (terms : List given_term.Term) (is : List ℕ) → map arg_of terms ≡ placed t is → map flow_of terms ≡ is
  placed_numbers (tree pre root post at) terms is e = flows_of_args terms ∙ ap (map (λ (a : Arg). a.flow.0)) e ∙ args_back is
    where
      flows_of_args : (ts : List given_term.Term) → map flow_of ts ≡ map (λ (a : Arg). a.flow.0) (map arg_of ts)
      flows_of_args [] = refl
      flows_of_args (t ∷ ts) = ap (λ xs. t.flow ∷ xs) (flows_of_args ts)

      args_back : (is : List ℕ) → map (λ (a : Arg). a.flow.0) (map (λ (i : ℕ). record { flow = flow_no i; at = at }) is) ≡ is
      args_back [] = refl
      args_back (i ∷ is) = ap (λ xs. i ∷ xs) (args_back is)

  pub rights_step : (pairs pairs' : List Pair) (terms : List given_term.Term) (m m' m₀ : Made) (e : EquationTree) (es rest all : List EquationTree) → RightsLeft pairs m m₀ rest all → rest ≡ e ∷ es
      → pairs_of pairs' ≡ pairs_of pairs ++ paired e.lefts (map flow_of terms)
      → map arg_of terms ≡ placed e.right (given node env e.right (a_part p levels e.right m.next))
      → Adds m m' (flats.part_flows p tys k node env e.right (a_part p levels e.right m.next)) (flats.part_apps p node env e.right (a_part p levels e.right m.next)) (past_part m.next (a_part p levels e.right m.next))
      → RightsLeft pairs' m' m₀ es all
  rights_step pairs pairs' terms m m' m₀ e es rest all before is longer args adds =
      let q : Part ℕ ℕ ℕ = a_part p levels e.right m.next in
      let s : Next = past_part m.next q in
      let left = subst (λ r. RightsLeft pairs m m₀ r all) is before in
      let next_is = adds.next_is in
      let tail : Rights ℕ ℕ ℕ = the_rights p levels es s in
      let gs = placed_numbers e.right terms (given node env e.right q) args in
      record {
        names = ap (λ xs. xs ++ equated node env es (the_rights p levels es m'.next)) (longer ∙ ap (λ is. pairs_of pairs ++ paired e.lefts is) gs)
            ∙ ap (λ x. (pairs_of pairs ++ paired e.lefts (given node env e.right q)) ++ equated node env es (the_rights p levels es x)) next_is
            ∙ piece (pairs_of pairs) (paired e.lefts (given node env e.right q)) (equated node env es tail) _ left.names;
        flows = ap (λ x. m'.flows.items ++ flows_of (right_flows_left es x)) next_is
            ∙ piece_of_flows m.flows.items m'.flows.items (flats.part_flows p tys k node env e.right q) (right_flows_left es s) _ adds.flows_are left.flows;
        apps = ap (λ x. m'.apps.items ++ right_apps_left es x) next_is ∙ ap (λ xs. xs ++ right_apps_left es s) adds.apps_are
            ∙ piece m.apps.items (flats.part_apps p node env e.right q) (right_apps_left es s) _ left.apps;
        numbers = ap (λ x. past_rights x (the_rights p levels es x)) next_is
            ∙ past_both m.next (notes.part_flows q) (notes.right_flows tail) (notes.part_imports q) (notes.right_imports tail) (notes.part_nodes q) (notes.right_nodes tail)
            ∙ left.numbers;
        few = adds.few;
      }
