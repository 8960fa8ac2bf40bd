-- Numbers of flows, and the first fault.
use Rattle.std.proofs.Common.{◌≡◌, ◌<◌, ◌+◌, ◌++◌, ◌∙◌, ℕ, suc, List, [], ◌∷◌, length, length-append, drop, drop-cons, get_or, map, refl, sym, ap, subst, Option, Some, None, arith, append_assoc}
use Rattle.prl_ast.specs.Trees.{Tree, Trees, more, ProgramTree, EquationTree, tree_of, equation_tree}
use Rattle.prl_ast.specs.declared.declarations.Equation.{Equation}
use Rattle.prl_ast.specs.declared.expressions.Expr.{Expr}
use Rattle.prl_names.specs.ExprLists.{all_trees}
use Rattle.prl_types.specs.Vocabulary.{flows_of, all_flows, counted, first_at, faults_in, all_faults, equation_faults, equations_faults}

-- The parts up to the last ones have this number of flows and this first fault.
pub record ArePartsCounted (p : ProgramTree) (node : ℕ) (whole last : Trees) (flows fault : Option ℕ) : Type 0 where
  pub number : ℕ
  pub faults : List ℕ
  pub flows_are : flows ≡ counted number
  pub fault_is : fault ≡ first_at faults
  pub flows_add : number + length (all_flows p node last) ≡ length (all_flows p node whole)
  pub faults_add : faults ++ all_faults p node last ≡ all_faults p node whole

pub drop_trees : (exprs : List Expr) (i : ℕ) (e : Expr) → i < length exprs → e ≡ get_or exprs i e → all_trees (drop i exprs) ≡ more (tree_of e) (all_trees (drop (i + 1) exprs))
drop_trees exprs i e lt is =
    let next : suc i ≡ i + 1 = omega arith in
    ap all_trees (drop-cons exprs i e lt ∙ ap (λ (x : Expr). x ∷ drop (suc i) exprs) (sym is))
    ∙ ap (λ (k : ℕ). more (tree_of e) (all_trees (drop k exprs))) next

pub parts_more : (p : ProgramTree) (node : ℕ) (whole last rest : Trees) (t : Tree) (flows fault flows' fault' : Option ℕ) (h : ArePartsCounted p node whole last flows fault) → last ≡ more t rest
    → flows' ≡ counted (h.number + length (flows_of p node t)) → fault' ≡ first_at (h.faults ++ faults_in p node t) → ArePartsCounted p node whole rest flows' fault'
parts_more p node whole last rest t flows fault flows' fault' h e f g = record {
  number = h.number + length (flows_of p node t);
  faults = h.faults ++ faults_in p node t;
  flows_are = f;
  fault_is = g;
  flows_add = (let add : h.number + length (all_flows p node (more t rest)) ≡ length (all_flows p node whole) = subst (λ (ts : Trees). h.number + length (all_flows p node ts) ≡ length (all_flows p node whole)) e h.flows_add in
      omega (arith, add, length-append (flows_of p node t) (all_flows p node rest)));
  faults_add = append_assoc h.faults (faults_in p node t) (all_faults p node rest) ∙ subst (λ (ts : Trees). h.faults ++ all_faults p node ts ≡ all_faults p node whole) e h.faults_add;
}

first_some : (xs ys : List ℕ) (at : ℕ) → first_at xs ≡ Some at → first_at (xs ++ ys) ≡ Some at
first_some [] ys at e = absurd (cc)
first_some (x ∷ xs) ys at e = e

first_none : (xs ys : List ℕ) → first_at xs ≡ None → first_at (xs ++ ys) ≡ first_at ys
first_none [] ys e = refl
first_none (x ∷ xs) ys e = absurd (cc)

drop_equations : (equations : List Equation) (i : ℕ) (e : Equation) → i < length equations → e ≡ get_or equations i e → map equation_tree (drop i equations) ≡ equation_tree e ∷ map equation_tree (drop (i + 1) equations)
drop_equations equations i e lt is =
    let next : suc i ≡ i + 1 = omega arith in
    ap (map equation_tree) (drop-cons equations i e lt ∙ ap (λ (x : Equation). x ∷ drop (suc i) equations) (sym is))
    ∙ ap (λ (k : ℕ). equation_tree e ∷ map equation_tree (drop k equations)) next

pub equation_some : (p : ProgramTree) (node : ℕ) (equations : List Equation) (i : ℕ) (e : Equation) (at : ℕ) → i < length equations → e ≡ get_or equations i e → Some at ≡ first_at (equation_faults p node (equation_tree e))
    → first_at (equations_faults p node (map equation_tree (drop i equations))) ≡ Some at
equation_some p node equations i e at lt is f =
    ap (λ (es : List EquationTree). first_at (equations_faults p node es)) (drop_equations equations i e lt is)
    ∙ first_some (equation_faults p node (equation_tree e)) (equations_faults p node (map equation_tree (drop (i + 1) equations))) at (sym f)

pub equation_none : (p : ProgramTree) (node : ℕ) (equations : List Equation) (i : ℕ) (e : Equation) → i < length equations → e ≡ get_or equations i e → None ≡ first_at (equation_faults p node (equation_tree e))
    → first_at (equations_faults p node (map equation_tree (drop i equations))) ≡ first_at (equations_faults p node (map equation_tree (drop (i + 1) equations)))
equation_none p node equations i e lt is f =
    ap (λ (es : List EquationTree). first_at (equations_faults p node es)) (drop_equations equations i e lt is)
    ∙ first_none (equation_faults p node (equation_tree e)) (equations_faults p node (map equation_tree (drop (i + 1) equations))) (sym f)
