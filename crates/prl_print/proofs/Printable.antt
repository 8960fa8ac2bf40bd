-- A printable program is printed as a text of itself, places aside.
use Rattle.prl_base.proofs.Standard.{◌≡◌, ◌≤◌, ℕ, List, map, length, Vec, Global, Result, Ok, Err, IfOk, sym, ap, subst, arith, length-map}
use Rattle.prl_ast.specs.Trees.{ProgramTree}
use Rattle.prl_syntax.specs.Parsing.{IsProgramOf}
use Rattle.prl_print.specs.Printing.{printed}
use Rattle.prl_print.specs.Places.{unplaced_node}
use Rattle.prl_print.specs.RoundTrip.{IsTextOf}
use Rattle.prl_print.proofs.Meant.{own}
use Rattle.prl_print.proofs.Own.{AreOwn}
use Rattle.prl_print.proofs.PrintedParts.{printed_reads}

-- what is read from the printed text of a program in range, whose names are no keywords, is the program, places aside
pub own_reads_back : (p : ProgramTree) → AreOwn p → length p.nodes ≤ 256 → IsTextOf (printed p) p
own_reads_back p h nodes =
    let x = printed_reads p h in
    let same : length (map unplaced_node x.0.nodes) ≡ length (map unplaced_node p.nodes) = ap (λ (q : ProgramTree). length q.nodes) x.1 in
    let few : length x.0.nodes ≤ 256 = omega (arith, same, length-map x.0.nodes unplaced_node, length-map p.nodes unplaced_node, nodes) in
    record { tree = x.0; is = record { read = x.2; nodes = few }; same = x.1 }

-- and so is that of the program of a text
pub reads_back : (source : List ℕ) (p : ProgramTree) → IsProgramOf source p → IsTextOf (printed p) p
reads_back source p h = own_reads_back p (own source p h) h.nodes

pub result_reads_back : {E : Type 0} (p : ProgramTree) (r : Result (Vec ℕ Global) E) → IfOk r (λ text. text.items ≡ printed p) → (source : List ℕ) → IsProgramOf source p → IfOk r (λ text. IsTextOf text.items p)
result_reads_back p (Ok text) e source h = subst (λ t. IsTextOf t p) (sym e) (reads_back source p h)
result_reads_back p (Err fault) e source h = tt
