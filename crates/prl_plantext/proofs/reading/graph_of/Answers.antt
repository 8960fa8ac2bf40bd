use Rattle.prl_base.proofs.Standard.{◌<◌, ℕ, List, length, ap, sym, ◌∙◌, arith, nat_tests}
use Rattle.prl_plantext.specs.code.Graphs.{before, lines_in, with_line, with_lines}
use Rattle.prl_plantext.proofs.Parts.{lines_step, shorter_after}
use Rattle.prl_plantext.proofs.reading.graph_of.Goals as goal

pub loop-rest-smaller : goal.loop-rest-smaller
loop-rest-smaller c =
    let empty = c.is_empty.ensures in
    let test = c.loop-rest-test.true in
    let some : 0 < length c.loop-rest.rest.now = grind (arith, nat_tests, empty, test) in
    let less = shorter_after 10 c.loop-rest.rest.now some in
    let rest = ap (λ (l : List ℕ). length l) c.cut_at.ensures.rest in
    omega (arith, less, rest)

pub loop-rest-preserved : goal.loop-rest-preserved
loop-rest-preserved c =
    let empty = c.is_empty.ensures in
    let test = c.loop-rest-test.true in
    let some : 0 < length c.loop-rest.rest.now = grind (arith, nat_tests, empty, test) in
    ap (λ g. with_lines g (lines_in c.cut_at.result.1.now)) c.in_ok-take_line.ensures
    ∙ ap (λ (line : List ℕ). with_lines (with_line c.loop-rest.found line) (lines_in c.cut_at.result.1.now)) c.cut_at.ensures.front
    ∙ ap (λ (rest : List ℕ). with_lines (with_line c.loop-rest.found (before 10 c.loop-rest.rest.now)) (lines_in rest)) c.cut_at.ensures.rest
    ∙ sym (lines_step c.loop-rest.found c.loop-rest.rest.now some)
    ∙ c.loop-rest.invariant
