use Rattle.std.proofs.Common.{arith, ◌≡◌, ◌+◌, ◌*◌, ℕ, length, replicate, ap, ◌∙◌}
use Rattle.prl_plan.specs.declared.graphs.TaskGraph.{TaskGraph}
use Rattle.prl_rule.specs.Vocabulary.{word_count, known, run_of}
use Rattle.prl_seats.proofs.board.Board.open.Goals as goal

pub of_words-requires : goal.of_words-requires
of_words-requires c =
    let tasks : c.len.result ≡ length c.args.plan.now.graph.tasks = c.len.ensures ∙ ap (λ (t : TaskGraph). length t.tasks) c.graph.ensures.graph in
    let slots = c.total.ensures in
    let count : 2 + c.len.result + 2 * c.total.result ≡ word_count (run_of (known c.args.plan.now c.args.horizon c.args.gate c.args.sensors.now c.args.bodies.now)) = omega (arith, tasks, slots) in
    c.rule_holds_at_the_opening.ensures.board (known c.args.plan.now c.args.horizon c.args.gate c.args.sensors.now c.args.bodies.now) c.plan_facts.ensures
    (c.run_values_keep_facts.ensures (known c.args.plan.now c.args.horizon c.args.gate c.args.sensors.now c.args.bodies.now) c.plan_is_one.ensures c.requires.bodies c.requires.rows)
    c.as_slice.result.now (c.as_slice.ensures.value ∙ (c.in_ok-words.ensures ∙ ap (λ (n : ℕ). replicate n 0) count))
