use Rattle.std.proofs.Common.{length, sym, ◌∙◌, arith}
use Rattle.prl_plan.specs.Vocabulary.{operand_of, edge_at, reading}
use Rattle.prl_plan.proofs.SumLaws.{sum_ones, sum_steps, constant_reads, early_read, late_read}
use Rattle.prl_plan.proofs.plans.Plan.reads_on.Goals as goal

pub returns-in-Constant-clause-count : goal.returns-in-Constant-clause-count
returns-in-Constant-clause-count c =
    let from = sym c.source_of.ensures ∙ c.in-Constant.is in
    sym (sum_ones (λ n. length (reading c.args.self.now c.args.e.0 (edge_at c.args.self.now.graph c.args.e.0) (operand_of (edge_at c.args.self.now.graph c.args.e.0) n))) c.args.jobs
    (constant_reads c.args.self.now c.args.e.0 (edge_at c.args.self.now.graph c.args.e.0) c.in-Constant.field-0 from))

pub returns-in-Port-clause-count : goal.returns-in-Port-clause-count
returns-in-Port-clause-count c =
    let from = sym c.source_of.ensures ∙ c.in-Port.is in
    let first = c.constants_on.ensures.count in
    let steps = sum_steps (λ n. length (reading c.args.self.now c.args.e.0 (edge_at c.args.self.now.graph c.args.e.0) (operand_of (edge_at c.args.self.now.graph c.args.e.0) n))) c.constants_on.result c.args.jobs
    (early_read c.args.self.now c.args.e.0 (edge_at c.args.self.now.graph c.args.e.0) c.constants_on.result first c.in-Port.task c.in-Port.out from)
    (late_read c.args.self.now c.args.e.0 (edge_at c.args.self.now.graph c.args.e.0) c.constants_on.result first c.in-Port.task c.in-Port.out from) in
    omega (arith, steps, c.saturating_sub.ensures)
