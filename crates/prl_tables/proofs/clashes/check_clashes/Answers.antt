use Rattle.prl_base.proofs.Standard.{ℕ, Option, MatchOption, subst}
use Rattle.prl_plan.specs.declared.graphs.TaskGraph.{TaskGraph}
use Rattle.prl_overlaps.specs.Vocabulary.{AreApart, IsFirstClash}
use Rattle.prl_tables.proofs.clashes.check_clashes.Goals as goal

pub returns-in-None-clause-apart : goal.returns-in-None-clause-apart
returns-in-None-clause-apart c =
    let told = subst (λ (o : Option (ℕ × ℕ)). MatchOption o (AreApart c.graph.result.now.hyper c.args.entries.now) (λ lines. IsFirstClash c.graph.result.now.hyper c.args.entries.now lines.0 lines.1))
    c.in-None.is c.in_ok-first_clash.ensures in
    subst (λ (g : TaskGraph). AreApart g.hyper c.args.entries.now) c.graph.ensures.graph told
