use Rattle.prl_base.proofs.Standard.{ℕ, ◌∙◌, subst, arith, inl, inr, cases_eq}
use Rattle.prl_plan.specs.Rules.{KeepsGated}
use Rattle.prl_rule.specs.Vocabulary.{run_of, reached}
use Rattle.prl_exec.specs.Standing.{act_of}
use Rattle.prl_exec.proofs.alone.act_first.Goals as goal

pub returns-then-poll-clause-told : goal.returns-then-poll-clause-told
returns-then-poll-clause-told g c = λ r list stands. (c.loop-i.i, c.if-poll.ensures.told r list (c.loop-i.invariant.told r list stands).0)

pub loop-i-preserved : goal.loop-i-preserved
loop-i-preserved g c =
    let steps = c.loop-i.invariant.steps in let more = c.poll.ensures.steps in
    record {
      lone = c.poll.ensures.lone;
      tasks = c.poll.ensures.tasks ∙ c.loop-i.invariant.tasks;
      steps = omega (arith, steps, more);
      told = λ r list stands.
          let so_far = c.loop-i.invariant.told r list stands in
          let now = c.if-poll.ensures.told r list so_far.0 in (
            now.0,
            (λ j below keeps. elim (cases_eq j c.loop-i.i) [
              | inl same ↦ now.1 (subst (λ (n : ℕ). KeepsGated (run_of c.args.board.now.known) (reached (run_of c.args.board.now.known) list) (act_of n)) same keeps)
              | inr other ↦ so_far.1 j (omega (arith, below, other)) keeps
            ]),
          );
    }

pub returns-clause-told : goal.returns-clause-told
returns-clause-told g c = λ r list stands.
    let test = c.loop-i-test.false in let end = c.tasks-i-end.ensures in
    let so_far = c.loop-i.invariant.told r list stands in
    (so_far.0, (λ i inside. so_far.1 i (omega (arith, test, end, inside))))
