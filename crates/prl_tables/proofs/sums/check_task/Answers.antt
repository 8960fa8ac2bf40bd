use Rattle.prl_base.proofs.Standard.{◌≡◌, ◌<◌, length, refl, subst, arith, inl, inr, cases_lt}
use Rattle.prl_tables.specs.Tables.{IsWhole}
use Rattle.prl_tables.proofs.Summed.{whole, not_whole}
use Rattle.prl_tables.proofs.sums.check_task.Goals as goal

pub returns-then-sums-wcet-clause-cause : goal.returns-then-sums-wcet-clause-cause
returns-then-sums-wcet-clause-cause c =
    let inside : c.loop-c.c < length c.args.list.now = c.loop-c-test.true in
    let long = c.requires.sums.long in (
      c.loop-c.c,
      refl,
      record {
        class = omega (arith, inside, long);
        not_whole = not_whole c.args.plan.now c.args.entries.now c.args.task.0 c.args.list.now c.requires.sums.each c.wcet_of-wcet.result c.wcet_of-wcet.ensures.wcet
            c.wcet_of-wcet.ensures.small c.loop-c.c inside _ c.if-sums-wcet.true;
        before = c.loop-c.invariant;
      },
    )

pub loop-c-preserved : goal.loop-c-preserved
loop-c-preserved c d below =
    let inside : c.loop-c.c < length c.args.list.now = c.loop-c-test.true in
    elim (cases_lt d c.loop-c.c) [
      | inl earlier ↦ c.loop-c.invariant d earlier
      | inr not_earlier ↦
          (let same : c.loop-c.c ≡ d = omega (arith, below, not_earlier) in
          subst (IsWhole c.args.plan.now c.args.entries.now c.args.task.0) same
          (whole c.args.plan.now c.args.entries.now c.args.task.0 c.args.list.now c.requires.sums.each c.wcet_of-wcet.result c.wcet_of-wcet.ensures.wcet
          c.wcet_of-wcet.ensures.small c.loop-c.c inside _ c.if-sums-wcet.false))
    ]
