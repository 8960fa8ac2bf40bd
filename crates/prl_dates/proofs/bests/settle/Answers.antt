use Rattle.prl_base.proofs.Standard.{◌+◌, ◌*◌, ◌≤◌, ◌^◌, w64, ℕ, List, sym, subst, ◌∙◌, arith, ℤ, mul-le-mul_right, to_z_pos}
use Rattle.prl_plan.proofs.RoundPeriods.{task_is}
use Rattle.prl_dates.specs.declared.bests.First.TheVariants as firsts
use Rattle.prl_dates.specs.Vocabulary.{DateFault, IsDateFault, AreWithin}
use Rattle.prl_dates.specs.declared.faults.DateFault.TheVariants as faults
use Rattle.prl_dates.proofs.LaneSteps.{few_jobs}
use Rattle.prl_dates.proofs.Settles.{first_bests, late_fault, within_dues, loop_fault, round_still}
use Rattle.prl_dates.proofs.Indices.{before_all}
use Rattle.prl_dates.proofs.FirstTables.{first_within}
use Rattle.prl_dates.proofs.bests.settle.Goals as goal

pub rounds-requires-clause-long : goal.rounds-requires-clause-long
rounds-requires-clause-long c = c.requires.wcets.long ∙ before_all c.args.graph.now

pub rounds-requires-clause-few : goal.rounds-requires-clause-few
rounds-requires-clause-few c = omega (arith, c.requires.wcets.long, before_all c.args.graph.now, c.requires.well.few_jobs, c.saturating_sub-most.ensures)

pub rounds-requires-clause-within : goal.rounds-requires-clause-within
rounds-requires-clause-within c =
    first_within c.args.graph.now firsts.Wcet c.args.now.now (2 ^ 31) c.requires.wcets
    (λ i inside. omega (arith, (task_is c.args.graph.now c.requires.well i inside).wcet.1))

pub rounds-requires-clause-bests : goal.rounds-requires-clause-bests
rounds-requires-clause-bests c = first_bests c.args.graph.now c.requires.well c.args.now.now c.requires.wcets

pub first_above-requires-clause-high : goal.first_above-requires-clause-high
first_above-requires-clause-high c = c.in_ok-still.ensures.long ∙ c.requires.wcets.long ∙ before_all c.args.graph.now

pub first_above-requires-clause-low : goal.first_above-requires-clause-low
first_above-requires-clause-low c = c.requires.dues.long ∙ before_all c.args.graph.now

pub narrow-requires-clause-long : goal.narrow-requires-clause-long
narrow-requires-clause-long c = c.in_ok-still.ensures.long ∙ c.requires.wcets.long ∙ before_all c.args.graph.now

-- so many rounds raise no date to more than this
small_bound : (most : ℕ) (table : List ℕ) → most ≤ 20000 → AreWithin table ((most + 1) * 2 ^ 31) → AreWithin table (2 ^ 62)
small_bound most table few within q = omega (arith, within q, mul-le-mul_right (2 ^ 31) (let e : most + 1 ≤ 20001 = omega (arith, few) in e))

pub narrow-requires-clause-within : goal.narrow-requires-clause-within
narrow-requires-clause-within c =
    small_bound c.saturating_sub-most.result c.rounds.new.now
    (omega (arith, c.requires.wcets.long, before_all c.args.graph.now, c.requires.well.few_jobs, c.saturating_sub-most.ensures)) c.in_ok-still.ensures.within

pub returns-in-Some : goal.returns-in-Some
returns-in-Some c =
    let graph = c.args.graph.now in
    subst (λ (fault : DateFault). IsDateFault graph fault) (sym c.narrow.ensures)
    (late_fault graph c.requires.well c.saturating_sub-most.result
    (omega (arith, c.requires.wcets.long, before_all graph, c.saturating_sub-most.ensures)) c.rounds.new.now c.in_ok-still.ensures.bests c.args.dues.now c.requires.dues
    c.in-Some.task c.in-Some.n c.in-Some.ensures)

pub returns-then-still : goal.returns-then-still
returns-then-still c =
    let graph = c.args.graph.now in
    record {
      rounds = c.saturating_sub-most.result;
      bests = c.in_ok-still.ensures.bests;
      still = c.in_ok-still.ensures.still c.if-still.true;
      long = c.in_ok-still.ensures.long ∙ c.requires.wcets.long ∙ before_all c.args.graph.now;
      due = within_dues graph c.requires.well c.saturating_sub-most.result
          (omega (arith, c.requires.wcets.long, before_all graph, c.saturating_sub-most.ensures)) c.rounds.new.now c.in_ok-still.ensures.bests c.args.dues.now c.requires.dues
          c.in_default.ensures;
    }

pub round-requires-clause-long : goal.round-requires-clause-long
round-requires-clause-long c = c.in_ok-still.ensures.long ∙ c.requires.wcets.long ∙ before_all c.args.graph.now

pub round-requires-clause-small : goal.round-requires-clause-small
round-requires-clause-small c =
    small_bound c.saturating_sub-most.result c.rounds.new.now
    (omega (arith, c.requires.wcets.long, before_all c.args.graph.now, c.requires.well.few_jobs, c.saturating_sub-most.ensures)) c.in_ok-still.ensures.within

pub first_above-requires-2-clause-high : goal.first_above-requires-2-clause-high
first_above-requires-2-clause-high c =
    c.round.ensures.long ∙ c.in_ok-still.ensures.long ∙ c.requires.wcets.long ∙ before_all c.args.graph.now

pub first_above-requires-2-clause-low : goal.first_above-requires-2-clause-low
first_above-requires-2-clause-low c = c.in_ok-still.ensures.long ∙ c.requires.wcets.long ∙ before_all c.args.graph.now

pub returns-in-Some-first_above : goal.returns-in-Some-first_above
returns-in-Some-first_above c =
    let graph = c.args.graph.now in
    let first = c.in-Some-first_above.ensures in
    let few = few_jobs graph c.requires.well c.in-Some-first_above.task.0 c.in-Some-first_above.n first.of_period.0 first.of_period.1 in
    subst (λ (z : ℤ). IsDateFault graph (faults.Loop c.in-Some-first_above.task z)) (sym (to_z_pos w64 c.in-Some-first_above.n (omega (arith, few))))
    (loop_fault graph c.requires.well c.saturating_sub-most.result
    (omega (arith, c.requires.wcets.long, before_all graph, c.saturating_sub-most.ensures)) c.rounds.new.now c.in_ok-still.ensures.bests c.args.dues.now c.requires.dues
    c.args.lanes.now c.requires.lanes c.round.new.next c.round.ensures c.in_default.ensures c.in-Some-first_above.task c.in-Some-first_above.n first)

pub returns : goal.returns
returns c =
    let graph = c.args.graph.now in
    record {
      rounds = c.saturating_sub-most.result;
      bests = c.in_ok-still.ensures.bests;
      still = round_still graph c.requires.well c.saturating_sub-most.result
          (omega (arith, c.requires.wcets.long, before_all graph, c.saturating_sub-most.ensures)) c.rounds.new.now c.in_ok-still.ensures.bests c.args.dues.now c.requires.dues
          c.args.lanes.now c.requires.lanes c.round.new.next c.round.ensures c.in_default-first_above.ensures;
      long = c.in_ok-still.ensures.long ∙ c.requires.wcets.long ∙ before_all c.args.graph.now;
      due = within_dues graph c.requires.well c.saturating_sub-most.result
          (omega (arith, c.requires.wcets.long, before_all graph, c.saturating_sub-most.ensures)) c.rounds.new.now c.in_ok-still.ensures.bests c.args.dues.now c.requires.dues
          c.in_default.ensures;
    }
