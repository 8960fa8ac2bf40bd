use Rattle.prl_computed.proofs.Cited.{TextLaws, ValueLaws}
use Rattle.prl_computed.proofs.Ones.{computes}
use Rattle.prl_computed.proofs.laws.jobs_compute_the_behaviour.Goals as goal

pub returns : goal.returns
returns c = λ g e.
    let texts : TextLaws = record {
      programs = c.each_text_has_one_outcome.ensures.one;
      one = c.outcome_is_unique.ensures;
      ranges = c.programs_are_in_range.ensures;
      expansions = c.expansions_are_unique.ensures;
      formed = c.flats_are_well_formed.ensures;
      used = c.used_imports_have_bodies.ensures;
      fitted = c.expansions_have_bodies.ensures;
      solutions = c.behaviours_are_solutions.ensures;
      clocks = c.clocks_are_unique.ensures.solutions;
    } in
    let values : ValueLaws = record {
      solves = c.solutions_are_of_their_clocks.ensures;
      given = c.solutions_give_job_values.ensures.given;
      registers = c.solutions_give_job_values.ensures.registers;
      exist = c.job_values_exist.ensures;
      one_given = c.job_values_are_one.ensures.given;
      one_reads = c.job_values_are_one.ensures.reads;
    } in
    computes texts g e values
