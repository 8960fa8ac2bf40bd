use Rattle.prl_stages.proofs.laws.runs_tell_of_behaviours.Goals as goal

pub returns : goal.returns
returns c = record {
  meaning_laws = record {
    solutions = c.behaviours_are_solutions.ensures;
    states = c.behaviours_are_of_their_states.ensures;
    clocks = c.clocks_are_unique.ensures.solutions;
  };
  fitted = c.expansions_have_bodies.ensures;
  solved = c.programs_have_one_solution.ensures;
  solves = c.solutions_are_of_their_clocks.ensures;
  read = c.rows_are_typed_and_enough.ensures;
  task_bodies = c.bodies_and_rows_serve_tasks.ensures.bodies;
  task_rows = c.bodies_and_rows_serve_tasks.ensures.rows;
  exist = c.job_values_exist.ensures;
  agree = c.job_values_are_one.ensures.edges;
  given = c.solutions_give_job_values.ensures.given;
  operands = c.solutions_give_job_values.ensures.operands;
  clock_of_task = c.ports_have_the_clock_of_their_task.ensures;
  got = c.actuators_get_the_outputs.ensures;
}
