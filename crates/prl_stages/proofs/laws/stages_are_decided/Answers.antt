use Rattle.prl_stages.proofs.Commands.{Laws, command_decided}
use Rattle.prl_stages.proofs.laws.stages_are_decided.Goals as goal

pub returns : goal.returns
returns c =
    let law : Laws = record {
      ones = c.findings_are_one.ensures;
      first = record {
        programs = c.each_text_has_one_outcome.ensures.some;
        types = c.each_program_has_an_outcome.ensures;
        names = c.right_names_stand_for_something.ensures;
        bodies = c.each_text_has_one_outcome-2.ensures.some;
        checks = c.each_list_of_bodies_has_an_outcome.ensures;
      };
      runs = record {
        expansions = c.programs_have_expansions.ensures;
        clocks = c.programs_have_outcomes.ensures;
        graphs = c.graphs_end_one_way.ensures.end;
        formed = c.graphs_are_well_formed.ensures;
        causality = c.causality_ends_one_way.ensures.end;
        rows = c.each_text_has_rows_or_a_fault.ensures;
        horizons = c.horizons_end_one_way.ensures.end;
        replays = c.replays_end_one_way.ensures.end;
      };
      plans = record {
        words = c.words_end_one_way.ensures.end;
        dates = c.dates_or_fault_exist.ensures.end;
        cells = c.cells_or_fault_exist.ensures;
      };
      tables = record {
        made = c.makes_or_faults_exist.ensures;
        read = c.tables_are_decided.ensures.read;
        checked = c.tables_are_decided.ensures.checked;
        placements = c.placements_or_faults_exist.ensures;
        replays = c.replays_end_one_way.ensures.end;
        dispatched = c.spread_plans_are_dispatched.ensures;
      };
    } in
    λ command range told g given. command_decided law command range.until told g given
