use Rattle.prl_stages.proofs.Decided.{Laws, file_decided, grammar_decided, types_decided, bodies_decided}
use Rattle.prl_stages.proofs.laws.front_is_decided.Goals as goal

pub returns : goal.returns
returns c =
    let law : Laws = record {
      programs = c.each_text_has_one_outcome.ensures.some;
      types = c.each_program_has_an_outcome.ensures;
      names = c.right_names_stand_for_something.ensures;
      bodies = c.each_text_has_one_outcome-2.ensures.some;
      checks = c.each_list_of_bodies_has_an_outcome.ensures;
    } in
    record { files = file_decided; grammar = grammar_decided law; types = types_decided law; bodies = bodies_decided law }
