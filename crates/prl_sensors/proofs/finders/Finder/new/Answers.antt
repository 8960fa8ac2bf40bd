use Rattle.prl_sensors.proofs.Firsts.{first_at_start}
use Rattle.prl_sensors.proofs.finders.Finder.new.Goals as goal

pub invariant_of-result : goal.invariant_of-result
invariant_of-result c = record {
  indices = c.in_ok-table.ensures;
  first = λ name. first_at_start c.args.names.now name;
}
