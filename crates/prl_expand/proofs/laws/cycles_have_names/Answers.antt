use Rattle.prl_expand.proofs.NamedCycles.{inside_named, label_named, now_named}
use Rattle.prl_expand.proofs.laws.cycles_have_names.Goals as goal

pub returns : goal.returns
returns c = record {
  now = λ p asked main types e range typed expansion. now_named p asked main types range typed e expansion;
  inside = λ p asked main types e range typed expansion. inside_named p asked main types range typed e expansion;
  label = λ p asked main types e range typed expansion. label_named p asked main types range typed e expansion;
}
