use Rattle.std.proofs.Common.{List, ℕ, subst}
use Rattle.prl_flow.specs.Vocabulary.{FlatProgram, IsCycleLabel}
use Rattle.prl_stages.specs.declared.faults.InputFile.TheVariants as parts
use Rattle.prl_stages.specs.Vocabulary.{IsFlattened, text_of}
use Rattle.prl_stages.proofs.laws.cycles_are_told_by_name.Goals as goal

pub returns : goal.returns
returns c g fault refuses =
    let flat : FlatProgram = refuses.0 in
    let made : IsFlattened g flat = refuses.1 in
    let label : List ℕ = refuses.2 in
    let range = c.programs_are_in_range.ensures (text_of g parts.Program) made.program made.is_main.program.written in
    let named = c.cycles_have_names.ensures.label made.program g.node made.main made.is_main.types made.expanded.expansion range made.is_main.typed made.expanded.is label in
    (label, refuses.4, named (subst (λ (p : FlatProgram). IsCycleLabel p label) made.expanded.flat_is refuses.3))
