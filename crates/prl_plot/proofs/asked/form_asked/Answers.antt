use Rattle.std.proofs.Common.{◌∙◌, ℕ, List, Option, subst, sym, refl}
use Rattle.prl_stages.specs.Given.{Given}
use Rattle.prl_stages.specs.Flattened.{HasClocks}
use Rattle.prl_stages.specs.Vocabulary.{program_alone}
use Rattle.prl_plot.proofs.asked.form_asked.Goals as goal

pub returns-in-Ok-clause-form : goal.returns-in-Ok-clause-form
returns-in-Ok-clause-form g c =
    let text = c.in_ok-program.program.items in
    let made = c.in-Ok.ensures in (
      c.in-Some.name.now,
      text,
      sym c.in-Some.ensures,
      c.in_ok-program.ensures.content,
      refl,
      (
        made.0,
        made.1,
        subst (λ (node : Option (List ℕ)). HasClocks (program_alone text node) made.0 made.1) c.in_ok-node.ensures
            (subst (λ (given : Given). HasClocks given made.0 made.1) c.request_of-request.ensures.given made.2),
        c.new.ensures ∙ made.3,
      ),
    )
