use Rattle.prl_base.proofs.Standard.{◌+◌, ◌==◌, ◌∙◌, ℕ, List, ap, position_or_len}
use Rattle.prl_views.specs.Parts.{used_of}
use Rattle.prl_views.proofs.parts.processor_row.Goals as goal

pub returns : goal.returns
returns c =
    ap (λ (k : ℕ). c.args.rows + k)
    (c.place_of.ensures.exact
    ∙ ap (λ (used : List ℕ). position_or_len (λ p. p == c.processor_of.result) used) c.requires.used
    ∙ ap (λ (q : ℕ). position_or_len (λ p. p == q) (used_of c.args.processors.now)) c.processor_of.ensures)
