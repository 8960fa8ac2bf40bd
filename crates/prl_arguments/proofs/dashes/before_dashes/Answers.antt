use Rattle.prl_base.proofs.Standard.{◌∙◌, ℕ, ap, map, sym, take, take-map, string_bytes}
use Rattle.prl_arguments.proofs.dashes.before_dashes.Goals as goal

pub returns : goal.returns
returns c =
    sym (take-map string_bytes c.dashes_at.result c.args.words.now) ∙ ap (λ (n : ℕ). take n (map string_bytes c.args.words.now)) c.dashes_at.ensures.exact
