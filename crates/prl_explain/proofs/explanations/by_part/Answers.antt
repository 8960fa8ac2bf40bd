use Rattle.prl_base.proofs.Standard.{◌∙◌, ℕ, List, Option, ap, map, subst, IfOk, option_map, string_bytes}
use denote.Ref.{Bor}
use Rattle.prl_io.specs.Pairs.{value_of}
use Rattle.prl_explain.specs.Explanations.{IsByNamed}
use Rattle.prl_explain.specs.Texts.{option_of}
use Rattle.prl_explain.proofs.explanations.by_part.Goals as goal

pub returns : goal.returns
returns c =
    let words : List (List ℕ) = map string_bytes c.args.words.now in
    subst (λ (s : Option (List ℕ)). IfOk c.by_named.result (λ text. IsByNamed c.args.kind.now c.args.line.now (value_of (option_of c.args.part) words) s text.items))
    c.text_in.ensures.exact
    (subst (λ (n : Option (List ℕ)). IfOk c.by_named.result (λ text. IsByNamed c.args.kind.now c.args.line.now n (option_map (λ (t : Bor (List ℕ)). t.now) c.text_in.result) text.items))
    (c.value_of-name.ensures ∙ ap (λ (o : List ℕ). value_of o words) c.option_of.ensures) c.by_named.ensures)
