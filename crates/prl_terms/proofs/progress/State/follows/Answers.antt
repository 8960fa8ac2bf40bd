use Rattle.std.proofs.Common.{◌++◌, [], ◌∷◌, sym, subst}
use Rattle.prl_terms.specs.Vocabulary.{HasState, State}
use Rattle.prl_terms.proofs.RuleStates.{says_nothing, agrees}
use Rattle.prl_terms.proofs.progress.State.follows.Goals as goal

pub returns-then-is_same : goal.returns-then-is_same
returns-then-is_same c is = says_nothing c.args.count c.args.rules.now.list c.args.rule c.args.marks.now c.args.self (c.is_same.ensures c.if-is_same.true) c.requires

pub returns-then-fits_rule : goal.returns-then-fits_rule
returns-then-fits_rule c is =
    let rules = c.args.rules.now.list in
    let open_one = subst (λ (s : State). HasState c.args.count rules c.args.marks.now s) c.in-Open.is c.requires in
    subst (λ (s : State). HasState c.args.count (rules ++ c.args.rule ∷ []) c.args.marks.now s) (sym c.in-Open.is)
    (agrees c.args.rule record { wanted_is = sym c.mark.ensures; found_is = sym c.mark-then-fits_rule.ensures } (c.is_same-then-fits_rule.ensures is) open_one)
