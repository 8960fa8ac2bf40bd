use Rattle.std.proofs.Common.{◌≡◌, false, true, subst}
use Rattle.prl_terms.specs.Vocabulary.{Unsolved, Refuses}
use Rattle.prl_terms.proofs.RuleStates.{passed_over, solved_too, contradicted}
use Rattle.prl_terms.proofs.progress.meet.Goals as goal

pub returns-in-Ok : goal.returns-in-Ok
returns-in-Ok c = solved_too c.args.rule c.requires c.in-Ok.ensures.kept c.in-Ok.ensures.count (c.in-Ok.ensures.meets c.args.rules.now.list)

pub returns-in-Err-Mismatch : goal.returns-in-Err-Mismatch
returns-in-Err-Mismatch c =
    let rules = c.args.rules.now.list in
    contradicted c.args.rule c.requires
    (λ solves. subst (λ (e : Unsolved). Refuses rules c.args.rule e) c.in-Err-Mismatch.field-0-is (c.in-Err-Mismatch.ensures.meets rules solves))

pub returns-else-fits_rule : goal.returns-else-fits_rule
returns-else-fits_rule c = passed_over c.args.rule c.requires (λ fits. let clash : false ≡ true = rw c.if-fits_rule.false at (c.fits_rule.ensures.1 fits) in cc)
