use Rattle.prl_base.proofs.Standard.{◌∙◌, Some, None, map, if◌then◌else◌, sym, ap, string_bytes}
use Rattle.prl_arguments.specs.code.Settings.{wanted_by, wanted_command}
use Rattle.prl_arguments.proofs.Taken.{decided, unformed}
use Rattle.prl_arguments.proofs.arguments.read_command.Goals as goal

pub returns-in_default-clause-exact : goal.returns-in_default-clause-exact
returns-in_default-clause-exact c = sym (unformed (map string_bytes c.args.words.now) (sym c.in_default.ensures))

pub returns-then-branch-clause-exact : goal.returns-then-branch-clause-exact
returns-then-branch-clause-exact c =
    let d = decided (map string_bytes c.args.words.now) (wanted_by c.in-Some.wanted) (sym c.in-Some.ensures) in
    sym (d.taken ∙ ap (λ b. if b then Some (wanted_command c.in-Some.wanted) else None) (sym c.in_ok-are_options_of.ensures ∙ c.if-branch.true))

pub returns-then-branch-clause-range : goal.returns-then-branch-clause-range
returns-then-branch-clause-range c =
    (decided (map string_bytes c.args.words.now) (wanted_by c.in-Some.wanted) (sym c.in-Some.ensures)).range (sym c.in_ok-are_options_of.ensures ∙ c.if-branch.true)

pub returns-else-branch-clause-exact : goal.returns-else-branch-clause-exact
returns-else-branch-clause-exact c =
    let d = decided (map string_bytes c.args.words.now) (wanted_by c.in-Some.wanted) (sym c.in-Some.ensures) in
    sym (d.taken ∙ ap (λ b. if b then Some (wanted_command c.in-Some.wanted) else None) (sym c.in_ok-are_options_of.ensures ∙ c.if-branch.false))
