use Rattle.prl_base.proofs.Standard.{List, ℕ, subst, sym}
use Rattle.std.specs.Str.{IsUtf8}
use Rattle.prl_frametext.proofs.NameTexts.{name_is_text}
use Rattle.prl_frametext.proofs.names.text_of_name.Goals as goal

pub unreachable-requires : goal.unreachable-requires
unreachable-requires c =
    c.in-Err.ensures.cases.0
    (subst (λ (bytes : List ℕ). IsUtf8 bytes) (sym c.name_of.ensures) (name_is_text c.args.plan.now.graph c.args.i.0 c.plan_is_one.ensures.graph))
