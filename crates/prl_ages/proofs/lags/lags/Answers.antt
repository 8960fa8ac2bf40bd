use Rattle.prl_base.proofs.Standard.{List, ℕ, Option, ◌∙◌, sym, subst, with_items_is}
use Rattle.prl_ages.specs.code.Lags.{AreAllLags}
use Rattle.prl_ages.proofs.Lagging.{known_all}
use Rattle.prl_ages.proofs.lags.lags.Goals as goal

pub returns : goal.returns
returns c =
    let new = c.spread_all.new.lags in
    subst (λ (xs : List (Option ℕ)). AreAllLags c.args.plan.now.graph c.args.chain.now c.args.a.0 xs)
    (sym (with_items_is c.in_ok-lags.lags new (c.spread_all.auto.lags ∙ c.as_mut_slice.ensures.len)))
    (known_all c.args.plan.now.graph c.args.chain.now c.args.a.0 new c.spread_all.ensures.are c.spread_all.ensures.known)
