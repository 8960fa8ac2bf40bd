use Rattle.prl_base.proofs.Standard.{◌≡◌, Some, length, refl, sym, ap, subst, ◌∙◌, slice_get_read}
use Rattle.std.specs.List.{slice_get}
use Rattle.prl_causal.proofs.sources.arguments.Goals as goal

pub returns-clause-within : goal.returns-clause-within
returns-clause-within c = λ j arg h.
    let apps = c.args.flat.now.apps in
    let app = c.index-apps-app.result in
    let found : slice_get apps c.args.app ≡ Some app = slice_get_read apps (length apps) c.args.app app refl c.requires (rw c.apps.ensures.apps at c.index-apps-app.is) in
    let is = c.apps.ensures.well_formed.apps c.args.app app found in
    let same : c.as_slice.result.now ≡ app.args = c.as_slice.ensures ∙ ap (λ a. a.args) (sym c.index-apps-app.is) in
    is.args j arg (subst (λ l. slice_get l j ≡ Some arg) same h)
