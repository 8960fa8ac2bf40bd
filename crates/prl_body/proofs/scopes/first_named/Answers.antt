use Rattle.std.proofs.Common.{◌∙◌, sym}
use Rattle.prl_body.proofs.FirstOf.{at_name, nothing, nothing_there, one}
use Rattle.prl_body.proofs.scopes.first_named.Goals as goal

pub returns-in_err-k : goal.returns-in_err-k
returns-in_err-k g c =
    let is = at_name c.args.name.now c.args.table.now c.bytes.result.now c.found.result c.bytes.ensures.bytes c.found.ensures in
    rw c.from_residual.ensures (sym (nothing (λ x. (g.T.Mentioned.placed x).name) c.args.name.now c.args.all.now c.args.table.now c.requires (is ∙ c.in_err-k.was)))

pub returns-in_err-one : goal.returns-in_err-one
returns-in_err-one g c =
    let is = at_name c.args.name.now c.args.table.now c.bytes.result.now c.found.result c.bytes.ensures.bytes c.found.ensures in
    rw c.from_residual-in_err-one.ensures
    (sym (nothing_there (λ x. (g.T.Mentioned.placed x).name) c.args.name.now c.args.all.now c.args.table.now c.requires c.in_ok-k.k (is ∙ c.in_ok-k.was) c.in_err-one.ensures.lookup.0))

pub returns : goal.returns
returns g c =
    let is = at_name c.args.name.now c.args.table.now c.bytes.result.now c.found.result c.bytes.ensures.bytes c.found.ensures in
    let lookup = c.in_ok-one.ensures.lookup in
    sym (one (λ x. (g.T.Mentioned.placed x).name) c.args.name.now c.args.all.now c.args.table.now c.requires c.in_ok-k.k c.in_ok-one.one.now (is ∙ c.in_ok-k.was) lookup.0 lookup.1)
