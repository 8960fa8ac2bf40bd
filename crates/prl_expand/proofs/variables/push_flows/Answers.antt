use Rattle.prl_base.proofs.Standard.{ap, drop, map, drop_all}
use Rattle.prl_expand.specs.code.Variables.{def_of, param_of}
use Rattle.prl_expand.proofs.TermLists.{defs_end, terms_end}
use Rattle.prl_expand.proofs.variables.push_flows.Goals as goal

pub returns-else-k-defs : goal.returns-else-k-defs
returns-else-k-defs c =
    defs_end c.args.label.now c.loop-k.flows.items _ (map param_of (drop c.loop-k.k c.args.params.now)) (drop c.loop-k.k c.args.terms.now) (map def_of (drop c.loop-k.k c.args.defs.now))
    (ap (map def_of) (drop_all c.loop-k.k c.args.defs.now c.if-k-defs.false)) c.loop-k.invariant

pub returns-else-k-terms : goal.returns-else-k-terms
returns-else-k-terms c =
    terms_end c.args.label.now c.loop-k.flows.items _ (map param_of (drop c.loop-k.k c.args.params.now)) c.args.terms.now (map def_of (drop c.loop-k.k c.args.defs.now)) c.loop-k.k
    c.if-k-terms.false c.loop-k.invariant
