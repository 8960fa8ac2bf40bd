use Rattle.prl_base.proofs.Standard.{◌<◌, ◌∙◌, ap, get_or, slice_get-get_or, subst}
use Rattle.prl_causal.specs.code.Ranks.{rank_at, source_rank}
use Rattle.prl_causal.specs.declared.sources.Source.TheVariants as sources
use Rattle.prl_causal.proofs.Ranking.{no_way_back}
use Rattle.prl_causal.proofs.searches.leads_back.Goals as goal

pub returns-then-source_rank-rank_at-clause-none : goal.returns-then-source_rank-rank_at-clause-none
returns-then-source_rank-rank_at-clause-none c =
    let ranks = c.args.ranks.now in
    let all = c.args.sources.now in
    let i = c.args.from in
    let source = get_or all i sources.Nothing in
    let found = slice_get-get_or all i sources.Nothing c.requires.within in
    let above = c.rank_at.ensures ∙ ap (λ xs. rank_at xs i) c.as_slice.ensures in
    let low = subst (λ x. source_rank ranks source < x) above (subst (λ x. x < c.rank_at.result) c.source_rank.ensures c.if-source_rank-rank_at.true) in
    λ same. no_way_back c.args.flat.now all ranks c.requires.ranks i source found low
