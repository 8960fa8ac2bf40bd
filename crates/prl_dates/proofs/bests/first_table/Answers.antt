use Rattle.std.proofs.Common.{◌≡◌, ◌+◌, ◌++◌, ℕ, List, replicate, sym, ap, subst, ◌∙◌}
use Rattle.prl_dates.specs.Vocabulary.{jobs_of, IsFirstTable}
use Rattle.prl_dates.proofs.FirstTables.{first_more}
use Rattle.prl_dates.proofs.bests.first_table.Goals as goal

pub loop-i-preserved : goal.loop-i-preserved
loop-i-preserved c =
    let items : c.push_times.new.table.items ≡ c.loop-i.table.items ++ replicate (jobs_of c.args.graph.now c.loop-i.i) c.first_of.result =
    c.in_ok-push_times.ensures ∙ ap (λ (n : ℕ). c.loop-i.table.items ++ replicate n c.first_of.result) c.jobs_of.ensures.jobs in
    subst (λ (xs : List ℕ). IsFirstTable c.args.graph.now c.args.first (c.loop-i.i + 1) xs) (sym items)
    (first_more c.args.graph.now c.args.first c.loop-i.i c.loop-i.table.items c.first_of.result c.loop-i.invariant c.first_of.ensures)
