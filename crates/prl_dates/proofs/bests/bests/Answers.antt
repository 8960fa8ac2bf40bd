use Rattle.std.proofs.Common.{ℕ, List, length, sym, subst, ◌∙◌}
use Rattle.prl_dates.specs.declared.bests.First.TheVariants as firsts
use Rattle.prl_dates.specs.code.Tables.{AreFinal, IsFirstTable}
use Rattle.prl_base.proofs.Standard.{with_items_is}
use Rattle.prl_dates.proofs.FirstTables.{first_one}
use Rattle.prl_dates.proofs.bests.bests.Goals as goal

pub settle-requires-clause-copy : goal.settle-requires-clause-copy
settle-requires-clause-copy c =
    c.as_mut_slice-2.ensures.value
    ∙ first_one c.args.graph.now firsts.Wcet c.in_ok-next.next.items c.in_ok-now.now.items c.in_ok-next.ensures c.in_ok-now.ensures
    ∙ sym c.as_mut_slice.ensures.value

pub settle-requires-clause-wcets : goal.settle-requires-clause-wcets
settle-requires-clause-wcets c =
    subst (λ (xs : List ℕ). IsFirstTable c.args.graph.now firsts.Wcet (length c.args.graph.now.tasks) xs) (sym c.as_mut_slice.ensures.value) c.in_ok-now.ensures

pub returns : goal.returns
returns c =
    let new = c.settle.new.now in
    subst (λ (xs : List ℕ). AreFinal c.args.graph.now c.args.lanes.now xs)
    (sym (with_items_is c.in_ok-now.now new (c.settle.auto.now ∙ c.as_mut_slice.ensures.len))) c.in_ok-settle.ensures
