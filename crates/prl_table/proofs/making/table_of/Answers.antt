use Rattle.prl_base.proofs.Standard.{List, sym, subst, IsPermutation}
use Rattle.prl_edf.specs.Pieces.{run_of}
use Rattle.prl_tables.specs.Tables.{IsGood}
use Rattle.prl_overlaps.specs.declared.entries.Entry.{Entry}
use Rattle.prl_table.specs.MakeFaults.{IsMade}
use Rattle.prl_table.proofs.MadeCode.{ordered_good}
use Rattle.prl_table.proofs.making.table_of.Goals as goal

pub returns-clause-good : goal.returns-clause-good
returns-clause-good c =
    subst (IsGood c.args.plan.now) (sym c.new.ensures)
    (c.made_table_is_good.ensures c.args.plan.now c.args.horizon c.graph.ensures.plan c.requires.run.until (run_of c.args.timed.now.pieces) c.requires.run.run.plain.edf c.requires.run.run.met
    c.requires.steady
    c.sort.new.entries.items
    (subst (λ (es : List Entry). IsPermutation es c.sort.new.entries.items) (c.in_ok-entries.ensures (run_of c.args.timed.now.pieces) c.requires.ticks) c.sort.ensures.same))

pub returns-clause-made : goal.returns-clause-made
returns-clause-made c =
    let permuted = subst (λ (es : List Entry). IsPermutation es c.sort.new.entries.items) (c.in_ok-entries.ensures (run_of c.args.timed.now.pieces) c.requires.ticks) c.sort.ensures.same in
    let good = c.made_table_is_good.ensures c.args.plan.now c.args.horizon c.graph.ensures.plan c.requires.run.until (run_of c.args.timed.now.pieces) c.requires.run.run.plain.edf
    c.requires.run.run.met c.requires.steady
    c.sort.new.entries.items permuted in
    subst (IsMade c.args.plan.now) (sym c.new.ensures) (record {
      within = c.args.horizon;
      timed = c.args.timed.now;
      run = c.requires.run;
      steady = c.requires.steady;
      cut = permuted;
      ordered = ordered_good c.args.plan.now c.sort.new.entries.items good c.sort.ensures.sorted;
    })
