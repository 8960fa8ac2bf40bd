use Rattle.std.proofs.Common.{rules, arith, ◌≡◌, ◌≢◌, ℕ, List, length, replicate, None, Err, ap, sym, ◌∙◌}
use borrow.Author.Tests.{eqb-false}
use Rattle.prl_base.specs.Lines.{lines_of}
use Rattle.prl_base.proofs.LineCuts.{option_map_none, length_cut}
use Rattle.prl_cores.specs.declared.texts.CoresFault.TheVariants as faults
use Rattle.prl_cores.specs.Processors.{or_line, placing_of, placed_in, placed_from}
use Rattle.prl_cores.proofs.Placing.{placed_more, placed_fault, placed_last}
use Rattle.prl_cores.proofs.texts.placed.Goals as goal

pub returns-in_err-place-clause-exact : goal.returns-in_err-place-clause-exact
returns-in_err-place-clause-exact c =
    let at : c.in_err-place.field-0.0 ≢ faults.Memory → placed_from c.args.names.now 1 (replicate (length c.args.names.now) None) (lines_of c.args.text.now) ≡ Err c.in_err-place.field-0.0 =
    λ told. sym c.loop-line.invariant.told
    ∙ placed_fault c.args.names.now c.loop-line.number c.loop-line.table.items c.loop-line.rest.now c.in-Some.line.now c.in-Some.after.now c.in_err-place.field-0.0 (sym c.in-Some.ensures)
    (ap (λ (line : List ℕ). or_line c.loop-line.number (placed_in c.loop-line.table.items (placing_of c.args.names.now line))) (sym c.without_return.ensures) ∙ c.in_err-place.ensures.exact told) in
    search rules

pub loop-line-preserved : goal.loop-line-preserved
loop-line-preserved c =
    let read = ap (λ (line : List ℕ). or_line c.loop-line.number (placed_in c.loop-line.table.items (placing_of c.args.names.now line))) (sym c.without_return.ensures) ∙ c.in_ok-place.ensures.exact in
    let shorter = length_cut c.loop-line.rest.now c.in-Some.line.now c.in-Some.after.now (sym c.in-Some.ensures) in
    record {
      told = placed_more c.args.names.now c.loop-line.number c.loop-line.table.items c.place.new.table.items c.loop-line.rest.now c.in-Some.line.now c.in-Some.after.now (sym c.in-Some.ensures) read
          ∙ c.loop-line.invariant.told;
      long = c.in_ok-place.ensures.long ∙ c.loop-line.invariant.long;
      few = omega (arith, shorter, c.loop-line.invariant.few);
    }

pub returns-in_err-place-2-clause-exact : goal.returns-in_err-place-2-clause-exact
returns-in_err-place-2-clause-exact c =
    let cut = option_map_none _ c.cut_line.result _ c.cut_line.ensures c.in_default-cut_line.not-Some in
    let some : length c.loop-line.rest.now ≡ 0 → ⊥ = eqb-false _ _ (sym c.is_empty.ensures ∙ c.if-is_empty.false) in
    let at : c.in_err-place-2.field-0.0 ≢ faults.Memory → placed_from c.args.names.now 1 (replicate (length c.args.names.now) None) (lines_of c.args.text.now) ≡ Err c.in_err-place-2.field-0.0 =
    λ told. sym c.loop-line.invariant.told
    ∙ placed_last c.args.names.now c.loop-line.number c.loop-line.table.items c.loop-line.rest.now cut some
    ∙ c.in_err-place-2.ensures.exact told in
    search rules

pub returns-clause-exact : goal.returns-clause-exact
returns-clause-exact c =
    let cut = option_map_none _ c.cut_line.result _ c.cut_line.ensures c.in_default-cut_line.not-Some in
    let some : length c.loop-line.rest.now ≡ 0 → ⊥ = eqb-false _ _ (sym c.is_empty.ensures ∙ c.if-is_empty.false) in
    sym c.loop-line.invariant.told ∙ placed_last c.args.names.now c.loop-line.number c.loop-line.table.items c.loop-line.rest.now cut some ∙ c.in_ok-place-2.ensures.exact
