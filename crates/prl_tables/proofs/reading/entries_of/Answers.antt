use Rattle.std.proofs.Common.{rules, arith, ◌≡◌, ◌≢◌, ◌+◌, None, Some, Err, ap, sym, ◌∙◌, vec_items, length}
use borrow.Author.Tests.{eqb-false}
use Rattle.prl_base.specs.Lines.{lines_of}
use Rattle.prl_base.proofs.LineCuts.{option_map_none, length_cut}
use Rattle.prl_tables.specs.declared.reading.TableFault.TheVariants as faults
use Rattle.prl_tables.specs.TableTexts.{entries_from}
use Rattle.prl_tables.proofs.TextLines.{with_front, front_entry, front_fault, front_more}
use Rattle.prl_tables.proofs.reading.entries_of.Goals as goal

pub returns-in_err-entry : goal.returns-in_err-entry
returns-in_err-entry c =
    let at : c.in_err-entry.field-0.0 ≢ faults.Memory → entries_from 3 None (lines_of c.args.text.now) ≡ Err c.in_err-entry.field-0.0 =
    λ told. sym c.loop-line.invariant.told
    ∙ front_fault c.loop-line.number c.loop-line.last (vec_items c.loop-line.entries) c.loop-line.rest.now c.in-Some.line.now c.in-Some.after.now c.in_err-entry.field-0.0
    (sym c.in-Some.ensures) (c.in_err-entry.ensures told) in
    search rules

pub loop-line-preserved : goal.loop-line-preserved
loop-line-preserved c =
    record {
      told = ap (λ front. with_front front (entries_from (c.loop-line.number + 1) (Some c.in_ok-entry.entry) (lines_of c.in-Some.after.now))) c.in_ok-push.ensures.items
          ∙ front_entry c.loop-line.number c.loop-line.last (vec_items c.loop-line.entries) c.loop-line.rest.now c.in-Some.line.now c.in-Some.after.now c.in_ok-entry.entry
          (sym c.in-Some.ensures) c.in_ok-entry.ensures
          ∙ c.loop-line.invariant.told;
      few = (let few = c.loop-line.invariant.few in omega (arith, length_cut c.loop-line.rest.now c.in-Some.line.now c.in-Some.after.now (sym c.in-Some.ensures), few));
    }

pub returns-else-is_empty : goal.returns-else-is_empty
returns-else-is_empty c = λ _.
    let cut = option_map_none _ c.cut_line.result _ c.cut_line.ensures c.in_default.not-Some in
    let some : length c.loop-line.rest.now ≡ 0 → ⊥ = eqb-false _ _ (sym c.is_empty.ensures ∙ c.if-is_empty.false) in
    sym c.loop-line.invariant.told
    ∙ front_more c.loop-line.number c.loop-line.last (vec_items c.loop-line.entries) c.loop-line.rest.now cut some

pub loop-line-smaller : goal.loop-line-smaller
loop-line-smaller c = length_cut c.loop-line.rest.now c.in-Some.line.now c.in-Some.after.now (sym c.in-Some.ensures)
