use Rattle.prl_base.proofs.Standard.{List, ℕ, subst, sym, slice_index_or, slice_get-get_or}
use Rattle.prl_plan.specs.Plans.{PlanView}
use Rattle.prl_tables.specs.Tables.{ArePieces, IsPiece}
use Rattle.prl_overlaps.specs.declared.entries.Entry.{Entry}
use Rattle.prl_views.proofs.tables.pieces_of.Goals as goal

-- stands where there is no entry
abbrev no_entry : Entry
no_entry = record { at = 0; task = record { 0 = 0 }; job = 0; units = 0 }

pub push_entry-requires-clause-task : goal.push_entry-requires-clause-task
push_entry-requires-clause-task c =
    let entries : List Entry = c.as_slice-entries.result.now in
    let good : ArePieces c.args.plan.now entries = subst (λ (list : List Entry). ArePieces c.args.plan.now list) (sym c.as_slice-entries.ensures) c.requires.good.pieces in
    let piece : IsPiece c.args.plan.now (slice_index_or entries c.loop-entry.entry-index no_entry) =
    good c.loop-entry.entry-index _ (slice_get-get_or entries c.loop-entry.entry-index no_entry c.loop-entry-test.true) in
    piece.task

pub push_entry-requires-clause-end : goal.push_entry-requires-clause-end
push_entry-requires-clause-end c =
    let entries : List Entry = c.as_slice-entries.result.now in
    let entry : Entry = slice_index_or entries c.loop-entry.entry-index no_entry in
    let good : ArePieces c.args.plan.now entries = subst (λ (list : List Entry). ArePieces c.args.plan.now list) (sym c.as_slice-entries.ensures) c.requires.good.pieces in
    c.pieces_are_short.ensures.end c.args.plan.now c.plan_is_one.ensures entry
    (good c.loop-entry.entry-index entry (slice_get-get_or entries c.loop-entry.entry-index no_entry c.loop-entry-test.true))
