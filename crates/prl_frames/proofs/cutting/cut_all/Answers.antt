use Rattle.prl_base.proofs.Standard.{◌<◌, length, slice_index_or, slice_get-get_or, arith}
use Rattle.prl_tables.specs.Vocabulary.{Entry}
use Rattle.prl_frames.proofs.cutting.cut_all.Goals as goal

abbrev no_entry : Entry
no_entry = record { at = 0; task = record { 0 = 0 }; job = 0; units = 0 }

pub span_at-span-requires-clause-piece : goal.span_at-span-requires-clause-piece
span_at-span-requires-clause-piece c =
    let inside : c.loop-entry.entry-index < length c.args.entries.now = (let t = c.loop-entry-test.true in let e = c.loop-entry.auto.entry-index-end in omega (arith, t, e)) in
    c.requires.pieces c.loop-entry.entry-index (slice_index_or c.args.entries.now c.loop-entry.entry-index no_entry)
    (slice_get-get_or c.args.entries.now c.loop-entry.entry-index no_entry inside)

pub push_cut-requires-clause-end : goal.push_cut-requires-clause-end
push_cut-requires-clause-end c =
    let inside : c.loop-entry.entry-index < length c.args.entries.now = (let t = c.loop-entry-test.true in let e = c.loop-entry.auto.entry-index-end in omega (arith, t, e)) in
    c.pieces_are_short.ensures.end c.args.plan.now c.graph.ensures.plan (slice_index_or c.args.entries.now c.loop-entry.entry-index no_entry)
    (c.requires.pieces c.loop-entry.entry-index (slice_index_or c.args.entries.now c.loop-entry.entry-index no_entry)
    (slice_get-get_or c.args.entries.now c.loop-entry.entry-index no_entry inside))
