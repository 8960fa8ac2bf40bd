use Rattle.std.proofs.Common.{rules, ◌≡◌, ℕ, List, sum, ap, sym, ◌∙◌, arith}
use Rattle.prl_base.specs.declared.limits.Limit.{Limit}
use Rattle.prl_base.specs.declared.limits.What.TheVariants as whats
use Rattle.prl_plan.specs.declared.limits.TheConstants.{MAX_CELLS}
use Rattle.prl_buffers.specs.code.Tables.{bases_from}
use Rattle.prl_buffers.proofs.TableSteps.{least_cells, short_gaps, sums_are}
use Rattle.prl_buffers.proofs.tables.cells.Goals as goal

pub returns-then-list-from : goal.returns-then-list-from
returns-then-list-from c =
    let list = c.in-Ok.list in
    let f : c.from.result ≡ MAX_CELLS = search rules in
    record {
      cells = (
        bases_from 0 list.counts.items,
        list.counts.items,
        list.used.items,
        least_cells c.args.graph.now c.args.dates.now list.counts.items list.used.items list.sums.items c.in-Ok.ensures.0,
        ap (λ (n : ℕ). (let l : Limit = record { what = whats.Cells; found = n } in l)) c.in-Ok.ensures.1,
        omega (arith, c.if-list-from.true, f, c.in-Ok.ensures.1),
      );
    }

pub numbered-requires : goal.numbered-requires
numbered-requires c =
    let f : c.from.result ≡ MAX_CELLS = search rules in
    omega (arith, c.if-list-from.false, f, c.in-Ok.ensures.1, ap sum c.as_slice.ensures.value)

pub joined-requires-clause-lists : goal.joined-requires-clause-lists
joined-requires-clause-lists c =
    let list = c.in-Ok.list in
    let l = (least_cells c.args.graph.now c.args.dates.now list.counts.items list.used.items list.sums.items c.in-Ok.ensures.0).lengths in
    rw (c.in-Ok-numbered.ensures.bases, c.in-Ok-numbered.ensures.counts, c.as_slice.ensures.value) (record {
      counts_long = l.1 ∙ sym l.0;
      used_long = l.2 ∙ sym l.0;
      short = short_gaps c.args.graph.now c.args.dates.now list.counts.items list.used.items list.sums.items c.in-Ok.ensures.0;
    })

pub joined-requires-clause-sums : goal.joined-requires-clause-sums
joined-requires-clause-sums c =
    sums_are c.args.graph.now c.args.dates.now c.in-Ok.list.counts.items c.in-Ok.list.used.items c.in-Ok.list.sums.items c.in-Ok.ensures.0

pub returns-in-Ok-numbered : goal.returns-in-Ok-numbered
returns-in-Ok-numbered c =
    let list = c.in-Ok.list in
    let f : c.from.result ≡ MAX_CELLS = search rules in
    rw (c.joined.ensures, c.in-Ok-numbered.ensures.bases, c.in-Ok-numbered.ensures.counts, c.as_slice.ensures.value) (record {
      cells = (
        least_cells c.args.graph.now c.args.dates.now list.counts.items list.used.items list.sums.items c.in-Ok.ensures.0,
        omega (arith, c.if-list-from.false, f, c.in-Ok.ensures.1),
        short_gaps c.args.graph.now c.args.dates.now list.counts.items list.used.items list.sums.items c.in-Ok.ensures.0,
      );
    })
