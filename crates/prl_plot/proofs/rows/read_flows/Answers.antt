use Rattle.prl_base.proofs.Standard.{◌≡◌, ◌∙◌, Ok, Err, sym, subst, err_from_is_err_and}
use Rattle.prl_plot.specs.Rows.{with_record}
use Rattle.prl_plot.specs.declared.forms.Form.{Form}
use Rattle.csv.specs.Records.{fields_of}
use Rattle.prl_plot.proofs.RowsRead.{one_more, no_more, all_read}
use Rattle.prl_plot.proofs.rows.read_flows.Goals as goal

pub returns-then-not-branch : goal.returns-then-not-branch
returns-then-not-branch c =
    let inv = c.loop-number.invariant in
    let read = rw c.if-not-branch.true at (c.in_ok-read_record.ensures.found inv.0 inv.1) in
    sym inv.2 ∙ all_read c.args.form.now c.loop-number.number c.loop-number.found.flows.items inv.0 read

pub returns-in_err-push_record : goal.returns-in_err-push_record
returns-in_err-push_record c =
    let inv = c.loop-number.invariant in
    let read = rw c.if-not-branch.false at (c.in_ok-read_record.ensures.found inv.0 inv.1) in
    let p = err_from_is_err_and c.from_residual-in_err-push_record.result c.from_residual-in_err-push_record.ensures.1 in
    let fault = c.in_err-push_record.field-0.0 in
    rw (p.1, p.2) (λ some.
    sym inv.2
    ∙ no_more c.args.form.now c.loop-number.number c.loop-number.found.flows.items fault
    (fields_of c.read_record.new.fields) inv.0 read.0 read.1 (subst (λ (f : Form). with_record f c.loop-number.number c.loop-number.found.flows.items (fields_of c.read_record.new.fields) ≡ Err fault) c.in_ok-reading.ensures (c.in_err-push_record.ensures.exact some)))

pub loop-number-preserved : goal.loop-number-preserved
loop-number-preserved c =
    let inv = c.loop-number.invariant in
    let read = rw c.if-not-branch.false at (c.in_ok-read_record.ensures.found inv.0 inv.1) in (
      read.0,
      read.2,
      one_more c.args.form.now c.loop-number.number c.loop-number.found.flows.items c.push_record.new.found.flows.items (fields_of c.read_record.new.fields) inv.0 read.0 read.1
          (subst (λ (f : Form). with_record f c.loop-number.number c.loop-number.found.flows.items (fields_of c.read_record.new.fields) ≡ Ok c.push_record.new.found.flows.items) c.in_ok-reading.ensures c.in_ok-push_record.ensures.exact)
          ∙ inv.2,
      c.in_ok-push_record.ensures.places,
    )
