use Rattle.prl_base.proofs.Standard.{◌≡◌, ℕ, List, ◌∙◌, Ok, Err, sym, subst, map, vec_items, err_from_is_err_and}
use Rattle.csv.specs.Records.{fields_of}
use Rattle.prl_base.specs.declared.values.Ty.{Ty}
use Rattle.prl_sensors.specs.SensorRows.{Inputs, with_record}
use Rattle.prl_sensors.proofs.RowsRead.{one_more, no_more, all_read}
use Rattle.prl_sensors.proofs.rows.push_records.Goals as goal

abbrev inputs_of : List (List ℕ) → List Ty → Inputs
inputs_of names types = record { names = names; types = types }

pub returns-then-not-branch-clause-exact : goal.returns-then-not-branch-clause-exact
returns-then-not-branch-clause-exact c = λ all has.
    let inv = c.loop-number.invariant.2 all has in
    let read = rw c.if-not-branch.true at (c.in_ok-read_record.ensures.found inv.0 inv.1) in
    sym inv.2 ∙ all_read (inputs_of c.args.finder.now c.args.types.now) c.loop-number.number (map vec_items c.loop-number.rows.items) inv.0 read

pub returns-in_err-push_record-clause-exact : goal.returns-in_err-push_record-clause-exact
returns-in_err-push_record-clause-exact c = λ all has.
    let same = c.loop-number.invariant.1 in
    let inv = c.loop-number.invariant.2 all has in
    let read = rw c.if-not-branch.false at (c.in_ok-read_record.ensures.found inv.0 inv.1) in
    let p = err_from_is_err_and c.from_residual-in_err-push_record.result c.from_residual-in_err-push_record.ensures.1 in
    let fault = c.in_err-push_record.field-0.0 in
    rw (p.1, p.2) (λ some.
    sym inv.2
    ∙ no_more (inputs_of c.args.finder.now c.args.types.now) c.loop-number.number (map vec_items c.loop-number.rows.items) fault
    (fields_of c.read_record.new.fields) inv.0 read.0 read.1 (subst (λ (held : List (List ℕ)).
    with_record (inputs_of held c.args.types.now) c.loop-number.number (map vec_items c.loop-number.rows.items) (fields_of c.read_record.new.fields) ≡ Err fault)
    same (c.in_err-push_record.ensures.exact some)))

pub loop-number-preserved : goal.loop-number-preserved
loop-number-preserved c = (
  c.push_record.ensures.lists ∙ c.loop-number.invariant.0,
  c.push_record.ensures.same ∙ c.loop-number.invariant.1,
  λ all has.
      let same = c.loop-number.invariant.1 in
      let inv = c.loop-number.invariant.2 all has in
      let read = rw c.if-not-branch.false at (c.in_ok-read_record.ensures.found inv.0 inv.1) in (
        read.0,
        read.2,
        one_more (inputs_of c.args.finder.now c.args.types.now) c.loop-number.number (map vec_items c.loop-number.rows.items)
            (map vec_items c.push_record.new.rows.items) (fields_of c.read_record.new.fields) inv.0 read.0 read.1
            (subst (λ (held : List (List ℕ)).
            with_record (inputs_of held c.args.types.now) c.loop-number.number (map vec_items c.loop-number.rows.items) (fields_of c.read_record.new.fields)
            ≡ Ok (map vec_items c.push_record.new.rows.items)) same c.in_ok-push_record.ensures.exact)
            ∙ inv.2,
      ),
)
