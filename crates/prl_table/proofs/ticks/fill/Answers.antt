use Rattle.prl_base.proofs.Standard.{◌≡◌, ◌<◌, ℕ, Bool, cond, Option, Some, length, length-set, set, inl, inr, sym, ◌∙◌, ap, arith, slice_get, cases_eq, slice_get_within}
use Rattle.prl_base.specs.declared.numbers.TaskNo.{TaskNo}
use Rattle.prl_track.proofs.Places.{slice_get_set_same, slice_get_set_other}
use Rattle.prl_table.specs.MakeFaults.{job_in}
use Rattle.prl_table.proofs.MadeCode.{end_test, same_test, yes_test}
use Rattle.prl_table.proofs.ticks.fill.Goals as goal

same_tick : (a b : Option (TaskNo × ℕ)) → ◌≡◌ {A = Option (Option (TaskNo × ℕ))} (Some a) (Some b) → a ≡ b
same_tick a b e = cc

pub loop-t-preserved : goal.loop-t-preserved
loop-t-preserved c =
    let test = c.loop-t-test.true in
    let end = c.min-end.ensures in
    let len = c.len.ensures in
    let long = c.loop-t.invariant.long in
    let low = c.loop-t.auto.t in
    let inside : c.loop-t.t < length c.loop-t.ticks.items = omega (arith, test, end, len, long) in
    record {
      long = length-set c.loop-t.ticks.items c.loop-t.t (Some (c.args.piece.task, c.args.piece.job)) ∙ c.loop-t.invariant.long;
      near = omega (arith, test);
      ticks = λ run has u tick at. elim (cases_eq u c.loop-t.t) [
        | inl here ↦
            (let there = slice_get_set_same c.loop-t.ticks.items c.loop-t.t (Some (c.args.piece.task, c.args.piece.job)) inside in
            let is : Some (c.args.piece.task, c.args.piece.job) ≡ tick =
            same_tick (Some (c.args.piece.task, c.args.piece.job)) tick
            (sym there ∙ ap (slice_get (set c.loop-t.ticks.items c.loop-t.t (Some (c.args.piece.task, c.args.piece.job)))) (sym here) ∙ at) in
            ap job_in (sym is) ∙ sym (ap (λ (b : Bool). cond b (Some (c.args.piece.task.0, c.args.piece.job)) (run u)) (yes_test c.args.piece.from u c.loop-t.t (omega (arith, low, here)) here)))
        | inr other ↦
            (let was = sym (slice_get_set_other c.loop-t.ticks.items c.loop-t.t u (Some (c.args.piece.task, c.args.piece.job)) other) ∙ at in
            c.loop-t.invariant.ticks run has u tick was
            ∙ ap (λ (b : Bool). cond b (Some (c.args.piece.task.0, c.args.piece.job)) (run u)) (same_test c.args.piece.from u c.loop-t.t other))
      ];
    }

pub returns-clause-ticks : goal.returns-clause-ticks
returns-clause-ticks c = λ run has u tick at.
    let test = c.loop-t-test.false in
    let end = c.min-end.ensures in
    let len = c.len.ensures in
    let long = c.loop-t.invariant.long in
    let low = c.loop-t.auto.t in
    let near = c.loop-t.invariant.near in
    let w = slice_get_within c.loop-t.ticks.items u tick at in
    c.loop-t.invariant.ticks run has u tick at
    ∙ ap (λ (b : Bool). cond b (Some (c.args.piece.task.0, c.args.piece.job)) (run u))
    (end_test c.args.piece.from u c.loop-t.t c.args.piece.to (length c.args.ticks.now.items) (omega (arith, w, long)) (omega (arith, test, end, len)) low (omega (arith, near, end, len)))
