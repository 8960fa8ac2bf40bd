use Rattle.prl_base.proofs.Standard.{◌∙◌, ap, sym, subst, length, length-append, ◌∷◌, [], map, arith, vec_items, List, Some, ◌≡◌, ℕ, slice_get, map_push}
use Rattle.prl_frames.specs.declared.spans.Span.{Span}
use Rattle.prl_frames.specs.code.Making.{AreTaskSpans}
use Rattle.prl_overlaps.proofs.Listed.{pushed}
use Rattle.prl_frames.proofs.spans.all_spans.Goals as goal

pub loop-i-preserved : goal.loop-i-preserved
loop-i-preserved c =
    let items = ap (map vec_items) c.in_ok-push.ensures.items ∙ map_push vec_items c.loop-i.lists.items c.in_ok-task_spans.field-0 in
    let tasks = c.loop-i.invariant.tasks in
    record {
      tasks = (let n = ap length items in let l = length-append (map vec_items c.loop-i.lists.items) (vec_items c.in_ok-task_spans.field-0 ∷ []) in omega (arith, n, l, tasks));
      each = λ i list at.
          pushed (AreTaskSpans c.args.plan.now c.args.entries.now) (map vec_items c.loop-i.lists.items) (vec_items c.in_ok-task_spans.field-0) c.loop-i.invariant.each
          (subst (λ (n : ℕ). AreTaskSpans c.args.plan.now c.args.entries.now n (vec_items c.in_ok-task_spans.field-0)) (sym tasks) c.in_ok-task_spans.ensures) i list
          (subst (λ (xs : List (List Span)). slice_get xs i ≡ Some list) items at);
    }
