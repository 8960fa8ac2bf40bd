use Rattle.std.proofs.Common.{◌≡◌, ◌+◌, ◌++◌, ◌∷◌, [], inl, inr, ℕ, List, length, sym, subst, ◌∙◌, ap, arith}
use Rattle.prl_base.proofs.Standard.{cases_lt, get_or_append_left, get_or_push, length_push}
use Rattle.prl_plan.specs.declared.graphs.TaskGraph.{TaskGraph}
use Rattle.prl_plan.specs.declared.tables.Window.{Window}
use Rattle.prl_dates.specs.code.Windows.{AreWindows, AreWindowsOf}
use Rattle.prl_dates.proofs.windows.windows.Goals as goal

-- the list of one task more
one_more : (graph : TaskGraph) (bests tails : List ℕ) (i : ℕ) (before : List (List Window)) (list : List Window) → AreWindows graph bests tails i before →
    AreWindowsOf graph bests tails i list → AreWindows graph bests tails (i + 1) (before ++ list ∷ [])
one_more graph bests tails i before list are is = record {
  long = length_push before list ∙ ap (λ (n : ℕ). n + 1) are.long;
  each = λ j less. elim (cases_lt j i) [
    | inl earlier ↦
        subst (λ (ws : List Window). AreWindowsOf graph bests tails j ws) (sym (get_or_append_left before (list ∷ []) [] j (omega (arith, earlier, are.long)))) (are.each j earlier)
    | inr late ↦
        (let last : length before ≡ j = omega (arith, late, less, are.long) in
        let own : i ≡ j = omega (arith, late, less) in
        subst (λ (ws : List Window). AreWindowsOf graph bests tails j ws) (sym (get_or_push before list [] j last)) (subst (λ (k : ℕ). AreWindowsOf graph bests tails k list) own is))
  ];
}

pub loop-i-preserved : goal.loop-i-preserved
loop-i-preserved c =
    subst (λ (ws : List (List Window)). AreWindows c.args.graph.now c.args.bests.now c.args.tails.now (c.loop-i.i + 1) ws) (sym c.in_ok-push.ensures.items)
    (one_more c.args.graph.now c.args.bests.now c.args.tails.now c.loop-i.i c.loop-i.windows.items c.in_ok-windows_of.field-0 c.loop-i.invariant c.in_ok-windows_of.ensures)

pub returns : goal.returns
returns c =
    subst (λ (ws : List (List Window)). AreWindows c.args.graph.now c.args.bests.now c.args.tails.now (length c.args.graph.now.tasks) ws) (sym c.new.ensures)
    (subst (λ (k : ℕ). AreWindows c.args.graph.now c.args.bests.now c.args.tails.now k c.loop-i.windows.items)
    (let e : c.loop-i.i ≡ length c.args.graph.now.tasks = omega (arith, c.len-i-end.ensures) in e) c.loop-i.invariant)

pub windows_of-requires-clause-room : goal.windows_of-requires-clause-room
windows_of-requires-clause-room c = λ p below. c.requires.room c.loop-i.i p (omega (arith, c.len-i-end.ensures)) below
