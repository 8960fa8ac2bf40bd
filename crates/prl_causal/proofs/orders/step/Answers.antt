use Rattle.prl_base.proofs.Standard.{◌<◌, ◌∷◌, [], ◌++◌, length, refl, ◌∙◌, ap, subst, length_push}
use Rattle.prl_causal.specs.code.Parts.{marked_count}
use Rattle.prl_causal.proofs.Lists.{mark_set, mark_counted, count_below}
use Rattle.prl_causal.proofs.Sorting.{on_top, used_below, taken_off, placed_top, opened_used, way_back, fewer_to_open}
use Rattle.prl_causal.proofs.orders.step.Goals as goal
use Rattle.prl_causal.proofs.orders.step.Goals.{In-Some, Start}

-- the flow on top of the stack is one of the flows
low : (c : Start) → c.args.top < length c.args.sources.now
low c =
    on_top c.args.flat.now c.args.sources.now c.args.order.now.items c.args.placed.now c.args.opened.now c.args.seen.now c.args.stack.now.items c.args.top c.requires.sorted

-- and so is one that it uses
below : (c : In-Some) → c.in-Some.used.0 < length c.args.sources.now
below c =
    used_below c.args.flat.now c.args.sources.now c.args.order.now.items c.args.placed.now c.args.opened.now c.args.seen.now c.args.stack.now.items c.args.top c.in-Some.used.0 _
    c.requires.sources c.requires.sorted c.in-Some.ensures.missing.named

pub bounds-opened-used : goal.bounds-opened-used
bounds-opened-used c = rw c.requires.sorted.opens (below (goal.at.bounds-opened-used c).In-Some)

pub returns-then-opened-used-clause-back : goal.returns-then-opened-used-clause-back
returns-then-opened-used-clause-back c = λ e.
    way_back c.args.flat.now c.args.sources.now c.args.order.now.items c.args.placed.now c.args.opened.now _ c.args.seen.now c.args.stack.now.items c.args.top c.in-Some.used.0
    c.requires.sorted (low (goal.at.returns-then-opened-used-clause-back c).Start) c.in-Some.ensures.missing.named c.in-Some.ensures.missing.unmarked c.if-opened-used.true

pub bounds-opened-used-in-Some : goal.bounds-opened-used-in-Some
bounds-opened-used-in-Some c = rw c.requires.sorted.opens (below (goal.at.bounds-opened-used-in-Some c).In-Some)

pub bounds-placed-top-in-None : goal.bounds-placed-top-in-None
bounds-placed-top-in-None c = rw c.requires.sorted.len (low (goal.at.bounds-placed-top-in-None c).Start)

pub returns-in_ok-push-in-Some-2-clause-sorted : goal.returns-in_ok-push-in-Some-2-clause-sorted
returns-in_ok-push-in-Some-2-clause-sorted c = λ e.
    (let d = goal.at.returns-in_ok-push-in-Some-2-clause-sorted c in
    let items = c.in_ok-push-in-Some-2.ensures.items ∙ ap (λ l. l ++ c.in-Some.used.0 ∷ []) c.in_ok-push-in-Some.ensures.items in
    rw items (opened_used c.args.flat.now c.args.sources.now c.args.order.now.items c.args.placed.now c.args.opened.now _ c.args.seen.now c.missing.new.seen
    c.args.stack.now.items c.args.top c.in-Some.used.0 c.requires.sorted (low d.Start) (below d.In-Some) c.in-Some.ensures.missing.named
    c.in-Some.ensures.seen (c.missing.auto.seen ∙ c.requires.sorted.apps)))

pub returns-in_ok-push-in-Some-2-clause-less : goal.returns-in_ok-push-in-Some-2-clause-less
returns-in_ok-push-in-Some-2-clause-less c = λ e.
    (let all = c.args.sources.now in
    let opened = c.args.opened.now in
    let stack = c.args.stack.now.items in
    let used = c.in-Some.used.0 in
    let there : used < length opened = rw c.requires.sorted.opens (below (goal.at.returns-in_ok-push-in-Some-2-clause-less c).In-Some) in
    let few : marked_count opened < length all = subst (λ n. marked_count opened < n) c.requires.sorted.opens (count_below opened used there c.if-opened-used.false) in
    let items = c.in_ok-push-in-Some-2.ensures.items ∙ ap (λ l. l ++ used ∷ []) c.in_ok-push-in-Some.ensures.items in
    fewer_to_open (length all) (marked_count opened) _ (length c.args.order.now.items) _ (length (stack ++ c.args.top ∷ [])) _
    (mark_counted opened used there c.if-opened-used.false) few refl (ap length items ∙ length_push (stack ++ c.args.top ∷ []) used))

pub returns-in_ok-push-in-None-clause-sorted : goal.returns-in_ok-push-in-None-clause-sorted
returns-in_ok-push-in-None-clause-sorted c = λ e.
    (let p = c.args.flat.now in
    let all = c.args.sources.now in
    let placed = c.args.placed.now in
    let below : c.args.top < length placed = rw c.requires.sorted.len (low (goal.at.returns-in_ok-push-in-None-clause-sorted c).Start) in
    rw c.in_ok-push-in-None.ensures.items (taken_off p all _ _ c.args.opened.now c.missing.new.seen c.args.stack.now.items c.args.top
    (placed_top p all c.args.order.now.items placed c.args.opened.now _ c.args.seen.now c.missing.new.seen c.args.stack.now.items c.args.top c.requires.sorted below c.if-placed-top.false
    c.in-None.ensures.missing c.in-None.ensures.seen (c.missing.auto.seen ∙ c.requires.sorted.apps))
    (mark_set placed c.args.top below)))
