use Rattle.prl_base.proofs.Standard.{◌≡◌, ℕ, None, Some, List, arith, refl, slice_index_or, slice_get, subst, sym, ◌∙◌, get, slice_get-get_or}
use Rattle.prl_base.specs.declared.operators.Clock.{Clock}
use Rattle.prl_calendar.specs.Kinds.{IsLast, pair_order}
use Rattle.prl_calendar.proofs.Chained.{chained_first, chained_next, chained_none, lasts_step}
use Rattle.prl_calendar.proofs.kinds.chains_of.Goals as goal
use Rattle.prl_calendar.proofs.kinds.chains_of.Goals.{in-Some, in-None+in_ok-push-in-None}

pub loop-place-init : goal.loop-place-init
loop-place-init c = (
  rw (c.in_ok-following.ensures, c.new-firsts.ensures.items) (chained_none c.args.clocks.now),
  λ d.
      let none : get pair_order c.new-last.result (d.period, d.start) ≡ None = rw c.new-last.ensures.empty refl in
      subst (IsLast c.args.clocks.now 0 d) (sym none) (λ m less found. omega (arith, less)),
)

pub index_mut-requires : goal.index_mut-requires
index_mut-requires c =
    let own : Clock = slice_index_or c.args.clocks.now c.loop-place.place (record { period = 0; start = 0 }) in
    let last : IsLast c.args.clocks.now c.loop-place.place own (Some c.in-Some.earlier) =
    subst (IsLast c.args.clocks.now c.loop-place.place own) (sym c.in_ok-earlier.ensures.old ∙ c.in-Some.is) (c.loop-place.invariant.1 own) in
    omega (arith, last.0, c.loop-place-test.true, c.loop-place.invariant.0.count)

pub loop-place-preserved : goal.loop-place-preserved
loop-place-preserved c =
    let clocks : List Clock = c.args.clocks.now in
    let i : ℕ = c.loop-place.place in
    let own : Clock = slice_index_or clocks i (record { period = 0; start = 0 }) in
    let here : slice_get clocks i ≡ Some own = slice_get-get_or clocks i (record { period = 0; start = 0 }) c.loop-place-test.true in
    let old : IsLast clocks i own c.in_ok-earlier.field-0 = subst (IsLast clocks i own) (sym c.in_ok-earlier.ensures.old) (c.loop-place.invariant.1 own) in
    let lasts = lasts_step clocks i own here (get pair_order c.loop-place.last) (get pair_order c.insert.new.self) c.in_ok-earlier.ensures.updates.0 c.loop-place.invariant.1 in
    let following : List ℕ = c.loop-place.following.items in
    let firsts : List ℕ = c.loop-place.firsts.items in
    elim c.match-branch-3.branch [
      | in-Some w ↦
          let chained = chained_next clocks i own here following firsts c.loop-place.invariant.0 w.in-Some.earlier (subst (IsLast clocks i own) w.in-Some.is old) in
          (rw (w.following-is, w.firsts-is) chained, lasts)
      | in-None+in_ok-push-in-None w ↦
          let chained = chained_first clocks i own here following firsts c.loop-place.invariant.0 (subst (IsLast clocks i own) w.in-None.is old) in
          (rw (w.following-is, w.firsts-is, w.in_ok-push-in-None.ensures.items) chained, lasts)
    ]
