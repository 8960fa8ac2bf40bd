use Rattle.prl_base.proofs.Standard.{true, subst, IsNonDecreasing, IsNonDecreasingBy-from_sort, non_decreasing_from_is_sorted}
use Rattle.prl_calendar.proofs.calendars.sort.Goals as goal

pub returns-then-is_sorted-clause-rising : goal.returns-then-is_sorted-clause-rising
returns-then-is_sorted-clause-rising c =
    subst IsNonDecreasing c.deref.ensures.value (non_decreasing_from_is_sorted c.deref.result.now true c.if-is_sorted.ensures.cases)

pub returns-clause-rising : goal.returns-clause-rising
returns-clause-rising c = IsNonDecreasingBy-from_sort (λ x. x) c.sort_unstable.new.self.items c.sort_unstable.ensures.sorted
