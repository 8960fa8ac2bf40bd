use Rattle.prl_base.proofs.Standard.{◌≡◌, ◌+◌, ◌-◌, ◌<◌, ◌++◌, ◌∙◌, ℕ, List, [], ◌∷◌, length, set, sym, ap, subst, arith, slice_index, refl, same_Some}
use Rattle.prl_plan.specs.Jobs.{task_at}
use Rattle.prl_dates.specs.Vocabulary.{Lane, Link, link_at, AreUnderWay, Leaves}
use Rattle.prl_dates.proofs.Rises.{IsHere, here_is, way_asks, way_more, lists_kept, lists_added}
use Rattle.prl_dates.proofs.exits.raise_one.Goals as goal
use Rattle.prl_dates.proofs.exits.raise_one.Goals.{After-as_slice, After-saturating_sub-asked, then-next-job+in_ok-push, else-next-job}

here : (c : After-as_slice) → IsHere c.args.graph.now c.args.lanes.now c.args.exit.lane c.args.exit.place c.index-lanes-exit.result c.as_slice.result.now
here c =
    here_is c.args.graph.now c.requires.well c.args.lanes.now c.requires.lanes c.args.exit.lane c.args.exit.place c.requires.inside c.index-lanes-exit.result c.index-lanes-exit.is
    c.as_slice.result.now c.as_slice.ensures

asked : (c : After-saturating_sub-asked) → IsHere c.args.graph.now c.args.lanes.now c.args.exit.lane c.args.exit.place c.index-lanes-exit.result c.as_slice.result.now →
    c.saturating_sub-asked.result
    ≡ slice_index c.args.now.now (link_at c.index-lanes-exit.result c.args.exit.place).from + (task_at c.args.graph.now c.index-lanes-exit.result.to.0).wcet - (link_at c.index-lanes-exit.result c.args.exit.place).gap
asked c h =
    omega (arith, c.saturating_sub-asked.ensures, c.from-wcet.ensures, c.wcet_of.ensures, ap (λ (x : Link). slice_index c.args.now.now x.from) h.link, ap (λ (x : Link). x.gap) h.link)

pub wcet_of-requires : goal.wcet_of-requires
wcet_of-requires c = (here (goal.at.wcet_of-requires c).After-as_slice).is.to

pub offset_bounds-now-link : goal.offset_bounds-now-link
offset_bounds-now-link c = record { fits = omega (arith, (here (goal.at.offset_bounds-now-link c).After-as_slice).from, c.requires.well.few_jobs) }

pub bounds-now-link : goal.bounds-now-link
bounds-now-link c = omega (arith, (here (goal.at.bounds-now-link c).After-as_slice).from, c.requires.long)

pub overflow_add-job : goal.overflow_add-job
overflow_add-job c = record { fits = omega (arith, (here (goal.at.overflow_add-job c).After-as_slice).to, c.requires.well.few_jobs) }

pub offset_bounds-next-job : goal.offset_bounds-next-job
offset_bounds-next-job c = record { fits = omega (arith, (here (goal.at.offset_bounds-next-job c).After-as_slice).to, c.requires.well.few_jobs) }

pub bounds-next-job : goal.bounds-next-job
bounds-next-job c = omega (arith, (here (goal.at.bounds-next-job c).After-as_slice).to, c.requires.long, c.requires.under_way.long)

pub offset_bounds-next-job-then-asked-next : goal.offset_bounds-next-job-then-asked-next
offset_bounds-next-job-then-asked-next c =
    record { fits = omega (arith, (here (goal.at.offset_bounds-next-job-then-asked-next c).After-as_slice).to, c.requires.well.few_jobs) }

pub bounds-next-job-then-asked-next : goal.bounds-next-job-then-asked-next
bounds-next-job-then-asked-next c = omega (arith, (here (goal.at.bounds-next-job-then-asked-next c).After-as_slice).to, c.requires.long, c.requires.under_way.long)

pub offset_bounds-now-job : goal.offset_bounds-now-job
offset_bounds-now-job c = record { fits = omega (arith, (here (goal.at.offset_bounds-now-job c).After-as_slice).to, c.requires.well.few_jobs) }

pub bounds-now-job : goal.bounds-now-job
bounds-now-job c = omega (arith, (here (goal.at.bounds-now-job c).After-as_slice).to, c.requires.long)

pub offset_bounds-next-job-then-asked-next-2 : goal.offset_bounds-next-job-then-asked-next-2
offset_bounds-next-job-then-asked-next-2 c =
    record { fits = omega (arith, (here (goal.at.offset_bounds-next-job-then-asked-next-2 c).After-as_slice).to, c.requires.well.few_jobs) }

pub bounds-next-job-then-asked-next-2 : goal.bounds-next-job-then-asked-next-2
bounds-next-job-then-asked-next-2 c =
    omega (arith, (here (goal.at.bounds-next-job-then-asked-next-2 c).After-as_slice).to, c.requires.long, c.requires.under_way.long)

pub returns-after-next-job-clause-under_way : goal.returns-after-next-job-clause-under_way
returns-after-next-job-clause-under_way c =
    let graph = c.args.graph.now in
    let lanes = c.args.lanes.now in
    let now : List ℕ = c.args.now.now in
    let next : List ℕ = c.args.next.now in
    let lane : Lane = c.index-lanes-exit.result in
    let job : ℕ = lane.first + c.args.exit.place in
    let value : ℕ = c.saturating_sub-asked.result in
    let old : List ℕ = c.args.rises.now.items in
    let h = here (goal.at.returns-after-next-job-clause-under_way c).After-as_slice in
    let in_table : job < length next = omega (arith, h.to, c.requires.long, c.requires.under_way.long) in
    let is = asked (goal.at.returns-after-next-job-clause-under_way c).After-saturating_sub-asked h in
    elim c.if-next-job.branch [
      | then-next-job+in_ok-push w ↦
          subst (λ (xs : List ℕ). AreUnderWay graph lanes now (set next job value) xs) (sym (ap (λ v. v.items) w.rises-is ∙ w.in_ok-push.ensures.items))
          (way_more graph lanes now next old c.requires.under_way c.args.exit.lane lane h.stands c.args.exit.place h.inside job value refl in_table is c.if-asked-next.true (old ++ job ∷ [])
          (lists_added graph lanes now next old c.requires.under_way c.args.exit.lane lane h.stands c.args.exit.place h.inside job value refl in_table is c.if-asked-next.true))
      | else-next-job w ↦
          subst (λ (xs : List ℕ). AreUnderWay graph lanes now (set next job value) xs) (sym (ap (λ v. v.items) w.rises-is))
          (way_more graph lanes now next old c.requires.under_way c.args.exit.lane lane h.stands c.args.exit.place h.inside job value refl in_table is c.if-asked-next.true old
          (lists_kept graph lanes now next old c.requires.under_way c.args.exit.lane lane h.stands c.args.exit.place h.inside job value refl in_table is c.if-asked-next.true w.if-next-job.false))
    ]

pub returns-after-next-job-clause-asks : goal.returns-after-next-job-clause-asks
returns-after-next-job-clause-asks c = λ lane at.
    (let h = here (goal.at.returns-after-next-job-clause-asks c).After-as_slice in
    let one : c.index-lanes-exit.result ≡ lane = same_Some _ _ (sym h.stands ∙ at) in
    let next : List ℕ = set c.args.next.now (c.index-lanes-exit.result.first + c.args.exit.place) c.saturating_sub-asked.result in
    subst (λ (x : Lane). Leaves x (task_at c.args.graph.now x.to.0).wcet c.args.now.now next c.args.exit.place) one
    (way_asks c.args.graph.now c.args.lanes.now c.args.now.now c.args.next.now c.args.rises.now.items c.requires.under_way c.args.exit.lane c.index-lanes-exit.result h.stands c.args.exit.place h.inside
    (c.index-lanes-exit.result.first + c.args.exit.place) c.saturating_sub-asked.result refl (omega (arith, h.to, c.requires.long, c.requires.under_way.long))
    (asked (goal.at.returns-after-next-job-clause-asks c).After-saturating_sub-asked h) c.if-asked-next.true))

pub returns-else-asked-next-clause-asks : goal.returns-else-asked-next-clause-asks
returns-else-asked-next-clause-asks c = λ lane at.
    (let h = here (goal.at.returns-else-asked-next-clause-asks c).After-as_slice in
    let one : c.index-lanes-exit.result ≡ lane = same_Some _ _ (sym h.stands ∙ at) in
    let is = asked (goal.at.returns-else-asked-next-clause-asks c).After-saturating_sub-asked h in
    subst (λ (x : Lane). Leaves x (task_at c.args.graph.now x.to.0).wcet c.args.now.now c.args.next.now c.args.exit.place) one (omega (arith, is, c.if-asked-next.false)))
