use Rattle.prl_base.proofs.Standard.{◌≡◌, ◌+◌, ◌-◌, ◌<◌, ◌++◌, ◌∙◌, ℕ, List, [], ◌∷◌, sym, ap, subst, arith, slice_index, get_or, set}
use Rattle.prl_plan.specs.Vocabulary.{task_at}
use Rattle.prl_plan.proofs.RoundPeriods.{task_is}
use Rattle.prl_dates.specs.Vocabulary.{Lane, Link, no_link, link_at, AreUpperDates, AreLowered}
use Rattle.prl_dates.proofs.Lowering.{from_inside, to_inside, to_small, lowered, fell_lowered}
use Rattle.prl_dates.proofs.latest.lower_one.Goals as goal

link_is : (lane : Lane) {links : List Link} (k : ℕ) → links ≡ lane.links → get_or links k no_link ≡ link_at lane k
link_is lane k same = ap (λ (ls : List Link). get_or ls k no_link) same

pub overflow_add-lane : goal.overflow_add-lane
overflow_add-lane c = record {
  fits = omega (
    arith,
    to_inside c.args.graph.now c.requires.well c.args.floor.now c.args.dates.now c.requires.dates c.args.lane.now c.requires.lane c.args.k c.requires.place c.requires.floor,
    c.requires.dates.long,
    c.requires.well.few_jobs,
  );
}

pub offset_bounds-dates-lane : goal.offset_bounds-dates-lane
offset_bounds-dates-lane c = record {
  fits = omega (
    arith,
    to_inside c.args.graph.now c.requires.well c.args.floor.now c.args.dates.now c.requires.dates c.args.lane.now c.requires.lane c.args.k c.requires.place c.requires.floor,
    c.requires.dates.long,
    c.requires.well.few_jobs,
  );
}

pub bounds-dates-lane : goal.bounds-dates-lane
bounds-dates-lane c = to_inside c.args.graph.now c.requires.well c.args.floor.now c.args.dates.now c.requires.dates c.args.lane.now c.requires.lane c.args.k c.requires.place c.requires.floor

pub latest_end-limit-requires-clause-fits : goal.latest_end-limit-requires-clause-fits
latest_end-limit-requires-clause-fits c =
    let t = task_is c.args.graph.now c.requires.well c.args.lane.now.to.0 c.requires.lane.to in
    omega (
      arith,
      to_small c.args.graph.now c.requires.well c.args.floor.now c.args.dates.now c.requires.dates c.args.lane.now c.requires.lane c.args.k c.requires.place c.requires.floor,
      c.requires.lane.small c.args.k,
      ap (λ (x : Link). x.gap) (link_is c.args.lane.now c.args.k c.as_slice.ensures),
      t.due.1,
      t.period.1,
    )

pub offset_bounds-dates-from : goal.offset_bounds-dates-from
offset_bounds-dates-from c = record {
  fits = omega (
    arith,
    from_inside c.args.graph.now c.requires.well c.args.floor.now c.args.dates.now c.requires.dates c.args.lane.now c.requires.lane c.args.k c.requires.place c.requires.floor,
    ap (λ (x : Link). x.from) (link_is c.args.lane.now c.args.k c.as_slice.ensures),
    c.requires.dates.long,
    c.requires.well.few_jobs,
  );
}

pub bounds-dates-from : goal.bounds-dates-from
bounds-dates-from c =
    omega (
      arith,
      from_inside c.args.graph.now c.requires.well c.args.floor.now c.args.dates.now c.requires.dates c.args.lane.now c.requires.lane c.args.k c.requires.place c.requires.floor,
      ap (λ (x : Link). x.from) (link_is c.args.lane.now c.args.k c.as_slice.ensures),
    )

pub returns-in_ok-push-clause-dates : goal.returns-in_ok-push-clause-dates
returns-in_ok-push-clause-dates c =
    let graph = c.args.graph.now in
    let lane : Lane = c.args.lane.now in
    let table : List ℕ = c.args.dates.now in
    let link : get_or c.as_slice.result.now c.args.k no_link ≡ link_at lane c.args.k = link_is lane c.args.k c.as_slice.ensures in
    let asked : c.latest_end-limit.result ≡ slice_index table (lane.first + c.args.k) + (link_at lane c.args.k).gap - (task_at graph lane.to.0).wcet =
    omega (arith, c.latest_end-limit.ensures, ap (λ (x : Link). x.gap) link, c.from-wcet.ensures, c.wcet_of.ensures) in
    let less : c.latest_end-limit.result < slice_index table (link_at lane c.args.k).from = omega (arith, c.if-limit-dates.true, ap (λ (x : Link). slice_index table x.from) link) in
    subst (λ (q : ℕ). AreUpperDates graph c.args.floor.now (set table q c.latest_end-limit.result)) (sym (ap (λ (x : Link). x.from) link))
    (lowered graph c.requires.well c.args.floor.now table c.requires.dates lane c.requires.lane c.args.k c.requires.place c.requires.floor c.latest_end-limit.result asked less)

pub returns-in_ok-push-clause-lowered : goal.returns-in_ok-push-clause-lowered
returns-in_ok-push-clause-lowered c =
    let graph = c.args.graph.now in
    let lane : Lane = c.args.lane.now in
    let table : List ℕ = c.args.dates.now in
    let link : get_or c.as_slice.result.now c.args.k no_link ≡ link_at lane c.args.k = link_is lane c.args.k c.as_slice.ensures in
    let asked : c.latest_end-limit.result ≡ slice_index table (lane.first + c.args.k) + (link_at lane c.args.k).gap - (task_at graph lane.to.0).wcet =
    omega (arith, c.latest_end-limit.ensures, ap (λ (x : Link). x.gap) link, c.from-wcet.ensures, c.wcet_of.ensures) in
    let less : c.latest_end-limit.result < slice_index table (link_at lane c.args.k).from = omega (arith, c.if-limit-dates.true, ap (λ (x : Link). slice_index table x.from) link) in
    let old : List ℕ = c.args.fell.now.items in
    let pushed : c.push.new.self.items ≡ old ++ (link_at lane c.args.k).from ∷ [] = c.in_ok-push.ensures.items ∙ ap (λ (x : Link). old ++ x.from ∷ []) link in
    subst (λ (q : ℕ). AreLowered graph table (set table q c.latest_end-limit.result) old c.push.new.self.items) (sym (ap (λ (x : Link). x.from) link))
    (fell_lowered graph c.requires.well c.args.floor.now table c.requires.dates lane c.requires.lane c.args.k c.requires.place c.requires.floor c.latest_end-limit.result asked less old
    c.push.new.self.items pushed)
