use Rattle.std.proofs.Common.{rules, ◌≡◌, ℕ, List, length, ap, ◌∙◌, subst, arith}
use Rattle.prl_plan.specs.Words.{number_at}
use Rattle.prl_plan.proofs.CellPeriods.{inside_from}
use Rattle.prl_plan.proofs.RoundPeriods.{task_is}
use Rattle.prl_buffers.specs.Vocabulary.{IsLeastTurn, AreReleases, AreEnds}
use Rattle.prl_buffers.proofs.EdgeNumbers.{edge_is, numbers_small}
use Rattle.prl_buffers.proofs.EdgeCells.{releases_fit, ends_fit, released, ends_small, least_is}
use Rattle.prl_buffers.proofs.edges.count_on.Goals.{After-deref}
use Rattle.prl_buffers.proofs.edges.count_on.Goals as goal

pub number-first-requires-clause-fits : goal.number-first-requires-clause-fits
number-first-requires-clause-fits c =
    omega (arith, numbers_small c.args.graph.now c.args.dates.now c.args.edge.now c.args.word.now c.requires.planned c.args.i.0 c.requires.comes 0 (omega arith))

pub releases_of-requires-clause-task : goal.releases_of-requires-clause-task
releases_of-requires-clause-task c =
    let p = c.requires.planned in
    inside_from c.args.graph.now p.well c.args.edge.now (edge_is c.args.graph.now c.args.dates.now c.args.edge.now c.args.word.now p c.args.i.0 c.requires.comes) c.args.i.0 c.requires.comes

pub releases_of-requires-clause-dates : goal.releases_of-requires-clause-dates
releases_of-requires-clause-dates c =
    let p = c.requires.planned in
    let inside = inside_from c.args.graph.now p.well c.args.edge.now (edge_is c.args.graph.now c.args.dates.now c.args.edge.now c.args.word.now p c.args.i.0 c.requires.comes) c.args.i.0 c.requires.comes in
    let l = p.dates.lists in
    omega (arith, inside, l)

pub releases_of-requires-clause-fit : goal.releases_of-requires-clause-fit
releases_of-requires-clause-fit c =
    let p = c.requires.planned in
    rw (c.number-first.ensures, c.as_slice.ensures)
    (releases_fit c.args.graph.now c.args.dates.now c.args.edge.now c.args.word.now p c.args.i.0 c.requires.comes c.args.turn.now.gaps c.args.turn.now.last c.requires.turn)

pub ends_of-requires-clause-task : goal.ends_of-requires-clause-task
ends_of-requires-clause-task c =
    (edge_is c.args.graph.now c.args.dates.now c.args.edge.now c.args.word.now c.requires.planned c.args.i.0 c.requires.comes).to

pub ends_of-requires-clause-dates : goal.ends_of-requires-clause-dates
ends_of-requires-clause-dates c =
    let l = c.requires.planned.dates.lists in
    omega (arith, (edge_is c.args.graph.now c.args.dates.now c.args.edge.now c.args.word.now c.requires.planned c.args.i.0 c.requires.comes).to, l)

pub ends_of-requires-clause-some : goal.ends_of-requires-clause-some
ends_of-requires-clause-some c =
    let inside = (edge_is c.args.graph.now c.args.dates.now c.args.edge.now c.args.word.now c.requires.planned c.args.i.0 c.requires.comes).to in
    omega (arith, (task_is c.args.graph.now c.requires.planned.well c.args.edge.now.to.0 inside).period.0)

before_is : (result : ℕ) (items prefix : List ℕ) → result ≡ length items → items ≡ prefix → result ≡ length prefix
before_is result items prefix a b = a ∙ ap length b

pub ends_of-requires-clause-fit : goal.ends_of-requires-clause-fit
ends_of-requires-clause-fit c =
    let p = c.requires.planned in
    let before : c.len-before.result ≡ length c.args.word.now.prefix = search rules in
    rw (before, c.as_slice-2.ensures)
    (ends_fit c.args.graph.now c.args.dates.now c.args.edge.now c.args.word.now p c.args.i.0 c.requires.comes c.args.turn.now.gaps c.args.turn.now.last c.requires.turn)

releases_are : (first number : ℕ) (items gaps : List ℕ) (Told : ℕ → List ℕ → Type 0) → first ≡ number → items ≡ gaps → Told first items → Told number gaps
releases_are first number items gaps Told a b told = rw (← a, ← b) told

-- the releases and the ends, by the numbers of the word
read : (c : After-deref) →
    AreReleases c.args.graph.now c.args.dates.now c.args.i.0 (number_at c.args.word.now 0) c.args.turn.now.gaps c.in_ok-releases.releases.items
    × AreEnds c.args.graph.now c.args.dates.now c.args.edge.now.to.0 (length c.args.word.now.prefix) c.args.turn.now.last c.in_ok-ends.ends.items
read c =
    let before : c.len-before.result ≡ length c.args.word.now.prefix = search rules in (
      releases_are c.number-first.result (number_at c.args.word.now 0) c.as_slice.result.now c.args.turn.now.gaps
          (λ first gaps. AreReleases c.args.graph.now c.args.dates.now c.args.i.0 first gaps c.in_ok-releases.releases.items) c.number-first.ensures c.as_slice.ensures c.in_ok-releases.ensures,
      releases_are c.len-before.result (length c.args.word.now.prefix) c.as_slice-2.result.now c.args.turn.now.last
          (λ from jobs. AreEnds c.args.graph.now c.args.dates.now c.args.edge.now.to.0 from jobs c.in_ok-ends.ends.items) before c.as_slice-2.ensures c.in_ok-ends.ensures,
    )

pub least_count-requires-clause-released : goal.least_count-requires-clause-released
least_count-requires-clause-released c =
    let p = c.requires.planned in
    let its = read (goal.at.least_count-requires-clause-released c).After-deref in
    rw c.deref.ensures.value
    (released c.args.graph.now c.args.dates.now c.args.edge.now c.args.word.now p c.args.i.0 c.requires.comes c.args.turn.now.gaps c.args.turn.now.last c.requires.turn
    c.in_ok-releases.releases.items c.in_ok-ends.ends.items its.0 its.1)

pub least_count-requires-clause-ends : goal.least_count-requires-clause-ends
least_count-requires-clause-ends c =
    let p = c.requires.planned in
    let its = read (goal.at.least_count-requires-clause-ends c).After-deref in
    rw c.deref-2.ensures.value
    (ends_small c.args.graph.now c.args.dates.now c.args.edge.now c.args.word.now p c.args.i.0 c.requires.comes c.args.turn.now.gaps c.args.turn.now.last c.requires.turn
    c.in_ok-releases.releases.items c.in_ok-ends.ends.items its.0 its.1)

pub returns : goal.returns
returns c =
    let p = c.requires.planned in
    let its = read (goal.at.returns c).After-deref in
    let least = subst (λ (l : List ℕ). IsLeastTurn l c.args.graph.now.hyper c.deref-2.result.now (length c.deref-2.result.now) c.least_count.result) c.deref.ensures.value c.least_count.ensures.least in
    least_is c.args.graph.now c.args.dates.now c.args.edge.now c.args.word.now p c.args.i.0 c.requires.comes c.args.turn.now.gaps c.args.turn.now.last c.requires.turn
    c.in_ok-releases.releases.items c.in_ok-ends.ends.items its.0 its.1 c.least_count.result
    (subst (λ (l : List ℕ). IsLeastTurn c.in_ok-releases.releases.items c.args.graph.now.hyper l (length l) c.least_count.result) c.deref-2.ensures.value least) c.least_count.ensures.small
