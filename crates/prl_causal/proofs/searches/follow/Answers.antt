use Rattle.prl_base.proofs.Standard.{◌<◌, ◌≤◌, length, arith, sym, ◌∙◌, refl, false≢true, slice_get_read}
use Rattle.prl_causal.specs.code.Sources.{UsesBy}
use Rattle.prl_causal.proofs.Searching.{search_begun, search_goes_on, search_ended, source_there, reached_within}
use Rattle.prl_causal.proofs.searches.follow.Goals as goal

pub reach_used-requires-clause-search : goal.reach_used-requires-clause-search
reach_used-requires-clause-search c = record {
  list = rw c.new-reached.ensures.items c.requires.unmarked;
  len = c.requires.len ∙ c.requires.sources.count;
  apps = c.requires.apps;
  opened = c.requires.opened;
}

pub loop-done-init : goal.loop-done-init
loop-done-init c = record {
  way = search_begun c.args.flat.now c.args.sources.now _ c.args.from c.reach_used.new.reached.items c.args.marks.now c.reach_used.new.marks
      c.requires.within c.requires.len c.requires.unmarked (rw c.new-reached.ensures.items at c.in_ok-reach_used.ensures.adds);
  opened = c.in_ok-reach_used.ensures.opened;
}

pub bounds-sources-next : goal.bounds-sources-next
bounds-sources-next c =
    let reached = c.loop-done.reached.items in
    let below : c.loop-done.done < length reached = omega arith in
    let at = slice_get_read reached (length reached) c.loop-done.done c.index-next.result.now refl below c.index-next.ensures in
    reached_within (UsesBy c.args.flat.now c.args.sources.now) (length c.args.sources.now) c.args.from c.loop-done.done reached c.loop-done.marks c.index-next.result.now c.loop-done.invariant.way at

pub reach_used-requires-in-loop-done-clause-search : goal.reach_used-requires-in-loop-done-clause-search
reach_used-requires-in-loop-done-clause-search c = record {
  list = c.loop-done.invariant.way.list;
  len = c.loop-done.invariant.way.len ∙ c.requires.sources.count;
  apps = omega arith;
  opened = c.loop-done.invariant.opened;
}

pub reach_used-requires-in-loop-done-clause-there : goal.reach_used-requires-in-loop-done-clause-there
reach_used-requires-in-loop-done-clause-there c =
    let reached = c.loop-done.reached.items in
    let below : c.loop-done.done < length reached = omega arith in
    let at = slice_get_read reached (length reached) c.loop-done.done c.index-next.result.now refl below c.index-next.ensures in
    source_there c.args.flat.now c.args.sources.now _ c.index-next.result.now c.requires.sources
    (reached_within (UsesBy c.args.flat.now c.args.sources.now) (length c.args.sources.now) c.args.from c.loop-done.done reached c.loop-done.marks c.index-next.result.now c.loop-done.invariant.way at)

pub loop-done-preserved : goal.loop-done-preserved
loop-done-preserved c =
    let reached = c.loop-done.reached.items in
    let below : c.loop-done.done < length reached = omega arith in
    let at = slice_get_read reached (length reached) c.loop-done.done c.index-next.result.now refl below c.index-next.ensures in
    record {
      way = search_goes_on c.args.flat.now c.args.sources.now _ c.args.from c.loop-done.done c.index-next.result.now reached c.reach_used-in-loop-done.new.reached.items c.loop-done.marks
          c.reach_used-in-loop-done.new.marks c.loop-done.invariant.way at c.in_ok-reach_used-2.ensures.adds;
      opened = c.in_ok-reach_used-2.ensures.opened;
    }

pub returns-clause-none : goal.returns-clause-none
returns-clause-none c =
    let reached = c.loop-done.reached.items in
    let over : length reached ≤ c.loop-done.done = omega arith in
    λ is leads.
    (let marked = search_ended (UsesBy c.args.flat.now c.args.sources.now) (length c.args.sources.now) c.args.from c.loop-done.done reached c.loop-done.marks c.loop-done.invariant.way over c.args.from leads in
    false≢true (sym is ∙ marked))
