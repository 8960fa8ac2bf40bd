use Rattle.prl_base.proofs.Standard.{◌≡◌, ◌+◌, ◌++◌, ◌∙◌, ℕ, List, [], ◌∷◌, length, set, refl, sym, ap, subst, arith, slice_index, get_or, length_push}
use Rattle.prl_dates.specs.Vocabulary.{Exit, Lane, Link, no_link, AreExitsPart}
use Rattle.prl_dates.proofs.ExitLists.{exits_more, exits_whole}
use Rattle.prl_dates.proofs.Readings.{item_stands}
use Rattle.prl_dates.proofs.Rises.{IsHere, here_in}
use Rattle.prl_dates.proofs.exits.add_exits.Goals as goal
use Rattle.prl_dates.proofs.exits.add_exits.Goals.{In-loop-place}

links_are : {links : List Link} {lane other : Lane} → links ≡ other.links → lane ≡ other → links ≡ lane.links
links_are same one = same ∙ ap (λ (x : Lane). x.links) (sym one)

here : (c : In-loop-place) → IsHere c.args.graph.now c.args.lanes.now c.args.l c.loop-place.place c.index-lanes-l.result c.as_slice-links.result.now
here c =
    here_in c.args.graph.now c.requires.well c.args.lanes.now c.requires.lanes c.args.l c.loop-place.place c.index-lanes-l.result
    (item_stands c.args.lanes.now c.args.l c.index-lanes-l.result c.requires.lane c.index-lanes-l.is)
    (omega (arith, c.loop-place-test.true, ap (λ (ls : List Link). length ls) (links_are c.as_slice-links.ensures c.index-lanes-l.is)))
    c.as_slice-links.result.now (links_are c.as_slice-links.ensures c.index-lanes-l.is)

pub offset_bounds-last-from : goal.offset_bounds-last-from
offset_bounds-last-from c = record { fits = omega (arith, (here (goal.at.offset_bounds-last-from c).In-loop-place).from, c.requires.well.few_jobs) }

pub bounds-last-from : goal.bounds-last-from
bounds-last-from c = omega (arith, (here (goal.at.bounds-last-from c).In-loop-place).from, c.loop-place.invariant.long)

pub offset_bounds-last-from-in-loop-place : goal.offset_bounds-last-from-in-loop-place
offset_bounds-last-from-in-loop-place c =
    record { fits = omega (arith, (here (goal.at.offset_bounds-last-from-in-loop-place c).In-loop-place).from, c.requires.well.few_jobs) }

pub bounds-last-from-in-loop-place : goal.bounds-last-from-in-loop-place
bounds-last-from-in-loop-place c = omega (arith, (here (goal.at.bounds-last-from-in-loop-place c).In-loop-place).from, c.loop-place.invariant.long)

pub loop-place-preserved : goal.loop-place-preserved
loop-place-preserved c =
    let graph = c.args.graph.now in
    let lanes = c.args.lanes.now in
    let list : List Exit = c.loop-place.list.items in
    let last : List ℕ = c.loop-place.last in
    let h = here (goal.at.loop-place-preserved c).In-loop-place in
    let from : ℕ = (get_or c.as_slice-links.result.now c.loop-place.place no_link).from in
    let exit : Exit = record { from = from; lane = c.args.l; place = c.loop-place.place; before = slice_index last from } in
    let items : c.push.new.self.items ≡ list ++ exit ∷ [] = c.in_ok-push.ensures.items in
    let long : c.len.result ≡ length list + 1 = omega (arith, c.len.ensures, ap (λ (xs : List Exit). length xs) items, length_push list exit) in
    subst (λ (xs : List Exit). AreExitsPart graph lanes c.args.l (c.loop-place.place + 1) xs (set last from c.len.result)) (sym items)
    (subst (λ (n : ℕ). AreExitsPart graph lanes c.args.l (c.loop-place.place + 1) (list ++ exit ∷ []) (set last from n)) (sym long)
    (exits_more graph lanes c.args.l c.loop-place.place list last c.loop-place.invariant c.index-lanes-l.result h.stands h.inside exit (sym (ap (λ (x : Link). x.from) h.link)) refl refl refl
    (omega (arith, h.from, c.loop-place.invariant.long))))

pub returns : goal.returns
returns c =
    exits_whole c.args.graph.now c.args.lanes.now c.args.l c.loop-place.place c.loop-place.list.items c.loop-place.last c.loop-place.invariant c.index-lanes-l.result
    (item_stands c.args.lanes.now c.args.l c.index-lanes-l.result c.requires.lane c.index-lanes-l.is)
    (omega (arith, ap (λ (ls : List Link). length ls) (links_are c.as_slice-links.ensures c.index-lanes-l.is)))
