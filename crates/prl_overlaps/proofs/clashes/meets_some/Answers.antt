use Rattle.prl_base.proofs.Standard.{◌+◌, suc, get_or, arith, inl, inr, leb_tells}
use Rattle.prl_overlaps.specs.code.Spots.{no_spot}
use Rattle.prl_overlaps.proofs.Spotted.{by_before, by_first, by_high, by_next, by_none, long, room}
use Rattle.prl_overlaps.proofs.clashes.meets_some.Goals as goal

pub returns-then-before-spot-clause-yes : goal.returns-then-before-spot-clause-yes
returns-then-before-spot-clause-yes c =
    by_before c.args.hyper c.args.entries.now c.args.spots.now c.requires.short c.requires.spots c.requires.sorted c.args.p c.args.before c.requires.place c.requires.before c.if-before-spot.true

pub returns-then-meets_next-clause-yes : goal.returns-then-meets_next-clause-yes
returns-then-meets_next-clause-yes c =
    by_next c.args.hyper c.args.entries.now c.args.spots.now c.requires.short c.requires.spots c.requires.sorted c.args.p c.requires.place c.if-meets_next.ensures.yes.0 c.if-meets_next.ensures.yes.1

pub overflow_add-spots : goal.overflow_add-spots
overflow_add-spots c =
    (let l = long c.args.hyper c.args.entries.now c.args.spots.now c.requires.short c.requires.spots c.requires.sorted 0 (omega (arith, c.requires.place)) in
    let l2 = l.2 in omega (arith, l2, room c.args.hyper c.args.entries.now c.args.spots.now c.requires.short c.requires.spots c.requires.sorted c.args.p c.requires.place))

pub returns-then-spots-hyper-clause-yes : goal.returns-then-spots-hyper-clause-yes
returns-then-spots-hyper-clause-yes c =
    by_first c.args.hyper c.args.entries.now c.args.spots.now c.requires.short c.requires.spots c.requires.sorted c.args.p c.requires.place c.if-spots-hyper.true

pub overflow_add-result : goal.overflow_add-result
overflow_add-result c =
    (let l = long c.args.hyper c.args.entries.now c.args.spots.now c.requires.short c.requires.spots c.requires.sorted c.args.p c.requires.place in
    let l2 = l.2 in omega (arith, l2, room c.args.hyper c.args.entries.now c.args.spots.now c.requires.short c.requires.spots c.requires.sorted c.args.p c.requires.place))

pub returns-clause-yes : goal.returns-clause-yes
returns-clause-yes c = elim (leb_tells (suc ((get_or c.args.spots.now c.args.p no_spot).from + c.args.hyper)) c.args.high) [
  | inl less ↦ rw less.0 (by_high c.args.hyper c.args.entries.now c.args.spots.now c.requires.short c.requires.spots c.requires.sorted c.args.p c.args.high c.requires.place c.requires.high
      (let l = less.1 in omega (arith, l)))
  | inr not_less ↦ rw not_less.0 tt
]

pub returns-clause-no : goal.returns-clause-no
returns-clause-no c = elim (leb_tells (suc ((get_or c.args.spots.now c.args.p no_spot).from + c.args.hyper)) c.args.high) [
  | inl less ↦ rw less.0 tt
  | inr not_less ↦ rw not_less.0
      (by_none c.args.hyper c.args.entries.now c.args.spots.now c.requires.short c.requires.spots c.requires.sorted c.args.p c.args.before c.args.high c.requires.place c.requires.before
      c.requires.high
      (let b = c.if-before-spot.false in omega (arith, b)) c.if-meets_next.ensures.no (let f = c.if-spots-hyper.false in omega (arith, f)) (let n = not_less.1 in omega (arith, n)))
]
