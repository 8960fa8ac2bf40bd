use Rattle.prl_base.proofs.Standard.{Bool, true, false, get_or, sym, ap, subst, arith, OnFalse, OnTrue, slice_get-get_or}
use Rattle.prl_overlaps.specs.Vocabulary.{Spot, Entry, spot_of, Meets}
use Rattle.prl_overlaps.proofs.Spotted.{meet_at, meets_at, spot_fits}
use Rattle.prl_overlaps.proofs.clashes.meets_entry.Goals as goal

abbrev no_entry : Entry
no_entry = record { at = 0; task = record { 0 = 0 }; job = 0; units = 0 }

pub spot_of-one-requires : goal.spot_of-one-requires
spot_of-one-requires c = c.requires.short c.args.k _ (slice_get-get_or c.args.entries.now c.args.k no_entry c.requires.one)

pub spot_of-other-requires : goal.spot_of-other-requires
spot_of-other-requires c = c.requires.short c.args.l _ (slice_get-get_or c.args.entries.now c.args.l no_entry c.requires.other)

pub meets-requires-clause-one : goal.meets-requires-clause-one
meets-requires-clause-one c =
    (let f = ap (λ (s : Spot). s.from) c.spot_of-one.ensures in
    let s = spot_fits c.args.hyper _ (c.requires.short c.args.k _ (slice_get-get_or c.args.entries.now c.args.k no_entry c.requires.one)) in omega (arith, f, s))

pub meets-requires-clause-other : goal.meets-requires-clause-other
meets-requires-clause-other c =
    (let f = ap (λ (s : Spot). s.from) c.spot_of-other.ensures in
    let s = spot_fits c.args.hyper _ (c.requires.short c.args.l _ (slice_get-get_or c.args.entries.now c.args.l no_entry c.requires.other)) in omega (arith, f, s))

on_true : {P Q : Type 0} (b : Bool) → (P → Q) → OnTrue b P → OnTrue b Q
on_true true f p = f p
on_true false f p = tt

on_false : {P Q : Type 0} (b : Bool) → (P → Q) → OnFalse b P → OnFalse b Q
on_false true f p = tt
on_false false f p = f p

pub returns-clause-yes : goal.returns-clause-yes
returns-clause-yes c = on_true c.meets.result (λ meets.
    meet_at c.args.hyper c.args.entries.now c.args.k c.args.l no_entry c.requires.one c.requires.other c.if-k-l.false
    (subst (λ (x : Spot). Meets c.args.hyper x (spot_of c.args.hyper c.args.l (get_or c.args.entries.now c.args.l no_entry))) c.spot_of-one.ensures
    (subst (Meets c.args.hyper c.spot_of-one.result) c.spot_of-other.ensures meets))) c.meets.ensures.yes

pub returns-clause-no : goal.returns-clause-no
returns-clause-no c = on_false c.meets.result (λ not meet.
    not (subst (λ (x : Spot). Meets c.args.hyper x c.spot_of-other.result) (sym c.spot_of-one.ensures)
    (subst (Meets c.args.hyper (spot_of c.args.hyper c.args.k (get_or c.args.entries.now c.args.k no_entry))) (sym c.spot_of-other.ensures)
    (meets_at c.args.hyper c.args.entries.now c.args.k c.args.l no_entry meet)))) c.meets.ensures.no
