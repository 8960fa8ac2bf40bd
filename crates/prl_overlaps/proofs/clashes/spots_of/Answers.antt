use Rattle.prl_base.proofs.Standard.{◌≡◌, ◌+◌, length, sym, subst, arith, slice_get-get_or}
use Rattle.prl_overlaps.specs.declared.entries.Entry.{Entry}
use Rattle.prl_overlaps.proofs.Spotted.{are_spots, one_more_spot, HaveSpots}
use Rattle.prl_overlaps.proofs.clashes.spots_of.Goals as goal

abbrev no_entry : Entry
no_entry = record { at = 0; task = record { 0 = 0 }; job = 0; units = 0 }

pub spot_of-requires : goal.spot_of-requires
spot_of-requires c = c.requires c.loop-k.k _ (slice_get-get_or c.args.entries.now c.loop-k.k no_entry c.loop-k-test.true)

pub loop-k-preserved : goal.loop-k-preserved
loop-k-preserved c =
    subst (λ xs. HaveSpots c.args.hyper c.args.entries.now xs (c.loop-k.k + 1)) (sym c.in_ok-push.ensures.items)
    (one_more_spot c.args.hyper c.args.entries.now c.loop-k.spots.items c.loop-k.k _ c.spot_of.result c.loop-k.invariant
    (slice_get-get_or c.args.entries.now c.loop-k.k no_entry c.loop-k-test.true) c.spot_of.ensures)

pub returns : goal.returns
returns c =
    let end : c.loop-k.k ≡ length c.args.entries.now = (let t = c.loop-k-test.false in let e = c.loop-k.auto.k-end in omega (arith, t, e)) in
    are_spots c.args.hyper c.args.entries.now c.loop-k.spots.items (subst (HaveSpots c.args.hyper c.args.entries.now c.loop-k.spots.items) end c.loop-k.invariant)
