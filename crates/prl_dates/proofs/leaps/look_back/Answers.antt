use Rattle.prl_base.proofs.Standard.{◌≡◌, ◌-◌, ℕ, List, length, ap, arith}
use Rattle.prl_dates.proofs.Repeats.{rounds_up}
use Rattle.prl_dates.proofs.leaps.look_back.Goals as goal
use Rattle.prl_dates.proofs.leaps.look_back.Goals.{then-more-gt0, else-more-gt0+then-since-past}

pub copy_from_slice-requires : goal.copy_from_slice-requires
copy_from_slice-requires c =
    let graph = c.args.graph.now in
    let lanes = c.args.lanes.now in
    let same : c.if-more-gt0.past.table.items ≡ c.args.past.now.table.items =
    elim c.if-more-gt0.branch [
      | then-more-gt0 w ↦ ap (λ p. p.table.items) w.past-is
      | else-more-gt0+then-since-past w ↦ ap (λ p. p.table.items) w.past-is
    ] in
    omega (
      arith,
      ap (λ (xs : List ℕ). length xs) c.as_mut_slice.ensures.value,
      ap (λ (xs : List ℕ). length xs) same,
      (rounds_up graph lanes (c.args.count - c.args.past.now.rounds) c.args.past.now.table.items c.args.now.now c.requires.rounds).0,
      (rounds_up graph lanes c.leap-more.result c.args.now.now c.leap-more.new.now c.leap-more.ensures.rounds).0,
    )
