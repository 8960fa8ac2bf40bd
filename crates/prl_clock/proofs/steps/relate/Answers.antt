use Rattle.std.proofs.Common.{refl, sym, arith}
use Rattle.prl_clock.proofs.Evening.{refused_by}
use Rattle.prl_clock.proofs.Terms.{small_parts, if_limit}
use Rattle.prl_clock.proofs.Related.{small_read, clock_read, parts_there, same_solved, same_refused, agree_refused, consistent, down_past, down_merging, up_past, up_merging, with_link}
use Rattle.prl_clock.proofs.steps.relate.Goals as goal

pub fits-requires-clause-second : goal.fits-requires-clause-second
fits-requires-clause-second c =
    small_parts _ (small_read c.requires.solved.0 _ c.requires.solved.1 c.args.y c.at-of_y.result (sym c.at-of_y.ensures))

pub fits-requires-clause-whole : goal.fits-requires-clause-whole
fits-requires-clause-whole c =
    small_read c.requires.solved.0 _ c.requires.solved.1 c.args.x c.at-of_x.result (sym c.at-of_x.ensures)

pub agree-requires-clause-second : goal.agree-requires-clause-second
agree-requires-clause-second c =
    parts_there c.at-of_y.result.clock (clock_read c.requires.solved.0 _ c.requires.solved.1 c.args.y c.at-of_y.result (sym c.at-of_y.ensures))

pub agree-requires-clause-first : goal.agree-requires-clause-first
agree-requires-clause-first c =
    clock_read c.requires.solved.0 _ c.requires.solved.1 c.args.x c.at-of_x.result (sym c.at-of_x.ensures)

pub returns-then-fits-clause-solved : goal.returns-then-fits-clause-solved
returns-then-fits-clause-solved c =
    λ cs at solved.
    same_solved cs _ solved c.args.x c.args.y c.args.link.now c.requires.link at c.at-of_x.result c.at-of_y.result (sym c.at-of_x.ensures) (sym c.at-of_y.ensures)
    c.if-of_x-of_y.true (c.if-fits.ensures.yes refl)

pub returns-else-fits-clause-refused : goal.returns-else-fits-clause-refused
returns-else-fits-clause-refused c =
    λ cs at solved.
    same_refused cs _ solved c.args.x c.args.y c.args.link.now c.requires.link at c.at-of_x.result c.at-of_y.result (sym c.at-of_x.ensures) (sym c.at-of_y.ensures)
    c.if-of_x-of_y.true (c.if-fits.ensures.no refl)

pub returns-then-not-agree-clause-refused : goal.returns-then-not-agree-clause-refused
returns-then-not-agree-clause-refused c =
    λ cs at solved.
    agree_refused cs _ solved c.args.x c.args.y c.args.link.now c.requires.link at c.at-of_x.result c.at-of_y.result (sym c.at-of_x.ensures) (sym c.at-of_y.ensures)
    (c.if-not-agree.ensures.no refl)

pub returns-in_err-over_low-clause-refused : goal.returns-in_err-over_low-clause-refused
returns-in_err-over_low-clause-refused c =
    λ cs at solved.
    let g = c.if-not-agree.ensures.yes refl in
    if_limit c.from_residual.result _ c.from_residual.ensures.1
    (consistent cs _ solved c.args.x c.args.y c.args.link.now c.requires.link at c.at-of_x.result c.at-of_y.result (sym c.at-of_x.ensures) (sym c.at-of_y.ensures) c.if-of_x-of_y.false g)
    (down_past cs _ solved c.args.x c.args.y c.args.link.now c.requires.link at c.at-of_x.result c.at-of_y.result (sym c.at-of_x.ensures) (sym c.at-of_y.ensures) c.if-of_x-of_y.false g c.if-of_y-of_x.true c.requires.x c.in_err-over_low.ensures.past)

pub returns-in_err-over_low-2-clause-refused : goal.returns-in_err-over_low-2-clause-refused
returns-in_err-over_low-2-clause-refused c =
    λ cs at solved.
    let g = c.if-not-agree.ensures.yes refl in
    if_limit c.from_residual-in_err-over_low-2.result _ c.from_residual-in_err-over_low-2.ensures.1
    (consistent cs _ solved c.args.x c.args.y c.args.link.now c.requires.link at c.at-of_x.result c.at-of_y.result (sym c.at-of_x.ensures) (sym c.at-of_y.ensures) c.if-of_x-of_y.false g)
    (up_past cs _ solved c.args.x c.args.y c.args.link.now c.requires.link at c.at-of_x.result c.at-of_y.result (sym c.at-of_x.ensures) (sym c.at-of_y.ensures) c.if-of_x-of_y.false g (omega (arith, c.if-of_y-of_x.false, c.if-of_x-of_y.false)) c.requires.y c.in_err-over_low-2.ensures.past)

pub join-requires : goal.join-requires
join-requires c =
    let g = c.if-not-agree.ensures.yes refl in (
      with_link c.requires.solved.0 c.args.x c.args.y c.args.link.now 0,
      down_merging c.requires.solved.0 _ c.requires.solved.1 c.args.x c.args.y c.args.link.now c.requires.link 0 c.at-of_x.result c.at-of_y.result (sym c.at-of_x.ensures) (sym c.at-of_y.ensures) c.if-of_x-of_y.false g
          c.if-of_y-of_x.true c.requires.x c.in_ok-over_low.over_low c.in_ok-over_low.ensures.small c.in_ok-over_low.ensures.composed,
    )

pub join-requires-else-of_y-of_x : goal.join-requires-else-of_y-of_x
join-requires-else-of_y-of_x c =
    let g = c.if-not-agree.ensures.yes refl in (
      with_link c.requires.solved.0 c.args.x c.args.y c.args.link.now 0,
      up_merging c.requires.solved.0 _ c.requires.solved.1 c.args.x c.args.y c.args.link.now c.requires.link 0 c.at-of_x.result c.at-of_y.result (sym c.at-of_x.ensures) (sym c.at-of_y.ensures) c.if-of_x-of_y.false g
          (omega (arith, c.if-of_y-of_x.false, c.if-of_x-of_y.false)) c.requires.y c.in_ok-over_low-2.over_low c.in_ok-over_low-2.ensures.small c.in_ok-over_low-2.ensures.composed,
    )

pub returns-in_ok-over_low-clause-solved : goal.returns-in_ok-over_low-clause-solved
returns-in_ok-over_low-clause-solved c =
    λ cs at solved.
    let g = c.if-not-agree.ensures.yes refl in
    c.join.ensures.solved _ (down_merging cs _ solved c.args.x c.args.y c.args.link.now c.requires.link at c.at-of_x.result c.at-of_y.result (sym c.at-of_x.ensures) (sym c.at-of_y.ensures) c.if-of_x-of_y.false g c.if-of_y-of_x.true c.requires.x c.in_ok-over_low.over_low c.in_ok-over_low.ensures.small c.in_ok-over_low.ensures.composed)

pub returns-in_ok-over_low-clause-refused : goal.returns-in_ok-over_low-clause-refused
returns-in_ok-over_low-clause-refused c =
    λ cs at solved.
    let g = c.if-not-agree.ensures.yes refl in
    refused_by c.join.result _ (consistent cs _ solved c.args.x c.args.y c.args.link.now c.requires.link at c.at-of_x.result c.at-of_y.result (sym c.at-of_x.ensures) (sym c.at-of_y.ensures) c.if-of_x-of_y.false g)
    (c.join.ensures.stuck _ (down_merging cs _ solved c.args.x c.args.y c.args.link.now c.requires.link at c.at-of_x.result c.at-of_y.result (sym c.at-of_x.ensures) (sym c.at-of_y.ensures) c.if-of_x-of_y.false g c.if-of_y-of_x.true c.requires.x c.in_ok-over_low.over_low c.in_ok-over_low.ensures.small c.in_ok-over_low.ensures.composed))

pub returns-in_ok-over_low-2-clause-solved : goal.returns-in_ok-over_low-2-clause-solved
returns-in_ok-over_low-2-clause-solved c =
    λ cs at solved.
    let g = c.if-not-agree.ensures.yes refl in
    c.join-else-of_y-of_x.ensures.solved _ (up_merging cs _ solved c.args.x c.args.y c.args.link.now c.requires.link at c.at-of_x.result c.at-of_y.result (sym c.at-of_x.ensures) (sym c.at-of_y.ensures) c.if-of_x-of_y.false g (omega (arith, c.if-of_y-of_x.false, c.if-of_x-of_y.false)) c.requires.y c.in_ok-over_low-2.over_low c.in_ok-over_low-2.ensures.small c.in_ok-over_low-2.ensures.composed)

pub returns-in_ok-over_low-2-clause-refused : goal.returns-in_ok-over_low-2-clause-refused
returns-in_ok-over_low-2-clause-refused c =
    λ cs at solved.
    let g = c.if-not-agree.ensures.yes refl in
    refused_by c.join-else-of_y-of_x.result _ (consistent cs _ solved c.args.x c.args.y c.args.link.now c.requires.link at c.at-of_x.result c.at-of_y.result (sym c.at-of_x.ensures) (sym c.at-of_y.ensures) c.if-of_x-of_y.false g)
    (c.join-else-of_y-of_x.ensures.stuck _ (up_merging cs _ solved c.args.x c.args.y c.args.link.now c.requires.link at c.at-of_x.result c.at-of_y.result (sym c.at-of_x.ensures) (sym c.at-of_y.ensures) c.if-of_x-of_y.false g (omega (arith, c.if-of_y-of_x.false, c.if-of_x-of_y.false)) c.requires.y c.in_ok-over_low-2.over_low c.in_ok-over_low-2.ensures.small c.in_ok-over_low-2.ensures.composed))
