use Rattle.std.proofs.Common.{rules, ◌≡◌, ◌+◌, ◌-◌, ◌++◌, [], ◌∷◌, ap, ◌∙◌, arith, subst}
use Rattle.prl_buffers.specs.code.Turns.{IsTurn}
use Rattle.prl_buffers.proofs.TurnSteps.{turn_begins, turn_step, turn_stays}
use Rattle.prl_buffers.proofs.turns.turn_of.Goals.{then-gap-gt0+in_ok-push+in_ok-push-2, else-gap-gt0}
use Rattle.prl_buffers.proofs.turns.turn_of.Goals as goal

pub loop-i-preserved : goal.loop-i-preserved
loop-i-preserved c =
    let next = c.number.ensures in
    let here = c.number-in-loop-i.ensures in
    let up = c.requires.rises c.loop-i.i in
    elim c.if-gap-gt0.branch [
      | then-gap-gt0+in_ok-push+in_ok-push-2 w ↦
          (let gaps : w.push.new.self.items ≡ c.loop-i.gaps.items ++ (c.number.result - c.number-in-loop-i.result) ∷ [] = search rules in
          let last : w.push-then-gap-gt0.new.self.items ≡ c.loop-i.last.items ++ c.loop-i.i ∷ [] = search rules in
          let some = w.if-gap-gt0.true in
          turn_step c.args.word.now c.loop-i.i (c.number.result - c.number-in-loop-i.result) c.loop-i.gaps.items c.loop-i.last.items c.if-gap-gt0.gaps.items c.if-gap-gt0.last.items
          c.loop-i.invariant (omega (arith, next, here, up)) (omega (arith, some)) (ap (λ v. v.items) w.gaps-is ∙ gaps) (ap (λ v. v.items) w.last-is ∙ last))
      | else-gap-gt0 w ↦
          (let none = w.if-gap-gt0.false in
          turn_stays c.args.word.now c.loop-i.i c.loop-i.gaps.items c.loop-i.last.items c.if-gap-gt0.gaps.items c.if-gap-gt0.last.items
          c.loop-i.invariant (omega (arith, next, here, up, none)) (ap (λ v. v.items) w.gaps-is) (ap (λ v. v.items) w.last-is))
    ]

pub returns : goal.returns
returns c =
    let end : c.loop-i.i ≡ c.args.jobs = omega (arith, c.loop-i-test.false, c.loop-i.auto.i-end) in
    rw (c.new.ensures, c.new-2.ensures) (subst (λ i. IsTurn c.args.word.now i c.loop-i.gaps.items c.loop-i.last.items) end c.loop-i.invariant)

pub loop-i-init : goal.loop-i-init
loop-i-init c = rw (c.new-gaps.ensures.items, c.new-last.ensures.items) (turn_begins c.args.word.now)

pub number-requires-clause-fits : goal.number-requires-clause-fits
number-requires-clause-fits c = (let fits = c.requires.fits (c.loop-i.i + 1) (omega (arith, c.loop-i-test.true)) in omega (arith, fits))

pub number-requires-in-loop-i-clause-fits : goal.number-requires-in-loop-i-clause-fits
number-requires-in-loop-i-clause-fits c = (let fits = c.requires.fits c.loop-i.i (omega (arith, c.loop-i-test.true)) in omega (arith, fits))

pub overflow_sub-gap : goal.overflow_sub-gap
overflow_sub-gap c = (let up = c.requires.rises c.loop-i.i in omega (arith, up, c.number.ensures, c.number-in-loop-i.ensures))
