use Rattle.prl_base.proofs.Standard.{arith, ℕ, length, sym, ap, subst, ◌∙◌, slice_get}
use mathlib.Core.Logic.{dite}
use native.Mathlib.Decide.{ℕ_discrete}
use Rattle.prl_board.specs.Vocabulary.{LoneView, IsSettled}
use Rattle.prl_board.proofs.Lending.{keep_then, settled_stays, stands_then}
use Rattle.prl_board.proofs.lone.Lone.settle_all.Goals as goal

pub settle-requires-clause-lone : goal.settle-requires-clause-lone
settle-requires-clause-lone c = c.loop-i.invariant.lone

pub settle-requires-clause-task : goal.settle-requires-clause-task
settle-requires-clause-task c =
    let seen = ap (λ (l : LoneView). length l.seats) c.self.view_is in
    omega (arith, c.loop-i-test.true, c.len-i-end.ensures, c.loop-i.invariant.stand.tasks, seen, c.self.inside.seats.ok)

pub loop-i-preserved : goal.loop-i-preserved
loop-i-preserved c =
    let inv = c.loop-i.invariant in record {
      lone = c.settle.ensures.lone;
      stand = stands_then c.args.self.now.seats c.loop-i.self.seats c.settle.new.self.seats inv.stand c.settle.ensures.seats;
      clock = c.settle.ensures.clock ∙ inv.clock;
      halves = keep_then c.args.self.now.view c.loop-i.self.view c.settle.new.self.view inv.halves c.settle.ensures.halves;
      settled = λ j s below has. dite (ℕ_discrete j c.loop-i.i)
          (λ same. subst (λ (n : ℕ). IsSettled c.settle.new.self.view n s) (sym same) (c.settle.ensures.settled s (sym (ap (slice_get c.settle.new.self.seats) same) ∙ has)))
          (λ ne. settled_stays c.args.board.now.known c.loop-i.self c.settle.new.self j s (c.stands.ensures c.args.board.now.known inv.lone.known) c.settle.ensures.seats
          (λ p. c.settle.ensures.others j p ne) (λ t there. inv.settled j t (omega (arith, below, ne)) there) has);
    }
