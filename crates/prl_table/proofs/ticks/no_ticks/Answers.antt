use Rattle.std.proofs.Common.{◌≡◌, ℕ, [], ◌∷◌, Option, None, length, length-append, refl, sym, ap, subst, arith}
use Rattle.prl_base.specs.declared.numbers.TaskNo.{TaskNo}
use Rattle.prl_edf.specs.Pieces.{run_of}
use Rattle.prl_table.specs.Vocabulary.{job_in, HasTicks}
use Rattle.prl_overlaps.proofs.Listed.{pushed}
use Rattle.prl_table.proofs.ticks.no_ticks.Goals as goal

abbrev no_tick : Option (TaskNo × ℕ)
no_tick = None

pub loop-n-preserved : goal.loop-n-preserved
loop-n-preserved c = record {
  long = (let e = ap length c.in_ok-push.ensures.items in let l = length-append c.loop-n.ticks.items (no_tick ∷ []) in let n = c.loop-n.invariant.long in omega (arith, e, l, n));
  ticks = subst (HasTicks (run_of [])) (sym c.in_ok-push.ensures.items)
      (pushed (λ (t : ℕ) (tick : Option (TaskNo × ℕ)). job_in tick ≡ run_of [] t) c.loop-n.ticks.items no_tick c.loop-n.invariant.ticks refl);
}
