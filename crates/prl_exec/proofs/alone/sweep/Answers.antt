use Rattle.prl_base.proofs.Standard.{◌≡◌, ◌∙◌, sym, subst, arith, get_or_default}
use Rattle.prl_rule.specs.Known.{run_of}
use Rattle.prl_exec.specs.code.Alone.{Sweeps}
use Rattle.prl_exec.proofs.Noting.{swept_on}
use Rattle.prl_exec.proofs.alone.sweep.Goals as goal

pub loop-i-preserved : goal.loop-i-preserved
loop-i-preserved g c =
    let few = c.loop-i.invariant.few in let most = c.turn-did.ensures.few in
    let steps = c.loop-i.invariant.steps in let more = c.turn-did.ensures.steps in
    let test = c.loop-i-test.true in let end = c.tasks-i-end.ensures in let wide = c.loop-i.invariant.wide in let as_wide = c.turn-did.ensures.wide in
    record {
      lone = c.turn-did.ensures.lone;
      tasks = c.turn-did.ensures.tasks ∙ c.loop-i.invariant.tasks;
      wide = as_wide ∙ wide;
      few = omega (arith, few, most);
      steps = omega (arith, steps, more);
      told = λ r list stands noted.
          let so_far = c.loop-i.invariant.told r list stands noted in
          swept_on (run_of c.args.board.now.known) c.loop-i.lone c.turn-did.new.lone r list c.loop-i.noted.until.items c.turn-did.new.until.items c.loop-i.noted.soon c.lesser-noted.result
          c.index.result.now c.loop-i.i c.loop-i.did c.turn-did.result so_far
          (c.turn-did.ensures.told r so_far.after so_far.stands (c.now-now.ensures r stands.clock) so_far.noted)
          (get_or_default c.turn-did.new.until.items c.loop-i.i 0 c.index.result.now (omega (arith, as_wide, wide, test, end)) ∙ sym c.index.ensures)
          c.lesser-noted.ensures.0 c.lesser-noted.ensures.1;
    }

pub returns-clause-told : goal.returns-clause-told
returns-clause-told g c = λ r list stands noted.
    let all : c.loop-i.i ≡ (run_of c.args.board.now.known).tasks = (let t = c.loop-i-test.false in let e = c.loop-i.auto.i-end in let n = c.tasks-i-end.ensures in omega (arith, t, e, n)) in
    subst (Sweeps (run_of c.args.board.now.known) c.loop-i.lone r list c.loop-i.noted.until.items c.loop-i.noted.soon c.loop-i.did) all (c.loop-i.invariant.told r list stands noted)
