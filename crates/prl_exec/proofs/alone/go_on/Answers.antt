use Rattle.std.proofs.Common.{◌≡◌, ◌++◌, [], ◌∷◌, List, length-append, subst, arith}
use Rattle.prl_plan.specs.declared.events.Event.{Event}
use Rattle.prl_plan.specs.declared.events.Event.TheVariants as events
use Rattle.prl_rule.specs.Vocabulary.{run_of, reached}
use Rattle.prl_exec.specs.Standing.{StandsIn}
use Rattle.prl_exec.specs.code.Alone.{KeepsNoted}
use Rattle.prl_exec.proofs.Noting.{noted_on}
use Rattle.prl_exec.proofs.Rounds.{tick_may_come}
use Rattle.prl_exec.proofs.alone.go_on.Goals as goal

pub returns-then-did-gt0-clause-told : goal.returns-then-did-gt0-clause-told
returns-then-did-gt0-clause-told g c = λ r list stands noted.
    let did = c.act_all-did.ensures.told r list stands noted in
    let some = c.if-did-gt0.true in
    record {
      after = did.after;
      part = r;
      count = did.count;
      stands = did.stands;
      noted = (did.noted, did.least);
      over = λ z. absurd (omega (arith, z, some));
    }

pub returns-clause-told : goal.returns-clause-told
returns-clause-told g c = λ r list stands noted.
    let k = c.args.board.now.known in
    let did = c.act_all-did.ensures.told r list stands noted in
    let none : c.act_all-did.result ≡ 0 = (let z = c.if-did-gt0.false in omega (arith, z)) in
    let same = did.same none in
    let then = subst (λ (x : List Event). StandsIn (run_of k) c.act_all-did.new.lone r x) same did.stands in
    let kept = subst (λ (x : List Event). KeepsNoted (run_of k) c.act_all-did.new.noted.until.items c.act_all-did.new.noted.soon (reached (run_of k) x)) same (did.noted, did.least) in
    let saw = c.look_due.ensures.told r list then in
    let may = tick_may_come k c.run_laws.ensures c.args.lone.now c.args.lone.now r list (c.stands.ensures k c.requires.lone.known) c.if-is_over.ensures.no stands (did.none none) in
    let on = c.tick.ensures.told saw.0 list saw.1 saw.2 may in
    record {
      after = list ++ events.Tick ∷ [];
      part = on.0;
      count = length-append list (events.Tick ∷ []);
      stands = on.1;
      noted = noted_on (run_of k) c.run_laws.ensures list c.act_all-did.new.noted.until.items c.act_all-did.new.noted.soon kept;
      over = λ z. absurd (cc z);
    }
