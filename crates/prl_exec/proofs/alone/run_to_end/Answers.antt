use Rattle.prl_base.proofs.Standard.{◌≡◌, ◌+◌, ◌*◌, ◌≤◌, ◌∙◌, ℕ, [], List, length, length-replicate, refl, ap, arith}
use Rattle.prl_plan.specs.Horizons.{alone}
use Rattle.prl_plan.specs.declared.horizons.Horizon.{Horizon}
use Rattle.prl_rule.specs.Vocabulary.{run_of, reached}
use Rattle.prl_exec.proofs.Noting.{none_noted}
use Rattle.prl_exec.proofs.alone.run_to_end.Goals as goal

pub loop-done-init : goal.loop-done-init
loop-done-init g c =
    let k = c.args.board.now.known in
    record {
      lone = c.requires.lone;
      wide = ap (λ (xs : List ℕ). length xs) c.requires.noted.0 ∙ length-replicate (run_of k).tasks 0;
      stands = ([], c.requires.stands.0, refl, c.requires.stands.1, none_noted (run_of k) (reached (run_of k) []) c.args.noted.now.until.items c.args.noted.now.soon c.requires.noted.0 c.requires.noted.1);
      few = omega arith;
      steps = omega arith;
    }

pub returns-then-did-eq0-clause-over : goal.returns-then-did-eq0-clause-over
returns-then-did-eq0-clause-over g c =
    let so_far = c.loop-done.invariant.stands in
    (c.go_on-did.ensures.told so_far.1 so_far.0 so_far.3 so_far.4).over c.if-did-eq0.true

pub overflow_add-done : goal.overflow_add-done
overflow_add-done g c =
    let so_far = c.loop-done.invariant.stands in
    let more = c.go_on-did.ensures.told so_far.1 so_far.0 so_far.3 so_far.4 in
    let k = c.args.board.now.known in
    record {
      fits = omega (
        arith,
        c.free_list_is_short.ensures k.plan (alone k.plan) k.horizon c.requires.horizon.1 more.after more.stands.free,
        so_far.2,
        more.count,
        c.requires.horizon.1.few_events,
      );
    }

pub loop-done-smaller : goal.loop-done-smaller
loop-done-smaller g c =
    let so_far = c.loop-done.invariant.stands in
    let more = c.go_on-did.ensures.told so_far.1 so_far.0 so_far.3 so_far.4 in
    let k = c.args.board.now.known in
    omega (
      arith,
      c.free_list_is_short.ensures k.plan (alone k.plan) k.horizon c.requires.horizon.1 more.after more.stands.free,
      so_far.2,
      more.count,
      c.if-did-eq0.false,
      ap (λ (h : Horizon). h.events) c.requires.horizon.0,
    )

pub loop-done-preserved : goal.loop-done-preserved
loop-done-preserved g c =
    let so_far = c.loop-done.invariant.stands in
    let more = c.go_on-did.ensures.told so_far.1 so_far.0 so_far.3 so_far.4 in
    let k = c.args.board.now.known in
    let short = c.free_list_is_short.ensures k.plan (alone k.plan) k.horizon c.requires.horizon.1 more.after more.stands.free in
    let count = so_far.2 in
    let long = more.count in
    let same = ap (λ (h : Horizon). h.events) c.requires.horizon.0 in
    let before = c.loop-done.invariant.steps in
    let one = c.go_on-did.ensures.steps in
    record {
      lone = c.go_on-did.ensures.lone;
      wide = c.go_on-did.ensures.wide;
      stands = (more.after, more.part, omega (arith, count, long), more.stands, more.noted);
      few = omega (arith, short, count, long, same);
      steps = steps_more c.args.steps.now (3 * length k.plan.graph.tasks + 1) c.loop-done.done c.go_on-did.result c.loop-done.steps c.go_on-did.new.steps before one;
    }
  where
    steps_more : (start each done did before after : ℕ) → before ≤ start + each * done → after ≤ before + each * did → after ≤ start + each * (done + did)
    steps_more start each done did before after a b = (let m : each * (done + did) ≡ each * done + each * did = mul_more each done did in omega (arith, a, b, m))
      where
        mul_more : (x y z : ℕ) → x * (y + z) ≡ x * y + x * z
        mul_more x y z = omega arith
