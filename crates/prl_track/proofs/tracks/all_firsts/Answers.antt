use Rattle.prl_base.proofs.Standard.{◌≡◌, ◌≤◌, ℕ, [], ◌∷◌, length, arith, sym, ◌∙◌, ap, subst, MatchOption}
use Rattle.std.proofs.lemmas.List.{length-append}
use Rattle.prl_plan.specs.Horizons.{constants_on}
use Rattle.prl_track.specs.code.Firsts.{IsFirstAt}
use Rattle.prl_track.proofs.Places.{each_more}
use Rattle.prl_track.proofs.TrackSteps.{zeros}
use Rattle.prl_track.proofs.tracks.all_firsts.Goals as goal

pub loop-i-preserved : goal.loop-i-preserved
loop-i-preserved c = record {
  tasks = (let e = ap length c.in_ok-push.ensures.items in let l = length-append c.loop-i.firsts.items (c.first_at.result ∷ []) in omega (arith, e, l, c.loop-i.invariant.tasks));
  each = each_more (λ j kept. MatchOption kept ((constants_on c.args.plan.now c.args.placed.now c.args.horizon).jobs j ≤ 0) (IsFirstAt (constants_on c.args.plan.now c.args.placed.now c.args.horizon) j 0))
      c.loop-i.firsts.items c.push.new.self.items c.loop-i.i c.first_at.result c.in_ok-push.ensures.items c.loop-i.invariant.tasks c.loop-i.invariant.each c.first_at.ensures;
}

pub returns : goal.returns
returns c =
    let tasks : c.len-i-end.result ≡ length c.args.plan.now.graph.tasks = c.len-i-end.ensures ∙ ap (λ g. length g.tasks) c.graph.ensures.graph in
    record {
      tasks = omega (arith, c.loop-i.invariant.tasks, tasks, c.loop-i-test.false, c.loop-i.auto.i-end);
      each = λ j kept at.
          subst (λ (n : ℕ). MatchOption kept ((constants_on c.args.plan.now c.args.placed.now c.args.horizon).jobs j ≤ n) (IsFirstAt (constants_on c.args.plan.now c.args.placed.now c.args.horizon) j n))
          (sym (zeros (length c.args.plan.now.graph.tasks) j)) (c.loop-i.invariant.each j kept at);
    }
