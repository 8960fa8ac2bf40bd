use Rattle.std.proofs.Common.{◌≡◌, ◌-◌, ℕ, List, take, refl, ◌∙◌, subst, arith, rules}
use Rattle.prl_plan.specs.Repeats.{IsLeastRepeat}
use Rattle.prl_words.specs.code.Shortest.{rise_of}
use Rattle.prl_words.proofs.Shortest.{shortest_step}
use Rattle.prl_words.proofs.shortening.shortened.Goals as goal

pub overflow_sub-step_out : goal.overflow_sub-step_out
overflow_sub-step_out c =
    let up = c.requires.rises 0 c.shortest_repeat-step_in.result (omega arith) in
    let a = c.number.ensures in
    let b = c.number-2.ensures in
    omega (arith, up, a, b)

pub returns : goal.returns
returns c =
    let w = c.args.word in
    let step : ℕ = c.shortest_repeat-step_in.result in
    let least : IsLeastRepeat c.in_ok-gaps.gaps.items c.shortest_repeat-step_in.result =
    subst (λ (xs : List ℕ). IsLeastRepeat xs c.shortest_repeat-step_in.result) c.as_slice.ensures.value c.shortest_repeat-step_in.ensures in
    let front : c.truncate.new.self.items ≡ take c.shortest_repeat-step_in.result c.args.word.repeat =
    (let i = c.into_vec-repeat.ensures.items in let t = c.truncate.ensures.items in search rules) in
    record {
      prefix = refl;
      shortest = shortest_step w c.requires c.in_ok-gaps.gaps.items c.in_ok-gaps.ensures step least;
      repeat = c.new.ensures ∙ front;
      step_out = (let a = c.number.ensures in let b = c.number-2.ensures in
          let e : c.number.result - c.number-2.result ≡ rise_of c.args.word c.shortest_repeat-step_in.result = omega (arith, a, b) in e);
    }
