-- The front of a list that repeats as the list does.
use Rattle.std.proofs.Common.{◌≡◌, ◌≤◌, ℕ, List, length, length-take-le, take, sym, ◌∙◌, ap, subst, arith}
use Rattle.prl_plan.specs.Repeats.{repeated, IsShortestRepeat, IsLeastRepeat}
use Rattle.prl_plan.proofs.ShortestRepeats.{cut_repeats, cut_is_shortest}
use Rattle.prl_buffers.specs.code.Edges.{IsCutOf}

pub cut_is : (list cut : List ℕ) (step : ℕ) → IsLeastRepeat list step → cut ≡ take step list → IsCutOf list cut
cut_is list cut step is same =
    let size : length cut ≡ step = ap length same ∙ (length-take-le step list is.within) in
    record {
      front = same ∙ ap (λ (k : ℕ). take k list) (sym size);
      some = omega (arith, is.some, size);
      within = omega (arith, is.within, size);
      same = λ n. subst (λ (c : List ℕ). repeated c n ≡ repeated list n) (sym same) (cut_repeats list step is n);
      shortest = subst (λ (c : List ℕ). IsShortestRepeat c) (sym same) (cut_is_shortest list step is);
    }
