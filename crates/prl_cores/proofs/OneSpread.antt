-- Processors determine the constants of a spread's run.
use Rattle.prl_base.proofs.Standard.{◌≡◌, ◌≤◌, ℕ, zero, suc, List, [], ◌∷◌, length, inl, inr, refl, sym, ◌∙◌, ap, subst, arith, pos, ◌+ℤ◌, nat_abs, slice_index, slice_index_or, fun_ext, cases_lt}
use Rattle.prl_base.proofs.Standard.{ints}
use Rattle.prl_plan.specs.Vocabulary.{encoded_release, no_window, place_in, Placement, constants_on, task_at, release_of, PlanView, RunConstants, AreSpreadReleases, IsSpread}
use Rattle.prl_plan.specs.declared.horizons.Horizon.{Horizon}
use Rattle.prl_plan.specs.declared.tables.Window.{Window}

none_there : (windows : List (List Window)) (i : ℕ) → length windows ≤ i → slice_index_or windows i [] ≡ []
none_there [] i past = refl
none_there (list ∷ windows) zero past = absurd (omega arith)
none_there (list ∷ windows) (suc i) past = none_there windows i (omega (arith, past))

module _ (plan : PlanView) (horizon : Horizon) (a b : Placement) (of_a : IsSpread plan a) (of_b : IsSpread plan b) (same : a.processors ≡ b.processors) where
  releases_b : AreSpreadReleases plan.graph plan.windows a.processors (encoded_release plan.graph b.windows)
  releases_b = subst (λ (ps : List ℕ). AreSpreadReleases plan.graph plan.windows ps (encoded_release plan.graph b.windows)) (sym same) of_b.releases.releases

  releases_a : AreSpreadReleases plan.graph plan.windows b.processors (encoded_release plan.graph a.windows)
  releases_a = subst (λ (ps : List ℕ). AreSpreadReleases plan.graph plan.windows ps (encoded_release plan.graph a.windows)) same of_a.releases.releases

  release_same : (i n : ℕ) → nat_abs (encoded_release plan.graph a.windows i (pos n)) ≡ nat_abs (encoded_release plan.graph b.windows i (pos n))
  release_same i n =
      elim (cases_lt i (length plan.graph.tasks)) [
        | inl inside ↦
            (let down = of_a.releases.least (encoded_release plan.graph b.windows) releases_b i (pos n) inside in
            let up = of_b.releases.least (encoded_release plan.graph a.windows) releases_a i (pos n) inside in
            omega (arith, ints, down, up))
        | inr past ↦
            (let x : slice_index_or a.windows i [] ≡ [] = none_there a.windows i (let l = of_a.lists in omega (arith, l, past)) in
            let y : slice_index_or b.windows i [] ≡ [] = none_there b.windows i (let l = of_b.lists in omega (arith, l, past)) in
            windows_alike i n x y)
      ]
    where
      at_list : ℕ → ℕ → List Window → ℕ
      at_list i n list = nat_abs (release_of (task_at plan.graph i) (pos n) +ℤ pos (slice_index_or list (place_in (pos n) (length list)) no_window).lead)

      windows_alike : (i n : ℕ) → slice_index_or a.windows i [] ≡ [] → slice_index_or b.windows i [] ≡ [] →
          nat_abs (encoded_release plan.graph a.windows i (pos n)) ≡ nat_abs (encoded_release plan.graph b.windows i (pos n))
      windows_alike i n x y = ap (at_list i n) (x ∙ sym y)

  pub one_run : constants_on plan a horizon ≡ constants_on plan b horizon
  one_run =
      ap (λ (release : ℕ → ℕ → ℕ). (let c : RunConstants = record (constants_on plan a horizon) { release = release } in c))
      (fun_ext (λ i. fun_ext (λ n. release_same i n)))
      ∙ ap (λ (ps : List ℕ). (let c : RunConstants = record (constants_on plan b horizon) { processor = λ i. slice_index ps i } in c)) same
