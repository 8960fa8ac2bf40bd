-- The only clocks of a flat program are small.
use Rattle.prl_base.proofs.Standard.{◌<◌, ◌≤◌, ◌^◌, ℕ, List, length, inl, inr, sym, subst, arith, cases_lt, take_all}
use Rattle.prl_base.specs.declared.operators.Clock.{Clock}
use Rattle.prl_clock.proofs.Single.{whole_form, whole_start}
use Rattle.prl_clock.specs.Vocabulary.{Passes, period as period_passes, start as start_passes, Placed, constraints_of, over_one, AreOnlyClocks}
use Rattle.prl_flow.specs.Vocabulary.{FlatProgram, clock_of}
use Rattle.prl_graph.specs.TaskGraphs.{AreSmallClocks}

module _ (p : FlatProgram) (clocks : List Clock) (only : AreOnlyClocks p clocks) where
  none_passes : Passes (constraints_of p) → ⊥
  none_passes h =
      let cs = constraints_of p in
      let P : List Placed → Type 0 = λ c. Passes c in
      only.fine.within (length cs) (omega arith) (subst P (sym (take_all (length cs) cs (omega arith))) h)

  small : (n : ℕ) → (2 ^ 31 ≤ n → Passes (constraints_of p)) → n < 2 ^ 31
  small n past = elim (cases_lt n (2 ^ 31)) [ inl less ↦ less | inr more ↦ absurd (none_passes (past more)) ]

  small_period : (i : ℕ) → i < length clocks → (clock_of clocks i).period < 2 ^ 31
  small_period i below =
      let n = (clock_of clocks i).period in
      small n (λ more. period_passes i (over_one n)
      (λ s meets. whole_form n (s.flow i).period s.unit (only.only s meets i below).period) (inl (omega (arith, more))))

  small_start : (i : ℕ) → i < length clocks → (clock_of clocks i).start < 2 ^ 31
  small_start i below =
      let n = (clock_of clocks i).start in
      small n (λ more. start_passes i (over_one n) (λ s meets. whole_start n s.unit (s.flow i).start (only.only s meets i below).start) (inl (omega (arith, more))))

  pub small_clocks : AreSmallClocks clocks
  small_clocks = record { period = small_period; start = small_start }
