-- How many nodes a node reaches: fewer than each node that applies it.
use Rattle.prl_base.proofs.Standard.{◌≡◌, ◌+◌, ◌<◌, ◌≤◌, ℕ, zero, suc, Bool, true, false, length, refl, ap, ◌∙◌, arith, ⊎_elim, cases_lt, false≢true}
use Rattle.prl_ast.specs.Trees.{ProgramTree}
use Rattle.prl_names.specs.Applications.{applies, Reaches, once, then, reaches}
use Rattle.prl_names.proofs.Reaching.{reached, reaching}

abbrev pub one_if : Bool → ℕ
one_if true = 1
one_if false = 0

-- how many of the first m numbers pass
abbrev pub passing : (ℕ → Bool) → ℕ → ℕ
passing f zero = 0
passing f (suc m) = one_if (f m) + passing f m

abbrev pub rank : ProgramTree → ℕ → ℕ
rank p k = passing (reaches p k) (length p.nodes)

cond_le : (a b : Bool) → (a ≡ true → b ≡ true) → one_if a ≤ one_if b
cond_le true true h = omega arith
cond_le true false h = absurd (false≢true (h refl))
cond_le false true h = omega arith
cond_le false false h = omega arith

passing_le : (f g : ℕ → Bool) → ((i : ℕ) → f i ≡ true → g i ≡ true) → (m : ℕ) → passing f m ≤ passing g m
passing_le f g h zero = omega arith
passing_le f g h (suc m) = omega (arith, cond_le (f m) (g m) (h m), passing_le f g h m)

passing_less : (f g : ℕ → Bool) → ((i : ℕ) → f i ≡ true → g i ≡ true) → (j m : ℕ) → j < m → f j ≡ false → g j ≡ true → passing f m < passing g m
passing_less f g h j zero below a b = absurd (omega (arith, below))
passing_less f g h j (suc m) below a b =
    ⊎_elim
    (λ lower. omega (arith, cond_le (f m) (g m) (h m), passing_less f g h j m lower a b))
    (λ not_lower.
    (let last : m ≡ j = omega (arith, below, not_lower) in
    omega (arith, ap one_if (ap f last ∙ a), ap one_if (ap g last ∙ b), passing_le f g h m)))
    (cases_lt j m)

never : (b : Bool) → (b ≡ true → ⊥) → b ≡ false
never true h = absurd (h refl)
never false h = refl

-- where no node reaches itself
pub rank_falls : (p : ProgramTree) → ((i : ℕ) → Reaches p i i → ⊥) → (k j : ℕ) → applies p k j ≡ true → j < length p.nodes → rank p j < rank p k
rank_falls p acyclic k j applied below =
    passing_less (reaches p j) (reaches p k)
    (λ i r. (reached p k i (then k j i applied (reaching p j i r))).1)
    j (length p.nodes) below
    (never (reaches p j j) (λ r. acyclic j (reaching p j j r)))
    (reached p k j (once k j applied)).1
