-- The edge of a cell.
use Rattle.prl_base.proofs.Standard.{◌≡◌, ℕ, zero, suc, ◌+◌, ◌-◌, ◌<◌, ◌≤◌, List, [], ◌∷◌, length, get_or, take, sum, ap, ◌∙◌, arith, Bool, true, false, cond, nat_tests, sum_by-cons, nat_lt}
use Rattle.prl_rule.specs.Known.{edge_in}

-- the cells of edge e are of edge e
pub edge_in_range : (counts : List ℕ) (e cell : ℕ) → e < length counts → sum (take e counts) ≤ cell → cell < sum (take e counts) + get_or counts e 0 → edge_in counts cell ≡ e
edge_in_range [] e cell inside from to = absurd (omega (arith, inside))
edge_in_range (x ∷ xs) zero cell inside from to = ap (λ (b : Bool). cond b 0 (suc (edge_in xs (cell - x)))) (yes_ cell x (omega (arith, to)))
  where
    yes_ : (a b : ℕ) → a < b → nat_lt a b ≡ true
    yes_ a b h = grind (arith, nat_tests)
edge_in_range (x ∷ xs) (suc e) cell inside from to =
    let s : sum (take (suc e) (x ∷ xs)) ≡ x + sum (take e xs) = sum_by-cons (λ y. y) x (take e xs) in
    ap (λ (b : Bool). cond b 0 (suc (edge_in xs (cell - x)))) (no_ cell x (omega (arith, from, s)))
    ∙ ap (λ (n : ℕ). suc n) (edge_in_range xs e (cell - x) (omega (arith, inside)) (omega (arith, from, s)) (omega (arith, from, to, s)))
  where
    no_ : (a b : ℕ) → b ≤ a → nat_lt a b ≡ false
    no_ a b h = grind (arith, nat_tests)
