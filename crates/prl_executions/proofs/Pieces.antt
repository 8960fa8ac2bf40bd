-- Lines from their pieces, most of them a name and a number.
use Rattle.prl_base.proofs.Standard.{◌≡◌, ◌++◌, ◌∙◌, ℕ, List, [], ◌∷◌, decimal, flat_map, ap, refl}
use Rattle.std.specs.List.{concat}
use Rattle.std.proofs.lemmas.List.{append_assoc}
use Rattle.prl_executions.specs.code.Numbered.{numbered}

-- a name with its number
abbrev pub Named : Type 0
Named = List ℕ × ℕ

-- names with their numbers, and what follows them
abbrev pub pieces : List Named → List (List ℕ) → List (List ℕ)
pieces [] rest = rest
pieces (one ∷ more) rest = one.0 ∷ decimal one.1 ∷ pieces more rest

pub numbered_pieces : (all : List Named) (rest : List (List ℕ)) → flat_map (λ (one : Named). numbered one.0 one.1) all ++ concat rest ≡ concat (pieces all rest)
numbered_pieces [] rest = refl
numbered_pieces (one ∷ more) rest =
    let later = flat_map (λ (one : Named). numbered one.0 one.1) more in
    append_assoc (numbered one.0 one.1) later (concat rest)
    ∙ append_assoc one.0 (decimal one.1) (later ++ concat rest)
    ∙ ap (λ (u : List ℕ). one.0 ++ (decimal one.1 ++ u)) (numbered_pieces more rest)

-- numbers with a name, a text and a tail behind them
pub after_numbers : (t0 t1 t2 t3 : List ℕ) (name text tail : List ℕ) {numbers : List ℕ} → t0 ≡ numbers → t1 ≡ t0 ++ name → t2 ≡ t1 ++ text → t3 ≡ t2 ++ tail
    → t3 ≡ numbers ++ (name ++ (text ++ tail))
after_numbers t0 t1 t2 t3 name text tail e0 e1 e2 e3 =
    e3 ∙ ap (λ (t : List ℕ). t ++ tail) (e2 ∙ ap (λ (t : List ℕ). t ++ text) (e1 ∙ ap (λ (t : List ℕ). t ++ name) e0))
    ∙ append_assoc (_ ++ name) text tail
    ∙ append_assoc _ name (text ++ tail)
