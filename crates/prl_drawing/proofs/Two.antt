-- Two texts, appended one after the other.
use Rattle.std.proofs.Common.{◌≡◌, ◌++◌, ◌∙◌, ℕ, List, Result, Ok, Err, ap, append_assoc}
use Rattle.std.specs.Result.{OnOk}

pub two : {A E : Type 0} (r : Result A E) (t t1 t2 a b c : List ℕ) → t1 ≡ t ++ a → b ≡ c → OnOk r (t2 ≡ t1 ++ b) → OnOk r (t2 ≡ t ++ (a ++ c))
two (Ok x) t t1 t2 a b c first same second =
    second ∙ ap (λ (ys : List ℕ). ys ++ b) first ∙ append_assoc t a b ∙ ap (λ (ys : List ℕ). t ++ (a ++ ys)) same
two (Err x) t t1 t2 a b c first same second = second
