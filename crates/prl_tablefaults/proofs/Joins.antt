-- Texts to which two pieces are appended one after the other.
use Rattle.prl_base.proofs.Standard.{◌≡◌, ◌++◌, ◌∙◌, ℕ, List, Result, Ok, Err, ap, OnOk}
use Rattle.std.proofs.lemmas.List.{append_assoc}

pub joined : {E : Type 0} (r : Result (Unit {0}) E) (t0 t1 t2 a b : List ℕ) → t1 ≡ t0 ++ a → OnOk r (t2 ≡ t1 ++ b) → OnOk r (t2 ≡ t0 ++ (a ++ b))
joined (Ok done) t0 t1 t2 a b first second = second ∙ ap (λ (t : List ℕ). t ++ b) first ∙ append_assoc t0 a b
joined (Err fault) t0 t1 t2 a b first second = second
