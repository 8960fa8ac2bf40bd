-- Texts to which three pieces are appended one after the other.
use Rattle.prl_base.proofs.Standard.{◌≡◌, ◌++◌, ◌∙◌, ℕ, List, Result, Ok, Err, ap, append_assoc, OnOk}

pub joined : {E : Type 0} (r : Result (Unit {0}) E) (t0 t1 t2 t3 a b c : List ℕ) → t1 ≡ t0 ++ a → t2 ≡ t1 ++ b → OnOk r (t3 ≡ t2 ++ c)
    → OnOk r (t3 ≡ t0 ++ (a ++ (b ++ c)))
joined (Ok done) t0 t1 t2 t3 a b c first second third =
    third ∙ ap (λ (t : List ℕ). t ++ c) second ∙ ap (λ (t : List ℕ). (t ++ b) ++ c) first ∙ append_assoc (t0 ++ a) b c ∙ append_assoc t0 a (b ++ c)
joined (Err fault) t0 t1 t2 t3 a b c first second third = third
