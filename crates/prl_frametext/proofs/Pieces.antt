-- Pieces of a text.
use Rattle.prl_base.proofs.Standard.{◌≡◌, ◌++◌, ◌∙◌, List, ap, append_assoc}

-- two pieces one after another
pub joined : {X : Type 0} (w a b x y : List X) → x ≡ w ++ a → y ≡ x ++ b → y ≡ w ++ (a ++ b)
joined {X} w a b x y first second = second ∙ ap (λ (xs : List X). xs ++ b) first ∙ append_assoc w a b
