-- The line of a run, from its fields.
use Rattle.std.proofs.Common.{◌≡◌, ◌++◌, ◌∙◌, ℕ, List, codes, decimal}
use Rattle.std.proofs.lemmas.List.{append_assoc}
use Rattle.prl_edf.specs.VerdictTexts.{run_line}

joined : (old a x b y c z end : List ℕ) → ((((((old ++ a) ++ x) ++ b) ++ y) ++ c) ++ z) ++ end ≡ old ++ (a ++ (x ++ (b ++ (y ++ (c ++ (z ++ end))))))
joined old a x b y c z end =
    append_assoc (((((old ++ a) ++ x) ++ b) ++ y) ++ c) z end
    ∙ append_assoc ((((old ++ a) ++ x) ++ b) ++ y) c (z ++ end)
    ∙ append_assoc (((old ++ a) ++ x) ++ b) y (c ++ (z ++ end))
    ∙ append_assoc ((old ++ a) ++ x) b (y ++ (c ++ (z ++ end)))
    ∙ append_assoc (old ++ a) x (b ++ (y ++ (c ++ (z ++ end))))
    ∙ append_assoc old a (x ++ (b ++ (y ++ (c ++ (z ++ end)))))

-- the text after each field
pub run_fields : (jobs pieces ticks : ℕ) (old t u v w : List ℕ) → t ≡ (old ++ codes "feasible jobs ") ++ decimal jobs → u ≡ (t ++ codes " slices ") ++ decimal pieces →
    v ≡ (u ++ codes " busy ") ++ decimal ticks → w ≡ v ++ codes "\n" → w ≡ old ++ run_line jobs pieces ticks
run_fields jobs pieces ticks old t u v w e f g h =
    rw (h, g, f, e) (joined old (codes "feasible jobs ") (decimal jobs) (codes " slices ") (decimal pieces) (codes " busy ") (decimal ticks) (codes "\n"))
