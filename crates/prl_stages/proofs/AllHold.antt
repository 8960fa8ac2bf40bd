-- Where no stage of a list refuses, all of them hold.
use Rattle.std.proofs.Common.{◌≡◌, ◌++◌, List, [], ◌∷◌, Some, None, inl, inr}
use Rattle.prl_stages.specs.Vocabulary.{Fault, Stage, Given, Comes, Holds}

-- the first of stages that all hold, and the others
pub first_holds : (g : Given) (stage : Stage) (rest : List Stage) → Comes g (stage ∷ rest) None → Holds g stage × Comes g rest None
first_holds g stage rest h = elim h [ inl both ↦ both | inr refused ↦ absurd (none_some (stage, refused.0) refused.2) ]
  where
    none_some : (x : Stage × Fault) → None ≡ Some x → ⊥
    none_some x e = cc

-- the stages behind others that hold
pub behind : (g : Given) (first rest : List Stage) → Comes g (first ++ rest) None → Comes g rest None
behind g [] rest h = h
behind g (stage ∷ first) rest h = behind g first rest (first_holds g stage (first ++ rest) h).1
