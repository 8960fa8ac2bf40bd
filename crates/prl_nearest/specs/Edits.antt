-- How far two words are apart, in edits of one byte.
use Rattle.std.specs.Prelude.{◌≡◌, ◌⊎◌, ◌++◌, ℕ, zero, suc, List, ◌∷◌}

-- the longer word has one byte more, somewhere
pub record HasOneMore (short long : List ℕ) : Type 0 where
  pub front : List ℕ
  pub more : ℕ
  pub rest : List ℕ
  pub is_short : short ≡ front ++ rest
  pub is_long : long ≡ front ++ more ∷ rest

-- one byte of the words may differ
pub record HasOneOther (a b : List ℕ) : Type 0 where
  pub front : List ℕ
  pub one : ℕ
  pub other : ℕ
  pub rest : List ℕ
  pub is_a : a ≡ front ++ one ∷ rest
  pub is_b : b ≡ front ++ other ∷ rest

-- a byte is put in, taken out or changed
abbrev pub IsEdit : List ℕ → List ℕ → Type 0
IsEdit a b = HasOneMore a b ⊎ (HasOneMore b a ⊎ HasOneOther a b)

-- so many edits or fewer make the one word of the other
abbrev pub IsWithin : ℕ → List ℕ → List ℕ → Type 0
IsWithin zero a b = a ≡ b
IsWithin (suc most) a b = (a ≡ b) ⊎ ((c : List ℕ) × IsEdit a c × IsWithin most c b)
