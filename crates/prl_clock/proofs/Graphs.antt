-- Constraints one more, which flows they connect, and the lowest of these.
use Rattle.std.proofs.Common.{◌≡◌, ◌≤◌, ◌++◌, ◌⊎◌, inl, inr, ℕ, List, [], ◌∷◌, refl, sym, ◌∙◌, arith}
use Rattle.prl_clock.specs.Vocabulary.{Assignment, MeetsAll, Joins, Connected, here, on, IsLowest, Placed, HasRate}

pub meets_before : (s : Assignment) (cs : List Placed) (ds : List Placed) → MeetsAll s (cs ++ ds) → MeetsAll s cs
meets_before s [] ds m = tt
meets_before s (c ∷ cs) ds m = (m.0, meets_before s cs ds m.1)

pub meets_after : (s : Assignment) (cs : List Placed) (ds : List Placed) → MeetsAll s (cs ++ ds) → MeetsAll s ds
meets_after s [] ds m = m
meets_after s (c ∷ cs) ds m = meets_after s cs ds m.1

pub meets_both : (s : Assignment) (cs : List Placed) (ds : List Placed) → MeetsAll s cs → MeetsAll s ds → MeetsAll s (cs ++ ds)
meets_both s [] ds m n = n
meets_both s (c ∷ cs) ds m n = (m.0, meets_both s cs ds m.1 n)

pub joins_before : (cs ds : List Placed) (x y : ℕ) → Joins cs x y → Joins (cs ++ ds) x y
joins_before [] ds x y j = absurd j
joins_before (c ∷ cs) ds x y (inl j) = inl j
joins_before (c ∷ cs) ds x y (inr j) = inr (joins_before cs ds x y j)

pub joins_after : (cs ds : List Placed) (x y : ℕ) → Joins ds x y → Joins (cs ++ ds) x y
joins_after [] ds x y j = j
joins_after (c ∷ cs) ds x y j = inr (joins_after cs ds x y j)

pub joins_either : (cs ds : List Placed) (x y : ℕ) → Joins (cs ++ ds) x y → Joins cs x y ⊎ Joins ds x y
joins_either [] ds x y j = inr j
joins_either (c ∷ cs) ds x y (inl j) = inl (inl j)
joins_either (c ∷ cs) ds x y (inr j) = elim (joins_either cs ds x y j) [ inl k ↦ inl (inr k) | inr k ↦ inr k ]

pub rates_either : (cs ds : List Placed) (x : ℕ) → HasRate (cs ++ ds) x → HasRate cs x ⊎ HasRate ds x
rates_either [] ds x j = inr j
rates_either (c ∷ cs) ds x (inl j) = inl (inl j)
rates_either (c ∷ cs) ds x (inr j) = elim (rates_either cs ds x j) [ inl k ↦ inl (inr k) | inr k ↦ inr k ]

joins_either_way : (cs ds : List Placed) (y z : ℕ) → Joins cs y z ⊎ Joins cs z y → Joins (cs ++ ds) y z ⊎ Joins (cs ++ ds) z y
joins_either_way cs ds y z (inl j) = inl (joins_before cs ds y z j)
joins_either_way cs ds y z (inr j) = inr (joins_before cs ds z y j)

pub connected_before : (cs ds : List Placed) (x y : ℕ) → Connected cs x y → Connected (cs ++ ds) x y
connected_before cs ds x y (here z) = here z
connected_before cs ds x y (on u z v c j) = on u z v (connected_before cs ds u z c) (joins_either_way cs ds z v j)

pub connected_through : (cs : List Placed) (x y z : ℕ) → Connected cs x y → Connected cs y z → Connected cs x z
connected_through cs x y z c (here v) = c
connected_through cs x y z c (on u w v d j) = on x w v (connected_through cs x u w c d) j

flipped : (cs : List Placed) (y z : ℕ) → Joins cs y z ⊎ Joins cs z y → Joins cs z y ⊎ Joins cs y z
flipped cs y z (inl j) = inr j
flipped cs y z (inr j) = inl j

pub connected_back : (cs : List Placed) (x y : ℕ) → Connected cs x y → Connected cs y x
connected_back cs x y (here z) = here z
connected_back cs x y (on u z v c j) = connected_through cs v z u (on v v z (here v) (flipped cs z v j)) (connected_back cs u z c)

module _ (cs : List Placed) (root : ℕ → ℕ) (joined : (x y : ℕ) → Joins cs x y → root x ≡ root y) where
  pub same_root : (x y : ℕ) → Connected cs x y → root x ≡ root y
  same_root x y (here z) = refl
  same_root x y (on u z v c (inl j)) = same_root u z c ∙ joined z v j
  same_root x y (on u z v c (inr j)) = same_root u z c ∙ sym (joined v z j)

  pub lowest_root : (low : (x : ℕ) → root x ≤ x) (led : (x : ℕ) → Connected cs x (root x)) (x y : ℕ) → IsLowest cs x y → y ≡ root x
  lowest_root low led x y l =
      let e : root x ≡ root y = same_root x y l.connected in
      let a : root y ≤ y = low y in
      let b : y ≤ root x = l.lowest (root x) (led x) in omega arith
