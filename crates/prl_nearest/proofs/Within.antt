-- Words that are few edits apart.
use Rattle.prl_base.proofs.Standard.{◌≡◌, ◌++◌, ◌⊎◌, ◌∙◌, ℕ, zero, suc, List, [], ◌∷◌, ap, drop, inl, inr, refl, subst, sym, take, take-append-drop}
use Rattle.prl_nearest.specs.Edits.{HasOneMore, HasOneOther, IsEdit, IsWithin}

more_behind : (x : ℕ) (a b : List ℕ) → HasOneMore a b → HasOneMore (x ∷ a) (x ∷ b)
more_behind x a b h = record {
  front = x ∷ h.front;
  more = h.more;
  rest = h.rest;
  is_short = ap (λ (t : List ℕ). x ∷ t) h.is_short;
  is_long = ap (λ (t : List ℕ). x ∷ t) h.is_long;
}

other_behind : (x : ℕ) (a b : List ℕ) → HasOneOther a b → HasOneOther (x ∷ a) (x ∷ b)
other_behind x a b h = record {
  front = x ∷ h.front;
  one = h.one;
  other = h.other;
  rest = h.rest;
  is_a = ap (λ (t : List ℕ). x ∷ t) h.is_a;
  is_b = ap (λ (t : List ℕ). x ∷ t) h.is_b;
}

edit_behind : (x : ℕ) (a b : List ℕ) → IsEdit a b → IsEdit (x ∷ a) (x ∷ b)
edit_behind x a b (inl h) = inl (more_behind x a b h)
edit_behind x a b (inr (inl h)) = inr (inl (more_behind x b a h))
edit_behind x a b (inr (inr h)) = inr (inr (other_behind x a b h))

behind : (most x : ℕ) (a b : List ℕ) → IsWithin most a b → IsWithin most (x ∷ a) (x ∷ b)
behind zero x a b h = ap (λ (t : List ℕ). x ∷ t) h
behind (suc most) x a b (inl same) = inl (ap (λ (t : List ℕ). x ∷ t) same)
behind (suc most) x a b (inr (c, edit, h)) = inr (x ∷ c, edit_behind x a c edit, behind most x c b h)

-- the first byte changes
other_within : (most x y : ℕ) (a b : List ℕ) → IsWithin most a b → IsWithin (suc most) (x ∷ a) (y ∷ b)
other_within most x y a b h =
    inr (y ∷ a, inr (inr (record { front = []; one = x; other = y; rest = a; is_a = refl; is_b = refl })), behind most y a b h)

-- the first byte goes
less_within : (most x : ℕ) (a b : List ℕ) → IsWithin most a b → IsWithin (suc most) (x ∷ a) b
less_within most x a b h = inr (a, inr (inl (record { front = []; more = x; rest = a; is_short = refl; is_long = refl })), h)

-- a byte comes before the first
more_within : (most y : ℕ) (a b : List ℕ) → IsWithin most a b → IsWithin (suc most) a (y ∷ b)
more_within most y a b h = inr (y ∷ a, inl (record { front = []; more = y; rest = a; is_short = refl; is_long = refl }), behind most y a b h)

-- one edit more
wider : (most : ℕ) (a b : List ℕ) → IsWithin most a b → IsWithin (suc most) a b
wider zero a b h = inl h
wider (suc most) a b (inl same) = inl same
wider (suc most) a b (inr (c, edit, h)) = inr (c, edit, wider most c b h)

step_other : (most : ℕ) (a b : List ℕ) → IsWithin most (drop 1 a) (drop 1 b) → IsWithin (suc most) a b
step_other most [] [] h = wider most [] [] h
step_other most [] (y ∷ b) h = more_within most y [] b h
step_other most (x ∷ a) [] h = less_within most x a [] h
step_other most (x ∷ a) (y ∷ b) h = other_within most x y a b h

step_less : (most : ℕ) (a b : List ℕ) → IsWithin most (drop 1 a) b → IsWithin (suc most) a b
step_less most [] b h = wider most [] b h
step_less most (x ∷ a) b h = less_within most x a b h

step_more : (most : ℕ) (a b : List ℕ) → IsWithin most a (drop 1 b) → IsWithin (suc most) a b
step_more most a [] h = wider most a [] h
step_more most a (y ∷ b) h = more_within most y a b h

all_behind : (most : ℕ) (front a b : List ℕ) → IsWithin most a b → IsWithin most (front ++ a) (front ++ b)
all_behind most [] a b h = h
all_behind most (x ∷ front) a b h = behind most x (front ++ a) (front ++ b) (all_behind most front a b h)

-- behind what is the same
after_front : (most i : ℕ) (a b : List ℕ) → take i a ≡ take i b → IsWithin most (drop i a) (drop i b) → IsWithin most a b
after_front most i a b same h =
    let whole = all_behind most (take i a) (drop i a) (drop i b) h in
    let left : take i a ++ drop i a ≡ a = take-append-drop i a in
    let right : take i a ++ drop i b ≡ b = ap (λ (t : List ℕ). t ++ drop i b) same ∙ take-append-drop i b in
    subst (λ (t : List ℕ). IsWithin most t b) left (subst (λ (t : List ℕ). IsWithin most (take i a ++ drop i a) t) right whole)

pub one_other : (a b ra rb : List ℕ) → ra ≡ drop 1 a → rb ≡ drop 1 b → ra ≡ rb → IsWithin 1 a b
one_other a b ra rb left right same = step_other 0 a b (sym left ∙ same ∙ right)

pub one_less : (a b ra : List ℕ) → ra ≡ drop 1 a → ra ≡ b → IsWithin 1 a b
one_less a b ra left same = step_less 0 a b (sym left ∙ same)

pub one_more : (a b rb : List ℕ) → rb ≡ drop 1 b → a ≡ rb → IsWithin 1 a b
one_more a b rb right same = step_more 0 a b (same ∙ right)

pub two_other : (a b ra rb : List ℕ) → ra ≡ drop 1 a → rb ≡ drop 1 b → IsWithin 1 ra rb → IsWithin 2 a b
two_other a b ra rb left right h = step_other 1 a b (subst (λ (t : List ℕ). IsWithin 1 t (drop 1 b)) left (subst (λ (t : List ℕ). IsWithin 1 ra t) right h))

pub two_less : (a b ra : List ℕ) → ra ≡ drop 1 a → IsWithin 1 ra b → IsWithin 2 a b
two_less a b ra left h = step_less 1 a b (subst (λ (t : List ℕ). IsWithin 1 t b) left h)

pub two_more : (a b rb : List ℕ) → rb ≡ drop 1 b → IsWithin 1 a rb → IsWithin 2 a b
two_more a b rb right h = step_more 1 a b (subst (λ (t : List ℕ). IsWithin 1 a t) right h)

pub one_after : (i : ℕ) (a b fa fb ra rb : List ℕ) → fa ≡ take i a → fb ≡ take i b → fa ≡ fb → ra ≡ drop i a → rb ≡ drop i b → IsWithin 1 ra rb → IsWithin 1 a b
one_after i a b fa fb ra rb front_a front_b same rest_a rest_b h =
    after_front 1 i a b (sym front_a ∙ same ∙ front_b)
    (subst (λ (t : List ℕ). IsWithin 1 t (drop i b)) rest_a (subst (λ (t : List ℕ). IsWithin 1 ra t) rest_b h))

pub two_after : (i : ℕ) (a b fa fb ra rb : List ℕ) → fa ≡ take i a → fb ≡ take i b → fa ≡ fb → ra ≡ drop i a → rb ≡ drop i b → IsWithin 2 ra rb → IsWithin 2 a b
two_after i a b fa fb ra rb front_a front_b same rest_a rest_b h =
    after_front 2 i a b (sym front_a ∙ same ∙ front_b)
    (subst (λ (t : List ℕ). IsWithin 2 t (drop i b)) rest_a (subst (λ (t : List ℕ). IsWithin 2 ra t) rest_b h))
