-- The definitions by numbers, at the number after one.
use Rattle.prl_base.proofs.Standard.{◌≡◌, ℕ, ◌+◌, ◌%◌, List, ◌++◌, refl, add-one, get_or, append_assoc, mod-add-mod}
use Rattle.prl_gen.specs.Vocabulary.{next, state_after, instances, state_of_lane, each}

pub each_more : {A : Type 0} (list : ℕ → List A) (count : ℕ) → each list (count + 1) ≡ each list count ++ list count
each_more list count = rw add-one refl

-- a text with one more of the lists at its end
pub joined_more : (before now after : List ℕ) (list : ℕ → List ℕ) (count : ℕ)
    → now ≡ before ++ each list count → after ≡ now ++ list count → after ≡ before ++ each list (count + 1)
joined_more before now after list count p q =
    let assoc : (before ++ each list count) ++ list count ≡ before ++ (each list count ++ list count) = simp append_assoc in
    let more = each_more list count in
    cc

pub state_more : (state draws : ℕ) → state_after state (draws + 1) ≡ next (state_after state draws)
state_more state draws = rw add-one refl

pub lane_more : (periods : List ℕ) (state lane : ℕ)
    → state_of_lane periods state (lane + 1) ≡ state_after (state_of_lane periods state lane) (instances (get_or periods lane 0))
lane_more periods state lane = rw add-one refl

pub wrapped_sum : (n m k : ℕ) → (n % m + k) % m ≡ (n + k) % m
wrapped_sum n m k = mod-add-mod n m k
