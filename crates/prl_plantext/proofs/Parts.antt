-- The parts of a text.
use Rattle.prl_base.proofs.Standard.{◌≡◌, ◌==◌, ◌+◌, ◌<◌, ◌≤◌, ℕ, Bool, true, false, List, [], ◌∷◌, cond, length, refl, ap, sym, ◌∙◌, arith, nat_tests, onto_first}
use Rattle.prl_plantext.specs.code.Graphs.{after, before, first_of, lines_in, parts, rest_of, with_line, with_lines}
use Rattle.prl_plan.specs.declared.graphs.TaskGraph.{TaskGraph}

onto_first_of : (b : ℕ) (parts : List (List ℕ)) → first_of (onto_first b parts) ≡ b ∷ first_of parts
onto_first_of b [] = refl
onto_first_of b (part ∷ parts) = refl

onto_rest_of : (b : ℕ) (parts : List (List ℕ)) → rest_of (onto_first b parts) ≡ rest_of parts
onto_rest_of b [] = refl
onto_rest_of b (part ∷ parts) = refl

first_by : (t : Bool) (b : ℕ) (ps : List (List ℕ)) (front : List ℕ) → first_of ps ≡ front →
    first_of (cond t ([] ∷ ps) (onto_first b ps)) ≡ cond t [] (b ∷ front)
first_by true b ps front e = refl
first_by false b ps front e = onto_first_of b ps ∙ ap (λ t. b ∷ t) e

pub first_of_parts : (end : ℕ) (text : List ℕ) → first_of (parts end text) ≡ before end text
first_of_parts end [] = refl
first_of_parts end (b ∷ bs) = first_by (b == end) b (parts end bs) (before end bs) (first_of_parts end bs)

rest_by : (t : Bool) (b : ℕ) (end : ℕ) (bs : List ℕ) → rest_of (parts end bs) ≡ parts end (after end bs) →
    rest_of (cond t ([] ∷ parts end bs) (onto_first b (parts end bs))) ≡ parts end (cond t bs (after end bs))
rest_by true b end bs e = refl
rest_by false b end bs e = onto_rest_of b (parts end bs) ∙ e

pub rest_of_parts : (end : ℕ) (text : List ℕ) → rest_of (parts end text) ≡ parts end (after end text)
rest_of_parts end [] = refl
rest_of_parts end (b ∷ bs) = rest_by (b == end) b end bs (rest_of_parts end bs)

some_onto : (b : ℕ) (ps : List (List ℕ)) → (length (onto_first b ps) == 0) ≡ false
some_onto b [] = grind (arith, nat_tests)
some_onto b (part ∷ ps) = grind (arith, nat_tests)

some_by : (t : Bool) (b : ℕ) (ps : List (List ℕ)) → (length (cond t ([] ∷ ps) (onto_first b ps)) == 0) ≡ false
some_by true b ps = grind (arith, nat_tests)
some_by false b ps = some_onto b ps

some_bytes : (b : ℕ) (bs : List ℕ) → (length (b ∷ bs) == 0) ≡ false
some_bytes b bs = grind (arith, nat_tests)

-- a text has no part only where it is empty
pub length_parts : (end : ℕ) (text : List ℕ) → (length (parts end text) == 0) ≡ (length text == 0)
length_parts end [] = refl
length_parts end (b ∷ bs) = some_by (b == end) b (parts end bs) ∙ sym (some_bytes b bs)

-- the first part of a text that is not empty, and those of the rest
pub parts_of_some : (end b : ℕ) (bs : List ℕ) → parts end (b ∷ bs) ≡ before end (b ∷ bs) ∷ parts end (after end (b ∷ bs))
parts_of_some end b bs = by_test (b == end)
  where
    onto : (ps : List (List ℕ)) → onto_first b ps ≡ (b ∷ first_of ps) ∷ rest_of ps
    onto [] = refl
    onto (part ∷ ps) = refl

    by_test : (t : Bool) → cond t ([] ∷ parts end bs) (onto_first b (parts end bs))
        ≡ cond t [] (b ∷ before end bs) ∷ parts end (cond t bs (after end bs))
    by_test true = refl
    by_test false =
        onto (parts end bs)
        ∙ ap (λ (w : List ℕ). (b ∷ w) ∷ rest_of (parts end bs)) (first_of_parts end bs)
        ∙ ap (λ (ws : List (List ℕ)). (b ∷ before end bs) ∷ ws) (rest_of_parts end bs)

shorter_by : (t : Bool) (bs later : List ℕ) → length later ≤ length bs → length (cond t bs later) < length bs + 1
shorter_by true bs later less = omega arith
shorter_by false bs later less = omega (arith, less)

length_after : (end : ℕ) (text : List ℕ) → length (after end text) ≤ length text
length_after end [] = omega arith
length_after end (b ∷ bs) = let less = shorter_by (b == end) bs (after end bs) (length_after end bs) in omega (arith, less)

pub shorter_after : (end : ℕ) (text : List ℕ) → 0 < length text → length (after end text) < length text
shorter_after end [] some = absurd (omega (arith, some))
shorter_after end (b ∷ bs) some = let less = shorter_by (b == end) bs (after end bs) (length_after end bs) in omega (arith, less)

-- the first line of a text that is not empty, and then those of the rest
pub lines_step : (graph : TaskGraph) (text : List ℕ) → 0 < length text →
    with_lines graph (lines_in text) ≡ with_lines (with_line graph (before 10 text)) (lines_in (after 10 text))
lines_step graph [] some = absurd (omega (arith, some))
lines_step graph (b ∷ bs) some = ap (with_lines graph) (parts_of_some 10 b bs)
