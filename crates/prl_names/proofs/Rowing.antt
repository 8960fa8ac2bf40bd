-- The rows of the nodes, one after another.
use Rattle.prl_base.proofs.Standard.{◌≡◌, ◌<◌, ◌||◌, ◌&&◌, ℕ, ◌+◌, zero, suc, Bool, true, false, cond, List, [], ◌∷◌, ◌++◌, length, take, drop, drop-cons, add-one, map, get_or, replicate, refl, sym}
use Rattle.prl_base.proofs.Standard.{ap, ◌∙◌, subst, Some, arith, take-append_seam, length-map}
use Rattle.std.specs.List.{slice_get}
use Rattle.prl_ast.specs.Trees.{NodeTree, ProgramTree, node_tree}
use Rattle.prl_ast.specs.declared.declarations.Node.{Node}
use Rattle.prl_names.specs.Vocabulary.{applied_by, applied_equations, reaches_by, reaches, recursive_from, mark_of, Adds, IsRow, AreRows, or_marks, led_through, row_of, all_led_through}

unmarked : (n j : ℕ) → mark_of (replicate n false) j ≡ false
unmarked zero j = refl
unmarked (suc n) zero = refl
unmarked (suc n) (suc j) = unmarked n j

pub first_row : (p : ProgramTree) (by : ℕ) (n : NodeTree) (start row : List Bool) → slice_get p.nodes by ≡ Some n → start ≡ replicate (length p.nodes) false →
    length start ≡ length p.nodes → Adds (λ j. applied_equations p j n.eqs) start row → IsRow p 0 by row
unfolding reaches_by
first_row p by n start row there is len adds = record {
  all = adds.same ∙ len;
  each = λ j below.
      (let within : j < length start = rw len below in
      let none : mark_of start j ≡ false = ap (λ l. mark_of l j) is ∙ unmarked (length p.nodes) j in
      adds.each j within ∙ ap (λ b. b || applied_equations p j n.eqs) none ∙ sym (ap (applied_by p j) there));
}

pub kept_row : (new rest : List Bool) (len : ℕ) → length new ≡ len → take len (new ++ rest) ≡ new
kept_row new rest len is = rw (← is) (take-append_seam new rest)

pub rows_push : (p : ProgramTree) (k by : ℕ) (rows : List (List Bool)) (row : List Bool) → AreRows p k by rows → IsRow p k (by + length rows) row → AreRows p k by (rows ++ row ∷ [])
rows_push p k by [] row before one = (let same : by + 0 ≡ by = omega arith in (subst (λ i. IsRow p k i row) same one, tt))
rows_push p k by (r ∷ rows) row before one =
    (let moved : by + suc (length rows) ≡ (by + 1) + length rows = omega arith in
    (before.0, rows_push p k (by + 1) rows row before.1 (subst (λ i. IsRow p k i row) moved one)))

pub rows_step : (p : ProgramTree) (rows : List (List Bool)) (row new : List Bool) (k : ℕ) → AreRows p 0 0 rows → length rows ≡ k → IsRow p 0 k row → new ≡ row →
    AreRows p 0 0 (rows ++ new ∷ [])
rows_step p rows row new k are len is same =
    let index : k ≡ 0 + length rows = omega arith in
    rows_push p 0 0 rows new are (rw same (subst (λ i. IsRow p 0 i row) index is))

pub row_at : (p : ProgramTree) (k by i : ℕ) (rows : List (List Bool)) → AreRows p k by rows → i < length rows → IsRow p k (by + i) (row_of rows i)
row_at p k by i [] are below = absurd (omega arith)
row_at p k by zero (r ∷ rows) are below = (let same : by ≡ by + 0 = omega arith in subst (λ i. IsRow p k i r) same are.0)
row_at p k by (suc i) (r ∷ rows) are below =
    (let moved : (by + 1) + i ≡ by + suc i = omega arith in
    subst (λ m. IsRow p k m (row_of rows i)) moved (row_at p k (by + 1) i rows are.1 (omega arith)))

mark_or : (a b : List Bool) (j : ℕ) → length a ≡ length b → mark_of (or_marks a b) j ≡ (mark_of a j || mark_of b j)
mark_or [] [] j same = refl
mark_or [] (y ∷ b) j same = absurd (omega arith)
mark_or (x ∷ a) [] j same = absurd (omega arith)
mark_or (x ∷ a) (y ∷ b) zero same = refl
mark_or (x ∷ a) (y ∷ b) (suc j) same = mark_or a b j (omega arith)

length_or : (a b : List Bool) → length (or_marks a b) ≡ length a
length_or [] b = refl
length_or (x ∷ a) [] = refl
length_or (x ∷ a) (y ∷ b) = ap suc (length_or a b)

or_false : (a : Bool) → a ≡ (a || false)
or_false true = refl
or_false false = refl

led_row : (p : ProgramTree) (k by : ℕ) (others row : List Bool) → k < length p.nodes → IsRow p k k others → IsRow p k by row → IsRow p (suc k) by (led_through k others row)
unfolding reaches_by
led_row p k by others row below through is =
    let marked : mark_of row k ≡ reaches_by p k by k = is.each k below in
    elim (mark_of row k) as (λ b. b ≡ reaches_by p k by k → IsRow p (suc k) by (cond b (or_marks row others) row)) [
      | true ↦ λ e. record {
        all = length_or row others ∙ is.all;
        each = λ j within.
            mark_or row others j (is.all ∙ sym through.all) ∙ ap (λ b. b || mark_of others j) (is.each j within)
            ∙ ap (λ b. reaches_by p k by j || b) (through.each j within ∙ ap (λ b. b && reaches_by p k k j) e);
      }
      | false ↦ λ e. record {
        all = is.all;
        each = λ j within. is.each j within ∙ or_false (reaches_by p k by j) ∙ ap (λ b. reaches_by p k by j || (b && reaches_by p k k j)) e;
      }
    ] marked

led_rows : (p : ProgramTree) (k by : ℕ) (others : List Bool) (rows : List (List Bool)) → k < length p.nodes → IsRow p k k others → AreRows p k by rows →
    AreRows p (suc k) by (map (led_through k others) rows)
led_rows p k by others [] below through are = tt
led_rows p k by others (r ∷ rows) below through are = (led_row p k by others r below through are.0, led_rows p k (by + 1) others rows below through are.1)

pub all_led : (p : ProgramTree) (k : ℕ) (rows : List (List Bool)) → k < length p.nodes → length rows ≡ length p.nodes → AreRows p k 0 rows → AreRows p (suc k) 0 (all_led_through k rows)
all_led p k rows below len are =
    let within : k < length rows = rw len below in
    let start : 0 + k ≡ k = omega arith in
    led_rows p k 0 (row_of rows k) rows below (subst (λ i. IsRow p k i (row_of rows k)) start (row_at p k 0 k rows are within)) are

pub rows_square : (p : ProgramTree) (k by i : ℕ) (rows : List (List Bool)) (d : List Bool) → AreRows p k by rows → i < length rows → length (get_or rows i d) ≡ length p.nodes
rows_square p k by i [] d are below = absurd (omega arith)
rows_square p k by zero (r ∷ rows) d are below = are.0.all
rows_square p k by (suc i) (r ∷ rows) d are below = rows_square p k (by + 1) i rows d are.1 (omega arith)

row_is : (p : ProgramTree) (k by i : ℕ) (rows : List (List Bool)) (r : List Bool) → AreRows p k by rows → i < length rows → r ≡ get_or rows i r → IsRow p k (by + i) r
row_is p k by i [] r are below is = absurd (omega arith)
row_is p k by zero (x ∷ rows) r are below is =
    (let same : by ≡ by + 0 = omega arith in subst (λ i. IsRow p k i r) same (rw is are.0))
row_is p k by (suc i) (x ∷ rows) r are below is =
    (let moved : (by + 1) + i ≡ by + suc i = omega arith in subst (λ m. IsRow p k m r) moved (row_is p k (by + 1) i rows r are.1 (omega arith) is))

pub own_row : (p : ProgramTree) (k i : ℕ) (rows : List (List Bool)) (r : List Bool) → AreRows p k 0 rows → i < length rows → r ≡ get_or rows i r → IsRow p k i r
own_row p k i rows r are below is =
    let start : 0 + i ≡ i = omega arith in
    subst (λ m. IsRow p k m r) start (row_is p k 0 i rows r are below is)

pub recursive_here : (p : ProgramTree) (nodes : List Node) (k : ℕ) (x : Node) → k < length nodes → x ≡ get_or nodes k x → reaches p k k ≡ true →
    Some x.name ≡ recursive_from p k (map node_tree (drop k nodes))
recursive_here p nodes k x below item itself =
    let later : drop k nodes ≡ x ∷ drop (k + 1) nodes = rw (add-one, drop-cons nodes k x below, ← item) refl in
    rw (later, itself) refl

pub recursive_later : (p : ProgramTree) (nodes : List Node) (k : ℕ) (x : Node) → k < length nodes → x ≡ get_or nodes k x → reaches p k k ≡ false →
    recursive_from p (k + 1) (map node_tree (drop (k + 1) nodes)) ≡ recursive_from p k (map node_tree (drop k nodes))
recursive_later p nodes k x below item not_itself =
    let later : drop k nodes ≡ x ∷ drop (k + 1) nodes = rw (add-one, drop-cons nodes k x below, ← item) refl in
    rw (later, not_itself) refl

-- the row of a node, in a table of all that is reached
pub closed_row : (p : ProgramTree) (nodes : List Node) (rows : List (List Bool)) (k : ℕ) (r : List Bool) → p.nodes ≡ map node_tree nodes → AreRows p (length nodes) 0 rows →
    length rows ≡ length nodes → k < length nodes → r ≡ get_or rows k r → (length r ≡ length nodes) × (mark_of r k ≡ reaches p k k)
closed_row p nodes rows k r tree are len below is =
    let count : length p.nodes ≡ length nodes = ap length tree ∙ length-map nodes node_tree in
    let within : k < length rows = rw len below in
    let inside : k < length p.nodes = rw count below in
    let row = own_row p (length p.nodes) k rows r (subst (λ n. AreRows p n 0 rows) (sym count) are) within is in
    (row.all ∙ count, row.each k inside)
