-- The cells of the edges so far, with one more, and their numbers edge after edge.
use Rattle.prl_base.proofs.Standard.{◌≡◌, ◌+◌, ◌<◌, ◌≤◌, ◌++◌, ℕ, zero, suc, List, [], ◌∷◌, Some, length, get_or, take, sum, inl, inr, refl, sym, ◌∙◌, ap, subst, arith, slice_get, slice_index}
use Rattle.prl_base.proofs.Standard.{slice_index_or, cases_lt, length_push, get_or_push, get_or_append_left, sum_by-cons, slice_get-get_or, same_Some}
use Rattle.prl_plan.specs.Vocabulary.{AreLeastCells, HasCells, no_used, ListsSums, encoded_release, encoded_deadline, AreShortGaps, edge_at, no_edge, constants_in}
use Rattle.prl_plan.specs.declared.graphs.Edge.{Edge}
use Rattle.prl_plan.specs.declared.graphs.TaskGraph.{TaskGraph}
use Rattle.prl_plan.specs.declared.tables.Used.{Used}
use Rattle.prl_plan.specs.declared.tables.Window.{Window}
use Rattle.prl_plan.specs.declared.words.Word.{Word}
use Rattle.prl_buffers.specs.Vocabulary.{IsPlanned, base_of, HasEdgeCells, IsDated, AreListed, bases_from}

-- an element at a place of a list
pub item_at : {A : Type 0} (list items : List A) (k : ℕ) (x : A) → items ≡ list → k < length items → x ≡ get_or items k x → slice_get list k ≡ Some x
item_at list items k x same inside is =
    subst (λ l. slice_get l k ≡ Some x) same (slice_get-get_or items k x inside ∙ ap (λ y. Some y) (sym is))

prefix_within : (words : List Word) (e : ℕ) (w : Word) → slice_get words e ≡ Some w → length w.prefix ≤ constants_in words
prefix_within [] e w at = cc
prefix_within (v ∷ words) zero w at =
    omega (arith, sum_by-cons (λ (x : Word). length x.prefix) v words, ap (λ (x : Word). length x.prefix) (same_Some v w at))
prefix_within (v ∷ words) (suc e) w at = omega (arith, prefix_within words e w at, sum_by-cons (λ (x : Word). length x.prefix) v words)

pub planned : (graph : TaskGraph) (words : List Word) (windows : List (List Window)) → IsDated graph words windows → (e : ℕ) (edge : Edge) (w : Word) →
    slice_get graph.edges e ≡ Some edge → slice_get words e ≡ Some w → IsPlanned graph windows edge w
planned graph words windows is e edge w at word_at =
    let each = is.are_words.each e edge at in
    let same : each.0 ≡ w = same_Some each.0 w (sym each.1 ∙ word_at) in
    let few = is.are_words.few in
    let within = prefix_within words e w word_at in
    record {
      well = is.well;
      dates = is.dates;
      place = e;
      at = at;
      of_edge = rw (← same) each.2;
      few = omega (arith, few, within);
    }

module _ (graph : TaskGraph) (windows : List (List Window)) where
  pub one_more : (i : ℕ) (counts : List ℕ) (used : List Used) (sums : List (List ℕ)) (item : Edge) (count : ℕ) (one : Used) (sum_list : List ℕ) →
      AreListed graph windows i counts used sums → slice_get graph.edges i ≡ Some item → HasEdgeCells graph windows item count one sum_list →
      AreListed graph windows (i + 1) (counts ++ count ∷ []) (used ++ one ∷ []) (sums ++ sum_list ∷ [])
  one_more i counts used sums item count one sum_list are stands cells =
      let a = are.counts_long in
      let b = are.used_long in
      let d = are.sums_long in
      record {
        counts_long = omega (arith, length_push counts count, a);
        used_long = omega (arith, length_push used one, b);
        sums_long = omega (arith, length_push sums sum_list, d);
        each = λ e edge below at.
            elim (cases_lt e i) [
              | inl old ↦
                  rw (
                    get_or_append_left counts (count ∷ []) 0 e (omega (arith, old, a)),
                    get_or_append_left used (one ∷ []) no_used e (omega (arith, old, b)),
                    get_or_append_left sums (sum_list ∷ []) [] e (omega (arith, old, d)),
                  ) (are.each e edge old at)
              | inr here ↦
                  (let same : i ≡ e = omega (arith, here, below) in
                  let item_is : item ≡ edge = same_Some item edge (sym (subst (λ (n : ℕ). slice_get graph.edges n ≡ Some item) same stands) ∙ at) in
                  rw (get_or_push counts count 0 e (a ∙ same), get_or_push used one no_used e (b ∙ same), get_or_push sums sum_list [] e (d ∙ same), ← item_is) cells)
            ];
      }

  pub begins : AreListed graph windows 0 [] [] []
  begins = record { counts_long = refl; used_long = refl; sums_long = refl; each = λ e edge below at. absurd (omega (arith, below)) }

length_bases : (before : ℕ) (counts : List ℕ) → length (bases_from before counts) ≡ length counts
length_bases before [] = refl
length_bases before (count ∷ counts) = omega (arith, length_bases (before + count) counts)

base_at : (before : ℕ) (counts : List ℕ) (e : ℕ) → e < length counts → slice_index (bases_from before counts) e ≡ base_of (slice_index counts e) (before + sum (take e counts))
base_at before [] e below = absurd (omega (arith, below))
base_at before (count ∷ counts) zero below = ap (λ (x : ℕ). base_of count x) (let z : sum (take 0 (count ∷ counts)) ≡ 0 = refl in let e : before ≡ before + sum (take 0 (count ∷ counts)) = omega (arith, z) in e)
base_at before (count ∷ counts) (suc e) below =
    let rest = base_at (before + count) counts e (omega (arith, below)) in
    let s : sum (take (suc e) (count ∷ counts)) ≡ count + sum (take e counts) = sum_by-cons (λ y. y) count (take e counts) in
    rest ∙ ap (λ (x : ℕ). base_of (slice_index counts e) x) (let g : before + count + sum (take e counts) ≡ before + sum (take (suc e) (count ∷ counts)) = omega (arith, s) in g)

inside_list : (xs : List Edge) (e : ℕ) (edge : Edge) → slice_get xs e ≡ Some edge → e < length xs
inside_list [] e edge h = cc
inside_list (x ∷ xs) zero edge h = omega arith
inside_list (x ∷ xs) (suc e) edge h = omega (arith, inside_list xs e edge h)

module _ (graph : TaskGraph) (windows : List (List Window)) (counts : List ℕ) (used : List Used) (sums : List (List ℕ))
    (are : AreListed graph windows (length graph.edges) counts used sums) where
  pub least_cells : AreLeastCells graph windows (bases_from 0 counts) counts used
  least_cells = record {
    lengths = (length_bases 0 counts ∙ are.counts_long, are.counts_long, are.used_long);
    cells = λ e edge at.
        (let inside = inside_list graph.edges e edge at in
        let has = are.each e edge inside at in
        let base : slice_index (bases_from 0 counts) e ≡ base_of (slice_index counts e) (sum (take e counts)) =
        base_at 0 counts e (let l = are.counts_long in omega (arith, inside, l)) ∙ ap (λ (x : ℕ). base_of (slice_index counts e) x) (let z : 0 + sum (take e counts) ≡ sum (take e counts) = omega arith in z) in
        subst (λ (x : ℕ). HasCells edge edge.from (encoded_release graph windows) (encoded_deadline graph windows) (sum (take e counts)) x (slice_index counts e) (slice_index_or used e no_used))
        (sym base) (has.cells (sum (take e counts))));
  }

  found : (e : ℕ) → e < length used → HasEdgeCells graph windows (edge_at graph e) (slice_index counts e) (slice_index_or used e no_used) (slice_index_or sums e [])
  found e below =
      let inside : e < length graph.edges = omega (arith, below, are.used_long) in
      are.each e (edge_at graph e) inside (slice_get-get_or graph.edges e no_edge inside)

  pub short_gaps : AreShortGaps used
  short_gaps = λ e below. (found e below).short

  pub sums_are : (length sums ≡ length used) × ((e : ℕ) → e < length used → ListsSums (slice_index_or used e no_used).gaps (slice_index_or sums e []))
  sums_are = (are.sums_long ∙ sym are.used_long, λ e below. (found e below).summed)
