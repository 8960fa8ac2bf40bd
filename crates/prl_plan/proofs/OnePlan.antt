-- A graph determines its plan.
use Rattle.prl_base.proofs.Standard.{◌≡◌, ◌%◌, ◌<◌, ◌≤◌, ℕ, List, [], length, get_or, take, sum, Some, sym, ◌∙◌, ap, subst, arith, ℤ, pos, slice_get, slice_index, slice_index_or, ints, mod_below}
use Rattle.prl_base.proofs.Standard.{ext_get_or, slice_get-get_or, same_Some}
use Rattle.prl_plan.specs.Vocabulary.{Edge, TaskGraph, Producer, Window, Used, Word, IsShortestRepeat, AreWords, Family, AreEncodedDates, window_at, no_window, encoded_release, encoded_deadline}
use Rattle.prl_plan.specs.Vocabulary.{HasCells, AreLeastCells, no_used, IsLeastCount, PlanView, IsPlan, AreShortWindows, AreShortGaps, edge_at, no_edge}
use Rattle.prl_plan.specs.declared.graphs.Producer.TheVariants as producers
use Rattle.prl_plan.proofs.RepeatLaws.{one_repeat, one_word, one_used}

-- the words are one list
pub words_are_one : (graph : TaskGraph) (a b : List Word) → AreWords graph a → AreWords graph b → a ≡ b
words_are_one graph a b of_a of_b =
    ext_get_or (record { prefix = []; repeat = []; step_in = 0; step_out = 0 }) a b (of_a.long ∙ sym of_b.long)
    (λ e below.
    (let inside : e < length graph.edges = omega (arith, below, of_a.long) in
    let found : slice_get graph.edges e ≡ Some (edge_at graph e) = slice_get-get_or graph.edges e no_edge inside in
    let x = of_a.each e (edge_at graph e) found in
    let y = of_b.each e (edge_at graph e) found in
    let at_a = same_Some (get_or a e (record { prefix = []; repeat = []; step_in = 0; step_out = 0 })) x.0
    (sym (slice_get-get_or a e (record { prefix = []; repeat = []; step_in = 0; step_out = 0 }) below) ∙ x.1) in
    let at_b = same_Some (get_or b e (record { prefix = []; repeat = []; step_in = 0; step_out = 0 })) y.0
    (sym (slice_get-get_or b e (record { prefix = []; repeat = []; step_in = 0; step_out = 0 }) (omega (arith, inside, of_b.long))) ∙ y.1) in
    at_a ∙ one_word (edge_at graph e).ops x.0 y.0 x.2 y.2 ∙ sym at_b))

window_is : (a b : Window) → a.lead ≡ b.lead → a.tail ≡ b.tail → a ≡ b
window_is a b l t =
    ap (λ (x : ℕ). (let w : Window = record { lead = x; tail = a.tail } in w)) l
    ∙ ap (λ (x : ℕ). (let w : Window = record { lead = b.lead; tail = x } in w)) t

module _ (graph : TaskGraph) (a b : List (List Window)) (of_a : AreEncodedDates graph a) (of_b : AreEncodedDates graph b) where
  same_window : (i : ℕ) (m : ℤ) → i < length graph.tasks → window_at a i m ≡ window_at b i m
  same_window i m inside =
      let r_ba = of_b.releases.least (encoded_release graph a) of_a.releases.releases i m inside in
      let d_ab = of_a.deadlines.greatest (encoded_deadline graph b) of_b.deadlines.deadlines i m inside in
      let d_ba = of_b.deadlines.greatest (encoded_deadline graph a) of_a.deadlines.deadlines i m inside in
      window_is (window_at a i m) (window_at b i m) (omega (arith, ints, of_a.releases.least (encoded_release graph b) of_b.releases.releases i m inside, r_ba)) (omega (arith, ints, d_ab, d_ba))

  same_list : AreShortWindows a → AreShortWindows b → (i : ℕ) → i < length graph.tasks → slice_index_or a i [] ≡ slice_index_or b i []
  same_list short_a short_b i inside =
      let some_a : 1 ≤ length (slice_index_or a i []) = omega (arith, of_a.some i inside) in
      let some_b : 1 ≤ length (slice_index_or b i []) = omega (arith, of_b.some i inside) in
      one_repeat (slice_index_or a i []) (slice_index_or b i []) some_a some_b
      (λ n. slice_get-get_or (slice_index_or a i []) (n % length (slice_index_or a i [])) no_window (mod_below n (length (slice_index_or a i [])) some_a)
      ∙ ap (λ (w : Window). Some w) (same_window i (pos n) inside)
      ∙ sym (slice_get-get_or (slice_index_or b i []) (n % length (slice_index_or b i [])) no_window (mod_below n (length (slice_index_or b i [])) some_b)))
      (short_a i (omega (arith, inside, of_a.lists))) (short_b i (omega (arith, inside, of_b.lists)))

  pub windows_are_one : AreShortWindows a → AreShortWindows b → a ≡ b
  windows_are_one short_a short_b =
      ext_get_or [] a b (of_a.lists ∙ sym of_b.lists) (λ i below. same_list short_a short_b i (omega (arith, below, of_a.lists)))

-- the cells of one edge are one
same_cells : (edge : Edge) (from : Producer) (release deadline : Family) (before base count before' base' count' : ℕ) (used used' : Used) →
    HasCells edge from release deadline before base count used → HasCells edge from release deadline before' base' count' used' →
    IsShortestRepeat used.gaps → IsShortestRepeat used'.gaps → (count ≡ count') × (used ≡ used') × (before ≡ before' → base ≡ base')
same_cells edge (producers.Constant value) release deadline before base count before' base' count' used used' a b short short' =
    (a.1 ∙ sym b.1, used_both used used' (a.2 ∙ sym b.2) (a.3 ∙ sym b.3), (λ h. a.0 ∙ sym b.0))
  where
    used_both : (x y : Used) → x.first ≡ y.first → x.gaps ≡ y.gaps → x ≡ y
    used_both x y f g =
        ap (λ (n : ℕ). (let u : Used = record { first = n; gaps = x.gaps } in u)) f
        ∙ ap (λ (n : List ℕ). (let u : Used = record { first = y.first; gaps = n } in u)) g
same_cells edge (producers.Port task out) release deadline before base count before' base' count' used used' a b short short' =
    let same : used ≡ used' = one_used edge used used' a.1 b.1 short short' in
    let of_b : IsLeastCount edge task.0 release deadline used count' = subst (λ (u : Used). IsLeastCount edge task.0 release deadline u count') (sym same) b.2 in
    (omega (arith, a.2.least count' of_b.some of_b.fits, of_b.least count a.2.some a.2.fits), same, (λ h. a.0 ∙ h ∙ sym b.0))

plan_is : (a b : PlanView) → a.graph ≡ b.graph → a.words ≡ b.words → a.windows ≡ b.windows → a.bases ≡ b.bases → a.counts ≡ b.counts → a.used ≡ b.used → a ≡ b
plan_is a b g w d s c u =
    ap (λ (x : TaskGraph). (let p : PlanView = record { graph = x; words = a.words; windows = a.windows; bases = a.bases; counts = a.counts; used = a.used } in p)) g
    ∙ ap (λ (x : List Word). (let p : PlanView = record { graph = b.graph; words = x; windows = a.windows; bases = a.bases; counts = a.counts; used = a.used } in p)) w
    ∙ ap (λ (x : List (List Window)). (let p : PlanView = record { graph = b.graph; words = b.words; windows = x; bases = a.bases; counts = a.counts; used = a.used } in p)) d
    ∙ ap (λ (x : List ℕ). (let p : PlanView = record { graph = b.graph; words = b.words; windows = b.windows; bases = x; counts = a.counts; used = a.used } in p)) s
    ∙ ap (λ (x : List ℕ). (let p : PlanView = record { graph = b.graph; words = b.words; windows = b.windows; bases = b.bases; counts = x; used = a.used } in p)) c
    ∙ ap (λ (x : List Used). (let p : PlanView = record { graph = b.graph; words = b.words; windows = b.windows; bases = b.bases; counts = b.counts; used = x } in p)) u

module _ (graph : TaskGraph) (windows : List (List Window)) (bases counts bases' counts' : List ℕ) (used used' : List Used)
    (a : AreLeastCells graph windows bases counts used) (b : AreLeastCells graph windows bases' counts' used') (short : AreShortGaps used) (short' : AreShortGaps used') where
  at_edge : (e : ℕ) → e < length graph.edges →
      (slice_index counts e ≡ slice_index counts' e) × (slice_index_or used e no_used ≡ slice_index_or used' e no_used)
      × (sum (take e counts) ≡ sum (take e counts') → slice_index bases e ≡ slice_index bases' e)
  at_edge e inside =
      let found : slice_get graph.edges e ≡ Some (edge_at graph e) = slice_get-get_or graph.edges e no_edge inside in
      same_cells (edge_at graph e) (edge_at graph e).from (encoded_release graph windows) (encoded_deadline graph windows) (sum (take e counts)) (slice_index bases e)
      (slice_index counts e) (sum (take e counts')) (slice_index bases' e) (slice_index counts' e) (slice_index_or used e no_used) (slice_index_or used' e no_used)
      (a.cells e (edge_at graph e) found) (b.cells e (edge_at graph e) found)
      (short e (omega (arith, inside, a.lengths.2))) (short' e (omega (arith, inside, b.lengths.2)))

  counts_are_one : counts ≡ counts'
  counts_are_one = ext_get_or 0 counts counts' (a.lengths.1 ∙ sym b.lengths.1) (λ e below. (at_edge e (omega (arith, below, a.lengths.1))).0)

  used_are_one : used ≡ used'
  used_are_one = ext_get_or no_used used used' (a.lengths.2 ∙ sym b.lengths.2) (λ e below. (at_edge e (omega (arith, below, a.lengths.2))).1)

  bases_are_one : bases ≡ bases'
  bases_are_one =
      ext_get_or 0 bases bases' (a.lengths.0 ∙ sym b.lengths.0)
      (λ e below. (at_edge e (omega (arith, below, a.lengths.0))).2 (ap (λ (x : List ℕ). sum (take e x)) counts_are_one))

pub one_plan : (a b : PlanView) → IsPlan a → IsPlan b → a.graph ≡ b.graph → a ≡ b
one_plan a b of_a of_b same =
    let dates : AreEncodedDates a.graph b.windows = subst (λ (g : TaskGraph). AreEncodedDates g b.windows) (sym same) of_b.dates in
    let windows : a.windows ≡ b.windows = windows_are_one a.graph a.windows b.windows of_a.dates dates of_a.short_windows of_b.short_windows in
    let cells : AreLeastCells a.graph a.windows b.bases b.counts b.used =
    subst (λ (w : List (List Window)). AreLeastCells a.graph w b.bases b.counts b.used) (sym windows)
    (subst (λ (g : TaskGraph). AreLeastCells g b.windows b.bases b.counts b.used) (sym same) of_b.cells) in
    plan_is a b same (words_are_one a.graph a.words b.words of_a.words (subst (λ (g : TaskGraph). AreWords g b.words) (sym same) of_b.words)) windows
    (bases_are_one a.graph a.windows a.bases a.counts b.bases b.counts a.used b.used of_a.cells cells of_a.short_gaps of_b.short_gaps)
    (counts_are_one a.graph a.windows a.bases a.counts b.bases b.counts a.used b.used of_a.cells cells of_a.short_gaps of_b.short_gaps)
    (used_are_one a.graph a.windows a.bases a.counts b.bases b.counts a.used b.used of_a.cells cells of_a.short_gaps of_b.short_gaps)
