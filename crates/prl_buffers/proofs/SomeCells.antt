-- Where a task graph has words and encoded dates, its edges have their least cells.
use Rattle.prl_base.proofs.Standard.{◌≡◌, ◌≢◌, ◌+◌, ◌-◌, ◌*◌, ◌/◌, ◌%◌, ◌<◌, ◌≤◌, ◌^◌, ◌⊎◌, ◌++◌, ℕ, zero, suc, List, [], ◌∷◌, Some, length, take, sum, min, inl, inr, refl, sym, subst, arith}
use Rattle.prl_base.proofs.Standard.{slice_get, slice_index, mul-le-mul_left, mod-add-div', cases_eq, cases_lt, mod_below, slice_get-get_or}
use Rattle.prl_base.specs.declared.limits.What.TheVariants as whats
use Rattle.prl_plan.specs.Vocabulary.{HasCells, AreLeastCells, ListsSums, encoded_release, encoded_deadline, AreShortGaps, edge_at, no_edge, ComesFrom, number_at}
use Rattle.prl_plan.specs.declared.graphs.Edge.{Edge}
use Rattle.prl_plan.specs.declared.graphs.Producer.{Producer}
use Rattle.prl_plan.specs.declared.graphs.TaskGraph.{TaskGraph}
use Rattle.prl_plan.specs.declared.limits.TheConstants.{MAX_CELLS}
use Rattle.prl_plan.specs.declared.tables.Used.{Used}
use Rattle.prl_plan.specs.declared.tables.Window.{Window}
use Rattle.prl_plan.specs.declared.words.Word.{Word}
use Rattle.prl_plan.specs.declared.graphs.Producer.TheVariants as producers
use Rattle.prl_plan.proofs.Searches.{all_or_least, listed, listed_long, listed_number, places_tell}
use Rattle.prl_plan.proofs.ShortestRepeats.{some_repeat}
use Rattle.prl_buffers.specs.Vocabulary.{CellFault, IsCellFault, at_turn, AreReleased, AreOver, IsLeastTurn, IsPlanned, jobs_of, release_in, deadline_in, AreReleases, AreEnds, IsCutOf, HasTaskCells}
use Rattle.prl_buffers.specs.Vocabulary.{base_of, HasEdgeCells, IsDated, AreListed, bases_from, IsTurn}
use Rattle.prl_buffers.specs.declared.tables.CellFault.TheVariants as faults
use Rattle.prl_buffers.proofs.Cuts.{cut_is}
use Rattle.prl_buffers.proofs.EdgeCells.{some_gap, released, ends_small, least_is, enumerates_cut, least_cut}
use Rattle.prl_buffers.proofs.EdgeNumbers.{numbers_rise}
use Rattle.prl_buffers.proofs.TableSteps.{planned, one_more, begins, least_cells, short_gaps}
use Rattle.prl_buffers.proofs.TurnSteps.{turn_begins, turn_same, turn_more}

-- what the first jobs after the prefix of a word read
record HasTurn (w : Word) (jobs : ℕ) : Type 0 where
  gaps : List ℕ
  last : List ℕ
  is : IsTurn w jobs gaps last

some_turn : (w : Word) → ((i : ℕ) → number_at w i ≤ number_at w (i + 1)) → (jobs : ℕ) → HasTurn w jobs
some_turn w rises zero = record { gaps = []; last = []; is = turn_begins w }
some_turn w rises (suc i) =
    let before = some_turn w rises i in
    let next : i + 1 ≡ suc i = omega arith in
    subst (λ (n : ℕ). HasTurn w n) next (elim (cases_lt (number_at w i) (number_at w (i + 1))) [
      | inl up ↦ record {
        gaps = before.gaps ++ (number_at w (i + 1) - number_at w i) ∷ [];
        last = before.last ++ i ∷ [];
        is = turn_more w i before.gaps before.last before.is (number_at w (i + 1) - number_at w i) (omega (arith, up)) (omega (arith, up));
      }
      | inr low ↦ record {
        gaps = before.gaps;
        last = before.last;
        is = turn_same w i before.gaps before.last before.is (omega (arith, rises i, low));
      }
    ])

-- the least number of cells, where one serves
module _ (releases : List ℕ) (hyper : ℕ) (are : AreReleased releases hyper) (ends : List ℕ) (most : ℕ) (small : (k : ℕ) → k < length ends → slice_index ends k < most) where
  abbrev Late : ℕ → ℕ → Type 0
  Late count k = slice_index ends k ≤ at_turn releases hyper (k + count)

  abbrev Early : ℕ → ℕ → Type 0
  Early count k = at_turn releases hyper (k + count) < slice_index ends k

  late_or_early : (count k : ℕ) → Late count k ⊎ Early count k
  late_or_early count k = elim (cases_lt (at_turn releases hyper (k + count)) (slice_index ends k)) [ inl early ↦ inr early | inr late ↦ inl late ]

  over_or_not : (count : ℕ) → AreOver releases hyper ends (length ends) count ⊎ (AreOver releases hyper ends (length ends) count → ⊥)
  over_or_not count = elim (all_or_least (Late count) (Early count) (late_or_early count) (length ends)) [
    | inl all ↦ inl all
    | inr least ↦ inr (λ over. omega (arith, least.1.is, over least.0 least.1.below))
  ]

  -- so late that all is over
  all_over : AreOver releases hyper ends (length ends) (most + length releases)
  all_over k below =
      let x : ℕ = k + (most + length releases) in
      let turns : ℕ = (k + (most + length releases)) / length releases in
      let up : (k + (most + length releases)) / length releases * length releases ≤ (k + (most + length releases)) / length releases * hyper =
      mul-le-mul_left ((k + (most + length releases)) / length releases) are.few in
      omega (arith, mod-add-div' (k + (most + length releases)) (length releases), mod_below (k + (most + length releases)) (length releases) are.some, up, small k below)

  abbrev Serves : ℕ → Type 0
  Serves count = (1 ≤ count) × AreOver releases hyper ends (length ends) count

  serves_or_not : (count : ℕ) → (Serves count → ⊥) ⊎ Serves count
  serves_or_not count = elim (cases_lt 0 count) [
    | inr none ↦ inl (λ serves. omega (arith, none, serves.0))
    | inl some ↦ elim (over_or_not count) [ inl over ↦ inr (omega (arith, some), over) | inr not ↦ inl (λ serves. not serves.1) ]
  ]

  pub some_least : (count : ℕ) × IsLeastTurn releases hyper ends (length ends) count × (count ≤ most + length releases)
  some_least = elim (all_or_least (λ count. Serves count → ⊥) Serves serves_or_not (most + length releases + 1)) [
    | inl none ↦ absurd (none (most + length releases) (omega arith) (omega (arith, are.some), all_over))
    | inr least ↦ (
      least.0,
      record {
        some = least.1.is.0;
        fits = least.1.is.1;
        least = λ fewer some over. elim (cases_lt fewer least.0) [
          | inl less ↦ absurd (least.1.earlier fewer less (some, over))
          | inr more ↦ more
        ];
      },
      omega (arith, least.1.below),
    )
  ]

-- the sums of no gap, of the first, of the first two and so on
sums_of : List ℕ → List ℕ
sums_of gaps = listed (λ j. sum (take j gaps)) (length gaps + 1)

sums_are : (gaps : List ℕ) → ListsSums gaps (sums_of gaps)
unfolding sums_of
sums_are gaps = record {
  long = listed_long (λ j. sum (take j gaps)) (length gaps + 1);
  each = λ j small. listed_number (λ k. sum (take k gaps)) (length gaps + 1) j (omega (arith, small));
}

-- the cells of one edge
record HasSomeCells (graph : TaskGraph) (windows : List (List Window)) (edge : Edge) : Type 0 where
  count : ℕ
  used : Used
  sums : List ℕ
  has : HasEdgeCells graph windows edge count used sums

module _ (graph : TaskGraph) (windows : List (List Window)) (edge : Edge) (w : Word) (known : IsPlanned graph windows edge w) where
  record HasSomeTask (i : ℕ) : Type 0 where
    count : ℕ
    gaps : List ℕ
    has : HasTaskCells graph windows edge i count (record { first = number_at w 0; gaps = gaps }) (sums_of gaps)

  task_cells : (i : ℕ) → ComesFrom edge.from i → HasSomeTask i
  task_cells i comes =
      let turn = some_turn w (λ x. numbers_rise graph windows edge w known i comes x (x + 1) (omega arith)) (jobs_of graph edge) in
      let releases : List ℕ = listed (λ x. min (release_in graph windows i (number_at w 0 + sum (take x turn.gaps))) (2 ^ 64 - 1)) (length turn.gaps) in
      let ends : List ℕ = listed (λ x. deadline_in graph windows edge.to.0 (length w.prefix + slice_index turn.last x)) (length turn.last) in
      let are : AreReleases graph windows i (number_at w 0) turn.gaps releases = record {
        long = listed_long (λ x. min (release_in graph windows i (number_at w 0 + sum (take x turn.gaps))) (2 ^ 64 - 1)) (length turn.gaps);
        each = λ x below. listed_number (λ y. min (release_in graph windows i (number_at w 0 + sum (take y turn.gaps))) (2 ^ 64 - 1)) (length turn.gaps) x below;
      } in
      let ending : AreEnds graph windows edge.to.0 (length w.prefix) turn.last ends = record {
        long = listed_long (λ x. deadline_in graph windows edge.to.0 (length w.prefix + slice_index turn.last x)) (length turn.last);
        each = λ x below. listed_number (λ y. deadline_in graph windows edge.to.0 (length w.prefix + slice_index turn.last y)) (length turn.last) x below;
      } in
      let apart = released graph windows edge w known i comes turn.gaps turn.last turn.is releases ends are ending in
      let least = some_least releases graph.hyper apart ends (2 ^ 50) (ends_small graph windows edge w known i comes turn.gaps turn.last turn.is releases ends are ending) in
      let few = apart.few in
      let ticks = known.well.few_ticks in
      let within = least.2 in
      let small : least.0 < 2 ^ 51 = omega (arith, few, ticks, within) in
      let count = least_is graph windows edge w known i comes turn.gaps turn.last turn.is releases ends are ending least.0 least.1 small in
      let step = some_repeat turn.gaps (places_tell cases_eq turn.gaps) (some_gap graph windows edge w known i comes turn.gaps turn.last turn.is) in
      let cut : IsCutOf turn.gaps (take step.0 turn.gaps) = cut_is turn.gaps (take step.0 turn.gaps) step.0 step.1 refl in
      record {
        count = least.0;
        gaps = take step.0 turn.gaps;
        has = record {
          enumerates = enumerates_cut graph windows edge w known i comes turn.gaps turn.last turn.is (take step.0 turn.gaps) cut;
          count_is = least_cut graph windows edge w known i comes turn.gaps turn.last turn.is (take step.0 turn.gaps) cut least.0 count;
          short = cut.shortest;
          summed = sums_are (take step.0 turn.gaps);
        };
      }

  base_is : (count before : ℕ) → 1 ≤ count → base_of count before ≡ before
  base_is zero before some = absurd (omega (arith, some))
  base_is (suc count) before some = refl

  cells_by : (from : Producer) → edge.from ≡ from → HasSomeCells graph windows edge
  cells_by (producers.Constant value) is = record {
    count = 0;
    used = record { first = 0; gaps = [] };
    sums = sums_of [];
    has = record {
      cells = λ before. subst
          (λ (p : Producer). HasCells edge p (encoded_release graph windows) (encoded_deadline graph windows) before 0 0 (record { first = 0; gaps = [] })) (sym is)
          (refl, refl, refl, refl);
      short = record { least = λ other some again. omega arith };
      summed = sums_are [];
      small = omega arith;
    };
  }
  cells_by (producers.Port task out) is =
      let cells = task_cells task.0 (subst (λ (p : Producer). ComesFrom p task.0) (sym is) refl) in
      record {
        count = cells.count;
        used = record { first = number_at w 0; gaps = cells.gaps };
        sums = sums_of cells.gaps;
        has = record {
          cells = λ before. subst
              (λ (p : Producer). HasCells edge p (encoded_release graph windows) (encoded_deadline graph windows) before (base_of cells.count before) cells.count
              (record { first = number_at w 0; gaps = cells.gaps })) (sym is)
              (base_is cells.count before cells.has.count_is.least.some, cells.has.enumerates, cells.has.count_is.least);
          short = cells.has.short;
          summed = cells.has.summed;
          small = cells.has.count_is.small;
        };
      }

-- the cells of the first edges
record HasSomeLists (graph : TaskGraph) (windows : List (List Window)) (upto : ℕ) : Type 0 where
  counts : List ℕ
  used : List Used
  sums : List (List ℕ)
  are : AreListed graph windows upto counts used sums

module _ (graph : TaskGraph) (words : List Word) (windows : List (List Window)) (dated : IsDated graph words windows) where
  some_lists : (i : ℕ) → i ≤ length graph.edges → HasSomeLists graph windows i
  some_lists zero within = record { counts = []; used = []; sums = []; are = begins graph windows }
  some_lists (suc i) within =
      let before = some_lists i (omega (arith, within)) in
      let found : slice_get graph.edges i ≡ Some (edge_at graph i) = slice_get-get_or graph.edges i no_edge (omega (arith, within)) in
      let word = dated.are_words.each i (edge_at graph i) found in
      let known = planned graph words windows dated i (edge_at graph i) word.0 found word.1 in
      let cells = cells_by graph windows (edge_at graph i) word.0 known (edge_at graph i).from refl in
      let next : i + 1 ≡ suc i = omega arith in
      record {
        counts = before.counts ++ cells.count ∷ [];
        used = before.used ++ cells.used ∷ [];
        sums = before.sums ++ cells.sums ∷ [];
        are = subst (λ (n : ℕ). AreListed graph windows n (before.counts ++ cells.count ∷ []) (before.used ++ cells.used ∷ []) (before.sums ++ cells.sums ∷ [])) next
            (one_more graph windows i before.counts before.used before.sums (edge_at graph i) cells.count cells.used cells.sums before.are found cells.has);
      }

  pub cells_or_fault : ((bases : List ℕ) × (counts : List ℕ) × (used : List Used) × AreLeastCells graph windows bases counts used × (sum counts ≤ MAX_CELLS) × AreShortGaps used)
      ⊎ ((fault : CellFault) × (fault ≢ faults.Memory) × IsCellFault graph windows fault)
  cells_or_fault =
      let all = some_lists (length graph.edges) (omega arith) in
      let least = least_cells graph windows all.counts all.used all.sums all.are in
      elim (cases_lt MAX_CELLS (sum all.counts)) [
        | inl past ↦ inr (
          faults.Limit (record { what = whats.Cells; found = sum all.counts }),
          (λ same. cc),
          (bases_from 0 all.counts, all.counts, all.used, least, refl, past),
        )
        | inr few ↦ inl (bases_from 0 all.counts, all.counts, all.used, least, few, short_gaps graph windows all.counts all.used all.sums all.are)
      ]
