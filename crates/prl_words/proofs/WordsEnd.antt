-- A task graph has words, or passes the limit on their constants.
use Rattle.prl_base.proofs.Standard.{◌≡◌, ◌≢◌, ◌+◌, ◌≤◌, ◌⊎◌, ◌++◌, ℕ, zero, suc, List, [], ◌∷◌, Some, length, refl, sym, ◌∙◌, ap, subst, inl, inr, arith, slice_get, cases_lt, slice_get-get_or}
use Rattle.prl_base.proofs.Standard.{slice_get_within}
use Rattle.prl_base.specs.declared.limits.Limit.{Limit}
use Rattle.prl_base.specs.declared.limits.What.TheVariants as whats
use Rattle.prl_plan.specs.Vocabulary.{first_reader, IsWellFormed, edge_at, no_edge, AreWords, IsWordOf, constants_in}
use Rattle.prl_plan.specs.declared.graphs.Edge.{Edge}
use Rattle.prl_plan.specs.declared.graphs.TaskGraph.{TaskGraph}
use Rattle.prl_plan.specs.declared.limits.TheConstants.{MAX_PREFIX}
use Rattle.prl_plan.specs.declared.words.Word.{Word}
use Rattle.prl_plan.proofs.ReaderLaws.{is_first_reader}
use Rattle.prl_plan.proofs.WordNumbers.{first_after_prefix, one_first}
use Rattle.prl_words.specs.Vocabulary.{WordFault, IsWordFault, constant_reads}
use Rattle.prl_words.specs.declared.graphs.WordFault.TheVariants as faults
use Rattle.prl_words.proofs.Constants.{edge_counts}
use Rattle.prl_words.proofs.Listed.{AreSoMany, one_more, same_sum}
use Rattle.prl_words.proofs.SomeWord.{some_word}

module _ (graph : TaskGraph) (well : IsWellFormed graph) where
  some_words : (i : ℕ) → i ≤ length graph.edges → (words : List Word) × AreSoMany graph.edges i words
  some_words zero within = ([], (refl, λ e edge below found. absurd (omega (arith, below))))
  some_words (suc i) within =
      let before = some_words i (omega (arith, within)) in
      let edge : Edge = edge_at graph i in
      let found : slice_get graph.edges i ≡ Some (edge_at graph i) = slice_get-get_or graph.edges i no_edge (omega (arith, within)) in
      let has = edge_counts graph well i (edge_at graph i) found in
      let word = some_word (edge_at graph i).ops has.jobs has.counts (well.edges i (edge_at graph i) found).few in
      let next : i + 1 ≡ suc i = omega arith in (
        before.0 ++ word.0 ∷ [],
        subst (λ (n : ℕ). AreSoMany graph.edges n (before.0 ++ word.0 ∷ [])) next (one_more graph.edges i before.0 (edge_at graph i) word.0 before.1 found word.1),
      )

  -- the constants in front of the words are those that jobs read at first
  constants_are : (words : List Word) → length words ≡ length graph.edges →
      ((e : ℕ) (edge : Edge) → slice_get graph.edges e ≡ Some edge → (w : Word) × (slice_get words e ≡ Some w) × IsWordOf edge.ops w) →
      constants_in words ≡ constant_reads graph
  constants_are words long each =
      same_sum graph.edges words long
      (λ e edge found. (let w = each e edge found in (
        w.0,
        w.1,
        one_first edge.ops (length w.0.prefix) (first_reader edge.ops) (first_after_prefix edge.ops w.0 w.2) (is_first_reader edge.ty edge.ops (well.edges e edge found).operators),
      )))

  pub words_or_fault : ((words : List Word) × AreWords graph words) ⊎ ((fault : WordFault) × (fault ≢ faults.Memory) × IsWordFault graph fault)
  words_or_fault = elim (cases_lt MAX_PREFIX (constant_reads graph)) [
    | inl past ↦ inr (faults.Limit (record { what = whats.Prefix; found = constant_reads graph }), (λ same. cc), (refl, past))
    | inr few ↦
        (let all = some_words (length graph.edges) (omega arith) in
        let each : (e : ℕ) (edge : Edge) → slice_get graph.edges e ≡ Some edge → (w : Word) × (slice_get all.0 e ≡ Some w) × IsWordOf edge.ops w =
        λ e edge found. all.1.1 e edge (slice_get_within graph.edges e edge found) found in
        let same = constants_are all.0 all.1.0 each in
        inl (all.0, record { few = omega (arith, same, few); long = all.1.0; each = each }))
  ]

  pub no_fault : (words : List Word) → AreWords graph words → (fault : WordFault) → fault ≢ faults.Memory → IsWordFault graph fault → ⊥
  no_fault words are (faults.Limit limit) real is =
      (let same = constants_are words are.long are.each in let few = are.few in let past = is.1 in omega (arith, same, few, past))
  no_fault words are faults.Memory real is = real refl

pub one_fault : (graph : TaskGraph) (a b : WordFault) → a ≢ faults.Memory → b ≢ faults.Memory → IsWordFault graph a → IsWordFault graph b → a ≡ b
one_fault graph (faults.Limit x) (faults.Limit y) real_x real_y of_x of_y = ap (λ (limit : Limit). faults.Limit limit) (of_x.0 ∙ sym of_y.0)
one_fault graph faults.Memory b real_a real_b of_a of_b = absurd (real_a refl)
one_fault graph (faults.Limit x) faults.Memory real_a real_b of_a of_b = absurd (real_b refl)
