-- A round leads from the bests over chains of some length to those over chains of one job more.
use Rattle.prl_base.proofs.Standard.{◌≡◌, ◌+◌, ◌<◌, ◌≤◌, ℕ, suc, zero, List, [], ◌∷◌, length, inl, inr, refl, sym, ◌∙◌, ap, subst, arith, ℤ, pos, ◌+ℤ◌, ◌-ℤ◌, ◌≤ℤ◌, ints}
use Rattle.prl_plan.specs.Vocabulary.{Job, task_at, release_of, preceding, Precedes, PrecedesAlong, IsWellFormed, IsChain, last_of, wcets_of, needs_of, EndsIn, Family, AreReleases, AreLeastReleases}
use Rattle.prl_plan.specs.declared.graphs.Edge.{Edge}
use Rattle.prl_plan.specs.declared.graphs.TaskGraph.{TaskGraph}
use Rattle.prl_plan.proofs.ReaderLaws.{preceding_rises}
use Rattle.prl_dates.specs.code.Families.{AreBests, IsRound}
use Rattle.prl_dates.proofs.ChainEnds.{Ending, before_last, Longer, one_longer, ends_inside, begins_inside, both_inside}

module _ (graph : TaskGraph) (good : IsWellFormed graph) where
  module _ (rounds : ℕ) (old new : Family) (bests : AreBests graph rounds old) (round : IsRound graph old new) where
    attained : (job : Job) → job.task < length graph.tasks →
        (first : Job) × (rest : List Job) × EndsIn graph (rounds + 1 + 1) job first rest × (needs_of graph first rest ≡ new job.task job.number)
    attained job inside =
        elim (round.only job inside) [
          | inl same ↦
              (let b = (bests.bests job inside).attained in
              (b.0, b.1, record { chain = b.2.chain; few = omega (arith, b.2.few); last = b.2.last }, b.3 ∙ sym same))
          | inr by ↦
              (let b = (bests.bests by.0 (both_inside graph good by.0 job by.1).0).attained in
              let l : Longer graph b.0 b.1 job = one_longer graph b.0 b.1 job b.2.chain inside (subst (λ (j : Job). Precedes graph j job) (sym b.2.last) by.1) in (
                b.0,
                l.longer,
                record { chain = l.chain; few = omega (arith, b.2.few, l.long); last = l.last },
                (let g : needs_of graph b.0 l.longer ≡ new job.task job.number = omega (arith, ints, l.wcets, b.3, by.2) in g),
              ))
        ]

    none_above : (job : Job) → job.task < length graph.tasks → (first : Job) (rest : List Job) → EndsIn graph (rounds + 1 + 1) job first rest →
        needs_of graph first rest ≤ℤ new job.task job.number
    none_above job inside first [] ends =
        let few : 0 + 1 ≤ rounds + 1 = omega arith in
        omega (arith, ints, round.up job.task job.number inside, (bests.bests job inside).none_above first [] (record { chain = ends.chain; few = few; last = ends.last }))
    none_above job inside first (next ∷ rest) ends =
        let e : Ending graph first (next ∷ rest) (last_of next rest) = before_last graph first next rest ends.chain in
        let before : Job = last_of first e.front in
        let some : before.task < length graph.tasks = ends_inside graph first e.front e.chain in
        let b = (bests.bests before some).none_above first e.front (record { chain = e.chain; few = omega (arith, ends.few, e.long); last = refl }) in
        let s : (task_at graph (last_of next rest).task).wcet ≡ (task_at graph job.task).wcet = ap (λ (j : Job). (task_at graph j.task).wcet) ends.last in
        omega (arith, ints, b, round.order before job (subst (λ (j : Job). Precedes graph before j) ends.last e.precedes), e.wcets, s)

    rises : (i : ℕ) (a b : ℤ) → i < length graph.tasks → a ≤ℤ b → new i a ≤ℤ new i b
    rises i a b inside order =
        elim (round.only (record { task = i; number = a }) inside) [
          | inl same ↦ omega (arith, ints, same, bests.rises i a b inside order, round.up i b inside)
          | inr by ↦
              (let first : Job = by.0 in
              let h : Precedes graph first (record { task = i; number = a }) = by.1 in
              let edge : Edge = h.1 in
              let along : PrecedesAlong graph edge first (record { task = i; number = a }) = h.3 in
              let later : Job = record { task = first.task; number = preceding edge.ops b } in
              let q : Precedes graph later (record { task = i; number = b }) = (h.0, edge, h.2, record { from = along.from; to = along.to; number = refl }) in
              let n : first.number ≡ preceding edge.ops a = along.number in
              let both = both_inside graph good first (record { task = i; number = a }) h in
              let r = bests.rises first.task first.number (preceding edge.ops b) both.0 (omega (arith, ints, preceding_rises edge.ty edge.ops (good.edges h.0 edge h.2).operators a b order, n)) in
              omega (arith, ints, round.order later (record { task = i; number = b }) q, r, by.2))
        ]

    pub next_bests : AreBests graph (rounds + 1) new
    next_bests = record { bests = λ job inside. record { attained = attained job inside; none_above = none_above job inside }; rises = rises }

  -- where a round changes nothing, more rounds change nothing
  pub still_bests : (best : Family) → IsRound graph best best → (rounds more : ℕ) → AreBests graph rounds best → AreBests graph (rounds + more) best
  still_bests best still rounds zero bests = subst (λ (n : ℕ). AreBests graph n best) (let e : rounds ≡ rounds + 0 = omega arith in e) bests
  still_bests best still rounds (suc more) bests =
      subst (λ (n : ℕ). AreBests graph n best) (let e : rounds + more + 1 ≡ rounds + suc more = omega arith in e)
      (next_bests (rounds + more) best best (still_bests best still rounds more bests) still)

  -- and what is left of them without the WCETs is the least family of releases
  module _ (rounds : ℕ) (best : Family) (bests : AreBests graph rounds best) (still : IsRound graph best best) where
    pub releases : Family
    releases i m = best i m -ℤ pos (task_at graph i).wcet

    pub above_release : (i : ℕ) (m : ℤ) → i < length graph.tasks → (release_of (task_at graph i) m +ℤ pos (task_at graph i).wcet) ≤ℤ best i m
    above_release i m inside =
        let few : 0 + 1 ≤ rounds + 1 = omega arith in
        (bests.bests (record { task = i; number = m }) inside).none_above (record { task = i; number = m }) [] (record { chain = inside; few = few; last = refl })

    -- a chain is no longer than any family of releases allows
    within_other : (other : Family) → AreReleases graph other → (first : Job) (rest : List Job) → IsChain graph first rest →
        (other first.task first.number +ℤ pos (wcets_of graph first rest))
        ≤ℤ (other (last_of first rest).task (last_of first rest).number +ℤ pos (task_at graph (last_of first rest).task).wcet)
    within_other other are first [] chain = omega (arith, ints)
    within_other other are first (next ∷ rest) chain =
        omega (arith, ints, are.along first next chain.1, within_other other are next rest chain.2)

    pub least_releases : AreLeastReleases graph (λ i m. best i m -ℤ pos (task_at graph i).wcet)
    least_releases = record {
      releases = record {
        above = λ i m inside. omega (arith, ints, above_release i m inside);
        along = λ before after h. omega (arith, ints, still.order before after h);
      };
      least = λ other are i m inside.
          (let job : Job = record { task = i; number = m } in
          let b = (bests.bests job inside).attained in
          let whole = within_other other are b.0 b.1 b.2.chain in
          let at : (other b.0.task b.0.number +ℤ pos (wcets_of graph b.0 b.1)) ≤ℤ (other i m +ℤ pos (task_at graph i).wcet) =
          subst (λ (j : Job). (other b.0.task b.0.number +ℤ pos (wcets_of graph b.0 b.1)) ≤ℤ (other j.task j.number +ℤ pos (task_at graph j.task).wcet)) b.2.last whole in
          omega (arith, ints, are.above b.0.task b.0.number (begins_inside graph b.0 b.1 b.2.chain), at, b.3));
    }
