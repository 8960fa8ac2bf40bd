-- A way that meets a task twice is no fresher than one that meets it once; so ways of as many steps as there are tasks tell all.
use Rattle.prl_base.proofs.Standard.{Bool, true, false, cond, eqb, eq-eqb, ne_eqb, ◌≡◌, ◌≢◌, ◌+◌, ◌*◌, ◌<◌, ◌≤◌, ◌⊎◌, inl, inr, ℕ, List, zero, suc, length, refl, sym, ◌∙◌, ap, subst, arith, cases_eq, slice_get_within, same_Some, true≢false}
use Rattle.prl_base.specs.declared.numbers.TaskNo.{TaskNo}
use Rattle.prl_plan.specs.declared.graphs.Edge.{Edge}
use Rattle.prl_plan.specs.declared.graphs.TaskGraph.{TaskGraph}
use Rattle.prl_plan.specs.declared.walks.Operand.TheVariants as operands
use Rattle.prl_plan.specs.Vocabulary.{edge_at, IsWellFormed, IsEdge, IsFirstReader, operand_of, first_reader, sum_below}
use Rattle.prl_plan.proofs.ReaderLaws.{is_first_reader}
use Rattle.prl_plan.proofs.RoundLaws.{source_inside}
use Rattle.prl_ages.specs.Reaching.{Takes, Reaches, IsFreshest, jobs_of}
use Rattle.prl_ages.specs.Reaching as reaching
use Rattle.prl_ages.specs.Settling.{CoverAllConstants, IsSettledFrom}
use Rattle.prl_ages.proofs.Counted.{edge_found}
use Rattle.prl_ages.proofs.Operands.{operand_rises, operand_repeats}
use Rattle.prl_ages.proofs.Reaching.{takes_rises, repeats, not_later}
use Rattle.prl_ages.proofs.Lagging.{operand_often, walk_reads}
use Rattle.prl_ages.proofs.Freshest.{lower_number}

-- with one task more to avoid
abbrev with_task : (ℕ → Bool) → ℕ → ℕ → Bool
with_task avoid t x = cond (eqb x t) true (avoid x)

with_itself : (avoid : ℕ → Bool) (t : ℕ) → with_task avoid t t ≡ true
with_itself avoid t = ap (λ (b : Bool). cond b true (avoid t)) (eq-eqb t t refl)

with_other : (avoid : ℕ → Bool) (t x : ℕ) → x ≢ t → with_task avoid t x ≡ avoid x
with_other avoid t x other = ap (λ (b : Bool). cond b true (avoid x)) (ne_eqb x t other)

-- the sum over the tasks that are not avoided
abbrev open_sum : (ℕ → Bool) → (ℕ → ℕ) → ℕ → ℕ
open_sum avoid f zero = 0
open_sum avoid f (suc n) = open_sum avoid f n + cond (avoid n) 0 (f n)

same_below : (avoid : ℕ → Bool) (f : ℕ → ℕ) (t n : ℕ) → n ≤ t → open_sum (with_task avoid t) f n ≡ open_sum avoid f n
same_below avoid f t zero within = refl
same_below avoid f t (suc n) within =
    let rest = same_below avoid f t n (omega (arith, within)) in
    let other : n ≢ t = λ e. (let h : n ≡ t = e in omega (arith, h, within)) in
    let here : cond (with_task avoid t n) 0 (f n) ≡ cond (avoid n) 0 (f n) = ap (λ (b : Bool). cond b 0 (f n)) (with_other avoid t n other) in
    omega (arith, rest, here)

-- avoiding a task takes its number from the sum
drop_one : (avoid : ℕ → Bool) (f : ℕ → ℕ) (t n : ℕ) → t < n → avoid t ≡ false → open_sum avoid f n ≡ open_sum (with_task avoid t) f n + f t
drop_one avoid f t zero inside open_t = absurd (omega (arith, inside))
drop_one avoid f t (suc n) inside open_t = go (λ below. drop_one avoid f t n below open_t) (cases_eq n t)
  where
    go : (t < n → open_sum avoid f n ≡ open_sum (with_task avoid t) f n + f t) → (n ≡ t) ⊎ (n ≢ t) → open_sum avoid f n + cond (avoid n) 0 (f n) ≡ open_sum (with_task avoid t) f n + cond (with_task avoid t n) 0 (f n) + f t
    go before (inl same) =
        let rest = same_below avoid f t n (omega (arith, same)) in
        let now : cond (with_task avoid t n) 0 (f n) ≡ 0 = ap (λ (x : ℕ). cond (with_task avoid t x) 0 (f n)) same ∙ ap (λ (b : Bool). cond b 0 (f n)) (with_itself avoid t) in
        let was : cond (avoid n) 0 (f n) ≡ f t = ap (λ (x : ℕ). cond (avoid x) 0 (f x)) same ∙ ap (λ (b : Bool). cond b 0 (f t)) open_t in
        omega (arith, rest, now, was)
    go before (inr other) =
        let below : t < n = omega (arith, inside, other) in
        let here : cond (with_task avoid t n) 0 (f n) ≡ cond (avoid n) 0 (f n) = ap (λ (b : Bool). cond b 0 (f n)) (with_other avoid t n other) in
        omega (arith, before below, here)

all_open : (f : ℕ → ℕ) (n : ℕ) → open_sum (λ x. false) f n ≡ sum_below f n
all_open f zero = refl
all_open f (suc n) = ap (λ (x : ℕ). x + f n) (all_open f n)

-- ways that meet none of these tasks
data Free (graph : TaskGraph) (chain : List TaskNo) (s m : ℕ) (avoid : ℕ → Bool) : ℕ → ℕ → Type 0 where
  free_itself : (t n : ℕ) → avoid t ≡ false → t ≡ s → n ≡ m → Free graph chain s m avoid t n
  free_through : (t n i j : ℕ) → avoid t ≡ false → Takes graph chain t n i j → Free graph chain s m avoid i j → Free graph chain s m avoid t n

is_open : (graph : TaskGraph) (chain : List TaskNo) (s m : ℕ) (avoid : ℕ → Bool) (t n : ℕ) → Free graph chain s m avoid t n → avoid t ≡ false
is_open graph chain s m avoid t n (free_itself b c free same number) = free
is_open graph chain s m avoid t n (free_through b c i j free takes rest) = free

of_reaches : (graph : TaskGraph) (chain : List TaskNo) (s m t n : ℕ) → Reaches graph chain s m t n → Free graph chain s m (λ x. false) t n
of_reaches graph chain s m t n (reaching.itself b c task number) = free_itself t n refl task number
of_reaches graph chain s m t n (reaching.through b c i j takes rest) = free_through t n i j refl takes (of_reaches graph chain s m i j rest)

free_rises : (graph : TaskGraph) (chain : List TaskNo) → IsWellFormed graph → (s m : ℕ) (avoid : ℕ → Bool) (t n l : ℕ) → Free graph chain s m avoid t n → n ≤ l → (later : ℕ) × (m ≤ later) × Free graph chain s later avoid t l
free_rises graph chain good s m avoid t n l (free_itself b c free task number) past = (l, omega (arith, number, past), free_itself t l free task refl)
free_rises graph chain good s m avoid t n l (free_through b c i j free takes rest) past =
    let up = takes_rises graph chain good b c i j l takes past in
    let deeper = free_rises graph chain good s m avoid i j up.0 rest up.1 in
    (deeper.0, deeper.1, free_through b l i up.0 free up.2 deeper.2)

-- a last meeting of task t: it ends there, or goes on without t
abbrev Meets : TaskGraph → List TaskNo → ℕ → ℕ → (ℕ → Bool) → ℕ → ℕ → Type 0
Meets graph chain s m avoid t n = ((t ≡ s) × (n ≡ m)) ⊎ ((i : ℕ) × (j : ℕ) × Takes graph chain t n i j × Free graph chain s m (with_task avoid t) i j)

open_still : (avoid : ℕ → Bool) (t b : ℕ) → b ≢ t → avoid b ≡ false → with_task avoid t b ≡ false
open_still avoid t b other free = with_other avoid t b other ∙ free

abbrev Cut : TaskGraph → List TaskNo → ℕ → ℕ → (ℕ → Bool) → ℕ → ℕ → ℕ → Type 0
Cut graph chain s m avoid t b c = Free graph chain s m (with_task avoid t) b c ⊎ ((n : ℕ) × Meets graph chain s m avoid t n × Reaches graph chain t n b c)

-- a way meets task t nowhere, or at last somewhere
cut : (graph : TaskGraph) (chain : List TaskNo) (s m : ℕ) (avoid : ℕ → Bool) (t b c : ℕ) → Free graph chain s m avoid b c → Cut graph chain s m avoid t b c
cut graph chain s m avoid t b c (free_itself x y free task number) = go (cases_eq x t)
  where
    go : (x ≡ t) ⊎ (x ≢ t) → Cut graph chain s m avoid t x y
    go (inl same) = inr (y, inl (sym same ∙ task, number), reaching.itself x y same refl)
    go (inr other) = inl (free_itself x y (open_still avoid t x other free) task number)
cut graph chain s m avoid t b c (free_through x y i j free takes rest) = go (cut graph chain s m avoid t i j rest) (cases_eq x t)
  where
    go : Cut graph chain s m avoid t i j → (x ≡ t) ⊎ (x ≢ t) → Cut graph chain s m avoid t x y
    go (inr met) eq = inr (met.0, met.1, reaching.through x y i j takes met.2)
    go (inl way) (inl same) = inr (y, inr (i, j, subst (λ (z : ℕ). Takes graph chain z y i j) same takes, way), reaching.itself x y same refl)
    go (inl way) (inr other) = inl (free_through x y i j (open_still avoid t x other free) takes way)

same_job : (a b : ℕ) → operands.From a ≡ operands.From b → a ≡ b
same_job a b e = cc

module _ (graph : TaskGraph) (chain : List TaskNo) (good : IsWellFormed graph) (turns : ℕ → ℕ) (covers : CoverAllConstants graph turns) where
  abbrev all : ℕ
  all = length graph.tasks

  -- what a settled job takes a hyperperiod later, it takes now, a hyperperiod earlier
  takes_back : (t n i j rest : ℕ) → Takes graph chain t (n + jobs_of graph t) i j → (rest + turns t) * jobs_of graph t ≤ n →
      (now : ℕ) × (j ≡ now + jobs_of graph i) × (rest * jobs_of graph i ≤ now) × Takes graph chain t n i now
  takes_back t n i j rest takes late =
      let is : IsEdge graph takes.edge = good.edges takes.number takes.edge takes.at in
      let inside : takes.number < length graph.edges = slice_get_within graph.edges takes.number takes.edge takes.at in
      let same : takes.edge ≡ edge_at graph takes.number = same_Some takes.edge (edge_at graph takes.number) (sym takes.at ∙ edge_found graph takes.number inside) in
      let reader : IsFirstReader takes.edge.ops (first_reader takes.edge.ops) = is_first_reader takes.edge.ty takes.edge.ops is.operators in
      let within : first_reader takes.edge.ops ≤ turns takes.edge.to.0 * jobs_of graph takes.edge.to.0 =
      subst (λ (x : Edge). first_reader takes.edge.ops ≤ turns x.to.0 * jobs_of graph x.to.0) (sym same)
      (covers takes.number (first_reader takes.edge.ops) inside (subst (λ (x : Edge). IsFirstReader x.ops (first_reader takes.edge.ops)) same reader)) in
      let there : first_reader takes.edge.ops ≤ turns t * jobs_of graph t = subst (λ (x : ℕ). first_reader takes.edge.ops ≤ turns x * jobs_of graph x) takes.to within in
      let first = reader.reads (first_reader takes.edge.ops) (omega arith) in
      let reads = walk_reads graph good takes.edge is i takes.from (first_reader takes.edge.ops) first.0 first.1 in
      let often = operand_often graph good takes.edge is i takes.from rest (first_reader takes.edge.ops) first.0 reads in
      let split : (rest + turns t) * jobs_of graph t ≡ rest * jobs_of graph t + turns t * jobs_of graph t = omega arith in
      let to : rest * jobs_of graph takes.edge.to.0 ≡ rest * jobs_of graph t = ap (λ (x : ℕ). rest * jobs_of graph x) takes.to in
      let rise = operand_rises graph good takes.edge is i takes.from (first_reader takes.edge.ops + rest * jobs_of graph takes.edge.to.0) (first.0 + rest * jobs_of graph i) n often
      (omega (arith, late, split, there, to)) in
      let again = operand_repeats graph good takes.edge is i takes.from n rise.0 rise.2 in
      let job : n + jobs_of graph takes.edge.to.0 ≡ n + jobs_of graph t = ap (λ (x : ℕ). n + jobs_of graph x) takes.to in
      let one : rise.0 + jobs_of graph i ≡ j = same_job (rise.0 + jobs_of graph i) j (sym again ∙ ap (λ (x : ℕ). operand_of takes.edge x) job ∙ takes.reads) in
      (rise.0, sym one, omega (arith, rise.1), record { number = takes.number; edge = takes.edge; at = takes.at; to = takes.to; from = takes.from; along = takes.along; reads = rise.2 })

  takes_inside : (t n i j : ℕ) → Takes graph chain t n i j → i < length graph.tasks
  takes_inside t n i j takes = source_inside graph takes.edge (good.edges takes.number takes.edge takes.at) takes.edge.from refl i takes.from

  -- what reaches a settled job a hyperperiod later, or a later instance, reaches it now, a hyperperiod earlier
  unshift : (s fuel l : ℕ) (avoid : ℕ → Bool) (t n : ℕ) → t < length graph.tasks → Free graph chain s l avoid t (n + jobs_of graph t) →
      open_sum avoid (λ x. 1) (length graph.tasks) ≤ fuel → open_sum avoid turns (length graph.tasks) * jobs_of graph t ≤ n →
      (m : ℕ) × (l ≤ m + jobs_of graph s) × Reaches graph chain s m t n
  unshift s zero l avoid t n inside way few late =
      absurd (omega (arith, drop_one avoid (λ x. 1) t (length graph.tasks) inside (is_open graph chain s l avoid t (n + jobs_of graph t) way), few))
  unshift s (suc fuel) l avoid t n inside way few late =
      after_cut s l avoid t n inside (is_open graph chain s l avoid t (n + jobs_of graph t) way) late
      (λ k i now in_i step least. unshift s fuel k (with_task avoid t) i now in_i step
      (let d = drop_one avoid (λ x. 1) t (length graph.tasks) inside (is_open graph chain s l avoid t (n + jobs_of graph t) way) in omega (arith, d, few)) least)
      (cut graph chain s l avoid t t (n + jobs_of graph t) way)
    where
      after_cut : (s l : ℕ) (avoid : ℕ → Bool) (t n : ℕ) → t < length graph.tasks → avoid t ≡ false → open_sum avoid turns (length graph.tasks) * jobs_of graph t ≤ n →
          ((k i now : ℕ) → i < length graph.tasks → Free graph chain s k (with_task avoid t) i (now + jobs_of graph i) →
          open_sum (with_task avoid t) turns (length graph.tasks) * jobs_of graph i ≤ now → (m : ℕ) × (k ≤ m + jobs_of graph s) × Reaches graph chain s m i now) →
          Cut graph chain s l avoid t t (n + jobs_of graph t) → (m : ℕ) × (l ≤ m + jobs_of graph s) × Reaches graph chain s m t n
      after_cut s l avoid t n inside free late deeper (inl way) =
          absurd (true≢false (sym (with_itself avoid t) ∙ is_open graph chain s l (with_task avoid t) t (n + jobs_of graph t) way))
      after_cut s l avoid t n inside free late deeper (inr (c, inl (task, number), reach)) =
          let early : c ≤ n + jobs_of graph t = lower_number graph good t c (n + jobs_of graph t) inside (not_later graph chain good t c t (n + jobs_of graph t) reach) in
          let per : jobs_of graph t ≡ jobs_of graph s = ap (λ (x : ℕ). jobs_of graph x) task in
          (n, omega (arith, early, per, number), reaching.itself t n task refl)
      after_cut s l avoid t n inside free late deeper (inr (c, inr (i, j, takes, way), reach)) =
          let early : c ≤ n + jobs_of graph t = lower_number graph good t c (n + jobs_of graph t) inside (not_later graph chain good t c t (n + jobs_of graph t) reach) in
          let up = takes_rises graph chain good t c i j (n + jobs_of graph t) takes early in
          let on = free_rises graph chain good s l (with_task avoid t) i j up.0 way up.1 in
          let d : open_sum avoid turns (length graph.tasks) ≡ open_sum (with_task avoid t) turns (length graph.tasks) + turns t = drop_one avoid turns t (length graph.tasks) inside free in
          let back = takes_back t n i up.0 (open_sum (with_task avoid t) turns (length graph.tasks)) up.2 (subst (λ (x : ℕ). x * jobs_of graph t ≤ n) d late) in
          let found = deeper on.0 i back.0 (takes_inside t n i back.0 back.3) (subst (λ (x : ℕ). Free graph chain s on.0 (with_task avoid t) i x) back.1 on.2) back.2 in
          (found.0, omega (arith, on.1, found.1), reaching.through t n i back.0 back.3 found.2)

  reaches_back : (s t l n : ℕ) → t < length graph.tasks → IsSettledFrom graph turns t n → Reaches graph chain s l t (n + jobs_of graph t) →
      (m : ℕ) × (l ≤ m + jobs_of graph s) × Reaches graph chain s m t n
  reaches_back s t l n inside late reaches =
      unshift s (open_sum (λ x. false) (λ x. 1) (length graph.tasks)) l (λ x. false) t n inside (of_reaches graph chain s l t (n + jobs_of graph t) reaches) (omega arith)
      (subst (λ (x : ℕ). x * jobs_of graph t ≤ n) (sym (all_open turns (length graph.tasks))) late)

  pub settles_later : (s t m n : ℕ) → s < length graph.tasks → t < length graph.tasks → IsSettledFrom graph turns t n → IsFreshest graph chain s m t n →
      IsFreshest graph chain s (m + jobs_of graph s) t (n + jobs_of graph t)
  settles_later s t m n in_s in_t late fresh = record {
    reaches = repeats graph chain good s m t n fresh.reaches;
    latest = λ l reaches. (let back = reaches_back s t l n in_t late reaches in let most = fresh.latest back.0 back.2 in omega (arith, back.1, most));
  }

  pub settles_earlier : (s t l n : ℕ) → s < length graph.tasks → t < length graph.tasks → IsSettledFrom graph turns t n → IsFreshest graph chain s l t (n + jobs_of graph t) →
      (m : ℕ) × (l ≡ m + jobs_of graph s) × IsFreshest graph chain s m t n
  settles_earlier s t l n in_s in_t late fresh =
      let back = reaches_back s t l n in_t late fresh.reaches in
      let up = fresh.latest (back.0 + jobs_of graph s) (repeats graph chain good s back.0 t n back.2) in
      let same : l ≡ back.0 + jobs_of graph s = omega (arith, back.1, up) in (
        back.0,
        same,
        record {
          reaches = back.2;
          latest = λ x reaches. (let most = fresh.latest (x + jobs_of graph s) (repeats graph chain good s x t n reaches) in omega (arith, most, same));
        },
      )
