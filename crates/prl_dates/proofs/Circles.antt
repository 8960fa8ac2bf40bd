-- A chain of one job more than a hyperperiod has meets two jobs of one index: round and round from the one to the other, chains
-- become narrow.
use Rattle.prl_base.proofs.Standard.{◌≡◌, ◌+◌, ◌-◌, ◌*◌, ◌/◌, ◌<◌, ◌≤◌, ◌⊎◌, ◌++◌, ℕ, zero, suc, Bool, true, false, List, [], ◌∷◌, length, map, inl, inr, refl, sym, ◌∙◌, ap, subst, arith, eqb, ◌||◌}
use Rattle.prl_base.proofs.Standard.{ℤ, pos, negsuc, ◌+ℤ◌, ◌-ℤ◌, ◌≤ℤ◌, ◌<ℤ◌, list_any, IsDistinct, AllByRecursion, mod-add-div', mod-eq_of_lt, mul-le-mul_left, nat_tests, ints}
use Rattle.prl_base.proofs.Standard.{length-le_from_distinct_below}
use Rattle.prl_plan.specs.Vocabulary.{IsChain, last_of, wcets_of, needs_of, place_in, IsWellFormed, jobs_in_hyperperiod, Job, task_at, release_of, deadline_of, preceding, Precedes}
use Rattle.prl_plan.specs.Vocabulary.{PrecedesAlong}
use Rattle.prl_plan.specs.declared.graphs.Edge.{Edge}
use Rattle.prl_plan.specs.declared.graphs.TaskGraph.{TaskGraph}
use Rattle.prl_plan.proofs.NotLater.{released_first}
use Rattle.prl_plan.proofs.Periods.{everywhere, plus_mul}
use Rattle.prl_plan.proofs.RoundPeriods.{task_is}
use Rattle.prl_dates.specs.Vocabulary.{DateFault, jobs_of, IsLate, EndsLoop, IsDateFault, IsOfGraph, HasNarrowChain, Joins, index_of}
use Rattle.prl_dates.specs.declared.faults.DateFault.TheVariants as faults
use Rattle.prl_dates.proofs.ChainEnds.{ends_inside, begins_inside}
use Rattle.prl_dates.proofs.Links.{joins_shift}
use Rattle.prl_dates.proofs.Settles.{release_rises}
use Rattle.prl_dates.proofs.Indices.{place_again, place_below, one_index, some_jobs, index_below, jobs_are}

-- numbers at one place of a list that repeats are apart by whole lists
same_place : (len : ℕ) → 1 ≤ len → (x : ℤ) (k : ℕ) → place_in (x +ℤ pos k) len ≡ place_in x len → (h : ℕ) × (k ≡ h * len)
same_place len some =
    everywhere (λ (x : ℤ). (k : ℕ) → place_in (x +ℤ pos k) len ≡ place_in x len → (h : ℕ) × (k ≡ h * len)) len some
    (λ n below k same.
    ((n + k) / len, omega (arith, mod-add-div' (n + k) len, mod-eq_of_lt below, same)))
    (λ x h k same. h k (sym (shifted x k) ∙ same ∙ place_again len some x))
    (λ x h k same. h k (shifted x k ∙ same ∙ sym (place_again len some x)))
  where
    shifted : (x : ℤ) (k : ℕ) → place_in ((x +ℤ pos len) +ℤ pos k) len ≡ place_in (x +ℤ pos k) len
    shifted x k = ap (λ (z : ℤ). place_in z len) (let e : (x +ℤ pos len) +ℤ pos k ≡ (x +ℤ pos k) +ℤ pos len = omega (arith, ints) in e) ∙ place_again len some (x +ℤ pos k)

module _ (graph : TaskGraph) (good : IsWellFormed graph) where
  abbrev wcet : Job → ℕ
  wcet job = (task_at graph job.task).wcet

  abbrev release : Job → ℤ
  release job = release_of (task_at graph job.task) job.number

  abbrev index : Job → ℕ
  index job = index_of graph job.task job.number

  abbrev indices : Job → List Job → List ℕ
  indices first [] = index first ∷ []
  indices first (next ∷ rest) = index first ∷ indices next rest

  -- a chain taken apart at a job
  record IsSplit (first : Job) (rest : List Job) (at : Job) : Type 0 where
    front : List Job
    back : List Job
    before : IsChain graph first front
    ends : last_of first front ≡ at
    after : IsChain graph at back
    same : last_of at back ≡ last_of first rest
    long : length rest ≡ length front + length back
    wcets : wcets_of graph first rest + wcet at ≡ wcets_of graph first front + wcets_of graph at back

  abbrev further : (first next : Job) (rest : List Job) (at : Job) → IsChain graph first (next ∷ rest) → IsSplit next rest at → IsSplit first (next ∷ rest) at
  further first next rest at chain s = record {
    front = next ∷ s.front;
    back = s.back;
    before = (chain.0, chain.1, s.before);
    ends = s.ends;
    after = s.after;
    same = s.same;
    long = omega (arith, s.long);
    wcets = omega (arith, s.wcets);
  }

  abbrev at_first : (first : Job) (rest : List Job) → IsChain graph first rest → IsSplit first rest first
  at_first first rest chain = record {
    front = [];
    back = rest;
    before = begins_inside graph first rest chain;
    ends = refl;
    after = chain;
    same = refl;
    long = omega arith;
    wcets = omega arith;
  }

  -- the job of an index that a chain has
  found : (s : ℕ) (first : Job) (rest : List Job) → IsChain graph first rest → list_any (eqb s) (indices first rest) ≡ true → (at : Job) × (index at ≡ s) × IsSplit first rest at
  found s first [] chain any = (first, one s (index first) any, at_first first [] chain)
    where
      one : (a b : ℕ) → (eqb a b || false) ≡ true → b ≡ a
      one a b h = grind (arith, nat_tests)
  found s first (next ∷ rest) chain any = go (eqb s (index first)) refl (λ h. found s next rest chain.2 h) any
    where
      go : (t : Bool) → eqb s (index first) ≡ t → (list_any (eqb s) (indices next rest) ≡ true → (at : Job) × (index at ≡ s) × IsSplit next rest at) →
          (t || list_any (eqb s) (indices next rest)) ≡ true → (at : Job) × (index at ≡ s) × IsSplit first (next ∷ rest) at
      go true is later_on h = (first, equal s (index first) is, at_first first (next ∷ rest) chain)
        where
          equal : (a b : ℕ) → eqb a b ≡ true → b ≡ a
          equal a b h = grind (arith, nat_tests)
      go false is later_on h = (let r = later_on h in (r.0, r.1, further first next rest r.0 chain r.2))

  -- a job of the chain is of a task of the graph, and so is its index
  split_inside : (first : Job) (rest : List Job) (at : Job) → IsSplit first rest at → at.task < length graph.tasks
  split_inside first rest at s = subst (λ (j : Job). j.task < length graph.tasks) s.ends (ends_inside graph first s.front s.before)

  index_inside : (job : Job) → job.task < length graph.tasks → index job < jobs_in_hyperperiod graph
  index_inside job inside =
      index_below graph job.task (place_in job.number (jobs_of graph job.task)) inside
      (place_below (jobs_of graph job.task) (some_jobs graph good job.task inside) job.number)

  -- two jobs of one index, one after the other in a chain
  record IsTwice (first : Job) (rest : List Job) : Type 0 where
    early : Job
    late : Job
    indices_same : index late ≡ index early
    head : IsSplit first rest early
    turn : IsSplit early head.back late
    some : 1 ≤ length turn.front

  none_of : (p : ℕ → Bool) (xs : List ℕ) → list_any p xs ≡ false → AllByRecursion (λ y. p y ≡ false) xs
  none_of p [] none = tt
  none_of p (x ∷ xs) none = go (p x) refl (λ h. none_of p xs h) none
    where
      go : (t : Bool) → p x ≡ t → (list_any p xs ≡ false → AllByRecursion (λ y. p y ≡ false) xs) → (t || list_any p xs) ≡ false →
          AllByRecursion (λ y. p y ≡ false) (x ∷ xs)
      go true is all h = absurd (let e : ◌≡◌ {A = Bool} true false = h in cc)
      go false is all h = (is, all h)

  twice : (first : Job) (rest : List Job) → IsChain graph first rest → IsDistinct eqb (indices first rest) ⊎ IsTwice first rest
  unfolding IsDistinct
  twice first [] chain = inl (tt, tt)
  twice first (next ∷ rest) chain =
      elim (twice next rest chain.2) [
        | inl distinct ↦ go (list_any (eqb (index first)) (indices next rest)) refl distinct
        | inr t ↦ inr (record { early = t.early; late = t.late; indices_same = t.indices_same; head = further first next rest t.early chain t.head; turn = t.turn; some = t.some })
      ]
    where
      go : (b : Bool) → list_any (eqb (index first)) (indices next rest) ≡ b → IsDistinct eqb (indices next rest) →
          IsDistinct eqb (indices first (next ∷ rest)) ⊎ IsTwice first (next ∷ rest)
      go false is distinct = inl (none_of (eqb (index first)) (indices next rest) is, distinct)
      go true is distinct =
          (let f = found (index first) next rest chain.2 is in
          inr (record { early = first; late = f.0; indices_same = f.1; head = at_first first (next ∷ rest) chain; turn = further first next rest f.0 chain f.2; some = omega arith }))

  indices_long : (first : Job) (rest : List Job) → length (indices first rest) ≡ length rest + 1
  indices_long first [] = refl
  indices_long first (next ∷ rest) = omega (arith, indices_long next rest)

  long_is_twice : (first : Job) (rest : List Job) → IsChain graph first rest → length rest ≡ jobs_in_hyperperiod graph → IsTwice first rest
  long_is_twice first rest chain long =
      elim (twice first rest chain) [
        | inl distinct ↦ absurd
            (let few = length-le_from_distinct_below (indices first rest) (jobs_in_hyperperiod graph) distinct
            (λ q any. (let f = found q first rest chain any in
            omega (arith, index_inside f.0 (split_inside first rest f.0 f.2), f.1))) in
            omega (arith, few, indices_long first rest, long))
        | inr t ↦ t
      ]

  -- chains joined
  join : (first : Job) (front : List Job) (middle : Job) (back : List Job) → IsChain graph first front → last_of first front ≡ middle → IsChain graph middle back →
      IsChain graph first (front ++ back) × (last_of first (front ++ back) ≡ last_of middle back)
      × (wcets_of graph first (front ++ back) + wcet middle ≡ wcets_of graph first front + wcets_of graph middle back)
      × (length (front ++ back) ≡ length front + length back)
  join first [] middle back before ends after = (
    subst (λ (j : Job). IsChain graph j back) (sym ends) after,
    ap (λ (j : Job). last_of j back) ends,
    (let f : wcet first ≡ wcet middle = ap (λ (j : Job). wcet j) ends in
        let g : wcets_of graph first back + wcet middle ≡ wcet first + wcets_of graph middle back = omega (arith, ap (λ (j : Job). wcets_of graph j back) ends, f) in g),
    (let g : length back ≡ 0 + length back = omega arith in g),
  )
  join first (next ∷ front) middle back before ends after =
      (let r = join next front middle back before.2 ends after in
      let w = r.2 in let l = r.3 in (
        (before.0, before.1, r.0),
        r.1,
        (let g : wcet first + wcets_of graph next (front ++ back) + wcet middle ≡ wcet first + wcets_of graph next front + wcets_of graph middle back = omega (arith, w) in g),
        (let g : suc (length (front ++ back)) ≡ suc (length front) + length back = omega (arith, l) in g),
      ))

  -- a job so many hyperperiods later
  abbrev later : ℕ → Job → Job
  later h job = record { task = job.task; number = job.number +ℤ pos (h * jobs_of graph job.task) }

  later_release : (h : ℕ) (job : Job) → job.task < length graph.tasks → release (later h job) ≡ release job +ℤ pos (h * graph.hyper)
  later_release h job inside =
      let f : h * jobs_of graph job.task * (task_at graph job.task).clock.period ≡ h * graph.hyper =
      (let g : h * jobs_of graph job.task * (task_at graph job.task).clock.period ≡ h * (jobs_of graph job.task * (task_at graph job.task).clock.period) = omega arith in
      g ∙ ap (λ (n : ℕ). h * n) (sym (jobs_are graph good job.task inside))) in
      omega (arith, ints, plus_mul job.number (h * jobs_of graph job.task) (task_at graph job.task).clock.period, f)

  later_number : (h i j : ℕ) (edge : Edge) → Joins graph i j edge → (n : ℤ) →
      preceding edge.ops (n +ℤ pos (h * jobs_of graph j)) ≡ preceding edge.ops n +ℤ pos (h * jobs_of graph i)
  later_number zero i j edge joins n =
      let a : 0 * jobs_of graph j ≡ 0 = omega arith in
      let b : 0 * jobs_of graph i ≡ 0 = omega arith in
      let c : n +ℤ pos (0 * jobs_of graph j) ≡ n = omega (arith, ints, a) in
      ap (λ (z : ℤ). preceding edge.ops z) c ∙ (let d : preceding edge.ops n ≡ preceding edge.ops n +ℤ pos (0 * jobs_of graph i) = omega (arith, ints, b) in d)
  later_number (suc h) i j edge joins n =
      let a : suc h * jobs_of graph j ≡ h * jobs_of graph j + jobs_of graph j = omega arith in
      let b : suc h * jobs_of graph i ≡ h * jobs_of graph i + jobs_of graph i = omega arith in
      let c : n +ℤ pos (suc h * jobs_of graph j) ≡ (n +ℤ pos (h * jobs_of graph j)) +ℤ pos (jobs_of graph j) = omega (arith, ints, a) in
      let s = joins_shift graph good i j edge joins (n +ℤ pos (h * jobs_of graph j)) in
      let r = later_number h i j edge joins n in
      ap (λ (z : ℤ). preceding edge.ops z) c ∙ (let d : preceding edge.ops ((n +ℤ pos (h * jobs_of graph j)) +ℤ pos (jobs_of graph j)) ≡ preceding edge.ops n +ℤ pos (suc h * jobs_of graph i) = omega (arith, ints, s, r, b) in d)

  later_precedes : (h : ℕ) (a b : Job) → Precedes graph a b → Precedes graph (later h a) (later h b)
  later_precedes h a b p =
      let edge : Edge = p.1 in
      let along : PrecedesAlong graph edge a b = p.3 in
      let joins : Joins graph a.task b.task edge = record { stands = (p.0, p.2); from = along.from; to = along.to } in
      let n = later_number h a.task b.task edge joins b.number in
      (p.0, edge, p.2, record { from = along.from; to = along.to; number = ap (λ (z : ℤ). z +ℤ pos (h * jobs_of graph a.task)) along.number ∙ sym n })

  later_chain : (h : ℕ) (first : Job) (rest : List Job) → IsChain graph first rest → IsChain graph (later h first) (map (later h) rest)
  later_chain h first [] chain = chain
  later_chain h first (next ∷ rest) chain = (chain.0, later_precedes h first next chain.1, later_chain h next rest chain.2)

  later_last : (h : ℕ) (first : Job) (rest : List Job) → last_of (later h first) (map (later h) rest) ≡ later h (last_of first rest)
  later_last h first [] = refl
  later_last h first (next ∷ rest) = later_last h next rest

  later_wcets : (h : ℕ) (first : Job) (rest : List Job) → wcets_of graph (later h first) (map (later h) rest) ≡ wcets_of graph first rest
  later_wcets h first [] = refl
  later_wcets h first (next ∷ rest) = omega (arith, later_wcets h next rest)

  later_long : (h : ℕ) (rest : List Job) → length (map (later h) rest) ≡ length rest
  later_long h [] = refl
  later_long h (x ∷ rest) = omega (arith, later_long h rest)

  -- the first job of a chain is not released after its last
  first_early : (first : Job) (rest : List Job) → IsChain graph first rest → release first ≤ℤ release (last_of first rest)
  first_early first [] chain = omega (arith, ints)
  first_early first (next ∷ rest) chain = omega (arith, ints, released_first graph good first next chain.1, first_early next rest chain.2)

  -- the later of two jobs of one index is so many hyperperiods later
  hyperperiods_between : (early late : Job) → early.task < length graph.tasks → late.task < length graph.tasks → index late ≡ index early → release early ≤ℤ release late →
      (h : ℕ) × (late ≡ later h early)
  hyperperiods_between early late inside inside' same order =
      let one = one_index graph late.task early.task (place_in late.number (jobs_of graph late.task)) (place_in early.number (jobs_of graph early.task))
      (place_below (jobs_of graph late.task) (some_jobs graph good late.task inside') late.number)
      (place_below (jobs_of graph early.task) (some_jobs graph good early.task inside) early.number) same in
      let places : place_in late.number (jobs_of graph early.task) ≡ place_in early.number (jobs_of graph early.task) =
      ap (λ (j : ℕ). place_in late.number (jobs_of graph j)) (sym one.0) ∙ one.1 in
      let released : release early ≤ℤ release_of (task_at graph early.task) late.number =
      subst (λ (j : ℕ). release early ≤ℤ release_of (task_at graph j) late.number) one.0 order in
      go (late.number -ℤ early.number) refl one.0 places released
    where
      go : (d : ℤ) → late.number -ℤ early.number ≡ d → late.task ≡ early.task →
          place_in late.number (jobs_of graph early.task) ≡ place_in early.number (jobs_of graph early.task) →
          release early ≤ℤ release_of (task_at graph early.task) late.number → (h : ℕ) × (late ≡ later h early)
      go (pos k) is task places released =
          (let at : late.number ≡ early.number +ℤ pos k = omega (arith, ints, is) in
          let s = same_place (jobs_of graph early.task) (some_jobs graph good early.task inside) early.number k
          (ap (λ (z : ℤ). place_in z (jobs_of graph early.task)) (sym at) ∙ places) in (
            s.0,
            ap (λ (i : ℕ). (let j : Job = record { task = i; number = late.number } in j)) task
                ∙ ap (λ (n : ℤ). (let j : Job = record { task = early.task; number = n } in j)) (at ∙ ap (λ (n : ℕ). early.number +ℤ pos n) s.1),
          ))
      go (negsuc k) is task places released =
          absurd (let r = release_rises graph early.task (late.number +ℤ pos 1) early.number (omega (arith, ints, is)) in
          omega (arith, ints, r, plus_mul late.number 1 (task_at graph early.task).clock.period, (task_is graph good early.task inside).period.0, released))

  -- round and round, so often
  record IsRoundTrip (early : Job) (h gain turns : ℕ) : Type 0 where
    rest : List Job
    chain : IsChain graph early rest
    task : (last_of early rest).task ≡ early.task
    release_last : release (last_of early rest) ≡ release early +ℤ pos (turns * (h * graph.hyper))
    wcets : wcets_of graph early rest ≡ wcet early + turns * gain

  module _ (early : Job) (around : List Job) (turn : IsChain graph early around) (h : ℕ) (turned : last_of early around ≡ later h early) (gain : ℕ)
      (gains : wcets_of graph early around ≡ wcet early + gain) where
    early_inside : early.task < length graph.tasks
    early_inside = begins_inside graph early around turn

    round_trip : (turns : ℕ) → IsRoundTrip early h gain turns
    round_trip zero = record {
      rest = [];
      chain = early_inside;
      task = refl;
      release_last = (let z : 0 * (h * graph.hyper) ≡ 0 = omega arith in omega (arith, ints, z));
      wcets = (let z : 0 * gain ≡ 0 = omega arith in omega (arith, z));
    }
    round_trip (suc turns) =
        (let r = round_trip turns in
        let j = join early around (later h early) (map (later h) r.rest) turn turned (later_chain h early r.rest r.chain) in
        let last : last_of early (around ++ map (later h) r.rest) ≡ later h (last_of early r.rest) = j.1 ∙ later_last h early r.rest in
        record {
          rest = around ++ map (later h) r.rest;
          chain = j.0;
          task = ap (λ (x : Job). x.task) last ∙ r.task;
          release_last =
              (let t : suc turns * (h * graph.hyper) ≡ turns * (h * graph.hyper) + h * graph.hyper = omega arith in
              omega (arith, ints, ap (λ (x : Job). release x) last, later_release h (last_of early r.rest) (ends_inside graph early r.rest r.chain), r.release_last, t));
          wcets =
              (let t : suc turns * gain ≡ turns * gain + gain = omega arith in
              omega (arith, j.2, later_wcets h early r.rest, r.wcets, t, gains));
        })

    -- a turn that gains more than the time that it takes
    pub narrow_turns : h * graph.hyper < gain → HasNarrowChain graph
    narrow_turns more =
        let r = round_trip (task_at graph early.task).due in
        let up : (task_at graph early.task).due * (h * graph.hyper + 1) ≤ (task_at graph early.task).due * gain =
        mul-le-mul_left (task_at graph early.task).due (let e : h * graph.hyper + 1 ≤ gain = omega (arith, more) in e) in
        let spread : (task_at graph early.task).due * (h * graph.hyper + 1) ≡ (task_at graph early.task).due * (h * graph.hyper) + (task_at graph early.task).due = omega arith in
        let w = r.wcets in let l = r.release_last in
        let d : (task_at graph (last_of early r.rest).task).due ≡ (task_at graph early.task).due = ap (λ (i : ℕ). (task_at graph i).due) r.task in
        (early, r.rest, record { chain = r.chain; late = omega (arith, ints, up, spread, (task_is graph good early.task early_inside).wcet.0, w, l, d) })

  pub loop_is_narrow : (job : Job) → EndsLoop graph job → HasNarrowChain graph
  loop_is_narrow job loop =
      let t : IsTwice loop.first loop.rest = long_is_twice loop.first loop.rest loop.chain loop.long in
      let head : IsSplit loop.first loop.rest t.early = t.head in
      let turn : IsSplit t.early head.back t.late = t.turn in
      let between = hyperperiods_between t.early t.late (begins_inside graph t.early turn.front turn.before) (begins_inside graph t.late turn.back turn.after) t.indices_same
      (subst (λ (j : Job). release t.early ≤ℤ release j) turn.ends (first_early t.early turn.front turn.before)) in
      let first_in : loop.first.task < length graph.tasks = begins_inside graph loop.first head.front head.before in
      let shorter = join (later between.0 loop.first) (map (later between.0) head.front) t.late turn.back (later_chain between.0 loop.first head.front head.before)
      (later_last between.0 loop.first head.front ∙ ap (λ (j : Job). later between.0 j) head.ends ∙ sym between.1) turn.after in
      let few : length (map (later between.0) head.front ++ turn.back) + 1 ≤ jobs_in_hyperperiod graph =
      omega (arith, shorter.3, later_long between.0 head.front, t.some, head.long, turn.long, loop.long) in
      let bound = loop.is_best.none_above (later between.0 loop.first) (map (later between.0) head.front ++ turn.back)
      (record { chain = shorter.0; few = few; last = shorter.1 ∙ turn.same ∙ head.same ∙ loop.last }) in
      let least : wcet t.early ≤ wcets_of graph t.early turn.front = at_least t.early turn.front in
      let gain : wcets_of graph t.early turn.front ≡ wcet t.early + (wcets_of graph t.early turn.front - wcet t.early) = omega (arith, least) in
      narrow_turns t.early turn.front turn.before between.0 (turn.ends ∙ between.1) (wcets_of graph t.early turn.front - wcet t.early) gain
      (omega (arith, ints, bound, later_release between.0 loop.first first_in, later_wcets between.0 loop.first head.front, shorter.2, head.wcets, turn.wcets, loop.longer, least))
    where
      at_least : (first : Job) (rest : List Job) → wcet first ≤ wcets_of graph first rest
      at_least first [] = omega arith
      at_least first (next ∷ rest) = omega arith

  -- the best of a late job is that of a narrow chain
  late_is_narrow : (job : Job) (needs has : ℤ) → IsLate graph job needs has → HasNarrowChain graph
  late_is_narrow job needs has late =
      let b = late.best.attained in
      let l = late.late in (
        b.0,
        b.1,
        record {
          chain = b.2.chain;
          late = subst (λ (j : Job). deadline_of (task_at graph j.task) j.number <ℤ needs_of graph b.0 b.1) (sym b.2.last) (omega (arith, ints, b.3, late.due, l));
        },
      )

  pub fault_is_narrow : (fault : DateFault) → IsDateFault graph fault → IsOfGraph fault → HasNarrowChain graph
  fault_is_narrow (faults.Narrow task job needs has) is of = late_is_narrow (record { task = task.0; number = job }) needs has is.0
  fault_is_narrow (faults.Loop task job) is of = loop_is_narrow (record { task = task.0; number = job }) is.1.has
  fault_is_narrow faults.Memory is of = absurd of
