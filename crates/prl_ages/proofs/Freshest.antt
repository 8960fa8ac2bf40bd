-- Of the instances that reach a job one is the latest, by recursion along encoded releases.
use Rattle.prl_base.proofs.Standard.{Bool, true, false, true≢false, ◌≡◌, ◌≢◌, ◌+◌, ◌*◌, ◌<◌, ◌≤◌, ◌<ℤ◌, ◌⊎◌, inl, inr, ℕ, List, pos, zero, suc, length, refl, sym, ◌∙◌, ap, subst, arith, ints, cases_eq, cases_lt, same_Some, slice_get_within, mul-le-mul_right}
use Rattle.prl_base.specs.declared.numbers.TaskNo.{TaskNo}
use Rattle.prl_base.specs.declared.values.Value.{Value}
use Rattle.prl_plan.specs.declared.graphs.Edge.{Edge}
use Rattle.prl_plan.specs.declared.graphs.Producer.{Producer}
use Rattle.prl_plan.specs.declared.graphs.Producer.TheVariants as producers
use Rattle.prl_plan.specs.declared.graphs.TaskGraph.{TaskGraph}
use Rattle.prl_plan.specs.declared.walks.Operand.{Operand}
use Rattle.prl_plan.specs.declared.walks.Operand.TheVariants as operands
use Rattle.prl_plan.specs.Vocabulary.{task_at, edge_at, IsWellFormed, IsPlan, PlanView, ComesFrom, Job, Precedes, operand_of, encoded_release, window_at, preceding}
use Rattle.prl_plan.proofs.WalkLaws.{operand_walks, walk_preceding}
use Rattle.prl_plan.proofs.RoundPeriods.{task_is}
use Rattle.prl_ages.specs.Chains.{is_along}
use Rattle.prl_ages.specs.Reaching.{Takes, Reaches, IsFreshest}
use Rattle.prl_ages.specs.Reaching as reaching
use Rattle.prl_ages.specs.Ages.{released}
use Rattle.prl_ages.proofs.Counted.{edge_found, same_source, port_comes}
use Rattle.prl_ages.proofs.Reaching.{not_later}

-- a number of the lower release is lower
pub lower_number : (graph : TaskGraph) → IsWellFormed graph → (s l n : ℕ) → s < length graph.tasks → released graph s l ≤ released graph s n → l ≤ n
lower_number graph good s l n inside early =
    elim (cases_lt n l) [
      | inl more ↦ absurd
          (let e : (n + 1) * (task_at graph s).clock.period ≡ n * (task_at graph s).clock.period + (task_at graph s).clock.period = omega arith in
          omega (arith, mul-le-mul_right (task_at graph s).clock.period (let g : n + 1 ≤ l = omega (arith, more) in g), e, early, (task_is graph good s inside).period.0))
      | inr less ↦ less
    ]

same_job : (a b : ℕ) → operands.From a ≡ operands.From b → a ≡ b
same_job a b e = cc

not_constant : (c : Value) (j : ℕ) → operands.Const c ≡ operands.From j → ⊥
not_constant c j e = cc

module _ (graph : TaskGraph) (chain : List TaskNo) (good : IsWellFormed graph) (s : ℕ) (in_s : s < length graph.tasks) (date : ℕ → ℕ → ℕ)
    (earlier : (t n i j : ℕ) → Takes graph chain t n i j → date i j < date t n) where
  -- instance m reaches job n of task t over one of the first e edges
  record Via (t n e m : ℕ) : Type 0 where
    task : ℕ
    job : ℕ
    takes : Takes graph chain t n task job
    below : takes.number < e
    reaches : Reaches graph chain s m task job

  -- the latest over these edges
  record IsBest (t n e m : ℕ) : Type 0 where
    via : Via t n e m
    latest : (l : ℕ) → Via t n e l → l ≤ m

  abbrev BestOrNone : ℕ → ℕ → ℕ → Type 0
  BestOrNone t n e = ((m : ℕ) × IsBest t n e m) ⊎ ((m : ℕ) → Via t n e m → ⊥)

  abbrev FreshestOrNone : ℕ → ℕ → Type 0
  FreshestOrNone t n = ((m : ℕ) × IsFreshest graph chain s m t n) ⊎ ((m : ℕ) → Reaches graph chain s m t n → ⊥)

  via_more : (t n e m : ℕ) → Via t n e m → Via t n (e + 1) m
  via_more t n e m via = record { task = via.task; job = via.job; takes = via.takes; below = omega (arith, via.below); reaches = via.reaches }

  -- over edge e itself nothing reaches the job, or what reaches the one job that is taken
  abbrev NoneHere : ℕ → ℕ → ℕ → Type 0
  NoneHere t n e = (i j m : ℕ) (takes : Takes graph chain t n i j) → takes.number ≡ e → Reaches graph chain s m i j → ⊥

  record Here (t n e m : ℕ) : Type 0 where
    task : ℕ
    job : ℕ
    takes : Takes graph chain t n task job
    number : takes.number ≡ e
    reaches : Reaches graph chain s m task job
    latest : (i j l : ℕ) (other : Takes graph chain t n i j) → other.number ≡ e → Reaches graph chain s l i j → l ≤ m

  join_none : (t n e : ℕ) → BestOrNone t n e → NoneHere t n e → BestOrNone t n (e + 1)
  join_none t n e (inl best) none = inl (best.0, record { via = via_more t n e best.0 best.1.via; latest = λ l via. at l via (cases_lt via.takes.number e) })
    where
      at : (l : ℕ) (via : Via t n (e + 1) l) → (via.takes.number < e) ⊎ (e ≤ via.takes.number) → l ≤ best.0
      at l via (inl less) = best.1.latest l (record { task = via.task; job = via.job; takes = via.takes; below = less; reaches = via.reaches })
      at l via (inr same) = absurd (none via.task via.job l via.takes (omega (arith, same, via.below)) via.reaches)
  join_none t n e (inr never) none = inr (λ m via. at m via (cases_lt via.takes.number e))
    where
      at : (m : ℕ) (via : Via t n (e + 1) m) → (via.takes.number < e) ⊎ (e ≤ via.takes.number) → ⊥
      at m via (inl less) = never m (record { task = via.task; job = via.job; takes = via.takes; below = less; reaches = via.reaches })
      at m via (inr same) = none via.task via.job m via.takes (omega (arith, same, via.below)) via.reaches

  here_via : (t n e m : ℕ) → Here t n e m → Via t n (e + 1) m
  here_via t n e m here = record { task = here.task; job = here.job; takes = here.takes; below = omega (arith, here.number); reaches = here.reaches }

  join_here : (t n e m : ℕ) → BestOrNone t n e → Here t n e m → BestOrNone t n (e + 1)
  join_here t n e m (inr never) here = inl (m, record { via = here_via t n e m here; latest = λ l via. at l via (cases_lt via.takes.number e) })
    where
      at : (l : ℕ) (via : Via t n (e + 1) l) → (via.takes.number < e) ⊎ (e ≤ via.takes.number) → l ≤ m
      at l via (inl less) = absurd (never l (record { task = via.task; job = via.job; takes = via.takes; below = less; reaches = via.reaches }))
      at l via (inr same) = here.latest via.task via.job l via.takes (omega (arith, same, via.below)) via.reaches
  join_here t n e m (inl best) here = go (cases_lt best.0 m)
    where
      at : (l : ℕ) (via : Via t n (e + 1) l) → (via.takes.number < e) ⊎ (e ≤ via.takes.number) → (l ≤ best.0) ⊎ (l ≤ m)
      at l via (inl less) = inl (best.1.latest l (record { task = via.task; job = via.job; takes = via.takes; below = less; reaches = via.reaches }))
      at l via (inr same) = inr (here.latest via.task via.job l via.takes (omega (arith, same, via.below)) via.reaches)

      within : (x y l most : ℕ) → x ≤ most → y ≤ most → (l ≤ x) ⊎ (l ≤ y) → l ≤ most
      within x y l most a b (inl h) = omega (arith, h, a)
      within x y l most a b (inr h) = omega (arith, h, b)

      go : (best.0 < m) ⊎ (m ≤ best.0) → BestOrNone t n (e + 1)
      go (inl less) = inl (m, record { via = here_via t n e m here; latest = λ l via. within best.0 m l m (omega (arith, less)) (omega arith) (at l via (cases_lt via.takes.number e)) })
      go (inr more) = inl (
        best.0,
        record {
          via = via_more t n e best.0 best.1.via;
          latest = λ l via. within best.0 m l best.0 (omega arith) more (at l via (cases_lt via.takes.number e));
        },
      )

  -- what is taken on an edge of a number is what the edge of that number gives
  taken_on : (t n i j e : ℕ) (takes : Takes graph chain t n i j) → takes.number ≡ e →
      ((edge_at graph e).to.0 ≡ t) × ComesFrom (edge_at graph e).from i × (operand_of (edge_at graph e) n ≡ operands.From j)
  taken_on t n i j e takes number =
      let inside : takes.number < length graph.edges = slice_get_within graph.edges takes.number takes.edge takes.at in
      let found : takes.edge ≡ edge_at graph takes.number = same_Some takes.edge (edge_at graph takes.number) (sym takes.at ∙ edge_found graph takes.number inside) in
      let same : takes.edge ≡ edge_at graph e = found ∙ ap (λ (x : ℕ). edge_at graph x) number in (
        subst (λ (x : Edge). x.to.0 ≡ t) same takes.to,
        subst (λ (x : Edge). ComesFrom x.from i) same takes.from,
        subst (λ (x : Edge). operand_of x n ≡ operands.From j) same takes.reads,
      )

  -- edge by edge, where what reaches earlier jobs is known
  module _ (t n : ℕ) (known : (i j : ℕ) → Takes graph chain t n i j → FreshestOrNone i j) where
    over_edge : (e : ℕ) → e < length graph.edges → BestOrNone t n e → BestOrNone t n (e + 1)
    over_edge e inside so_far = to_task (cases_eq (edge_at graph e).to.0 t)
      where
        none_by : ((i j : ℕ) (takes : Takes graph chain t n i j) → takes.number ≡ e → ⊥) → BestOrNone t n (e + 1)
        none_by not = join_none t n e so_far (λ i j m takes number reaches. not i j takes number)

        from_task : (edge_at graph e).to.0 ≡ t → (task : TaskNo) (out j : ℕ) → (edge_at graph e).from ≡ producers.Port task out →
            operand_of (edge_at graph e) n ≡ operands.From j → BestOrNone t n (e + 1)
        from_task to task out j is reads = on_chain (is_along chain task.0 t) refl
          where
            takes : is_along chain task.0 t ≡ true → Takes graph chain t n task.0 j
            takes along =
                record { number = e; edge = edge_at graph e; at = edge_found graph e inside; to = to; from = port_comes (edge_at graph e).from task out is; along = along; reads = reads }

            giver : (i l : ℕ) (other : Takes graph chain t n i l) → other.number ≡ e → i ≡ task.0
            giver i l other number = sym (same_source (edge_at graph e).from task out i is (taken_on t n i l e other number).1)

            one : (i l m : ℕ) (other : Takes graph chain t n i l) → other.number ≡ e → Reaches graph chain s m i l → Reaches graph chain s m task.0 j
            one i l m other number reaches =
                let on = taken_on t n i l e other number in
                let job : l ≡ j = same_job l j (sym on.2 ∙ reads) in
                subst (λ (x : ℕ). Reaches graph chain s m x j) (giver i l other number) (subst (λ (x : ℕ). Reaches graph chain s m i x) job reaches)

            go : is_along chain task.0 t ≡ true → FreshestOrNone task.0 j → BestOrNone t n (e + 1)
            go along (inl fresh) = join_here t n e fresh.0 so_far (record {
              task = task.0;
              job = j;
              takes = takes along;
              number = refl;
              reaches = fresh.1.reaches;
              latest = λ i l m other number reaches. fresh.1.latest m (one i l m other number reaches);
            })
            go along (inr never) = join_none t n e so_far (λ i l m other number reaches. never m (one i l m other number reaches))

            on_chain : (b : Bool) → is_along chain task.0 t ≡ b → BestOrNone t n (e + 1)
            on_chain true along = go along (known task.0 j (takes along))
            on_chain false off = none_by (λ i l other number. true≢false (sym other.along ∙ ap (λ (x : ℕ). is_along chain x t) (giver i l other number) ∙ off))

        from_operand : (edge_at graph e).to.0 ≡ t → (o : Operand) → operand_of (edge_at graph e) n ≡ o → (from : Producer) → (edge_at graph e).from ≡ from → BestOrNone t n (e + 1)
        from_operand to (operands.Const c) is from from_is = none_by (λ i j takes number. not_constant c j (sym is ∙ (taken_on t n i j e takes number).2))
        from_operand to (operands.From j) is (producers.Port task out) from_is = from_task to task out j from_is is
        from_operand to (operands.From j) is (producers.Constant value) from_is =
            none_by (λ i l takes number. subst (λ (p : Producer). ComesFrom p i) from_is (taken_on t n i l e takes number).1)

        to_task : ((edge_at graph e).to.0 ≡ t) ⊎ ((edge_at graph e).to.0 ≢ t) → BestOrNone t n (e + 1)
        to_task (inl to) = from_operand to (operand_of (edge_at graph e) n) refl (edge_at graph e).from refl
        to_task (inr other) = none_by (λ i j takes number. other (taken_on t n i j e takes number).0)

    over_edges : (e : ℕ) → e ≤ length graph.edges → BestOrNone t n e
    over_edges zero within = inr (λ m via. absurd (omega (arith, via.below)))
    over_edges (suc e) within =
        let f : e + 1 ≡ suc e = omega arith in
        subst (λ (x : ℕ). BestOrNone t n x) f (over_edge e (omega (arith, within)) (over_edges e (omega (arith, within))))

  -- a job of another task is reached over an edge
  via_all : (l b c : ℕ) → Reaches graph chain s l b c → b ≢ s → Via b c (length graph.edges) l
  via_all l b c (reaching.itself x y task number) other = absurd (other task)
  via_all l b c (reaching.through x y i j takes rest) other =
      record { task = i; job = j; takes = takes; below = slice_get_within graph.edges takes.number takes.edge takes.at; reaches = rest }

  of_edges : (t n : ℕ) → t ≢ s → BestOrNone t n (length graph.edges) → FreshestOrNone t n
  of_edges t n other (inl best) = inl (
    best.0,
    record {
      reaches = reaching.through t n best.1.via.task best.1.via.job best.1.via.takes best.1.via.reaches;
      latest = λ l reaches. best.1.latest l (via_all l t n reaches other);
    },
  )
  of_edges t n other (inr never) = inr (λ m reaches. never m (via_all m t n reaches other))

  job_of : (t n : ℕ) → ((i j : ℕ) → Takes graph chain t n i j → FreshestOrNone i j) → (t ≡ s) ⊎ (t ≢ s) → FreshestOrNone t n
  job_of t n known (inl same) = inl (
    n,
    record {
      reaches = reaching.itself t n same refl;
      latest = λ l reaches. lower_number graph good s l n in_s (not_later graph chain good s l s n (subst (λ (x : ℕ). Reaches graph chain s l x n) same reaches));
    },
  )
  job_of t n known (inr other) = of_edges t n other (over_edges t n known (length graph.edges) (omega arith))

  pub decide : (fuel t n : ℕ) → date t n < fuel → FreshestOrNone t n
  decide zero t n small = absurd (omega (arith, small))
  decide (suc fuel) t n small = job_of t n (λ i j takes. decide fuel i j (let e = earlier t n i j takes in omega (arith, small, e))) (cases_eq t s)

-- dates of jobs, and that those of what a job takes are earlier
abbrev pub date_of : PlanView → ℕ → ℕ → ℕ
date_of plan i n = released plan.graph i n + (window_at plan.windows i (pos n)).lead

abbrev pub KeepsOrder : PlanView → Type 0
KeepsOrder plan = (before after : Job) → Precedes plan.graph before after →
    encoded_release plan.graph plan.windows before.task before.number <ℤ encoded_release plan.graph plan.windows after.task after.number

taken_earlier : (plan : PlanView) (chain : List TaskNo) → KeepsOrder plan → (t n i j : ℕ) → Takes plan.graph chain t n i j → date_of plan i j < date_of plan t n
taken_earlier plan chain keeps t n i j takes =
    let before : Job = record { task = i; number = pos j } in
    let after : Job = record { task = t; number = pos n } in
    let number : pos j ≡ preceding takes.edge.ops (pos n) = sym (walk_preceding takes.edge.ops n j (operand_walks takes.edge n j takes.reads).2) in
    let precedes : Precedes plan.graph before after = (takes.number, takes.edge, takes.at, record { from = takes.from; to = takes.to; number = number }) in
    let e = keeps before after precedes in
    omega (arith, ints, e)

pub freshest_or_none : (plan : PlanView) (chain : List TaskNo) → IsPlan plan → KeepsOrder plan → (s t n : ℕ) → s < length plan.graph.tasks →
    ((m : ℕ) × IsFreshest plan.graph chain s m t n) ⊎ ((m : ℕ) → Reaches plan.graph chain s m t n → ⊥)
freshest_or_none plan chain is keeps s t n in_s =
    decide plan.graph chain is.graph s in_s (date_of plan) (taken_earlier plan chain keeps) (suc (date_of plan t n)) t n (omega arith)
