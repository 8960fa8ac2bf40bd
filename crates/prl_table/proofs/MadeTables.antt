-- A table that is cut out of a steady run by earliest deadlines is good.
use Rattle.prl_base.proofs.Standard.{◌≡◌, ◌≢◌, ◌+◌, ◌*◌, ◌-◌, ◌<◌, ◌≤◌, ℕ, zero, suc, Bool, true, false, List, length, Some, inl, inr, refl, sym, ◌∙◌, ap, subst, arith, ℤ, pos, negsuc, ◌+ℤ◌, ◌-ℤ◌}
use Rattle.prl_base.proofs.Standard.{◌*ℤ◌, ◌≤ℤ◌, slice_get, pos-*ℤ-pos, mul-le-mul_right, cases_eq, cases_lt, ints, slice_get-get_or}
use Rattle.prl_plan.specs.Vocabulary.{encoded_release, encoded_deadline, sum_below, task_at, deadline_of, IsHorizonJob, PlanView, IsPlan, edge_at, no_edge, release_at, deadline_at, preceding}
use Rattle.prl_plan.specs.Vocabulary.{ComesFrom, Precedes}
use Rattle.prl_plan.proofs.DatePeriods.{jobs_are, least_repeat, greatest_repeat}
use Rattle.prl_plan.proofs.Periods.{plus_mul}
use Rattle.prl_plan.proofs.RoundPeriods.{task_is}
use Rattle.prl_overlaps.specs.Overlaps.{Overlap}
use Rattle.prl_tables.specs.Tables.{classes, IsGood}
use Rattle.prl_overlaps.specs.declared.entries.Entry.{Entry}
use Rattle.prl_table.specs.Made.{Run, units_in, IsRun, IsSteady, IsCutFrom, IsCut}
use Rattle.prl_table.proofs.Units.{units_none, units_join, units_same}
use Rattle.prl_tables.proofs.Shifts.{shifted, preceding_shifted, some_classes}

-- a multiple that lies lower by one
times : (hyper s t : ℕ) → s < t → s * hyper + hyper ≤ t * hyper
times hyper s t less = (let m = mul-le-mul_right hyper (let g : s + 1 ≤ t = omega arith in g) in let e : (s + 1) * hyper ≡ s * hyper + hyper = omega arith in omega (arith, m, e))

true_is_not_false : (b : Bool) → b ≡ true → b ≡ false → ⊥
true_is_not_false b yes_it no_it = (let e : ◌≡◌ {A = Bool} true false = sym yes_it ∙ no_it in cc)

module _ (plan : PlanView) (is : IsPlan plan) (until : ℕ) (run : Run) (is_run : IsRun plan until run) (start bound : ℕ) (steady : IsSteady plan run start) where
  -- the dates of a job some hyperperiods later
  release_later : (i c h : ℕ) → i < length plan.graph.tasks → release_at plan i (c + h * classes plan.graph i) ≡ release_at plan i c + h * plan.graph.hyper
  release_later i c h inside =
      let r = shifted plan is (encoded_release plan.graph plan.windows) (least_repeat plan.graph is.graph (encoded_release plan.graph plan.windows) is.dates.releases) i c h inside in
      omega (arith, ints, r)

  deadline_later : (i c h : ℕ) → i < length plan.graph.tasks → deadline_at plan i (c + h * classes plan.graph i) ≡ deadline_at plan i c + h * plan.graph.hyper
  deadline_later i c h inside =
      let d = shifted plan is (encoded_deadline plan.graph plan.windows) (greatest_repeat plan.graph is.graph (encoded_deadline plan.graph plan.windows) is.dates.deadlines) i c h inside in
      omega (arith, ints, d)

  -- a window is at most a hyperperiod long
  short_window : (i m : ℕ) → i < length plan.graph.tasks → deadline_at plan i m ≤ release_at plan i m + plan.graph.hyper
  short_window i m inside =
      let above = is.dates.releases.releases.above i (pos m) inside in
      let below : encoded_deadline plan.graph plan.windows i (pos m) ≤ℤ deadline_of (task_at plan.graph i) (pos m) = is.dates.deadlines.deadlines.below i (pos m) inside in
      let due = (task_is plan.graph is.graph i inside).due.1 in
      let many = some_classes plan is i inside in
      let e = jobs_are plan.graph is.graph i inside in
      let one = mul-le-mul_right (task_at plan.graph i).clock.period many in
      let self : 1 * (task_at plan.graph i).clock.period ≡ (task_at plan.graph i).clock.period = omega arith in
      omega (arith, ints, above, below, due, e, one, self)

  module _ (entries : List Entry) (cut : IsCut plan run start bound entries) where
    -- the window of the class of an entry
    inside : (entry : Entry) (back : ℕ) → IsCutFrom plan run start entry back →
        (release_at plan entry.task.0 entry.job ≤ entry.at) × (entry.at + entry.units ≤ deadline_at plan entry.task.0 entry.job)
    inside entry back piece =
        let units = piece.units in
        let first = is_run.window (entry.at + back * plan.graph.hyper) entry.task.0 (entry.job + back * classes plan.graph entry.task.0)
        (piece.runs (entry.at + back * plan.graph.hyper) (omega arith) (omega (arith, units))) in
        let last = is_run.window (entry.at + back * plan.graph.hyper + entry.units - 1) entry.task.0 (entry.job + back * classes plan.graph entry.task.0)
        (piece.runs (entry.at + back * plan.graph.hyper + entry.units - 1) (omega (arith, units)) (omega (arith, units))) in
        let r = release_later entry.task.0 entry.job back piece.task in
        let d = deadline_later entry.task.0 entry.job back piece.task in
        (let a = first.0 in omega (arith, a, r), let b = last.1 in omega (arith, b, d, units))

    apart : (k l : ℕ) (one other : Entry) (a b : ℕ) → slice_get entries k ≡ Some one → slice_get entries l ≡ Some other →
        Overlap plan.graph.hyper one other a b → (k ≡ l) × (a ≡ b)
    apart k l one other a b at_k at_l over =
        let x = cut.piece k one at_k in
        let y = cut.piece l other at_l in
        let one_from = x.1.from in
        let one_to = x.1.to in
        let other_from = y.1.from in
        let other_to = y.1.to in
        let one_units = x.1.units in
        let other_units = y.1.units in
        let starts = over.starts in
        let ends = over.ends in
        let level : a + y.0 ≡ b + x.0 =
        elim (cases_lt (a + y.0) (b + x.0)) [
          | inl before ↦ absurd
              (let t = times plan.graph.hyper (a + y.0) (b + x.0) before in
              let e : (a + y.0) * plan.graph.hyper ≡ a * plan.graph.hyper + y.0 * plan.graph.hyper = omega arith in
              let f : (b + x.0) * plan.graph.hyper ≡ b * plan.graph.hyper + x.0 * plan.graph.hyper = omega arith in
              omega (arith, t, e, f, ends, one_to, other_from))
          | inr not_before ↦
              (elim (cases_lt (b + x.0) (a + y.0)) [
                | inl after ↦ absurd
                    (let t = times plan.graph.hyper (b + x.0) (a + y.0) after in
                    let e : (a + y.0) * plan.graph.hyper ≡ a * plan.graph.hyper + y.0 * plan.graph.hyper = omega arith in
                    let f : (b + x.0) * plan.graph.hyper ≡ b * plan.graph.hyper + x.0 * plan.graph.hyper = omega arith in
                    omega (arith, t, e, f, starts, other_to, one_from))
                | inr not_after ↦ omega (arith, not_before, not_after)
              ])
        ] in
        let by = ap (λ (v : ℕ). v * plan.graph.hyper) level in
        let e : (a + y.0) * plan.graph.hyper ≡ a * plan.graph.hyper + y.0 * plan.graph.hyper = omega arith in
        let f : (b + x.0) * plan.graph.hyper ≡ b * plan.graph.hyper + x.0 * plan.graph.hyper = omega arith in
        let same : k ≡ l =
        elim (cases_lt (one.at + x.0 * plan.graph.hyper) (other.at + y.0 * plan.graph.hyper)) [
          | inl earlier ↦
              cut.once k l one other x.0 y.0 (other.at + y.0 * plan.graph.hyper) at_k at_l (omega (arith, earlier)) (omega (arith, ends, by, e, f)) x.1 (omega arith) (omega (arith, other_units)) y.1
          | inr later ↦ cut.once k l one other x.0 y.0 (one.at + x.0 * plan.graph.hyper) at_k at_l (omega arith) (omega (arith, one_units)) x.1 later (omega (arith, starts, by, e, f)) y.1
        ] in
        (same, self_apart same)
      where
        self_apart : k ≡ l → a ≡ b
        self_apart same =
            let two : Some one ≡ Some other = sym at_k ∙ ap (λ (v : ℕ). slice_get entries v) same ∙ at_l in
            let entry : one ≡ other = cc in
            let at = ap (λ (v : Entry). v.at) entry in
            let units = ap (λ (v : Entry). v.units) entry in
            let x = cut.piece k one at_k in
            let from = x.1.from in
            let to = x.1.to in
            let starts = over.starts in
            let ends = over.ends in
            elim (cases_lt a b) [
              | inl before ↦ absurd (let t = times plan.graph.hyper a b before in omega (arith, t, at, units, ends, from, to))
              | inr not_before ↦
                  (elim (cases_lt b a) [
                    | inl after ↦ absurd (let t = times plan.graph.hyper b a after in omega (arith, t, at, units, starts, from, to))
                    | inr not_after ↦ omega (arith, not_before, not_after)
                  ])
            ]

    -- where the producer's job p precedes job m of the consumer, its piece, moved to that job, ends before the other begins
    module _ (e i : ℕ) (e_in : e < length plan.graph.edges) (comes : ComesFrom (edge_at plan.graph e).from i) (i_in : i < length plan.graph.tasks) where
      earlier : (p m : ℕ) → (edge_at plan.graph e).to.0 < length plan.graph.tasks → preceding (edge_at plan.graph e).ops (pos m) ≡ pos p →
          (release_at plan i p < release_at plan (edge_at plan.graph e).to.0 m) × (deadline_at plan i p < deadline_at plan (edge_at plan.graph e).to.0 m)
      earlier p m to_in number =
          let precedes : Precedes plan.graph (record { task = i; number = pos p }) (record { task = (edge_at plan.graph e).to.0; number = pos m }) =
          (e, edge_at plan.graph e, slice_get-get_or plan.graph.edges e no_edge e_in, record { from = comes; to = refl; number = sym number }) in
          let first = (task_is plan.graph is.graph i i_in).wcet.0 in
          let second = (task_is plan.graph is.graph (edge_at plan.graph e).to.0 to_in).wcet.0 in
          let r = is.dates.releases.releases.along (record { task = i; number = pos p }) (record { task = (edge_at plan.graph e).to.0; number = pos m }) precedes in
          let d = is.dates.deadlines.deadlines.along (record { task = i; number = pos p }) (record { task = (edge_at plan.graph e).to.0; number = pos m }) precedes in
          let ri = is.dates.releases.releases.above i (pos p) i_in in
          (omega (arith, ints, r, first), omega (arith, ints, d, second))

      -- a tick of the producer's job does not come after one of the consumer's job that it precedes
      no_later : (p m t later : ℕ) → (edge_at plan.graph e).to.0 < length plan.graph.tasks → preceding (edge_at plan.graph e).ops (pos m) ≡ pos p →
          run t (edge_at plan.graph e).to.0 m ≡ true → run later i p ≡ true → later < t
      no_later p m t later to_in number consumer producer =
          elim (cases_lt later t) [
            | inl before ↦ before
            | inr not_before ↦ absurd
                (let dates = earlier p m to_in number in
                let a = dates.0 in
                let w = (is_run.window t (edge_at plan.graph e).to.0 m consumer).0 in
                true_is_not_false (run later i p) producer
                (is_run.first t (edge_at plan.graph e).to.0 m i p later consumer (is_run.job later i p producer) (omega (arith, a, w)) dates.1 not_before))
          ]

      -- the producer's piece ends in tick `later`, and so do all of its jobs' pieces, moved by hyperperiods; the consumer's begins in tick t
      by_shift : (p m t later w : ℕ) → (edge_at plan.graph e).to.0 < length plan.graph.tasks →
          preceding (edge_at plan.graph e).ops (pos m) ≡ pos (p + w * classes plan.graph i) →
          run t (edge_at plan.graph e).to.0 m ≡ true → run later i p ≡ true → start ≤ later → later < start + plan.graph.hyper → start ≤ t → t < start + plan.graph.hyper →
          later + w * plan.graph.hyper < t
      by_shift p m t later zero to_in number consumer producer low high t_low t_high =
          let z : 0 * classes plan.graph i ≡ 0 = omega arith in
          let y : 0 * plan.graph.hyper ≡ 0 = omega arith in
          let e : pos (p + 0 * classes plan.graph i) ≡ pos p = omega (arith, ints, z) in
          let l = no_later p m t later to_in (number ∙ e) consumer producer in
          omega (arith, l, y)
      by_shift p m t later (suc zero) to_in number consumer producer low high t_low t_high = absurd
          (let one : 1 * classes plan.graph i ≡ classes plan.graph i = omega arith in
          let e : pos (p + 1 * classes plan.graph i) ≡ pos (p + classes plan.graph i) = omega (arith, ints, one) in
          let again : run (later + plan.graph.hyper) i (p + classes plan.graph i) ≡ true = sym (steady later i p low high i_in) ∙ producer in
          let l = no_later (p + classes plan.graph i) m t (later + plan.graph.hyper) to_in (number ∙ e) consumer again in
          omega (arith, l, low, t_high))
      by_shift p m t later (suc (suc w)) to_in number consumer producer low high t_low t_high = absurd
          (let d = deadline_later i p (suc (suc w)) i_in in
          let due = (is_run.window later i p producer).1 in
          let dates = (earlier (p + suc (suc w) * classes plan.graph i) m to_in number).1 in
          let short = short_window (edge_at plan.graph e).to.0 m to_in in
          let r = (is_run.window t (edge_at plan.graph e).to.0 m consumer).0 in
          let many : suc (suc w) * plan.graph.hyper ≡ w * plan.graph.hyper + plan.graph.hyper + plan.graph.hyper = omega arith in
          omega (arith, d, due, dates, short, r, many, low, t_high))

    order : (e i q c : ℕ) (z : ℤ) → e < length plan.graph.edges → ComesFrom (edge_at plan.graph e).from i → c < classes plan.graph (edge_at plan.graph e).to.0 →
        q < classes plan.graph i → preceding (edge_at plan.graph e).ops (pos c) ≡ pos q +ℤ (z *ℤ pos (classes plan.graph i)) →
        (k l : ℕ) (one other : Entry) → slice_get entries k ≡ Some one → slice_get entries l ≡ Some other →
        (one.task.0 ≡ i) × (one.job ≡ q) → (other.task.0 ≡ (edge_at plan.graph e).to.0) × (other.job ≡ c) →
        (pos (one.at + one.units) +ℤ (z *ℤ pos plan.graph.hyper)) ≤ℤ pos other.at
    order e i q c z e_in comes c_in q_in number k l one other at_k at_l one_is other_is =
        let x = cut.piece k one at_k in
        let y = cut.piece l other at_l in
        let w : ℤ = (z +ℤ pos y.0) -ℤ pos x.0 in
        go w refl
      where
        x : (back : ℕ) × IsCutFrom plan run start one back
        x = cut.piece k one at_k

        y : (back : ℕ) × IsCutFrom plan run start other back
        y = cut.piece l other at_l

        i_in : i < length plan.graph.tasks
        i_in = subst (λ (v : ℕ). v < length plan.graph.tasks) one_is.0 (cut.piece k one at_k).1.task

        to_in : (edge_at plan.graph e).to.0 < length plan.graph.tasks
        to_in = subst (λ (v : ℕ). v < length plan.graph.tasks) other_is.0 (cut.piece l other at_l).1.task

        last_tick : run (one.at + (cut.piece k one at_k).0 * plan.graph.hyper + one.units - 1) i (q + (cut.piece k one at_k).0 * classes plan.graph i) ≡ true
        last_tick =
            (let p = (cut.piece k one at_k).1 in
            let u = p.units in
            let r : run (one.at + (cut.piece k one at_k).0 * plan.graph.hyper + one.units - 1) one.task.0 (one.job + (cut.piece k one at_k).0 * classes plan.graph one.task.0) ≡ true =
            p.runs (one.at + (cut.piece k one at_k).0 * plan.graph.hyper + one.units - 1) (omega (arith, u)) (omega (arith, u)) in
            subst (λ (v : ℕ). run (one.at + (cut.piece k one at_k).0 * plan.graph.hyper + one.units - 1) i (v + (cut.piece k one at_k).0 * classes plan.graph i) ≡ true) one_is.1
            (subst (λ (v : ℕ). run (one.at + (cut.piece k one at_k).0 * plan.graph.hyper + one.units - 1) v (one.job + (cut.piece k one at_k).0 * classes plan.graph v) ≡ true) one_is.0 r))

        first_tick : run (other.at + (cut.piece l other at_l).0 * plan.graph.hyper) (edge_at plan.graph e).to.0
            (c + (cut.piece l other at_l).0 * classes plan.graph (edge_at plan.graph e).to.0) ≡ true
        first_tick =
            (let p = (cut.piece l other at_l).1 in
            let u = p.units in
            let r : run (other.at + (cut.piece l other at_l).0 * plan.graph.hyper) other.task.0 (other.job + (cut.piece l other at_l).0 * classes plan.graph other.task.0) ≡ true =
            p.runs (other.at + (cut.piece l other at_l).0 * plan.graph.hyper) (omega arith) (omega (arith, u)) in
            subst (λ (v : ℕ). run (other.at + (cut.piece l other at_l).0 * plan.graph.hyper) (edge_at plan.graph e).to.0
            (v + (cut.piece l other at_l).0 * classes plan.graph (edge_at plan.graph e).to.0) ≡ true) other_is.1
            (subst (λ (v : ℕ). run (other.at + (cut.piece l other at_l).0 * plan.graph.hyper) v (other.job + (cut.piece l other at_l).0 * classes plan.graph v) ≡ true) other_is.0 r))

        go : (w : ℤ) → ((z +ℤ pos (cut.piece l other at_l).0) -ℤ pos (cut.piece k one at_k).0) ≡ w → (pos (one.at + one.units) +ℤ (z *ℤ pos plan.graph.hyper)) ≤ℤ pos other.at
        go (negsuc j) is_w =
            let a : ℕ = (cut.piece k one at_k).0 in
            let b : ℕ = (cut.piece l other at_l).0 in
            -- z + b + 1 + j = a
            let sum : (z +ℤ pos (b + 1 + j)) ≡ pos (cut.piece k one at_k).0 = omega (arith, ints, is_w) in
            let by = plus_mul z ((cut.piece l other at_l).0 + 1 + j) plan.graph.hyper in
            let by_is = ap (λ (v : ℤ). v *ℤ pos plan.graph.hyper) sum in
            let times_a = pos-*ℤ-pos (cut.piece k one at_k).0 plan.graph.hyper in
            let split : ((cut.piece l other at_l).0 + 1 + j) * plan.graph.hyper ≡ (cut.piece l other at_l).0 * plan.graph.hyper + plan.graph.hyper + j * plan.graph.hyper = omega arith in
            let to = (cut.piece k one at_k).1.to in
            let from = (cut.piece l other at_l).1.from in
            omega (arith, ints, by, by_is, times_a, split, to, from)
        go (pos j) is_w =
            let sum : (z +ℤ pos (cut.piece l other at_l).0) ≡ pos ((cut.piece k one at_k).0 + j) = omega (arith, ints, is_w) in
            let by = plus_mul z (cut.piece l other at_l).0 plan.graph.hyper in
            let by_is = ap (λ (v : ℤ). v *ℤ pos plan.graph.hyper) sum in
            let times_a = pos-*ℤ-pos ((cut.piece k one at_k).0 + j) plan.graph.hyper in
            let split : ((cut.piece k one at_k).0 + j) * plan.graph.hyper ≡ (cut.piece k one at_k).0 * plan.graph.hyper + j * plan.graph.hyper = omega arith in
            let class_by = plus_mul z (cut.piece l other at_l).0 (classes plan.graph i) in
            let class_by_is = ap (λ (v : ℤ). v *ℤ pos (classes plan.graph i)) sum in
            let class_times = pos-*ℤ-pos ((cut.piece k one at_k).0 + j) (classes plan.graph i) in
            let class_split : ((cut.piece k one at_k).0 + j) * classes plan.graph i ≡ (cut.piece k one at_k).0 * classes plan.graph i + j * classes plan.graph i = omega arith in
            let moved = preceding_shifted plan is e i c (cut.piece l other at_l).0 to_in i_in e_in comes in
            let its : preceding (edge_at plan.graph e).ops (pos (c + (cut.piece l other at_l).0 * classes plan.graph (edge_at plan.graph e).to.0))
            ≡ pos (q + (cut.piece k one at_k).0 * classes plan.graph i + j * classes plan.graph i) = omega (arith, ints, moved, number, class_by, class_by_is, class_times, class_split) in
            let units = (cut.piece k one at_k).1.units in
            let one_from = (cut.piece k one at_k).1.from in
            let one_to = (cut.piece k one at_k).1.to in
            let other_units = (cut.piece l other at_l).1.units in
            let other_from = (cut.piece l other at_l).1.from in
            let other_to = (cut.piece l other at_l).1.to in
            let result = by_shift e i e_in comes i_in (q + (cut.piece k one at_k).0 * classes plan.graph i) (c + (cut.piece l other at_l).0 * classes plan.graph (edge_at plan.graph e).to.0)
            (other.at + (cut.piece l other at_l).0 * plan.graph.hyper) (one.at + (cut.piece k one at_k).0 * plan.graph.hyper + one.units - 1) j to_in its first_tick last_tick
            (omega (arith, one_from, units)) (omega (arith, one_to, units)) other_from (omega (arith, other_to, other_units)) in
            omega (arith, ints, result, by, by_is, times_a, split, units)

pub sum_none : (f : ℕ → ℕ) (bound : ℕ) → ((h : ℕ) → h < bound → f h ≡ 0) → sum_below f bound ≡ 0
sum_none f zero none = refl
sum_none f (suc n) none = (let rest = sum_none f n (λ h below. none h (omega (arith, below))) in let here = none n (omega arith) in omega (arith, rest, here))

pub sum_one : (f : ℕ → ℕ) (bound x : ℕ) → x < bound → ((h : ℕ) → h < bound → h ≢ x → f h ≡ 0) → sum_below f bound ≡ f x
sum_one f zero x inside none = absurd (omega (arith, inside))
sum_one f (suc n) x inside none =
    elim (cases_eq n x) [
      | inl here ↦
          (let rest = sum_none f n (λ h below. none h (omega (arith, below)) (λ same. omega (arith, same, below, here))) in
          let e = ap f here in omega (arith, rest, e))
      | inr other ↦
          (let rest = sum_one f n x (omega (arith, inside, other)) (λ h below differs. none h (omega (arith, below)) differs) in
          let last = none n (omega arith) other in omega (arith, rest, last))
    ]

sum_two : (f : ℕ → ℕ) (bound x : ℕ) → x + 1 < bound → ((h : ℕ) → h < bound → h ≢ x → h ≢ x + 1 → f h ≡ 0) → sum_below f bound ≡ f x + f (x + 1)
sum_two f zero x inside none = absurd (omega (arith, inside))
sum_two f (suc n) x inside none =
    elim (cases_eq n (x + 1)) [
      | inl here ↦
          (let rest = sum_one f n x (omega (arith, here)) (λ h below differs. none h (omega (arith, below)) differs (λ same. omega (arith, same, below, here))) in
          let e = ap f here in omega (arith, rest, e))
      | inr other ↦
          (let rest = sum_two f n x (omega (arith, inside, other)) (λ h below differs apart. none h (omega (arith, below)) differs apart) in
          let last = none n (omega arith) (λ same. omega (arith, same, inside)) other in omega (arith, rest, last))
    ]

module _ (plan : PlanView) (is : IsPlan plan) (until : ℕ) (run : Run) (is_run : IsRun plan until run) (start bound : ℕ) (steady : IsSteady plan run start)
    (late : (i c : ℕ) → i < length plan.graph.tasks → c < classes plan.graph i → release_at plan i c < start)
    (horizon : (i m : ℕ) → i < length plan.graph.tasks → release_at plan i m < start + plan.graph.hyper → IsHorizonJob plan.graph until i m)
    (many : start + plan.graph.hyper ≤ bound * plan.graph.hyper) where
  -- the number of hyperperiods after which the class is released in the hyperperiod from `start` on
  record Turn (i c : ℕ) : Type 0 where
    before : ℕ
    low : start ≤ release_at plan i c + (before + 1) * plan.graph.hyper
    high : release_at plan i c + before * plan.graph.hyper < start

  turn_up_to : (i c h : ℕ) → start ≤ release_at plan i c + (h + 1) * plan.graph.hyper → release_at plan i c < start → Turn i c
  turn_up_to i c zero low first =
      (let z : 0 * plan.graph.hyper ≡ 0 = omega arith in record { before = 0; low = low; high = omega (arith, first, z) })
  turn_up_to i c (suc h) low first =
      elim (cases_lt (release_at plan i c + suc h * plan.graph.hyper) start) [
        | inl below ↦ record { before = suc h; low = low; high = below }
        | inr above ↦ turn_up_to i c h (let e : suc h ≡ h + 1 = omega arith in let t = ap (λ (x : ℕ). x * plan.graph.hyper) e in omega (arith, above, t)) first
      ]

  turn : (i c : ℕ) → i < length plan.graph.tasks → c < classes plan.graph i → Turn i c
  turn i c inside c_in =
      (let e : (bound + 1) * plan.graph.hyper ≡ bound * plan.graph.hyper + plan.graph.hyper = omega arith in
      turn_up_to i c bound (omega (arith, many, e)) (late i c inside c_in))

  class_units : (i c : ℕ) → i < length plan.graph.tasks → c < classes plan.graph i →
      sum_below (λ h. units_in run start plan.graph.hyper i (c + h * classes plan.graph i)) bound ≡ (task_at plan.graph i).wcet
  class_units i c inside c_in =
      let t : Turn i c = turn i c inside c_in in
      let x : ℕ = (turn i c inside c_in).before in
      let low = t.low in
      let high = t.high in
      let hyper = is.graph.hyper in
      let next : ((turn i c inside c_in).before + 1) * plan.graph.hyper ≡ (turn i c inside c_in).before * plan.graph.hyper + plan.graph.hyper = omega arith in
      let below : (turn i c inside c_in).before + 1 < bound =
      elim (cases_lt ((turn i c inside c_in).before + 1) bound) [
        | inl less ↦ less
        | inr not_less ↦ absurd (let m = mul-le-mul_right plan.graph.hyper not_less in omega (arith, m, many, next, high))
      ] in
      let two = sum_two (λ h. units_in run start plan.graph.hyper i (c + h * classes plan.graph i)) bound (turn i c inside c_in).before below
      (λ h h_in differs apart. units_none run start plan.graph.hyper i (c + h * classes plan.graph i) (λ u u_low u_high runs.
      (let w = is_run.window u i (c + h * classes plan.graph i) runs in
      let w_low = w.0 in
      let w_high = w.1 in
      let r = release_later plan is until run is_run start bound steady i c h inside in
      let d = short_window plan is until run is_run start bound steady i (c + h * classes plan.graph i) inside in
      elim (cases_lt h (turn i c inside c_in).before) [
        | inl lower ↦ (let m = times plan.graph.hyper h (turn i c inside c_in).before lower in omega (arith, m, r, d, w_high, u_low, high))
        | inr not_lower ↦ (let m = times plan.graph.hyper ((turn i c inside c_in).before + 1) h (omega (arith, not_lower, differs, apart)) in omega (arith, m, r, w_low, u_high, low))
      ]))) in
      let m0 : ℕ = c + ((turn i c inside c_in).before + 1) * classes plan.graph i in
      let r = release_later plan is until run is_run start bound steady i c ((turn i c inside c_in).before + 1) inside in
      let d = short_window plan is until run is_run start bound steady i (c + ((turn i c inside c_in).before + 1) * classes plan.graph i) inside in
      let whole = is_run.whole i (c + ((turn i c inside c_in).before + 1) * classes plan.graph i) start (plan.graph.hyper + plan.graph.hyper)
      (horizon i (c + ((turn i c inside c_in).before + 1) * classes plan.graph i) inside (omega (arith, r, next, high))) (omega (arith, r, low)) (omega (arith, r, d, next, high)) in
      let join = units_join run start plan.graph.hyper plan.graph.hyper i (c + ((turn i c inside c_in).before + 1) * classes plan.graph i) in
      let job : c + (turn i c inside c_in).before * classes plan.graph i + classes plan.graph i ≡ c + ((turn i c inside c_in).before + 1) * classes plan.graph i = omega arith in
      let same = units_same run start (start + plan.graph.hyper) plan.graph.hyper i (c + (turn i c inside c_in).before * classes plan.graph i)
      (c + ((turn i c inside c_in).before + 1) * classes plan.graph i) (λ u u_in.
      steady (start + u) i (c + (turn i c inside c_in).before * classes plan.graph i) (omega arith) (omega (arith, u_in)) inside
      ∙ ap (λ (v : ℕ). run v i (c + (turn i c inside c_in).before * classes plan.graph i + classes plan.graph i))
      (let e : start + u + plan.graph.hyper ≡ start + plan.graph.hyper + u = omega arith in e)
      ∙ ap (λ (v : ℕ). run (start + plan.graph.hyper + u) i v) job) in
      omega (arith, two, whole, join, same)

  pub made_is_good : (entries : List Entry) → IsCut plan run start bound entries → IsGood plan entries
  made_is_good entries cut = record {
    pieces = λ k entry at.
        (let p = (cut.piece k entry at).1 in
        let w = inside plan is until run is_run start bound steady entries cut entry (cut.piece k entry at).0 p in
        record { task = p.task; class = p.job; units = p.units; from = w.0; to = w.1 });
    whole = λ i c i_in c_in. cut.units i c i_in c_in ∙ class_units i c i_in c_in;
    apart = λ k l clash.
        (let same = apart plan is until run is_run start bound steady entries cut k l clash.one clash.other clash.a clash.b clash.first clash.second clash.overlap in
        clash.differ same.0 same.1);
    order = λ e c e_in c_in i q z comes q_in number k l one other at_k at_l.
        order plan is until run is_run start bound steady entries cut e i q c z e_in comes c_in q_in number k l one other at_k at_l;
  }
