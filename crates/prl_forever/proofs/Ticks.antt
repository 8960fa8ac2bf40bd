-- The ticks of the entries of a table, by class and hyperperiod.
use Rattle.prl_base.proofs.Standard.{◌≡◌, ◌+◌, ◌*◌, ◌-◌, ◌/◌, ◌%◌, ◌&&◌, ◌<◌, ◌≤◌, ◌⊎◌, ℕ, suc, Bool, true, false, List, [], ◌∷◌, length, Some, min, inl, inr, refl, sym, ◌∙◌, ap, subst}
use Rattle.prl_base.proofs.Standard.{arith, cond, if◌then◌else◌, nat_le, nat_lt, nat_tests, slice_get, cases_lt, cases_eq, mul-le-mul_right}
use Rattle.prl_plan.specs.Vocabulary.{PlanView, IsPlan}
use Rattle.prl_overlaps.specs.Overlaps.{Clash}
use Rattle.prl_edf.specs.TimedRuns.{unit_of}
use Rattle.prl_tables.specs.Vocabulary.{Entry, classes, is_of, units_of}
use Rattle.prl_tables.proofs.Shifts.{split, below}
use Rattle.prl_forever.specs.TableRuns.{has_tick, goes_to}

-- a multiple that lies lower by one
times : (hyper s t : ℕ) → s < t → s * hyper + hyper ≤ t * hyper
times hyper s t less = (let m = mul-le-mul_right hyper (let g : s + 1 ≤ t = omega arith in g) in let e : (s + 1) * hyper ≡ s * hyper + hyper = omega arith in omega (arith, m, e))

-- two multiples with the same rest
same_times : (hyper s t a b : ℕ) → a < hyper → b < hyper → s * hyper + a ≡ t * hyper + b → s ≡ t
same_times hyper s t a b a_in b_in same = elim (cases_lt s t) [
  | inl less ↦ absurd (let m = times hyper s t less in omega (arith, m, same, a_in, b_in))
  | inr not_less ↦ elim (cases_lt t s) [
    | inl more ↦ absurd (let m = times hyper t s more in omega (arith, m, same, a_in, b_in))
    | inr not_more ↦ omega (arith, not_less, not_more)
  ]
]

-- the tick lies in the entry, moved by x hyperperiods
abbrev pub IsIn : ℕ → Entry → ℕ → ℕ → Type 0
IsIn hyper entry x t = (entry.at + x * hyper ≤ t) × (t < entry.at + x * hyper + entry.units)

abbrev pub one_in : ℕ → Entry → ℕ → ℕ → ℕ
one_in hyper entry x t = if nat_le (entry.at + x * hyper) t && nat_lt t (entry.at + x * hyper + entry.units) then 1 else 0

cases_in : (hyper : ℕ) (entry : Entry) (x t : ℕ) → (IsIn hyper entry x t × (one_in hyper entry x t ≡ 1)) ⊎ ((IsIn hyper entry x t → ⊥) × (one_in hyper entry x t ≡ 0))
cases_in hyper entry x t = elim (cases_lt t (entry.at + x * hyper)) [
  | inl before ↦ inr ((λ is. (let a = is.0 in omega (arith, a, before))), grind (arith, nat_tests, before))
  | inr from ↦ elim (cases_lt t (entry.at + x * hyper + entry.units)) [
    | inl inside ↦ inl ((from, inside), grind (arith, nat_tests, from, inside))
    | inr past ↦ inr ((λ is. (let b = is.1 in omega (arith, b, past))), grind (arith, nat_tests, past))
  ]
]

tick_is_in : (hyper : ℕ) (entry : Entry) (t : ℕ) → has_tick hyper entry t ≡ true → IsIn hyper entry ((t - entry.at) / hyper) t
tick_is_in hyper entry t is =
    let from : entry.at ≤ t = grind (arith, nat_tests, is) in
    let rest : (t - entry.at) % hyper < entry.units = grind (arith, nat_tests, is) in
    let e : t - entry.at ≡ (t - entry.at) % hyper + (t - entry.at) / hyper * hyper = omega arith in
    (omega (arith, from, e), omega (arith, from, e, rest))

in_has_tick : (hyper : ℕ) (entry : Entry) (x t : ℕ) → entry.units ≤ hyper → IsIn hyper entry x t → (has_tick hyper entry t ≡ true) × ((t - entry.at) / hyper ≡ x)
in_has_tick hyper entry x t short is =
    let a = is.0 in
    let b = is.1 in
    let some : 1 ≤ hyper = omega (arith, a, b, short) in
    let e : t - entry.at ≡ (t - entry.at) % hyper + (t - entry.at) / hyper * hyper = omega arith in
    let small : (t - entry.at) % hyper < hyper = omega (arith, some) in
    let same : (t - entry.at) / hyper ≡ x = same_times hyper ((t - entry.at) / hyper) x ((t - entry.at) % hyper) (t - (entry.at + x * hyper)) small (omega (arith, a, b, short)) (omega (arith, e, a)) in
    let by = ap (λ (v : ℕ). v * hyper) same in
    let from : entry.at ≤ t = omega (arith, a) in
    let rest : (t - entry.at) % hyper < entry.units = omega (arith, e, by, a, b) in
    (grind (arith, nat_tests, from, rest), same)

-- how many entries of a class have the tick, moved by x hyperperiods
abbrev pub hits : ℕ → List Entry → ℕ → ℕ → ℕ → ℕ → ℕ
hits hyper [] i c x t = 0
hits hyper (entry ∷ entries) i c x t = (if is_of i c entry then one_in hyper entry x t else 0) + hits hyper entries i c x t

-- how many ticks before t the class has in that hyperperiod
abbrev pub units_to : ℕ → List Entry → ℕ → ℕ → ℕ → ℕ → ℕ
units_to hyper [] i c x t = 0
units_to hyper (entry ∷ entries) i c x t = (if is_of i c entry then min entry.units (t - (entry.at + x * hyper)) else 0) + units_to hyper entries i c x t

cases_of : (i c : ℕ) (entry : Entry) → ((is_of i c entry ≡ true) × (entry.task.0 ≡ i) × (entry.job ≡ c)) ⊎ ((is_of i c entry ≡ false) × (entry.task.0 ≡ i → entry.job ≡ c → ⊥))
cases_of i c entry = elim (cases_eq entry.task.0 i) [
  | inr other ↦ inr (grind (arith, nat_tests, other), (λ same _. other same))
  | inl task ↦ elim (cases_eq entry.job c) [
    | inr other ↦ inr (grind (arith, nat_tests, other), (λ _ same. other same))
    | inl job ↦ inl (grind (arith, nat_tests, task, job), task, job)
  ]
]

one_more : (hyper : ℕ) (entry : Entry) (x t : ℕ) → min entry.units (suc t - (entry.at + x * hyper)) ≡ min entry.units (t - (entry.at + x * hyper)) + one_in hyper entry x t
one_more hyper entry x t = elim (cases_in hyper entry x t) [
  | inl is ↦ (let a = is.0.0 in let b = is.0.1 in let e = is.1 in omega (arith, a, b, e))
  | inr not ↦ (let e = not.1 in
      elim (cases_lt t (entry.at + x * hyper)) [
        | inl before ↦ omega (arith, before, e)
        | inr from ↦ elim (cases_lt t (entry.at + x * hyper + entry.units)) [
          | inl inside ↦ absurd (not.0 (from, inside))
          | inr past ↦ omega (arith, from, past, e)
        ]
      ])
]

pub units_step : (hyper : ℕ) (entries : List Entry) (i c x t : ℕ) → units_to hyper entries i c x (suc t) ≡ units_to hyper entries i c x t + hits hyper entries i c x t
units_step hyper [] i c x t = refl
units_step hyper (entry ∷ entries) i c x t =
    let rest = units_step hyper entries i c x t in
    elim (cases_of i c entry) [
      | inl is ↦ (let one = one_more hyper entry x t in
          let a = ap (λ (b : Bool). cond b (min entry.units (suc t - (entry.at + x * hyper))) 0) is.0 in
          let d = ap (λ (b : Bool). cond b (min entry.units (t - (entry.at + x * hyper))) 0) is.0 in
          let g = ap (λ (b : Bool). cond b (one_in hyper entry x t) 0) is.0 in omega (arith, rest, one, a, d, g))
      | inr not ↦ (
          let a = ap (λ (b : Bool). cond b (min entry.units (suc t - (entry.at + x * hyper))) 0) not.0 in
          let d = ap (λ (b : Bool). cond b (min entry.units (t - (entry.at + x * hyper))) 0) not.0 in
          let g = ap (λ (b : Bool). cond b (one_in hyper entry x t) 0) not.0 in omega (arith, rest, a, d, g))
    ]

pub units_none : (hyper : ℕ) (entries : List Entry) (i c x : ℕ) → units_to hyper entries i c x 0 ≡ 0
units_none hyper [] i c x = refl
units_none hyper (entry ∷ entries) i c x =
    let rest = units_none hyper entries i c x in
    elim (cases_of i c entry) [
      | inl is ↦ (let a = ap (λ (b : Bool). cond b (min entry.units (0 - (entry.at + x * hyper))) 0) is.0 in omega (arith, rest, a))
      | inr not ↦ (let a = ap (λ (b : Bool). cond b (min entry.units (0 - (entry.at + x * hyper))) 0) not.0 in omega (arith, rest, a))
    ]

pub units_most : (hyper : ℕ) (entries : List Entry) (i c x t : ℕ) → units_to hyper entries i c x t ≤ units_of entries i c
units_most hyper [] i c x t = omega arith
units_most hyper (entry ∷ entries) i c x t =
    let rest = units_most hyper entries i c x t in
    elim (cases_of i c entry) [
      | inl is ↦ (let a = ap (λ (b : Bool). cond b (min entry.units (t - (entry.at + x * hyper))) 0) is.0 in
          let g = ap (λ (b : Bool). cond b entry.units 0) is.0 in omega (arith, rest, a, g))
      | inr not ↦ (let a = ap (λ (b : Bool). cond b (min entry.units (t - (entry.at + x * hyper))) 0) not.0 in
          let g = ap (λ (b : Bool). cond b entry.units 0) not.0 in omega (arith, rest, a, g))
    ]

-- where all its entries have ended, it has had all its units
pub units_all : (hyper : ℕ) (entries : List Entry) (i c x t : ℕ) →
    ((k : ℕ) (entry : Entry) → slice_get entries k ≡ Some entry → entry.task.0 ≡ i → entry.job ≡ c → entry.at + x * hyper + entry.units ≤ t) →
    units_to hyper entries i c x t ≡ units_of entries i c
units_all hyper [] i c x t ended = refl
units_all hyper (entry ∷ entries) i c x t ended =
    let rest = units_all hyper entries i c x t (λ k other at. ended (suc k) other at) in
    elim (cases_of i c entry) [
      | inl is ↦ (let a = ap (λ (b : Bool). cond b (min entry.units (t - (entry.at + x * hyper))) 0) is.0 in
          let g = ap (λ (b : Bool). cond b entry.units 0) is.0 in
          let end = ended 0 entry refl is.1 is.2 in omega (arith, rest, a, g, end))
      | inr not ↦ (let a = ap (λ (b : Bool). cond b (min entry.units (t - (entry.at + x * hyper))) 0) not.0 in
          let g = ap (λ (b : Bool). cond b entry.units 0) not.0 in omega (arith, rest, a, g))
    ]

-- where none of its entries has begun, it has had none
pub units_early : (hyper : ℕ) (entries : List Entry) (i c x t : ℕ) →
    ((k : ℕ) (entry : Entry) → slice_get entries k ≡ Some entry → entry.task.0 ≡ i → entry.job ≡ c → t ≤ entry.at + x * hyper) →
    units_to hyper entries i c x t ≡ 0
units_early hyper [] i c x t early = refl
units_early hyper (entry ∷ entries) i c x t early =
    let rest = units_early hyper entries i c x t (λ k other at. early (suc k) other at) in
    elim (cases_of i c entry) [
      | inl is ↦ (let a = ap (λ (b : Bool). cond b (min entry.units (t - (entry.at + x * hyper))) 0) is.0 in
          let begin = early 0 entry refl is.1 is.2 in omega (arith, rest, a, begin))
      | inr not ↦ (let a = ap (λ (b : Bool). cond b (min entry.units (t - (entry.at + x * hyper))) 0) not.0 in omega (arith, rest, a))
    ]

pub hits_none : (hyper : ℕ) (entries : List Entry) (i c x t : ℕ) →
    ((k : ℕ) (entry : Entry) → slice_get entries k ≡ Some entry → entry.task.0 ≡ i → entry.job ≡ c → IsIn hyper entry x t → ⊥) →
    hits hyper entries i c x t ≡ 0
hits_none hyper [] i c x t none = refl
hits_none hyper (entry ∷ entries) i c x t none =
    let rest = hits_none hyper entries i c x t (λ k other at. none (suc k) other at) in
    elim (cases_of i c entry) [
      | inl is ↦ (let g = ap (λ (b : Bool). cond b (one_in hyper entry x t) 0) is.0 in
          elim (cases_in hyper entry x t) [
            | inl in_it ↦ absurd (none 0 entry refl is.1 is.2 in_it.0)
            | inr out ↦ (let e = out.1 in omega (arith, rest, g, e))
          ])
      | inr not ↦ (let g = ap (λ (b : Bool). cond b (one_in hyper entry x t) 0) not.0 in omega (arith, rest, g))
    ]

cases_unit : (j k i n : ℕ) → ((j ≡ i) × (k ≡ n) × (unit_of (Some (j, k)) i n ≡ 1)) ⊎ ((j ≡ i → k ≡ n → ⊥) × (unit_of (Some (j, k)) i n ≡ 0))
cases_unit j k i n = elim (cases_eq j i) [
  | inr other ↦ inr ((λ same _. other same), grind (arith, nat_tests, other))
  | inl task ↦ elim (cases_eq k n) [
    | inr other ↦ inr ((λ _ same. other same), grind (arith, nat_tests, other))
    | inl number ↦ inl (task, number, grind (arith, nat_tests, task, number))
  ]
]

module _ (plan : PlanView) (is : IsPlan plan) where
  -- each entry is of a class and no longer than a hyperperiod
  pub record IsShort (entry : Entry) : Type 0 where
    pub class : entry.job < classes plan.graph entry.task.0
    pub short : entry.units ≤ plan.graph.hyper

  abbrev pub AreAllShort : List Entry → Type 0
  AreAllShort entries = (k : ℕ) (entry : Entry) → slice_get entries k ≡ Some entry → IsShort entry

  abbrev pub NoneClash : List Entry → Type 0
  NoneClash entries = (k l : ℕ) → Clash plan.graph.hyper entries k l → ⊥

  rest_apart : (entry : Entry) (entries : List Entry) → NoneClash (entry ∷ entries) → NoneClash entries
  rest_apart entry entries apart k l clash = apart (suc k) (suc l) (record {
    one = clash.one;
    other = clash.other;
    first = clash.first;
    second = clash.second;
    a = clash.a;
    b = clash.b;
    overlap = clash.overlap;
    differ = λ same level. clash.differ (omega (arith, same)) level;
  })

  -- a tick goes to a job exactly where an entry of its class has it
  pub one_hit : (entries : List Entry) → AreAllShort entries → NoneClash entries → (t i n : ℕ) → i < length plan.graph.tasks →
      unit_of (goes_to plan.graph entries t) i n ≡ hits plan.graph.hyper entries i (n % classes plan.graph i) (n / classes plan.graph i) t
  one_hit [] short apart t i n inside = refl
  one_hit (entry ∷ entries) short apart t i n inside =
      go (one_hit entries (λ k other at. short (suc k) other at) (rest_apart entry entries apart) t i n inside) (has_tick plan.graph.hyper entry t) refl
    where
      -- the class of the job, and the hyperperiods before it
      parts : entry.task.0 ≡ i → entry.job + (t - entry.at) / plan.graph.hyper * classes plan.graph entry.task.0 ≡ n → (entry.job ≡ n % classes plan.graph i) × ((t - entry.at) / plan.graph.hyper ≡ n / classes plan.graph i)
      parts task number =
          let class : entry.job < classes plan.graph i = subst (λ (v : ℕ). entry.job < classes plan.graph v) task (short 0 entry refl).class in
          let by = ap (λ (v : ℕ). (t - entry.at) / plan.graph.hyper * classes plan.graph v) task in
          let e = split plan is i n in
          let same = same_times (classes plan.graph i) ((t - entry.at) / plan.graph.hyper) (n / classes plan.graph i) entry.job (n % classes plan.graph i) class (below plan is i n inside) (omega (arith, number, by, e)) in
          let level = ap (λ (v : ℕ). v * classes plan.graph i) same in
          (omega (arith, number, by, e, level), same)

      go : unit_of (goes_to plan.graph entries t) i n ≡ hits plan.graph.hyper entries i (n % classes plan.graph i) (n / classes plan.graph i) t →
          (b : Bool) → has_tick plan.graph.hyper entry t ≡ b →
          unit_of (goes_to plan.graph (entry ∷ entries) t) i n ≡ hits plan.graph.hyper (entry ∷ entries) i (n % classes plan.graph i) (n / classes plan.graph i) t
      go rest false not =
          let goes = ap (λ (b : Bool). unit_of (cond b (Some (entry.task.0, entry.job + (t - entry.at) / plan.graph.hyper * classes plan.graph entry.task.0)) (goes_to plan.graph entries t)) i n) not in
          let none : one_in plan.graph.hyper entry (n / classes plan.graph i) t ≡ 0 = elim (cases_in plan.graph.hyper entry (n / classes plan.graph i) t) [
            | inr out ↦ out.1
            | inl in_it ↦ absurd (let e : ◌≡◌ {A = Bool} true false = sym (in_has_tick plan.graph.hyper entry (n / classes plan.graph i) t (short 0 entry refl).short in_it.0).0 ∙ not in cc)
          ] in
          elim (cases_of i (n % classes plan.graph i) entry) [
            | inl of ↦ (let g = ap (λ (b : Bool). cond b (one_in plan.graph.hyper entry (n / classes plan.graph i) t) 0) of.0 in omega (arith, goes, rest, none, g))
            | inr other ↦ (let g = ap (λ (b : Bool). cond b (one_in plan.graph.hyper entry (n / classes plan.graph i) t) 0) other.0 in omega (arith, goes, rest, g))
          ]
      go rest true has =
          let goes = ap (λ (b : Bool). unit_of (cond b (Some (entry.task.0, entry.job + (t - entry.at) / plan.graph.hyper * classes plan.graph entry.task.0)) (goes_to plan.graph entries t)) i n) has in
          let here = tick_is_in plan.graph.hyper entry t has in
          let from = here.0 in
          let to = here.1 in
          let none = hits_none plan.graph.hyper entries i (n % classes plan.graph i) (n / classes plan.graph i) t (λ k other at task class in_it.
          (let a = in_it.0 in let b = in_it.1 in
          apart 0 (suc k) (record {
            one = entry;
            other = other;
            first = refl;
            second = at;
            a = (t - entry.at) / plan.graph.hyper;
            b = n / classes plan.graph i;
            overlap = record { starts = omega (arith, from, b); ends = omega (arith, a, to) };
            differ = λ same _. omega (arith, same);
          }))) in
          elim (cases_unit entry.task.0 (entry.job + (t - entry.at) / plan.graph.hyper * classes plan.graph entry.task.0) i n) [
            | inl this ↦
                (let unit = this.2 in
                let p = parts this.0 this.1 in
                elim (cases_of i (n % classes plan.graph i) entry) [
                  | inr other ↦ absurd (other.1 this.0 p.0)
                  | inl of ↦
                      (let g = ap (λ (b : Bool). cond b (one_in plan.graph.hyper entry (n / classes plan.graph i) t) 0) of.0 in
                      let moved = ap (λ (v : ℕ). v * plan.graph.hyper) p.1 in
                      elim (cases_in plan.graph.hyper entry (n / classes plan.graph i) t) [
                        | inr out ↦ absurd (out.0 (omega (arith, from, moved), omega (arith, to, moved)))
                        | inl in_it ↦ (let e = in_it.1 in omega (arith, goes, none, unit, g, e))
                      ])
                ])
            | inr another ↦
                (let unit = another.1 in
                elim (cases_of i (n % classes plan.graph i) entry) [
                  | inr other ↦ (let g = ap (λ (b : Bool). cond b (one_in plan.graph.hyper entry (n / classes plan.graph i) t) 0) other.0 in omega (arith, goes, none, unit, g))
                  | inl of ↦
                      (let g = ap (λ (b : Bool). cond b (one_in plan.graph.hyper entry (n / classes plan.graph i) t) 0) of.0 in
                      elim (cases_in plan.graph.hyper entry (n / classes plan.graph i) t) [
                        | inr out ↦ (let e = out.1 in omega (arith, goes, none, unit, g, e))
                        | inl in_it ↦ absurd
                            (let same = (in_has_tick plan.graph.hyper entry (n / classes plan.graph i) t (short 0 entry refl).short in_it.0).1 in
                            let level = ap (λ (v : ℕ). v * classes plan.graph i) same in
                            let by = ap (λ (v : ℕ). (t - entry.at) / plan.graph.hyper * classes plan.graph v) of.1 in
                            let class = of.2 in
                            let e = split plan is i n in
                            another.0 of.1 (omega (arith, level, by, class, e)))
                      ])
                ])
          ]
