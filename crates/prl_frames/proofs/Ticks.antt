-- The ticks of entries, and those of the slots that they are cut into.
use Rattle.prl_base.proofs.Standard.{◌≡◌, ◌+◌, ◌*◌, ◌-◌, ◌/◌, ◌%◌, ◌<◌, ◌≤◌, ℕ, suc, Bool, true, false, List, [], ◌∷◌, ◌++◌, Option, Some, inl, inr, refl, sym, ◌∙◌, ap}
use Rattle.prl_base.proofs.Standard.{arith, cond, nat_le, nat_tests, slice_get, cases_lt, cases_Bool, mul-le-mul_right}
use Rattle.prl_plan.specs.declared.graphs.TaskGraph.{TaskGraph}
use Rattle.prl_tables.specs.Vocabulary.{Entry, classes}
use Rattle.prl_forever.specs.TableRuns.{goes_to}
use Rattle.prl_forever.specs.TableRuns as tables
use Rattle.prl_frames.specs.declared.slots.Slot.{Slot}
use Rattle.prl_frames.specs.declared.spans.Span.{Span}
use Rattle.prl_frames.specs.Frames.{goes_by, has_tick, job_at}
use Rattle.prl_frames.specs.code.Making.{cut, cut_all, edge_after, slot_of, span_of}

-- a multiple that lies lower by one
times : (hyper s t : ℕ) → s < t → s * hyper + hyper ≤ t * hyper
times hyper s t less = (let m = mul-le-mul_right hyper (let g : s + 1 ≤ t = omega arith in g) in let e : (s + 1) * hyper ≡ s * hyper + hyper = omega arith in omega (arith, m, e))

-- two multiples with the same rest
same_times : (hyper s t a b : ℕ) → a < hyper → b < hyper → s * hyper + a ≡ t * hyper + b → s ≡ t
same_times hyper s t a b a_in b_in same = elim (cases_lt s t) [
  | inl less ↦ absurd (let m = times hyper s t less in omega (arith, m, same, a_in, b_in))
  | inr not_less ↦ elim (cases_lt t s) [
    | inl more ↦ absurd (let m = times hyper t s more in omega (arith, m, same, a_in, b_in))
    | inr not_more ↦ omega (arith, not_less, not_more)
  ]
]

-- the tick is one of those from a up to b, moved by y hyperperiods
abbrev pub IsIn : ℕ → ℕ → ℕ → ℕ → ℕ → Type 0
IsIn hyper a b y t = (a + y * hyper ≤ t) × (t < b + y * hyper)

pub entry_is_in : (hyper : ℕ) (entry : Entry) (t : ℕ) → tables.has_tick hyper entry t ≡ true → IsIn hyper entry.at (entry.at + entry.units) ((t - entry.at) / hyper) t
entry_is_in hyper entry t is =
    let from : entry.at ≤ t = grind (arith, nat_tests, is) in
    let rest : (t - entry.at) % hyper < entry.units = grind (arith, nat_tests, is) in
    let e : t - entry.at ≡ (t - entry.at) % hyper + (t - entry.at) / hyper * hyper = omega arith in
    (omega (arith, from, e), omega (arith, from, e, rest))

pub in_entry : (hyper : ℕ) (entry : Entry) (y t : ℕ) → entry.units ≤ hyper → IsIn hyper entry.at (entry.at + entry.units) y t →
    (tables.has_tick hyper entry t ≡ true) × ((t - entry.at) / hyper ≡ y)
in_entry hyper entry y t short is =
    let a = is.0 in
    let b = is.1 in
    let some : 1 ≤ hyper = omega (arith, a, b, short) in
    let e : t - entry.at ≡ (t - entry.at) % hyper + (t - entry.at) / hyper * hyper = omega arith in
    let small : (t - entry.at) % hyper < hyper = omega (arith, some) in
    let same : (t - entry.at) / hyper ≡ y = same_times hyper ((t - entry.at) / hyper) y ((t - entry.at) % hyper) (t - (entry.at + y * hyper)) small (omega (arith, a, b, short)) (omega (arith, e, a)) in
    let by = ap (λ (v : ℕ). v * hyper) same in
    let from : entry.at ≤ t = omega (arith, a) in
    let rest : (t - entry.at) % hyper < entry.units = omega (arith, e, by, a, b) in
    (grind (arith, nat_tests, from, rest), same)

module _ (hyper : ℕ) (some : 1 ≤ hyper) where
  pub edge_is : (a : ℕ) → (edge_after hyper a ≡ a / hyper * hyper + hyper) × (a < edge_after hyper a) × (edge_after hyper a ≤ a + hyper)
  edge_is a =
      let e : (a / hyper + 1) * hyper ≡ a / hyper * hyper + hyper = omega arith in
      let s : a ≡ a % hyper + a / hyper * hyper = omega arith in
      let r : a % hyper < hyper = omega (arith, some) in
      (e, omega (arith, e, s, r), omega (arith, e, s))

  -- at the end of a hyperperiod the next one begins
  pub edge_parts : (a : ℕ) → (edge_after hyper a / hyper ≡ a / hyper + 1) × (edge_after hyper a % hyper ≡ 0)
  edge_parts a =
      let b = edge_after hyper a in
      let s : edge_after hyper a ≡ edge_after hyper a % hyper + edge_after hyper a / hyper * hyper = omega arith in
      let r : edge_after hyper a % hyper < hyper = omega (arith, some) in
      let same : edge_after hyper a / hyper ≡ a / hyper + 1 = same_times hyper (edge_after hyper a / hyper) (a / hyper + 1) (edge_after hyper a % hyper) 0 r (omega (arith, some)) (omega (arith, s)) in
      let by = ap (λ (v : ℕ). v * hyper) same in
      (same, omega (arith, s, by))

  module _ (span : Span) (entry : Entry) (a b : ℕ) (order : a ≤ b) where
    pub slot_is_in : (t : ℕ) → has_tick hyper (slot_of hyper span entry a b) t ≡ true → IsIn hyper a b (t / hyper - a / hyper) t
    slot_is_in t is =
        let late : a / hyper ≤ t / hyper = grind (arith, nat_tests, is) in
        let from : a % hyper ≤ t % hyper = grind (arith, nat_tests, is) in
        let rest : t % hyper < a % hyper + (b - a) = grind (arith, nat_tests, is) in
        let ea : a ≡ a % hyper + a / hyper * hyper = omega arith in
        let et : t ≡ t % hyper + t / hyper * hyper = omega arith in
        let whole : a / hyper + (t / hyper - a / hyper) ≡ t / hyper = omega (arith, late) in
        let by = ap (λ (v : ℕ). v * hyper) whole in
        let sum : (a / hyper + (t / hyper - a / hyper)) * hyper ≡ a / hyper * hyper + (t / hyper - a / hyper) * hyper = omega arith in
        (omega (arith, from, ea, et, by, sum), omega (arith, rest, ea, et, by, sum, order))

    pub in_slot : (y t : ℕ) → b ≤ edge_after hyper a → IsIn hyper a b y t → has_tick hyper (slot_of hyper span entry a b) t ≡ true
    in_slot y t within is =
        let p = is.0 in
        let q = is.1 in
        let ea : a ≡ a % hyper + a / hyper * hyper = omega arith in
        let et : t ≡ t % hyper + t / hyper * hyper = omega arith in
        let small : t % hyper < hyper = omega (arith, some) in
        let edge = (edge_is a).0 in
        let sum : (a / hyper + y) * hyper ≡ a / hyper * hyper + y * hyper = omega arith in
        let same : t / hyper ≡ a / hyper + y = same_times hyper (t / hyper) (a / hyper + y) (t % hyper) (t - (a / hyper + y) * hyper) small (omega (arith, q, within, edge, sum, p, ea)) (omega (arith, et, p, sum, ea)) in
        let by = ap (λ (v : ℕ). v * hyper) same in
        let late : a / hyper ≤ t / hyper = omega (arith, same) in
        let from : a % hyper ≤ t % hyper = omega (arith, et, by, sum, ea, p) in
        let rest : t % hyper < a % hyper + (b - a) = omega (arith, et, by, sum, ea, q, order) in
        grind (arith, nat_tests, late, from, rest)

  -- what a slot of an entry has, the entry has, in the same hyperperiod
  pub from_slot : (span : Span) (entry : Entry) (a b t : ℕ) → entry.units ≤ hyper → entry.at ≤ a → a ≤ b → b ≤ entry.at + entry.units →
      has_tick hyper (slot_of hyper span entry a b) t ≡ true →
      (tables.has_tick hyper entry t ≡ true) × ((t - entry.at) / hyper ≡ t / hyper - a / hyper)
  from_slot span entry a b t short low order high has =
      let here = slot_is_in span entry a b order t has in
      let p = here.0 in
      let q = here.1 in
      in_entry hyper entry (t / hyper - a / hyper) t short (omega (arith, p, low), omega (arith, q, high))

module _ (graph : TaskGraph) (some : 1 ≤ graph.hyper) (t : ℕ) where
  -- what an entry gives a tick to
  abbrev entry_job : Entry → ℕ × ℕ
  entry_job entry = (entry.task.0, entry.job + (t - entry.at) / graph.hyper * classes graph entry.task.0)

  by_slot : (slot : Slot) (rest : List Slot) (b : Bool) → has_tick graph.hyper slot t ≡ b → goes_by graph (slot ∷ rest) t ≡ cond b (Some (job_at graph slot t)) (goes_by graph rest t)
  by_slot slot rest b is = ap (λ (x : Bool). cond x (Some (job_at graph slot t)) (goes_by graph rest t)) is

  by_entry : (entry : Entry) (o : Option (ℕ × ℕ)) (b : Bool) → tables.has_tick graph.hyper entry t ≡ b →
      cond (tables.has_tick graph.hyper entry t) (Some (entry_job entry)) o ≡ cond b (Some (entry_job entry)) o
  by_entry entry o b is = ap (λ (x : Bool). cond x (Some (entry_job entry)) o) is

  abbrev the_job : Entry → ℕ → Option (ℕ × ℕ)
  the_job entry x = Some (entry.task.0, entry.job + x * classes graph entry.task.0)

  same_job : (entry : Entry) (y z : ℕ) → z ≡ y →
      ◌≡◌ {A = Option (ℕ × ℕ)} (Some (entry.task.0, entry.job + y * classes graph entry.task.0)) (Some (entry.task.0, entry.job + z * classes graph entry.task.0))
  same_job entry y z same = ap (λ (x : ℕ). the_job entry x) (sym same)

  module _ (span : Span) (entry : Entry) (short : entry.units ≤ graph.hyper) (rest : List Slot) where
    -- the whole entry is one slot
    one_slot : entry.at + entry.units ≤ edge_after graph.hyper entry.at →
        goes_by graph (slot_of graph.hyper span entry entry.at (entry.at + entry.units) ∷ rest) t ≡ cond (tables.has_tick graph.hyper entry t) (Some (entry_job entry)) (goes_by graph rest t)
    one_slot within =
        let slot = slot_of graph.hyper span entry entry.at (entry.at + entry.units) in
        elim (cases_Bool (has_tick graph.hyper slot t)) [
          | inl has ↦
              (let f = from_slot graph.hyper some span entry entry.at (entry.at + entry.units) t short (omega arith) (omega arith) (omega arith) has in
              by_slot slot rest true has ∙ same_job entry (t / graph.hyper - entry.at / graph.hyper) ((t - entry.at) / graph.hyper) f.1 ∙ sym (by_entry entry (goes_by graph rest t) true f.0))
          | inr no_one ↦ elim (cases_Bool (tables.has_tick graph.hyper entry t)) [
            | inl has ↦ absurd
                (let here = entry_is_in graph.hyper entry t has in
                let slot_has = in_slot graph.hyper some span entry entry.at (entry.at + entry.units) (omega arith) ((t - entry.at) / graph.hyper) t within here in
                let e : ◌≡◌ {A = Bool} true false = sym slot_has ∙ no_one in cc)
            | inr not ↦ by_slot slot rest false no_one ∙ sym (by_entry entry (goes_by graph rest t) false not)
          ]
        ]

    -- it is two
    two_slots : edge_after graph.hyper entry.at < entry.at + entry.units →
        goes_by graph (slot_of graph.hyper span entry entry.at (edge_after graph.hyper entry.at) ∷ slot_of graph.hyper span entry (edge_after graph.hyper entry.at) (entry.at + entry.units) ∷ rest) t
        ≡ cond (tables.has_tick graph.hyper entry t) (Some (entry_job entry)) (goes_by graph rest t)
    two_slots past =
        let edge = edge_after graph.hyper entry.at in
        let one = slot_of graph.hyper span entry entry.at edge in
        let two = slot_of graph.hyper span entry edge (entry.at + entry.units) in
        let e = edge_is graph.hyper some entry.at in
        let e1 = e.1 in
        let n = edge_is graph.hyper some edge in
        let n0 = n.0 in
        let p = edge_parts graph.hyper some entry.at in
        let by = ap (λ (v : ℕ). v * graph.hyper) p.0 in
        let e0 = e.0 in
        let more : (entry.at / graph.hyper + 1) * graph.hyper ≡ entry.at / graph.hyper * graph.hyper + graph.hyper = omega arith in
        let end : entry.at + entry.units ≤ edge_after graph.hyper edge = omega (arith, n0, by, more, e0, short, e1) in
        elim (cases_Bool (has_tick graph.hyper one t)) [
          | inl has ↦
              (let f = from_slot graph.hyper some span entry entry.at edge t short (omega arith) (omega (arith, e1)) (omega (arith, past)) has in
              by_slot one (two ∷ rest) true has ∙ same_job entry (t / graph.hyper - entry.at / graph.hyper) ((t - entry.at) / graph.hyper) f.1 ∙ sym (by_entry entry (goes_by graph rest t) true f.0))
          | inr no_one ↦ by_slot one (two ∷ rest) false no_one ∙ elim (cases_Bool (has_tick graph.hyper two t)) [
            | inl has ↦
                (let f = from_slot graph.hyper some span entry edge (entry.at + entry.units) t short (omega (arith, e1)) (omega (arith, past)) (omega arith) has in
                by_slot two rest true has ∙ same_job entry (t / graph.hyper - edge / graph.hyper) ((t - entry.at) / graph.hyper) f.1 ∙ sym (by_entry entry (goes_by graph rest t) true f.0))
            | inr no_two ↦ elim (cases_Bool (tables.has_tick graph.hyper entry t)) [
              | inr not ↦ by_slot two rest false no_two ∙ sym (by_entry entry (goes_by graph rest t) false not)
              | inl has ↦ absurd
                  (let here = entry_is_in graph.hyper entry t has in
                  let h0 = here.0 in
                  let h1 = here.1 in
                  let y = (t - entry.at) / graph.hyper in
                  elim (cases_lt t (edge + y * graph.hyper)) [
                    | inl first ↦
                        (let slot_has = in_slot graph.hyper some span entry entry.at edge (omega (arith, e1)) y t (omega arith) (h0, first) in
                        let c : ◌≡◌ {A = Bool} true false = sym slot_has ∙ no_one in cc)
                    | inr second ↦
                        (let slot_has = in_slot graph.hyper some span entry edge (entry.at + entry.units) (omega (arith, past)) y t end (second, h1) in
                        let c : ◌≡◌ {A = Bool} true false = sym slot_has ∙ no_two in cc)
                  ])
            ]
          ]
        ]

    goes_cut : goes_by graph (cut graph.hyper span entry ++ rest) t ≡ cond (tables.has_tick graph.hyper entry t) (Some (entry_job entry)) (goes_by graph rest t)
    goes_cut =
        let whole = slot_of graph.hyper span entry entry.at (entry.at + entry.units) ∷ [] in
        let parts = slot_of graph.hyper span entry entry.at (edge_after graph.hyper entry.at) ∷ slot_of graph.hyper span entry (edge_after graph.hyper entry.at) (entry.at + entry.units) ∷ [] in
        elim (cases_lt (edge_after graph.hyper entry.at) (entry.at + entry.units)) [
          | inl past ↦
              (let test : nat_le (entry.at + entry.units) (edge_after graph.hyper entry.at) ≡ false = grind (arith, nat_tests, past) in
              ap (λ (b : Bool). goes_by graph (cond b whole parts ++ rest) t) test ∙ two_slots past)
          | inr within ↦
              (let test : nat_le (entry.at + entry.units) (edge_after graph.hyper entry.at) ≡ true = grind (arith, nat_tests, within) in
              ap (λ (b : Bool). goes_by graph (cond b whole parts ++ rest) t) test ∙ one_slot within)
        ]

  -- by the slots of the entries each tick goes to what it goes to by the entries
  pub goes_all : (table entries : List Entry) → ((k : ℕ) (entry : Entry) → slice_get entries k ≡ Some entry → entry.units ≤ graph.hyper) →
      goes_by graph (cut_all graph.hyper table entries) t ≡ goes_to graph entries t
  goes_all table [] short = refl
  goes_all table (entry ∷ entries) short =
      goes_cut (span_of table entry.task.0 entry.job) entry (short 0 entry refl) (cut_all graph.hyper table entries)
      ∙ ap (λ (o : Option (ℕ × ℕ)). cond (tables.has_tick graph.hyper entry t) (Some (entry_job entry)) o) (goes_all table entries (λ k other at. short (suc k) other at))
