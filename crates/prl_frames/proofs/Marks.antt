-- The first and the last slot of a job.
use Rattle.prl_base.proofs.Standard.{◌≡◌, ◌≢◌, ◌+◌, ◌*◌, ◌-◌, ◌/◌, ◌<◌, ◌≤◌, ◌^◌, ℕ, zero, suc, Bool, true, false, List, [], ◌∷◌, Option, Some, None, inl, inr, refl, sym, ◌∙◌, ap, subst, arith, cond, nat_tests, slice_get, cases_Bool}
use Rattle.prl_base.proofs.Standard.{OnFalse, OnTrue, OnFalse_from}
use Rattle.std.proofs.lemmas.Bool.{OnTrue_from}
use Rattle.prl_plan.specs.declared.graphs.TaskGraph.{TaskGraph}
use Rattle.prl_tables.specs.Vocabulary.{Entry, classes}
use Rattle.prl_forever.specs.TableRuns.{goes_to}
use Rattle.prl_forever.specs.TableRuns as tables
use Rattle.prl_frames.specs.declared.slots.Slot.{Slot}
use Rattle.prl_frames.specs.declared.spans.Span.{Span}
use Rattle.prl_frames.specs.Frames.{first_tick, IsMarked, IsNotBegun, IsOver}
use Rattle.prl_frames.specs.code.Making.{joined, slot_of, span_of}
use Rattle.prl_frames.proofs.Spanned.{begins, ends, spanned}
use Rattle.prl_frames.proofs.Ticks.{entry_is_in, in_entry}
use Rattle.prl_frames.proofs.Places.{NoneClash, rest_apart, AreShort, IsWithin}
use Rattle.prl_frames.proofs.Joins.{GoesOn}

abbrev the_job : ℕ → ℕ → Option (ℕ × ℕ)
the_job i n = Some (i, n)

-- no tick from this one on goes to the job
abbrev over : (ℕ → Option (ℕ × ℕ)) → ℕ → ℕ → ℕ → Type 0
over run i n tick = (t : ℕ) → tick ≤ t → run t ≡ Some (i, n) → ⊥

task_of : Option (ℕ × ℕ) → ℕ
task_of None = 0
task_of (Some job) = job.0

number_of : Option (ℕ × ℕ) → ℕ
number_of None = 0
number_of (Some job) = job.1

module _ (graph : TaskGraph) (some : 1 ≤ graph.hyper) where
  -- what an entry gives a tick to
  abbrev entry_job : Entry → ℕ → ℕ × ℕ
  entry_job entry t = (entry.task.0, entry.job + (t - entry.at) / graph.hyper * classes graph entry.task.0)

  by_entry : (entry : Entry) (entries : List Entry) (t : ℕ) (b : Bool) → tables.has_tick graph.hyper entry t ≡ b →
      goes_to graph (entry ∷ entries) t ≡ cond b (Some (entry_job entry t)) (goes_to graph entries t)
  by_entry entry entries t b is = ap (λ (x : Bool). cond x (Some (entry_job entry t)) (goes_to graph entries t)) is

  -- the ticks of an entry in the first hyperperiod go to its job
  entry_hit : (entries : List Entry) → AreShort graph.hyper some entries → NoneClash graph.hyper some entries → (k : ℕ) (entry : Entry) → slice_get entries k ≡ Some entry →
      (t : ℕ) → entry.at ≤ t → t < entry.at + entry.units → goes_to graph entries t ≡ Some (entry.task.0, entry.job)
  entry_hit [] short apart k entry at t low high = cc
  entry_hit (other ∷ entries) short apart zero entry at t low high =
      let same : other ≡ entry = (let e : Some other ≡ Some entry = at in cc e) in
      let units : entry.units ≤ graph.hyper = (short 0 entry at).1 in
      let z : 0 * graph.hyper ≡ 0 = omega arith in
      let has = in_entry graph.hyper entry 0 t units (omega (arith, low, z), omega (arith, high, z)) in
      let by = ap (λ (v : ℕ). v * classes graph entry.task.0) has.1 in
      let z2 : 0 * classes graph entry.task.0 ≡ 0 = omega arith in
      let number : entry.job + (t - entry.at) / graph.hyper * classes graph entry.task.0 ≡ entry.job = omega (arith, by, z2) in
      subst (λ (e : Entry). goes_to graph (e ∷ entries) t ≡ Some (entry.task.0, entry.job)) (sym same)
      (by_entry entry entries t true has.0 ∙ ap (λ (n : ℕ). the_job entry.task.0 n) number)
  entry_hit (other ∷ entries) short apart (suc k) entry at t low high = elim (cases_Bool (tables.has_tick graph.hyper other t)) [
    | inr not ↦
        by_entry other entries t false not
        ∙ entry_hit entries (λ p one at_p. short (suc p) one at_p) (rest_apart graph.hyper some other entries apart) k entry at t low high
    | inl has ↦ absurd
        (let here = entry_is_in graph.hyper other t has in
        let from = here.0 in
        let to = here.1 in
        let z : 0 * graph.hyper ≡ 0 = omega arith in
        apart 0 (suc k) (record {
          one = other;
          other = entry;
          first = refl;
          second = at;
          a = (t - other.at) / graph.hyper;
          b = 0;
          overlap = record { starts = omega (arith, from, high, z); ends = omega (arith, low, to, z) };
          differ = λ same _. omega (arith, same);
        }))
  ]

  -- a tick that goes to a class lies in its span
  in_span : (entries : List Entry) → ((k : ℕ) (entry : Entry) → slice_get entries k ≡ Some entry → entry.job < classes graph entry.task.0) → (i c t : ℕ) → c < classes graph i →
      goes_to graph entries t ≡ Some (i, c) → (k : ℕ) × (entry : Entry) × (slice_get entries k ≡ Some entry) × (entry.task.0 ≡ i) × (entry.job ≡ c) × (entry.at ≤ t) × (t < entry.at + entry.units)
  unfolding task_of number_of
  in_span [] class i c t inside goes = (let e : ◌≡◌ {A = Option (ℕ × ℕ)} None (Some (i, c)) = goes in cc)
  in_span (entry ∷ entries) class i c t inside goes = elim (cases_Bool (tables.has_tick graph.hyper entry t)) [
    | inr not ↦
        (let rest = in_span entries (λ k other at. class (suc k) other at) i c t inside (sym (by_entry entry entries t false not) ∙ goes) in
        (suc rest.0, rest.1, rest.2, rest.3, rest.4, rest.5, rest.6))
    | inl has ↦
        (let here = entry_is_in graph.hyper entry t has in
        let from = here.0 in
        let to = here.1 in
        let e : Some (entry_job entry t) ≡ Some (i, c) = sym (by_entry entry entries t true has) ∙ goes in
        let task : entry.task.0 ≡ i = ap task_of e in
        let number : entry.job + (t - entry.at) / graph.hyper * classes graph entry.task.0 ≡ c = ap number_of e in
        let same = ap (λ (x : ℕ). classes graph x) task in
        let level : (t - entry.at) / graph.hyper ≡ 0 = first_one ((t - entry.at) / graph.hyper) (classes graph entry.task.0) entry.job c number (omega (arith, inside, same)) in
        let by = ap (λ (v : ℕ). v * classes graph entry.task.0) level in
        let z : 0 * classes graph entry.task.0 ≡ 0 = omega arith in
        let hy = ap (λ (v : ℕ). v * graph.hyper) level in
        let z2 : 0 * graph.hyper ≡ 0 = omega arith in
        (0, entry, refl, task, omega (arith, number, by, z), omega (arith, from, hy, z2), omega (arith, to, hy, z2)))
  ]
    where
      first_one : (y per job c : ℕ) → job + y * per ≡ c → c < per → y ≡ 0
      first_one zero per job c is few = refl
      first_one (suc y) per job c is few = absurd (let e : suc y * per ≡ y * per + per = omega arith in omega (arith, is, few, e))

  module _ (entries : List Entry) (short : AreShort graph.hyper some entries) (apart : NoneClash graph.hyper some entries)
      (class : (k : ℕ) (entry : Entry) → slice_get entries k ≡ Some entry → entry.job < classes graph entry.task.0)
      (early : (k : ℕ) (entry : Entry) → slice_get entries k ≡ Some entry → entry.at + entry.units < 2 ^ 33) where
    module _ (k : ℕ) (entry : Entry) (at : slice_get entries k ≡ Some entry) (a b : ℕ) (within : IsWithin entry a b) (order : a < b) where
      abbrev slot : Slot
      slot = slot_of graph.hyper (span_of entries entry.task.0 entry.job) entry a b

      abbrev span : Span
      span = span_of entries entry.task.0 entry.job

      tick_is : first_tick graph.hyper slot ≡ a
      tick_is = omega arith

      past_is : first_tick graph.hyper slot + slot.units ≡ b
      past_is = (let t = tick_is in let o = order in omega (arith, t, o))

      low : (span.begin ≤ a) × (b ≤ span.end)
      low = (let s = spanned entries entry.task.0 entry.job k entry at refl refl in let l = s.0 in let h = s.1 in let w0 = within.0 in let w2 = within.2 in (omega (arith, l, w0), omega (arith, h, w2)))

      is_first : a ≡ span.begin → IsNotBegun (goes_to graph entries) slot (first_tick graph.hyper slot)
      is_first begin t before goes =
          let s = in_span entries class entry.task.0 entry.job t (class k entry at) goes in
          let w = spanned entries entry.task.0 entry.job s.0 s.1 s.2 s.3 s.4 in
          let l = w.0 in
          let h = s.5 in
          let e = tick_is in omega (arith, l, h, before, begin, e)

      is_later : a ≢ span.begin → IsNotBegun (goes_to graph entries) slot (first_tick graph.hyper slot) → ⊥
      is_later other none = elim (begins entries entry.task.0 entry.job) [
        | inl no_entry ↦ (let l = low.0 in let o = order in let w2 = within.2 in let e = early k entry at in omega (arith, l, no_entry, w2, e, o))
        | inr some_entry ↦
            (let is = some_entry.5 in
            let l = low.0 in
            let e = tick_is in
            let units = (short some_entry.0 some_entry.1 some_entry.2).0 in
            let goes = entry_hit entries short apart some_entry.0 some_entry.1 some_entry.2 some_entry.1.at (omega arith) (omega (arith, units)) in
            none some_entry.1.at (omega (arith, is, l, other, e)) (goes ∙ ap (λ (x : ℕ). the_job x some_entry.1.job) some_entry.3 ∙ ap (λ (x : ℕ). the_job entry.task.0 x) some_entry.4))
      ]

      is_last : b ≡ span.end → IsOver (goes_to graph entries) slot (first_tick graph.hyper slot + slot.units)
      is_last end t past goes =
          let s = in_span entries class entry.task.0 entry.job t (class k entry at) goes in
          let w = spanned entries entry.task.0 entry.job s.0 s.1 s.2 s.3 s.4 in
          let l = w.1 in
          let h = s.6 in
          let e = past_is in omega (arith, l, h, past, end, e)

      is_earlier : b ≢ span.end → IsOver (goes_to graph entries) slot (first_tick graph.hyper slot + slot.units) → ⊥
      is_earlier other none = elim (ends entries entry.task.0 entry.job) [
        | inl no_entry ↦ (let l = low.1 in let o = order in omega (arith, l, no_entry, o))
        | inr some_entry ↦
            (let is = some_entry.5 in
            let l = low.1 in
            let e = past_is in
            let units = (short some_entry.0 some_entry.1 some_entry.2).0 in
            let goes = entry_hit entries short apart some_entry.0 some_entry.1 some_entry.2 (some_entry.1.at + some_entry.1.units - 1) (omega (arith, units)) (omega (arith, units)) in
            none (some_entry.1.at + some_entry.1.units - 1) (omega (arith, is, l, other, e, units)) (goes ∙ ap (λ (x : ℕ). the_job x some_entry.1.job) some_entry.3 ∙ ap (λ (x : ℕ). the_job entry.task.0 x) some_entry.4))
      ]

      pub slot_is_marked : IsMarked (goes_to graph entries) graph.hyper slot
      slot_is_marked = record {
        first = OnTrue_from slot.first (IsNotBegun (goes_to graph entries) slot (first_tick graph.hyper slot)) (λ is. is_first (grind (arith, nat_tests, is)));
        later = OnFalse_from slot.first (IsNotBegun (goes_to graph entries) slot (first_tick graph.hyper slot) → ⊥) (λ is. is_later (λ same. absurd (grind (arith, nat_tests, is, same))));
        last = OnTrue_from slot.last (IsOver (goes_to graph entries) slot (first_tick graph.hyper slot + slot.units)) (λ is. is_last (grind (arith, nat_tests, is)));
        earlier = OnFalse_from slot.last (IsOver (goes_to graph entries) slot (first_tick graph.hyper slot + slot.units) → ⊥) (λ is. is_earlier (λ same. absurd (grind (arith, nat_tests, is, same))));
      }

-- a joined slot begins as the one and ends as the other
pub marks_join : (run : ℕ → Option (ℕ × ℕ)) (hyper : ℕ) (one next : Slot) → GoesOn one next → IsMarked run hyper one → IsMarked run hyper next → IsMarked run hyper (joined one next)
marks_join run hyper one next on first second =
    let at = on.at in
    let from = ap (λ (x : ℕ). x * hyper) on.from in
    let past : first_tick hyper next + next.units ≡ first_tick hyper one + (one.units + next.units) = omega (arith, at, from) in
    let same : IsOver run next (first_tick hyper next + next.units) ≡ IsOver run (joined one next) (first_tick hyper one + (one.units + next.units)) =
    ap (λ (x : ℕ). over run next.task.0 next.job x) past ∙ ap (λ (x : ℕ). over run x next.job (first_tick hyper one + (one.units + next.units))) (sym on.task)
    ∙ ap (λ (x : ℕ). over run one.task.0 x (first_tick hyper one + (one.units + next.units))) (sym on.job) in
    record {
      first = first.first;
      later = first.later;
      last = subst (λ (P : Type 0). OnTrue next.last P) same second.last;
      earlier = subst (λ (P : Type 0). OnFalse next.last (P → ⊥)) same second.earlier;
    }
