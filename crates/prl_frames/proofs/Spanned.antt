-- The spans of classes.
use Rattle.prl_base.proofs.Standard.{◌≡◌, ◌≢◌, ◌+◌, ◌-◌, ◌<◌, ◌≤◌, ◌^◌, ◌⊎◌, ℕ, zero, suc, true, false, cond, List, [], ◌∷◌, length, get_or, set, replicate, Some, inl, inr, refl, sym, ◌∙◌, ap, subst, arith}
use Rattle.prl_base.proofs.Standard.{slice_get, min, max, cases_eq, nat_tests, get_or-replicate, length-replicate, get_or_from_slice_get, slice_get-get_or}
use Rattle.std.proofs.lemmas.List.{length-set}
use Rattle.prl_track.proofs.Places.{slice_get_set_same, slice_get_set_other}
use Rattle.prl_tables.specs.Vocabulary.{Entry, is_of}
use Rattle.prl_frames.specs.declared.spans.Span.{Span}
use Rattle.prl_frames.specs.code.Making.{no_span, span_of, with_entry, HasSpans}

pub is_yes : (i c : ℕ) (entry : Entry) → entry.task.0 ≡ i → entry.job ≡ c → is_of i c entry ≡ true
is_yes i c entry task job = grind (arith, nat_tests, task, job)

no_task : (i c : ℕ) (entry : Entry) → entry.task.0 ≢ i → is_of i c entry ≡ false
no_task i c entry other = grind (arith, nat_tests, other)

no_class : (i c : ℕ) (entry : Entry) → entry.job ≢ c → is_of i c entry ≡ false
no_class i c entry other = grind (arith, nat_tests, other)

pub cases_of : (i c : ℕ) (entry : Entry) → ((is_of i c entry ≡ true) × (entry.task.0 ≡ i) × (entry.job ≡ c)) ⊎ (is_of i c entry ≡ false)
cases_of i c entry = elim (cases_eq entry.task.0 i) [
  | inr other ↦ inr (no_task i c entry other)
  | inl task ↦ elim (cases_eq entry.job c) [
    | inr other ↦ inr (no_class i c entry other)
    | inl job ↦ inl (is_yes i c entry task job, task, job)
  ]
]

by_yes : (i c : ℕ) (entry : Entry) (entries : List Entry) → is_of i c entry ≡ true → span_of (entry ∷ entries) i c ≡ with_entry entry (span_of entries i c)
by_yes i c entry entries is = ap (λ b. cond b (with_entry entry (span_of entries i c)) (span_of entries i c)) is

by_no : (i c : ℕ) (entry : Entry) (entries : List Entry) → is_of i c entry ≡ false → span_of (entry ∷ entries) i c ≡ span_of entries i c
by_no i c entry entries is = ap (λ b. cond b (with_entry entry (span_of entries i c)) (span_of entries i c)) is

-- an entry of the task is added at its class
pub added : (i : ℕ) (entry : Entry) (xs : List Span) (d v : Span) → entry.task.0 ≡ i → entry.job < length xs → v ≡ with_entry entry (get_or xs entry.job d) →
    (entries : List Entry) → HasSpans entries i xs → HasSpans (entry ∷ entries) i (set xs entry.job v)
added i entry xs d v task inside is entries has c c_in =
    elim (cases_eq c entry.job) [
      | inl same ↦
          (let here : get_or xs entry.job d ≡ span_of entries i entry.job = get_or_from_slice_get xs entry.job (span_of entries i entry.job) d (has entry.job inside) in
          let value : v ≡ span_of (entry ∷ entries) i entry.job =
          is ∙ ap (with_entry entry) here ∙ sym (by_yes i entry.job entry entries (is_yes i entry.job entry task refl)) in
          subst (λ (k : ℕ). slice_get (set xs entry.job v) k ≡ Some (span_of (entry ∷ entries) i k)) (sym same)
          (slice_get_set_same xs entry.job v inside ∙ ap Some value))
      | inr other ↦
          slice_get_set_other xs entry.job c v other
          ∙ has c (let l = length-set xs entry.job v in omega (arith, c_in, l))
          ∙ ap Some (sym (by_no i c entry entries (no_class i c entry (λ e. other (sym e)))))
    ]

-- one of another task changes nothing
pub not_added : (i : ℕ) (entry : Entry) (xs : List Span) → entry.task.0 ≢ i → (entries : List Entry) → HasSpans entries i xs → HasSpans (entry ∷ entries) i xs
not_added i entry xs other entries has c inside = has c inside ∙ ap Some (sym (by_no i c entry entries (no_task i c entry other)))

-- spans of no entry
pub none_added : (i n : ℕ) (s : Span) → s ≡ no_span → HasSpans [] i (replicate n s)
none_added i n s is c inside =
    slice_get-get_or (replicate n s) c s inside
    ∙ ap Some (get_or-replicate n c s s (let l = length-replicate n s in omega (arith, inside, l)) ∙ is)

-- each entry of the class lies in its span
pub spanned : (entries : List Entry) (i c k : ℕ) (entry : Entry) → slice_get entries k ≡ Some entry → entry.task.0 ≡ i → entry.job ≡ c →
    ((span_of entries i c).begin ≤ entry.at) × (entry.at + entry.units ≤ (span_of entries i c).end)
spanned [] i c k entry at task job = cc
spanned (other ∷ entries) i c zero entry at task job =
    let same : other ≡ entry = (let e : Some other ≡ Some entry = at in cc e) in
    let is : is_of i c other ≡ true = subst (λ (o : Entry). is_of i c o ≡ true) (sym same) (is_yes i c entry task job) in
    let s = by_yes i c other entries is in
    let b = ap (λ (x : Span). x.begin) s in
    let e = ap (λ (x : Span). x.end) s in
    let o = ap (λ (x : Entry). x.at) same in
    let u = ap (λ (x : Entry). x.units) same in
    (omega (arith, b, o), omega (arith, e, o, u))
spanned (other ∷ entries) i c (suc k) entry at task job =
    let rest = spanned entries i c k entry at task job in
    let r = rest.0 in
    let q = rest.1 in
    elim (cases_of i c other) [
      | inl is ↦ (let s = by_yes i c other entries is.0 in
          let b = ap (λ (x : Span). x.begin) s in
          let e = ap (λ (x : Span). x.end) s in (omega (arith, b, r), omega (arith, e, q)))
      | inr not ↦ (let s = by_no i c other entries not in
          let b = ap (λ (x : Span). x.begin) s in
          let e = ap (λ (x : Span). x.end) s in (omega (arith, b, r), omega (arith, e, q)))
    ]

-- an entry of the class that begins, or ends, here
abbrev pub Begins : List Entry → ℕ → ℕ → ℕ → Type 0
Begins entries i c b = (k : ℕ) × (entry : Entry) × (slice_get entries k ≡ Some entry) × (entry.task.0 ≡ i) × (entry.job ≡ c) × (entry.at ≡ b)

abbrev pub Ends : List Entry → ℕ → ℕ → ℕ → Type 0
Ends entries i c e = (k : ℕ) × (entry : Entry) × (slice_get entries k ≡ Some entry) × (entry.task.0 ≡ i) × (entry.job ≡ c) × (entry.at + entry.units ≡ e)

pub begins : (entries : List Entry) (i c : ℕ) → ((span_of entries i c).begin ≡ 2 ^ 64 - 1) ⊎ Begins entries i c (span_of entries i c).begin
begins [] i c = inl refl
begins (other ∷ entries) i c = elim (cases_of i c other) [
  | inr not ↦ (let b = ap (λ (x : Span). x.begin) (by_no i c other entries not) in
      elim (begins entries i c) [
        | inl none ↦ inl (b ∙ none)
        | inr some ↦ inr (suc some.0, some.1, some.2, some.3, some.4, some.5 ∙ sym b)
      ])
  | inl is ↦ (let b = ap (λ (x : Span). x.begin) (by_yes i c other entries is.0) in
      elim (cases_min other.at (span_of entries i c).begin) [
        | inl this ↦ inr (0, other, refl, is.1, is.2, sym (b ∙ this))
        | inr that ↦ elim (begins entries i c) [
          | inl none ↦ inl (b ∙ that ∙ none)
          | inr some ↦ inr (suc some.0, some.1, some.2, some.3, some.4, some.5 ∙ sym (b ∙ that))
        ]
      ])
]
  where
    cases_min : (a b : ℕ) → (min a b ≡ a) ⊎ (min a b ≡ b)
    cases_min a b = elim (cases_eq (min a b) a) [ inl same ↦ inl same | inr other ↦ inr (omega (arith, other)) ]

pub ends : (entries : List Entry) (i c : ℕ) → ((span_of entries i c).end ≡ 0) ⊎ Ends entries i c (span_of entries i c).end
ends [] i c = inl refl
ends (other ∷ entries) i c = elim (cases_of i c other) [
  | inr not ↦ (let b = ap (λ (x : Span). x.end) (by_no i c other entries not) in
      elim (ends entries i c) [
        | inl none ↦ inl (b ∙ none)
        | inr some ↦ inr (suc some.0, some.1, some.2, some.3, some.4, some.5 ∙ sym b)
      ])
  | inl is ↦ (let b = ap (λ (x : Span). x.end) (by_yes i c other entries is.0) in
      elim (cases_max (other.at + other.units) (span_of entries i c).end) [
        | inl this ↦ inr (0, other, refl, is.1, is.2, sym (b ∙ this))
        | inr that ↦ elim (ends entries i c) [
          | inl none ↦ inl (b ∙ that ∙ none)
          | inr some ↦ inr (suc some.0, some.1, some.2, some.3, some.4, some.5 ∙ sym (b ∙ that))
        ]
      ])
]
  where
    cases_max : (a b : ℕ) → (max a b ≡ a) ⊎ (max a b ≡ b)
    cases_max a b = elim (cases_eq (max a b) a) [ inl same ↦ inl same | inr other ↦ inr (omega (arith, other)) ]
