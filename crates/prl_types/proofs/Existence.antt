-- Each program has an outcome.
use Rattle.prl_base.proofs.Standard.{◌≡◌, ◌≢◌, ◌<◌, ◌≤◌, ◌+◌, ◌++◌, ◌∙◌, ◌⊎◌, ℕ, zero, suc, List, [], ◌∷◌, length, get_or, map, arith, refl, sym, ap, subst, inl, inr, Option, Some, None, Result, Ok}
use Rattle.prl_base.proofs.Standard.{Err, get_or-append, get_or-eq_default, cases_lt, eqb_tells, append-nil, get_or-map, length-map}
use Rattle.std.proofs.lemmas.List.{append_assoc, length-append}
use Rattle.std.specs.List.{slice_get}
use Rattle.prl_base.specs.Reading.{◌>>=◌}
use Rattle.prl_base.specs.declared.values.Ty.{Ty}
use Rattle.prl_base.specs.declared.values.Ty.TheVariants as ty
use Rattle.prl_ast.specs.Trees.{ProgramTree}
use Rattle.prl_names.specs.Vocabulary.{recursive_of, names_of, refused, name_of, main_or, main_of, without_device, repeat_of, unknown_of, undefined_of}
use Rattle.prl_names.specs.declared.checks.NameFault.{NameFault}
use Rattle.prl_names.specs.declared.checks.NameFault.TheVariants as naming
use Rattle.prl_types.specs.Vocabulary.{TypeFault, arity_faults, first_at, parameters_of, count_of, rules_of, IsOutcome}
use Rattle.prl_types.specs.declared.faults.TypeFault.TheVariants as faults
use Rattle.prl_terms.specs.Vocabulary.{FitsRule, FitRules, mark_of, resolved, replaced, Solves, IsSettled, IsReplaced, IsApart, Contradicts, IsMismatch, IsFree, AreTypes}
use Rattle.prl_terms.specs.declared.terms.Rule.{Rule}
use Rattle.prl_terms.specs.declared.terms.Term.{Term}
use Rattle.prl_terms.specs.declared.terms.Term.TheVariants as terms
use Rattle.prl_terms.proofs.Ending.{AreKnown, types_are, free_is}
use Rattle.prl_types.proofs.Fitting.{rules_fit}
use Rattle.prl_terms.proofs.Meeting.{Sides, solves_equal, solves_wanted, solves_found, contradicts, apart_known, apart_both, apart_left}
use Rattle.prl_terms.proofs.Replacing.{replaced_other, settled_new}
use Rattle.prl_terms.proofs.Starting.{AreSingle, get_push_here, single_none, single_next, single_settled, single_solves}

-- marks of so many parameters that say what the rules say
record HasMarks (rules : List Rule) (count : ℕ) : Type 0 where
  pub marks : List Term
  pub long : length marks ≡ count
  pub settled : IsSettled marks
  pub solves : Solves rules marks

abbrev Singles : ℕ → Type 0
Singles count = (marks : List Term) × (lists : List (List ℕ)) × AreSingle marks lists count

next : (n : ℕ) → n + 1 ≡ suc n
next n = omega arith

singles : (count : ℕ) → Singles count
singles zero = ([], [], single_none)
singles (suc n) =
    let s = singles n in
    let more : Singles (n + 1) = (s.0 ++ terms.Parameter n ∷ [], s.1 ++ (n ∷ []) ∷ [], single_next s.0 s.1 n s.2) in
    subst Singles (next n) more

unruled : (count : ℕ) → HasMarks [] count
unruled count = let s = singles count in record {
  marks = s.0;
  long = s.2.marks_count;
  settled = single_settled s.2;
  solves = single_solves s.2;
}

-- the marks with another term in place of a parameter
replace : (a : ℕ) (by : Term) (old : List Term) → a < length old → IsReplaced a by old (map (replaced a by) old)
replace a by old inside = record { count = length-map old (replaced a by); at = at }
  where
    at : (k : ℕ) → mark_of (map (replaced a by) old) k ≡ replaced a by (mark_of old k)
    at k = elim (cases_lt k (length old)) [
      | inl lt ↦ get_or-map (replaced a by) old k (terms.Parameter k) (terms.Parameter k) lt
      | inr past ↦ let long : length (map (replaced a by) old) ≡ length old = length-map old (replaced a by) in
          get_or-eq_default (map (replaced a by) old) (terms.Parameter k) (omega arith)
          ∙ sym (replaced_other a k by (omega arith))
          ∙ sym (ap (replaced a by) (get_or-eq_default old (terms.Parameter k) past))
    ]

-- the rules and one more have marks, or the one contradicts them
abbrev Met : List Rule → ℕ → Rule → Type 0
Met rules count rule = HasMarks (rules ++ rule ∷ []) count ⊎ ((wanted : Ty) × (found : Ty) × Contradicts rules rule rule.at wanted found)

same_or_not : (t u : Ty) → (t ≡ u) ⊎ (t ≢ u)
same_or_not ty.Int ty.Int = inl refl
same_or_not ty.Int ty.Bool = inr (λ e. cc)
same_or_not ty.Bool ty.Int = inr (λ e. cc)
same_or_not ty.Bool ty.Bool = inl refl

module _ (rules : List Rule) (count : ℕ) (m : HasMarks rules count) (rule : Rule) where
  kept : Solves (rules ++ rule ∷ []) m.marks → Met rules count rule
  kept solves = inl record { marks = m.marks; long = m.long; settled = m.settled; solves = solves }

  joined : (a : ℕ) (by : Term) → IsApart a by m.marks → Solves (rules ++ rule ∷ []) (map (replaced a by) m.marks) → Met rules count rule
  joined a by apart solves = inl record {
    marks = map (replaced a by) m.marks;
    long = length-map m.marks (replaced a by) ∙ m.long;
    settled = settled_new (replace a by m.marks apart.inside) apart m.settled;
    solves = solves;
  }

  meet : FitsRule (length m.marks) rule → (wanted found : Term) → Sides m.marks rule wanted found → Met rules count rule
  meet fits (terms.Known t) (terms.Known u) s = elim (same_or_not t u) [
    | inl e ↦ kept (solves_equal s (ap (λ (x : Ty). terms.Known x) e) m.solves)
    | inr ne ↦ inr (t, u, contradicts s m.settled ne m.solves)
  ]
  meet fits (terms.Known t) (terms.Parameter a) s =
      let apart = apart_known m.settled rule.found a t fits.1 s.found_is in
      joined a (terms.Known t) apart (solves_found s apart.own (replace a (terms.Known t) m.marks apart.inside) m.solves)
  meet fits (terms.Parameter a) (terms.Known t) s =
      let apart = apart_known m.settled rule.wanted a t fits.0 s.wanted_is in
      joined a (terms.Known t) apart (solves_wanted s apart.own (replace a (terms.Known t) m.marks apart.inside) m.solves)
  meet fits (terms.Parameter a) (terms.Parameter b) s = elim (eqb_tells a b) [
    | inl e ↦ kept (solves_equal s (ap (λ (k : ℕ). terms.Parameter k) e.1) m.solves)
    | inr ne ↦
        let apart = apart_left a b (apart_both m.settled rule.wanted rule.found a b fits.0 fits.1 s.wanted_is s.found_is ne.1) in
        joined a (terms.Parameter b) apart (solves_wanted s apart.own (replace a (terms.Parameter b) m.marks apart.inside) m.solves)
  ]

-- all rules have marks, or one is the first that contradicts the earlier ones
abbrev Ruled : List Rule → ℕ → Type 0
Ruled rules count = HasMarks rules count ⊎ ((at : ℕ) × (wanted : Ty) × (found : Ty) × IsMismatch rules at wanted found)

ruled : (count : ℕ) (done rest : List Rule) → FitRules count rest → HasMarks done count → Ruled (done ++ rest) count
ruled count done [] fits m = inl (subst (λ (rules : List Rule). HasMarks rules count) (sym (append-nil done)) m)
ruled count done (rule ∷ rest) fits m =
    let fits_marks : FitsRule (length m.marks) rule = subst (λ (n : ℕ). FitsRule n rule) (sym m.long) fits.0 in
    elim (meet done count m rule fits_marks (resolved m.marks rule.wanted) (resolved m.marks rule.found) (record { wanted_is = refl; found_is = refl })) [
      | inl more ↦ subst (λ (rules : List Rule). Ruled rules count) (append_assoc done (rule ∷ []) rest) (ruled count (done ++ rule ∷ []) rest fits.1 more)
      | inr h ↦ inr (
        rule.at,
        h.0,
        h.1,
        record {
          earlier = done;
          rule = rule;
          later = rest;
          whole = refl;
          contradicts = h.2;
        },
      )
    ]

-- the first marks are types, or one of them is the first that is none
record IsOpen (marks : List Term) (k : ℕ) : Type 0 where
  pub parameter : ℕ
  pub types : List Ty
  pub inside : k < length marks
  pub known : AreKnown marks types k
  pub is : mark_of marks k ≡ terms.Parameter parameter

abbrev Known_or_open : List Term → ℕ → Type 0
Known_or_open marks n = ((types : List Ty) × AreKnown marks types n) ⊎ ((k : ℕ) × IsOpen marks k)

one_known : (marks : List Term) (n : ℕ) (types : List Ty) (t : Ty) → AreKnown marks types n → mark_of marks n ≡ terms.Known t → AreKnown marks (types ++ t ∷ []) (n + 1)
one_known marks n types t h e = record { number = length-append types (t ∷ []) ∙ ap (λ k. k + 1) h.number; known = known }
  where
    known : (k : ℕ) → k < n + 1 → mark_of marks k ≡ terms.Known (get_or (types ++ t ∷ []) k ty.Int)
    known k lt = let long : length types ≡ n = h.number in elim (cases_lt k n) [
      | inl below ↦ h.known k below ∙ sym (ap (λ (x : Ty). terms.Known x) (get_or-append types (t ∷ []) ty.Int k (omega arith)))
      | inr past ↦ let same : k ≡ n = omega arith in
          ap (mark_of marks) same ∙ e ∙ sym (ap (λ (x : Ty). terms.Known x) (get_push_here types t ty.Int k (same ∙ sym long)))
    ]

next_known : (marks : List Term) (n : ℕ) (types : List Ty) → AreKnown marks types n → n < length marks → (t : Term) → mark_of marks n ≡ t → Known_or_open marks (n + 1)
next_known marks n types h lt (terms.Known t) e = inl (types ++ t ∷ [], one_known marks n types t h e)
next_known marks n types h lt (terms.Parameter a) e = inr (n, record { parameter = a; types = types; inside = lt; known = h; is = e })

known_or_open : (marks : List Term) (n : ℕ) → n ≤ length marks → Known_or_open marks n
known_or_open marks zero le = inl ([], record { number = refl; known = λ k lt. absurd (omega arith) })
known_or_open marks (suc n) le = subst (λ (k : ℕ). Known_or_open marks k) (next n) (elim (known_or_open marks n (omega arith)) [
  | inl h ↦ next_known marks n h.0 h.1 (omega arith) (mark_of marks n) refl
  | inr open_one ↦ inr open_one
])

-- the rules leave one type to each parameter, or one is the first that is free
abbrev Typed_or_free : List Rule → ℕ → Type 0
Typed_or_free rules count = ((types : List Ty) × AreTypes rules count types) ⊎ ((k : ℕ) × (k < count) × IsFree rules k)

typed_or_free : (rules : List Rule) (count : ℕ) → HasMarks rules count → Typed_or_free rules count
typed_or_free rules count m = subst (λ (n : ℕ). Typed_or_free rules n) m.long (elim (known_or_open m.marks (length m.marks) (omega arith)) [
  | inl h ↦ inl (h.0, types_are m.marks h.0 m.settled h.1 rules m.solves)
  | inr h ↦ let o = h.1 in inr (h.0, o.inside, free_is m.marks o.types h.0 o.parameter m.settled o.known o.is rules m.solves)
])

-- want of memory is no fault of names
no_refusal : (fault : List ℕ → NameFault) → ((name : List ℕ) → fault name ≢ naming.Memory) → (name : Option (List ℕ)) → refused fault name ≢ Err naming.Memory
no_refusal fault other None e = cc
no_refusal fault other (Some name) e = let same : fault name ≡ naming.Memory = cc in other name same

no_main : (node : Option ℕ) → main_or node ≢ Err naming.Memory
no_main None e = cc
no_main (Some node) e = cc

abbrev named : ℕ → Result ℕ NameFault
named node = Ok node

no_memory_named : (node : ℕ) → named node ≢ Err naming.Memory
no_memory_named node e = cc

no_memory_after : {A B : Type 0} (r : Result A NameFault) (f : A → Result B NameFault) → r ≢ Err naming.Memory → ((a : A) → f a ≢ Err naming.Memory) → (r >>= f) ≢ Err naming.Memory
no_memory_after (Ok a) f h k e = k a e
no_memory_after (Err fault) f h k e = h (let same : fault ≡ naming.Memory = cc in ap (λ (x : NameFault). Err x) same)

-- a step of the check of names, and what comes after it
step : (fault : List ℕ → NameFault) → ((name : List ℕ) → fault name ≢ naming.Memory) → (name : Option (List ℕ)) (rest : Result ℕ NameFault) → rest ≢ Err naming.Memory
    → (refused fault name >>= λ _. rest) ≢ Err naming.Memory
step fault other name rest h = no_memory_after (refused fault name) (λ _. rest) (no_refusal fault other name) (λ _. h)

names_want_none : (p : ProgramTree) (main : Option (List ℕ)) → names_of p main ≢ Err naming.Memory
unfolding names_of
names_want_none p main =
    let last = λ (node : ℕ). refused naming.Unknown (without_device p (slice_get p.nodes node)) >>= λ _. named node in
    let by_main = main_or (main_of p main) >>= last in
    let recursive = refused naming.Recursive (recursive_of p) >>= λ _. by_main in
    let undefined = refused naming.Undefined (undefined_of p) >>= λ _. recursive in
    let unknown = refused naming.Unknown (unknown_of p) >>= λ _. undefined in
    step naming.Twice (λ n e. cc) (name_of (repeat_of p)) unknown
    (step naming.Unknown (λ n e. cc) (unknown_of p) undefined
    (step naming.Undefined (λ n e. cc) (undefined_of p) recursive
    (step naming.Recursive (λ n e. cc) (recursive_of p) by_main
    (no_memory_after (main_or (main_of p main)) last (no_main (main_of p main))
    (λ node. step naming.Unknown (λ n e. cc) (without_device p (slice_get p.nodes node)) (named node) (no_memory_named node))))))

-- what the check answers
abbrev Answer : ProgramTree → Option (List ℕ) → Type 0
Answer p main = (r : Result (ℕ × List Ty) TypeFault) × IsOutcome p main r

of_refused : (p : ProgramTree) (main : Option (List ℕ)) (fault : NameFault) → names_of p main ≡ Err fault → Answer p main
of_refused p main (naming.Twice name) e = (Err (faults.Twice name), e)
of_refused p main (naming.Unknown name) e = (Err (faults.Unknown name), e)
of_refused p main (naming.Undefined name) e = (Err (faults.Undefined name), e)
of_refused p main (naming.Recursive name) e = (Err (faults.Recursive name), e)
of_refused p main naming.NoMain e = (Err faults.NoMain, e)
of_refused p main naming.Memory e = absurd (names_want_none p main e)

module _ (p : ProgramTree) (main : Option (List ℕ)) (node : ℕ) (names : names_of p main ≡ Ok node) where
  of_types : arity_faults p ≡ [] → Typed_or_free (rules_of p) (count_of p) → Answer p main
  of_types arity (inl h) = (Ok (node, h.0), record { names = names; arity = arity; only = h.1 })
  of_types arity (inr h) =
      let owned = some_at (parameters_of p) h.0 h.1 in (
        Err (faults.TypeFree owned.0.node owned.0.param.name),
        record {
          node = node;
          names = names;
          arity = arity;
          number = h.0;
          first = h.2;
          owned = owned.0;
          is = owned.1;
          node_is = refl;
          name_is = refl;
        },
      )
    where
      some_at : {X : Type 0} (xs : List X) (k : ℕ) → k < length xs → (x : X) × (slice_get xs k ≡ Some x)
      some_at [] k lt = absurd (omega arith)
      some_at (x ∷ xs) zero lt = (x, refl)
      some_at (x ∷ xs) (suc k) lt = some_at xs k (omega arith)

  of_rules : arity_faults p ≡ [] → Ruled (rules_of p) (count_of p) → Answer p main
  of_rules arity (inl m) = of_types arity (typed_or_free (rules_of p) (count_of p) m)
  of_rules arity (inr h) = (Err (faults.Mismatch h.0 h.1 h.2), record { node = node; names = names; arity = arity; first = h.3 })

  of_arity : (ats : List ℕ) → arity_faults p ≡ ats → Answer p main
  of_arity [] e = of_rules e (ruled (count_of p) [] (rules_of p) (rules_fit p) (unruled (count_of p)))
  of_arity (at ∷ ats) e = (Err (faults.Arity at), record { node = node; names = names; first = ap first_at e })

of_names : (p : ProgramTree) (main : Option (List ℕ)) (r : Result ℕ NameFault) → names_of p main ≡ r → Answer p main
of_names p main (Ok node) e = of_arity p main node e (arity_faults p) refl
of_names p main (Err fault) e = of_refused p main fault e

pub some_outcome : (p : ProgramTree) (main : Option (List ℕ)) → (r : Result (ℕ × List Ty) TypeFault) × IsOutcome p main r
some_outcome p main = of_names p main (names_of p main) refl
