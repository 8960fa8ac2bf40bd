-- Groups of flows that are filled together, and what is left then.
use Rattle.prl_base.proofs.Standard.{◌≡◌, ◌≢◌, ◌+◌, ◌<◌, ◌≤◌, inl, inr, ℕ, zero, suc, Bool, true, false, List, [], ◌∷◌, length, IfSome, Option, None, Some, slice_get, slice_index_or, refl, sym, ◌∙◌}
use Rattle.prl_base.proofs.Standard.{ap, subst, arith, cond, not, cases_Bool, cases_eq, cases_order, eq-eqb, eqb-true, get_or_default, same_Some, slice_get_read, slice_get_within}
use Rattle.std.specs.List.{filter}
use Rattle.prl_base.specs.Clocks.{IsClock, date_at}
use Rattle.prl_base.specs.declared.numbers.FlowNo.{FlowNo}
use Rattle.prl_base.specs.declared.values.Value.{Value}
use Rattle.prl_flow.specs.Vocabulary.{dates_before, FlatProgram, IsFlat, IsWellDefined, clock_of, IsArgument}
use Rattle.prl_flow.specs.declared.programs.App.{App}
use Rattle.prl_flow.specs.declared.programs.Arg.{Arg}
use Rattle.prl_flow.specs.declared.programs.Def.{Def}
use Rattle.prl_flow.specs.declared.programs.Flow.{Flow}
use Rattle.prl_flow.specs.declared.programs.Def.TheVariants as definitions
use Rattle.prl_flow.proofs.ClockDates.{dates_before_number}
use Rattle.prl_causal.specs.Tables.{Reads}
use Rattle.prl_causal.proofs.Earlier.{reads_earlier}
use Rattle.prl_evaluation.specs.Vocabulary.{AreAt, IsFull, IsPlain, IsRest, CanGrow, HasGrown, IsSet, UnderWay, len, AreWhole, IsFilling, IsGroup, Names, is_full, Run, Setting}
use Rattle.prl_evaluation.proofs.Orders.{order_once, order_within}

-- what is read is used
pub names_of_reads : (p : FlatProgram) (def : Def) (n j m : ℕ) → Reads p def n j m → Names p def j
names_of_reads p (definitions.Sensor k) n j m reads = reads
names_of_reads p (definitions.Copy of) n j m reads = reads.0
names_of_reads p (definitions.Const v) n j m reads = reads
names_of_reads p (definitions.Apply k out) n j m reads = reads.0
names_of_reads p (definitions.Op op of) n j m reads = reads.0

same_apply : (j o k out : ℕ) → definitions.Apply j o ≡ definitions.Apply k out → (j ≡ k) × (o ≡ out)
same_apply j o k out e = (cc, cc)

-- flow `i` has this definition
abbrev IsDefined : FlatProgram → ℕ → Def → Type 0
IsDefined p i def = (f : Flow) × (slice_get p.flows i ≡ Some f) × (f.def ≡ def)

pub defined_so : (p : FlatProgram) (i : ℕ) → i < length p.flows → (flows : List Flow) → flows ≡ p.flows → (f : Flow) → f ≡ slice_index_or flows i f → (def : Def) → (slice_index_or flows i f).def ≡ def
    → IsDefined p i def
defined_so p i within flows same f read def is =
    (f, slice_get_read p.flows (length p.flows) i f refl within (read ∙ ap (λ (fs : List Flow). slice_index_or fs i f) same), ap (λ (g : Flow). g.def) read ∙ is)

module _ (s : Setting) (set : IsSet s) where
  pub clock_there : (i : ℕ) → i < length s.flat.now.flows → IsClock (clock_of s.clocks.now i)
  clock_there i within = set.agree.clock i (omega (arith, within, set.agree.count))

  -- none yet, and all others have all values or none
  pub filling_begins : (group : List FlowNo) (number : ℕ) (flows : List (List Value)) → IsGroup s group number flows → AreWhole s flows → IsFilling s group number flows 0 0
  filling_begins group number flows is_group whole = record {
    is_group = is_group;
    done = λ b x found less. absurd (omega (arith, less));
    left = λ b x found. omega arith;
    others = λ i within. inr (whole i within);
  }

  pub filling_next : (group : List FlowNo) (number : ℕ) (flows : List (List Value)) (n q : ℕ) → length group ≤ q → IsFilling s group number flows n q → IsFilling s group number flows (n + 1) 0
  filling_next group number flows n q end f = record {
    is_group = f.is_group;
    done = λ b x found less. absurd (omega (arith, less));
    left = λ b x found. f.done b x found (omega (arith, end, slice_get_within group b x found));
    others = f.others;
  }

  pub filling_ends : (group : List FlowNo) (number : ℕ) (flows : List (List Value)) (runs : List Run) → UnderWay s flows runs → IsFilling s group number flows number 0 → AreWhole s flows
  filling_ends group number flows runs h f i within = elim (f.others i within) [
    | inl place ↦
        let short = h.short i within in
        let dates = f.is_group.dates place.0 (record { 0 = i }) place.1 in
        let enough = f.left place.0 (record { 0 = i }) place.1 in
        inl (omega (arith, short, dates, enough))
    | inr whole ↦ whole
  ]

  module _ (group : List FlowNo) (number : ℕ) (flows : List (List Value)) (n q : ℕ) (f : IsFilling s group number flows n q) (before : n < number)
      (x : FlowNo) (found : slice_get group q ≡ Some x) where
    pub filling_skip : len flows x.0 ≢ n → IsFilling s group number flows n (q + 1)
    filling_skip other = record {
      is_group = f.is_group;
      done = λ b y at less. elim (cases_eq b q) [
        | inl same ↦
            let own : y ≡ x = same_Some y x (sym at ∙ ap (slice_get group) same ∙ found) in
            let here = f.left q x found in
            let more : n + 1 ≤ len flows x.0 = omega (arith, here, other) in
            subst (λ (z : FlowNo). n + 1 ≤ len flows z.0) (sym own) more
        | inr apart ↦ f.done b y at (omega (arith, less, apart))
      ];
      left = f.left;
      others = f.others;
    }

    module _ (is : len flows x.0 ≡ n) where
      not_full : IsFull s flows x.0 → ⊥
      not_full full = let dates = f.is_group.dates q x found in omega (arith, full, dates, is, before)

      pub filling_can_grow : CanGrow s flows x.0
      filling_can_grow =
          let within = f.is_group.within q x found in
          let clock = clock_there x.0 within in
          let dates = f.is_group.dates q x found in
          let date : date_at (clock_of s.clocks.now x.0) (len flows x.0) < s.until =
          (dates_before_number s.until (clock_of s.clocks.now x.0) (len flows x.0) clock).0 (omega (arith, dates, is, before)) in
          record {
            within = within;
            before = date;
            ready = λ flow at. record {
              reads = λ j m reads.
                  let (inside, earlier) = reads_earlier s.flat.now set.flat s.clocks.now set.agree x.0 flow at (len flows x.0) j m reads in
                  let full = f.is_group.uses q j x flow found at (names_of_reads s.flat.now flow.def (len flows x.0) j m reads) in
                  let early : date_at (clock_of s.clocks.now j) m < s.until = elim earlier [ inl less ↦ omega (arith, less, date) | inr both ↦ omega (arith, both.0, date) ] in
                  let below = (dates_before_number s.until (clock_of s.clocks.now j) m (clock_there j inside)).1 early in
                  omega (arith, full, below);
              outs = λ k out o app g applies applied output.
                  let there = f.is_group.outs q k out o x g flow app found at applies applied output in
                  let enough = f.left there.0 g there.1 in
                  omega (arith, is, enough);
            };
          }

      module _ (new : List (List Value)) (grown : HasGrown flows new x.0) where
        no_shorter : (i : ℕ) → len flows i ≤ len new i
        no_shorter i = elim (cases_eq i x.0) [
          | inl same ↦ subst (λ k. len flows k ≤ len new k) (sym same) (omega (arith, grown.one))
          | inr other ↦ omega (arith, grown.others i other)
        ]

        still_full : (j : ℕ) → IsFull s flows j → IsFull s new j
        still_full j full = elim (cases_eq j x.0) [
          | inl same ↦ absurd (not_full (subst (IsFull s flows) same full))
          | inr other ↦ grown.others j other ∙ full
        ]

        pub filling_grown : IsFilling s group number new n (q + 1)
        filling_grown = record {
          is_group = record {
            within = f.is_group.within;
            dates = f.is_group.dates;
            uses = λ b j y flow at there names. still_full j (f.is_group.uses b j y flow at there names);
            outs = f.is_group.outs;
          };
          done = λ b y at less. elim (cases_eq b q) [
            | inl same ↦
                let own : y ≡ x = same_Some y x (sym at ∙ ap (slice_get group) same ∙ found) in
                subst (λ (z : FlowNo). n + 1 ≤ len new z.0) (sym own) (omega (arith, grown.one, is))
            | inr apart ↦ let old = f.done b y at (omega (arith, less, apart)) in omega (arith, old, no_shorter y.0)
          ];
          left = λ b y at. let old = f.left b y at in omega (arith, old, no_shorter y.0);
          others = λ i within. elim (cases_eq i x.0) [
            | inl same ↦ inl (q, found ∙ ap (λ k. Some (record { 0 = k })) (sym same))
            | inr other ↦ elim (f.others i within) [
              | inl place ↦ inl place
              | inr whole ↦ elim whole [ inl full ↦ inr (inl (still_full i full)) | inr none ↦ inr (inr (grown.others i other ∙ none)) ]
            ]
          ];
        }

  -- the number of its dates
  dates_read : (i number : ℕ) (flow : Flow) → slice_get s.flat.now.flows i ≡ Some flow → number ≡ dates_before s.until (slice_index_or s.clocks.now i (record { period = 0; start = 0 }))
      → number ≡ dates_before s.until (clock_of s.clocks.now i)
  dates_read i number flow found is =
      is ∙ ap (dates_before s.until) (get_or_default s.clocks.now i _ _ (omega (arith, slice_get_within s.flat.now.flows i flow found, set.agree.count)))

  -- a flow that is no output, alone
  pub group_alone : (i number : ℕ) (def : Def) (flows : List (List Value)) → IsDefined s.flat.now i def → number ≡ dates_before s.until (slice_index_or s.clocks.now i (record { period = 0; start = 0 }))
      → IsPlain def → ((j : ℕ) → Names s.flat.now def j → IsFull s flows j) → IsGroup s (record { 0 = i } ∷ []) number flows
  group_alone i number def flows (flow, found, own) is plain full = record {
    within = λ b x at. subst (λ (z : FlowNo). z.0 < length s.flat.now.flows) (only b x at) (slice_get_within s.flat.now.flows i flow found);
    dates = λ b x at. subst (λ (z : FlowNo). dates_before s.until (clock_of s.clocks.now z.0) ≡ number) (only b x at) (sym (dates_read i number flow found is));
    uses = λ b j x g at there names. full j (subst (λ d. Names s.flat.now d j) (same b x g at there) names);
    outs = λ b k out o x f g app at there applies applied output. absurd (subst IsPlain (sym (same b x g at there) ∙ applies) plain);
  }
    where
      only : (b : ℕ) (x : FlowNo) → slice_get (record { 0 = i } ∷ []) b ≡ Some x → record { 0 = i } ≡ x
      only zero x at = same_Some (record { 0 = i }) x at
      only (suc b) x at = absurd (cc)

      same : (b : ℕ) (x : FlowNo) (g : Flow) → slice_get (record { 0 = i } ∷ []) b ≡ Some x → slice_get s.flat.now.flows x.0 ≡ Some g → g.def ≡ def
      same b x g at there = ap (λ (h : Flow). h.def) (same_Some g flow (sym there ∙ ap (λ (z : FlowNo). slice_get s.flat.now.flows z.0) (sym (only b x at)) ∙ found)) ∙ own

  -- the outputs of an application
  pub group_outs : (i number k out : ℕ) (app : App) (flows : List (List Value)) → IsDefined s.flat.now i (definitions.Apply k out) → slice_get s.flat.now.apps k ≡ Some app
      → number ≡ dates_before s.until (slice_index_or s.clocks.now i (record { period = 0; start = 0 }))
      → ((j : ℕ) (arg : Arg) → slice_get app.args j ≡ Some arg → IsFull s flows arg.flow.0)
      → IsGroup s app.outs number flows
  group_outs i number k out app flows (flow, found, applies) applied is full = record {
    within = λ b x at. let (g, there, defined) = (set.flat.apps k app applied).outs b x at in slice_get_within s.flat.now.flows x.0 g there;
    dates = λ b x at. ap (dates_before s.until) ((set.agree.apps k app applied).outs b x at ∙ sym ((set.agree.apps k app applied).outs out (record { 0 = i }) own_out)) ∙ sym (dates_read i number flow found is);
    uses = λ b j x g at there names. argument_full j (subst (λ d. Names s.flat.now d j) (output_def b x g at there) names);
    outs = λ b l o_own o x f g a at there by applied_by output.
        let numbers = same_apply k b l o_own (sym (output_def b x g at there) ∙ by) in
        let same : a ≡ app = same_Some a app (sym applied_by ∙ ap (slice_get s.flat.now.apps) (sym numbers.0) ∙ applied) in
        (o, ap (λ (z : App). slice_get z.outs o) (sym same) ∙ output);
  }
    where
      own_out : slice_get app.outs out ≡ Some (record { 0 = i })
      own_out =
          let (own, own_applied, own_output) = subst (IsWellDefined s.flat.now i flow.ty) applies (set.flat.flows i flow found) in
          ap (λ (a : App). slice_get a.outs out) (same_Some app own (sym applied ∙ own_applied)) ∙ own_output

      output_def : (b : ℕ) (x : FlowNo) (g : Flow) → slice_get app.outs b ≡ Some x → slice_get s.flat.now.flows x.0 ≡ Some g → g.def ≡ definitions.Apply k b
      output_def b x g at there =
          let (h, h_found, h_is) = (set.flat.apps k app applied).outs b x at in
          ap (λ (z : Flow). z.def) (same_Some g h (sym there ∙ h_found)) ∙ h_is

      argument_full : (j : ℕ) → IsArgument s.flat.now k j → IsFull s flows j
      argument_full j argument =
          let same : argument.app ≡ app = same_Some argument.app app (sym argument.applied ∙ applied) in
          subst (IsFull s flows) argument.is (full argument.index argument.arg (ap (λ (a : App). slice_get a.args argument.index) (sym same) ∙ argument.found))

-- what passes a test, in the order of the list
module _ {X : Type 0} (test : X → Bool) where
  cons_place : (y : X) (xs ys : List X) (x : X) → test y ≡ true → ((a : ℕ) → slice_get ys a ≡ Some x → (k : ℕ) × (slice_get xs k ≡ Some x) × (test x ≡ true))
      → (a : ℕ) → slice_get (y ∷ ys) a ≡ Some x → (k : ℕ) × (slice_get (y ∷ xs) k ≡ Some x) × (test x ≡ true)
  cons_place y xs ys x passes rest zero at = let same : y ≡ x = same_Some y x at in (0, ap Some same, subst (λ z. test z ≡ true) same passes)
  cons_place y xs ys x passes rest (suc a) at = let (k, found, is) = rest a at in (suc k, found, is)

  pub filter_place : (xs : List X) (a : ℕ) (x : X) → slice_get (filter test xs) a ≡ Some x → (k : ℕ) × (slice_get xs k ≡ Some x) × (test x ≡ true)
  filter_place [] a x found = absurd (cc)
  filter_place (y ∷ xs) a x found = elim (cases_Bool (test y)) [
    | inl passes ↦ cons_place y xs (filter test xs) x passes (λ b at. filter_place xs b x at) a (subst (λ t. slice_get (cond t (y ∷ filter test xs) (filter test xs)) a ≡ Some x) passes found)
    | inr fails ↦
        let (k, there, is) = filter_place xs a x (subst (λ t. slice_get (cond t (y ∷ filter test xs) (filter test xs)) a ≡ Some x) fails found) in
        (suc k, there, is)
  ]

  -- two elements are at these places of the list, one after the other
  abbrev AreInOrder : List X → X → X → Type 0
  AreInOrder xs x y = (j : ℕ) × (k : ℕ) × (slice_get xs j ≡ Some x) × (slice_get xs k ≡ Some y) × (j < k)

  cons_order : (z : X) (xs ys : List X) (x y : X) → ((b : ℕ) → slice_get ys b ≡ Some y → (k : ℕ) × (slice_get xs k ≡ Some y) × (test y ≡ true))
      → ((a b : ℕ) → a < b → slice_get ys a ≡ Some x → slice_get ys b ≡ Some y → AreInOrder xs x y)
      → (a b : ℕ) → a < b → slice_get (z ∷ ys) a ≡ Some x → slice_get (z ∷ ys) b ≡ Some y → AreInOrder (z ∷ xs) x y
  cons_order z xs ys x y place order a zero less at_a at_b = absurd (omega (arith, less))
  cons_order z xs ys x y place order zero (suc b) less at_a at_b = let (k, found, is) = place b at_b in (0, suc k, at_a, found, omega arith)
  cons_order z xs ys x y place order (suc a) (suc b) less at_a at_b =
      let (j, k, at_j, at_k, less_in) = order a b (omega (arith, less)) at_a at_b in (suc j, suc k, at_j, at_k, omega (arith, less_in))

  pub filter_order : (xs : List X) (a b : ℕ) (x y : X) → a < b → slice_get (filter test xs) a ≡ Some x → slice_get (filter test xs) b ≡ Some y → AreInOrder xs x y
  filter_order [] a b x y less one other = absurd (cc)
  filter_order (z ∷ xs) a b x y less one other = elim (cases_Bool (test z)) [
    | inl passes ↦
        cons_order z xs (filter test xs) x y (λ c at. filter_place xs c y at) (λ c d before at_c at_d. filter_order xs c d x y before at_c at_d) a b less
        (subst (λ t. slice_get (cond t (z ∷ filter test xs) (filter test xs)) a ≡ Some x) passes one) (subst (λ t. slice_get (cond t (z ∷ filter test xs) (filter test xs)) b ≡ Some y) passes other)
    | inr fails ↦
        let (j, k, at_j, at_k, order) =
        filter_order xs a b x y less (subst (λ t. slice_get (cond t (z ∷ filter test xs) (filter test xs)) a ≡ Some x) fails one)
        (subst (λ t. slice_get (cond t (z ∷ filter test xs) (filter test xs)) b ≡ Some y) fails other) in
        (suc j, suc k, at_j, at_k, omega (arith, order))
  ]

  pub filter_has : (xs : List X) (k : ℕ) (x : X) → slice_get xs k ≡ Some x → test x ≡ true → (b : ℕ) × (slice_get (filter test xs) b ≡ Some x)
  filter_has [] k x found is = absurd (cc)
  filter_has (y ∷ xs) zero x found is = let passes : test y ≡ true = ap test (same_Some y x found) ∙ is in (0, rw passes found)
  filter_has (y ∷ xs) (suc k) x found is =
      let (b, at) = filter_has xs k x found is in
      elim (cases_Bool (test y)) [ inl passes ↦ (suc b, rw passes at) | inr fails ↦ (b, rw fails at) ]

  pub filter_shorter : (xs : List X) → length (filter test xs) ≤ length xs
  filter_shorter [] = omega arith
  filter_shorter (x ∷ xs) = elim (cases_Bool (test x)) [
    | inl passes ↦ rw passes (omega (arith, filter_shorter xs))
    | inr fails ↦ rw fails (omega (arith, filter_shorter xs))
  ]

-- whether a flow is not full
abbrev pub is_left : Setting → List (List Value) → FlowNo → Bool
is_left s flows x = not (is_full s flows x.0)

not_true : (b : Bool) → not b ≡ true → b ≡ true → ⊥
not_true true left is = absurd (cc)
not_true false left is = absurd (cc)

module _ (s : Setting) (set : IsSet s) (flows : List (List Value)) (whole : AreWhole s flows) where
  pub rest_in_order : IsRest s (filter (is_left s flows) s.order.now) flows
  rest_in_order = record {
    within = λ b x at. let (k, found, passes) = filter_place (is_left s flows) s.order.now b x at in order_within s.flat.now s.order.now set.is_order k x found;
    once = λ a b x one other. elim (cases_order a b) [
      | inl same ↦ same
      | inr apart ↦ elim apart [ inl less ↦ absurd (twice a b x less one other) | inr more ↦ absurd (twice b a x more other one) ]
    ];
    after = λ a b x y one other uses. elim (cases_order a b) [
      | inl same ↦
          let (k, found, passes) = filter_place (is_left s flows) s.order.now a x one in
          let own : x ≡ y = same_Some x y (sym one ∙ ap (slice_get (filter (is_left s flows) s.order.now)) same ∙ other) in
          let less = set.is_order.after k k x y found (found ∙ ap Some own) uses in
          absurd (omega (arith, less))
      | inr apart ↦ elim apart [
        | inl less ↦
            let (j, k, at_j, at_k, order) = filter_order (is_left s flows) s.order.now a b x y less one other in
            let back = set.is_order.after j k x y at_j at_k uses in
            absurd (omega (arith, order, back))
        | inr more ↦ more
      ]
    ];
    others = λ i within. elim (cases_Bool (is_full s flows i)) [
      | inl full ↦ inr (eqb-true (len flows i) (dates_before s.until (clock_of s.clocks.now i)) full)
      | inr left ↦ let (k, found) = set.is_order.each i within in inl (filter_has (is_left s flows) s.order.now k (record { 0 = i }) found (ap not left))
    ];
  }
    where
      twice : (a b : ℕ) (x : FlowNo) → a < b → slice_get (filter (is_left s flows) s.order.now) a ≡ Some x → slice_get (filter (is_left s flows) s.order.now) b ≡ Some x → ⊥
      twice a b x less one other =
          let (j, k, at_j, at_k, order) = filter_order (is_left s flows) s.order.now a b x x less one other in
          let same = order_once s.flat.now s.order.now set.is_order j k x at_j at_k in
          omega (arith, order, same)

  pub rest_at_first : AreAt s (filter (is_left s flows) s.order.now) flows 0
  rest_at_first b x at =
      let (k, found, passes) = filter_place (is_left s flows) s.order.now b x at in
      let within = order_within s.flat.now s.order.now set.is_order k x found in
      let none : len flows x.0 ≡ 0 = elim (whole x.0 within) [
        | inl full ↦ absurd (not_true (is_full s flows x.0) passes (eq-eqb (len flows x.0) (dates_before s.until (clock_of s.clocks.now x.0)) full))
        | inr none ↦ none
      ] in
      let early : dates_before 0 (clock_of s.clocks.now x.0) ≡ 0 = no_dates (dates_before 0 (clock_of s.clocks.now x.0)) (λ less.
      let date = (dates_before_number 0 (clock_of s.clocks.now x.0) 0 (clock_there s set x.0 within)).0 less in
      omega (arith, date)) in
      none ∙ sym early
    where
      no_dates : (n : ℕ) → (0 < n → ⊥) → n ≡ 0
      no_dates zero none = refl
      no_dates (suc n) none = absurd (none (omega arith))

  pub rest_few : length (filter (is_left s flows) s.order.now) ≤ length s.flat.now.flows
  rest_few = let le = filter_shorter (is_left s flows) s.order.now in omega (arith, le, set.is_order.count)

-- the application that a flow is an output of
pub applied_app : (p : FlatProgram) → IsFlat p → (i k out : ℕ) → IsDefined p i (definitions.Apply k out) → (apps : List App) → apps ≡ p.apps
    → (app : App) → app ≡ slice_index_or apps k app → slice_get p.apps k ≡ Some app
applied_app p flat i k out (flow, found, applies) apps same app read =
    let (own, applied, output) = subst (IsWellDefined p i flow.ty) applies (flat.flows i flow found) in
    slice_get_read p.apps (length p.apps) k app refl (slice_get_within p.apps k own applied) (read ∙ ap (λ (us : List App). slice_index_or us k app) same)

-- its arguments are flows
pub argument_within : (p : FlatProgram) → IsFlat p → (k : ℕ) (app : App) → slice_get p.apps k ≡ Some app → (args : List Arg) → args ≡ app.args → (n : ℕ) (found : Option FlowNo)
    → IfSome found (λ flow. (arg : Arg) × (slice_get args n ≡ Some arg) × (flow ≡ arg.flow)) → IfSome found (λ flow. flow.0 < length p.flows)
argument_within p flat k app applied args same n None is = tt
argument_within p flat k app applied args same n (Some flow) (arg, there, own) =
    subst (λ (x : FlowNo). x.0 < length p.flows) (sym own) ((flat.apps k app applied).args n arg (ap (λ (us : List Arg). slice_get us n) (sym same) ∙ there))
