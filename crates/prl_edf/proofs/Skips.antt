-- The events up to a tick, where nothing is done on the way.
use Rattle.prl_base.proofs.Standard.{◌≡◌, ◌+◌, ◌-◌, ◌<◌, ◌≤◌, ◌++◌, ◌⊎◌, ◌==◌, ℕ, zero, suc, Bool, true, false, cond, List, [], ◌∷◌, Option, Some, None, length, get_or, set, drop, reverse, replicate}
use Rattle.prl_base.proofs.Standard.{append_assoc, drop-cons, add-one, inl, inr, refl, sym, ap, subst, ◌∙◌, arith, cases_lt, cases_eq, nat_tests, eqb_tells, append-nil, reverse-append, get_or-reverse}
use Rattle.prl_base.proofs.Standard.{length-reverse, get_or-set_other, replicate_more, get_or-set_at, slice_get}
use Rattle.prl_plan.specs.Vocabulary.{IsJob, HasPlanFacts, RunConstants}
use Rattle.prl_plan.specs.declared.events.Event.{Event}
use Rattle.prl_plan.specs.declared.events.Event.TheVariants as kinds
use Rattle.prl_edf.specs.Vocabulary.{Piece, run_of, IsFollowed, AreLongest, units_before, AreUnits, totals, IsEdfRun, IsMetRun, MeetsAllWindows, acts_of, acts_in, events_to, IsUnrolled, next_job}
use Rattle.prl_edf.specs.Vocabulary.{is_other, lasts_in, before, IsUnrolling}
use Rattle.prl_edf.proofs.Going.{none_is_some, some_is_some}
use Rattle.prl_edf.proofs.FullUnits.{edf_as, met_as}
use Rattle.prl_edf.proofs.PieceLists.{lies, lies_not}
use Rattle.prl_edf.proofs.Units.{some_or_none, units_rise, unit_not, unit_none, unit_more, never_more}

module _ (c : RunConstants) (run : ℕ → Option (ℕ × ℕ)) where
  pub with_acts : (t : ℕ) → events_to c (totals c run) run t ≡ before c run t ++ acts_in c (totals c run) run t (run t)
  with_acts zero = refl
  with_acts (suc t) = sym (append_assoc (events_to c (totals c run) run t) (kinds.Tick ∷ []) (acts_in c (totals c run) run (suc t) (run (suc t))))

  -- the pieces pass `more` ticks without an end of a job
  pub skips : (t more : ℕ) → ((s : ℕ) → t ≤ s → s < t + more → acts_in c (totals c run) run s (run s) ≡ []) → before c run (t + more) ≡ before c run t ++ replicate more kinds.Tick
  skips t zero none = ap (before c run) (let e : t + 0 ≡ t = omega arith in e) ∙ sym (append-nil (before c run t))
  skips t (suc more) none =
      let rest = skips t more (λ s from to. none s from (omega (arith, to))) in
      let at : t + suc more ≡ suc (t + more) = omega arith in
      let here : events_to c (totals c run) run (t + more) ≡ before c run (t + more) ++ [] =
      with_acts (t + more) ∙ ap (λ (l : List Event). before c run (t + more) ++ l) (none (t + more) (omega arith) (omega arith)) in
      ap (before c run) at ∙ ap (λ (l : List Event). l ++ (kinds.Tick ∷ [])) (here ∙ append-nil (before c run (t + more)) ∙ rest)
      ∙ append_assoc (before c run t) (replicate more kinds.Tick) (kinds.Tick ∷ []) ∙ ap (λ (l : List Event). before c run t ++ l) (replicate_more more kinds.Tick)
      ∙ ap (λ (m : ℕ). before c run t ++ replicate m kinds.Tick) (let e : more + 1 ≡ suc more = omega arith in e)

-- a tick in a piece, and one that is not
pub run_in : (p : Piece) (ps : List Piece) (t : ℕ) → p.from ≤ t → t < p.to → run_of (p ∷ ps) t ≡ Some (p.task.0, p.job)
run_in p ps t from to = ap (λ b. cond b (Some (p.task.0, p.job)) (run_of ps t)) (lies p t from to)

pub run_out : (p : Piece) (ps : List Piece) (t : ℕ) → (t < p.from) ⊎ (p.to ≤ t) → run_of (p ∷ ps) t ≡ run_of ps t
run_out p ps t out = ap (λ b. cond b (Some (p.task.0, p.job)) (run_of ps t)) (lies_not p t out)

-- the pieces of a list in order begin where the first does
pub none_before : (p : Piece) (ps : List Piece) → AreLongest (p ∷ ps) → (t : ℕ) → t < p.from → run_of (p ∷ ps) t ≡ None
none_before p [] h t early = run_out p [] t (inl early)
none_before p (q ∷ ps) h t early = run_out p (q ∷ ps) t (inl early) ∙ none_before q ps h.2 t
    (let some = h.0 in elim h.1 [ inl less ↦ omega (arith, less, some, early) | inr same ↦ (let e = same.0 in omega (arith, e, some, early)) ])

-- after a piece come ticks of none up to the next one
pub none_between : (p : Piece) (ps : List Piece) → AreLongest (p ∷ ps) → (t : ℕ) → t < p.to → run_of ps t ≡ None
none_between p [] h t early = refl
none_between p (q ∷ ps) h t early = none_before q ps h.2 t (elim h.1 [ inl less ↦ omega (arith, less, early) | inr same ↦ (let e = same.0 in omega (arith, e, early)) ])

-- the first tick that goes to a task
record IsFirstTick (ps : List Piece) (i m : ℕ) : Type 0 where
  pub at : ℕ
  pub goes : run_of ps at ≡ Some (i, m)
  pub first : (t n : ℕ) → run_of ps t ≡ Some (i, n) → at ≤ t

abbrev FirstTick : List Piece → ℕ → Option ℕ → Type 0
FirstTick ps i None = (t n : ℕ) → run_of ps t ≡ Some (i, n) → ⊥
FirstTick ps i (Some m) = IsFirstTick ps i m

pub in_or_out : (p : Piece) (t : ℕ) → ((p.from ≤ t) × (t < p.to)) ⊎ ((t < p.from) ⊎ (p.to ≤ t))
in_or_out p t = grind arith

first_tick_of : (p : Piece) (ps : List Piece) → AreLongest (p ∷ ps) → (i : ℕ) → (p.task.0 ≡ i → ⊥) → (o : Option ℕ) → FirstTick ps i o → FirstTick (p ∷ ps) i o
first_tick_of p ps h i other None none = λ t n is. elim (in_or_out p t) [
  | inl inside ↦ other (some_is_some (run_of (p ∷ ps) t) p.task.0 p.job i n (run_in p ps t inside.0 inside.1) is).0
  | inr out ↦ none t n (sym (run_out p ps t out) ∙ is)
]
first_tick_of p ps h i other (Some m) some = record {
  at = some.at;
  goes = run_out p ps some.at (elim (cases_lt some.at p.to) [
    | inr past ↦ inr past
    | inl early ↦ absurd (none_is_some (run_of ps some.at) i m (none_between p ps h some.at early) some.goes)
  ]) ∙ some.goes;
  first = λ t n is. elim (in_or_out p t) [
    | inl inside ↦ absurd (other (some_is_some (run_of (p ∷ ps) t) p.task.0 p.job i n (run_in p ps t inside.0 inside.1) is).0)
    | inr out ↦ some.first t n (sym (run_out p ps t out) ∙ is)
  ];
}

first_tick : (ps : List Piece) → AreLongest ps → (i : ℕ) → FirstTick ps i (next_job ps i)
first_tick [] h i = λ t n is. none_is_some None i n refl is
first_tick (p ∷ ps) h i = elim (eqb_tells p.task.0 i) [
  | inl same ↦ subst (λ b. FirstTick (p ∷ ps) i (cond b (Some p.job) (next_job ps i))) (sym same.0) (record {
    at = p.from;
    goes = run_in p ps p.from (omega arith) h.0 ∙ ap (λ (x : ℕ). Some (x, p.job)) same.1;
    first = λ t n is. elim (cases_lt t p.from) [
      | inr from ↦ from
      | inl early ↦ absurd (none_is_some (run_of (p ∷ ps) t) i n (none_before p ps h t early) is)
    ];
  })
  | inr other ↦ subst (λ b. FirstTick (p ∷ ps) i (cond b (Some p.job) (next_job ps i))) (sym other.0) (first_tick_of p ps h i other.1 (next_job ps i) (first_tick ps h.2 i))
]

module _ (c : RunConstants) (facts : HasPlanFacts c) (cost : ℕ → ℕ → ℕ) (run : ℕ → Option (ℕ × ℕ)) (is_met : IsMetRun c cost run) where
  -- the jobs of a task come in order
  in_order : (i n m s t : ℕ) → run s ≡ Some (i, n) → run t ≡ Some (i, m) → s ≤ t → n ≤ m
  in_order i n m s t first second le = elim (cases_lt m n) [
    | inr past ↦ past
    | inl less ↦ absurd
        (let units = is_met.units in
        let earlier = is_met.edf.timed.ready t i m second in
        let later = is_met.edf.timed.ready s i n first in
        let rise = units_rise run i m (c.deadline i m) t (omega (arith, facts.apart i m n later.job less, later.released, le)) in
        omega (arith, is_met.met i m earlier.job, earlier.left, rise))
  ]

  within_end : (t i n : ℕ) → run t ≡ Some (i, n) → t < c.end
  within_end t i n is = elim (cases_lt t c.end) [ inl early ↦ early | inr late ↦ absurd (none_is_some (run t) i n (is_met.edf.timed.ends t late) is) ]

  -- where no tick from t on goes to the job, it has all its ticks before
  no_more : (i n t : ℕ) → ((s : ℕ) → t ≤ s → run s ≡ Some (i, n) → ⊥) → (k : ℕ) → t ≤ k → units_before run k i n ≡ units_before run t i n
  no_more i n t none zero le = (let e : t ≡ 0 = omega (arith, le) in subst (λ (x : ℕ). units_before run 0 i n ≡ units_before run x i n) (sym e) refl)
  no_more i n t none (suc k) le = elim (cases_lt k t) [
    | inl past ↦ (let e : suc k ≡ t = omega (arith, past, le) in ap (λ (x : ℕ). units_before run x i n) e)
    | inr from ↦ (let rest = no_more i n t none k from in elim (some_or_none (run k)) [
      | inl idle ↦ (let e = unit_none run i n k idle in omega (arith, e, rest))
      | inr some ↦ (let e = unit_not run i n k some.0 some.1 some.2
          (λ a b. none k from (some.2 ∙ ap (λ (x : ℕ). Some (x, some.1)) (sym a) ∙ ap (λ (x : ℕ). Some (i, x)) (sym b))) in omega (arith, e, rest))
    ])
  ]

  -- what is done in a tick of a job: nothing where it has a later tick, all where it has none
  acts_none : (t i n later : ℕ) → run t ≡ Some (i, n) → run later ≡ Some (i, n) → t < later → acts_in c (totals c run) run t (run t) ≡ []
  acts_none t i n later is again after =
      let end = within_end later i n again in
      ap (acts_in c (totals c run) run t) is ∙ (elim (eqb_tells (units_before run (suc t) i n) (units_before run c.end i n)) [
        | inl same ↦ absurd (let e = same.1 in omega (arith, e, unit_more run i n later again, units_rise run i n (suc t) later after, units_rise run i n (suc later) c.end end))
        | inr other ↦ ap (λ b. cond b (acts_of c i n) []) other.0
      ])

  acts_all : (t i n : ℕ) → run t ≡ Some (i, n) → ((s : ℕ) → suc t ≤ s → run s ≡ Some (i, n) → ⊥) → acts_in c (totals c run) run t (run t) ≡ acts_of c i n
  acts_all t i n is none =
      let all = no_more i n (suc t) none c.end (within_end t i n is) in
      ap (acts_in c (totals c run) run t) is ∙ (elim (eqb_tells (units_before run (suc t) i n) (units_before run c.end i n)) [
        | inl same ↦ ap (λ b. cond b (acts_of c i n) []) same.0
        | inr other ↦ absurd (other.1 (sym all))
      ])

  acts_idle : (t : ℕ) → run t ≡ None → acts_in c (totals c run) run t (run t) ≡ []
  acts_idle t is = ap (acts_in c (totals c run) run t) is

  module _ (p : Piece) (ps : List Piece) (now : ℕ) (list : List Event) (so_far : IsUnrolling c run (p ∷ ps) now list) (longest : AreLongest (p ∷ ps)) where
    from_done : so_far.done ≤ p.from
    from_done = so_far.begins p ps refl

    in_piece : (t : ℕ) → p.from ≤ t → t < p.to → run t ≡ Some (p.task.0, p.job)
    in_piece t from to = (let d = from_done in so_far.goes_on t (omega (arith, d, from)) ∙ run_in p ps t from to)

    past_piece : (t : ℕ) → p.to ≤ t → run t ≡ run_of ps t
    past_piece t late = (let d = from_done in let some = longest.0 in so_far.goes_on t (omega (arith, d, some, late)) ∙ run_out p ps t (inr late))

    up_to_piece : (t : ℕ) → so_far.done ≤ t → t < p.from → acts_in c (totals c run) run t (run t) ≡ []
    up_to_piece t from early = acts_idle t (so_far.goes_on t from ∙ none_before p ps longest t early)

    next_begins : (q : Piece) (qs : List Piece) → ps ≡ q ∷ qs → p.to ≤ q.from
    next_begins q qs is = (let f = subst (IsFollowed p) is longest.1 in elim f [ inl less ↦ omega (arith, less) | inr same ↦ (let e = same.0 in omega (arith, e)) ])

    later_tick : (at : ℕ) → run_of ps at ≡ Some (p.task.0, p.job) → p.to ≤ at
    later_tick at is = elim (cases_lt at p.to) [
      | inr past ↦ past
      | inl early ↦ absurd (none_is_some (run_of ps at) p.task.0 p.job (none_between p ps longest at early) is)
    ]

    -- a piece after which its job goes on: nothing is done
    not_last_of : (o : Option ℕ) → next_job ps p.task.0 ≡ o → FirstTick ps p.task.0 o → is_other o p.job ≡ false → IsUnrolling c run ps now list
    not_last_of None at none is = absurd (let f : ◌≡◌ {A = Bool} true false = is in cc)
    not_last_of (Some m) at some is =
        let same : m ≡ p.job = elim (cases_eq m p.job) [
          | inl e ↦ e
          | inr other ↦ absurd (let f : (m == p.job) ≡ false = grind (arith, nat_tests) in
              let g : ◌≡◌ {A = Bool} true false = ap (λ b. cond b false true) (sym f) ∙ is in cc)
        ] in
        let tick : run_of ps some.at ≡ Some (p.task.0, p.job) = some.goes ∙ ap (λ (x : ℕ). Some (p.task.0, x)) same in
        let late = later_tick some.at tick in
        let there : run some.at ≡ Some (p.task.0, p.job) = past_piece some.at late ∙ tick in
        let d = from_done in
        let long = longest.0 in
        record {
          done = p.to;
          within = (let w = so_far.within in omega (arith, w, d, long));
          begins = next_begins;
          goes_on = past_piece;
          listed = λ t from none. so_far.listed t (omega (arith, from, d, long)) (λ s begun before_t. elim (in_or_out p s) [
            | inl inside ↦ acts_none s p.task.0 p.job some.at (in_piece s inside.0 inside.1) there (let to = inside.1 in omega (arith, to, late))
            | inr out ↦ elim out [ inl early ↦ up_to_piece s begun early | inr past ↦ none s past before_t ]
          ]);
          told = inr (λ e. absurd (let f : ◌≡◌ {A = Option ℕ} None (Some m) = ap (λ (l : List Piece). next_job l p.task.0) (sym e) ∙ at in cc));
        }

    pub not_last : is_other (next_job ps p.task.0) p.job ≡ false → IsUnrolling c run ps now list
    not_last is = not_last_of (next_job ps p.task.0) refl (first_tick ps longest.2 p.task.0) is

    -- the last piece of its job
    never_again : (o : Option ℕ) → FirstTick ps p.task.0 o → is_other o p.job ≡ true → (s : ℕ) → p.to ≤ s → run s ≡ Some (p.task.0, p.job) → ⊥
    never_again None none is s late goes = none s p.job (sym (past_piece s late) ∙ goes)
    never_again (Some m) some is s late goes =
        let here = some.first s p.job (sym (past_piece s late) ∙ goes) in
        let at = some.at in
        let at_late : p.to ≤ at = elim (cases_lt at p.to) [
          | inr past ↦ past
          | inl early ↦ absurd (none_is_some (run_of ps at) p.task.0 m (none_between p ps longest at early) some.goes)
        ] in
        let there : run at ≡ Some (p.task.0, m) = past_piece at at_late ∙ some.goes in
        let long = longest.0 in
        let up = in_order p.task.0 p.job m p.from at (in_piece p.from (omega arith) long) there (omega (arith, at_late, long)) in
        let same : m ≡ p.job = omega (arith, up, in_order p.task.0 m p.job at s there goes here) in
        let f : (m == p.job) ≡ true = grind (arith, nat_tests) in
        let g : ◌≡◌ {A = Bool} false true = ap (λ b. cond b false true) (sym f) ∙ is in cc

    pub last : is_other (next_job ps p.task.0) p.job ≡ true → (list_after : List Event) →
        list_after ≡ (list ++ replicate (p.to - 1 - now) kinds.Tick) ++ acts_of c p.task.0 p.job → IsUnrolling c run ps (p.to - 1) list_after
    last is list_after made =
        let m : ℕ = p.to - 1 in
        let long = longest.0 in
        let never = never_again (next_job ps p.task.0) (first_tick ps longest.2 p.task.0) is in
        let goes : run m ≡ Some (p.task.0, p.job) = in_piece m (omega (arith, long)) (omega (arith, long)) in
        let all = acts_all m p.task.0 p.job goes (λ s late. never s (omega (arith, late))) in
        let ticks : before c run m ≡ list ++ replicate (m - now) kinds.Tick = so_far.listed m (omega (arith, from_done, long)) (λ s begun early. elim (cases_lt s p.from) [
          | inl less ↦ up_to_piece s begun less
          | inr from ↦ acts_none s p.task.0 p.job m (in_piece s from (omega (arith, early, long))) goes early
        ]) in
        let whole : events_to c (totals c run) run m ≡ list_after = with_acts c run m ∙ ap (λ (l : List Event). l ++ acts_in c (totals c run) run m (run m)) ticks
        ∙ ap (λ (l : List Event). (list ++ replicate (m - now) kinds.Tick) ++ l) all ∙ sym made in
        let next : suc m ≡ p.to = omega (arith, long) in
        record {
          done = p.to;
          within = omega arith;
          begins = next_begins;
          goes_on = past_piece;
          listed = λ t from none.
              (let k : ℕ = t - p.to in
              let at : suc m + k ≡ t = omega (arith, from, long) in
              let skipped = skips c run (suc m) k (λ s begun early. none s (omega (arith, begun, next)) (omega (arith, early, at))) in
              ap (before c run) (sym at) ∙ skipped ∙ ap (λ (l : List Event). (l ++ (kinds.Tick ∷ [])) ++ replicate k kinds.Tick) whole
              ∙ append_assoc list_after (kinds.Tick ∷ []) (replicate k kinds.Tick) ∙ ap (λ (n : ℕ). list_after ++ replicate n kinds.Tick) (let e : suc k ≡ t - m = omega (arith, from, long) in e));
          told = inr (λ e. (sym whole, (λ none. none_is_some (run m) p.task.0 p.job none goes), omega (arith, long)));
        }

  pub unrolled : (now : ℕ) (list : List Event) → IsUnrolling c run [] now list → IsUnrolled c (totals c run) run list
  unrolled now list so_far = elim so_far.told [
    | inl none ↦ inl ((λ t. elim (cases_lt t so_far.done) [ inl early ↦ none.0 t early | inr late ↦ so_far.goes_on t late ]), none.1)
    | inr some ↦ (let it = some refl in inr (now, record { busy = it.1; last = λ k later. so_far.goes_on k (let e = it.2 in omega (arith, e, later)) }, it.0))
  ]

pub unrolls : (c : RunConstants) (pieces : List Piece) → IsUnrolling c (run_of pieces) pieces 0 []
unrolls c pieces = record {
  done = 0;
  within = omega arith;
  begins = λ p ps is. omega arith;
  goes_on = λ t _. refl;
  listed = λ t _ none. ap (before c (run_of pieces)) (let e : t ≡ 0 + t = omega arith in e) ∙ skips c (run_of pieces) 0 t (λ s from early. none s (omega arith) (omega (arith, early)))
      ∙ ap (λ (n : ℕ). replicate n kinds.Tick) (let e : t ≡ t - 0 = omega arith in e);
  told = inl ((λ t early. absurd (omega (arith, early))), refl);
}

-- each piece is of a job
pub jobs_of_pieces : (c : RunConstants) (ps : List Piece) → AreLongest ps → ((t i n : ℕ) → run_of ps t ≡ Some (i, n) → IsJob c i n) →
    (k : ℕ) (p : Piece) → slice_get ps k ≡ Some p → IsJob c p.task.0 p.job
jobs_of_pieces c [] h jobs k p is = absurd (let f : ◌≡◌ {A = Option Piece} None (Some p) = is in cc)
jobs_of_pieces c (q ∷ ps) h jobs zero p is = (let e : q ≡ p = cc in subst (λ (x : Piece). IsJob c x.task.0 x.job) e (jobs q.from q.task.0 q.job (run_in q ps q.from (omega arith) h.0)))
jobs_of_pieces c (q ∷ ps) h jobs (suc k) p is = jobs_of_pieces c ps h.2 (λ t i n goes. elim (cases_lt t q.to) [
  | inl early ↦ absurd (none_is_some (run_of ps t) i n (none_between q ps h t early) goes)
  | inr late ↦ jobs t i n (run_out q ps t (inr late) ∙ goes)
]) k p is

-- the pieces from a place on
pub longest_from : (ps : List Piece) (k : ℕ) → AreLongest ps → AreLongest (drop k ps)
longest_from ps zero h = h
longest_from [] (suc k) h = tt
longest_from (p ∷ ps) (suc k) h = longest_from ps k h.2

pub lasts_long : (ps : List Piece) → length (lasts_in ps) ≡ length ps
lasts_long [] = refl
lasts_long (p ∷ ps) = ap suc (lasts_long ps)

pub lasts_at : (ps : List Piece) (k : ℕ) (p : Piece) (rest : List Piece) (d : Bool) → drop k ps ≡ p ∷ rest → get_or (lasts_in ps) k d ≡ is_other (next_job rest p.task.0) p.job
lasts_at [] k p rest d is = absurd (let f : ◌≡◌ {A = List Piece} [] (p ∷ rest) = sym (drop_none k) ∙ is in cc)
  where
    drop_none : (k : ℕ) → ◌≡◌ {A = List Piece} (drop k []) []
    drop_none zero = refl
    drop_none (suc k) = refl
lasts_at (q ∷ ps) zero p rest d is = (let e : q ≡ p = cc in let f : ps ≡ rest = cc in
    ap (λ (x : Piece). is_other (next_job ps x.task.0) x.job) e ∙ ap (λ (l : List Piece). is_other (next_job l p.task.0) p.job) f)
lasts_at (q ∷ ps) (suc k) p rest d is = lasts_at ps k p rest d is

pub one_piece_back : (p : Piece) (rest : List Piece) (lasts new : List Bool) → lasts ≡ reverse (lasts_in rest) → new ≡ lasts ++ (is_other (next_job rest p.task.0) p.job ∷ []) →
    new ≡ reverse (lasts_in (p ∷ rest))
one_piece_back p rest lasts new was is =
    is ∙ ap (λ (l : List Bool). l ++ (is_other (next_job rest p.task.0) p.job ∷ [])) was ∙ sym (reverse-append (is_other (next_job rest p.task.0) p.job ∷ []) (lasts_in rest))

-- what has been seen with one more piece
pub seen_with : (p : Piece) (rest : List Piece) (seen : List (Option ℕ)) → p.task.0 < length seen → (i : ℕ) → get_or seen i None ≡ next_job rest i →
    get_or (set seen p.task.0 (Some p.job)) i None ≡ next_job (p ∷ rest) i
seen_with p rest seen inside i was = elim (eqb_tells p.task.0 i) [
  | inl same ↦ get_or-set_at seen p.task.0 i (Some p.job) None (sym same.1) inside ∙ sym (ap (λ b. cond b (Some p.job) (next_job rest i)) same.0)
  | inr other ↦ get_or-set_other seen p.task.0 i (Some p.job) None (λ e. other.1 (sym e)) ∙ was ∙ sym (ap (λ b. cond b (Some p.job) (next_job rest i)) other.0)
]

module _ (c : RunConstants) (facts : HasPlanFacts c) (cost : ℕ → ℕ → ℕ) (pieces : List Piece) (longest : AreLongest pieces) (is_met : IsMetRun c cost (run_of pieces)) where
  pub piece_job : (k : ℕ) (p : Piece) → slice_get pieces k ≡ Some p → IsJob c p.task.0 p.job
  piece_job = jobs_of_pieces c pieces longest (λ t i n goes. (is_met.edf.timed.ready t i n goes).job)

  module _ (k : ℕ) (p : Piece) (rest : List Piece) (at : drop k pieces ≡ p ∷ rest) (now : ℕ) (list : List Event) (so_far : IsUnrolling c (run_of pieces) (drop k pieces) now list) where
    here : IsUnrolling c (run_of pieces) (p ∷ rest) now list
    here = subst (λ (l : List Piece). IsUnrolling c (run_of pieces) l now list) at so_far

    long_here : AreLongest (p ∷ rest)
    long_here = subst AreLongest at (longest_from pieces k longest)

    pub room : now + 1 ≤ p.to
    room = (let w = here.within in let b = here.begins p rest refl in let some = long_here.0 in omega (arith, w, b, some))

    pub passes : is_other (next_job rest p.task.0) p.job ≡ false → IsUnrolling c (run_of pieces) rest now list
    passes is = not_last c facts cost (run_of pieces) is_met p rest now list here long_here is

    pub tells : is_other (next_job rest p.task.0) p.job ≡ true → (ticked acted : List Event) → ticked ≡ list ++ replicate (p.to - 1 - now) kinds.Tick →
        acted ≡ ticked ++ acts_of c p.task.0 p.job → IsUnrolling c (run_of pieces) rest (p.to - 1) acted
    tells is ticked acted first second = last c facts cost (run_of pieces) is_met p rest now list here long_here is acted (second ∙ ap (λ (l : List Event). l ++ acts_of c p.task.0 p.job) first)

pub piece_at : (ps : List Piece) (k : ℕ) (d : Piece) → k < length ps → drop k ps ≡ get_or ps k d ∷ drop (k + 1) ps
piece_at ps k d inside = drop-cons ps k d inside ∙ ap (λ (n : ℕ). get_or ps k d ∷ drop n ps) (sym (add-one k))

pub any_default : {A : Type 0} (xs : List A) (i : ℕ) (d e : A) → i < length xs → get_or xs i d ≡ get_or xs i e
any_default [] i d e inside = absurd (omega (arith, inside))
any_default (x ∷ xs) zero d e inside = refl
any_default (x ∷ xs) (suc i) d e inside = any_default xs i d e (omega (arith, inside))

pub none_left : (ps : List Piece) (k : ℕ) → length ps ≤ k → drop k ps ≡ []
none_left [] zero le = refl
none_left [] (suc k) le = refl
none_left (p ∷ ps) zero le = absurd (omega (arith, le))
none_left (p ∷ ps) (suc k) le = none_left ps k (omega (arith, le))

-- what the list of last pieces, from the last piece on, tells of a piece
pub told_last : (ps : List Piece) (lasts : List Bool) (k : ℕ) (p : Piece) (rest : List Piece) (d : Bool) → lasts ≡ reverse (lasts_in ps) → k < length ps → drop k ps ≡ p ∷ rest →
    get_or lasts (length ps - 1 - k) d ≡ is_other (next_job rest p.task.0) p.job
told_last ps lasts k p rest d is inside at =
    let long = lasts_long ps in
    let place : length ps - 1 - k < length (lasts_in ps) = omega (arith, long, inside) in
    ap (λ (l : List Bool). get_or l (length ps - 1 - k) d) is ∙ get_or-reverse (lasts_in ps) (length ps - 1 - k) d place
    ∙ ap (λ (n : ℕ). get_or (lasts_in ps) n d) (let e : length (lasts_in ps) - 1 - (length ps - 1 - k) ≡ k = omega (arith, long, inside) in e) ∙ lasts_at ps k p rest d at

pub lasts_length : (ps : List Piece) (lasts : List Bool) → lasts ≡ reverse (lasts_in ps) → length lasts ≡ length ps
lasts_length ps lasts is = ap length is ∙ length-reverse (lasts_in ps) ∙ lasts_long ps

-- each job of the run has all its units by the end
module _ (c : RunConstants) (facts : HasPlanFacts c) (cost : ℕ → ℕ → ℕ) (run : ℕ → Option (ℕ × ℕ)) (is_met : IsMetRun c cost run) where
  totals_are : (i n : ℕ) → IsJob c i n → is_met.units i n ≡ totals c run i n
  totals_are i n job =
      omega (arith, is_met.met i n job, units_rise run i n (c.deadline i n) c.end (facts.within i n job), never_more c is_met.units run is_met.edf.timed i n c.end)

  pub total_units : AreUnits c cost (totals c run)
  total_units i n job = (let h = is_met.are i n job in let e = totals_are i n job in (omega (arith, h, e), omega (arith, h, e)))

  pub total_edf : IsEdfRun c (totals c run) run
  total_edf = edf_as c is_met.units (totals c run) totals_are run is_met.edf

  pub total_met : MeetsAllWindows c (totals c run) run
  total_met = met_as c is_met.units (totals c run) totals_are run is_met.met
