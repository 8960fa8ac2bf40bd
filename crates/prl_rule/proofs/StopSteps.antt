-- Steps on the stop word keep the rule.
use Rattle.std.proofs.Common.{◌≡◌, ℕ, ◌+◌, ◌<◌, ◌≢◌, List, get_or, set, refl, sym, ap, ◌∙◌, inl, inr, arith, length-set, get_or-set_other, get_or-set_same, Bool, true, false, cond, eq-eqb, ne_eqb, Some}
use mathlib.Core.Option.{some}
use mathlib.Core.Logic.{dite}
use native.Mathlib.Decide.{ℕ_discrete}
use lib.ListN.{get_elem?}
use Rattle.prl_plan.specs.declared.events.Action.TheVariants as actions
use Rattle.prl_plan.specs.Vocabulary.{RunConstants, ExecState, ReadsAt}
use Rattle.prl_plan.specs.declared.events.Event.{Event}
use Rattle.prl_rule.specs.Vocabulary.{Constants, TaskPart, ClockPart, View, RunValues, done_word, slot_word, stop_word, Witness, AgreesTask, AgreesClock, IsOverrun, IsStop, IsToldStop, AgreesWith}
use Rattle.prl_rule.specs.Vocabulary.{reached, with_part, with_clock, part_raised, stop_loaded, clock_stop_loaded, raised_by, PlanLaws}
use Rattle.prl_rule.specs.declared.views.Gate.TheVariants as gates
use Rattle.prl_rule.proofs.Keeps.{keeps_state, view_with, next_of}
use Rattle.prl_rule.proofs.ClockSteps.{clock_with}

module _ (k : Constants) (c : RunConstants) (v : RunValues) where
  raised_stays : (w : Witness) (i j : ℕ) → w.raised j ≡ true → (raised_by i w).raised j ≡ true
  raised_stays w i j r = dite (ℕ_discrete j i)
      (λ e. ap (λ (b : Bool). cond b true (w.raised j)) (eq-eqb j i e))
      (λ ne. ap (λ (b : Bool). cond b true (w.raised j)) (ne_eqb j i ne) ∙ r)

  raised_here : (w : Witness) (i : ℕ) → (raised_by i w).raised i ≡ true
  raised_here w i = ap (λ (b : Bool). cond b true (w.raised i)) (eq-eqb i i refl)

  raised_else : (w : Witness) (i j : ℕ) → j ≢ i → (raised_by i w).raised j ≡ w.raised j
  raised_else w i j ne = ap (λ (b : Bool). cond b true (w.raised j)) (ne_eqb j i ne)

  told_stays : (w : Witness) (i n : ℕ) → IsToldStop w.raised n → IsToldStop (raised_by i w).raised n
  told_stays w i n (inl none) = inl none
  told_stays w i n (inr some_) = inr (some_.0, some_.1, raised_stays w i some_.0 some_.2)

  other_task : (w : Witness) (s : ExecState) (i j : ℕ) (r : TaskPart) → j ≢ i → AgreesTask c v w.raised s j r → AgreesTask c v (raised_by i w).raised s j r
  other_task w s i j r ne a = record {
    stand = a.stand;
    kept = a.kept;
    values = a.values;
    stop = record { same = a.stop.same ∙ sym (raised_else w i j ne); overrun = a.stop.overrun; told = told_stays w i r.stop.word a.stop.told };
  }

  clock_stays : (w : Witness) (s : ExecState) (i : ℕ) (r : ClockPart) → AgreesClock c w.raised s r → AgreesClock c (raised_by i w).raised s r
  clock_stays w s i r a = record { now = a.now; wide = a.wide; looks = a.looks; told = told_stays w i r.stop a.told }

  -- on a gated board no part has overrun
  pub no_overrun : PlanLaws → (w : Witness) (es : List Event) (words : List ℕ) (views : List View) (id i : ℕ) (u : View) (p : TaskPart) → AgreesWith k c v w es words views → k.gate ≡ gates.Gated →
      get_elem? views id ≡ some u → get_elem? u.tasks i ≡ some (Some p) → IsOverrun c i p.stand p.kept → ⊥
  no_overrun laws w es words views id i u p a gate at has o =
      let part : AgreesTask c v w.raised (reached c es) i p = ((a.each_view id u at).task i p has).2 in
      let next = next_of k c v (reached c es) i p.stand (actions.Read o.port o.edge o.instance (record { 0 = p.kept.slot })) part.stand o.opened o.reads in
      let reads : ReadsAt c i (get_or (reached c es).ended i 0) (get_or (reached c es).places i 0) o.instance p.kept.slot =
      record { job = record { task = next.has.task; job = next.has.job }; action = (o.port, o.edge, next.is) } in
      let kept = part.kept.tag in let later = o.later in
      omega (arith, laws.held c a.facts es (a.gated gate) i _ _ o.instance p.kept.slot reads next.has, kept, later)

  pub raise_keeps : PlanLaws → (w : Witness) (es : List Event) (words : List ℕ) (views : List View) (id i : ℕ) (u : View) (p : TaskPart) → AgreesWith k c v w es words views →
      get_elem? views id ≡ some u → get_elem? u.tasks i ≡ some (Some p) → IsOverrun c i p.stand p.kept →
      AgreesWith k c v (raised_by i w) es (set words (stop_word c) (i + 1)) (set views id (with_part i (part_raised p) u))
  raise_keeps laws w es words views id i u p a at has o =
      let mine = a.each_view id u at in
      let there = mine.task i p has in
      let part : AgreesTask c v w.raised (reached c es) i p = there.2 in
      keeps_state k c v w (raised_by i w) es words (set words (stop_word c) (i + 1)) views id (with_part i (part_raised p) u) a
      (λ gate. absurd (no_overrun laws w es words views id i u p a gate at has o))
      (record {
        wide = length-set words (stop_word c) (i + 1) ∙ a.shows.wide;
        now = get_or-set_other words (stop_word c) 0 (i + 1) 0 (λ e. absurd (omega (arith, e))) ∙ a.shows.now;
        done = λ j t. get_or-set_other words (stop_word c) (done_word j) (i + 1) 0 (λ e. absurd (omega (arith, e, t))) ∙ a.shows.done j t;
        slot = λ j t. get_or-set_other words (stop_word c) (slot_word c j) (i + 1) 0 (λ e. absurd (omega (arith, e, t))) ∙ a.shows.slot j t;
        fits = a.shows.fits;
        stop = inr (i, part.stand.task, get_or-set_same words (stop_word c) (i + 1) 0 (omega (arith, a.shows.wide)), raised_here w i);
      })
      (view_with k c v w (raised_by i w) (reached c es) (reached c es) id i u p (part_raised p) mine has (λ j. refl) refl
      (λ j r ne x. other_task w (reached c es) i j r ne x) (λ r x. clock_stays w (reached c es) i r x)
      (record {
        stand = part.stand;
        kept = part.kept;
        values = part.values;
        stop = record {
          same = sym (raised_here w i);
          overrun = λ r. record { opened = o.opened; port = o.port; edge = o.edge; instance = o.instance; reads = o.reads; later = o.later };
          told = told_stays w i p.stop.word part.stop.told;
        };
      }))
      (λ j x ne y. record {
        known = y.known;
        task = λ n r t. let m = y.task n r t in (m.0, m.1, other_task w (reached c es) i n r (λ e. ne (sym m.0 ∙ (ap w.owner e ∙ there.0))) m.2);
        clock = λ r t. let m = y.clock r t in (m.0, m.1, clock_stays w (reached c es) i r m.2);
      })

  stop_told : (tasks n : ℕ) (raised : ℕ → Bool) → IsStop tasks raised n → IsToldStop raised n
  stop_told tasks n raised (inl none) = inl none.0
  stop_told tasks n raised (inr some_) = inr (some_.0, some_.2, some_.3)

  pub load_stop_keeps : (w : Witness) (es : List Event) (words : List ℕ) (views : List View) (id i : ℕ) (u : View) (p : TaskPart) → AgreesWith k c v w es words views →
      get_elem? views id ≡ some u → get_elem? u.tasks i ≡ some (Some p) →
      AgreesWith k c v w es words (set views id (with_part i (stop_loaded (get_or words (stop_word c) 0) p) u))
  load_stop_keeps w es words views id i u p a at has =
      let mine = a.each_view id u at in
      let part : AgreesTask c v w.raised (reached c es) i p = (mine.task i p has).2 in
      keeps_state k c v w w es words words views id (with_part i (stop_loaded (get_or words (stop_word c) 0) p) u) a a.calm a.shows
      (view_with k c v w w (reached c es) (reached c es) id i u p (stop_loaded (get_or words (stop_word c) 0) p) mine has (λ j. refl) refl (λ j r q x. x) (λ r x. x)
      (record {
        stand = part.stand;
        kept = part.kept;
        values = part.values;
        stop = record {
          same = part.stop.same;
          overrun = part.stop.overrun;
          told = stop_told c.tasks (get_or words (stop_word c) 0) w.raised a.shows.stop;
        };
      }))
      (λ j x q y. y)

  pub clock_stop_keeps : (w : Witness) (es : List Event) (words : List ℕ) (views : List View) (id : ℕ) (u : View) (r : ClockPart) → AgreesWith k c v w es words views →
      get_elem? views id ≡ some u → u.clock ≡ Some r →
      AgreesWith k c v w es words (set views id (with_clock (clock_stop_loaded (get_or words (stop_word c) 0) r) u))
  clock_stop_keeps w es words views id u r a at has =
      let mine = a.each_view id u at in
      let clock : AgreesClock c w.raised (reached c es) r = (mine.clock r has).2 in
      keeps_state k c v w w es words words views id (with_clock (clock_stop_loaded (get_or words (stop_word c) 0) r) u) a a.calm a.shows
      (clock_with k c v w w (reached c es) (reached c es) id u r (clock_stop_loaded (get_or words (stop_word c) 0) r) mine has (λ j. refl) refl (λ j p x. x)
      (record { now = clock.now; wide = clock.wide; looks = clock.looks; told = stop_told c.tasks (get_or words (stop_word c) 0) w.raised a.shows.stop }))
      (λ j x q y. y)

  -- what a load of the stop word tells: never 0 where the view has a part that has raised, 0 on a gated board, and else of a task that has raised
  pub stop_not_none : (w : Witness) (es : List Event) (words : List ℕ) (views : List View) (id i : ℕ) (u : View) (p : TaskPart) → AgreesWith k c v w es words views →
      get_elem? views id ≡ some u → get_elem? u.tasks i ≡ some (Some p) → p.stop.raised ≡ true → get_or words (stop_word c) 0 ≢ 0
  stop_not_none w es words views id i u p a at has r zero_ =
      let part : AgreesTask c v w.raised (reached c es) i p = ((a.each_view id u at).task i p has).2 in
      elim a.shows.stop [
        | inl none ↦ (let e : true ≡ false = sym r ∙ part.stop.same ∙ none.1 i part.stand.task in cc)
        | inr some_ ↦ (let e = some_.2 in absurd (omega (arith, e, zero_)))
      ]

  pub stop_gated : (w : Witness) (es : List Event) (words : List ℕ) (views : List View) → AgreesWith k c v w es words views → k.gate ≡ gates.Gated → get_or words (stop_word c) 0 ≡ 0
  stop_gated w es words views a gate =
      elim a.shows.stop [
        | inl none ↦ none.0
        | inr some_ ↦ (let e : true ≡ false = sym some_.3 ∙ a.calm gate some_.0 in cc)
      ]

  pub stop_names : (w : Witness) (es : List Event) (words : List ℕ) (views : List View) → AgreesWith k c v w es words views → get_or words (stop_word c) 0 ≢ 0 →
      (j : ℕ) × (j < c.tasks) × (get_or words (stop_word c) 0 ≡ j + 1) × (w.raised j ≡ true)
  stop_names w es words views a some_ =
      elim a.shows.stop [
        | inl none ↦ absurd (some_ none.0)
        | inr named ↦ named
      ]
