-- The reads of constants, which make no step on the table.
use Rattle.std.proofs.Common.{◌≡◌, ℕ, zero, suc, ◌+◌, ◌<◌, List, [], ◌∷◌, ◌++◌, get_or, set, take, refl, sym, ap, ◌∙◌, subst, arith, append-nil, Bool, true, Option, Some}
use Rattle.std.proofs.lemmas.List.{append_assoc, set-set}
use mathlib.Core.Option.{some}
use lib.ListN.{get_elem?}
use Rattle.atomic_table.proofs.Lists.{set_again}
use Rattle.prl_base.specs.declared.values.Value.{Value}
use Rattle.prl_plan.specs.Vocabulary.{completes, operands_before, RunConstants, ExecState, action_at, IsJob}
use Rattle.prl_plan.specs.declared.events.Action.{Action}
use Rattle.prl_plan.specs.declared.events.Event.{Event}
use Rattle.prl_plan.specs.declared.events.Action.TheVariants as actions
use Rattle.prl_plan.specs.declared.events.Event.TheVariants as events
use Rattle.prl_rule.specs.Vocabulary.{Constants, TaskPart, View, RunValues, Witness, Shows, AgreesTask, AgreesWith, reached, with_part, taken, values_with, stand_moved, moved_on, AreConstants}
use Rattle.prl_rule.specs.Vocabulary.{caught_up, acts, PlanLaws}
use Rattle.prl_rule.proofs.ValueSteps.{grows_by_one, values_move}
use Rattle.prl_rule.proofs.Reading.{const_no_read, const_no_high, not_raised}
use Rattle.prl_rule.proofs.Keeps.{moves_keep}
use Rattle.prl_rule.proofs.Parts.{set_found}

module _ (k : Constants) (c : RunConstants) (v : RunValues) where
  -- the words show a state whatever its places are
  pub shows_elsewhere : (raised : ℕ → Bool) (s : ExecState) (words places : List ℕ) → Shows c v raised s words →
      Shows c v raised (record { now = s.now; ended = s.ended; places = places; tags = s.tags }) words
  shows_elsewhere raised s words places a = record { wide = a.wide; now = a.now; done = a.done; slot = a.slot; fits = a.fits; stop = a.stop }

  const_keeps : PlanLaws → (w : Witness) (es : List Event) (words : List ℕ) (views : List View) (id i port : ℕ) (value : Value) (u : View) (p : TaskPart) →
      AgreesWith k c v w es words views → get_elem? views id ≡ some u → get_elem? u.tasks i ≡ some (Some p) → p.stand.is_open ≡ true →
      action_at c i p.stand.ended p.stand.place ≡ actions.ReadConst port value →
      AgreesWith k c v w (es ++ events.Act (record { 0 = i }) ∷ []) words (set views id (with_part i (moved_on c v i 0 p) u))
  const_keeps laws w es words views id i port value u p a at has opened is =
      let part : AgreesTask c v w.raised (reached c es) i p = ((a.each_view id u at).task i p has).2 in
      let job : IsJob c i p.stand.ended = record { task = part.stand.task; job = part.stand.job opened } in
      let calm : p.stop.raised ≡ true → ⊥ = λ r. let o = part.stop.overrun r in
      const_no_read port value o.port o.edge o.instance (record { 0 = p.kept.slot }) (sym is ∙ o.reads) in
      moves_keep k c v laws w es words words views id i u p p.kept (values_with v i p.stand (taken v (action_at c i p.stand.ended p.stand.place) p.kept.low 0) p.values) p.loads
      (actions.ReadConst port value) (reached c es).tags a at has opened is refl tt (λ h. omega arith)
      (shows_elsewhere w.raised (reached c es) words (set (reached c es).places i (get_or (reached c es).places i 0 + 1)) a.shows)
      (not_raised p.stop.raised calm)
      (record {
        tag = part.kept.tag;
        half_read = λ port' e m cell o reads. absurd (const_no_high c a.facts i p.stand.ended job p.stand.place port value is port' e m cell reads);
      })
      (values_move c v a.values i p.stand p.values (taken v (action_at c i p.stand.ended p.stand.place) p.kept.low 0) part.values job
      (subst (λ (x : Action). p.values.operands ++ taken v x p.kept.low 0 ≡ take (operands_before (c.actions i p.stand.ended) (p.stand.place + 1)) (v.operands i p.stand.ended)) (sym is)
      (grows_by_one c i p.stand (v.operands i p.stand.ended) p.values.operands value part.values.operands (ap (λ (x : Action). completes x) is)
      (a.values.constant i p.stand.ended p.stand.place port value job is))))

  -- a later step of the same seat on the part
  pub settled : (w : Witness) (es first second : List Event) (words : List ℕ) (views : List View) (id i : ℕ) (u : View) (p q : TaskPart) →
      AgreesWith k c v w ((es ++ first) ++ second) words (set (set views id (with_part i p u)) id (with_part i q (with_part i p u))) →
      AgreesWith k c v w (es ++ (first ++ second)) words (set views id (with_part i q u))
  settled w es first second words views id i u p q a =
      let P : List Event × List View → Type 0 = λ z. AgreesWith k c v w z.0 words z.1 in
      let same : set (set views id (with_part i p u)) id (with_part i q (with_part i p u)) ≡ set views id (with_part i q u) =
      set-set views id (with_part i p u) (with_part i q (with_part i p u))
      ∙ ap (λ (ts : List (Option TaskPart)). set views id (record { constants = u.constants; tasks = ts; clock = u.clock })) (set-set u.tasks i (Some p) (Some q)) in
      subst P (λ h. (append_assoc es first second h, same h)) a

  -- the reads of constants are acts, and leave the words as they are
  pub catch_up : PlanLaws → (count : ℕ) (w : Witness) (es : List Event) (words : List ℕ) (views : List View) (id i : ℕ) (u : View) (p : TaskPart) →
      AgreesWith k c v w es words views → get_elem? views id ≡ some u → get_elem? u.tasks i ≡ some (Some p) → (0 < count → p.stand.is_open ≡ true) → AreConstants c i p.stand count →
      AgreesWith k c v w (es ++ acts i count) words (set views id (with_part i (caught_up c v i count p) u))
  catch_up laws zero w es words views id i u p a at has opened are =
      let P : List Event × List View → Type 0 = λ z. AgreesWith k c v w z.0 words z.1 in
      let same : set views id (with_part i p u) ≡ views =
      ap (λ (ts : List (Option TaskPart)). set views id (record { constants = u.constants; tasks = ts; clock = u.clock })) (set_again u.tasks i (Some p) has) ∙ set_again views id u at in
      subst P (λ h. (sym (append-nil es) h, sym same h)) a
  catch_up laws (suc count) w es words views id i u p a at has opened are =
      let open_now : p.stand.is_open ≡ true = opened (omega arith) in
      let first = are 0 (omega arith) in
      let place : p.stand.place + 0 ≡ p.stand.place = omega arith in
      let one : action_at c i p.stand.ended p.stand.place ≡ actions.ReadConst first.0 first.1 = ap (λ (x : ℕ). action_at c i p.stand.ended x) (sym place) ∙ first.2 in
      let next = const_keeps laws w es words views id i first.0 first.1 u p a at has open_now one in
      let rest = catch_up laws count w (es ++ events.Act (record { 0 = i }) ∷ []) words (set views id (with_part i (moved_on c v i 0 p) u)) id i (with_part i (moved_on c v i 0 p) u) (moved_on c v i 0 p)
      next (set_found views id u (with_part i (moved_on c v i 0 p) u) at) (set_found u.tasks i (Some p) (Some (moved_on c v i 0 p)) has) (λ l. open_now) (later are) in
      settled w es (events.Act (record { 0 = i }) ∷ []) (acts i count) words views id i u (moved_on c v i 0 p) (caught_up c v i count (moved_on c v i 0 p)) rest
    where
      later : AreConstants c i p.stand (suc count) → AreConstants c i (stand_moved p.stand) count
      later are j below =
          let found = are (j + 1) (omega (arith, below)) in
          let same : p.stand.place + 1 + j ≡ p.stand.place + (j + 1) = omega arith in
          (found.0, found.1, ap (λ (x : ℕ). action_at c i p.stand.ended x) same ∙ found.2)
