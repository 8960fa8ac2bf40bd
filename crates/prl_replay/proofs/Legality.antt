-- A list of events is whole, or has one first fault.
use Rattle.prl_base.proofs.Standard.{◌≡◌, ◌⊎◌, ℕ, ◌<◌, ◌≤◌, zero, suc, List, [], ◌∷◌, take, length, Some, None, refl, sym, ap, ◌∙◌, inl, inr, subst, arith, slice_get}
use Rattle.prl_plan.specs.Vocabulary.{RunConstants, ExecState, after_event, after_events, IsLegal, KeepsLegal, FirstBroken, IsComplete, IsFirstUnfinished, first_unfinished, HasJob}
use Rattle.prl_plan.specs.declared.events.Event.{Event}
use Rattle.prl_plan.specs.declared.events.Rule.{Rule}
use Rattle.prl_plan.specs.declared.events.Event.TheVariants as events
use Rattle.prl_plan.specs.declared.events.Rule.TheVariants as rules

-- an event that keeps the rules breaks none
pub keeps_none_broken : (c : RunConstants) (s : ExecState) (e : Event) (rule : Rule) → KeepsLegal c s e → FirstBroken c s e rule → ⊥
keeps_none_broken c s (events.Act task) rules.L1 k b = omega (arith, k.1, b.1)
keeps_none_broken c s (events.Act task) rules.L2 k b = elim b [ inl h ↦ omega (arith, h, k.0.task) | inr h ↦ omega (arith, h, k.0.job) ]
keeps_none_broken c s (events.Act task) rules.L3 k b = omega (arith, k.2 b.2.0 b.2.1 b.2.2 b.2.3, b.2.4)
keeps_none_broken c s (events.Act task) rules.L4 k b = b
keeps_none_broken c s events.Tick rules.L1 k b = b
keeps_none_broken c s events.Tick rules.L2 k b = b
keeps_none_broken c s events.Tick rules.L3 k b = b
keeps_none_broken c s events.Tick rules.L4 k b = elim b [ inl h ↦ omega (arith, h, k.within) | inr h ↦ omega (arith, k.ended h.0 h.1 h.2, h.3) ]

-- an event has one first broken rule
no_job : (c : RunConstants) (s : ExecState) (i : ℕ) → HasJob c s i → (c.tasks ≤ i) ⊎ (c.jobs i ≤ first_unfinished s i) → ⊥
no_job c s i h b = elim b [ inl e ↦ omega (arith, e, h.task) | inr e ↦ omega (arith, e, h.job) ]

one_broken : (c : RunConstants) (s : ExecState) (e : Event) (a b : Rule) → FirstBroken c s e a → FirstBroken c s e b → a ≡ b
one_broken c s (events.Act task) rules.L1 rules.L1 f g = refl
one_broken c s (events.Act task) rules.L1 rules.L2 f g = absurd (no_job c s task.0 f.0 g)
one_broken c s (events.Act task) rules.L1 rules.L3 f g = absurd (omega (arith, f.1, g.1))
one_broken c s (events.Act task) rules.L2 rules.L1 f g = absurd (no_job c s task.0 g.0 f)
one_broken c s (events.Act task) rules.L2 rules.L2 f g = refl
one_broken c s (events.Act task) rules.L2 rules.L3 f g = absurd (no_job c s task.0 g.0 f)
one_broken c s (events.Act task) rules.L3 rules.L1 f g = absurd (omega (arith, g.1, f.1))
one_broken c s (events.Act task) rules.L3 rules.L2 f g = absurd (no_job c s task.0 f.0 g)
one_broken c s (events.Act task) rules.L3 rules.L3 f g = refl
one_broken c s (events.Act task) rules.L4 b f g = absurd f
one_broken c s (events.Act task) rules.L1 rules.L4 f g = absurd g
one_broken c s (events.Act task) rules.L2 rules.L4 f g = absurd g
one_broken c s (events.Act task) rules.L3 rules.L4 f g = absurd g
one_broken c s events.Tick rules.L1 b f g = absurd f
one_broken c s events.Tick rules.L2 b f g = absurd f
one_broken c s events.Tick rules.L3 b f g = absurd f
one_broken c s events.Tick rules.L4 rules.L4 f g = refl
one_broken c s events.Tick rules.L4 rules.L1 f g = absurd g
one_broken c s events.Tick rules.L4 rules.L2 f g = absurd g
one_broken c s events.Tick rules.L4 rules.L3 f g = absurd g

some_same : {A : Type 0} (x y : A) → Some x ≡ Some y → x ≡ y
some_same x y e = cc

none_some : {A : Type 0} (x : A) → None ≡ Some x → ⊥
none_some x e = cc

-- in a legal list each event keeps the rules
keeps_at : (c : RunConstants) (s : ExecState) (es : List Event) (i n : ℕ) (e : Event) → IsLegal c s (take n es) → i < n → slice_get es i ≡ Some e
    → KeepsLegal c (after_events c s (take i es)) e
keeps_at c s [] i n e legal below at = absurd (none_some e at)
keeps_at c s (x ∷ es) i zero e legal below at = absurd (omega arith)
keeps_at c s (x ∷ es) zero (suc n) e legal below at = subst (KeepsLegal c s) (some_same x e at) legal.0
keeps_at c s (x ∷ es) (suc i) (suc n) e legal below at = keeps_at c (after_event c s x) es i n e legal.1 (omega arith) at

take_whole : (es : List Event) → take (length es) es ≡ es
take_whole [] = refl
take_whole (x ∷ es) = ap (λ r. x ∷ r) (take_whole es)

within : (es : List Event) (i : ℕ) (e : Event) → slice_get es i ≡ Some e → i < length es
within [] i e at = absurd (none_some e at)
within (x ∷ es) zero e at = omega arith
within (x ∷ es) (suc i) e at = let h = within es i e at in omega (arith, h)

-- the event i is the first that breaks a rule
pub record BreaksAt (c : RunConstants) (s : ExecState) (es : List Event) (i : ℕ) (rule : Rule) : Type 0 where
  pub event : Event
  pub at : slice_get es i ≡ Some event
  pub legal : IsLegal c s (take i es)
  pub broken : FirstBroken c (after_events c s (take i es)) event rule

-- a list with such an event is not legal
pub legal_none_broken : (c : RunConstants) (s : ExecState) (es : List Event) (i : ℕ) (rule : Rule) → IsLegal c s es → BreaksAt c s es i rule → ⊥
legal_none_broken c s es i rule legal b =
    keeps_none_broken c (after_events c s (take i es)) b.event rule
    (keeps_at c s es i (length es) b.event (subst (IsLegal c s) (sym (take_whole es)) legal) (within es i b.event b.at) b.at) b.broken

not_before : (c : RunConstants) (s : ExecState) (es : List Event) (i j : ℕ) (q r : Rule) → BreaksAt c s es i q → BreaksAt c s es j r → i < j → ⊥
not_before c s es i j q r a b below =
    keeps_none_broken c (after_events c s (take i es)) a.event q (keeps_at c s es i j a.event b.legal below a.at) a.broken

-- there is one first event that breaks a rule
pub one_break : (c : RunConstants) (s : ExecState) (es : List Event) (i j : ℕ) (q r : Rule) → BreaksAt c s es i q → BreaksAt c s es j r → (i ≡ j) × (q ≡ r)
one_break c s es i j q r a b =
    let low : i < j → ⊥ = not_before c s es i j q r a b in
    let high : j < i → ⊥ = not_before c s es j i r q b a in
    let same : i ≡ j = omega (arith, low, high) in
    let here : BreaksAt c s es i r = subst (λ k. BreaksAt c s es k r) (sym same) b in
    let event : here.event ≡ a.event = some_same here.event a.event (sym here.at ∙ a.at) in
    (same, one_broken c (after_events c s (take i es)) a.event q r a.broken (subst (λ (e : Event). FirstBroken c (after_events c s (take i es)) e r) event here.broken))

-- a complete run has no unfinished job, and there is one first unfinished job
pub complete_finished : (c : RunConstants) (s : ExecState) (i n : ℕ) → IsComplete c s → IsFirstUnfinished c s i n → ⊥
complete_finished c s i n complete left = omega (arith, complete i n left.task left.job, left.first)

not_lower : (c : RunConstants) (s : ExecState) (i n j m : ℕ) → IsFirstUnfinished c s i n → IsFirstUnfinished c s j m → i < j → ⊥
not_lower c s i n j m a b below = omega (arith, b.lowest i below, a.job, a.first)

pub one_unfinished : (c : RunConstants) (s : ExecState) (i n j m : ℕ) → IsFirstUnfinished c s i n → IsFirstUnfinished c s j m → (i ≡ j) × (n ≡ m)
one_unfinished c s i n j m a b =
    let low : i < j → ⊥ = not_lower c s i n j m a b in
    let high : j < i → ⊥ = not_lower c s j m i n b a in
    let same : i ≡ j = omega (arith, low, high) in
    (same, a.first ∙ ap (first_unfinished s) same ∙ sym b.first)
