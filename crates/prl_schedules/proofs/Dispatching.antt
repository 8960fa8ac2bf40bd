-- The dispatched list is legal and complete.
use Rattle.std.proofs.Common.{◌≡◌, ◌++◌, ◌<◌, ◌⊎◌, ℕ, zero, suc, List, [], ◌∷◌, Option, Some, None, subst, sym, arith}
use Rattle.std.proofs.lemmas.List.{append_assoc}
use Rattle.prl_plan.specs.Vocabulary.{HasPlanFacts, KeepsLegal, IsLegal, IsComplete, IsFirstUnfinished, IsSound, RunConstants, ExecState, after_event, after_events}
use Rattle.prl_plan.specs.declared.events.Event.{Event}
use Rattle.prl_plan.proofs.StateLaws.{gated_event_keeps_sound, legal_event_is_gated}
use Rattle.prl_track.specs.Vocabulary.{left_in, IsNext}
use Rattle.prl_track.proofs.Falls.{legal_event_leaves_less}
use Rattle.prl_track.proofs.NextLaws.{next_keeps_legal, some_next}
use Rattle.prl_schedules.specs.Dispatches.{IsDispatched}

module _ (c : RunConstants) (facts : HasPlanFacts c) where
  pub dispatched_is_legal : (s : ExecState) (events : List Event) → IsDispatched c s events → IsLegal c s events
  dispatched_is_legal s [] is = tt
  dispatched_is_legal s (event ∷ events) is = (next_keeps_legal c facts s event is.0, dispatched_is_legal (after_event c s event) events is.1)

-- and after it every job has ended
module _ (c : RunConstants) where
  pub dispatched_is_complete : (s : ExecState) (events : List Event) → IsDispatched c s events → IsComplete c (after_events c s events)
  dispatched_is_complete s [] is = is
  dispatched_is_complete s (event ∷ events) is = dispatched_is_complete (after_event c s event) events is.1

-- what goes on from a state goes on from the events that led there
abbrev pub LeadsTo : RunConstants → ExecState → List Event → ExecState → Type 0
LeadsTo c start events s = (rest : List Event) → IsDispatched c s rest → IsDispatched c start (events ++ rest)

pub leads_on : (c : RunConstants) (start s : ExecState) (before after : List Event) (event : Event) → after ≡ before ++ event ∷ [] → LeadsTo c start before s →
    IsNext c s (Some event) → LeadsTo c start after (after_event c s event)
leads_on c start s before after event is leads next rest dispatched =
    subst (λ (list : List Event). IsDispatched c start (list ++ rest)) (sym is)
    (subst (λ (list : List Event). IsDispatched c start list) (sym (append_assoc before (event ∷ []) rest)) (leads (event ∷ rest) (next, dispatched)))

-- what comes next, and then what is dispatched from there
one_more : (c : RunConstants) → HasPlanFacts c → (s : ExecState) → IsSound c s → (next : Option Event) → IsNext c s next →
    ((t : ExecState) → IsSound c t → left_in c t < left_in c s → (events : List Event) × IsDispatched c t events) → (events : List Event) × IsDispatched c s events
one_more c facts s sound None is goes_on = ([], is)
one_more c facts s sound (Some event) is goes_on =
    let keeps : KeepsLegal c s event = next_keeps_legal c facts s event is in
    let rest = goes_on (after_event c s event) (gated_event_keeps_sound c facts s sound event (legal_event_is_gated c facts s sound event keeps))
    (legal_event_leaves_less c facts s sound.tagged event keeps) in
    (event ∷ rest.0, (is, rest.1))

-- from each sound state a list is dispatched
pub some_dispatch : (c : RunConstants) → HasPlanFacts c → ((s : ExecState) → IsComplete c s ⊎ ((i : ℕ) × (n : ℕ) × IsFirstUnfinished c s i n)) →
    (fuel : ℕ) (s : ExecState) → IsSound c s → left_in c s < fuel → (events : List Event) × IsDispatched c s events
some_dispatch c facts decided zero s sound enough = absurd (omega (arith, enough))
some_dispatch c facts decided (suc fuel) s sound enough =
    one_more c facts s sound (some_next c facts s (decided s)).0 (some_next c facts s (decided s)).1
    (λ t is less. some_dispatch c facts decided fuel t is (omega (arith, less, enough)))
