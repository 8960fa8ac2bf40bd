-- Lists of events that grow by one at their end.
use Rattle.prl_base.proofs.Standard.{◌≡◌, List, [], ◌∷◌, ◌++◌, refl, ap, sym, subst, ◌∙◌, filter, filter-append}
use Rattle.prl_plan.specs.Vocabulary.{RunConstants, ExecState, after_event, after_events, IsLegal, KeepsLegal}
use Rattle.prl_plan.specs.declared.events.Event.{Event}
use Rattle.prl_track.specs.declared.seen.Seen.{Seen}
use Rattle.prl_core.specs.Cores.{CoreView, constants, Tells}
use Rattle.prl_replay.specs.Replays.{is_read, after, after_all, TellsAll}

pub after_events_push : (c : RunConstants) (s : ExecState) (events : List Event) (event : Event)
    → after_events c s (events ++ event ∷ []) ≡ after_event c (after_events c s events) event
after_events_push c s [] event = refl
after_events_push c s (first ∷ events) event = after_events_push c (after_event c s first) events event

pub IsLegal_push : (c : RunConstants) (s : ExecState) (events : List Event) (event : Event)
    → IsLegal c s events → KeepsLegal c (after_events c s events) event → IsLegal c s (events ++ event ∷ [])
IsLegal_push c s [] event h k = (k, tt)
IsLegal_push c s (first ∷ events) event h k = (h.0, IsLegal_push c (after_event c s first) events event h.1 k)

pub TellsAll_push : (core : CoreView) (events : List Event) (event : Event) (seens : List Seen) (seen : Seen)
    → TellsAll core events seens → Tells (after_all core events) event seen → TellsAll core (events ++ event ∷ []) (seens ++ seen ∷ [])
TellsAll_push core [] event [] seen h t = (t, tt)
TellsAll_push core [] event (s ∷ seens) seen h t = absurd h
TellsAll_push core (first ∷ events) event [] seen h t = absurd h
TellsAll_push core (first ∷ events) event (s ∷ seens) seen h t =
    (h.0, TellsAll_push (after core first) events event seens seen h.1 t)

-- one event more keeps the rules
pub legal_on : (core now : CoreView) (done more : List Event) (event : Event) → more ≡ done ++ event ∷ [] → now ≡ after_all core done
    → IsLegal (constants core) core.state done → KeepsLegal (constants now) now.state event → IsLegal (constants core) core.state more
legal_on core now done more event e s h k =
    let here : KeepsLegal (constants core) (after_all core done).state event = subst (λ (m : CoreView). KeepsLegal (constants m) m.state event) s k in
    subst (IsLegal (constants core) core.state) (sym e) (IsLegal_push (constants core) core.state done event h here)

-- the machine after one event more
pub state_on : (core now next : CoreView) (done more : List Event) (event : Event) → more ≡ done ++ event ∷ [] → now ≡ after_all core done
    → next ≡ record now { state = after_event (constants now) now.state event } → next ≡ after_all core more
state_on core now next done more event e s n =
    n ∙ ap (λ (m : CoreView). after m event) s ∙ ap (λ state. record core { state = state }) (sym (after_events_push (constants core) core.state done event))
    ∙ ap (after_all core) (sym e)

-- what is told of one event more
pub told_on : (core now : CoreView) (done more : List Event) (event : Event) (reads kept : List Seen) (seen : Seen) → more ≡ done ++ event ∷ [] → now ≡ after_all core done
    → ((seens : List Seen) × TellsAll core done seens × (reads ≡ filter is_read seens)) → Tells now event seen → kept ≡ reads ++ filter is_read (seen ∷ [])
    → (seens : List Seen) × TellsAll core more seens × (kept ≡ filter is_read seens)
told_on core now done more event reads kept seen e s h t k =
    let here : Tells (after_all core done) event seen = subst (λ (m : CoreView). Tells m event seen) s t in (
      h.0 ++ seen ∷ [],
      subst (λ (m : List Event). TellsAll core m (h.0 ++ seen ∷ [])) (sym e) (TellsAll_push core done event h.0 seen h.1 here),
      k ∙ ap (λ r. r ++ filter is_read (seen ∷ [])) h.2 ∙ sym (filter-append is_read h.0 (seen ∷ [])),
    )
