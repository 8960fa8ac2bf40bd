-- Events line by line.
use Rattle.std.proofs.Common.{◌≡◌, ℕ, ◌+◌, ◌<◌, List, [], ◌∷◌, ◌++◌, length, Some, None, Result, Ok, Err, refl, sym, ap, ◌∙◌, arith, append_assoc}
use Rattle.prl_base.specs.Vocabulary.{cut_line, lines_of, ◌>>=◌}
use Rattle.prl_base.proofs.LineCuts.{lines_of_cut, lines_of_end, length_lines_of}
use Rattle.prl_plan.specs.declared.events.Event.{Event}
use Rattle.prl_schedules.specs.Vocabulary.{ScheduleFault, or_line, event_of, without_return, events_from}

-- events with more events in front of them
abbrev pub with_front : List Event → Result (List Event) ScheduleFault → Result (List Event) ScheduleFault
with_front front read = read >>= λ events. Ok (front ++ events)

-- one event in front
abbrev pub then_events : Result (List Event) ScheduleFault → Event → Result (List Event) ScheduleFault
then_events read event = read >>= λ events. Ok (event ∷ events)

events_from_cons : (names : List (List ℕ)) (k : ℕ) (line : List ℕ) (lines : List (List ℕ)) → 0 < length lines
    → events_from names k (line ∷ lines) ≡ (or_line k (event_of names (without_return line)) >>= then_events (events_from names (k + 1) lines))
events_from_cons names k line [] h = absurd (omega arith)
events_from_cons names k line (next ∷ lines) h = refl

regroup : (front : List Event) (event : Event) (read : Result (List Event) ScheduleFault)
    → with_front (front ++ event ∷ []) read ≡ with_front front (then_events read event)
regroup front event (Err fault) = refl
regroup front event (Ok events) = ap Ok (append_assoc front (event ∷ []) events)

left_in_cut : (names : List (List ℕ)) (k : ℕ) (text line after : List ℕ) → cut_line text ≡ Some (line, after)
    → events_from names k (lines_of text) ≡ (or_line k (event_of names (without_return line)) >>= then_events (events_from names (k + 1) (lines_of after)))
left_in_cut names k text line after cut =
    ap (events_from names k) (lines_of_cut text line after cut) ∙ events_from_cons names k line (lines_of after) (length_lines_of after)

-- a line that is an event puts it after those in front
pub with_front_event : (names : List (List ℕ)) (k : ℕ) (front : List Event) (text line after : List ℕ) (event : Event) → cut_line text ≡ Some (line, after)
    → or_line k (event_of names (without_return line)) ≡ Ok event
    → with_front (front ++ event ∷ []) (events_from names (k + 1) (lines_of after)) ≡ with_front front (events_from names k (lines_of text))
with_front_event names k front text line after event cut read =
    regroup front event (events_from names (k + 1) (lines_of after))
    ∙ ap (λ r. with_front front (r >>= then_events (events_from names (k + 1) (lines_of after)))) (sym read)
    ∙ ap (with_front front) (sym (left_in_cut names k text line after cut))

-- a line that is none is the fault
pub with_front_fault : (names : List (List ℕ)) (k : ℕ) (front : List Event) (text line after : List ℕ) (fault : ScheduleFault) → cut_line text ≡ Some (line, after)
    → or_line k (event_of names (without_return line)) ≡ Err fault
    → with_front front (events_from names k (lines_of text)) ≡ Err fault
with_front_fault names k front text line after fault cut read =
    ap (with_front front) (left_in_cut names k text line after cut ∙ ap (λ r. r >>= then_events (events_from names (k + 1) (lines_of after))) read)

-- where more is left, it is a line
pub with_front_last : (names : List (List ℕ)) (k : ℕ) (front : List Event) (text : List ℕ) → cut_line text ≡ None → (length text ≡ 0 → ⊥)
    → with_front front (events_from names k (lines_of text)) ≡ (or_line k (event_of names text) >>= λ event. Ok (front ++ event ∷ []))
with_front_last names k front [] e some = absurd (some refl)
with_front_last names k front (b ∷ bs) e some =
    ap (λ l. with_front front (events_from names k l)) (lines_of_end (b ∷ bs) e) ∙ regroup_last front (or_line k (event_of names (b ∷ bs)))
  where
    regroup_last : (front : List Event) (read : Result Event ScheduleFault)
        → with_front front (read >>= λ event. Ok (event ∷ [])) ≡ (read >>= λ event. Ok (front ++ event ∷ []))
    regroup_last front (Err fault) = refl
    regroup_last front (Ok event) = refl
