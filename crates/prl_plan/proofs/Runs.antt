-- A run of two lists of events: the second's from where the first ends.
use Rattle.std.proofs.Common.{◌≡◌, ◌++◌, ◌↔◌, List, [], ◌∷◌, refl}
use Rattle.prl_plan.specs.Vocabulary.{Event, RunConstants, ExecState, after_event, after_events, IsLegal, IsGated, IsFree, KeepsLegal, KeepsGated, KeepsFree}

pub after_events_append : (c : RunConstants) (s : ExecState) (xs ys : List Event) →
    after_events c s (xs ++ ys) ≡ after_events c (after_events c s xs) ys
after_events_append c s [] ys = refl
after_events_append c s (x ∷ xs) ys = after_events_append c (after_event c s x) xs ys

-- what each event of a list keeps in turn is kept by the first list and then by the second
append_by : (c : RunConstants) (P : ExecState → List Event → Type 0) (Keeps : ExecState → Event → Type 0) → ((s : ExecState) → P s []) →
    ((s : ExecState) (x : Event) (xs : List Event) → P s (x ∷ xs) ↔ (Keeps s x × P (after_event c s x) xs)) →
    (s : ExecState) (xs ys : List Event) → P s (xs ++ ys) ↔ (P s xs × P (after_events c s xs) ys)
append_by c P Keeps none more s [] ys = ((λ h. (none s, h)), (λ h. h.1))
append_by c P Keeps none more s (x ∷ xs) ys =
    let rest = append_by c P Keeps none more (after_event c s x) xs ys in
    let whole = more s x (xs ++ ys) in
    let front = more s x xs in
    ((λ h. (front.1 ((whole.0 h).0, (rest.0 (whole.0 h).1).0), (rest.0 (whole.0 h).1).1)), (λ h. whole.1 ((front.0 h.0).0, rest.1 ((front.0 h.0).1, h.1))))

pub IsLegal_append : (c : RunConstants) (s : ExecState) (xs ys : List Event) → IsLegal c s (xs ++ ys) ↔ (IsLegal c s xs × IsLegal c (after_events c s xs) ys)
IsLegal_append c = append_by c (IsLegal c) (KeepsLegal c) (λ s. tt) (λ s x xs. ((λ h. h), (λ h. h)))

pub IsGated_append : (c : RunConstants) (s : ExecState) (xs ys : List Event) → IsGated c s (xs ++ ys) ↔ (IsGated c s xs × IsGated c (after_events c s xs) ys)
IsGated_append c = append_by c (IsGated c) (KeepsGated c) (λ s. tt) (λ s x xs. ((λ h. h), (λ h. h)))

pub IsFree_append : (c : RunConstants) (s : ExecState) (xs ys : List Event) → IsFree c s (xs ++ ys) ↔ (IsFree c s xs × IsFree c (after_events c s xs) ys)
IsFree_append c = append_by c (IsFree c) (KeepsFree c) (λ s. tt) (λ s x xs. ((λ h. h), (λ h. h)))
