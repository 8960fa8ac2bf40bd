-- All acts of one job, one after another.
use Rattle.prl_base.proofs.Standard.{◌≡◌, ◌≢◌, ◌+◌, ◌<◌, ◌++◌, ℕ, zero, suc, List, [], ◌∷◌, length, get_or, replicate, set, inl, inr, refl, sym, ap, subst, ◌∙◌, arith, cases_eq, get_or-set_at}
use Rattle.prl_base.proofs.Standard.{get_or-set_other}
use Rattle.std.proofs.lemmas.List.{length-set}
use Rattle.prl_plan.specs.Vocabulary.{IsJob, RunConstants, ExecState, action_at, next_action, after_action, after_event, after_events, IsUnfinished, KeepsLegal, IsLegal}
use Rattle.prl_plan.specs.declared.events.Action.{Action}
use Rattle.prl_plan.specs.declared.events.Event.{Event}
use Rattle.prl_plan.specs.declared.events.Action.TheVariants as actions
use Rattle.prl_plan.specs.declared.events.Event.TheVariants as events
use Rattle.prl_edf.specs.Unrolled.{HaveOneEnd}

-- a run of two lists of events
pub state_of_two : (c : RunConstants) (s : ExecState) (xs ys : List Event) → after_events c s (xs ++ ys) ≡ after_events c (after_events c s xs) ys
state_of_two c s [] ys = refl
state_of_two c s (x ∷ xs) ys = state_of_two c (after_event c s x) xs ys

pub legal_of_two : (c : RunConstants) (s : ExecState) (xs ys : List Event) → IsLegal c s xs → IsLegal c (after_events c s xs) ys → IsLegal c s (xs ++ ys)
legal_of_two c s [] ys first second = second
legal_of_two c s (x ∷ xs) ys first second = (first.0, legal_of_two c (after_event c s x) xs ys first.1 second)

-- t is s, but for the ended jobs of task i and its place
pub record Follows (s t : ExecState) (i ended place : ℕ) : Type 0 where
  pub now : t.now ≡ s.now
  pub ended_long : length t.ended ≡ length s.ended
  pub places_long : length t.places ≡ length s.places
  pub ended_here : get_or t.ended i 0 ≡ ended
  pub place_here : get_or t.places i 0 ≡ place
  pub ended_there : (j : ℕ) → j ≢ i → get_or t.ended j 0 ≡ get_or s.ended j 0
  pub place_there : (j : ℕ) → j ≢ i → get_or t.places j 0 ≡ get_or s.places j 0

then_follows : (s t u : ExecState) (i ended place later end : ℕ) → Follows s t i ended place → Follows t u i later end → Follows s u i later end
then_follows s t u i ended place later end a b = record {
  now = b.now ∙ a.now;
  ended_long = b.ended_long ∙ a.ended_long;
  places_long = b.places_long ∙ a.places_long;
  ended_here = b.ended_here;
  place_here = b.place_here;
  ended_there = λ j other. b.ended_there j other ∙ a.ended_there j other;
  place_there = λ j other. b.place_there j other ∙ a.place_there j other;
}

module _ (c : RunConstants) (i : ℕ) where
  -- what keeps a job from acting depends on the date and the ended jobs alone
  keeps_on : (s t : ExecState) → t.now ≡ s.now → ((j : ℕ) → get_or t.ended j 0 ≡ get_or s.ended j 0) →
      KeepsLegal c s (events.Act (record { 0 = i })) → KeepsLegal c t (events.Act (record { 0 = i }))
  keeps_on s t now same keeps =
      let here : get_or t.ended i 0 ≡ get_or s.ended i 0 = same i in
      let has = keeps.0 in
      let at_deadline = ap (c.deadline i) here in (
        record { task = has.task; job = omega (arith, has.job, here); unfinished = omega arith },
        omega (arith, keeps.1, ap (c.release i) here, now),
        (λ j n here_too unfinished early.
            (let is : IsUnfinished c s j n = record { task = unfinished.task; job = unfinished.job; unfinished = (let h = unfinished.unfinished in let e = same j in omega (arith, h, e)) } in
            let h = keeps.2 j n here_too is (omega (arith, early, now)) in
            omega (arith, h, at_deadline))),
      )

  -- an act that is no end moves the place, and may change tags
  moves_on : (s : ExecState) (tags : List ℕ) → i < length s.places →
      Follows s (record s { places = set s.places i (get_or s.places i 0 + 1); tags = tags }) i (get_or s.ended i 0) (get_or s.places i 0 + 1)
  moves_on s tags inside = record {
    now = refl;
    ended_long = refl;
    places_long = length-set s.places i (get_or s.places i 0 + 1);
    ended_here = refl;
    place_here = get_or-set_at s.places i i (get_or s.places i 0 + 1) 0 refl inside;
    ended_there = λ j other. refl;
    place_there = λ j other. get_or-set_other s.places i j (get_or s.places i 0 + 1) 0 other;
  }

  moves : (s : ExecState) → i < length s.places → (action : Action) → next_action c s i ≡ action → (action ≡ actions.End → ⊥) →
      Follows s (after_action s i action) i (get_or s.ended i 0) (get_or s.places i 0 + 1)
  moves s inside actions.End is none = absurd (none refl)
  moves s inside (actions.ReadConst port value) is none = moves_on s s.tags inside
  moves s inside (actions.Read port e m slot) is none = moves_on s s.tags inside
  moves s inside (actions.Write e m slot) is none = moves_on s (after_action s i (actions.Write e m slot)).tags inside

  ends : (s : ExecState) → i < length s.places → i < length s.ended → Follows s (after_action s i actions.End) i (get_or s.ended i 0 + 1) 0
  ends s inside in_ended = record {
    now = refl;
    ended_long = length-set s.ended i (get_or s.ended i 0 + 1);
    places_long = length-set s.places i 0;
    ended_here = get_or-set_at s.ended i i (get_or s.ended i 0 + 1) 0 refl in_ended;
    place_here = get_or-set_at s.places i i 0 0 refl inside;
    ended_there = λ j other. get_or-set_other s.ended i j (get_or s.ended i 0 + 1) 0 other;
    place_there = λ j other. get_or-set_other s.places i j 0 0 other;
  }

  -- the acts of a job from a place on: they are legal where the first is, and end the job
  module _ (one : HaveOneEnd c) (n : ℕ) (job : IsJob c i n) where
    pub record ActsWell (s : ExecState) (list : List Event) : Type 0 where
      pub legal : IsLegal c s list
      pub after : Follows s (after_events c s list) i (get_or s.ended i 0 + 1) 0

    pub acts_well : (left : ℕ) (s : ExecState) → get_or s.ended i 0 ≡ n → get_or s.places i 0 + suc left ≡ length (c.actions i n) → i < length s.places → i < length s.ended →
        KeepsLegal c s (events.Act (record { 0 = i })) → ActsWell s (replicate (suc left) (events.Act (record { 0 = i })))
    acts_well zero s first at inside in_ended keeps =
        let end = one.last i n job in
        let place : get_or s.places i 0 ≡ end.0 = (let e = end.1 in omega (arith, at, e)) in
        let is : next_action c s i ≡ actions.End = ap (λ (m : ℕ). action_at c i m (get_or s.places i 0)) first ∙ ap (λ (p : ℕ). action_at c i n p) place ∙ end.2 in
        record {
          legal = (keeps, tt);
          after = subst (λ (a : Action). Follows s (after_action s i a) i (get_or s.ended i 0 + 1) 0) (sym is) (ends s inside in_ended);
        }
    acts_well (suc left) s first at inside in_ended keeps =
        let action : Action = next_action c s i in
        let none : action ≡ actions.End → ⊥ = (λ e.
        (let short = one.only i n (get_or s.places i 0) job (ap (λ (m : ℕ). action_at c i m (get_or s.places i 0)) (sym first) ∙ e) in omega (arith, short, at))) in
        let t : ExecState = after_action s i action in
        let follows = moves s inside action refl none in
        let here = follows.ended_here in
        let same : (j : ℕ) → get_or t.ended j 0 ≡ get_or s.ended j 0 = (λ j. elim (cases_eq j i) [
          | inl is ↦ ap (λ (x : ℕ). get_or t.ended x 0) is ∙ follows.ended_here ∙ ap (λ (x : ℕ). get_or s.ended x 0) (sym is)
          | inr other ↦ follows.ended_there j other
        ]) in
        let rest = acts_well left t (here ∙ first)
        (let p = follows.place_here in omega (arith, p, at))
        (let l = follows.places_long in omega (arith, l, inside))
        (let l = follows.ended_long in omega (arith, l, in_ended))
        (keeps_on s t follows.now same keeps) in
        let u : ExecState = after_events c t (replicate (suc left) (events.Act (record { 0 = i }))) in
        record {
          legal = (keeps, rest.legal);
          after = subst (λ (x : ℕ). Follows s u i (x + 1) 0) here
              (then_follows s t u i (get_or s.ended i 0) (get_or s.places i 0 + 1) (get_or t.ended i 0 + 1) 0 follows rest.after);
        }
