-- A solution for the bodies of the applications alone is one for all bodies.
use Rattle.prl_base.proofs.Standard.{◌≡◌, ◌⊎◌, inl, inr, ℕ, zero, suc, Bool, true, false, cond, List, [], ◌∷◌, ◌++◌, map, Option, Some, None, slice_get, refl, sym, ◌∙◌, ap, AllByRecursion}
use Rattle.prl_base.proofs.Standard.{option_to_list, bytes_eq, cases_Bool, bytes_eq-Decides}
use Rattle.prl_base.specs.declared.values.Value.{Value}
use Rattle.prl_body.specs.Bodies.{IsWellTyped, body_named}
use Rattle.prl_body.specs.declared.bodies.CheckedBody.{CheckedBody}
use Rattle.prl_flow.specs.Vocabulary.{HaveBodies, FlatProgram, Rows, Rule, rated, constant, operator, applied, same, sensed, flat_rules, mark_rule, Holds, IsSolution, State, Timed, flow_at}
use Rattle.prl_flow.specs.Vocabulary.{registers_at}
use Rattle.prl_flow.specs.declared.programs.App.{App}
use Rattle.prl_causal.proofs.Elements.{all_both, some_inner}
use Rattle.prl_causal.specs.Conditions.{HaveTypedBodies}
use Rattle.prl_causal.proofs.Rounds.{in_rest}

first_or : (t : Bool) (x b : CheckedBody) (o : Option CheckedBody) → cond t (Some x) o ≡ Some b → ((t ≡ true) × (x ≡ b)) ⊎ ((t ≡ false) × (o ≡ Some b))
first_or true x b o e = inl (refl, some_inner x b e)
first_or false x b o e = inr (refl, e)

-- the first body of a name has it
named_so : (bodies : List CheckedBody) (name : List ℕ) (b : CheckedBody) → body_named bodies name ≡ Some b → b.name ≡ name
named_so [] name b found = absurd (cc)
named_so (x ∷ bodies) name b found = elim (first_or (bytes_eq x.name name) x b (body_named bodies name) found) [
  | inl here ↦ ap (λ (c : CheckedBody). c.name) (sym here.1) ∙ (bytes_eq-Decides x.name name).0 here.0
  | inr later ↦ named_so bodies name b later.1
]

-- the bodies of these applications
bodies_of : List CheckedBody → List App → List CheckedBody
bodies_of bodies [] = []
bodies_of bodies (app ∷ apps) = option_to_list (body_named bodies app.name) ++ bodies_of bodies apps

-- what holds of the body of each application holds of all of them
all_of : (P : CheckedBody → Type 0) (bodies : List CheckedBody) (apps : List App)
    → ((k : ℕ) (app : App) (b : CheckedBody) → slice_get apps k ≡ Some app → body_named bodies app.name ≡ Some b → P b) → AllByRecursion P (bodies_of bodies apps)
unfolding bodies_of
all_of P bodies [] each = tt
all_of P bodies (app ∷ apps) each =
    all_both P (option_to_list (body_named bodies app.name)) (bodies_of bodies apps) (first (body_named bodies app.name) refl)
    (all_of P bodies apps (λ k u b found named. each (suc k) u b found named))
  where
    first : (o : Option CheckedBody) → body_named bodies app.name ≡ o → AllByRecursion P (option_to_list o)
    first None named = tt
    first (Some b) named = (each zero app b refl named, tt)

-- each of these is the one of its name
abbrev IsOwn : List CheckedBody → CheckedBody → Type 0
IsOwn bodies b = body_named bodies b.name ≡ Some b

own_all : (bodies : List CheckedBody) (apps : List App) → AllByRecursion (IsOwn bodies) (bodies_of bodies apps)
own_all bodies apps =
    all_of (IsOwn bodies) bodies apps (λ k app b found named. ap (body_named bodies) (named_so bodies app.name b named) ∙ named)

own_named : (bodies bs : List CheckedBody) (name : List ℕ) (b : CheckedBody) → AllByRecursion (IsOwn bodies) bs → body_named bs name ≡ Some b → body_named bodies name ≡ Some b
own_named bodies [] name b own found = absurd (cc)
own_named bodies (x ∷ bs) name b own found = elim (first_or (bytes_eq x.name name) x b (body_named bs name) found) [
  | inl here ↦ ap (body_named bodies) (sym ((bytes_eq-Decides x.name name).0 here.0)) ∙ own.0 ∙ ap Some here.1
  | inr later ↦ own_named bodies bs name b own.1 later.1
]

-- and where one of them has the name, it is found there
named_own : (bodies bs : List CheckedBody) (name : List ℕ) (b : CheckedBody) (j : ℕ) → AllByRecursion (IsOwn bodies) bs → slice_get bs j ≡ Some b → body_named bodies name ≡ Some b
    → body_named bs name ≡ Some b
named_own bodies [] name b j own found named = absurd (cc)
named_own bodies (x ∷ bs) name b j own found named = elim (cases_Bool (bytes_eq x.name name)) [
  | inl is ↦
      let same : x.name ≡ name = (bytes_eq-Decides x.name name).0 is in
      rw is (sym own.0 ∙ ap (body_named bodies) same ∙ named)
  | inr not ↦
      let other : x ≡ b → ⊥ = λ e.
      let is : bytes_eq x.name name ≡ true = (bytes_eq-Decides x.name name).1 (ap (λ (c : CheckedBody). c.name) e ∙ named_so bodies name b named) in
      absurd (cc) in
      let rest = in_rest x bs j b other found in
      rw not (named_own bodies bs name b rest.0 own.1 rest.1 named)
]

-- the body of an application is among them
among : (bodies : List CheckedBody) (apps : List App) (k : ℕ) (app : App) (b : CheckedBody) → slice_get apps k ≡ Some app → body_named bodies app.name ≡ Some b
    → (j : ℕ) × (slice_get (bodies_of bodies apps) j ≡ Some b)
unfolding bodies_of
among bodies [] k app b found named = absurd (cc)
among bodies (u ∷ apps) zero app b found named = (0, rw (ap (λ (x : App). body_named bodies x.name) (some_inner u app found) ∙ named) refl)
among bodies (u ∷ apps) (suc k) app b found named =
    let (j, at) = among bodies apps k app b found named in
    later (body_named bodies u.name) j at
  where
    later : (o : Option CheckedBody) (j : ℕ) → slice_get (bodies_of bodies apps) j ≡ Some b → (i : ℕ) × (slice_get (option_to_list o ++ bodies_of bodies apps) i ≡ Some b)
    later None j at = (j, at)
    later (Some c) j at = (suc j, at)

holds_for : (bodies own : List CheckedBody) (rows : Rows) (until : ℕ) → ((name : List ℕ) (b : CheckedBody) → body_named own name ≡ Some b → body_named bodies name ≡ Some b)
    → (rule : Rule Timed (List (List Value))) → Holds own rows until rule → Holds bodies rows until rule
holds_for bodies own rows until found (rated rate f) h = h
holds_for bodies own rows until found (constant v f) h = h
holds_for bodies own rows until found (operator op x y) h = h
holds_for bodies own rows until found (applied name args outs registers) h = record {
  body = h.body;
  named = found name h.body h.named;
  clock = h.clock;
  args_clock = h.args_clock;
  outs_clock = h.outs_clock;
  number = h.number;
  first = h.first;
  steps = h.steps;
}
holds_for bodies own rows until found (same f g) h = h
holds_for bodies own rows until found (sensed k f) h = h

all_along : {A : Type 0} (P Q : A → Type 0) → ((x : A) → P x → Q x) → (xs : List A) → AllByRecursion P xs → AllByRecursion Q xs
all_along P Q each [] h = tt
all_along P Q each (x ∷ xs) h = (each x h.0, all_along P Q each xs h.1)

module _ (p : FlatProgram) (bodies : List CheckedBody) where
  pub own_bodies : List CheckedBody
  own_bodies = bodies_of bodies p.apps

  pub own_have : HaveBodies p bodies → HaveBodies p own_bodies
  unfolding own_bodies
  own_have have k app found =
      let b = have k app found in
      let (j, at) = among bodies p.apps k app b.body found b.named in
      record { body = b.body; named = named_own bodies (bodies_of bodies p.apps) app.name b.body j (own_all bodies p.apps) at b.named; fits = b.fits }

  pub own_typed : HaveTypedBodies p bodies → AllByRecursion IsWellTyped own_bodies
  unfolding own_bodies
  own_typed typed = all_of IsWellTyped bodies p.apps (λ k app b found named. typed k app b found named)

  pub own_typed_bodies : HaveTypedBodies p bodies → HaveTypedBodies p own_bodies
  unfolding own_bodies
  own_typed_bodies typed k app b found named = typed k app b found (own_named bodies (bodies_of bodies p.apps) app.name b (own_all bodies p.apps) named)

  pub own_solution : (rows : Rows) (until : ℕ) (s : State) → IsSolution p own_bodies rows until s → IsSolution p bodies rows until s
  unfolding own_bodies
  own_solution rows until s h = record {
    flow_count = h.flow_count;
    register_count = h.register_count;
    timed = h.timed;
    rules = all_along (Holds own_bodies rows until) (Holds bodies rows until)
        (holds_for bodies (bodies_of bodies p.apps) rows until (λ name b named. own_named bodies (bodies_of bodies p.apps) name b (own_all bodies p.apps) named))
        (map (mark_rule (flow_at s) (registers_at s)) (flat_rules p)) h.rules;
  }
