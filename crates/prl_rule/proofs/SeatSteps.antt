-- Steps on seats: a split, a join, and the entry of a spent seat.
use Rattle.std.proofs.Common.{◌≡◌, ℕ, zero, suc, ◌≢◌, ◌⊎◌, List, [], ◌∷◌, ◌++◌, length, get_or, set, replicate, refl, sym, ap, ◌∙◌, subst, inl, inr, ⊎_elim, length-set, Bool, cond, eq-eqb, ne_eqb, Option, Some, None}
use mathlib.Core.Option.{some, some-injective, some-ne-none}
use lib.ListN.{get_elem?}
use Rattle.atomic_table.proofs.Lists.{at_set}
use Rattle.prl_plan.specs.Runs.{RunConstants, ExecState}
use Rattle.prl_plan.specs.declared.events.Event.{Event}
use Rattle.prl_rule.specs.Vocabulary.{Constants, TaskPart, ClockPart, View, RunValues, Witness, AgreesTask, AgreesView, AgreesWith, reached, without_part, only_part, first_of, merged, joined, spent}
use Rattle.prl_rule.specs.Vocabulary.{bare, given_to, moved_owner, taken_in}
use Rattle.prl_rule.proofs.Parts.{part_there}

-- lists that grow by one at their end
at_grown : {A : Type 0} (l : List A) (a b : A) (j : ℕ) → get_elem? (l ++ a ∷ []) j ≡ some b → (get_elem? l j ≡ some b) ⊎ ((j ≡ length l) × (a ≡ b))
at_grown [] a b zero e = inr (refl, some-injective a b e)
at_grown [] a b (suc j) e = absurd (some-ne-none b (sym e))
at_grown (x ∷ xs) a b zero e = inl e
at_grown (x ∷ xs) a b (suc j) e = ⊎_elim (λ t. inl t) (λ t. inr (ap suc t.0, t.1)) (at_grown xs a b j e)

-- only place i of a list of so many places is filled, with what stands there in another list
none_there : (n j : ℕ) (p : TaskPart) → get_elem? (replicate n None) j ≡ some (Some p) → ⊥
none_there zero j p e = some-ne-none (Some p) (sym e)
none_there (suc n) zero p e = let same : None ≡ Some p = some-injective None (Some p) e in cc
none_there (suc n) (suc j) p e = none_there n j p e

-- what stands in a merged list stands in one of the two
merged_at : (ps qs : List (Option TaskPart)) (j : ℕ) (p : TaskPart) → get_elem? (merged ps qs) j ≡ some (Some p) → (get_elem? ps j ≡ some (Some p)) ⊎ (get_elem? qs j ≡ some (Some p))
merged_at [] qs j p e = inr e
merged_at (x ∷ ps) [] j p e = inl e
merged_at (Some x ∷ ps) (q ∷ qs) zero p e = inl e
merged_at (None ∷ ps) (q ∷ qs) zero p e = inr e
merged_at (x ∷ ps) (q ∷ qs) (suc j) p e = merged_at ps qs j p e

-- and what stands in one of them is not lost
pub merged_first : (ps qs : List (Option TaskPart)) (j : ℕ) (p : TaskPart) → get_elem? ps j ≡ some (Some p) → get_elem? (merged ps qs) j ≡ some (Some p)
merged_first [] qs j p e = absurd (some-ne-none (Some p) (sym e))
merged_first (x ∷ ps) [] j p e = e
merged_first (Some x ∷ ps) (q ∷ qs) zero p e = e
merged_first (None ∷ ps) (q ∷ qs) zero p e = let same : None ≡ Some p = some-injective None (Some p) e in absurd (cc same)
merged_first (x ∷ ps) (q ∷ qs) (suc j) p e = merged_first ps qs j p e

-- what the first list does not have, and the other has
pub merged_other : (ps qs : List (Option TaskPart)) (j : ℕ) (p : TaskPart) → ((q : TaskPart) → get_elem? ps j ≡ some (Some q) → ⊥) → get_elem? qs j ≡ some (Some p) →
    get_elem? (merged ps qs) j ≡ some (Some p)
merged_other [] qs j p none e = e
merged_other (x ∷ ps) [] j p none e = absurd (some-ne-none (Some p) (sym e))
merged_other (Some x ∷ ps) (q ∷ qs) zero p none e = absurd (none x refl)
merged_other (None ∷ ps) (q ∷ qs) zero p none e = e
merged_other (x ∷ ps) (q ∷ qs) (suc j) p none e = merged_other ps qs j p none e

first_clock : (r r' : Option ClockPart) (p : ClockPart) → r ≡ Some p → first_of r r' ≡ Some p
first_clock (Some r) r' p e = e
first_clock None r' p e = absurd (cc e)

other_clock : (r r' : Option ClockPart) (p : ClockPart) → ((q : ClockPart) → r ≡ Some q → ⊥) → r' ≡ Some p → first_of r r' ≡ Some p
other_clock (Some r) r' p none e = absurd (none r refl)
other_clock None r' p none e = e

clock_of : (r r' : Option ClockPart) (p : ClockPart) → first_of r r' ≡ Some p → (r ≡ Some p) ⊎ (r' ≡ Some p)
clock_of (Some r) r' p e = inl e
clock_of None r' p e = inr e

module _ (k : Constants) (c : RunConstants) (v : RunValues) where
  owner_here : (i id : ℕ) (w : Witness) → (given_to i id w).owner i ≡ id
  owner_here i id w = ap (λ (b : Bool). cond b id (w.owner i)) (eq-eqb i i refl)

  owner_else : (i id j : ℕ) (w : Witness) → j ≢ i → (given_to i id w).owner j ≡ w.owner j
  owner_else i id j w ne = ap (λ (b : Bool). cond b id (w.owner j)) (ne_eqb j i ne)

  -- another view keeps its parts where another seat gets the part of task i
  others_keep : (w : Witness) (s : ExecState) (i new j : ℕ) (x : View) → w.owner i ≢ j → AgreesView k c v w s j x → AgreesView k c v (given_to i new w) s j x
  others_keep w s i new j x ne a = record {
    known = a.known;
    task = λ n p t. let m = a.task n p t in (owner_else i new n w (λ e. ne (sym (ap w.owner e) ∙ m.0)) ∙ m.0, m.1, m.2);
    clock = a.clock;
  }

  -- where the state stays, only the views and their owners matter
  owners_keep : (w : Witness) (owner : ℕ → ℕ) (clock_owner : ℕ) (es : List Event) (words : List ℕ) (views after : List View) → AgreesWith k c v w es words views →
      ((j : ℕ) (x : View) → get_elem? after j ≡ some x → AgreesView k c v (record { owner = owner; clock_owner = clock_owner; raised = w.raised }) (reached c es) j x) →
      AgreesWith k c v (record { owner = owner; clock_owner = clock_owner; raised = w.raised }) es words after
  owners_keep w owner clock_owner es words views after a each =
      record { facts = a.facts; values = a.values; free = a.free; gated = a.gated; calm = a.calm; shows = a.shows; each_view = each }

  pub split_keeps : (w : Witness) (es : List Event) (words : List ℕ) (views : List View) (id i : ℕ) (u : View) (p : TaskPart) → AgreesWith k c v w es words views →
      get_elem? views id ≡ some u → get_elem? u.tasks i ≡ some (Some p) →
      AgreesWith k c v (given_to i (length views) w) es words (set views id (without_part i u) ++ only_part i u ∷ [])
  split_keeps w es words views id i u p a at has =
      let mine = a.each_view id u at in
      let there = mine.task i p has in
      owners_keep w (given_to i (length views) w).owner w.clock_owner es words views (set views id (without_part i u) ++ only_part i u ∷ []) a (λ j x e. ⊎_elim
      (λ old. ⊎_elim
      (λ t. let P : ℕ × View → Type 0 = λ z. AgreesView k c v (given_to i (length views) w) (reached c es) z.0 z.1 in subst P (λ h. (sym t.0 h, t.1 h)) (left mine))
      (λ t. others_keep w (reached c es) i (length views) j x (λ same. t.0 (sym same ∙ there.0)) (a.each_view j x t.1))
      (at_set views id j (without_part i u) x old))
      (λ new. let place : j ≡ length views = new.0 ∙ length-set views id (without_part i u) in
      let P : ℕ × View → Type 0 = λ z. AgreesView k c v (given_to i (length views) w) (reached c es) z.0 z.1 in subst P (λ h. (sym place h, new.1 h)) (right mine there))
      (at_grown (set views id (without_part i u)) (only_part i u) x j e))
    where
      left : AgreesView k c v w (reached c es) id u → AgreesView k c v (given_to i (length views) w) (reached c es) id (without_part i u)
      left mine = record {
        known = mine.known;
        task = λ n q t. ⊎_elim
            (λ same. let z : None ≡ Some q = same.1 in absurd (cc z))
            (λ other. let m = mine.task n q other.1 in (owner_else i (length views) n w other.0 ∙ m.0, m.1, m.2))
            (at_set u.tasks i n None (Some q) t);
        clock = mine.clock;
      }

      right : AgreesView k c v w (reached c es) id u → (w.owner i ≡ id) × (u.constants ≡ Some k) × AgreesTask c v w.raised (reached c es) i p →
          AgreesView k c v (given_to i (length views) w) (reached c es) (length views) (only_part i u)
      right mine there = record {
        known = mine.known;
        task = λ n q t. ⊎_elim
            (λ same. let one : p ≡ q = (let z : Some p ≡ Some q = sym (part_there u.tasks i p has) ∙ same.1 in cc z) in
            let P : ℕ × TaskPart → Type 0 = λ z. ((given_to i (length views) w).owner z.0 ≡ length views) × (u.constants ≡ Some k) × AgreesTask c v w.raised (reached c es) z.0 z.1 in
            subst P (λ h. (sym same.0 h, one h)) (owner_here i (length views) w, there.1, there.2))
            (λ other. absurd (none_there (length u.tasks) n q other.1))
            (at_set (replicate (length u.tasks) None) i n (get_or u.tasks i None) (Some q) t);
        clock = λ r t. let z : None ≡ Some r = t in absurd (cc z);
      }

  owner_moved : (id other owner : ℕ) → owner ≡ other → moved_owner id other owner ≡ id
  owner_moved id other owner e = ap (λ (b : Bool). cond b id owner) (eq-eqb owner other e)

  owner_kept : (id other owner : ℕ) → owner ≢ other → moved_owner id other owner ≡ owner
  owner_kept id other owner ne = ap (λ (b : Bool). cond b id owner) (ne_eqb owner other ne)

  spent_agrees : (w : Witness) (s : ExecState) (id : ℕ) → AgreesView k c v w s id spent
  spent_agrees w s id = record {
    known = λ other e. let z : None ≡ Some other = e in absurd (cc z);
    task = λ i p e. absurd (some-ne-none (Some p) (sym e));
    clock = λ r e. let z : None ≡ Some r = e in absurd (cc z);
  }

  -- a seat that is not spent takes in what another seat has
  pub join_keeps : (w : Witness) (es : List Event) (words : List ℕ) (views : List View) (id other : ℕ) (u x : View) → AgreesWith k c v w es words views →
      get_elem? views id ≡ some u → (other ≡ id → ⊥) → get_elem? views other ≡ some x → u.constants ≡ Some k →
      AgreesWith k c v (taken_in id other w) es words (set (set views id (joined u x)) other spent)
  join_keeps w es words views id other u x a at apart at_other known =
      let theirs = a.each_view other x at_other in
      owners_keep w (taken_in id other w).owner (taken_in id other w).clock_owner es words views (set (set views id (joined u x)) other spent) a (λ j y e. ⊎_elim
      (λ t. subst (AgreesView k c v (taken_in id other w) (reached c es) j) t.1 (spent_agrees (taken_in id other w) (reached c es) j))
      (λ t. ⊎_elim
      (λ s. let P : ℕ × View → Type 0 = λ z. AgreesView k c v (taken_in id other w) (reached c es) z.0 z.1 in subst P (λ h. (sym s.0 h, s.1 h)) (both (a.each_view id u at) theirs))
      (λ s. rest j y t.0 (a.each_view j y s.1))
      (at_set views id j (joined u x) y t.1))
      (at_set (set views id (joined u x)) other j spent y e))
    where
      both : AgreesView k c v w (reached c es) id u → AgreesView k c v w (reached c es) other x → AgreesView k c v (taken_in id other w) (reached c es) id (joined u x)
      both mine theirs = record {
        known = mine.known;
        task = λ n p e. ⊎_elim
            (λ t. let m = mine.task n p t in (owner_kept id other (w.owner n) (λ h. apart (sym h ∙ m.0)) ∙ m.0, known, m.2))
            (λ t. let m = theirs.task n p t in (owner_moved id other (w.owner n) m.0, known, m.2))
            (merged_at u.tasks x.tasks n p e);
        clock = λ r e. ⊎_elim
            (λ t. let m = mine.clock r t in (owner_kept id other w.clock_owner (λ h. apart (sym h ∙ m.0)) ∙ m.0, known, m.2))
            (λ t. let m = theirs.clock r t in (owner_moved id other w.clock_owner m.0, known, m.2))
            (clock_of u.clock x.clock r e);
      }

      rest : (j : ℕ) (y : View) → j ≢ other → AgreesView k c v w (reached c es) j y → AgreesView k c v (taken_in id other w) (reached c es) j y
      rest j y ne b = record {
        known = b.known;
        task = λ n p t. let m = b.task n p t in (owner_kept id other (w.owner n) (λ h. ne (sym m.0 ∙ h)) ∙ m.0, m.1, m.2);
        clock = λ r t. let m = b.clock r t in (owner_kept id other w.clock_owner (λ h. ne (sym m.0 ∙ h)) ∙ m.0, m.1, m.2);
      }

  -- a seat enters that agrees wherever it stands
  grown_keeps : (w : Witness) (es : List Event) (words : List ℕ) (views : List View) (fresh : View) → AgreesWith k c v w es words views →
      ((j : ℕ) → AgreesView k c v w (reached c es) j fresh) → AgreesWith k c v w es words (views ++ fresh ∷ [])
  grown_keeps w es words views fresh a agrees =
      owners_keep w w.owner w.clock_owner es words views (views ++ fresh ∷ []) a
      (λ j y e. ⊎_elim (λ old. a.each_view j y old) (λ new. subst (AgreesView k c v w (reached c es) j) new.1 (agrees j)) (at_grown views fresh y j e))

  -- a spent seat enters
  pub enter_keeps : (w : Witness) (es : List Event) (words : List ℕ) (views : List View) → AgreesWith k c v w es words views → AgreesWith k c v w es words (views ++ spent ∷ [])
  enter_keeps w es words views a = grown_keeps w es words views spent a (spent_agrees w (reached c es))

  bare_agrees : (w : Witness) (s : ExecState) (id : ℕ) → AgreesView k c v w s id (bare k)
  bare_agrees w s id = record {
    known = λ other e. let z : Some k ≡ Some other = e in cc z;
    task = λ i p e. absurd (some-ne-none (Some p) (sym e));
    clock = λ r e. let z : None ≡ Some r = e in absurd (cc z);
  }

  -- and so does one that has no part
  pub bare_keeps : (w : Witness) (es : List Event) (words : List ℕ) (views : List View) → AgreesWith k c v w es words views → AgreesWith k c v w es words (views ++ bare k ∷ [])
  bare_keeps w es words views a = grown_keeps w es words views (bare k) a (bare_agrees w (reached c es))

  -- no part is lost in a join
  pub join_has_task : (w : Witness) (es : List Event) (words : List ℕ) (views : List View) (id other i : ℕ) (u x : View) (p : TaskPart) → AgreesWith k c v w es words views →
      get_elem? views id ≡ some u → (other ≡ id → ⊥) → get_elem? views other ≡ some x → (get_elem? u.tasks i ≡ some (Some p)) ⊎ (get_elem? x.tasks i ≡ some (Some p)) →
      get_elem? (joined u x).tasks i ≡ some (Some p)
  join_has_task w es words views id other i u x p a at apart at_other (inl mine) = merged_first u.tasks x.tasks i p mine
  join_has_task w es words views id other i u x p a at apart at_other (inr theirs) =
      merged_other u.tasks x.tasks i p
      (λ q has. apart (sym ((a.each_view other x at_other).task i p theirs).0 ∙ ((a.each_view id u at).task i q has).0)) theirs

  pub join_has_clock : (w : Witness) (es : List Event) (words : List ℕ) (views : List View) (id other : ℕ) (u x : View) (r : ClockPart) → AgreesWith k c v w es words views →
      get_elem? views id ≡ some u → (other ≡ id → ⊥) → get_elem? views other ≡ some x → (u.clock ≡ Some r) ⊎ (x.clock ≡ Some r) → (joined u x).clock ≡ Some r
  join_has_clock w es words views id other u x r a at apart at_other (inl mine) = first_clock u.clock x.clock r mine
  join_has_clock w es words views id other u x r a at apart at_other (inr theirs) =
      other_clock u.clock x.clock r (λ q has. apart (sym ((a.each_view other x at_other).clock r theirs).0 ∙ ((a.each_view id u at).clock q has).0)) theirs
