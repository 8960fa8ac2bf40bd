-- Another term in place of a parameter, in all marks.
use Rattle.prl_base.proofs.Standard.{◌≡◌, ◌≢◌, ◌<◌, ◌++◌, ◌∙◌, ℕ, List, [], length, length-set, get_or, set, get_or-set_same, arith, inl, inr, ◌⊎◌, map, Vec, Global, refl, sym, ap, subst, eqb_tells}
use Rattle.prl_base.proofs.Standard.{get_or_default, get_or-eq_default, cases_lt, map-set, get_or-map, length-map, Contains-get_or, Contains-append_left, Contains-append_right, Contains-append_cases}
use Rattle.std.proofs.Common.{get_or-set_other, Contains}
use Rattle.prl_terms.specs.Vocabulary.{Term, Choice, type_in, FitsTerm, mark_of, resolved, replaced, added, members_at, Follows, IsSettled, AreMembers, IsReplaced, IsApart}
use Rattle.prl_terms.specs.declared.terms.Term.TheVariants as terms

pub replaced_same : (a : ℕ) (by : Term) → replaced a by (terms.Parameter a) ≡ by
replaced_same a by = elim (eqb_tells a a) [ inl e ↦ rw e.0 | inr ne ↦ absurd (ne.1 refl) ]

pub replaced_other : (a k : ℕ) (by : Term) → k ≢ a → replaced a by (terms.Parameter k) ≡ terms.Parameter k
replaced_other a k by h = elim (eqb_tells k a) [ inl e ↦ absurd (h e.1) | inr ne ↦ rw ne.0 ]

-- where the mark was that parameter, it is the other term now
pub new_mark_same : {a : ℕ} {by : Term} {old new : List Term} → IsReplaced a by old new → (k : ℕ) → mark_of old k ≡ terms.Parameter a → mark_of new k ≡ by
new_mark_same {a} {by} {old} {new} h k e = h.at k ∙ ap (λ t. replaced a by t) e ∙ replaced_same a by

pub new_mark_other : {a : ℕ} {by : Term} {old new : List Term} → IsReplaced a by old new → (k c : ℕ) → mark_of old k ≡ terms.Parameter c → c ≢ a → mark_of new k ≡ terms.Parameter c
new_mark_other {a} {by} {old} {new} h k c e ne = h.at k ∙ ap (λ t. replaced a by t) e ∙ replaced_other a c by ne

-- what a mark was that is a parameter now
replaced_cases : (a c : ℕ) (by t : Term) → replaced a by t ≡ terms.Parameter c
    → ((t ≡ terms.Parameter a) × (by ≡ terms.Parameter c)) ⊎ ((t ≡ terms.Parameter c) × (c ≢ a))
replaced_cases a c by (terms.Known ty) e = absurd (cc)
replaced_cases a c by (terms.Parameter k) e = elim (eqb_tells k a) [
  | inl same ↦ inl (ap (λ n. terms.Parameter n) same.1, (let f : replaced a by (terms.Parameter k) ≡ by = rw same.0 in sym f ∙ e))
  | inr other ↦ let f : replaced a by (terms.Parameter k) ≡ terms.Parameter k = rw other.0 in
      let g : terms.Parameter k ≡ terms.Parameter c = sym f ∙ e in
      let same : k ≡ c = cc in
      inr (g, λ d. other.1 (same ∙ d))
]

pub old_mark : {a : ℕ} {by : Term} {old new : List Term} → IsReplaced a by old new → (k c : ℕ) → mark_of new k ≡ terms.Parameter c
    → ((mark_of old k ≡ terms.Parameter a) × (by ≡ terms.Parameter c)) ⊎ ((mark_of old k ≡ terms.Parameter c) × (c ≢ a))
old_mark {a} {by} {old} {new} h k c e = replaced_cases a c by (mark_of old k) (sym (h.at k) ∙ e)

-- the types are those that they were, where the parameter has the type of the other term
type_in_replaced : (choice : Choice) (a : ℕ) (by t : Term) → choice a ≡ type_in choice by → type_in choice (replaced a by t) ≡ type_in choice t
type_in_replaced choice a by (terms.Known ty) h = refl
type_in_replaced choice a by (terms.Parameter k) h = elim (eqb_tells k a) [
  | inl e ↦ let f : replaced a by (terms.Parameter k) ≡ by = rw e.0 in ap (type_in choice) f ∙ sym h ∙ sym (ap choice e.1)
  | inr ne ↦ ap (type_in choice) (replaced_other a k by ne.1)
]

pub follows_new : {a : ℕ} {by : Term} {old new : List Term} → IsReplaced a by old new → (choice : Choice) → Follows choice old → choice a ≡ type_in choice by → Follows choice new
follows_new {a} {by} {old} {new} h choice follows same = record {
  at = λ k. follows.at k ∙ sym (type_in_replaced choice a by (mark_of old k) same) ∙ sym (ap (type_in choice) (h.at k));
}

pub same_type : {a : ℕ} {by : Term} {old new : List Term} → IsReplaced a by old new → mark_of old a ≡ terms.Parameter a → (choice : Choice) → Follows choice new → choice a ≡ type_in choice by
same_type {a} {by} {old} {new} h own choice follows = follows.at a ∙ ap (type_in choice) (new_mark_same h a own)

pub follows_old : {a : ℕ} {by : Term} {old new : List Term} → IsReplaced a by old new → mark_of old a ≡ terms.Parameter a → (choice : Choice) → Follows choice new → Follows choice old
follows_old {a} {by} {old} {new} h own choice follows = record {
  at = λ k. follows.at k ∙ ap (type_in choice) (h.at k) ∙ type_in_replaced choice a by (mark_of old k) (same_type h own choice follows);
}

by_marks : {a : ℕ} {by : Term} {old : List Term} → IsApart a by old → (c : ℕ) → by ≡ terms.Parameter c → (mark_of old c ≡ terms.Parameter c) × (c < length old) × (c ≢ a)
by_marks {a} {by} {old} h c e = (
  (let f : resolved old (terms.Parameter c) ≡ terms.Parameter c = subst (λ t. resolved old t ≡ t) e h.by_own in f),
  subst (λ t. FitsTerm (length old) t) e h.by_inside,
  λ d. h.other (e ∙ ap (λ n. terms.Parameter n) d),
)

settled_own : {a : ℕ} {by : Term} {old new : List Term} → IsReplaced a by old new → IsApart a by old → IsSettled old → (k c : ℕ) → mark_of new k ≡ terms.Parameter c → mark_of new c ≡ terms.Parameter c
settled_own {a} {by} {old} {new} h apart settled k c e = elim (old_mark h k c e) [
  | inl here ↦ let own = by_marks apart c here.1 in new_mark_other h c c own.0 own.2
  | inr there ↦ new_mark_other h c c (settled.own k c there.0) there.1
]

settled_within : {a : ℕ} {by : Term} {old new : List Term} → IsReplaced a by old new → IsApart a by old → IsSettled old → (k c : ℕ) → k < length new → mark_of new k ≡ terms.Parameter c → c < length new
settled_within {a} {by} {old} {new} h apart settled k c lt e = elim (old_mark h k c e) [
  | inl here ↦ let own : c < length old = (by_marks apart c here.1).1 in let same : length new ≡ length old = h.count in omega arith
  | inr there ↦ let same : length new ≡ length old = h.count in
      let own : c < length old = settled.within k c (omega arith) there.0 in omega arith
]

pub settled_new : {a : ℕ} {by : Term} {old new : List Term} → IsReplaced a by old new → IsApart a by old → IsSettled old → IsSettled new
settled_new h apart settled = record { own = settled_own h apart settled; within = settled_within h apart settled }

-- the lists of members afterwards
after : ℕ → Term → List (List ℕ) → List (List ℕ)
after a by members = added by (members_at members a) (set members a [])

members_emptied : (members : List (List ℕ)) (a c : ℕ) → c ≢ a → members_at (set members a []) c ≡ members_at members c
members_emptied members a c ne = rw get_or-set_other

none_among : (m : ℕ) (xs : List ℕ) → xs ≡ [] → Contains xs m → ⊥
none_among m xs e h = let g : Contains [] m = subst (λ (ys : List ℕ). Contains ys m) e h in let lt : g.0 < 0 = g.1 in omega arith

in_emptied : (members : List (List ℕ)) (a c m : ℕ) → a < length members → Contains (members_at (set members a []) c) m → Contains (members_at members c) m × (c ≢ a)
in_emptied members a c m lt h = elim (eqb_tells c a) [
  | inl e ↦ absurd (none_among m (members_at (set members a []) c) (rw e.1 (rw get_or-set_same)) h)
  | inr ne ↦ (subst (λ (xs : List ℕ). Contains xs m) (members_emptied members a c ne.1) h, ne.1)
]

-- what is added to one class
added_same : (members : List (List ℕ)) (b c : ℕ) (moved : List ℕ) → c ≡ b → b < length members → members_at (set members b (members_at members b ++ moved)) c ≡ members_at members b ++ moved
added_same members b c moved e lt = rw e (rw get_or-set_same)

added_other : (members : List (List ℕ)) (b c : ℕ) (moved : List ℕ) → c ≢ b → members_at (set members b (members_at members b ++ moved)) c ≡ members_at members c
added_other members b c moved ne = rw get_or-set_other

in_added : (members : List (List ℕ)) (b c m : ℕ) (moved : List ℕ) → b < length members → Contains (members_at (set members b (members_at members b ++ moved)) c) m
    → Contains (members_at members c) m ⊎ (Contains moved m × (c ≡ b))
in_added members b c m moved lt h = elim (eqb_tells c b) [
  | inl e ↦ elim (Contains-append_cases (members_at members b) moved m (subst (λ (xs : List ℕ). Contains xs m) (added_same members b c moved e.1 lt) h)) [
    | inl was ↦ inl (subst (λ (n : ℕ). Contains (members_at members n) m) (sym e.1) was)
    | inr new ↦ inr (new, e.1)
  ]
  | inr ne ↦ inl (subst (λ (xs : List ℕ). Contains xs m) (added_other members b c moved ne.1) h)
]

stays_added : (members : List (List ℕ)) (b c m : ℕ) (moved : List ℕ) → b < length members → Contains (members_at members c) m → Contains (members_at (set members b (members_at members b ++ moved)) c) m
stays_added members b c m moved lt h = elim (eqb_tells c b) [
  | inl e ↦ subst (λ (xs : List ℕ). Contains xs m) (sym (added_same members b c moved e.1 lt))
      (Contains-append_left (members_at members b) moved m (subst (λ (n : ℕ). Contains (members_at members n) m) e.1 h))
  | inr ne ↦ subst (λ (xs : List ℕ). Contains xs m) (sym (added_other members b c moved ne.1)) h
]

-- each member of a class afterwards was a member of it, or of the class that is gone where this one takes its place
was_member : (a : ℕ) (by : Term) (members : List (List ℕ)) (c m : ℕ) → a < length members → FitsTerm (length members) by → Contains (members_at (after a by members) c) m
    → (Contains (members_at members c) m × (c ≢ a)) ⊎ (Contains (members_at members a) m × (by ≡ terms.Parameter c))
unfolding after
was_member a (terms.Known ty) members c m lt fits h = inl (in_emptied members a c m lt h)
was_member a (terms.Parameter b) members c m lt fits h =
    let same : length (set members a []) ≡ length members = length-set members a [] in
    elim (in_added (set members a []) b c m (members_at members a) (omega arith) h) [
      | inl was ↦ inl (in_emptied members a c m lt was)
      | inr new ↦ inr (new.0, ap (λ n. terms.Parameter n) (sym new.1))
    ]

stays_emptied : (members : List (List ℕ)) (a c m : ℕ) → c ≢ a → Contains (members_at members c) m → Contains (members_at (set members a []) c) m
stays_emptied members a c m ne h = subst (λ (xs : List ℕ). Contains xs m) (sym (members_emptied members a c ne)) h

stays_member : (a : ℕ) (by : Term) (members : List (List ℕ)) (c m : ℕ) → c ≢ a → FitsTerm (length members) by → Contains (members_at members c) m → Contains (members_at (after a by members) c) m
unfolding after
stays_member a (terms.Known ty) members c m ne fits h = stays_emptied members a c m ne h
stays_member a (terms.Parameter b) members c m ne fits h =
    let same : length (set members a []) ≡ length members = length-set members a [] in
    stays_added (set members a []) b c m (members_at members a) (omega arith) (stays_emptied members a c m ne h)

moves_member : (a c : ℕ) (by : Term) (members : List (List ℕ)) (m : ℕ) → by ≡ terms.Parameter c → c < length members → Contains (members_at members a) m → Contains (members_at (after a by members) c) m
unfolding after
moves_member a c (terms.Known ty) members m e lt h = absurd (cc)
moves_member a c (terms.Parameter b) members m e lt h =
    let same : length (set members a []) ≡ length members = length-set members a [] in
    let is : c ≡ b = cc in
    subst (λ (xs : List ℕ). Contains xs m) (sym (added_same (set members a []) b c (members_at members a) is (omega arith)))
    (Contains-append_right (members_at (set members a []) b) (members_at members a) m h)

length_after : (a : ℕ) (by : Term) (members : List (List ℕ)) → length (after a by members) ≡ length members
unfolding after
length_after a (terms.Known ty) members = length-set members a []
length_after a (terms.Parameter b) members = length-set (set members a []) b (members_at (set members a []) b ++ members_at members a) ∙ length-set members a []

fits_members : (by : Term) (n m : ℕ) → m ≡ n → FitsTerm n by → FitsTerm m by
fits_members by n m e h = subst (λ (k : ℕ). FitsTerm k by) (sym e) h

all_new : {a : ℕ} {by : Term} {old new : List Term} {members : List (List ℕ)} → IsReplaced a by old new → IsApart a by old → AreMembers old members
    → (k c : ℕ) → k < length new → mark_of new k ≡ terms.Parameter c → Contains (members_at (after a by members) c) k
all_new {a} {by} {old} {new} {members} h apart m k c lt e =
    let same : length new ≡ length old = h.count in
    let lengths : length members ≡ length old = m.lengths in
    elim (old_mark h k c e) [
      | inl here ↦ let inside : c < length old = (by_marks apart c here.1).1 in
          moves_member a c by members k here.1 (omega arith) (m.all k a (omega arith) here.0)
      | inr there ↦ stays_member a by members c k there.1 (fits_members by (length old) (length members) lengths apart.by_inside) (m.all k c (omega arith) there.0)
    ]

only_new : {a : ℕ} {by : Term} {old new : List Term} {members : List (List ℕ)} → IsReplaced a by old new → IsApart a by old → AreMembers old members
    → (x c : ℕ) → Contains (members_at (after a by members) c) x → x < length new
only_new {a} {by} {old} {new} {members} h apart m x c among =
    let same : length new ≡ length old = h.count in
    let lengths : length members ≡ length old = m.lengths in
    let inside : a < length old = apart.inside in
    elim (was_member a by members c x (omega arith) (fits_members by (length old) (length members) lengths apart.by_inside) among) [
      | inl was ↦ let lt : x < length old = m.only x c was.0 in omega arith
      | inr new' ↦ let lt : x < length old = m.only x a new'.0 in omega arith
    ]

marked_new : {a : ℕ} {by : Term} {old new : List Term} {members : List (List ℕ)} → IsReplaced a by old new → IsApart a by old → AreMembers old members
    → (x c : ℕ) → Contains (members_at (after a by members) c) x → mark_of new c ≡ terms.Parameter c → mark_of new x ≡ terms.Parameter c
marked_new {a} {by} {old} {new} {members} h apart m x c among e =
    let lengths : length members ≡ length old = m.lengths in
    let inside : a < length old = apart.inside in
    elim (was_member a by members c x (omega arith) (fits_members by (length old) (length members) lengths apart.by_inside) among) [
      | inl was ↦ elim (old_mark h c c e) [
        | inl here ↦ new_mark_other h x c (m.marked x c was.0 (by_marks apart c here.1).0) was.1
        | inr there ↦ new_mark_other h x c (m.marked x c was.0 there.0) was.1
      ]
      | inr new' ↦ new_mark_same h x (m.marked x a new'.0 apart.own) ∙ new'.1
    ]

pub members_new : {a : ℕ} {by : Term} {old new : List Term} {members : List (List ℕ)} → IsReplaced a by old new → IsApart a by old → AreMembers old members
    → AreMembers new (added by (members_at members a) (set members a []))
unfolding after
members_new {a} {by} {old} {new} {members} h apart m = record {
  lengths = length_after a by members ∙ m.lengths ∙ sym h.count;
  all = all_new h apart m;
  only = only_new h apart m;
  marked = marked_new h apart m;
}

member_at : (xs : List ℕ) (i k : ℕ) → i < length xs → get_or xs i k ≡ k → get_or xs i 0 ≡ k
member_at xs i k lt e = get_or_default xs i 0 k lt ∙ e

-- the term is that parameter, or it is not
is_parameter : (t : Term) (a : ℕ) → (t ≡ terms.Parameter a) ⊎ (t ≢ terms.Parameter a)
is_parameter (terms.Known ty) a = inr (λ e. cc)
is_parameter (terms.Parameter k) a = elim (eqb_tells k a) [
  | inl e ↦ inl (ap (λ n. terms.Parameter n) e.1)
  | inr ne ↦ inr (λ e. let f : k ≡ a = cc in ne.1 f)
]

unreplaced : (t by : Term) (a : ℕ) → t ≢ terms.Parameter a → replaced a by t ≡ t
unreplaced (terms.Known ty) by a ne = refl
unreplaced (terms.Parameter k) by a ne = replaced_other a k by (λ e. ne (ap (λ n. terms.Parameter n) e))

within_marks : (marks : List Term) (k a : ℕ) → a < length marks → mark_of marks k ≡ terms.Parameter a → k < length marks
within_marks marks k a lt e = elim (eqb_tells k a) [
  | inl same ↦ let is : k ≡ a = same.1 in omega arith
  | inr ne ↦ elim (cases_lt k (length marks)) [
    | inl below ↦ below
    | inr past ↦ let none : mark_of marks k ≡ terms.Parameter k = get_or-eq_default marks (terms.Parameter k) past in
        let f : terms.Parameter k ≡ terms.Parameter a = sym none ∙ e in
        let is : k ≡ a = cc in absurd (ne.1 is)
  ]
]

replaced_at : {a : ℕ} {by : Term} {old : List Term} {members : List (List ℕ)} (new : List Term) → IsApart a by old → AreMembers old members
    → ((i : ℕ) → i < length (members_at members a) → mark_of new (get_or (members_at members a) i 0) ≡ by)
    → ((k : ℕ) → ((i : ℕ) → i < length (members_at members a) → get_or (members_at members a) i 0 ≢ k) → mark_of new k ≡ mark_of old k)
    → (k : ℕ) → mark_of new k ≡ replaced a by (mark_of old k)
replaced_at {a} {by} {old} {members} new apart m marked others k = elim (is_parameter (mark_of old k) a) [
  | inl is ↦ let among = m.all k a (within_marks old k a apart.inside is) is in
      let here : get_or (members_at members a) among.0 0 ≡ k = member_at (members_at members a) among.0 k among.1 among.2 in
      subst (λ (n : ℕ). mark_of new n ≡ by) here (marked among.0 among.1) ∙ sym (replaced_same a by) ∙ ap (replaced a by) (sym is)
  | inr not ↦ others k (λ i lt e. not (m.marked k a (subst (λ (n : ℕ). Contains (members_at members a) n) e (Contains-get_or (members_at members a) i 0 lt)) apart.own))
      ∙ sym (unreplaced (mark_of old k) by a not)
]

-- marks in which the members have another term, and nothing else has changed
pub replaced_marks : {a : ℕ} {by : Term} {old : List Term} {members : List (List ℕ)} (new : List Term) (xs : List ℕ) → IsApart a by old → AreMembers old members
    → xs ≡ members_at members a → length new ≡ length old
    → ((i : ℕ) → i < length xs → mark_of new (get_or xs i 0) ≡ by)
    → ((k : ℕ) → ((i : ℕ) → i < length xs → get_or xs i 0 ≢ k) → mark_of new k ≡ mark_of old k)
    → IsReplaced a by old new
replaced_marks {a} {by} {old} {members} new xs apart m e same marked others = record {
  count = same;
  at = replaced_at new apart m
      (subst (λ (ys : List ℕ). (i : ℕ) → i < length ys → mark_of new (get_or ys i 0) ≡ by) e marked)
      (subst (λ (ys : List ℕ). (k : ℕ) → ((i : ℕ) → i < length ys → get_or ys i 0 ≢ k) → mark_of new k ≡ mark_of old k) e others);
}

-- what the steps of `replace` come to
pub moved_is : (members : List (Vec ℕ Global)) (a : ℕ) (v : Vec ℕ Global) (xs : List ℕ) → a < length (map (λ (c : Vec ℕ Global). c.items) members) → v ≡ get_or members a v → xs ≡ v.items
    → xs ≡ members_at (map (λ (c : Vec ℕ Global). c.items) members) a
moved_is members a v xs lt e is =
    let items = λ (c : Vec ℕ Global). c.items in
    let inside : a < length members = let same = length-map members items in omega (arith, same) in
    is ∙ ap items e ∙ sym (get_or-map items members a v [] inside)

pub changed_is : (members : List (Vec ℕ Global)) (a : ℕ) (v : Vec ℕ Global) (xs : List ℕ) → v.items ≡ xs
    → map (λ (c : Vec ℕ Global). c.items) (set members a v) ≡ set (map (λ (c : Vec ℕ Global). c.items) members) a xs
changed_is members a v xs e =
    let items = λ (c : Vec ℕ Global). c.items in
    map-set items members a v ∙ ap (λ (ys : List ℕ). set (map items members) a ys) e

pub added_is : (members : List (Vec ℕ Global)) (b : ℕ) (old new : Vec ℕ Global) (moved : List ℕ) → b < length members → old ≡ get_or members b old → new.items ≡ old.items ++ moved
    → map (λ (c : Vec ℕ Global). c.items) (set members b new)
    ≡ set (map (λ (c : Vec ℕ Global). c.items) members) b (members_at (map (λ (c : Vec ℕ Global). c.items) members) b ++ moved)
added_is members b old new moved lt is added' =
    let items = λ (c : Vec ℕ Global). c.items in
    changed_is members b new (members_at (map items members) b ++ moved)
    (added' ∙ ap (λ (ys : List ℕ). ys ++ moved) (ap items is ∙ sym (get_or-map items members b old [] lt)))

pub members_inside : {old : List Term} {members : List (List ℕ)} → AreMembers old members → (a : ℕ) (xs : List ℕ) → xs ≡ members_at members a → (i : ℕ) → i < length xs → get_or xs i 0 < length old
members_inside {old} {members} m a xs e i lt = m.only (get_or xs i 0) a (subst (λ (ys : List ℕ). Contains ys (get_or xs i 0)) e (Contains-get_or xs i 0 lt))

pub members_after : {a : ℕ} {by : Term} {old new : List Term} {members : List (List ℕ)} → IsReplaced a by old new → IsApart a by old → AreMembers old members
    → (xs : List ℕ) (emptied lists : List (List ℕ)) → xs ≡ members_at members a → emptied ≡ set members a [] → lists ≡ added by xs emptied → AreMembers new lists
members_after {a} {by} {old} {new} {members} h apart m xs emptied lists moved empty is =
    let e : lists ≡ added by (members_at members a) (set members a []) = is ∙ ap (λ (ys : List ℕ). added by ys emptied) moved ∙ ap (λ (ls : List (List ℕ)). added by (members_at members a) ls) empty in
    subst (λ (ls : List (List ℕ)). AreMembers new ls) (sym e) (members_new h apart m)
