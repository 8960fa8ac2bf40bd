-- How the rules that were met so far are kept: each parameter has a mark, its type or the parameter whose type it shares.
use Rattle.std.specs.Prelude.{◌≡◌, ◌≢◌, ◌==◌, ◌<◌, ℕ, List, [], ◌++◌, length, slice_index_or, slice_set, Contains, map, ◌⊎◌, if◌then◌else◌}
use Rattle.prl_terms.specs.declared.terms.Term.{Term}
use Rattle.prl_terms.specs.declared.terms.Term.TheVariants as terms
use Rattle.prl_terms.specs.declared.terms.Rule.{Rule}
use Rattle.prl_terms.specs.declared.solving.Marks.{Marks}
use Rattle.prl_terms.specs.declared.solving.Unsolved.{Unsolved}
use Rattle.prl_terms.specs.declared.solving.Unsolved.TheVariants as unsolved
use Rattle.prl_terms.specs.Choices.{Choice, type_in, MeetsAll, FitsTerm}
use Rattle.prl_terms.specs.Solutions.{Contradicts}

-- the mark of a parameter
abbrev pub mark_of : List Term → ℕ → Term
mark_of marks k = slice_index_or marks k (terms.Parameter k)

abbrev pub resolved : List Term → Term → Term
resolved marks (terms.Known ty) = terms.Known ty
resolved marks (terms.Parameter k) = mark_of marks k

-- the term with another in place of parameter a
abbrev pub replaced : ℕ → Term → Term → Term
replaced a by (terms.Known ty) = terms.Known ty
replaced a by (terms.Parameter k) = if k == a then by else terms.Parameter k

-- each parameter has the type of its mark
pub record Follows (choice : Choice) (marks : List Term) : Type 0 where
  pub at : (k : ℕ) → choice k ≡ type_in choice (mark_of marks k)

-- The choices that meet the rules are those that follow the marks.
pub record Solves (rules : List Rule) (marks : List Term) : Type 0 where
  pub follows : (choice : Choice) → MeetsAll choice rules → Follows choice marks
  pub meets : (choice : Choice) → Follows choice marks → MeetsAll choice rules

-- A parameter that is a mark is its own mark.
pub record IsSettled (marks : List Term) : Type 0 where
  pub own : (k a : ℕ) → mark_of marks k ≡ terms.Parameter a → mark_of marks a ≡ terms.Parameter a
  pub within : (k a : ℕ) → k < length marks → mark_of marks k ≡ terms.Parameter a → a < length marks

-- the members that are kept of the class of a
abbrev pub members_at : List (List ℕ) → ℕ → List ℕ
members_at members a = slice_index_or members a []

-- The members of each class that is still open are the parameters with its mark.
pub record AreMembers (marks : List Term) (members : List (List ℕ)) : Type 0 where
  pub lengths : length members ≡ length marks
  pub all : (k a : ℕ) → k < length marks → mark_of marks k ≡ terms.Parameter a → Contains (members_at members a) k
  pub only : (m a : ℕ) → Contains (members_at members a) m → m < length marks
  pub marked : (m a : ℕ) → Contains (members_at members a) m → mark_of marks a ≡ terms.Parameter a → mark_of marks m ≡ terms.Parameter a

-- the marks with another term in place of parameter a
pub record IsReplaced (a : ℕ) (by : Term) (old new : List Term) : Type 0 where
  pub count : length new ≡ length old
  pub at : (k : ℕ) → mark_of new k ≡ replaced a by (mark_of old k)

-- the other term is no parameter of the class, and stands for itself
pub record IsApart (a : ℕ) (by : Term) (old : List Term) : Type 0 where
  pub own : mark_of old a ≡ terms.Parameter a
  pub inside : a < length old
  pub by_own : resolved old by ≡ by
  pub by_inside : FitsTerm (length old) by
  pub other : by ≢ terms.Parameter a

-- two parameters that stand for themselves
pub record AreApart (a b : ℕ) (marks : List Term) : Type 0 where
  pub own : mark_of marks a ≡ terms.Parameter a
  pub inside : a < length marks
  pub other_own : mark_of marks b ≡ terms.Parameter b
  pub other_inside : b < length marks
  pub differ : a ≢ b

-- the lists with these members added to the class that the term names, if it names one
abbrev pub added : Term → List ℕ → List (List ℕ) → List (List ℕ)
added (terms.Known ty) moved members = members
added (terms.Parameter b) moved members = slice_set members b (members_at members b ++ moved)

abbrev pub lists_of : Marks → List (List ℕ)
lists_of m = map (λ c. c.items) m.members.items

pub record IsKept (m : Marks) : Type 0 where
  pub settled : IsSettled m.marks.items
  pub members : AreMembers m.marks.items (lists_of m)

abbrev pub Refuses : List Rule → Rule → Unsolved → Type 0
Refuses rules rule (unsolved.Mismatch at wanted found) = Contradicts rules rule at wanted found
Refuses rules rule (unsolved.Free k) = ⊥
Refuses rules rule unsolved.Memory = Unit {0}

-- one of the two is put in place of the other
abbrev pub AreJoined : ℕ → ℕ → List Term → List Term → Type 0
AreJoined a b old new = IsReplaced a (terms.Parameter b) old new ⊎ IsReplaced b (terms.Parameter a) old new
