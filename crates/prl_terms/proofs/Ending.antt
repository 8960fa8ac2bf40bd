-- The types that the marks leave, and the first rule that contradicts the earlier ones.
use Rattle.prl_base.proofs.Standard.{◌≡◌, ◌<◌, ◌∙◌, ℕ, List, length, get_or, arith, sym, ap, subst, Some, slice_get-get_or}
use Rattle.prl_base.proofs.Standard.{get_or_default}
use Rattle.prl_base.specs.declared.values.Ty.{Ty}
use Rattle.prl_base.specs.declared.values.Ty.TheVariants as ty
use Rattle.prl_terms.specs.Vocabulary.{Rule, Term, Choice, type_in, IsFree, AreTypes, mark_of, Follows, Solves, IsSettled}
use Rattle.prl_terms.specs.declared.terms.Term.TheVariants as terms
use Rattle.prl_terms.proofs.Meeting.{chosen, chosen_follows}

-- so many marks from the first on are the types
pub record AreKnown (marks : List Term) (types : List Ty) (count : ℕ) : Type 0 where
  pub number : length types ≡ count
  pub known : (k : ℕ) → k < count → mark_of marks k ≡ terms.Known (get_or types k ty.Int)

type_known : (marks : List Term) (found : List Ty) (count : ℕ) → AreKnown marks found count → (c : Choice) → Follows c marks → (k : ℕ) → k < count → c k ≡ get_or found k ty.Int
type_known marks found count known c follows k lt = follows.at k ∙ ap (type_in c) (known.known k lt)

pub types_are : (marks : List Term) (found : List Ty) → IsSettled marks → AreKnown marks found (length marks) → (rules : List Rule) → Solves rules marks → AreTypes rules (length marks) found
types_are marks found settled known rules solves = record {
  number = known.number;
  choice = chosen marks ty.Int;
  meets = solves.meets (chosen marks ty.Int) (chosen_follows marks ty.Int settled);
  forced = λ c k m lt. let e : length found ≡ length marks = known.number in
      slice_get-get_or found k ty.Int (omega arith) ∙ ap (λ t. Some t) (sym (type_known marks found (length marks) known c (solves.follows c m) k lt));
}

int_or_bool : ty.Int ≡ ty.Bool → ⊥
int_or_bool e = cc

open_type : (marks : List Term) (k a : ℕ) (t : Ty) → mark_of marks k ≡ terms.Parameter a → chosen marks t k ≡ t
open_type marks k a t e = ap (type_in (λ _. t)) e

pub free_is : (marks : List Term) (found : List Ty) (k a : ℕ) → IsSettled marks → AreKnown marks found k → mark_of marks k ≡ terms.Parameter a → (rules : List Rule) → Solves rules marks → IsFree rules k
free_is marks found k a settled known e rules solves = record {
  one = chosen marks ty.Int;
  other = chosen marks ty.Bool;
  one_meets = solves.meets (chosen marks ty.Int) (chosen_follows marks ty.Int settled);
  other_meets = solves.meets (chosen marks ty.Bool) (chosen_follows marks ty.Bool settled);
  differ = λ same. int_or_bool (sym (open_type marks k a ty.Int e) ∙ same ∙ open_type marks k a ty.Bool e);
  earlier = λ j lt c d m n. type_known marks found k known c (solves.follows c m) j lt ∙ sym (type_known marks found k known d (solves.follows d n) j lt);
}

-- a mark that is read
pub mark_read : (marks read : List Term) (k : ℕ) (d t : Term) → read ≡ marks → k < length read → get_or read k d ≡ t → (k < length marks) × (mark_of marks k ≡ t)
mark_read marks read k d t e lt is =
    let inside : k < length marks = subst (λ (xs : List Term). k < length xs) e lt in
    (inside, get_or_default marks k (terms.Parameter k) d inside ∙ subst (λ (xs : List Term). get_or xs k d ≡ t) e is)

pub all_known : (marks : List Term) (found : List Ty) (k : ℕ) → AreKnown marks found k → k ≡ length marks → AreKnown marks found (length marks)
all_known marks found k h e = subst (λ (n : ℕ). AreKnown marks found n) e h
