-- One more rule: which choices are left.
use Rattle.std.proofs.Common.{◌≡◌, ◌≢◌, ◌<◌, ◌++◌, ◌∙◌, ℕ, List, [], ◌∷◌, length, refl, sym, ap, subst, inl, inr, Result, Ok, Err, IfOk, IfErr, MatchResult}
use Rattle.prl_base.specs.declared.values.Ty.{Ty}
use Rattle.prl_base.specs.declared.values.Ty.TheVariants as types
use Rattle.prl_terms.specs.Vocabulary.{Rule, Term, Unsolved, Choice, type_in, Meets, MeetsAll, FitsTerm, mark_of, resolved, Follows, Solves, IsSettled, IsReplaced, IsApart, AreApart, AreJoined}
use Rattle.prl_terms.specs.Vocabulary.{Contradicts, IsMismatch, Refuses}
use Rattle.prl_terms.specs.declared.terms.Term.TheVariants as terms
use Rattle.prl_terms.specs.declared.solving.Unsolved.TheVariants as unsolved
use Rattle.prl_terms.proofs.Replacing.{follows_new, follows_old, same_type}

pub meets_append : (c : Choice) (xs ys : List Rule) → MeetsAll c xs → MeetsAll c ys → MeetsAll c (xs ++ ys)
meets_append c [] ys h k = k
meets_append c (x ∷ xs) ys h k = (h.0, meets_append c xs ys h.1 k)

pub meets_first : (c : Choice) (xs ys : List Rule) → MeetsAll c (xs ++ ys) → MeetsAll c xs
meets_first c [] ys h = tt
meets_first c (x ∷ xs) ys h = (h.0, meets_first c xs ys h.1)

pub meets_second : (c : Choice) (xs ys : List Rule) → MeetsAll c (xs ++ ys) → MeetsAll c ys
meets_second c [] ys h = h
meets_second c (x ∷ xs) ys h = meets_second c xs ys h.1

pub type_of_resolved : {c : Choice} {marks : List Term} → Follows c marks → (t : Term) → type_in c (resolved marks t) ≡ type_in c t
type_of_resolved f (terms.Known ty) = refl
type_of_resolved f (terms.Parameter k) = sym (f.at k)

-- a choice that follows the marks, with this type for all that is open
abbrev pub chosen : List Term → Ty → Choice
chosen marks ty k = type_in (λ _. ty) (mark_of marks k)

same_chosen : (marks : List Term) (ty : Ty) → IsSettled marks → (k : ℕ) (t : Term) → mark_of marks k ≡ t → type_in (λ _. ty) t ≡ type_in (chosen marks ty) t
same_chosen marks ty settled k (terms.Known u) e = refl
same_chosen marks ty settled k (terms.Parameter a) e = sym (ap (type_in (λ _. ty)) (settled.own k a e))

pub chosen_follows : (marks : List Term) (ty : Ty) → IsSettled marks → Follows (chosen marks ty) marks
chosen_follows marks ty settled = record { at = λ k. same_chosen marks ty settled k (mark_of marks k) refl }

-- the new marks are followed by the choices that follow the old ones and meet the rule
solves_more : {rules : List Rule} {old : List Term} (rule : Rule) (new : List Term) → Solves rules old → ((c : Choice) → Follows c old → Meets c rule → Follows c new)
    → ((c : Choice) → Follows c new → Follows c old × Meets c rule) → Solves (rules ++ rule ∷ []) new
solves_more {rules} {old} rule new solves further back = record {
  follows = λ c h. further c (solves.follows c (meets_first c rules (rule ∷ []) h)) (meets_second c rules (rule ∷ []) h).0;
  meets = λ c f. let was = back c f in meets_append c rules (rule ∷ []) (solves.meets c was.0) (was.1, tt);
}

-- the two sides, of which the marks say these terms
pub record Sides (marks : List Term) (rule : Rule) (wanted found : Term) : Type 0 where
  pub wanted_is : resolved marks rule.wanted ≡ wanted
  pub found_is : resolved marks rule.found ≡ found

type_of_wanted : {c : Choice} {marks : List Term} {rule : Rule} {wanted found : Term} → Follows c marks → Sides marks rule wanted found → type_in c rule.wanted ≡ type_in c wanted
type_of_wanted {c} {marks} {rule} f s = sym (type_of_resolved f rule.wanted) ∙ ap (type_in c) s.wanted_is

type_of_found : {c : Choice} {marks : List Term} {rule : Rule} {wanted found : Term} → Follows c marks → Sides marks rule wanted found → type_in c rule.found ≡ type_in c found
type_of_found {c} {marks} {rule} f s = sym (type_of_resolved f rule.found) ∙ ap (type_in c) s.found_is

-- the sides are equal already
pub solves_equal : {rules : List Rule} {marks : List Term} {rule : Rule} {t u : Term} → Sides marks rule t u → t ≡ u → Solves rules marks → Solves (rules ++ rule ∷ []) marks
solves_equal {rules} {marks} {rule} {t} {u} s e solves = solves_more rule marks solves (λ c f m. f)
    (λ c f. (f, type_of_wanted f s ∙ ap (type_in c) e ∙ sym (type_of_found f s)))

-- one side is put in place of the other
pub solves_wanted : {rules : List Rule} {old new : List Term} {rule : Rule} {a : ℕ} {by : Term} → Sides old rule (terms.Parameter a) by → mark_of old a ≡ terms.Parameter a → IsReplaced a by old new → Solves rules old → Solves (rules ++ rule ∷ []) new
solves_wanted {rules} {old} {new} {rule} {a} {by} s own h solves = solves_more rule new solves
    (λ c f m. follows_new h c f (sym (type_of_wanted f s) ∙ m ∙ type_of_found f s))
    (λ c f. let g = follows_old h own c f in (g, type_of_wanted g s ∙ same_type h own c f ∙ sym (type_of_found g s)))

pub solves_found : {rules : List Rule} {old new : List Term} {rule : Rule} {a : ℕ} {by : Term} → Sides old rule by (terms.Parameter a) → mark_of old a ≡ terms.Parameter a → IsReplaced a by old new → Solves rules old → Solves (rules ++ rule ∷ []) new
solves_found {rules} {old} {new} {rule} {a} {by} s own h solves = solves_more rule new solves
    (λ c f m. follows_new h c f (sym (type_of_found f s) ∙ sym m ∙ type_of_wanted f s))
    (λ c f. let g = follows_old h own c f in (g, type_of_wanted g s ∙ sym (same_type h own c f) ∙ sym (type_of_found g s)))

pub contradicts : {rules : List Rule} {marks : List Term} {rule : Rule} {wanted found : Ty} → Sides marks rule (terms.Known wanted) (terms.Known found) → IsSettled marks → wanted ≢ found → Solves rules marks → Contradicts rules rule rule.at wanted found
contradicts {rules} {marks} {rule} {wanted} {found} s settled ne solves = record {
  choice = chosen marks types.Int;
  meets = solves.meets (chosen marks types.Int) (chosen_follows marks types.Int settled);
  place = refl;
  wanted_is = λ c m. type_of_wanted (solves.follows c m) s;
  found_is = λ c m. type_of_found (solves.follows c m) s;
  differ = ne;
}

-- what the marks say of a term stands for itself
pub own_resolved : {marks : List Term} → IsSettled marks → (t : Term) (a : ℕ) → resolved marks t ≡ terms.Parameter a → mark_of marks a ≡ terms.Parameter a
own_resolved settled (terms.Known ty) a e = absurd (cc)
own_resolved settled (terms.Parameter k) a e = settled.own k a e

pub inside_resolved : {marks : List Term} → IsSettled marks → (t : Term) (a : ℕ) → FitsTerm (length marks) t → resolved marks t ≡ terms.Parameter a → a < length marks
inside_resolved settled (terms.Known ty) a fits e = absurd (cc)
inside_resolved settled (terms.Parameter k) a fits e = settled.within k a fits e

pub apart_known : {marks : List Term} → IsSettled marks → (t : Term) (a : ℕ) (ty : Ty) → FitsTerm (length marks) t → resolved marks t ≡ terms.Parameter a → IsApart a (terms.Known ty) marks
apart_known settled t a ty fits e = record {
  own = own_resolved settled t a e;
  inside = inside_resolved settled t a fits e;
  by_own = refl;
  by_inside = tt;
  other = λ d. cc;
}

pub apart_both : {marks : List Term} → IsSettled marks → (t u : Term) (a b : ℕ) → FitsTerm (length marks) t → FitsTerm (length marks) u → resolved marks t ≡ terms.Parameter a → resolved marks u ≡ terms.Parameter b → a ≢ b → AreApart a b marks
apart_both settled t u a b fits fits_too e f ne = record {
  own = own_resolved settled t a e;
  inside = inside_resolved settled t a fits e;
  other_own = own_resolved settled u b f;
  other_inside = inside_resolved settled u b fits_too f;
  differ = ne;
}

pub apart_left : {marks : List Term} (a b : ℕ) → AreApart a b marks → IsApart a (terms.Parameter b) marks
apart_left a b h = record {
  own = h.own;
  inside = h.inside;
  by_own = h.other_own;
  by_inside = h.other_inside;
  other = λ d. let e : b ≡ a = cc in h.differ (sym e);
}

-- a rule that contradicts those before it is the first that does
pub mismatch : {rules : List Rule} {at : ℕ} {wanted found : Ty} (earlier : List Rule) (rule : Rule) (later : List Rule) → rules ≡ earlier ++ rule ∷ later
    → Contradicts earlier rule at wanted found → IsMismatch rules at wanted found
mismatch earlier rule later whole h = record {
  earlier = earlier;
  rule = rule;
  later = later;
  whole = whole;
  contradicts = h;
}

-- what the steps of `meet` come to
abbrev pub MeetsMore : List Term → List Term → Rule → Result (Unit {0}) Unsolved → Type 0
MeetsMore old new rule result = (rules : List Rule) → Solves rules old → MatchResult result (λ _. Solves (rules ++ rule ∷ []) new) (Refuses rules rule)

pub known_meets : (marks : List Term) (rule : Rule) (t u : Ty) (result : Result (Unit {0}) Unsolved) → IsSettled marks → Sides marks rule (terms.Known t) (terms.Known u)
    → IfOk result (λ _. t ≡ u) → IfErr result (λ e. (t ≢ u) × (e ≡ unsolved.Mismatch rule.at t u)) → MeetsMore marks marks rule result
known_meets marks rule t u (Ok x) settled s same other rules solves = solves_equal s (ap (λ (ty : Ty). terms.Known ty) same) solves
known_meets marks rule t u (Err e) settled s same other rules solves =
    subst (λ (f : Unsolved). Refuses rules rule f) (sym other.1) (contradicts s settled other.0 solves)

memory_refuses : (rules : List Rule) (rule : Rule) (e : Unsolved) → e ≡ unsolved.Memory → Refuses rules rule e
memory_refuses rules rule e h = subst (λ (f : Unsolved). Refuses rules rule f) (sym h) tt

pub wanted_meets : (old new : List Term) (rule : Rule) (a : ℕ) (by : Term) (result : Result (Unit {0}) Unsolved) → Sides old rule (terms.Parameter a) by → IsApart a by old
    → IfOk result (λ _. IsReplaced a by old new) → IfErr result (λ e. e ≡ unsolved.Memory) → MeetsMore old new rule result
wanted_meets old new rule a by (Ok x) s apart replaced memory rules solves = solves_wanted s apart.own replaced solves
wanted_meets old new rule a by (Err e) s apart replaced memory rules solves = memory_refuses rules rule e memory

pub found_meets : (old new : List Term) (rule : Rule) (a : ℕ) (by : Term) (result : Result (Unit {0}) Unsolved) → Sides old rule by (terms.Parameter a) → IsApart a by old
    → IfOk result (λ _. IsReplaced a by old new) → IfErr result (λ e. e ≡ unsolved.Memory) → MeetsMore old new rule result
found_meets old new rule a by (Ok x) s apart replaced memory rules solves = solves_found s apart.own replaced solves
found_meets old new rule a by (Err e) s apart replaced memory rules solves = memory_refuses rules rule e memory

solves_joined : {rules : List Rule} {old new : List Term} {rule : Rule} {a b : ℕ} → Sides old rule (terms.Parameter a) (terms.Parameter b) → AreApart a b old → AreJoined a b old new → Solves rules old → Solves (rules ++ rule ∷ []) new
solves_joined s apart (inl h) solves = solves_wanted s apart.own h solves
solves_joined s apart (inr h) solves = solves_found s apart.other_own h solves

pub both_meet : (old new : List Term) (rule : Rule) (a b : ℕ) (result : Result (Unit {0}) Unsolved) → Sides old rule (terms.Parameter a) (terms.Parameter b) → AreApart a b old
    → IfOk result (λ _. AreJoined a b old new) → IfErr result (λ e. e ≡ unsolved.Memory) → MeetsMore old new rule result
both_meet old new rule a b (Ok x) s apart joined memory rules solves = solves_joined s apart joined solves
both_meet old new rule a b (Err e) s apart joined memory rules solves = memory_refuses rules rule e memory

pub same_meets : (marks : List Term) (rule : Rule) (a b : ℕ) → Sides marks rule (terms.Parameter a) (terms.Parameter b) → a ≡ b → (rules : List Rule) → Solves rules marks → Solves (rules ++ rule ∷ []) marks
same_meets marks rule a b s e rules solves = solves_equal s (ap (λ n. terms.Parameter n) e) solves
