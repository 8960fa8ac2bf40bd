-- Words as options: each with its value in its own word, or in the next.
use Rattle.prl_base.proofs.Standard.{◌≡◌, ◌++◌, ◌&&◌, ℕ, zero, suc, Bool, true, false, not, List, [], ◌∷◌, drop, length, take, Option, Some, None, is_some, if◌then◌else◌, refl, sym, ap, subst, ◌∙◌}
use Rattle.prl_base.proofs.Standard.{inl, inr, ◌⊎◌, ◌==◌, codes, bytes_eq-Decides, none-some, bytes_eq}
use Rattle.std.proofs.Common.{take-append-drop, eqb-true}
use Rattle.prl_base.specs.Options.{◌>>=◌}
use Rattle.prl_arguments.specs.declared.arguments.Setting.{Setting}
use Rattle.prl_arguments.specs.Arguments.{Named, Values, after_front, all_settings, first_option, is_value, name_of, named_by, named_in, or_else, own_value, value_from, with_option, with_options, with_value}

-- whether the value stands in the option's own word, the option, and its value
abbrev pub Spelled : Type 0
Spelled = Bool × Setting × List ℕ

abbrev pub dashed : Setting → List ℕ → List ℕ
dashed s rest = 45 ∷ 45 ∷ (name_of s ++ rest)

abbrev pub word_of : Setting → List ℕ → Bool → List (List ℕ) → List (List ℕ)
word_of s v true more = dashed s (61 ∷ v) ∷ more
word_of s v false more = dashed s [] ∷ v ∷ more

-- the words of options
abbrev pub words_of : List Spelled → List (List ℕ)
words_of [] = []
words_of (o ∷ os) = word_of o.1 o.2 o.0 (words_of os)

-- these options are given, none twice
abbrev pub Follows : Values → List Spelled → Values → Type 0
Follows given [] final = given ≡ final
Follows given (o ∷ os) final = (is_value o.2 ≡ true) × (given o.1 ≡ None) × Follows (with_value given o.1 o.2) os final

pub bound : {A B : Type 0} (o : Option A) (f : A → Option B) (y : B) → (o >>= f) ≡ Some y → (x : A) × (o ≡ Some x) × (f x ≡ Some y)
bound None f y e = cc
bound (Some x) f y e = (x, refl, e)

pub the : {A : Type 0} (a b : A) → Some a ≡ Some b → a ≡ b
the a b e = cc

after_is : (f text rest : List ℕ) → after_front f text ≡ Some rest → text ≡ f ++ rest
after_is f text rest e =
    elim (bytes_eq (take (length f) text) f) as (λ b. bytes_eq (take (length f) text) f ≡ b → (if b then Some (drop (length f) text) else None) ≡ Some rest → text ≡ f ++ rest) [
      | true ↦ λ same h.
          let front = (bytes_eq-Decides (take (length f) text) f).0 same in
          sym (take-append-drop (length f) text) ∙ ap (λ x. x ++ drop (length f) text) front ∙ ap (λ x. f ++ x) (the (drop (length f) text) rest h)
      | false ↦ λ same h. absurd (none-some rest h)
    ] refl e

-- a word that names an option
abbrev pub IsNamed : List ℕ → Named → Type 0
IsNamed word named = (rest : List ℕ) × (word ≡ dashed named.0 rest) × (own_value rest ≡ Some named.1)

named_by_is : (s : Setting) (word : List ℕ) (named : Named) → named_by s word ≡ Some named → IsNamed word named
named_by_is s word named e =
    let front = bound (after_front (codes "--") word) (λ d. after_front (name_of s) d >>= λ rest. own_value rest >>= λ value. Some (s, value)) named e in
    let name = bound (after_front (name_of s) front.0) (λ rest. own_value rest >>= λ value. Some (s, value)) named front.2 in
    let value = bound (own_value name.0) (λ value. Some (s, value)) named name.2 in
    let is = the (s, value.0) named value.2 in
    let word_is = after_is (codes "--") word front.0 front.1 ∙ ap (λ x. 45 ∷ 45 ∷ x) (after_is (name_of s) front.0 name.0 name.1) in
    subst (IsNamed word) {x = (s, value.0)} is (name.0, word_is, value.1)

either : (a b : Option Named) (n : Named) → or_else a b ≡ Some n → (a ≡ Some n) ⊎ (b ≡ Some n)
either None b n e = inr e
either (Some x) b n e = inl e

named_in_is : (list : List Setting) (word : List ℕ) (named : Named) → named_in list word ≡ Some named → IsNamed word named
named_in_is [] word named e = absurd (none-some named e)
named_in_is (s ∷ list) word named e = elim (either (named_by s word) (named_in list word) named e) [
  | inl h ↦ named_by_is s word named h
  | inr h ↦ named_in_is list word named h
]

own_none : (rest : List ℕ) → own_value rest ≡ Some None → rest ≡ []
own_none [] e = refl
own_none (b ∷ value) e =
    elim (b == 61) as (λ t. (if t then Some (Some value) else None) ≡ Some None → b ∷ value ≡ []) [
      | true ↦ λ h. cc
      | false ↦ λ h. cc
    ] e

own_some : (rest v : List ℕ) → own_value rest ≡ Some (Some v) → rest ≡ 61 ∷ v
own_some [] v e = cc
own_some (b ∷ value) v e =
    elim (b == 61) as (λ t. (b == 61) ≡ t → (if t then Some (Some value) else None) ≡ Some (Some v) → b ∷ value ≡ 61 ∷ v) [
      | true ↦ λ is h. let same = the value v (the (Some value) (Some v) h) in ap (λ x. x ∷ value) (eqb-true b 61 is) ∙ ap (λ x. 61 ∷ x) same
      | false ↦ λ is h. cc
    ] refl e

-- an option that stands first among words
abbrev pub IsFirst : Values → List ℕ → List (List ℕ) → Values × List (List ℕ) → Type 0
IsFirst given word later read =
    (o : Spelled) × (word ∷ later ≡ word_of o.1 o.2 o.0 read.1) × (is_value o.2 ≡ true) × (given o.1 ≡ None) × (read.0 ≡ with_value given o.1 o.2)

pub and_left : (a b : Bool) → (a && b) ≡ true → a ≡ true
and_left true b e = refl
and_left false b e = e

pub and_right : (a b : Bool) → (a && b) ≡ true → b ≡ true
and_right true b e = e
and_right false b e = cc

pub and_both : (a b : Bool) → a ≡ true → b ≡ true → (a && b) ≡ true
and_both true b e f = f
and_both false b e f = e

not_some : {A : Type 0} (o : Option A) → not (is_some o) ≡ true → o ≡ None
not_some None e = refl
not_some (Some x) e = cc

option_is : (given : Values) (s : Setting) (v : List ℕ) (more : Values) → with_option given s v ≡ Some more
    → (is_value v ≡ true) × (given s ≡ None) × (more ≡ with_value given s v)
option_is given s v more e =
    elim (is_value v && not (is_some (given s))) as (λ b. (is_value v && not (is_some (given s))) ≡ b
    → (if b then Some (with_value given s v) else None) ≡ Some more → (is_value v ≡ true) × (given s ≡ None) × (more ≡ with_value given s v)) [
      | true ↦ λ is h. (and_left (is_value v) _ is, not_some (given s) (and_right (is_value v) _ is), sym (the (with_value given s v) more h))
      | false ↦ λ is h. absurd (none-some more h)
    ] refl e

first_by : (given : Values) (s : Setting) (own : Option (List ℕ)) (word rest : List ℕ) (later : List (List ℕ)) (taken : List ℕ × List (List ℕ)) (more : Values)
    → word ≡ dashed s rest → own_value rest ≡ Some own → value_from own later ≡ Some taken → with_option given s taken.0 ≡ Some more
    → IsFirst given word later (more, taken.1)
first_by given s (Some v) word rest later taken more is own got added =
    let value = the (v, later) taken got in
    let option = option_is given s v more (ap (λ (t : List ℕ × List (List ℕ)). with_option given s t.0) value ∙ added) in
    let rest_is = own_some rest v own in
    ((true, s, v), ap (λ x. x ∷ later) (is ∙ ap (dashed s) rest_is) ∙ ap (λ (t : List ℕ × List (List ℕ)). dashed s (61 ∷ v) ∷ t.1) value, option.0, option.1, option.2)
first_by given s None word rest [] taken more is own got added = absurd (none-some taken got)
first_by given s None word rest (v ∷ later) taken more is own got added =
    let value = the (v, later) taken got in
    let option = option_is given s v more (ap (λ (t : List ℕ × List (List ℕ)). with_option given s t.0) value ∙ added) in
    let rest_is = own_none rest own in
    ((false, s, v), ap (λ x. x ∷ v ∷ later) (is ∙ ap (dashed s) rest_is) ∙ ap (λ (t : List ℕ × List (List ℕ)). dashed s [] ∷ v ∷ t.1) value, option.0, option.1, option.2)

first_is : (given : Values) (word : List ℕ) (later : List (List ℕ)) (read : Values × List (List ℕ)) → first_option given word later ≡ Some read → IsFirst given word later read
first_is given word later read e =
    let named = bound (named_in all_settings word)
    (λ (n : Named). value_from n.1 later >>= λ taken. with_option given n.0 taken.0 >>= λ more. Some (more, taken.1)) read e in
    let taken = bound (value_from named.0.1 later) (λ taken. with_option given named.0.0 taken.0 >>= λ more. Some (more, taken.1)) read named.2 in
    let more = bound (with_option given named.0.0 taken.0.0) (λ more. Some (more, taken.0.1)) read taken.2 in
    let word_is = named_in_is all_settings word named.0 named.1 in
    subst (IsFirst given word later) {x = (more.0, taken.0.1)} (the (more.0, taken.0.1) read more.2)
    (first_by given named.0.0 named.0.1 word word_is.0 later taken.0 more.0 word_is.1 word_is.2 taken.1 more.1)

-- words that are read as options are the words of these options
pub spelled : (n : ℕ) (given : Values) (words : List (List ℕ)) (final : Values) → with_options n given words ≡ Some final
    → (os : List Spelled) × (words ≡ words_of os) × Follows given os final
spelled zero given [] final e = ([], refl, the given final e)
spelled (suc n) given [] final e = ([], refl, the given final e)
spelled zero given (word ∷ later) final e = absurd (none-some final e)
spelled (suc n) given (word ∷ later) final e =
    let read = bound (first_option given word later) (λ read. with_options n read.0 read.1) final e in
    let first = first_is given word later read.0 read.1 in
    let rest = spelled n read.0.0 read.0.1 final read.2 in (
      first.0 ∷ rest.0,
      first.1 ∙ ap (word_of first.0.1 first.0.2 first.0.0) rest.1,
      (first.2, first.3, subst (λ (g : Values). Follows g rest.0 final) first.4 rest.2),
    )
