-- Grammars made of others, as the grammars of languages are written down.
use Rattle.std.specs.Prelude.{ℕ, List, ◌∷◌, Option, Some, None}
use Rattle.prl_base.specs.declared.places.Span.{Span}
use Rattle.prl_lex.specs.Productions.{Grammar, token, give, action, both, either, many}

infixl 14 ◌⊳◌ ◌⊲◌
infixr 13 ◌&◌
infixl 12 ◌=>◌ ◌means◌
infixr 11 ◌or◌
-- what is made of a text's tree
abbrev pub ◌=>◌ : {R A B : Type 0} → Grammar R A → (A → B) → Grammar R B
g => f = action g f

-- a text that stands for a tree
abbrev pub ◌means◌ : {R A B : Type 0} → Grammar R A → B → Grammar R B
g means x = action g (λ a. x)

-- one of two
abbrev pub ◌or◌ : {R A : Type 0} → Grammar R A → Grammar R A → Grammar R A
g or h = either g h

-- one text after another, with both trees
abbrev pub ◌&◌ : {R A B : Type 0} → Grammar R A → Grammar R B → Grammar R (A × B)
g & h = both g h

-- with the second's tree
abbrev pub ◌⊳◌ : {R A B : Type 0} → Grammar R A → Grammar R B → Grammar R B
g ⊳ h = action (both g h) (λ x. x.1)

-- with the first's tree
abbrev pub ◌⊲◌ : {R A B : Type 0} → Grammar R A → Grammar R B → Grammar R A
g ⊲ h = action (both g h) (λ x. x.0)

-- a text that may be left out
abbrev pub maybe : {R A : Type 0} → Grammar R A → Grammar R (Option A)
maybe g = g => Some or give None

-- one or more, with a text between
abbrev pub list_of : {R A S : Type 0} → Grammar R S → Grammar R A → Grammar R (List A)
list_of s g = g & many (s ⊳ g) => λ x. x.0 ∷ x.1

-- the place of a token of the class
abbrev pub place : {R : Type 0} → ℕ → Grammar R Span
place class = token class => λ t. t.at

-- a name and its place
abbrev pub named : {R : Type 0} → Grammar R (List ℕ × Span)
named = token 0 => λ t. (t.name, t.at)

-- what a number is
abbrev pub number : {R : Type 0} → Grammar R ℕ
number = token 1 => λ t. t.number
