-- The names of a body: its inputs, outputs and registers, and the left names of its statements.
use Rattle.std.specs.Prelude.{ℕ, Bool, false, List, map, Option, Some, None, nat_lt, slice_get}
use Rattle.std.specs.Option.{option_and_then, option_map}
use Rattle.prl_ast.specs.declared.declarations.Port.{Port}
use Rattle.prl_names.specs.Lookups.{index_of}
use Rattle.prl_body.specs.declared.texts.RegisterText.{RegisterText}
use Rattle.prl_body.specs.declared.texts.Statement.{Statement}

pub record ScopeView : Type 0 where
  pub ins : List Port
  pub outs : List Port
  pub registers : List RegisterText

abbrev pub port_names : List Port → List (List ℕ)
port_names ports = map (λ (p : Port). p.name) ports

abbrev pub register_names : List RegisterText → List (List ℕ)
register_names registers = map (λ (r : RegisterText). r.name) registers

abbrev pub left_names : List Statement → List (List ℕ)
left_names statements = map (λ (s : Statement). s.left) statements

-- whether an index is there and below k
abbrev pub is_before : ℕ → Option ℕ → Bool
is_before k None = false
is_before k (Some index) = nat_lt index k

-- the first element of the name, and its index
abbrev pub first_named : {A : Type 0} → (A → List ℕ) → List ℕ → List A → Option (ℕ × A)
first_named name n xs = option_and_then (λ k. option_map (λ x. (k, x)) (slice_get xs k)) (index_of (map name xs) n)
