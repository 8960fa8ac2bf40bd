-- Tables by name: where the flow of each name stands, which clock each sensor has, and which names a list has.
use Rattle.std.specs.Prelude.{◌≡◌, ℕ, List, Vec, Option, Some, None, length, nat_lt, is_some, if◌then◌else◌, bytes_eq}
use Rattle.std.specs.Global.{Global}
use Rattle.std.specs.BTreeMap.{BTreeMap, get_by}
use Rattle.std.specs.Cmp.Lexicographic.{slice_cmp}
use Rattle.std.specs.Ordering.{nat_cmp}
use denote.Ref.{Bor}
use Rattle.prl_base.specs.declared.operators.Clock.{Clock}
use Rattle.prl_steps.specs.Flows.{FlowView}
use Rattle.prl_plot.specs.Asked.{is_named}
use Rattle.prl_plot.specs.Rows.{clock_of, place_of}
use Rattle.prl_plot.specs.declared.forms.Input.{Input}

-- what a table has at a name
abbrev pub at_name : {X : Type 0} → BTreeMap (Vec ℕ Global) X → List ℕ → Option X
at_name table name = get_by (λ k. slice_cmp nat_cmp name k.items) table

abbrev pub at_bytes : {X : Type 0} → BTreeMap (Bor (List ℕ)) X → List ℕ → Option X
at_bytes table name = get_by (λ k. slice_cmp nat_cmp name k.now) table

-- where the flow of a name stands, where it has a row
abbrev pub place_found : List FlowView → List ℕ → Option ℕ
place_found flows name = if nat_lt (place_of flows name) (length flows) then Some (place_of flows name) else None

abbrev pub ArePlaces : BTreeMap (Vec ℕ Global) ℕ → List FlowView → Type 0
ArePlaces table flows = (name : List ℕ) → at_name table name ≡ place_found flows name

-- the table has the place at the name, and what it had at others
abbrev pub IsNoted : BTreeMap (Vec ℕ Global) ℕ → List ℕ → ℕ → BTreeMap (Vec ℕ Global) ℕ → Type 0
IsNoted old name place new = (other : List ℕ) → at_name new other ≡ (if bytes_eq name other then Some place else at_name old other)

-- the table has the clock of the first sensor of each name
abbrev pub AreClocksOf : BTreeMap (Bor (List ℕ)) Clock → List Input → Type 0
AreClocksOf table inputs = (name : List ℕ) → at_bytes table name ≡ clock_of inputs name

-- the table has the names of a list with commas
abbrev pub AreNames : List ℕ → BTreeMap (Bor (List ℕ)) (Unit {0}) → Type 0
AreNames names table = (name : List ℕ) → is_some (at_bytes table name) ≡ is_named names name
