-- Rows of marks, one mark for each node.
use Rattle.std.specs.Prelude.{◌≡◌, ◌<◌, ◌||◌, ℕ, ◌+◌, Bool, false, List, [], ◌∷◌, length, map, slice_index_or, if◌then◌else◌}
use Rattle.prl_ast.specs.Trees.{ProgramTree}
use Rattle.prl_names.specs.Applications.{reaches_by}

abbrev pub mark_of : List Bool → ℕ → Bool
mark_of row j = slice_index_or row j false

-- the row has the marks of the old one, and those of the test
pub record Adds (test : ℕ → Bool) (old new : List Bool) : Type 0 where
  pub same : length new ≡ length old
  pub each : (j : ℕ) → j < length old → mark_of new j ≡ (mark_of old j || test j)

-- which nodes the node `by` reaches with none but the first `k` between
pub record IsRow (p : ProgramTree) (k by : ℕ) (row : List Bool) : Type 0 where
  pub all : length row ≡ length p.nodes
  pub each : (j : ℕ) → j < length p.nodes → mark_of row j ≡ reaches_by p k by j

-- the rows of the nodes, counted from `by`
abbrev pub AreRows : ProgramTree → ℕ → ℕ → List (List Bool) → Type 0
AreRows p k by [] = Unit {0}
AreRows p k by (row ∷ rows) = IsRow p k by row × AreRows p k (by + 1) rows

-- the marks of both rows
abbrev pub or_marks : List Bool → List Bool → List Bool
or_marks [] others = []
or_marks (a ∷ row) [] = a ∷ row
or_marks (a ∷ row) (b ∷ others) = (a || b) ∷ or_marks row others

-- a row that has the mark k gets those of another
abbrev pub led_through : ℕ → List Bool → List Bool → List Bool
led_through k others row = if mark_of row k then or_marks row others else row

abbrev pub row_of : List (List Bool) → ℕ → List Bool
row_of rows k = slice_index_or rows k []

-- each row that has the mark k gets those of the row k
abbrev pub all_led_through : ℕ → List (List Bool) → List (List Bool)
all_led_through k rows = map (led_through k (row_of rows k)) rows
