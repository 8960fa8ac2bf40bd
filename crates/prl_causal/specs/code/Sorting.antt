-- An order under way: which flows are placed, and which are looked at.
use Rattle.std.specs.Prelude.{◌≡◌, ◌<◌, ◌+◌, ◌-◌, ◌*◌, ◌⊎◌, ℕ, Bool, List, length, Some, slice_get}
use Rattle.prl_base.specs.declared.numbers.FlowNo.{FlowNo}
use Rattle.prl_flow.specs.Programs.{FlatProgram}
use Rattle.prl_causal.specs.declared.sources.Source.{Source}
use Rattle.prl_causal.specs.code.Parts.{AreSeen, IsMarked, IsPart, marked_count}
use Rattle.prl_causal.specs.code.Sources.{UsesBy}

-- the number stands on the stack
pub record IsOn (stack : List ℕ) (i : ℕ) : Type 0 where
  pub index : ℕ
  pub found : slice_get stack index ≡ Some i

-- The flows are placed after what they use. What was looked at is placed or on the stack, and there each flow is used by
-- the one before it.
pub record IsSorted (p : FlatProgram) (all : List Source) (order : List FlowNo) (placed opened : List Bool) (seen stack : List ℕ) : Type 0 where
  pub part : IsPart (UsesBy p all) order placed
  pub counts : AreSeen p placed seen
  pub apps : length seen ≡ length p.apps
  pub len : length placed ≡ length all
  pub opens : length opened ≡ length all
  pub looked : (i : ℕ) → IsMarked opened i → IsMarked placed i ⊎ IsOn stack i
  pub below : (k x : ℕ) → slice_get stack k ≡ Some x → x < length all
  pub way : (k x y : ℕ) → slice_get stack k ≡ Some x → slice_get stack (k + 1) ≡ Some y → UsesBy p all x y

-- how many steps are left at most, for so many flows
abbrev pub left : ℕ → List Bool → List FlowNo → List ℕ → ℕ
left n opened order stack = (2 * (n - marked_count opened) + (n - length order)) + length stack
