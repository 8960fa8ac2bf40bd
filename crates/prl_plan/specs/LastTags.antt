-- The tag that a task leaves in a slot.
use Rattle.std.specs.Prelude.{◌≡◌, ◌+◌, ◌==◌, if◌then◌else◌, ℕ, zero, suc, List, [], ◌∷◌, take, slice_index}
use Rattle.prl_plan.specs.declared.events.Action.{Action}
use Rattle.prl_plan.specs.declared.events.Action.TheVariants as actions
use Rattle.prl_plan.specs.Runs.{RunConstants, ExecState}
use Rattle.prl_plan.specs.Facts.{WritesAt}

-- the tag in a slot after an action
abbrev pub tag_after : ℕ → ℕ → Action → ℕ
tag_after slot tag (actions.ReadConst port value) = tag
tag_after slot tag (actions.Read port edge m other) = tag
tag_after slot tag (actions.Write edge m other) = if other.0 == slot then m + 1 else tag
tag_after slot tag actions.End = tag

abbrev pub last_in : ℕ → ℕ → List Action → ℕ
last_in slot tag [] = tag
last_in slot tag (action ∷ list) = last_in slot (tag_after slot tag action) list

-- the tag that the first n jobs of task i leave
abbrev pub tag_of_jobs : RunConstants → ℕ → ℕ → ℕ → ℕ
tag_of_jobs c i slot zero = 0
tag_of_jobs c i slot (suc n) = last_in slot (tag_of_jobs c i slot n) (c.actions i n)

-- the tag that task i leaves in the slot, once it ended n jobs and stands at this place of the next
abbrev pub last_tag : RunConstants → ℕ → ℕ → ℕ → ℕ → ℕ
last_tag c i slot n place = last_in slot (tag_of_jobs c i slot n) (take place (c.actions i n))

-- no other task writes to the slot
abbrev pub IsWriter : RunConstants → ℕ → ℕ → Type 0
IsWriter c i slot = (j n place m : ℕ) → WritesAt c j n place m slot → j ≡ i

-- each slot holds what its writer left
pub record IsLeft (c : RunConstants) (s : ExecState) : Type 0 where
  pub left : (i slot : ℕ) → IsWriter c i slot → slice_index s.tags slot ≡ last_tag c i slot (slice_index s.ended i) (slice_index s.places i)
